-- What a fault says of the texts that begin as this one does.
use Rattle.std.specs.Prelude.{ℕ, ◌≡◌, ◌≢◌, ◌≤◌, ◌+◌, List, [], ◌∷◌, ◌++◌, length, true}
use Rattle.std.specs.List.{AllByRecursion}
use Rattle.units.specs.Signs.{line_feed}
use Rattle.session_text.specs.declared.session.Session.{Session}
use Rattle.session_text.specs.Lines.{TextLine, lines_of}
use Rattle.session_text.specs.Sessions.{IsSession, session_limit}

-- some session begins with this text
abbrev pub GoesOn : List ℕ → Type 0
GoesOn text = (more : List ℕ) × (session : Session) × IsSession (text ++ more) session

-- each line of the text has its LF
abbrev pub HasWholeLines : List ℕ → Type 0
HasWholeLines text = AllByRecursion (λ (line : TextLine). line.ended ≡ true) (lines_of text)

-- The text goes on up to this line, and no further: some session begins with what stands before the line, where
-- there is room for its `end`; and none begins with that and the line, where the line has its LF.
pub record StopsAt (text : List ℕ) (line : ℕ) : Type 0 where
  pub before : List ℕ
  pub rest : List ℕ
  pub joined : text ≡ before ++ rest
  pub whole : HasWholeLines before
  pub count : line ≡ length (lines_of before) + 1
  pub goes_on : length before + 3 ≤ session_limit → GoesOn before
  pub stops : (body more : List ℕ) → AllByRecursion (λ byte. byte ≢ line_feed) body → rest ≡ body ++ line_feed ∷ more → GoesOn (before ++ (body ++ line_feed ∷ [])) → ⊥
