-- Lists of steps that may be taken, by their texts.
use Rattle.std.proofs.Common.{◌≡◌, ◌≢◌, ◌⊎◌, inl, inr, ℕ, List, [], ◌∷◌, ◌++◌, sym, ap, ◌∙◌, subst, refl, append_assoc}
use Rattle.cache_law.specs.declared.call.Entry.{Entry}
use Rattle.cache_law.specs.declared.setting.Params.{Params}
use Rattle.cache_law.specs.Bases.{IsSound}
use Rattle.cache_law.specs.History.{Follows}
use Rattle.cache_law.specs.State.{State}
use Rattle.cache_law.proofs.Sound.{sound_boot, sound_next}
use Rattle.journal_text.specs.declared.line.Line.{Line}
use Rattle.journal_text.specs.declared.line.Line.TheVariants as line
use Rattle.journal_text.specs.declared.line.Said.{Said}
use Rattle.journal_text.specs.Grammar.{line_words, said_of}
use Rattle.journal_text.specs.Journals.{IsLine, entries_before, lines_text, text_of}
use Rattle.journal_reader.proofs.Unique.{line_same}
use Rattle.journal_reader.specs.Histories.{AreLines, IsOwnLine}
use Rattle.journal_reader.proofs.Feeds.{ended-first, feeds_same, no_feed_in}
use Rattle.journal_laws.proofs.Legal.{history_same}
use Rattle.audit_laws.specs.Steps.{Step, Starts, Enters, Cuts, Closes, Place, Before, Within, Closed, MayStep, MaySteps, AreWritable, line_for, lines_for, place_after, text_for}

-- the state that a place has is sound
abbrev pub IsSoundPlace : Place → Type 0
IsSoundPlace (Within params state used) = IsSound state
IsSoundPlace place = Unit {0}

pub sound_after : (place : Place) (step : Step) → IsSoundPlace place → MayStep place step → IsSoundPlace (place_after place step)
sound_after Before (Starts first) s m = sound_boot first.boot
sound_after Before (Enters entry) s m = absurd m
sound_after Before Cuts s m = absurd m
sound_after Before Closes s m = absurd m
sound_after (Within params state used) (Starts first) s m = absurd m
sound_after (Within params state used) (Enters entry) s m = sound_next params state entry s
sound_after (Within params state used) Cuts s m = s
sound_after (Within params state used) Closes s m = tt
sound_after Closed step s m = absurd m

entry_same : (params : Params) (state : State) (a b : Entry) → IsSound state → Follows params state a → Follows params state b → IsOwnLine (line.Entry (said_of a)) → said_of a ≡ said_of b → a ≡ b
entry_same params state a b sound f g own e =
    let lines : entries_before [] (a ∷ []) ≡ entries_before [] (b ∷ []) = ap (λ (said : Said). line.Entry said ∷ []) e in
    let both : a ∷ [] ≡ b ∷ [] = history_same params state (a ∷ []) (b ∷ []) sound (f, tt) (g, tt) (own, tt) (subst AreLines lines (own, tt)) (ap lines_text lines) in
    cc

-- steps that may come next and are written alike are the same
pub step_same : (place : Place) (a b : Step) → IsSoundPlace place → MayStep place a → MayStep place b → IsOwnLine (line_for a) → line_for a ≡ line_for b → a ≡ b
step_same Before (Starts first) (Starts other) s p q own e = cc
step_same Before (Starts first) (Enters y) s p q own e = absurd q
step_same Before (Starts first) Cuts s p q own e = absurd q
step_same Before (Starts first) Closes s p q own e = absurd q
step_same Before (Enters x) b s p q own e = absurd p
step_same Before Cuts b s p q own e = absurd p
step_same Before Closes b s p q own e = absurd p
step_same (Within params state used) (Starts first) b s p q own e = absurd p
step_same (Within params state used) (Enters x) (Starts first) s p q own e = absurd q
step_same (Within params state used) (Enters x) (Enters y) s p q own e =
    let said : said_of x ≡ said_of y = cc in
    ap Enters (entry_same params state x y s p.0 q.0 own said)
step_same (Within params state used) (Enters x) Cuts s p q own e = cc
step_same (Within params state used) (Enters x) Closes s p q own e = cc
step_same (Within params state used) Cuts (Starts first) s p q own e = absurd q
step_same (Within params state used) Cuts (Enters y) s p q own e = cc
step_same (Within params state used) Cuts Cuts s p q own e = refl
step_same (Within params state used) Cuts Closes s p q own e = cc
step_same (Within params state used) Closes (Starts first) s p q own e = absurd q
step_same (Within params state used) Closes (Enters y) s p q own e = cc
step_same (Within params state used) Closes Cuts s p q own e = cc
step_same (Within params state used) Closes Closes s p q own e = refl
step_same Closed a b s p q own e = absurd p

some_bytes : (front rest : List ℕ) → [] ≡ front ++ 10 ∷ rest → ⊥
some_bytes [] rest e = cc
some_bytes (byte ∷ front) rest e = cc

-- the text of one step more
pub text_more : (step : Step) (steps : List Step) (rest : List ℕ) → text_for (step ∷ steps) ++ rest ≡ text_of (line_for step) ++ 10 ∷ (text_for steps ++ rest)
text_more step steps rest =
    ap (λ (text : List ℕ). text ++ rest) (ended-first (line_for step) (lines_for steps)) ∙ append_assoc (text_of (line_for step)) (10 ∷ text_for steps) rest

-- no step has an empty text
pub text_none : (step : Step) (steps : List Step) (rest : List ℕ) → [] ≡ text_for (step ∷ steps) ++ rest → ⊥
text_none step steps rest e = some_bytes (text_of (line_for step)) (text_for steps ++ rest) (e ∙ text_more step steps rest)

-- two lines that stand first
pub first_same : (a b : Line) (x y : List ℕ) → IsOwnLine a → IsOwnLine b → text_of a ++ 10 ∷ x ≡ text_of b ++ 10 ∷ y → (a ≡ b) × (x ≡ y)
first_same a b x y h k e =
    let r = feeds_same (text_of a) (text_of b) x y (no_feed_in a h.words) (no_feed_in b k.words) e in
    (line_same (text_of b) a b (subst (λ (text : List ℕ). IsLine text a) r.0 h) k, r.1)

-- one of two lists of steps goes on where the other one ends
abbrev pub GoOn : List Step → List Step → List ℕ → List ℕ → Type 0
GoOn a b x y = (rest : List Step) × (b ≡ a ++ rest) × (x ≡ text_for rest ++ y)

-- steps with one text, with what is left behind them
pub steps_agree : (place : Place) (a b : List Step) (x y : List ℕ) → IsSoundPlace place → MaySteps place a → MaySteps place b → AreWritable a → AreWritable b → text_for a ++ x ≡ text_for b ++ y → GoOn a b x y ⊎ GoOn b a y x
steps_agree place [] b x y s p q v w e = inl (b, refl, e)
steps_agree place (first ∷ a) [] x y s p q v w e = inr (first ∷ a, refl, sym e)
steps_agree place (first ∷ a) (other ∷ b) x y s p q v w e =
    let whole = sym (text_more first a x) ∙ (e ∙ text_more other b y) in
    let r = first_same (line_for first) (line_for other) (text_for a ++ x) (text_for b ++ y) v.0 w.0 whole in
    let one : first ≡ other = step_same place first other s p.0 q.0 v.0 r.0 in
    let on : MaySteps (place_after place other) a = subst (λ (step : Step). MaySteps (place_after place step) a) one p.1 in
    let more = steps_agree (place_after place other) a b x y (sound_after place other s q.0) on q.1 v.1 w.1 r.1 in
    elim more [
      | inl h ↦ let rest = h.1 in let all : other ∷ b ≡ first ∷ (a ++ h.0) = cc in inl (h.0, all, h.2)
      | inr h ↦ let rest = h.1 in let all : first ∷ a ≡ other ∷ (b ++ h.0) = cc in inr (h.0, all, h.2)
    ]

pub append_none : {X : Type 0} (xs : List X) → xs ++ [] ≡ xs
append_none [] = refl
append_none (x ∷ xs) = ap (λ rest. x ∷ rest) (append_none xs)

-- steps whose text begins with that of others
pub steps_cut : (a b : List Step) (tail : List ℕ) → MaySteps Before a → MaySteps Before b → AreWritable a → AreWritable b → text_for b ≡ text_for a ++ tail → (rest : List Step) × (b ≡ a ++ rest) × (tail ≡ text_for rest)
steps_cut a b tail p q v w e =
    elim (steps_agree Before a b tail [] tt p q v w (sym e ∙ sym (append_none (text_for b)))) [
      | inl h ↦ (h.0, h.1, h.2 ∙ append_none (text_for h.0))
      | inr h ↦ by_rest h.0 h.1 h.2
    ]
  where
    by_rest : (rest : List Step) → a ≡ b ++ rest → [] ≡ text_for rest ++ tail → (rest : List Step) × (b ≡ a ++ rest) × (tail ≡ text_for rest)
    by_rest [] e f = ([], sym (append_none b) ∙ (sym e ∙ sym (append_none a)), sym f)
    by_rest (step ∷ rest) e f = absurd (text_none step rest tail f)
