-- What a lookup finds, by what its shelf's scan saw and by what is open on the desk, and what it answers then.
use Rattle.std.specs.Prelude.{◌≡◌, ◌≤◌, ℕ, Bool, true, false, List, Option, Some, None}
use Rattle.cache_law.specs.declared.object.Object.{Object}
use Rattle.cache_law.specs.declared.object.Object.TheVariants.{Ordinary, HitForMiss, HitForPass}
use Rattle.cache_law.specs.declared.object.ObjectView.{ObjectView}
use Rattle.cache_law.specs.declared.call.Query.{Query}
use Rattle.cache_law.specs.declared.call.Call.{Call}
use Rattle.cache_law.specs.declared.call.Call.TheVariants.{Lookup, Insert}
use Rattle.cache_law.specs.declared.call.Entry.{Entry}
use Rattle.cache_law.specs.declared.call.Reply.{Reply}
use Rattle.cache_law.specs.declared.call.Reply.TheVariants as replies
use Rattle.cache_law.specs.Beginning.{Beginning}
use Rattle.cache_law.specs.Lookup.{raised, scanned}
use Rattle.cache_law.specs.State.{State, Held, at_moment, has_fetch, is_gone, those_in_time, with_wait}
use Rattle.cache_law.specs.Law.{Step, leaving, busy, wait_in, looked_up}
use Rattle.cache_law.specs.History.{reached}
use Rattle.cache_frame.specs.Asked.{found_in, is_untested}
use Rattle.cache_frame.specs.declared.finding.Asked.{Asked}
use Rattle.cache_frame.specs.declared.finding.Asked.TheVariants as asks
use Rattle.cache_frame.specs.declared.finding.StaleObject.TheVariants.{There, Gone, Untested}
use Rattle.cache_frame.specs.declared.finding.Finding.{Finding}
use Rattle.cache_frame.specs.declared.finding.Finding.TheVariants.{Hit, HitMiss, HitPass, Grace, GraceAlone, Wait, Miss}
use Rattle.cache_frame.specs.declared.finding.Found.{Found}
use Rattle.cache_desk.specs.Desk.{DeskState}
use Rattle.cache_desk.specs.Opening.{next_after, opened_for}
use Rattle.cache_frame.specs.Framed.{StandFor}
use Rattle.cache_frame.specs.Shelves.{LooksOver, Tells, used_for}
use Rattle.cache_frame.specs.declared.seen.Use.{Use}
use Rattle.cache_frame.specs.declared.seen.Use.TheVariants as uses

abbrev pub given_by : ObjectView → Object → Finding
given_by view (Ordinary response) = Hit view
given_by view (HitForMiss marker) = HitMiss view.number
given_by view (HitForPass marker) = HitPass view.number

abbrev pub graced_by : ObjectView → Option ℕ → Finding
graced_by view None = Grace view
graced_by view (Some open_) = GraceAlone view

-- where nothing is fresh or in grace
abbrev pub fetch_finding : Option ObjectView → Option ℕ → Finding
fetch_finding stale None = Miss stale
fetch_finding stale (Some token) = Wait token

-- where nothing is fresh
abbrev pub other_finding : Query → Option ℕ → Option ObjectView → Option ObjectView → Finding
other_finding query open_ None stale = fetch_finding stale (busy query open_)
other_finding query open_ (Some view) stale = graced_by view open_

abbrev pub finding_by : Query → Option ℕ → Option ObjectView → Option ObjectView → Option ObjectView → Finding
finding_by query open_ None grace stale = other_finding query open_ grace stale
finding_by query open_ (Some view) grace stale = given_by view view.object

-- it opens a fetch
abbrev pub opens_fetch : Finding → Bool
opens_fetch (Hit view) = false
opens_fetch (HitMiss number) = true
opens_fetch (HitPass number) = false
opens_fetch (Grace view) = true
opens_fetch (GraceAlone view) = false
opens_fetch (Wait token) = false
opens_fetch (Miss stale) = true

abbrev pub opens_more : {M : Type 0} → Option (Found M) → Bool
opens_more None = false
opens_more (Some found) = opens_fetch found.finding

-- what is used
abbrev pub use_in : Finding → Use
use_in (Hit view) = uses.Hit view.number
use_in (HitMiss number) = uses.Marker number
use_in (HitPass number) = uses.Marker number
use_in (Grace view) = uses.Hit view.number
use_in (GraceAlone view) = uses.Hit view.number
use_in (Wait token) = uses.Nothing
use_in (Miss stale) = uses.Nothing

-- the reply, where the next number is this
abbrev pub reply_of : ℕ → Finding → Reply
reply_of token (Hit view) = replies.Hit (raised view)
reply_of token (HitMiss number) = replies.HitMiss token
reply_of token (HitPass number) = replies.HitPass
reply_of token (Grace view) = replies.Grace (raised view) (Some token)
reply_of token (GraceAlone view) = replies.Grace (raised view) None
reply_of token (Wait other) = replies.Wait other
reply_of token (Miss stale) = replies.Miss token stale

-- what a lookup that found so answers in an open round, together with the state behind that
abbrev pub found_so : State → ℕ → List (List ℕ) → Finding → Step
found_so state caller key finding =
    record {
      reply = reply_of state.next finding;
      state = record state {
        next = next_after (opens_fetch finding) state.next;
        objects = used_for state.entries (use_in finding) state.objects;
        fetches = opened_for (opens_fetch finding) state.next caller key state.fetches;
        rounds = with_wait caller (wait_in (reply_of state.next finding)) state.rounds;
      };
    }

-- The objects behind the scan of a lookup that looked for one; without marks it didn't.
abbrev pub scanned_by : {M : Type 0} → ℕ → Query → Option M → List Held → List Held
scanned_by now query None objects = those_in_time now objects
scanned_by now query (Some marks) objects = (scanned now query (those_in_time now objects)).objects

-- what it answers in any case: without an open round nothing is looked for
abbrev pub told_so : {M : Type 0} → State → ℕ → ℕ → Query → Option (Found M) → Step
told_so old now caller query None = leaving (at_moment now old) replies.NoRound
told_so old now caller query (Some found) =
    found_so (record old { moment = now; objects = scanned_by now query found.marks old.objects }) caller query.key found.finding

-- the marks are the shelf's own of this lookup; without them it has asked for no object
abbrev pub AreMarks : {S M : Type 0} → (S → ℕ → Query → M → Type 0) → S → ℕ → Query → Option M → Type 0
AreMarks IsMarked shelf now query None = query.options.always_miss ≡ true
AreMarks IsMarked shelf now query (Some marks) = IsMarked shelf now query marks

abbrev pub AreMarksFound : {S M : Type 0} → (S → ℕ → Query → M → Type 0) → S → ℕ → Query → Option (Found M) → Type 0
AreMarksFound IsMarked shelf now query None = Unit {0}
AreMarksFound IsMarked shelf now query (Some found) = AreMarks IsMarked shelf now query found.marks

-- What a lookup finds: the law answers so, whatever the desk and the shelf stand for.
pub record Finds {S M : Type 0} (Stands : S → Beginning → List Entry → Type 0) (IsMarked : S → ℕ → Query → M → Type 0) (desk : DeskState) (shelf : S) (now caller : ℕ) (query : Query) (found : Option (Found M)) : Type 0 where
  pub marks : AreMarksFound IsMarked shelf now query found
  pub answers : (beginning : Beginning) (entries : List Entry) → StandFor Stands desk shelf beginning entries → (reached beginning entries).moment ≤ now
      → looked_up (at_moment now (reached beginning entries)) caller query ≡ told_so (reached beginning entries) now caller query found

-- What an insertion finds of its stale object, where its fetch is open: that it is there, or that it is gone, whatever the shelf
-- stands for; or that it couldn't be tested.
abbrev pub FindsStale : {S M : Type 0} → (S → Beginning → List Entry → Type 0) → DeskState → S → ℕ → ℕ → ℕ → Option ℕ → Asked M → Type 0
FindsStale Stands desk shelf now caller token stale (asks.Insert There) =
    (has_fetch desk.fetches caller token ≡ true) × Tells Stands shelf now (λ state. is_gone stale state.objects ≡ false)
FindsStale Stands desk shelf now caller token stale (asks.Insert Gone) =
    (has_fetch desk.fetches caller token ≡ true) × Tells Stands shelf now (λ state. is_gone stale state.objects ≡ true)
FindsStale Stands desk shelf now caller token stale (asks.Insert Untested) = has_fetch desk.fetches caller token ≡ true
FindsStale Stands desk shelf now caller token stale asks.Nothing = has_fetch desk.fetches caller token ≡ false
FindsStale Stands desk shelf now caller token stale (asks.Lookup found) = ⊥

-- what the call finds at the moment
abbrev pub FindsFor : {S M : Type 0} → (S → Beginning → List Entry → Type 0) → (S → ℕ → Query → M → Type 0) → DeskState → S → ℕ → ℕ → Call → Asked M → Type 0
FindsFor Stands IsMarked desk shelf now caller (Lookup query) asked = (is_untested asked ≡ false) × Finds Stands IsMarked desk shelf now caller query (found_in asked)
FindsFor Stands IsMarked desk shelf now caller (Insert token object stale) asked = FindsStale Stands desk shelf now caller token stale asked
FindsFor Stands IsMarked desk shelf now caller call asked = is_untested asked ≡ false

-- What a lookup with these marks leaves of the shelf: without marks it is as it was.
abbrev pub Takes : {S M : Type 0} → (S → Beginning → List Entry → Type 0) → S → S → ℕ → ℕ → Query → Option M → Use → Type 0
Takes Stands old new used now query None use_ = new ≡ old
Takes Stands old new used now query (Some marks) use_ = LooksOver Stands old new used now query use_

-- the insertion of an open fetch
abbrev pub is_insertion : DeskState → ℕ → Call → Bool
is_insertion desk caller (Insert token object stale) = has_fetch desk.fetches caller token
is_insertion desk caller call = false
