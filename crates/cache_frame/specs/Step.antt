-- What one call does to what is kept.
use Rattle.std.specs.Prelude.{◌≡◌, ◌≤◌, ◌+◌, ℕ, true, List, [], ◌∷◌, ◌++◌}
use Rattle.cache_law.specs.declared.call.Call.{Call}
use Rattle.cache_law.specs.declared.call.Entry.{Entry}
use Rattle.cache_law.specs.declared.call.Reply.TheVariants.{Refused}
use Rattle.cache_law.specs.Beginning.{Beginning}
use Rattle.cache_law.specs.History.{next_state, reached}
use Rattle.cache_law.specs.State.{at_moment}
use Rattle.cache_law.specs.Law.{MayAnswer, refused, step_of}
use Rattle.cache_desk.specs.declared.answer.Answer.{Answer}
use Rattle.cache_desk.specs.Desk.{DeskState, bare}
use Rattle.cache_frame.specs.Framed.{StandFor}
use Rattle.cache_frame.specs.Found.{is_insertion}
use Rattle.cache_frame.specs.Shelves.{entry_of}
use Rattle.cache_desk.specs.Stock.{without_stock}

-- The call had this answer, twice, which the law may give behind the entries, so many in a run; and the desk, once its entry is
-- counted, and the shelf stand for what it leaves.
pub record Joined {S : Type 0} (Stands : S → Beginning → List Entry → Type 0) (count : ℕ) (desk_ : DeskState) (shelf_ : S) (beginning : Beginning) (entries : List Entry) (caller now : ℕ) (call : Call) (answer : Answer) : Type 0 where
  pub twice : answer.kept ≡ answer.told
  pub allows : MayAnswer (at_moment now (reached beginning entries)) call (step_of beginning.params (reached beginning entries) caller now call).reply answer.told
  pub desk : bare (record desk_ { entries = count + 1 }) ≡ without_stock (next_state beginning.params (reached beginning entries) (entry_of caller now call answer.told))
  pub shelf : Stands shelf_ beginning (entries ++ entry_of caller now call answer.told ∷ [])

-- the same, whatever the desk and the shelf stand for
abbrev pub Answered : {S : Type 0} → (S → Beginning → List Entry → Type 0) → ℕ → DeskState → S → DeskState → S → ℕ → ℕ → Call → Answer → Type 0
Answered Stands room old shelf new shelf_ caller now call answer =
    (beginning : Beginning) (entries : List Entry) → beginning.params.room ≡ room → StandFor Stands old shelf beginning entries → (reached beginning entries).moment ≤ now
    → Joined Stands old.entries new shelf_ beginning entries caller now call answer

-- the insertion of an open fetch was refused, which closed the fetch and did nothing else
pub record IsRefusal (old new : DeskState) (now caller : ℕ) (call : Call) (answer : Answer) : Type 0 where
  pub told : answer.told ≡ Refused
  pub kept : answer.kept ≡ Refused
  pub opened : is_insertion old caller call ≡ true
  pub new_ : new ≡ record old { moment = now; fetches = (refused (bare old) call).fetches }
