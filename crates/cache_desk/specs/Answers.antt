-- What an answer to a call says and leaves.
use Rattle.std.specs.Prelude.{◌≡◌, ℕ}
use Rattle.cache_law.specs.declared.call.Call.{Call}
use Rattle.cache_law.specs.State.{State, at_moment}
use Rattle.cache_law.specs.Law.{Step, MayAnswer, behind, refused}
use Rattle.cache_desk.specs.declared.answer.Answer.{Answer}

-- The call had this answer, twice, where the law gives this reply and state; and what is kept is what the answer
-- leaves, but for objects that aren't in time any more.
pub record Answers (old new : State) (now : ℕ) (call : Call) (law : Step) (answer : Answer) : Type 0 where
  pub twice : answer.kept ≡ answer.told
  pub allows : MayAnswer (at_moment now old) call law.reply answer.told
  pub moment : new.moment ≡ now
  pub leaves : at_moment now new ≡ at_moment now (behind answer.told (refused (at_moment now old) call) law.state)
