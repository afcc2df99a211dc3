-- A refused insertion leaves room for what closes the rest: its fetch is closed.
use Rattle.std.proofs.Common.{◌+◌, ◌≤◌, ℕ, true, length, inr, ap, arith}
use Rattle.std.proofs.lemmas.Bool.{false≢true}
use Rattle.cache_law.specs.declared.call.Call.{Call}
use Rattle.cache_law.specs.declared.call.Call.TheVariants.{Insert}
use Rattle.cache_law.proofs.Reserve.{length-without_fetch}
use Rattle.cache_desk.specs.declared.answer.Answer.{Answer}
use Rattle.cache_desk.specs.Desk.{DeskState}
use Rattle.cache_frame.specs.Framed.{HasRoomBehind}
use Rattle.cache_frame.specs.Step.{IsRefusal}

closed_by : (old new : DeskState) (now caller : ℕ) (call : Call) (answer : Answer) → IsRefusal old new now caller call answer → length new.fetches + 1 ≤ length old.fetches
closed_by old new now caller (Insert token object stale) answer refuses =
    omega (arith, length-without_fetch old.fetches caller token refuses.opened, ap (λ (d : DeskState). length d.fetches) refuses.new_)
closed_by old new now caller call answer refuses = absurd (false≢true refuses.opened)

pub refusal_room : (entries capacity closings : ℕ) (old new : DeskState) (now caller : ℕ) (call : Call) (answer : Answer) → IsRefusal old new now caller call answer → HasRoomBehind entries capacity closings old new
refusal_room entries capacity closings old new now caller call answer refuses =
    inr (ap (λ (d : DeskState). d.rounds) refuses.new_, closed_by old new now caller call answer refuses)
