-- What a head's answer is as a stop.
use Rattle.std.proofs.Common.{ℕ, List, Option, Result, Err}
use Rattle.http_heads.specs.declared.message.HeadError.{HeadError}
use Rattle.wire.specs.Flow.{Flow}
use Rattle.message_reader.specs.Inputs.{Fills}
use Rattle.message_reader.specs.HeadsTold.{HeadTold}
use Rattle.message_reader.specs.declared.stop.Stop.{Stop}
use Rattle.message_reader.specs.declared.stop.Stop.TheVariants.{Read, Early, BadHead, BadBody, TooLarge, NoMemory}

-- a read that failed
pub unfilled_head : {H : Type 0} (answers : List ℕ → Result (Option (H × ℕ)) HeadError → Type 0) (after : Option Flow) (before now came rest input : List ℕ) (stop : Stop)
    → Fills after before now (Err stop) came → HeadTold answers after rest (Err stop) input
unfilled_head answers after before now came rest input Read fills = tt
unfilled_head answers after before now came rest input NoMemory fills = tt
unfilled_head answers after before now came rest input Early fills = absurd fills
unfilled_head answers after before now came rest input BadHead fills = absurd fills
unfilled_head answers after before now came rest input BadBody fills = absurd fills
unfilled_head answers after before now came rest input TooLarge fills = absurd fills
