-- What is told of a head.
use Rattle.std.specs.Prelude.{◌≡◌, ℕ, ◌<◌, ◌≤◌, Bool, true, false, List, length, drop, Result, Ok, Err, Option, Some, None}
use Rattle.http_heads.specs.declared.message.HeadError.{HeadError}
use Rattle.http_heads.specs.Limits.{head_limit}
use Rattle.wire.specs.Flow.{Flow, IsOver}
use Rattle.message_reader.specs.Causes.{head_stop}
use Rattle.message_reader.specs.declared.stop.Stop.{Stop}
use Rattle.message_reader.specs.declared.stop.Stop.TheVariants.{Read, Early, BadHead, BadBody, TooLarge, NoMemory}

-- The input begins with this head, and the rest is held; it isn't a whole head and the link is at its end; or it is refused.
abbrev pub HeadTold : {H : Type 0} → (List ℕ → Result (Option (H × ℕ)) HeadError → Type 0) → Option Flow → List ℕ → Result H Stop → List ℕ → Type 0
HeadTold answers flow rest (Ok head) input =
    (count : ℕ) × answers input (Ok (Some (head, count))) × (count ≤ length input) × (rest ≡ drop count input)
HeadTold answers flow rest (Err Early) input = answers input (Ok None) × IsOver flow
HeadTold answers flow rest (Err BadHead) input = (error : HeadError) × answers input (Err error) × (head_stop error ≡ BadHead)
HeadTold answers flow rest (Err Read) input = Unit {0}
HeadTold answers flow rest (Err NoMemory) input = Unit {0}
HeadTold answers flow rest (Err BadBody) input = ⊥
HeadTold answers flow rest (Err TooLarge) input = ⊥

-- The bytes that are held begin with a head, which is taken; or they don't yet, and are fewer than a head may have; they
-- aren't a whole head, and no more come; or they are refused.
abbrev pub TryTold : {H : Type 0} → (List ℕ → Result (Option (H × ℕ)) HeadError → Type 0) → Bool → List ℕ → List ℕ → Result (Option H) Stop → Type 0
TryTold answers ended before after (Ok (Some head)) =
    (count : ℕ) × answers before (Ok (Some (head, count))) × (count ≤ length before) × (after ≡ drop count before)
TryTold answers ended before after (Ok None) = (ended ≡ false) × (length before < head_limit) × (after ≡ before)
TryTold answers ended before after (Err Early) = (ended ≡ true) × answers before (Ok None)
TryTold answers ended before after (Err BadHead) = (error : HeadError) × answers before (Err error) × (head_stop error ≡ BadHead)
TryTold answers ended before after (Err Read) = ⊥
TryTold answers ended before after (Err NoMemory) = Unit {0}
TryTold answers ended before after (Err BadBody) = ⊥
TryTold answers ended before after (Err TooLarge) = ⊥
