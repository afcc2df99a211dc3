-- Steps with one more behind them, and their numbers.
use Rattle.std.proofs.Common.{◌≡◌, ℕ, ◌+◌, List, [], ◌∷◌, ◌++◌, length, ap, ◌∙◌, refl, arith, length-append}
use Rattle.cache_law.specs.declared.call.Entry.{Entry}
use Rattle.cache_law.specs.Segments.{joined}
use Rattle.journal_text.specs.Journals.{text_of}
use Rattle.journal_reader.specs.Histories.{IsOwnLine}
use Rattle.audit_laws.specs.Steps.{AreWritable, Closes, Cuts, Enters, MayStep, MaySteps, Place, Starts, Step, line_for, place_after, placed, text_for}
use Rattle.audit_laws.specs.Journals.{Journal, entries_steps, entry_count, segment_count, segments_steps, steps_in}
use Rattle.audit_laws.proofs.Agreeing.{append_none}
use Rattle.audit_laws.proofs.Fronts.{text_joined}
use Rattle.journal_audit.specs.Counts.{cut_weight, entry_weight}
use Rattle.journal_audit.specs.Feeding.{cuts_in, entries_in}

pub may_push : (place : Place) (steps : List Step) (step : Step) → MaySteps place steps → MayStep (placed place steps) step → MaySteps place (steps ++ step ∷ [])
may_push place [] step may one = (one, tt)
may_push place (first ∷ steps) step may one = (may.0, may_push (place_after place first) steps step may.1 one)

pub placed_push : (place : Place) (steps : List Step) (step : Step) → placed place (steps ++ step ∷ []) ≡ place_after (placed place steps) step
placed_push place [] step = refl
placed_push place (first ∷ steps) step = placed_push (place_after place first) steps step

pub writable_push : (steps : List Step) (step : Step) → AreWritable steps → IsOwnLine (line_for step) → AreWritable (steps ++ step ∷ [])
writable_push [] step all one = (one, tt)
writable_push (first ∷ steps) step all one = (all.0, writable_push steps step all.1 one)

pub text_push : (steps : List Step) (step : Step) → text_for (steps ++ step ∷ []) ≡ text_for steps ++ (text_of (line_for step) ++ 10 ∷ [])
text_push steps step = text_joined steps (step ∷ []) ∙ ap (λ (text : List ℕ). text_for steps ++ text) (append_none (text_of (line_for step) ++ 10 ∷ []))

-- How many entries and ends of segments there are.

entries_more : (first : Step) (steps : List Step) → entries_in (first ∷ steps) ≡ entries_in steps + entry_weight (line_for first)
entries_more (Starts first) steps = omega arith
entries_more (Enters entry) steps = refl
entries_more Cuts steps = omega arith
entries_more Closes steps = omega arith

cuts_more : (first : Step) (steps : List Step) → cuts_in (first ∷ steps) ≡ cuts_in steps + cut_weight (line_for first)
cuts_more (Starts first) steps = omega arith
cuts_more (Enters entry) steps = omega arith
cuts_more Cuts steps = refl
cuts_more Closes steps = omega arith

pub entries_push : (steps : List Step) (step : Step) → entries_in (steps ++ step ∷ []) ≡ entries_in steps + entry_weight (line_for step)
entries_push [] step = entries_more step []
entries_push (first ∷ steps) step =
    let more = entries_push steps step in
    let one = entries_more first (steps ++ step ∷ []) in
    let other = entries_more first steps in
    omega (arith, more, one, other)

pub cuts_push : (steps : List Step) (step : Step) → cuts_in (steps ++ step ∷ []) ≡ cuts_in steps + cut_weight (line_for step)
cuts_push [] step = cuts_more step []
cuts_push (first ∷ steps) step =
    let more = cuts_push steps step in
    let one = cuts_more first (steps ++ step ∷ []) in
    let other = cuts_more first steps in
    omega (arith, more, one, other)

entries_of : (more : List Step) (entries : List Entry) → entries_in (entries_steps more entries) ≡ length entries + entries_in more
entries_of more [] = omega arith
entries_of more (entry ∷ entries) = let later = entries_of more entries in omega (arith, later)

cuts_of : (more : List Step) (entries : List Entry) → cuts_in (entries_steps more entries) ≡ cuts_in more
cuts_of more [] = refl
cuts_of more (entry ∷ entries) = cuts_of more entries

entries_joined : (segment : List Entry) (segments : List (List Entry)) → entries_in (segments_steps segment segments) ≡ length (joined (segment ∷ segments))
entries_joined segment [] = let one = entries_of (Closes ∷ []) segment in let size = length-append segment [] in omega (arith, one, size)
entries_joined segment (next ∷ segments) =
    let one = entries_of (Cuts ∷ segments_steps next segments) segment in
    let more = entries_joined next segments in
    let size = length-append segment (joined (next ∷ segments)) in
    omega (arith, one, more, size)

cuts_joined : (segment : List Entry) (segments : List (List Entry)) → cuts_in (segments_steps segment segments) ≡ length segments
cuts_joined segment [] = cuts_of (Closes ∷ []) segment
cuts_joined segment (next ∷ segments) =
    let one = cuts_of (Cuts ∷ segments_steps next segments) segment in
    let more = cuts_joined next segments in
    omega (arith, one, more)

-- the numbers of a journal are those of its steps
pub entries_counted : (journal : Journal) → entries_in (steps_in journal) ≡ entry_count journal
entries_counted journal = entries_joined journal.segment journal.segments

pub segments_counted : (journal : Journal) → cuts_in (steps_in journal) + 1 ≡ segment_count journal
segments_counted journal = ap (λ (n : ℕ). n + 1) (cuts_joined journal.segment journal.segments)
