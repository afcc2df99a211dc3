-- One call, or none.
use Rattle.std.proofs.Common.{ℕ, List, ◌∷◌, ◌++◌, [], refl, ap, ◌∙◌}
use Rattle.round_lead.proofs.Calls.{declines, declines_unasked}
use Rattle.round_lead.proofs.calling.call_on.Goals as goal

pub returns-then-is_err-clause-declined : goal.returns-then-is_err-clause-declined
returns-then-is_err-clause-declined g c =
    rw c.unasked.ensures (declines_unasked _ _ c.args.progress.now (record c.args.progress.now { numbers = c.reserve.new.self }) c.args.call c.reserve.ensures.items
    (record { exchanges = refl; sent = refl; closes = refl }))

pub returns-in-Err-clause-declined : goal.returns-in-Err-clause-declined
returns-in-Err-clause-declined g c =
    let made = c.in-Err.ensures.answer in
    declines _ _ _ _ _ _ made.0 _ c.in-Err.error made.1 c.in-Err.ensures.pass.1 made.2 c.reserve.ensures.items (record { exchanges = refl; sent = refl; closes = refl })

pub returns-clause-made : goal.returns-clause-made
returns-clause-made g c =
    let made = c.in-Ok.ensures.answer in
    record {
      reading = made.0;
      read = made.1;
      called = made.2;
      knows = c.in-Ok.ensures.pass.1;
      places_are = c.push_reserved.ensures.items ∙ ap (λ (l : List ℕ). l ++ c.in-Ok.told.place ∷ []) c.reserve.ensures.items;
      rest = record { exchanges = refl; sent = refl; closes = refl };
    }
