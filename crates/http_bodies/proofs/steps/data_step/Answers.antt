-- What the taken bytes leave.
use Rattle.std.proofs.Common.{◌≡◌, ℕ, ◌-◌, List, ◌++◌, length, take, sym, subst, arith}
use Rattle.std.proofs.lemmas.List.{length-take}
use Rattle.http_bodies.specs.declared.place.Place.TheVariants.{Data, Line}
use Rattle.http_bodies.specs.declared.place.LinePart.TheVariants.{DataReturn}
use Rattle.http_bodies.specs.Reading.{Follows, state}
use Rattle.http_bodies.proofs.StepFacts.{data_more, data_end}
use Rattle.http_bodies.proofs.steps.data_step.Goals as goal

pub returns-then-count-left-clause-follows : goal.returns-then-count-left-clause-follows
returns-then-count-left-clause-follows c limit =
    let d = take c.in_ok-count.count c.args.piece.now in
    let size : length (take c.in_ok-count.count c.args.piece.now) ≡ c.args.left = omega (arith, length-take c.in_ok-count.count c.args.piece.now, c.in_ok-count.ensures.count, c.if-count-left.true) in
    subst (λ (k : List ℕ). Follows (state (Data c.args.left c.args.spare) c.args.kept.now.items limit) (state (Line (DataReturn c.args.spare)) k limit) (take c.in_ok-count.count c.args.piece.now))
    (sym c.in_ok-count.ensures.ok) (data_end c.args.left c.args.spare d c.args.kept.now.items limit size)

pub returns-clause-follows : goal.returns-clause-follows
returns-clause-follows c limit =
    let d = take c.in_ok-count.count c.args.piece.now in
    let size : length (take c.in_ok-count.count c.args.piece.now) ≡ c.in_ok-count.count = omega (arith, length-take c.in_ok-count.count c.args.piece.now, c.in_ok-count.ensures.count) in
    let here = data_more c.args.left c.args.spare d c.args.kept.now.items limit (omega (arith, size, c.in_ok-count.ensures.count)) in
    let sized = subst (λ (m : ℕ). Follows (state (Data c.args.left c.args.spare) c.args.kept.now.items limit) (state (Data (c.args.left - m) c.args.spare) (c.args.kept.now.items ++ take c.in_ok-count.count c.args.piece.now) limit) (take c.in_ok-count.count c.args.piece.now)) size here in
    subst (λ (k : List ℕ). Follows (state (Data c.args.left c.args.spare) c.args.kept.now.items limit) (state (Data (c.args.left - c.in_ok-count.count) c.args.spare) k limit) (take c.in_ok-count.count c.args.piece.now))
    (sym c.in_ok-count.ensures.ok) sized
