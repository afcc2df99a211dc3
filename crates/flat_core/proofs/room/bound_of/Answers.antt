use Rattle.std.proofs.Common.{rules, ◌≡◌, ◌+◌, ◌<◌, Some, None, arith, sym, ◌∙◌, inl}
use Rattle.std.proofs.Math.Nat.{lt_of_not-le}
use Rattle.std.proofs.lemmas.Bool.{false≢true}
use Rattle.cache_law.specs.Object.{size_of}
use Rattle.flat_core.specs.Room.{least_used, sizes_staying}
use Rattle.flat_core.proofs.MadeRoom.{none_stay, one_more_goes, short_more}
use Rattle.flat_core.proofs.room.bound_of.Goals as goal

pub returns-in_default-clause-full : goal.returns-in_default-clause-full
returns-in_default-clause-full c =
    let none_ : least_used c.args.stale c.loop.bound c.args.objects.now.items ≡ None = search rules in
    let short : c.args.room < sizes_staying c.args.stale c.loop.bound c.args.objects.now.items + c.object_size-size.result =
    lt_of_not-le (λ enough. false≢true (sym c.if-has_room.false ∙ c.has_room.ensures.1 enough)) in
    inl (omega (arith, short, c.object_size-size.ensures, (none_stay c.args.stale c.loop.bound c.args.objects.now.items None none_).1))

pub loop-preserved : goal.loop-preserved
loop-preserved c =
    let same : c.from-bound.result ≡ c.in-Some.least = search rules in
    let found : least_used c.args.stale c.loop.bound c.args.objects.now.items ≡ Some c.in-Some.least = search rules in
    let short : c.args.room < sizes_staying c.args.stale c.loop.bound c.args.objects.now.items + c.object_size-size.result =
    lt_of_not-le (λ enough. false≢true (sym c.if-has_room.false ∙ c.has_room.ensures.1 enough)) in
    rw (same) (
      short_more c.args.room (size_of c.args.object.now) c.args.stale c.args.objects.now.items c.loop.bound c.in-Some.least c.loop.invariant.0 (omega (arith, short, c.object_size-size.ensures)) found,
      one_more_goes c.args.stale c.loop.bound c.in-Some.least c.loop.counter c.args.objects.now.items found c.loop.invariant.1,
    )
