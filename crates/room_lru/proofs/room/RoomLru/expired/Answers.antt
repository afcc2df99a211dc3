use Rattle.std.proofs.Common.{◌≤ℤ◌, ◌<ℤ◌, pos, arith, rules}
use Rattle.std.specs.Int.{w128}
use mir.Val.{SFits}
use Rattle.std.proofs.lemmas.Int.{ints}
use Rattle.std.proofs.lemmas.Bool.{false≢true}
use Rattle.room_lru.proofs.EndLemmas.{ends_first, none_over, none_over_where_none}
use Rattle.room_lru.proofs.room.RoomLru.expired.Goals as goal

pub returns-in_err-end-clause-none : goal.returns-in_err-end-clause-none
returns-in_err-end-clause-none c =
    rw (c.from_residual.ensures, ← c.self.view_is)
    (none_over_where_none c.args.moment c.self.inside.members.entries c.self.inside.ends c.self.invariant.indexed (λ some. false≢true (c.in_err-end.ensures.variant.1 some)))

pub returns-then-end-from-clause-over : goal.returns-then-end-from-clause-over
returns-then-end-from-clause-over c =
    let fits : SFits w128 c.in_ok-end.field-0.now.0 = search rules in
    let over : c.in_ok-end.field-0.now.0 ≤ℤ pos c.args.moment = grind (arith, ints) in
    rw (← c.self.view_is) (
      c.in_ok-end.field-0.now.0,
      ends_first c.args.moment c.self.inside.members.entries c.self.inside.ends c.in_ok-end.field-0.now c.self.invariant.indexed
          c.in_ok-end.ensures.member c.in_ok-end.ensures.least over,
    )

pub returns-clause-none : goal.returns-clause-none
returns-clause-none c =
    let fits : SFits w128 c.in_ok-end.field-0.now.0 = search rules in
    let behind : pos c.args.moment <ℤ c.in_ok-end.field-0.now.0 = grind (arith, ints) in
    rw (← c.self.view_is)
    (none_over c.args.moment c.self.inside.members.entries c.self.inside.ends c.in_ok-end.field-0.now c.self.invariant.indexed c.in_ok-end.ensures.least behind)
