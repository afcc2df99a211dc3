use Rattle.std.proofs.Common.{◌∙◌, ap, sym, subst}
use Rattle.std.specs.Int.{w128}
use Rattle.std.specs.Ordering.{nat_cmp}
use Rattle.std.specs.BTreeMap.{IsOrdered}
use Rattle.std.proofs.lemmas.Int.{to_z-of_z}
use Rattle.room_lru.proofs.EndingLemmas.{set_is, to_end, with_end_none}
use Rattle.room_lru.proofs.ending.set_end.Goals as goal

pub returns-in-Some-clause-entries : goal.returns-in-Some-clause-entries
returns-in-Some-clause-entries c =
    let member = c.in-Some.member.now in
    let held = c.get_mut.follows.holds (to_end c.args.end member) in
    rw (to_z-of_z w128 c.args.end c.ranges.end)
    (held.0 ∙ set_is c.args.used c.args.end member c.args.members.now.entries c.get_mut.ensures.ordered (sym c.in-Some.ensures.value))

pub returns-in_default-clause-entries : goal.returns-in_default-clause-entries
returns-in_default-clause-entries c =
    ap (λ m. m.entries) c.get_mut.follows.holds-at-none ∙ sym (with_end_none c.args.used c.args.end c.args.members.now.entries (sym c.in_default.ensures.value))

pub returns-in-Some-clause-ordered : goal.returns-in-Some-clause-ordered
returns-in-Some-clause-ordered c =
    let held = c.get_mut.follows.holds (to_end c.args.end c.in-Some.member.now) in
    rw (to_z-of_z w128 c.args.end c.ranges.end) held.4

pub returns-in_default-clause-ordered : goal.returns-in_default-clause-ordered
returns-in_default-clause-ordered c = subst (IsOrdered nat_cmp) (sym c.get_mut.follows.holds-at-none) c.get_mut.ensures.ordered
