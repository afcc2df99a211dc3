use Rattle.std.proofs.Common.{◌≡◌, ◌≢◌, ◌∙◌, ap, sym, ℤ, true, false, cond, Result, Ok, Err, Some, OnErr, refl, rules}
use Rattle.std.specs.Prelude.{nat_eq}
use Rattle.std.specs.Int.{w128}
use Rattle.std.specs.Ordering.{nat_cmp}
use Rattle.std.specs.Map.{lookup}
use Rattle.std.specs.BTreeMap.{is_at}
use Rattle.std.specs.BTreeSet.{contains}
use Rattle.std.proofs.lemmas.Int.{to_z-of_z}
use Rattle.std.proofs.lemmas.Map.Steps.{set_value_same}
use Rattle.room_lru.specs.Members.{with_end, without}
use Rattle.room_lru.specs.Ends.{End, by_end, IsFree}
use Rattle.room_lru.proofs.MemberLemmas.{lookup-number}
use Rattle.room_lru.proofs.EndingLemmas.{with_end_none, with_end_same, set_is, to_end, kept_same, kept_ending}
use Rattle.room_lru.proofs.room.RoomLru.move_end.Goals as goal
use mir.Val.{SFits, of_z, to_z}

pub returns-in_default-clause-ok : goal.returns-in_default-clause-ok
returns-in_default-clause-ok c =
    let none = sym c.in_default.ensures.value in
    let is = ap (λ m. m.entries) c.get_mut.follows.holds-at-none ∙ sym (with_end_none c.args.used c.args.end c.self.inside.members.entries none) in
    rw (← c.self.view_is) is

pub invariant_of-self-in_err-insert : goal.invariant_of-self-in_err-insert
invariant_of-self-in_err-insert c =
    let member = c.in-Some.member.now in
    let held = c.get_mut.follows.holds member in
    let same = held.0 ∙ set_value_same (is_at (nat_cmp c.args.used)) c.self.inside.members.entries member (sym c.in-Some.ensures.value) in
    kept_same c.self.inside.members (c.get_mut.follows.lender member) c.self.inside.ends c.insert.new.self c.self.inside.total c.self.invariant held.4 same c.in_err-insert.ensures.err

refused_as_before : {T E : Type 0} (r : Result T E) (P : Type 0) → P → OnErr r P
refused_as_before (Ok t) P p = tt
refused_as_before (Err e) P p = p

pub returns-in_err-insert-clause-err : goal.returns-in_err-insert-clause-err
returns-in_err-insert-clause-err c =
    let member = c.in-Some.member.now in
    let held = c.get_mut.follows.holds member in
    let same = held.0 ∙ set_value_same (is_at (nat_cmp c.args.used)) c.self.inside.members.entries member (sym c.in-Some.ensures.value) ∙ c.self.view_is in
    refused_as_before c.from_residual.result ((c.get_mut.follows.lender member).entries ≡ c.args.self.now) same

pub invariant_of-self-then-member-end : goal.invariant_of-self-then-member-end
invariant_of-self-then-member-end c =
    let member = c.in-Some.member.now in
    let own : SFits w128 c.in-Some.member.now.end = search rules in
    let new_end = to_z-of_z w128 c.args.end c.ranges.end in
    let old_end = to_z-of_z w128 c.in-Some.member.now.end own in
    let found = sym c.in-Some.ensures.value in
    let here : lookup (nat_eq c.args.used) c.args.self.now ≡ Some c.in-Some.member.now = rw (← c.self.view_is) (sym (lookup-number c.args.used c.self.inside.members.entries) ∙ found) in
    let free : IsFree (c.args.end, c.in-Some.member.now.handle) (without c.args.used c.self.inside.members.entries) = rw c.self.view_is (c.requires c.in-Some.member.now here) in
    let moves : member.end ≢ c.args.end = λ same. c.if-member-end.true (ap (of_z w128) same) in
    let adds : (one : End) → contains by_end c.insert.new.self one ≡ cond (is_at (by_end (c.args.end, member.handle)) one) true (contains by_end c.self.inside.ends one) = λ one.
    c.in_ok-insert.ensures.updates.0 one ∙ ap (λ (e : ℤ). cond (is_at (by_end (e, member.handle)) one) true (contains by_end c.self.inside.ends one)) new_end in
    let removes : (one : End) → contains by_end c.remove.new.self one ≡ cond (is_at (by_end (member.end, member.handle)) one) false (contains by_end c.insert.new.self one) = λ one.
    c.remove.ensures.updates.0 one ∙ ap (λ (e : ℤ). cond (is_at (by_end (e, member.handle)) one) false (contains by_end c.insert.new.self one)) old_end in
    let held = c.get_mut.follows.holds (to_end c.args.end member) in
    rw new_end
    (kept_ending c.self.inside.members (c.get_mut.follows.lender (to_end c.args.end member)) c.self.inside.ends c.insert.new.self c.remove.new.self c.self.inside.total
    c.args.used c.args.end member c.self.invariant found free moves held.4 held.0 adds removes)

pub invariant_of-self-else-member-end : goal.invariant_of-self-else-member-end
invariant_of-self-else-member-end c =
    let member = c.in-Some.member.now in
    let held = c.get_mut.follows.holds member in
    let same = held.0 ∙ set_value_same (is_at (nat_cmp c.args.used)) c.self.inside.members.entries member (sym c.in-Some.ensures.value) in
    kept_same c.self.inside.members (c.get_mut.follows.lender member) c.self.inside.ends c.self.inside.ends c.self.inside.total c.self.invariant held.4 same refl

pub returns-in_ok-insert-clause-ok : goal.returns-in_ok-insert-clause-ok
returns-in_ok-insert-clause-ok c =
    let member = c.in-Some.member.now in
    let new_end = to_z-of_z w128 c.args.end c.ranges.end in
    let held = c.get_mut.follows.holds (to_end c.args.end member) in
    let is = held.0 ∙ set_is c.args.used c.args.end member c.self.inside.members.entries c.self.invariant.ordered (sym c.in-Some.ensures.value) in
    rw (new_end, ← c.self.view_is) is

pub returns-else-member-end-clause-ok : goal.returns-else-member-end-clause-ok
returns-else-member-end-clause-ok c =
    let member = c.in-Some.member.now in
    let own : SFits w128 c.in-Some.member.now.end = search rules in
    let same_end : member.end ≡ c.args.end = sym (to_z-of_z w128 c.in-Some.member.now.end own) ∙ ap (to_z w128) c.if-member-end.false ∙ to_z-of_z w128 c.args.end c.ranges.end in
    let held = c.get_mut.follows.holds member in
    let found = sym c.in-Some.ensures.value in
    let same = held.0 ∙ set_value_same (is_at (nat_cmp c.args.used)) c.self.inside.members.entries member found
    ∙ sym (with_end_same c.args.used member c.self.inside.members.entries c.self.invariant.ordered found)
    ∙ ap (λ (e : ℤ). with_end c.args.used e c.self.inside.members.entries) same_end in
    rw (← c.self.view_is) same
