use Rattle.std.proofs.Common.{◌≡◌, ◌∙◌, ap, sym, ℤ, false, cond, arith, rules}
use Rattle.std.specs.Int.{w128}
use Rattle.std.specs.Ordering.{nat_cmp}
use Rattle.std.specs.Map.{lookup}
use Rattle.std.specs.BTreeMap.{is_at}
use Rattle.std.specs.BTreeSet.{contains}
use Rattle.std.proofs.lemmas.Int.{to_z-of_z}
use Rattle.room_lru.specs.Ends.{End, by_end}
use Rattle.room_lru.proofs.MemberLemmas.{rest-without, total_less}
use Rattle.room_lru.proofs.KeptLemmas.{kept_less}
use Rattle.room_lru.proofs.room.RoomLru.take.Goals as goal
use mir.Val.{SFits}

pub returns-in_err-member-clause-rest : goal.returns-in_err-member-clause-rest
returns-in_err-member-clause-rest c =
    let none = ap (λ es. lookup (is_at (nat_cmp c.args.used)) es) (sym c.remove.ensures.entries) ∙ c.remove.ensures.updates.1 in
    let rest = c.remove.ensures.entries ∙ rest-without c.args.used c.self.inside.members.entries none in
    rw (← c.self.view_is) rest

pub overflow_sub-self : goal.overflow_sub-self
overflow_sub-self c =
    let sum = total_less (is_at (nat_cmp c.args.used)) c.in_ok-member.member c.self.inside.members.entries (sym c.in_ok-member.ensures.value) in
    let all = c.self.invariant.summed in
    omega arith

pub invariant_of-self-2 : goal.invariant_of-self-2
invariant_of-self-2 c =
    let fits : SFits w128 c.in_ok-member.member.end = search rules in
    let removes : (end : End) → contains by_end c.remove-2.new.self end
    ≡ cond (is_at (by_end (c.in_ok-member.member.end, c.in_ok-member.member.handle)) end) false (contains by_end c.self.inside.ends end) = λ end.
    c.remove-2.ensures.updates.0 end
    ∙ ap (λ (e : ℤ). cond (is_at (by_end (e, c.in_ok-member.member.handle)) end) false (contains by_end c.self.inside.ends end)) (to_z-of_z w128 c.in_ok-member.member.end fits) in
    kept_less c.self.inside.members c.remove.new.self c.self.inside.ends c.remove-2.new.self c.self.inside.total c.args.used c.in_ok-member.member c.self.invariant
    (sym c.in_ok-member.ensures.value) c.remove.ensures.ordered c.remove.ensures.entries removes

pub returns-clause-rest : goal.returns-clause-rest
returns-clause-rest c =
    let none = ap (λ es. lookup (is_at (nat_cmp c.args.used)) es) (sym c.remove.ensures.entries) ∙ c.remove.ensures.updates.1 in
    let rest = c.remove.ensures.entries ∙ rest-without c.args.used c.self.inside.members.entries none in
    rw (← c.self.view_is) rest
