use Rattle.std.proofs.Common.{◌≡◌, ◌∙◌, ap, sym, ℤ, true, false, cond, rules}
use Rattle.std.specs.Int.{w128}
use Rattle.std.specs.BTreeMap.{is_at}
use Rattle.std.specs.BTreeSet.{contains}
use Rattle.std.proofs.lemmas.Int.{to_z-of_z}
use Rattle.room_lru.specs.Members.{IsLatest}
use Rattle.room_lru.specs.Ends.{End, by_end, IsFree}
use Rattle.room_lru.proofs.MemberLemmas.{insert-latest, ok_given, err_given}
use Rattle.room_lru.proofs.KeptLemmas.{kept_more, kept_back}
use Rattle.room_lru.proofs.room.RoomLru.put_last.Goals as goal
use mir.Val.{SFits}

pub invariant_of-self-then-is_err : goal.invariant_of-self-then-is_err
invariant_of-self-then-is_err c =
    let fits : SFits w128 c.args.member.end = search rules in
    let free : IsFree (c.args.member.end, c.args.member.handle) c.self.inside.members.entries = rw c.self.view_is c.requires.free in
    let whole = to_z-of_z w128 c.args.member.end fits in
    let adds : (end : End) → contains by_end c.insert.new.self end
    ≡ cond (is_at (by_end (c.args.member.end, c.args.member.handle)) end) true (contains by_end c.self.inside.ends end) = λ end.
    c.in_ok-insert.ensures.updates.0 end ∙ ap (λ (e : ℤ). cond (is_at (by_end (e, c.args.member.handle)) end) true (contains by_end c.self.inside.ends end)) whole in
    let removes : (end : End) → contains by_end c.remove.new.self end
    ≡ cond (is_at (by_end (c.args.member.end, c.args.member.handle)) end) false (contains by_end c.insert.new.self end) = λ end.
    c.remove.ensures.updates.0 end ∙ ap (λ (e : ℤ). cond (is_at (by_end (e, c.args.member.handle)) end) false (contains by_end c.insert.new.self end)) whole in
    let same = err_given c.insert-2.result (c.insert-2.new.self.entries ≡ c.self.inside.members.entries) (sym c.is_err.ensures.value ∙ c.if-is_err.true) c.insert-2.ensures.err in
    kept_back c.self.inside.members c.insert-2.new.self c.self.inside.ends c.insert.new.self c.remove.new.self c.self.inside.total c.args.used c.args.member
    c.self.invariant free c.insert-2.ensures.ordered same adds removes

pub invariant_of-self-2 : goal.invariant_of-self-2
invariant_of-self-2 c =
    let fits : SFits w128 c.args.member.end = search rules in
    let free : IsFree (c.args.member.end, c.args.member.handle) c.self.inside.members.entries = rw c.self.view_is c.requires.free in
    let latest : IsLatest c.args.used c.self.inside.members.entries = rw c.self.view_is c.requires.latest in
    let adds : (end : End) → contains by_end c.insert.new.self end
    ≡ cond (is_at (by_end (c.args.member.end, c.args.member.handle)) end) true (contains by_end c.self.inside.ends end) = λ end.
    c.in_ok-insert.ensures.updates.0 end
    ∙ ap (λ (e : ℤ). cond (is_at (by_end (e, c.args.member.handle)) end) true (contains by_end c.self.inside.ends end)) (to_z-of_z w128 c.args.member.end fits) in
    let put = ok_given c.insert-2.result _ (sym c.is_err.ensures.value ∙ c.if-is_err.false) c.insert-2.ensures.entries in
    kept_more c.self.inside.members c.insert-2.new.self c.self.inside.ends c.insert.new.self c.self.inside.total c.args.used c.args.member
    c.self.invariant free c.insert-2.ensures.ordered (put ∙ insert-latest c.args.used c.args.member c.self.inside.members.entries latest) adds

pub returns-clause-ok : goal.returns-clause-ok
returns-clause-ok c =
    let latest : IsLatest c.args.used c.self.inside.members.entries = rw c.self.view_is c.requires.latest in
    let put = ok_given c.insert-2.result _ (sym c.is_err.ensures.value ∙ c.if-is_err.false) c.insert-2.ensures.entries in
    let whole = put ∙ insert-latest c.args.used c.args.member c.self.inside.members.entries latest in
    rw (← c.self.view_is) whole
