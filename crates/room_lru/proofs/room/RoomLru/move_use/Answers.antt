use Rattle.std.proofs.Common.{◌∙◌, ap, sym}
use Rattle.std.specs.Ordering.{nat_cmp}
use Rattle.std.specs.Map.{lookup, remove_entry}
use Rattle.std.specs.BTreeMap.{is_at}
use Rattle.room_lru.specs.Members.{IsLatest}
use Rattle.room_lru.proofs.MemberLemmas.{insert-latest}
use Rattle.room_lru.proofs.AgainLemmas.{kept_again, used_again_is, used_again_none}
use Rattle.room_lru.proofs.room.RoomLru.move_use.Goals as goal

pub returns-in_default-clause-ok : goal.returns-in_default-clause-ok
returns-in_default-clause-ok c =
    let none = sym c.get.ensures.value ∙ sym c.copied.ensures ∙ c.in_default.is in
    rw (← c.self.view_is) (sym (used_again_none c.args.used c.args.later c.self.inside.members.entries none))

pub invariant_of-self-2 : goal.invariant_of-self-2
invariant_of-self-2 c =
    let latest : IsLatest c.args.later c.self.inside.members.entries = rw c.self.view_is c.requires in
    let found = sym c.get.ensures.value ∙ sym c.copied.ensures ∙ c.in-Some.is in
    let put = c.in_ok-insert.ensures.entries ∙ insert-latest c.args.later c.in-Some.member c.self.inside.members.entries latest in
    kept_again c.self.inside.members c.remove.new.self c.self.inside.ends c.self.inside.total c.args.used c.args.later c.in-Some.member c.self.invariant found
    c.remove.ensures.ordered (c.remove.ensures.entries ∙ ap (remove_entry (is_at (nat_cmp c.args.used))) put)

pub returns-clause-ok : goal.returns-clause-ok
returns-clause-ok c =
    let latest : IsLatest c.args.later c.self.inside.members.entries = rw c.self.view_is c.requires in
    let found = sym c.get.ensures.value ∙ sym c.copied.ensures ∙ c.in-Some.is in
    let put = c.in_ok-insert.ensures.entries ∙ insert-latest c.args.later c.in-Some.member c.self.inside.members.entries latest in
    let whole = c.remove.ensures.entries ∙ ap (remove_entry (is_at (nat_cmp c.args.used))) put in
    let gone = ap (lookup (is_at (nat_cmp c.args.used))) (sym whole) ∙ c.remove.ensures.updates.1 in
    let is = whole ∙ used_again_is c.args.used c.args.later c.in-Some.member c.self.inside.members.entries latest found gone in
    rw (← c.self.view_is) is
