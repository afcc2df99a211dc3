use Rattle.std.proofs.Common.{List, ap, sym, ◌∙◌, subst}
use Rattle.room_lru.specs.Members.{Used}
use Rattle.room_lru.specs.Endings.{AreEndings, with_ends}
use Rattle.room_lru.proofs.EndingsLemmas.{kept_alike, kept_behind, none_there}
use Rattle.room_lru.proofs.room.RoomLru.move_ends.Goals as goal

pub enter_new-requires : goal.enter_new-requires
enter_new-requires c =
    none_there c.self.inside.members c.self.inside.ends c.self.inside.total c.args.endings.now c.self.invariant (subst (λ (xs : List Used). AreEndings xs c.args.endings.now) (sym c.self.view_is) c.requires)

pub invariant_of-self : goal.invariant_of-self
invariant_of-self c = kept_alike c.self.inside.members c.self.inside.ends c.enter_new.new.ends c.self.inside.total c.self.invariant c.in_err-enter_new.ensures.err

pub invariant_of-self-2 : goal.invariant_of-self-2
invariant_of-self-2 c =
    kept_behind c.self.inside.members c.self.inside.ends c.self.inside.total c.args.endings.now c.self.invariant (subst (λ (xs : List Used). AreEndings xs c.args.endings.now) (sym c.self.view_is) c.requires)
    c.set_ends.new.members c.enter_new.new.ends c.leave_old.new.ends c.set_ends.ensures.ordered c.set_ends.ensures.entries c.in_ok-enter_new.ensures.ok c.leave_old.ensures
