use Rattle.std.proofs.Common.{ℕ, List, ap, sym, ◌∙◌, subst}
use Rattle.cache_law.specs.declared.object.Object.{Object}
use Rattle.room_lru.specs.Endings.{AreEndings}
use Rattle.lazy_store.specs.Members.{Member, lazy_of}
use Rattle.lazy_store.specs.Softening.{FitIn, softened_all, with_objects}
use Rattle.lazy_store.proofs.Softens.{lazy_soft, soft_endings, soft_fits, tied_soft}
use Rattle.lazy_store.proofs.store.Store.soften_all.Goals as goal

pub move_ends-requires : goal.move_ends-requires
move_ends-requires c =
    subst (AreEndings c.self.inside.room) (sym (c.deref.ensures.value ∙ c.in_ok-plan.ensures.endings))
    (soft_endings c.args.moment c.args.numbers.now c.self.inside.heads c.self.inside.tagged c.self.inside.room c.self.inside.bans c.self.inside.newest c.self.inside.unswept c.self.invariant c.requires)

pub set_objects-requires : goal.set_objects-requires
set_objects-requires c =
    subst (FitIn c.self.inside.heads) (sym c.in_ok-plan.ensures.objects)
    (soft_fits c.args.moment c.args.numbers.now c.self.inside.heads c.self.inside.tagged c.self.inside.room c.self.inside.bans c.self.inside.newest c.self.inside.unswept c.self.invariant)

pub invariant_of-self-2 : goal.invariant_of-self-2
invariant_of-self-2 c =
    rw (c.set_objects.ensures, c.in_ok-move_ends.ensures.ok, c.deref.ensures.value, c.in_ok-plan.ensures.endings, c.in_ok-plan.ensures.objects)
    (tied_soft c.args.moment c.args.numbers.now c.self.inside.heads c.self.inside.tagged c.self.inside.room c.self.inside.bans c.self.inside.newest c.self.inside.unswept c.self.invariant c.requires)

pub returns-clause-ok : goal.returns-clause-ok
returns-clause-ok c =
    ap (λ (members : List Member). lazy_of members c.self.inside.bans) (c.set_objects.ensures ∙ ap (λ (objects : List (ℕ × Object)). with_objects objects c.self.inside.heads) c.in_ok-plan.ensures.objects)
    ∙ lazy_soft c.args.moment c.args.numbers.now c.self.inside.heads c.self.inside.tagged c.self.inside.room c.self.inside.bans c.self.inside.newest c.self.inside.unswept c.self.invariant
    ∙ ap (softened_all c.args.moment c.args.numbers.now) c.self.view_is
