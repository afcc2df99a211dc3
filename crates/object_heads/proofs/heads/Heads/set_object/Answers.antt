use Rattle.std.proofs.Common.{◌≡◌, ◌∙◌, ap, sym, subst, refl, Some}
use Rattle.std.specs.Prelude.{nat_eq, IfSome, IsSome, option_map}
use Rattle.std.specs.Ordering.{nat_cmp}
use Rattle.std.specs.Map.{lookup}
use Rattle.std.specs.BTreeMap as tree
use Rattle.cache_law.specs.Object.{key_of}
use Rattle.object_heads.specs.declared.heads.Kept.{Kept}
use Rattle.object_heads.specs.declared.item.Item.{Item}
use Rattle.object_heads.specs.Kept.{IsNamed}
use Rattle.object_heads.specs.Members.{changed, with_object}
use Rattle.object_heads.proofs.MemberLemmas.{in_kept, shown-changed, shown-unchanged, shown-lookup, stands-replaced}
use Rattle.object_heads.proofs.heads.Heads.set_object.Goals as goal
use Rattle.object_heads.proofs.heads.Heads.set_object.Goals.{in-Some, in_default}

pub invariant_of-self : goal.invariant_of-self
invariant_of-self g c =
    elim c.match-get_mut.branch [
      | in-Some w ↦
          let kept : Kept g.row.P.Denot = w.in-Some.kept.now in
          let new = in_kept (with_object c.args.object) kept in
          let there : tree.get nat_cmp c.self.inside.items c.args.handle ≡ Some kept = sym w.in-Some.ensures.value in
          let item : lookup (nat_eq c.args.handle) c.args.self.now ≡ Some kept.item =
          sym (ap (lookup (nat_eq c.args.handle)) c.self.view_is) ∙ shown-lookup c.args.handle c.self.inside.items.entries ∙ ap (option_map (λ (k : Kept g.row.P.Denot). k.item)) there in
          let same = subst (λ o. IfSome o (λ (i : Item g.row.P.Denot). key_of c.args.object ≡ key_of i.view.object)) item c.requires in
          let named = subst (λ o. IfSome o IsNamed) there (c.self.invariant.named c.args.handle) in
          let updates = ((c.get_mut.follows.holds new).3 (subst IsSome (sym there) refl)).0 in
          rw (w.self-inside-is) (stands-replaced c.args.handle c.args.object kept c.self.inside.items (c.get_mut.follows.lender new) c.self.inside.places (c.get_mut.follows.holds new).4 updates there named same c.self.invariant)
      | in_default w ↦ rw (w.self-inside-is, c.get_mut.follows.holds-at-none) c.self.invariant
    ]

pub returns : goal.returns
returns g c =
    elim c.match-get_mut.branch [
      | in-Some w ↦
          let new = in_kept (with_object c.args.object) w.in-Some.kept.now in
          let shown =
          shown-changed c.args.handle (with_object c.args.object) w.in-Some.kept.now c.self.inside.items (c.get_mut.follows.lender new) c.self.invariant.ordered
          w.in-Some.ensures.value (c.get_mut.follows.holds new).0 in
          rw (w.self-inside-is) (shown ∙ ap (changed c.args.handle (with_object c.args.object)) c.self.view_is)
      | in_default w ↦
          let shown = shown-unchanged c.args.handle (with_object c.args.object) c.self.inside.items (sym w.in_default.ensures.value) in
          rw (w.self-inside-is, c.get_mut.follows.holds-at-none) (shown ∙ ap (changed c.args.handle (with_object c.args.object)) c.self.view_is)
    ]
