use Rattle.std.proofs.Common.{◌∙◌, ap, sym}
use Rattle.object_heads.specs.Members.{changed, with_hit}
use Rattle.object_heads.proofs.MemberLemmas.{in_kept, shown-changed, shown-unchanged}
use Rattle.object_heads.proofs.heads.Heads.count_hit.Goals as goal
use Rattle.object_heads.proofs.heads.Heads.count_hit.Goals.{in-Some, in_default}

pub returns : goal.returns
returns g c =
    elim c.match-get_mut.branch [
      | in-Some w ↦
          let new = in_kept (with_hit {P = g.row.P.Denot}) w.in-Some.kept.now in
          let shown =
          shown-changed c.args.handle (with_hit {P = g.row.P.Denot}) w.in-Some.kept.now c.self.inside.items (c.get_mut.follows.lender new) c.self.invariant.ordered
          w.in-Some.ensures.value (c.get_mut.follows.holds new).0 in
          rw (w.self-inside-is, w.saturating_add-kept.ensures) (shown ∙ ap (changed c.args.handle (with_hit {P = g.row.P.Denot})) c.self.view_is)
      | in_default w ↦
          let shown = shown-unchanged c.args.handle (with_hit {P = g.row.P.Denot}) c.self.inside.items (sym w.in_default.ensures.value) in
          rw (w.self-inside-is, c.get_mut.follows.holds-at-none) (shown ∙ ap (changed c.args.handle (with_hit {P = g.row.P.Denot})) c.self.view_is)
    ]
