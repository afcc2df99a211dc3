-- The links that were handed back so far, and that the others were ended.
use Rattle.std.proofs.Common.{◌≡◌, false}
use Rattle.std.specs.Prelude.{All}
use Rattle.wire.specs.Talks.{Adds}
use Rattle.console_job.proofs.opening.keep_links.Given as goal

abbrev pub invariant-loop-link : goal.invariant-loop-link
invariant-loop-link g l = record {
  closed : All (λ link. g.V.Listener.Link.Link.is_open link ≡ false) l.link-iterator.rest.items;
  links : Adds (g.V.World.links l.fn.world) (g.V.World.links l.world) l.yielded;
  ports : g.V.World.ports l.world ≡ g.V.World.ports l.fn.world;
  given : g.V.World.given l.world ≡ g.V.World.given l.fn.world;
  kits : g.V.World.kits l.world ≡ g.V.World.kits l.fn.world;
  listens : g.V.World.listen_faults l.world ≡ g.V.World.listen_faults l.fn.world;
  shelves : g.V.World.shelf_faults l.world ≡ g.V.World.shelf_faults l.fn.world;
}
