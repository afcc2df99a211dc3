-- The workers that were hired so far, and that there is enough for the others.
use Rattle.std.proofs.Common.{◌≡◌, ◌+◌, ◌<◌, ◌≤◌}
use Rattle.std.specs.Prelude.{vec_len, vec_capacity}
use Rattle.turnstile.specs.Handles.{known}
use Rattle.shared_cache.specs.Passes.{IsPassOf}
use Rattle.crew.specs.Hiring.{Hires, IsUnused}
use Rattle.crew.proofs.hiring.hire.Given as goal

abbrev pub invariant-hiring : goal.invariant-hiring
invariant-hiring g l = record {
  pass : IsPassOf l.cache l.root;
  hired : Hires (IsPassOf l.cache) (IsUnused g.W.Dialer.Dialer.talks g.W.Dialer.Dialer.dial_faults g.W.Dialer.Dialer.read_faults g.W.Dialer.Dialer.write_faults g.W.Clock.Clock.readings g.W.Clock.Clock.words)
      g.H.Host.pass_of g.H.Host.kit_of g.H.Service.Told (known l.fn.root).setting l.number (known l.fn.root) (known l.root) l.workers.items;
  below : l.number < (known l.root).upto;
  parts : (l.accepted.parts + vec_len l.workers ≡ l.fn.accepted.parts) × (l.left.parts + vec_len l.workers ≡ l.fn.left.parts);
  enough : (l.number ≤ l.accepted.parts) × (l.number ≤ l.left.parts);
  nothing : (l.accepted.amount ≡ 0) × (l.left.amount ≡ 0);
  room : vec_len l.workers + l.number ≤ vec_capacity l.workers;
  few : vec_len l.workers + l.number ≤ l.count;
  links : g.W.World.links l.world ≡ g.W.World.links l.fn.world;
  kept : g.W.World.kept l.world ≡ g.W.World.kept l.fn.world;
  given : g.W.World.given l.world ≡ g.W.World.given l.fn.world;
  ports : g.W.World.ports l.world ≡ g.W.World.ports l.fn.world;
  kits : g.W.World.kits l.world ≡ g.W.World.kits l.fn.world;
  files : g.W.World.files l.world ≡ g.W.World.files l.fn.world;
  listens : g.W.World.listen_faults l.world ≡ g.W.World.listen_faults l.fn.world;
  shelves : g.W.World.shelf_faults l.world ≡ g.W.World.shelf_faults l.fn.world;
  ended : g.W.World.ended l.world ≡ g.W.World.ended l.fn.world;
}

abbrev pub decreases-hiring : goal.decreases-hiring
decreases-hiring g l = l.number
