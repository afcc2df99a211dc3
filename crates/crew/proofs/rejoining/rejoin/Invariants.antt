-- The passes that were joined so far, and that the others may be.
use Rattle.std.proofs.Common.{◌≡◌, ◌+◌, ◌≤◌, ◌++◌, List, [], length, map}
use Rattle.std.specs.Prelude.{All, vec_len, vec_capacity}
use Rattle.cache_law.specs.declared.call.Entry.{Entry}
use Rattle.wire.specs.Talks.{Adds}
use Rattle.turnstile.specs.Handles.{known}
use Rattle.turnstile.specs.Knowledge.{mine}
use Rattle.shared_cache.specs.Passes.{IsPassOf}
use Rattle.shared_cache.specs.Sharing.{caller_of}
use Rattle.crew.specs.Hiring.{AllFronts, ended_of}
use Rattle.crew.proofs.rejoining.rejoin.Given as goal

abbrev pub invariant-loop-post : goal.invariant-loop-post
invariant-loop-post g l = record {
  pass : IsPassOf l.cache l.root;
  passes : All (λ post. IsPassOf l.cache (g.H.Host.pass_of post.shift)) l.post-iterator.rest.items;
  leaves : All (λ post. ((known (g.H.Host.pass_of post.shift)).made ≡ []) × ((known (g.H.Host.pass_of post.shift)).ended ≡ [])) l.post-iterator.rest.items;
  fronts : AllFronts (known l.root).seen (map (λ post. known (g.H.Host.pass_of post.shift)) l.yielded);
  knows : known l.root ≡ record (known l.fn.root) { seen = (known l.root).seen; ended = (known l.fn.root).ended ++ map (λ post. ended_of (known (g.H.Host.pass_of post.shift))) l.yielded };
  mine : mine caller_of (known l.root) ≡ mine caller_of (known l.fn.root);
  grown : (rest : List Entry) × ((known l.root).seen ≡ (known l.fn.root).seen ++ rest);
  kits : Adds (g.W.World.kits l.fn.world) (g.W.World.kits l.world) (map (λ post. g.H.Host.kit_of post.shift) l.yielded);
  keepers : l.keepers.items ≡ l.fn.keepers.items ++ map (λ post. post.keeper) l.yielded;
  seats : vec_len l.keepers + length l.post-iterator.rest.items ≤ vec_capacity l.keepers;
  links : g.W.World.links l.world ≡ g.W.World.links l.fn.world;
  kept : g.W.World.kept l.world ≡ g.W.World.kept l.fn.world;
  given : g.W.World.given l.world ≡ g.W.World.given l.fn.world;
  ports : g.W.World.ports l.world ≡ g.W.World.ports l.fn.world;
  files : g.W.World.files l.world ≡ g.W.World.files l.fn.world;
  listens : g.W.World.listen_faults l.world ≡ g.W.World.listen_faults l.fn.world;
  shelves : g.W.World.shelf_faults l.world ≡ g.W.World.shelf_faults l.fn.world;
  ended : g.W.World.ended l.world ≡ g.W.World.ended l.fn.world;
}
