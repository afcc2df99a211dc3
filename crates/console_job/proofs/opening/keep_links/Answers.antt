-- No link is handed back at first, and then one after another.
use Rattle.std.proofs.Common.{◌≡◌, [], ◌∷◌, ◌∙◌, false, refl, rules, arith}
use Rattle.std.proofs.lemmas.Grind.{common_steps}
use Rattle.std.proofs.lemmas.List.Elements.{All-head, All-tail}
use Rattle.entrance.proofs.Adding.{adds_none, adds_then}
use Rattle.console_job.proofs.opening.keep_links.Goals as goal

pub loop-link-init : goal.loop-link-init
loop-link-init g c = record {
  closed = first_of (search rules, grind (arith, common_steps));
  links = adds_none (g.V.World.links c.args.world.now);
  ports = refl;
  given = refl;
  kits = refl;
  listens = refl;
  shelves = refl;
}

pub keep_link-requires : goal.keep_link-requires
keep_link-requires g c =
    let is : c.loop-link.link-iterator.rest.items ≡ c.in-Some.link ∷ c.next.new.self.rest.items = first_of (search rules, grind (arith, common_steps)) in
    record {
      closed = All-head (λ link. g.V.Listener.Link.Link.is_open link ≡ false) c.in-Some.link c.next.new.self.rest.items (rw is at c.loop-link.invariant.closed);
    }

pub loop-link-preserved : goal.loop-link-preserved
loop-link-preserved g c =
    let is : c.loop-link.link-iterator.rest.items ≡ c.in-Some.link ∷ c.next.new.self.rest.items = first_of (search rules, grind (arith, common_steps)) in
    let before = c.loop-link.invariant in record {
      closed = All-tail (λ link. g.V.Listener.Link.Link.is_open link ≡ false) c.in-Some.link c.next.new.self.rest.items (rw is at before.closed);
      links = adds_then (g.V.World.links c.args.world.now) (g.V.World.links c.loop-link.world) (g.V.World.links c.keep_link.new.self) c.loop-link.yielded (c.in-Some.link ∷ []) before.links c.keep_link.ensures.link;
      ports = c.keep_link.ensures.ports ∙ before.ports;
      given = c.keep_link.ensures.given ∙ before.given;
      kits = c.keep_link.ensures.kits ∙ before.kits;
      listens = c.keep_link.ensures.listens ∙ before.listens;
      shelves = c.keep_link.ensures.shelves ∙ before.shelves;
    }
