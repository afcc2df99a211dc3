-- No pass is joined at first, and then one after another.
use Rattle.std.proofs.Common.{◌≡◌, [], ◌∷◌, ◌++◌, refl, sym, ap, ◌∙◌, rules, arith, append-nil}
use Rattle.std.proofs.lemmas.Grind.{common_steps}
use Rattle.std.proofs.lemmas.List.Elements.{All-head, All-tail}
use Rattle.turnstile.specs.Handles.{known}
use Rattle.shared_cache.specs.Passes.{IsPassOf}
use Rattle.shared_cache.specs.Sharing.{CallerKnows}
use Rattle.turnstile.specs.declared.knowledge.Ended.{Ended}
use Rattle.std.specs.Prelude.{List}
use Rattle.entrance.proofs.Adding.{adds_none}
use Rattle.crew.proofs.Besides.{front_then}
use Rattle.crew.proofs.Joining.{fronts_longer, fronts_more, joined_mine, joined_more, adds_more, items_more}
use Rattle.crew.proofs.rejoining.rejoin.Goals as goal

pub loop-post-init : goal.loop-post-init
loop-post-init g c = record {
  pass = c.requires.pass;
  passes = first_of (search rules, grind (arith, common_steps));
  leaves = first_of (search rules, grind (arith, common_steps));
  fronts = tt;
  knows = ap (λ (es : List Ended). record (known c.args.root.now) { ended = es }) (sym (append-nil (known c.args.root.now).ended));
  mine = refl;
  grown = ([], sym (append-nil _));
  kits = adds_none _;
  keepers = sym (append-nil _);
  seats = first_of (search rules, grind (arith, common_steps));
  links = refl;
  kept = refl;
  given = refl;
  ports = refl;
  files = refl;
  listens = refl;
  shelves = refl;
  ended = refl;
}

pub join-requires-clause-other : goal.join-requires-clause-other
join-requires-clause-other g c =
    let is : c.loop-post.post-iterator.rest.items ≡ c.in-Some.post ∷ c.next.new.self.rest.items = first_of (search rules, grind (arith, common_steps)) in
    let one = All-head (λ post. IsPassOf c.args.cache.now (g.H.Host.pass_of post.shift)) c.in-Some.post c.next.new.self.rest.items (rw is at c.loop-post.invariant.passes) in
    rw c.end_shift-pass.ensures.0 (search one)

pub loop-post-preserved : goal.loop-post-preserved
loop-post-preserved g c =
    let is : c.loop-post.post-iterator.rest.items ≡ c.in-Some.post ∷ c.next.new.self.rest.items = first_of (search rules, grind (arith, common_steps)) in
    let before = c.loop-post.invariant in
    let leaves = rw is at before.leaves in
    let passes = rw is at before.passes in
    let silent = All-head (λ post. ((known (g.H.Host.pass_of post.shift)).made ≡ []) × ((known (g.H.Host.pass_of post.shift)).ended ≡ [])) c.in-Some.post c.next.new.self.rest.items leaves in
    let merged_is = rw c.end_shift-pass.ensures.0 at c.join.ensures.pass.1 in
    let other_seen = rw c.end_shift-pass.ensures.0 at c.join.ensures.other_seen in record {
      pass = c.join.ensures.pass.0;
      passes = All-tail (λ post. IsPassOf c.args.cache.now (g.H.Host.pass_of post.shift)) c.in-Some.post c.next.new.self.rest.items passes;
      leaves = All-tail (λ post. ((known (g.H.Host.pass_of post.shift)).made ≡ []) × ((known (g.H.Host.pass_of post.shift)).ended ≡ [])) c.in-Some.post c.next.new.self.rest.items leaves;
      fronts = fronts_more (λ post. known (g.H.Host.pass_of post.shift)) (known c.join.new.pass).seen c.loop-post.yielded c.in-Some.post other_seen.0
          (fronts_longer (known c.loop-post.root).seen (known c.join.new.pass).seen c.join.ensures.seen.0 _ c.join.ensures.seen.1 before.fronts) other_seen.1;
      knows = joined_more (λ post. known (g.H.Host.pass_of post.shift)) c.loop-post.yielded c.in-Some.post (known c.args.root.now) (known c.loop-post.root) (known c.join.new.pass)
          before.knows merged_is silent.0 silent.1;
      mine = joined_mine (known c.loop-post.root) (known c.join.new.pass) (ap (λ (k : CallerKnows). k.number) merged_is) c.join.ensures.seen ∙ before.mine;
      grown = (
        before.grown.0 ++ c.join.ensures.seen.0,
        front_then (known c.args.root.now).seen (known c.loop-post.root).seen (known c.join.new.pass).seen before.grown.0 c.join.ensures.seen.0 before.grown.1 c.join.ensures.seen.1,
      );
      kits = adds_more (λ post. g.H.Host.kit_of post.shift) c.loop-post.yielded c.in-Some.post _ _ _ before.kits (rw c.end_shift-pass.ensures.1 at c.keep_kit.ensures.kit);
      keepers = items_more (λ post. post.keeper) c.loop-post.yielded c.in-Some.post _ _ _ before.keepers c.push_reserved.ensures.items;
      seats = first_of (search rules, grind (arith, common_steps));
      links = c.keep_kit.ensures.links ∙ before.links;
      kept = c.keep_kit.ensures.kept ∙ before.kept;
      given = c.keep_kit.ensures.given ∙ before.given;
      ports = c.keep_kit.ensures.ports ∙ before.ports;
      files = c.keep_kit.ensures.files ∙ before.files;
      listens = c.keep_kit.ensures.listens ∙ before.listens;
      shelves = c.keep_kit.ensures.shelves ∙ before.shelves;
      ended = c.keep_kit.ensures.ended ∙ before.ended;
    }
