-- Workers who have left: what they leave may be joined, and what a run of them comes to.
use Rattle.std.proofs.Common.{◌≡◌, ℕ, List, [], ◌∷◌, ◌++◌, Option, Some, map, sum_by, length, refl, sym, ap, ◌∙◌, subst, arith}
use Rattle.std.specs.Prelude.{All, IsSome}
use Rattle.std.proofs.lemmas.List.Elements.{All-nil, All-cons}
use Rattle.std.proofs.lemmas.List.Sums.{sum_by-cons}
use Rattle.cache_law.specs.declared.call.Entry.{Entry}
use Rattle.cache_law.specs.Beginning.{Beginning}
use Rattle.cache_law.specs.History.{Legal}
use Rattle.turnstile.specs.declared.handles.Pass.{Pass}
use Rattle.turnstile.specs.declared.knowledge.Ended.{Ended}
use Rattle.turnstile.specs.Handles.{known}
use Rattle.turnstile.specs.Knowledge.{Meets, mine, places, ended_numbers}
use Rattle.shared_cache.specs.Sharing.{CallerKnows, caller_of}
use Rattle.wire.specs.Talks.{Adds}
use Rattle.wire.specs.Telling.{LinkTold}
use Rattle.world.specs.declared.kit.Kit.{Kit}
use Rattle.workers.specs.declared.post.Post.{Post}
use Rattle.workers.specs.declared.worker.Worker.{Worker}
use Rattle.crew.specs.Hiring.{AllFronts, ended_of}
use Rattle.crew.specs.Leaving.{AllLeft, HaveLeft}
use Rattle.crew.specs.Parts.{all_came, all_places}
use Rattle.crew.specs.Places.{EachOnce, AllAbove}
use Rattle.crew.specs.Running.{Ran}
use Rattle.crew.proofs.Counting.{places_among}
use Rattle.crew.proofs.Joining.{fronts_longer}
use Rattle.crew.proofs.Leaving.{Gathered, gathered}
use Rattle.crew.proofs.Runs.{places_are, numbers_are, once_in_all}

same_some : {X : Type 0} (o : Option X) (x y : X) → o ≡ Some x → o ≡ Some y → x ≡ y
same_some o x y a b = cc

is_some : {X : Type 0} (o : Option X) (x : X) → o ≡ Some x → IsSome o
is_some {X = X} o x has = subst (λ (p : Option X). IsSome p) (sym has) refl

module _ {H N E A B D K : Type 0} (IsPass : Pass Entry Beginning → Type 0) (Unused : Kit D K → Type 0) (pass_of : H → Pass Entry Beginning) (kit_of : H → Kit D K)
    (Told : N → List E → Type 0) (setting : Option Beginning) (places_of : List E → List ℕ) (Tells : List Entry → ℕ → Kit D K → Kit D K → LinkTold → List E → Type 0) where
  have_each : (ns : List ℕ) (ws : List (Worker H N A B)) → AllLeft IsPass Unused pass_of kit_of Told setting places_of Tells ns ws → All (λ (w : Worker H N A B). IsSome w.post) ws
  have_each [] [] left = All-nil (λ (w : Worker H N A B). IsSome w.post)
  have_each [] (w ∷ ws) left = absurd left
  have_each (n ∷ ns) [] left = absurd left
  have_each (n ∷ ns) (w ∷ ws) left = All-cons (λ (v : Worker H N A B). IsSome v.post) w ws (is_some w.post left.0.post left.0.has) (have_each ns ws left.1)

  parts_each : (ns : List ℕ) (ws : List (Worker H N A B)) → AllLeft IsPass Unused pass_of kit_of Told setting places_of Tells ns ws
      → sum_by (λ (w : Worker H N A B). w.accepted.parts) ws ≡ length ws
  parts_each [] [] left = refl
  parts_each [] (w ∷ ws) left = absurd left
  parts_each (n ∷ ns) [] left = absurd left
  parts_each (n ∷ ns) (w ∷ ws) left =
      let rest = parts_each ns ws left.1 in
      let one = left.0.accepted in
      let sum = sum_by-cons (λ (v : Worker H N A B). v.accepted.parts) w ws in
      omega arith

  passes_each : (ns : List ℕ) (ws : List (Worker H N A B)) (ps : List (Post H N)) → AllLeft IsPass Unused pass_of kit_of Told setting places_of Tells ns ws
      → map Some ps ≡ map (λ (w : Worker H N A B). w.post) ws → All (λ (p : Post H N). IsPass (pass_of p.shift)) ps
  passes_each ns ws [] left same = All-nil (λ (p : Post H N). IsPass (pass_of p.shift))
  passes_each [] [] (p ∷ ps) left same = absurd (cc)
  passes_each (n ∷ ns) [] (p ∷ ps) left same = absurd left
  passes_each [] (w ∷ ws) (p ∷ ps) left same = absurd left
  passes_each (n ∷ ns) (w ∷ ws) (p ∷ ps) left same =
      let head : Some p ≡ w.post = cc in
      let tail : map Some ps ≡ map (λ (v : Worker H N A B). v.post) ws = cc in
      let is : left.0.post ≡ p = same_some w.post left.0.post p left.0.has (sym head) in
      All-cons (λ (x : Post H N). IsPass (pass_of x.shift)) p ps (subst (λ (x : Post H N). IsPass (pass_of x.shift)) is left.0.pass) (passes_each ns ws ps left.1 tail)

  idle_each : (ns : List ℕ) (ws : List (Worker H N A B)) (ps : List (Post H N)) → AllLeft IsPass Unused pass_of kit_of Told setting places_of Tells ns ws
      → map Some ps ≡ map (λ (w : Worker H N A B). w.post) ws → All (λ (p : Post H N). ((known (pass_of p.shift)).made ≡ []) × ((known (pass_of p.shift)).ended ≡ [])) ps
  idle_each ns ws [] left same = All-nil (λ (p : Post H N). ((known (pass_of p.shift)).made ≡ []) × ((known (pass_of p.shift)).ended ≡ []))
  idle_each [] [] (p ∷ ps) left same = absurd (cc)
  idle_each (n ∷ ns) [] (p ∷ ps) left same = absurd left
  idle_each [] (w ∷ ws) (p ∷ ps) left same = absurd left
  idle_each (n ∷ ns) (w ∷ ws) (p ∷ ps) left same =
      let head : Some p ≡ w.post = cc in
      let tail : map Some ps ≡ map (λ (v : Worker H N A B). v.post) ws = cc in
      let is : left.0.post ≡ p = same_some w.post left.0.post p left.0.has (sym head) in
      All-cons (λ (x : Post H N). ((known (pass_of x.shift)).made ≡ []) × ((known (pass_of x.shift)).ended ≡ [])) p ps
      (subst (λ (x : Post H N). ((known (pass_of x.shift)).made ≡ []) × ((known (pass_of x.shift)).ended ≡ [])) is (left.0.none_made, left.0.none_ended)) (idle_each ns ws ps left.1 tail)

module _ {H N E A B D K : Type 0} (IsPass : Pass Entry Beginning → Type 0) (Unused : Kit D K → Type 0) (pass_of : H → Pass Entry Beginning) (kit_of : H → Kit D K)
    (Told : N → List E → Type 0) (places_of : List E → List ℕ) (Tells : Beginning → List Entry → ℕ → Kit D K → Kit D K → LinkTold → List E → Type 0) where
  -- each leaves its post
  pub all_have : (k : CallerKnows) (ws : List (Worker H N A B)) → HaveLeft IsPass Unused pass_of kit_of Told places_of Tells k ws → All (λ (w : Worker H N A B). IsSome w.post) ws
  all_have k ws left = have_each IsPass Unused pass_of kit_of Told (Some left.beginning) places_of (Tells left.beginning) left.numbers ws left.left

  -- each has one part of the first book
  pub parts_joined : (k : CallerKnows) (ws : List (Worker H N A B)) → HaveLeft IsPass Unused pass_of kit_of Told places_of Tells k ws
      → sum_by (λ (w : Worker H N A B). w.accepted.parts) ws ≡ length ws
  parts_joined k ws left = parts_each IsPass Unused pass_of kit_of Told (Some left.beginning) places_of (Tells left.beginning) left.numbers ws left.left

  -- the passes of their posts may be joined
  pub all_passes : (k : CallerKnows) (ws : List (Worker H N A B)) (ps : List (Post H N)) → HaveLeft IsPass Unused pass_of kit_of Told places_of Tells k ws
      → map Some ps ≡ map (λ (w : Worker H N A B). w.post) ws → All (λ (p : Post H N). IsPass (pass_of p.shift)) ps
  all_passes k ws ps left same = passes_each IsPass Unused pass_of kit_of Told (Some left.beginning) places_of (Tells left.beginning) left.numbers ws ps left.left same

  pub all_idle : (k : CallerKnows) (ws : List (Worker H N A B)) (ps : List (Post H N)) → HaveLeft IsPass Unused pass_of kit_of Told places_of Tells k ws
      → map Some ps ≡ map (λ (w : Worker H N A B). w.post) ws → All (λ (p : Post H N). ((known (pass_of p.shift)).made ≡ []) × ((known (pass_of p.shift)).ended ≡ [])) ps
  all_idle k ws ps left same = idle_each IsPass Unused pass_of kit_of Told (Some left.beginning) places_of (Tells left.beginning) left.numbers ws ps left.left same

  module _ (longer : (beginning : Beginning) (history more : List Entry) (number : ℕ) (before after : Kit D K) (opening : LinkTold) (events : List E)
      → Tells beginning history number before after opening events → Tells beginning (history ++ more) number before after opening events) where
    ran_here : (k now : CallerKnows) (ws : List (Worker H N A B)) (ps : List (Post H N)) → (left : HaveLeft IsPass Unused pass_of kit_of Told places_of Tells k ws)
        → map Some ps ≡ map (λ (w : Worker H N A B). w.post) ws → AllFronts now.seen (map (λ (p : Post H N). known (pass_of p.shift)) ps)
        → now ≡ record k { seen = now.seen; ended = k.ended ++ map (λ (p : Post H N). ended_of (known (pass_of p.shift))) ps } → mine caller_of now ≡ mine caller_of k
        → (history : List Entry) → Meets caller_of now history → Legal left.beginning history → (before after : Option (List (Kit D K))) (keepers : List N) (connections : ℕ)
        → Adds before after (map (λ (p : Post H N). kit_of p.shift) ps) → keepers ≡ map (λ (p : Post H N). p.keeper) ps
        → connections ≡ sum_by (λ (w : Worker H N A B). w.accepted.amount) ws → Ran Unused Told places_of Tells left.beginning history before after keepers connections (mine caller_of k)
    ran_here k now ws ps left same fronts knows quiet history meets legal before after keepers connections kits are count =
        let b = left.beginning in
        let ended : now.ended ≡ map (λ (p : Post H N). ended_of (known (pass_of p.shift))) ps =
        ap (λ (z : CallerKnows). z.ended) knows
        ∙ ap (λ (es : List Ended). es ++ map (λ (p : Post H N). ended_of (known (pass_of p.shift))) ps) (ap (λ (z : CallerKnows). z.ended) left.knows) in
        let stay = subst (λ (es : List Ended). All (λ (e : Ended). places caller_of e.number history ≡ e.places) es) ended meets.ended in
        let longer_fronts = fronts_longer now.seen history meets.grown.0 (map (λ (p : Post H N). known (pass_of p.shift)) ps) meets.grown.1 fronts in
        let g : Gathered IsPass Unused pass_of kit_of Told b places_of (Tells b) (longer b) history left.numbers ws ps =
        gathered IsPass Unused pass_of kit_of Told b places_of (Tells b) (longer b) history left.numbers ws ps left.left same longer_fronts stay in
        let number : now.number ≡ 0 = ap (λ (z : CallerKnows). z.number) knows ∙ ap (λ (z : CallerKnows). z.number) left.knows in
        let first : now.first ≡ 0 = ap (λ (z : CallerKnows). z.first) knows ∙ ap (λ (z : CallerKnows). z.first) left.knows in
        let made : now.made ≡ left.numbers = ap (λ (z : CallerKnows). z.made) knows ∙ ap (λ (z : CallerKnows). z.made) left.knows in
        let ends : ended_numbers now ≡ left.numbers =
        ap (λ (es : List Ended). map (λ (e : Ended). e.number) es) ended
        ∙ numbers_are IsPass Unused pass_of kit_of Told (Some b) places_of (Tells b) left.numbers ws ps left.left same in
        let above = subst (λ (n : ℕ). AllAbove n left.numbers) (sym number) left.above in
        let once = once_in_all history now left.numbers meets (number ∙ sym first) made ends above left.once in
        let at : all_places places_of (all_came g.parts) ≡ places_among caller_of 0 history left.numbers =
        places_are Unused Told places_of (Tells b history) history g.parts g.whole ∙ ap (λ (ns : List ℕ). places_among caller_of 0 history ns) (sym g.numbers) in
        record {
          legal = legal;
          parts = g.parts;
          whole = g.whole;
          kits_are = subst (λ (ks : List (Kit D K)). Adds before after ks) g.kits kits;
          keepers_are = are ∙ g.keepers;
          count_is = count ∙ g.count;
          each_once = subst (λ (ps : List ℕ). EachOnce history (ps ++ all_places places_of (all_came g.parts))) quiet
              (subst (λ (ns : List ℕ). EachOnce history (mine caller_of now ++ ns)) (sym at) once);
        }

    -- what all of them did is a run, over each legal history that the first pass meets once theirs were joined into it
    pub ran : (k now : CallerKnows) (ws : List (Worker H N A B)) (ps : List (Post H N)) → HaveLeft IsPass Unused pass_of kit_of Told places_of Tells k ws
        → map Some ps ≡ map (λ (w : Worker H N A B). w.post) ws → AllFronts now.seen (map (λ (p : Post H N). known (pass_of p.shift)) ps)
        → now ≡ record k { seen = now.seen; ended = k.ended ++ map (λ (p : Post H N). ended_of (known (pass_of p.shift))) ps } → mine caller_of now ≡ mine caller_of k
        → (beginning : Beginning) (history : List Entry) → now.setting ≡ Some beginning → Meets caller_of now history → Legal beginning history
        → (before after : Option (List (Kit D K))) (keepers : List N) (connections : ℕ) → Adds before after (map (λ (p : Post H N). kit_of p.shift) ps)
        → keepers ≡ map (λ (p : Post H N). p.keeper) ps → connections ≡ sum_by (λ (w : Worker H N A B). w.accepted.amount) ws
        → Ran Unused Told places_of Tells beginning history before after keepers connections (mine caller_of k)
    ran k now ws ps left same fronts knows quiet beginning history set meets legal before after keepers connections kits are count =
        let begun : now.setting ≡ Some left.beginning = ap (λ (z : CallerKnows). z.setting) knows ∙ ap (λ (z : CallerKnows). z.setting) left.knows in
        let is : left.beginning ≡ beginning = same_some now.setting left.beginning beginning begun set in
        subst (λ (b : Beginning). Ran Unused Told places_of Tells b history before after keepers connections (mine caller_of k)) is
        (ran_here k now ws ps left same fronts knows quiet history meets (subst (λ (b : Beginning). Legal b history) (sym is) legal) before after keepers connections kits are count)
