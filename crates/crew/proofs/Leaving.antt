-- Workers that were hired and have worked, and what all of them did, as parts of one run.
use Rattle.std.proofs.Common.{◌≡◌, ℕ, ◌<◌, suc, List, [], ◌∷◌, ◌++◌, Option, Some, map, length, refl, sym, ap, ◌∙◌, subst, arith}
use Rattle.std.specs.Prelude.{All, IsSomeAnd, slice_index_or, sum_by}
use Rattle.std.specs.List.{AllZip}
use Rattle.std.proofs.lemmas.List.{length-append}
use Rattle.std.proofs.lemmas.List.Sums.{sum_by-cons}
use Rattle.std.proofs.lemmas.List.Elements.{All-head, All-tail}
use Rattle.cache_law.specs.declared.call.Entry.{Entry}
use Rattle.cache_law.specs.Beginning.{Beginning}
use Rattle.turnstile.specs.declared.handles.Pass.{Pass}
use Rattle.turnstile.specs.declared.knowledge.Ended.{Ended}
use Rattle.turnstile.specs.Handles.{known}
use Rattle.turnstile.specs.Knowledge.{mine, places, places_from}
use Rattle.shared_cache.specs.Sharing.{CallerKnows, caller_of, made_before, numbers}
use Rattle.shared_cache.proofs.Numbers.{before_is, numbers_mine}
use Rattle.wire.specs.Telling.{LinkTold}
use Rattle.world.specs.declared.kit.Kit.{Kit}
use Rattle.workers.specs.Working.{HasWorked}
use Rattle.workers.specs.declared.post.Post.{Post}
use Rattle.workers.specs.declared.worker.Worker.{Worker}
use Rattle.crew.specs.Calls.{HasCalled}
use Rattle.crew.specs.Hiring.{IsFresh, IsHired, AllHired, AllFronts, ended_of}
use Rattle.crew.specs.Leaving.{HasLeft, AllLeft, AllWhole}
use Rattle.crew.specs.Parts.{Part, AllTold, all_came, all_events, all_places}
use Rattle.crew.proofs.Called.{stand_of, called_number, called_setting, all_called, all_told, all_wider}

-- what is so of each two items at one place is so all along two lists
pub paired : {W : Type 0} (R : W → W → Type 0) (xs ys : List W) → length ys ≡ length xs
    → ((i : ℕ) (d : W) → i < length xs → R (slice_index_or xs i d) (slice_index_or ys i d)) → AllZip R xs ys
paired R [] [] same all = tt
paired R [] (y ∷ ys) same all = absurd (omega arith)
paired R (x ∷ xs) [] same all = absurd (omega arith)
paired R (x ∷ xs) (y ∷ ys) same all = (all 0 x (omega arith), paired R xs ys (omega arith) (λ i d low. all (suc i) d (omega arith)))

some_same : {X : Type 0} (o : Option X) (x y : X) → o ≡ Some x → o ≡ Some y → x ≡ y
some_same o x y a b = cc

module _ {H N E A B D K : Type 0} (IsPass : Pass Entry Beginning → Type 0) (Unused : Kit D K → Type 0) (pass_of : H → Pass Entry Beginning) (kit_of : H → Kit D K)
    (Told : N → List E → Type 0) (beginning : Beginning) (places_of : List E → List ℕ) (Tells : List Entry → ℕ → Kit D K → Kit D K → LinkTold → List E → Type 0)
    (Ready : H → Type 0) (Serves : H → H → LinkTold → List E → Type 0) (passes : (shift : H) → Ready shift → IsPass (pass_of shift))
    (calls : (old new : H) (opening : LinkTold) (events : List E) → Serves old new opening events → HasCalled (known (pass_of old)) (known (pass_of new)) (places_of events))
    (tells : (old new : H) (opening : LinkTold) (events : List E) → Serves old new opening events → (known (pass_of new)).setting ≡ Some beginning
    → Tells (known (pass_of new)).seen (known (pass_of old)).number (kit_of old) (kit_of new) opening events)
    (longer : (history more : List Entry) (number : ℕ) (before after : Kit D K) (opening : LinkTold) (events : List E)
    → Tells history number before after opening events → Tells (history ++ more) number before after opening events)
    (first : beginning.base.entries ≡ 0) where
  left_one : (n : ℕ) (old new : Worker H N A B) → IsHired IsPass Unused pass_of kit_of Told (Some beginning) n old → HasWorked Ready Serves Told old new
      → HasLeft IsPass Unused pass_of kit_of Told (Some beginning) places_of Tells n new
  left_one n old new hired worked =
      let w = worked.works in
      let same : hired.post ≡ w.before = some_same old.post hired.post w.before hired.has w.had in
      let fresh = subst (λ (p : Post H N). IsFresh (Some beginning) n (known (pass_of p.shift))) same hired.fresh in
      let unused = subst (λ (p : Post H N). Unused (kit_of p.shift)) same hired.unused in
      let untold = subst (λ (p : Post H N). Told p.keeper []) same hired.untold in
      let called = all_called Serves (λ (h : H). known (pass_of h)) kit_of places_of Tells beginning calls tells longer w.before.shift w.after.shift w.came w.served in
      let set = called_setting (known (pass_of w.before.shift)) (known (pass_of w.after.shift)) (all_places places_of w.came) called ∙ fresh.setting_is in
      let none : numbers (known (pass_of w.before.shift)) ≡ [] = ap (places_from caller_of (known (pass_of w.before.shift)).number (made_before (known (pass_of w.before.shift)))) fresh.unseen in
      let is_told = all_told Serves (λ (h : H). known (pass_of h)) kit_of places_of Tells beginning calls tells longer w.before.shift w.after.shift w.came w.served set first in
      record {
        post = w.after;
        has = w.has;
        pass = passes w.after.shift (subst (λ (o : Option (Post H N)). IsSomeAnd o (λ post. Ready post.shift)) w.has worked.ready);
        number_is = called_number (known (pass_of w.before.shift)) (known (pass_of w.after.shift)) (all_places places_of w.came) called ∙ fresh.number_is;
        setting_is = set;
        none_made = ap (λ (k : CallerKnows). k.made) called.knows ∙ fresh.none_made;
        none_ended = ap (λ (k : CallerKnows). k.ended) called.knows ∙ fresh.none_ended;
        came = w.came;
        mine_is = sym (numbers_mine (known (pass_of w.after.shift)) (before_is (known (pass_of w.after.shift)) beginning set ∙ first))
            ∙ (called.gained ∙ ap (λ (ps : List ℕ). ps ++ all_places places_of w.came) none);
        first = kit_of w.before.shift;
        unused = unused;
        is_told = subst (λ (m : ℕ). AllTold places_of (Tells (known (pass_of w.after.shift)).seen) m (record { kit = kit_of w.before.shift; seen = [] }) (stand_of (λ (x : H). known (pass_of x)) kit_of w.after.shift) w.came) fresh.number_is
            (subst (λ (h : List Entry). AllTold places_of (Tells (known (pass_of w.after.shift)).seen) (known (pass_of w.before.shift)).number (record { kit = kit_of w.before.shift; seen = h }) (stand_of (λ (x : H). known (pass_of x)) kit_of w.after.shift) w.came) fresh.unseen
            is_told);
        told = w.told [] untold;
        counted = let a = w.counted in let b = hired.accepted.1 in omega arith;
        accepted = worked.accepted ∙ hired.accepted.0;
        left = worked.left ∙ hired.left.0;
      }

  pub all_left : (ns : List ℕ) (olds news : List (Worker H N A B)) → AllHired IsPass Unused pass_of kit_of Told (Some beginning) ns olds
      → AllZip (HasWorked Ready Serves Told) olds news → AllLeft IsPass Unused pass_of kit_of Told (Some beginning) places_of Tells ns news
  all_left [] [] [] hired worked = tt
  all_left [] [] (w ∷ ws) hired worked = absurd worked
  all_left [] (o ∷ os) news hired worked = absurd hired
  all_left (n ∷ ns) [] news hired worked = absurd hired
  all_left (n ∷ ns) (o ∷ os) [] hired worked = absurd worked
  all_left (n ∷ ns) (o ∷ os) (w ∷ ws) hired worked = (left_one n o w hired.0 worked.0, all_left ns os ws hired.1 worked.1)

module _ {H N E A B D K : Type 0} (IsPass : Pass Entry Beginning → Type 0) (Unused : Kit D K → Type 0) (pass_of : H → Pass Entry Beginning) (kit_of : H → Kit D K)
    (Told : N → List E → Type 0) (beginning : Beginning) (places_of : List E → List ℕ) (Tells : List Entry → ℕ → Kit D K → Kit D K → LinkTold → List E → Type 0)
    (longer : (history more : List Entry) (number : ℕ) (before after : Kit D K) (opening : LinkTold) (events : List E)
    → Tells history number before after opening events → Tells (history ++ more) number before after opening events) where
  -- the parts of workers that have left, over a history that begins with what each has seen, and in which each has the calls that it made
  pub record Gathered (history : List Entry) (ns : List ℕ) (workers : List (Worker H N A B)) (posts : List (Post H N)) : Type 0 where
    pub parts : List (Part (Kit D K) N E)
    pub kits : map (λ (p : Post H N). kit_of p.shift) posts ≡ map (λ (p : Part (Kit D K) N E). p.last) parts
    pub keepers : map (λ (p : Post H N). p.keeper) posts ≡ map (λ (p : Part (Kit D K) N E). p.keeper) parts
    pub numbers : ns ≡ map (λ (p : Part (Kit D K) N E). p.number) parts
    pub count : sum_by (λ (w : Worker H N A B). w.accepted.amount) workers ≡ length (all_came parts)
    pub whole : AllWhole Unused Told places_of (Tells history) history parts

  pub gathered : (history : List Entry) (ns : List ℕ) (workers : List (Worker H N A B)) (posts : List (Post H N))
      → AllLeft IsPass Unused pass_of kit_of Told (Some beginning) places_of Tells ns workers → map Some posts ≡ map (λ (w : Worker H N A B). w.post) workers
      → AllFronts history (map (λ (p : Post H N). known (pass_of p.shift)) posts)
      → All (λ (e : Ended). places caller_of e.number history ≡ e.places) (map (λ (p : Post H N). ended_of (known (pass_of p.shift))) posts)
      → Gathered history ns workers posts
  gathered history [] [] [] left posts fronts stay = record { parts = []; kits = refl; keepers = refl; numbers = refl; count = refl; whole = tt }
  gathered history [] [] (s ∷ ss) left posts fronts stay = absurd (cc)
  gathered history [] (w ∷ ws) ss left posts fronts stay = absurd left
  gathered history (n ∷ ns) [] ss left posts fronts stay = absurd left
  gathered history (n ∷ ns) (w ∷ ws) [] left posts fronts stay = absurd (cc)
  gathered history (n ∷ ns) (w ∷ ws) (s ∷ ss) left posts fronts stay =
      let head : Some s ≡ w.post = cc in
      let tail : map Some ss ≡ map (λ (w : Worker H N A B). w.post) ws = cc in
      let here = left.0 in
      let same : here.post ≡ s = some_same w.post here.post s here.has (sym head) in
      let rest = gathered history ns ws ss left.1 tail fronts.1 (All-tail (λ (e : Ended). places caller_of e.number history ≡ e.places) (ended_of (known (pass_of s.shift))) (map (λ (p : Post H N). ended_of (known (pass_of p.shift))) ss) stay) in
      let mine_is = subst (λ (p : Post H N). mine caller_of (known (pass_of p.shift)) ≡ all_places places_of here.came) same here.mine_is in
      let number_is = subst (λ (p : Post H N). (known (pass_of p.shift)).number ≡ n) same here.number_is in
      let is_told = subst (λ (p : Post H N). AllTold places_of (Tells (known (pass_of p.shift)).seen) n (record { kit = here.first; seen = [] }) (stand_of (λ (x : H). known (pass_of x)) kit_of p.shift) here.came) same here.is_told in
      let stays = All-head (λ (e : Ended). places caller_of e.number history ≡ e.places) (ended_of (known (pass_of s.shift))) (map (λ (p : Post H N). ended_of (known (pass_of p.shift))) ss) stay in
      let more = length-append here.came (all_came rest.parts) in
      let sum = sum_by-cons (λ (v : Worker H N A B). v.accepted.amount) w ws in
      let one = here.counted in
      let others = rest.count in
      record {
        parts = record { number = n; first = here.first; last = kit_of s.shift; seen = (known (pass_of s.shift)).seen; keeper = s.keeper; came = here.came } ∷ rest.parts;
        kits = ap (λ (ks : List (Kit D K)). kit_of s.shift ∷ ks) rest.kits;
        keepers = ap (λ (ks : List N). s.keeper ∷ ks) rest.keepers;
        numbers = ap (λ (ms : List ℕ). n ∷ ms) rest.numbers;
        count = omega arith;
        whole = (
          record {
            unused = here.unused;
            is_told = all_wider places_of (Tells (known (pass_of s.shift)).seen) (Tells history)
                (λ number before after opening events told_so. subst (λ (h : List Entry). Tells h number before after opening events) (sym fronts.0.1)
                (longer (known (pass_of s.shift)).seen fronts.0.0 number before after opening events told_so))
                n (record { kit = here.first; seen = [] }) (stand_of (λ (x : H). known (pass_of x)) kit_of s.shift) here.came is_told;
            told = subst (λ (p : Post H N). Told p.keeper (all_events here.came)) same here.told;
            front = fronts.0;
            places = ap (λ (m : ℕ). places caller_of m history) (sym number_is) ∙ (stays ∙ mine_is);
          },
          rest.whole,
        );
      }
