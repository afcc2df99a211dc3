-- A run of workers, put together.
use Rattle.std.proofs.Common.{◌≡◌, ℕ, List, [], ◌∷◌, ◌++◌, Option, Some, map, refl, sym, ap, ◌∙◌, subst}
use Rattle.std.proofs.lemmas.List.Concat.{flat_map-append}
use Rattle.cache_law.specs.declared.call.Entry.{Entry}
use Rattle.cache_law.specs.Beginning.{Beginning}
use Rattle.turnstile.specs.declared.handles.Pass.{Pass}
use Rattle.turnstile.specs.declared.knowledge.Ended.{Ended}
use Rattle.turnstile.specs.Handles.{known}
use Rattle.turnstile.specs.Knowledge.{Meets, mine, places, ended_numbers}
use Rattle.shared_cache.specs.Sharing.{CallerKnows, caller_of}
use Rattle.wire.specs.Telling.{LinkTold}
use Rattle.world.specs.declared.kit.Kit.{Kit}
use Rattle.workers.specs.declared.post.Post.{Post}
use Rattle.workers.specs.declared.worker.Worker.{Worker}
use Rattle.crew.specs.Hiring.{ended_of}
use Rattle.crew.specs.Leaving.{AllLeft, AllWhole}
use Rattle.crew.specs.Parts.{Part, all_came, all_places}
use Rattle.crew.specs.Places.{EachOnce, AllAbove, AtMostOnce}
use Rattle.crew.proofs.Callers.{each_counted}
use Rattle.crew.proofs.Counting.{each_once, places_among}

module _ {N E D K : Type 0} (Unused : Kit D K → Type 0) (Told : N → List E → Type 0) (places_of : List E → List ℕ) (Tells : ℕ → Kit D K → Kit D K → LinkTold → List E → Type 0) where
  -- the places of all calls are those of the parts' numbers in the history
  pub places_are : (history : List Entry) (parts : List (Part (Kit D K) N E)) → AllWhole Unused Told places_of Tells history parts
      → all_places places_of (all_came parts) ≡ places_among caller_of 0 history (map (λ (p : Part (Kit D K) N E). p.number) parts)
  places_are history [] whole = refl
  places_are history (part ∷ parts) whole =
      flat_map-append places_of part.came (all_came parts)
      ∙ (ap (λ (ns : List ℕ). ns ++ all_places places_of (all_came parts)) (sym whole.0.places)
      ∙ ap (λ (ns : List ℕ). places caller_of part.number history ++ ns) (places_are history parts whole.1))

module _ {H N E A B D K : Type 0} (IsPass : Pass Entry Beginning → Type 0) (Unused : Kit D K → Type 0) (pass_of : H → Pass Entry Beginning) (kit_of : H → Kit D K)
    (Told : N → List E → Type 0) (setting : Option Beginning) (places_of : List E → List ℕ) (Tells : List Entry → ℕ → Kit D K → Kit D K → LinkTold → List E → Type 0) where
  -- the numbers of the passes that were joined again are those under which the workers were hired
  pub numbers_are : (ns : List ℕ) (ws : List (Worker H N A B)) (posts : List (Post H N)) → AllLeft IsPass Unused pass_of kit_of Told setting places_of Tells ns ws
      → map Some posts ≡ map (λ (w : Worker H N A B). w.post) ws → map (λ (e : Ended). e.number) (map (λ (p : Post H N). ended_of (known (pass_of p.shift))) posts) ≡ ns
  numbers_are [] [] [] left same = refl
  numbers_are [] [] (s ∷ ss) left same = absurd (cc)
  numbers_are [] (w ∷ ws) ss left same = absurd left
  numbers_are (n ∷ ns) [] ss left same = absurd left
  numbers_are (n ∷ ns) (w ∷ ws) [] left same = absurd (cc)
  numbers_are (n ∷ ns) (w ∷ ws) (s ∷ ss) left same =
      let head : Some s ≡ w.post = cc in
      let tail : map Some ss ≡ map (λ (v : Worker H N A B). v.post) ws = cc in
      let has = left.0.has in
      let is : left.0.post ≡ s = let both : Some left.0.post ≡ Some s = sym has ∙ sym head in cc in
      let here : (known (pass_of s.shift)).number ≡ n = subst (λ (p : Post H N). (known (pass_of p.shift)).number ≡ n) is left.0.number_is in
      ap (λ (m : ℕ). m ∷ map (λ (e : Ended). e.number) (map (λ (p : Post H N). ended_of (known (pass_of p.shift))) ss)) here
      ∙ ap (λ (ms : List ℕ). n ∷ ms) (numbers_are ns ws ss left.1 tail)

-- each place of the history is counted once among those of the first pass and of the numbers, where all their passes were joined into it
pub once_in_all : (history : List Entry) (k : CallerKnows) (ns : List ℕ) → Meets caller_of k history → k.number ≡ k.first → k.made ≡ ns → ended_numbers k ≡ ns
    → AllAbove k.number ns → AtMostOnce ns → EachOnce history (mine caller_of k ++ places_among caller_of 0 history ns)
once_in_all history k ns meets first made ended above once =
    subst (λ (ps : List ℕ). EachOnce history (ps ++ places_among caller_of 0 history ns)) meets.mine
    (each_once caller_of history (k.number ∷ ns) (each_counted history k ns meets first made ended above once))
