-- Workers that are hired one after another, under falling numbers.
use Rattle.std.proofs.Common.{◌≡◌, ℕ, ◌+◌, ◌<◌, ◌≤◌, List, [], ◌∷◌, ◌++◌, Option, Result, Ok, Err, sym, ap, ◌∙◌, subst, arith, append-nil, append_assoc}
use Rattle.std.specs.Prelude.{OnOk, OnErr}
use Rattle.cache_law.specs.declared.call.Entry.{Entry}
use Rattle.cache_law.specs.Beginning.{Beginning}
use Rattle.turnstile.specs.declared.handles.Pass.{Pass}
use Rattle.turnstile.specs.Knowledge.{cut_off}
use Rattle.shared_cache.specs.Sharing.{CallerKnows}
use Rattle.world.specs.declared.kit.Kit.{Kit}
use Rattle.workers.specs.declared.worker.Worker.{Worker}
use Rattle.crew.specs.Hiring.{IsHired, HiresOne, AllHired, Hires}
use Rattle.crew.proofs.Callers.{above_lower, above_more, once_more}

module _ {H N E A B D K : Type 0} (IsPass : Pass Entry Beginning → Type 0) (Unused : Kit D K → Type 0) (pass_of : H → Pass Entry Beginning) (kit_of : H → Kit D K)
    (Told : N → List E → Type 0) (setting : Option Beginning) where
  hired_more : (ns : List ℕ) (ws : List (Worker H N A B)) (n : ℕ) (w : Worker H N A B) → AllHired IsPass Unused pass_of kit_of Told setting ns ws
      → IsHired IsPass Unused pass_of kit_of Told setting n w → AllHired IsPass Unused pass_of kit_of Told setting (ns ++ n ∷ []) (ws ++ w ∷ [])
  hired_more [] [] n w all one = (one, tt)
  hired_more [] (v ∷ vs) n w all one = absurd all
  hired_more (m ∷ ms) [] n w all one = absurd all
  hired_more (m ∷ ms) (v ∷ vs) n w all one = (all.0, hired_more ms vs n w all.1 one)

  pub hires_none : (low : ℕ) (k : CallerKnows) (ws : List (Worker H N A B)) → ws ≡ [] → Hires IsPass Unused pass_of kit_of Told setting low k k ws
  hires_none low k ws none = record {
    numbers = [];
    hired = subst (λ (vs : List (Worker H N A B)). AllHired IsPass Unused pass_of kit_of Told setting [] vs) (sym none) tt;
    knows = ap (λ (ms : List ℕ). record k { made = ms }) (sym (append-nil k.made));
    above = tt;
    once = λ m. omega arith;
  }

  pub hires_more : (low n : ℕ) (start k after : CallerKnows) (ws new : List (Worker H N A B)) → Hires IsPass Unused pass_of kit_of Told setting n start k ws
      → low < n → after ≡ cut_off k n → HiresOne IsPass Unused pass_of kit_of Told setting n ws new → Hires IsPass Unused pass_of kit_of Told setting low start after new
  hires_more low n start k after ws new before less cut one = record {
    numbers = before.numbers ++ n ∷ [];
    hired = subst (λ (vs : List (Worker H N A B)). AllHired IsPass Unused pass_of kit_of Told setting (before.numbers ++ n ∷ []) vs) (sym one.items)
        (hired_more before.numbers ws n one.worker before.hired one.hired);
    knows = cut ∙ (ap (λ (z : CallerKnows). cut_off z n) before.knows
        ∙ (ap (λ (ms : List ℕ). record start { upto = n; made = ms }) (append_assoc start.made before.numbers (n ∷ []))
        ∙ ap (λ (u : ℕ). record start { upto = u; made = start.made ++ (before.numbers ++ n ∷ []) }) (sym (ap (λ (z : CallerKnows). z.upto) cut))));
    above = above_more before.numbers low n before.above less;
    once = once_more before.numbers n before.above before.once;
  }

  -- what there is when a number's turn was: the parts of both books, and how many workers
  pub record NumberPassed (low : ℕ) (start after : CallerKnows) (new : List (Worker H N A B)) (a a' b b' len len' : ℕ) : Type 0 where
    pub hires : Hires IsPass Unused pass_of kit_of Told setting low start after new
    pub below : low < after.upto
    pub parts : (a' + len' ≡ a + len) × (b' + len' ≡ b + len)
    pub left : (a ≤ a' + 1) × (b ≤ b' + 1)
    pub few : len' ≤ len + 1

  -- A worker was hired under this number, or memory was wanting.
  pub number_passed : {X Y : Type 0} → (r : Result X Y) (low n : ℕ) (start k after : CallerKnows) (ws new : List (Worker H N A B)) (a a' b b' len len' : ℕ)
      → Hires IsPass Unused pass_of kit_of Told setting n start k ws → low < n → n < k.upto → OnOk r (HiresOne IsPass Unused pass_of kit_of Told setting n ws new)
      → OnOk r (after ≡ cut_off k n) → OnOk r ((a' + 1 ≡ a) × (b' + 1 ≡ b)) → OnOk r (len' ≡ len + 1)
      → OnErr r ((after ≡ k) × (a' ≡ a) × (b' ≡ b) × (new ≡ ws) × (len' ≡ len)) → NumberPassed low start after new a a' b b' len len'
  number_passed (Ok x) low n start k after ws new a a' b b' len len' before less below one cut parts longer same = record {
    hires = hires_more low n start k after ws new before less cut one;
    below = let at = ap (λ (z : CallerKnows). z.upto) cut in omega arith;
    parts = (omega arith, omega arith);
    left = (omega arith, omega arith);
    few = omega arith;
  }
  number_passed (Err y) low n start k after ws new a a' b b' len len' before less below one cut parts longer same =
      let kept = subst (λ (z : CallerKnows). Hires IsPass Unused pass_of kit_of Told setting n start z new) (sym same.0)
      (subst (λ (vs : List (Worker H N A B)). Hires IsPass Unused pass_of kit_of Told setting n start k vs) (sym same.3) before) in
      let p = same.1 in let q = same.2 in let l = same.4 in
      record {
        hires = record { numbers = kept.numbers; hired = kept.hired; knows = kept.knows; above = above_lower kept.numbers low n less kept.above; once = kept.once };
        below = let at = ap (λ (z : CallerKnows). z.upto) same.0 in omega arith;
        parts = (omega arith, omega arith);
        left = (omega arith, omega arith);
        few = omega arith;
      }
