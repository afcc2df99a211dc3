-- The first fault of a whole text.
use Rattle.std.proofs.Common.{◌≡◌, ℕ, ◌≤◌, Bool, false, List, ◌⊎◌, inl, inr, refl, subst, Option, Some, None, ◌||◌, ◌&&◌, ◌==◌, nat_lt, arith}
use Rattle.std.proofs.lemmas.Bool.Decides.{nat_tests}
use Rattle.vcl_symbols.specs.declared.call_graph.Call.{Call}
use Rattle.vcl_symbols.specs.Circles.{OnCircleAt, IsLeastPlace}
use Rattle.vcl_tree.specs.Faults.{comes_before}
use Rattle.vcl_tree.specs.declared.error.Fault.{Fault}
use Rattle.vcl_tree.specs.declared.error.Refusal.TheVariants as refusal
use Rattle.vcl_tree.specs.declared.item.Item.{Item}
use Rattle.vcl_tree.specs.declared.item.Item.TheVariants as item
use Rattle.vcl_check.specs.Acls.{acl_fault}
use Rattle.vcl_check.specs.Attributes.{backend_fault, probe_fault}
use Rattle.vcl_check.specs.Declarations.{declarations, unknown_said, twice_said}
use Rattle.vcl_check.specs.Faults.{IsLeastOf}
use Rattle.vcl_check.specs.Folded.{numbered, AnyOf}
use Rattle.vcl_check.specs.Items.{item_told, block_told}
use Rattle.vcl_symbols.specs.Known.{Known}
use Rattle.vcl_check.specs.Least.{lesser, fault_at}
use Rattle.vcl_check.specs.Mentions.{Said}
use Rattle.vcl_check.specs.Reaching.{calls_of, roots_of}
use Rattle.vcl_check.specs.Roles.{Block}
use Rattle.vcl_check.specs.Texts.{ItemFault, CircleFault, FaultOf, refused_at}
use Rattle.vcl_check.proofs.LeastLemmas.{least-along, least-option, least-either, least-numbered}
use Rattle.vcl_check.proofs.Parts.{least-in}

least-all : {A : Type 0} (P : ℕ → A → Fault → Type 0) (fault : ℕ → A → Option Fault) → ((k : ℕ) (x : A) → IsLeastOf (P k x) (fault k x))
    → (xs : List A) → IsLeastOf (AnyOf P 0 xs) (numbered fault 0 None xs)
least-all P fault h xs =
    least-along (λ f. ⊥ ⊎ AnyOf P 0 xs f) (AnyOf P 0 xs) (numbered fault 0 None xs) (λ f s. elim s [ inl b ↦ absurd b | inr n ↦ n ]) (λ f n. inr n)
    (least-numbered P fault h (λ f. ⊥) 0 None xs (λ f b. b))

least-block : (known : Known) (numbers : List (List ℕ)) (rows : List (List Bool)) (place : ℕ) (name : _) (block : _) (k : ℕ)
    → IsLeastOf (ItemFault known numbers rows k (item.Sub place name block)) (block_told known numbers rows name.text block)
unfolding block_told
least-block known numbers rows place name block k = least-in known (roots_of numbers rows name.text) Block block

least-item : (known : Known) (numbers : List (List ℕ)) (rows : List (List Bool)) (k : ℕ) (i : Item) → IsLeastOf (ItemFault known numbers rows k i) (item_told known numbers rows k i)
least-item known numbers rows k (item.Import place name) = λ f b. b
least-item known numbers rows k (item.NoBackend place name) = λ f b. b
least-item known numbers rows k (item.Backend place name attributes) = least-option (backend_fault known name attributes)
least-item known numbers rows k (item.Probe place name attributes) = least-option (probe_fault known attributes)
least-item known numbers rows k (item.Acl place name entries) = least-option (acl_fault entries)
least-item known numbers rows k (item.Sub place name block) = least-block known numbers rows place name block k

later-place : (p q k : ℕ) → p ≤ q → (nat_lt q p || (q == p && nat_lt k k)) ≡ false
later-place p q k h = grind (arith, nat_tests)

some-some : (x f : Fault) → Some x ≡ Some f → x ≡ f
some-some x f e = cc

least-circle : (calls : List Call) (o : Option ℕ) → IsLeastPlace (OnCircleAt calls) o → IsLeastOf (CircleFault calls) (fault_at refusal.Recursion o)
least-circle calls None h = λ f c. h c.0 c.1
least-circle calls (Some p) h =
    let least : Fault = record { place = p; kind = refusal.Recursion } in (
      (p, h.0, refl),
      λ f c.
          let at : Fault = record { place = c.0; kind = refusal.Recursion } in
          let P : Fault → Type 0 = λ g. comes_before g least ≡ false in
          subst P (some-some at f c.2) (later-place p c.0 9 (h.1 c.0 c.1)),
    )

-- the first of all faults of a text
pub least-text : (said : List Said) (items : List Item) (known : Known) (numbers : List (List ℕ)) (rows : List (List Bool)) (places : List ℕ) (circle : Option ℕ)
    → IsLeastPlace (OnCircleAt (calls_of known numbers said)) circle
    → IsLeastOf (FaultOf said items known numbers rows places)
    (lesser (numbered (unknown_said known.stored) 0 None said) (lesser (numbered (twice_said known.names) 0 None (declarations said)) (
    lesser (numbered (item_told known numbers rows) 0 None items) (lesser (fault_at refusal.Recursion circle) (numbered refused_at 0 None places)))))
least-text said items known numbers rows places circle h =
    let U : Fault → Type 0 = AnyOf (λ k s g. unknown_said known.stored k s ≡ Some g) 0 said in
    let T : Fault → Type 0 = AnyOf (λ k s g. twice_said known.names k s ≡ Some g) 0 (declarations said) in
    let I : Fault → Type 0 = AnyOf (ItemFault known numbers rows) 0 items in
    let C : Fault → Type 0 = CircleFault (calls_of known numbers said) in
    let R : Fault → Type 0 = AnyOf (λ k place g. refused_at k place ≡ Some g) 0 places in
    let u = numbered (unknown_said known.stored) 0 None said in
    let t = numbered (twice_said known.names) 0 None (declarations said) in
    let i = numbered (item_told known numbers rows) 0 None items in
    let c = fault_at refusal.Recursion circle in
    let r = numbered refused_at 0 None places in
    least-either U (λ f. T f ⊎ (I f ⊎ (C f ⊎ R f))) u (lesser t (lesser i (lesser c r)))
    (least-all (λ k s g. unknown_said known.stored k s ≡ Some g) (unknown_said known.stored) (λ k s. least-option (unknown_said known.stored k s)) said)
    (least-either T (λ f. I f ⊎ (C f ⊎ R f)) t (lesser i (lesser c r))
    (least-all (λ k s g. twice_said known.names k s ≡ Some g) (twice_said known.names) (λ k s. least-option (twice_said known.names k s)) (declarations said))
    (least-either I (λ f. C f ⊎ R f) i (lesser c r)
    (least-all (ItemFault known numbers rows) (item_told known numbers rows) (least-item known numbers rows) items)
    (least-either C R c r (least-circle (calls_of known numbers said) circle h)
    (least-all (λ k place g. refused_at k place ≡ Some g) refused_at (λ k place. least-option (refused_at k place)) places))))
