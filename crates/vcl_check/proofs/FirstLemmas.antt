-- The parts that a check computes, put together to the first fault of a text.
use Rattle.std.proofs.Common.{◌≡◌, ℕ, ◌+◌, Bool, true, false, List, [], ◌∷◌, length, refl, sym, ap, ◌∙◌, subst, Option, Some, None, if◌then◌else◌}
use Rattle.vcl_symbols.specs.declared.call_graph.Call.{Call}
use Rattle.vcl_symbols.specs.Circles.{OnCircleAt, IsLeastPlace}
use Rattle.vmod_host.specs.declared.signature.Stored.{Stored}
use Rattle.vcl_tree.specs.Faults.{comes_before}
use Rattle.vcl_tree.specs.declared.error.Fault.{Fault}
use Rattle.vcl_tree.specs.declared.error.Refusal.TheVariants as refusal
use Rattle.vcl_tree.specs.declared.item.Item.{Item}
use Rattle.vcl_check.specs.Declarations.{declarations, names_of, known_of, unknown_said, twice_said}
use Rattle.vcl_check.specs.Folded.{numbered}
use Rattle.vcl_check.specs.Items.{item_told}
use Rattle.vcl_symbols.specs.Known.{Known}
use Rattle.vcl_check.specs.Least.{lesser, fault_at}
use Rattle.vcl_check.specs.Mentions.{Said, with_items}
use Rattle.vcl_check.specs.Reaching.{numbered_names, calls_of, AreReached}
use Rattle.vcl_check.specs.Texts.{says, refused_at, AreRefused, IsFirstFault}
use Rattle.vcl_check.proofs.LeastLemmas.{neither}
use Rattle.vcl_check.proofs.Whole.{least-text}

abbrev pub told : Option Fault → Option Fault → Option Fault → Option Fault → Option Fault → Option Fault
told u t i c r = lesser u (lesser t (lesser i (lesser c r)))

pub first-text : (items : List Item) (stored : List Stored) (said declared : List Said) (tables : Known) (numbers : List (List ℕ)) (calls : List Call)
    (rows : List (List Bool)) (places : List ℕ) (circle : Option ℕ) (unknown twice inside refused : Option Fault)
    → said ≡ with_items [] items → declared ≡ declarations said → tables ≡ known_of said stored → numbers ≡ numbered_names (names_of declared)
    → calls ≡ calls_of tables numbers said → length rows ≡ 13 → AreReached calls 0 rows → AreRefused said places → IsLeastPlace (OnCircleAt calls) circle
    → unknown ≡ numbered (unknown_said stored) 0 None said → twice ≡ numbered (twice_said tables.names) 0 None declared
    → inside ≡ numbered (item_told tables numbers rows) 0 None items → refused ≡ numbered refused_at 0 None places
    → IsFirstFault items stored (told unknown twice inside (fault_at refusal.Recursion circle) refused)
first-text items stored said declared tables numbers calls rows places circle unknown twice inside refused es ed ek en ec thirteen reached tried least eu et ei er =
    let S : List Said = says items in
    let D : List Said = declarations S in
    let K : Known = known_of S stored in
    let N : List (List ℕ) = numbered_names (names_of D) in
    let es' : said ≡ S = es in
    let ed' : declared ≡ D = ed ∙ ap (λ (s : List Said). declarations s) es' in
    let ek' : tables ≡ K = ek ∙ ap (λ (s : List Said). known_of s stored) es' in
    let en' : numbers ≡ N = en ∙ ap (λ (d : List Said). numbered_names (names_of d)) ed' in
    let ec' : calls ≡ calls_of K N S =
    ec ∙ ap (λ (k : Known). calls_of k numbers said) ek' ∙ ap (λ (n : List (List ℕ)). calls_of K n said) en' ∙ ap (λ (s : List Said). calls_of K N s) es' in
    let eu' : unknown ≡ numbered (unknown_said stored) 0 None S = eu ∙ ap (λ (s : List Said). numbered (unknown_said stored) 0 None s) es' in
    let et' : twice ≡ numbered (twice_said K.names) 0 None D =
    et ∙ ap (λ (k : Known). numbered (twice_said k.names) 0 None declared) ek' ∙ ap (λ (d : List Said). numbered (twice_said K.names) 0 None d) ed' in
    let ei' : inside ≡ numbered (item_told K N rows) 0 None items =
    ei ∙ ap (λ (k : Known). numbered (item_told k numbers rows) 0 None items) ek' ∙ ap (λ (n : List (List ℕ)). numbered (item_told K n rows) 0 None items) en' in
    let c = fault_at refusal.Recursion circle in
    let u' = numbered (unknown_said stored) 0 None S in
    let t' = numbered (twice_said K.names) 0 None D in
    let i' = numbered (item_told K N rows) 0 None items in
    let r' = numbered refused_at 0 None places in
    let same : told unknown twice inside c refused ≡ told u' t' i' c r' =
    ap (λ (o : Option Fault). told o twice inside c refused) eu' ∙ ap (λ (o : Option Fault). told u' o inside c refused) et'
    ∙ ap (λ (o : Option Fault). told u' t' o c refused) ei' ∙ ap (λ (o : Option Fault). told u' t' i' c o) er in
    let R : List Call → Type 0 = λ cs. AreReached cs 0 rows in
    let L : List Call → Type 0 = λ cs. IsLeastPlace (OnCircleAt cs) circle in
    let T : List Said → Type 0 = λ s. AreRefused s places in
    let F : Option Fault → Type 0 = λ o. IsFirstFault items stored o in
    subst F (sym same)
    (record {
      rows = rows;
      places = places;
      thirteen = thirteen;
      reached = subst R ec' reached;
      refused = subst T es' tried;
      first = least-text S items K N rows places circle (subst L ec' least);
    })

-- a text without a fault has no refused pattern
some-none : (f : Fault) → Some f ≡ None → ⊥
some-none f e = cc

picked : (x y : Fault) (b : Bool) → (z : Fault) × ((if b then Some y else Some x) ≡ Some z)
picked x y true = (y, refl)
picked x y false = (x, refl)

lesser-some : (x : Fault) (o : Option Fault) → (y : Fault) × (lesser (Some x) o ≡ Some y)
lesser-some x None = (x, refl)
lesser-some x (Some y) = picked x y (comes_before y x)

numbered-some : (x : Fault) (k : ℕ) (places : List ℕ) → numbered refused_at k (Some x) places ≡ None → ⊥
numbered-some x k [] e = some-none x e
numbered-some x k (p ∷ ps) e =
    let y = lesser-some x (refused_at k p) in
    let N : Option Fault → Type 0 = λ o. numbered refused_at (k + 1) o ps ≡ None in
    numbered-some y.0 (k + 1) ps (subst N y.1 e)

pub refused-none : (places : List ℕ) → numbered refused_at 0 None places ≡ None → places ≡ []
refused-none [] e = refl
refused-none (p ∷ ps) e = absurd (numbered-some (record { place = p; kind = refusal.Pattern }) 1 ps e)

pub told-none : (u t i c r : Option Fault) → told u t i c r ≡ None → (i ≡ None) × (r ≡ None)
told-none u t i c r e =
    let inside = neither i (lesser c r) (neither t (lesser i (lesser c r)) (neither u (lesser t (lesser i (lesser c r))) e).1).1 in
    (inside.0, (neither c r inside.1).1)
