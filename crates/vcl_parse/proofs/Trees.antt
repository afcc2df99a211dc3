-- Tokens have one tree at most, and none where they have a fault.
use Rattle.std.proofs.Common.{◌≡◌, ℕ, ◌≤◌, ◌<◌, List, [], ◌∷◌, ◌++◌, sym, ap, subst, ◌∙◌, append_assoc, append-nil}
use Rattle.std.proofs.Common.{arith}
use Rattle.std.specs.Prelude.{max}
use Rattle.vcl_tree.specs.Phrase.{Phrase}
use Rattle.vcl_tree.specs.TreeView.{items_of}
use Rattle.vcl_tree.specs.Grammar.{IsFile}
use Rattle.vcl_tree.specs.Nesting.{level, deepest}
use Rattle.vcl_tree.specs.declared.token.Token.{Token}
use Rattle.vcl_tree.specs.declared.item.Version.{Version}
use Rattle.vcl_tree.specs.declared.item.Tree.{Tree}
use Rattle.vcl_tree.specs.declared.error.Refusal.{Refusal}
use Rattle.vcl_tree.specs.declared.error.Refusal.TheVariants as refusal
use Rattle.vcl_parse.specs.Machine.{Accepted}
use Rattle.vcl_parse.specs.Parsing.{IsTree, IsWrong, Good, Bad, head_of, EndsHere}
use Rattle.vcl_parse.proofs.Running.{run}
use Rattle.vcl_parse.proofs.Files.{accepted, wants, nothing_yet}

pub same_tree : (tokens others : List Token) (a b : Tree) → tokens ≡ others →
    IsTree tokens a → IsTree others b → (a.version ≡ b.version) × (items_of a.items ≡ items_of b.items)
same_tree tokens others a b e h k =
    let x = accepted 0 (h.0) in
    let y = accepted 0 (k.0) in
    let heads : Good a.version (x.0) ≡ Good b.version (y.0) = sym (x.1) ∙ ap (head_of 0) e ∙ y.1 in
    let rests : x.0 ≡ y.0 = cc in
    let read : Accepted (items_of a.items ∷ []) ≡ Accepted (items_of b.items ∷ []) = sym (x.2) ∙ ap (λ r. run wants nothing_yet r) rests ∙ y.2 in
    let version : a.version ≡ b.version = cc in
    let items : items_of a.items ≡ items_of b.items = cc in
    (version, items)

goes_on : (front behind tokens : List Token) (v : Version) (l : Phrase) → tokens ≡ front ++ behind → EndsHere front behind → IsFile v l tokens → ⊥
goes_on front [] tokens v l e k h = k v l (subst (λ r. IsFile v l r) (e ∙ append-nil front) h)
goes_on front (x ∷ behind) tokens v l e k h = k (v, l, behind, subst (λ r. IsFile v l r) (e ∙ sym (append_assoc front (x ∷ []) behind)) h)

at_least : (d : ℕ) (more : List Token) → d ≤ deepest d more
at_least d [] = omega arith
at_least d (x ∷ more) = omega arith

wider : (d m n : ℕ) → m ≤ n → max d m ≤ max d n
wider d m n h = omega (arith, h)

deeper_with : (front more : List Token) (d : ℕ) → deepest d front ≤ deepest d (front ++ more)
deeper_with [] more d = at_least d more
deeper_with (x ∷ front) more d = wider d _ _ (deeper_with front more (level d x))

pub too_deep : (front behind tokens : List Token) (x : Token) → tokens ≡ front ++ x ∷ behind → deepest 0 tokens ≤ 64 → 64 < deepest 0 (front ++ x ∷ []) → ⊥
too_deep front behind tokens x e h k =
    let whole : deepest 0 (front ++ x ∷ [] ++ behind) ≤ 64 = subst (λ r. deepest 0 r ≤ 64) (e ∙ sym (append_assoc front (x ∷ []) behind)) h in
    omega (arith, whole, k, deeper_with (front ++ x ∷ []) behind 0)

pub not_wrong : (end : ℕ) (tokens : List Token) (tree : Tree) (why : Refusal) (place : ℕ) → IsTree tokens tree → IsWrong end tokens why place → ⊥
not_wrong end tokens tree refusal.Version place h k =
    let x = accepted end (h.0) in
    let clash : Good tree.version (x.0) ≡ Bad place = sym (x.1) ∙ k in
    cc
not_wrong end tokens tree refusal.Syntax place h k = let f = k.1 in goes_on f.front f.behind tokens tree.version (items_of tree.items) f.parts f.ended (h.0)
not_wrong end tokens tree refusal.TooDeep place h k = let f = k.1 in too_deep f.front f.behind tokens f.token f.parts (h.1) f.deeper
not_wrong end tokens tree _ place h k = k
