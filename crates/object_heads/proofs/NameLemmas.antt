-- Keys and their names: two keys of bytes have one name exactly where they are one.
use Rattle.std.proofs.Common.{◌≡◌, ◌<◌, ◌+◌, ℕ, true, List, [], ◌∷◌, ◌++◌, length, take, get_or, refl, sym, ◌∙◌, ap, subst}
use Rattle.std.proofs.lemmas.List.{take_more, append-nil}
use Rattle.std.proofs.lemmas.Grind.{flat_map-append}
use Rattle.std.specs.Ordering.{nat_cmp, is_eq}
use Rattle.std.specs.Bool.{Decides, one_answer}
use Rattle.std.specs.Cmp.{Equal-is}
use Rattle.std.proofs.lemmas.Slice.Eq.{slice_eq-Decides, bytes_eq-Decides}
use Rattle.std.specs.Cmp.Lexicographic.{slice_cmp, nat_list_cmp_total}
use Rattle.std.specs.List.{AllByRecursion}
use Rattle.std.proofs.lemmas.Cmp.{nat_cmp_total, on_total, then_total, tied_itself}
use Rattle.std.proofs.lemmas.Map.Lookups.{exact_unsigned, exact_bytes, exact_pairs}
use Rattle.units.specs.Quoted.{quote_of, IsQuoted}
use Rattle.units.proofs.Pieces.{quote_back, quoted_same}
use Rattle.cache_law.specs.Object.{same_texts}
use Rattle.object_heads.specs.declared.name.Name.{Name}
use Rattle.object_heads.specs.Names.{joined, name_of, name_cmp, AreBytes, IsNameOf}
use Rattle.object_heads.specs.Indexes.{same_name}

-- ---- names are told apart
pub name_cmp-exact : (a b : Name) → same_name a b ≡ true → a ≡ b
name_cmp-exact a b same =
    let name : ℕ × List ℕ → Name = λ p. record { word = p.0; text = p.1 } in
    ap name (exact_pairs nat_cmp (slice_cmp nat_cmp) exact_unsigned exact_bytes (a.word, a.text) (b.word, b.text) ((Equal-is (name_cmp a b)).0 same))

name_cmp-itself : (a : Name) → same_name a a ≡ true
name_cmp-itself a = ap is_eq (tied_itself (then_total (on_total (λ (n : Name). n.word) nat_cmp_total) (on_total (λ (n : Name). n.text) nat_list_cmp_total)) a)

-- ---- joined texts have one reading
joined_again : (key other : List (List ℕ)) → AreBytes key → AreBytes other → joined key ≡ joined other → key ≡ other
joined_again [] [] h g same = refl
joined_again [] (u ∷ us) h g same = absurd (cc)
joined_again (t ∷ ts) [] h g same = absurd (cc)
joined_again (t ∷ ts) (u ∷ us) h g same =
    let one : IsQuoted t (quote_of t ++ joined ts) (joined ts) = quote_back t (joined ts) h.0 in
    let two : IsQuoted u (quote_of u ++ joined us) (joined us) = quote_back u (joined us) g.0 in
    let both = quoted_same t u (quote_of t ++ joined ts) (joined ts) (joined us) one (subst (λ bytes. IsQuoted u bytes (joined us)) (sym same) two) in
    let rest : ts ≡ us = joined_again ts us h.1 g.1 both.1 in
    rw (both.0, rest) refl

-- ---- a name decides as the whole key does
texts_decide : (a b : List (List ℕ)) → Decides (same_texts a b) (a ≡ b)
texts_decide a b = slice_eq-Decides bytes_eq-Decides a b (same_texts a b) refl

names_decide : (name other : Name) (a b : List (List ℕ)) → IsNameOf name a → IsNameOf other b → Decides (same_name name other) (a ≡ b)
names_decide name other a b one two =
    let there : same_name name other ≡ true → a ≡ b = λ e.
    joined_again a b one.bytes two.bytes (ap (λ (n : Name). n.text) (sym one.is ∙ name_cmp-exact name other e ∙ two.is)) in
    let back : a ≡ b → same_name name other ≡ true = λ e.
    let names : name ≡ other = one.is ∙ ap name_of e ∙ sym two.is in
    subst (λ n. same_name name n ≡ true) names (name_cmp-itself name) in
    (there, back)

pub same_name-of : (name other : Name) (a b : List (List ℕ)) → IsNameOf name a → IsNameOf other b → same_name name other ≡ same_texts a b
same_name-of name other a b one two = one_answer (same_name name other) (same_texts a b) (names_decide name other a b one two) (texts_decide a b)

-- ---- a key as far as a loop has come
pub joined_more : (key : List (List ℕ)) (i : ℕ) (text : List ℕ) → i < length key → text ≡ get_or key i text → joined (take (i + 1) key) ≡ joined (take i key) ++ quote_of text
joined_more key i text within is =
    ap joined (take_more key i text within) ∙ flat_map-append quote_of (take i key) (get_or key i text ∷ [])
    ∙ ap (λ bytes. joined (take i key) ++ bytes) (append-nil (quote_of (get_or key i text)))
    ∙ ap (λ t. joined (take i key) ++ quote_of t) (sym is)

all_push : (R : List ℕ → Type 0) (key : List (List ℕ)) (text : List ℕ) → AllByRecursion R key → R text → AllByRecursion R (key ++ text ∷ [])
all_push R [] text before here = (here, tt)
all_push R (t ∷ ts) text before here = (before.0, all_push R ts text before.1 here)

pub bytes_more : (key : List (List ℕ)) (i : ℕ) (text : List ℕ) → i < length key → text ≡ get_or key i text → ((k : ℕ) → get_or text k 0 < 256) → AreBytes (take i key) → AreBytes (take (i + 1) key)
bytes_more key i text within is here before =
    subst AreBytes (sym (take_more key i text within ∙ ap (λ t. take i key ++ t ∷ []) (sym is)))
    (all_push (λ t. (k : ℕ) → get_or t k 0 < 256) (take i key) text before here)
