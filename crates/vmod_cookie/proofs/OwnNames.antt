-- Names that differ: what keeps them apart, and that cookies of such names are set one after another in their order.
use Rattle.std.proofs.Common.{◌≡◌, List, [], ◌∷◌, ◌++◌, ℕ, sym, ap, ◌∙◌, refl, Bool, true, false, cond, append_assoc, append-nil}
use Rattle.std.specs.List.{IsDistinct, AllByRecursion}
use Rattle.std.specs.Map.{keys_of}
use Rattle.std.specs.Str.{bytes_eq}
use Rattle.std.specs.Cmp.Lexicographic.{nat_list_eq_equiv}
use Rattle.indexmap.specs.IndexMap.{insert_entry, insert_all}
use Rattle.indexmap.proofs.MapLemmas.{insert_entry-absent}
use Rattle.vmod_host.specs.Jar.{Cookies}

abbrev pub AreOwn : Cookies → Type 0
AreOwn jar = IsDistinct bytes_eq (keys_of jar)

flip : (a b : List ℕ) → bytes_eq a b ≡ bytes_eq b a
flip a b = nat_list_eq_equiv.symm a b

all_keys_chosen : (P : List ℕ → Type 0) (b : Bool) (c : List ℕ × List ℕ) (jar more : Cookies) (value : List ℕ) → AllByRecursion P (keys_of (c ∷ jar)) → AllByRecursion P (keys_of more) → AllByRecursion P (keys_of (cond b ((c.0, value) ∷ jar) (c ∷ more)))
all_keys_chosen P true c jar more value h k = h
all_keys_chosen P false c jar more value h k = (h.0, k)

all_keys_insert : (P : List ℕ → Type 0) (jar : Cookies) (name value : List ℕ) → AllByRecursion P (keys_of jar) → P name → AllByRecursion P (keys_of (insert_entry bytes_eq jar name value))
all_keys_insert P [] name value h p = (p, tt)
all_keys_insert P (c ∷ jar) name value h p = all_keys_chosen P (bytes_eq name c.0) c jar (insert_entry bytes_eq jar name value) value h (all_keys_insert P jar name value h.1 p)

own_chosen : (b : Bool) (c : List ℕ × List ℕ) (jar : Cookies) (name value : List ℕ) → bytes_eq name c.0 ≡ b → AreOwn (c ∷ jar) → AreOwn (insert_entry bytes_eq jar name value) → AreOwn (cond b ((c.0, value) ∷ jar) (c ∷ insert_entry bytes_eq jar name value))
unfolding IsDistinct
own_chosen true c jar name value e h k = h
own_chosen false c jar name value e h k = (all_keys_insert (λ other. bytes_eq c.0 other ≡ false) jar name value h.0 (flip c.0 name ∙ e), k)

pub own_insert : (jar : Cookies) (name value : List ℕ) → AreOwn jar → AreOwn (insert_entry bytes_eq jar name value)
unfolding IsDistinct
own_insert [] name value h = (tt, tt)
own_insert (c ∷ jar) name value h = own_chosen (bytes_eq name c.0) c jar name value refl h (own_insert jar name value h.1)

pub own_none : AreOwn []
unfolding IsDistinct
own_none = tt

-- the name is none of the jar's
abbrev IsNew : Cookies → List ℕ → Type 0
IsNew jar name = AllByRecursion (λ other. bytes_eq name other ≡ false) (keys_of jar)

new_more : (done : Cookies) (c : List ℕ × List ℕ) (name : List ℕ) → IsNew done name → bytes_eq name c.0 ≡ false → IsNew (done ++ c ∷ []) name
new_more [] c name h e = (e, tt)
new_more (d ∷ done) c name h e = (h.0, new_more done c name h.1 e)

all_new : (done : Cookies) (c : List ℕ × List ℕ) (jar : Cookies) → AllByRecursion (IsNew done) (keys_of jar) → IsNew jar c.0 → AllByRecursion (IsNew (done ++ c ∷ [])) (keys_of jar)
all_new done c [] h k = tt
all_new done c (d ∷ jar) h k = (new_more done c d.0 h.0 (flip d.0 c.0 ∙ k.0), all_new done c jar h.1 k.1)

all_inserted : (jar done : Cookies) → AreOwn jar → AllByRecursion (IsNew done) (keys_of jar) → insert_all bytes_eq done jar ≡ done ++ jar
unfolding IsDistinct
all_inserted [] done own h = sym (append-nil done)
all_inserted (c ∷ jar) done own h =
    ap (λ d. insert_all bytes_eq d jar) (insert_entry-absent bytes_eq c.0 c.1 done h.0)
    ∙ (all_inserted jar (done ++ c ∷ []) own.1 (all_new done c jar h.1 own.0) ∙ append_assoc done (c ∷ []) jar)

new_to_none : (jar : Cookies) → AllByRecursion (IsNew []) (keys_of jar)
new_to_none [] = tt
new_to_none (c ∷ jar) = (tt, new_to_none jar)

pub all_again : (jar : Cookies) → AreOwn jar → insert_all bytes_eq [] jar ≡ jar
all_again jar own = all_inserted jar [] own (new_to_none jar)
