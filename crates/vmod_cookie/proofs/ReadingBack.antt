-- What is written of a jar is that jar again, and operations keep what that needs: names that differ, and bytes.
use Rattle.std.proofs.Common.{◌≡◌, ℕ, zero, suc, ◌+◌, ◌-◌, ◌<◌, ◌≤◌, List, [], ◌∷◌, ◌++◌, length, get_or, map, filter, take, drop, sym, ap, ◌∙◌, subst, refl, arith, Bool, true, false, cond, length-append, append_assoc, inl, inr}
use Rattle.std.specs.Prelude.{Option, Some, None, option_map, fold, All, position}
use Rattle.std.specs.Option.{option_map_or, option_and_then}
use Rattle.std.specs.List.{AllByRecursion, slice_split, onto_first, prefix_len, suffix_len}
use Rattle.std.specs.Map.{keys_of}
use Rattle.std.specs.Str.{bytes_eq}
use Rattle.std.specs.Cmp.Lexicographic.{nat_list_eq_equiv}
use Rattle.std.proofs.lemmas.List.{get_or_past}
use Rattle.std.proofs.lemmas.List.Elements.{All-nil, All-cons, All-head, All-tail, All-take, All-drop}
use Rattle.std.proofs.lemmas.Map.Made.{IsDistinct-keys_filter}
use native.Mathlib.Decide.{dec_lt}
use Rattle.indexmap.specs.IndexMap.{insert_entry, insert_all}
use Rattle.units.specs.Blanks.{trimmed, after_blanks, is_blank}
use Rattle.units.specs.Quoted.{quote_of}
use Rattle.units.proofs.Pieces.{quote_back}
use Rattle.vmod_host.specs.Jar.{Cookies, with_cookie, with_part, parts_at, parsed, is_equals}
use Rattle.vmod_host.specs.JarText.{written, checked, jar_of, quoted_in, cookie_in, cookies_in}
use Rattle.vmod_cookie.specs.Operations.{IsBytes}
use Rattle.vmod_cookie.proofs.Reading.{quoted_read}
use Rattle.vmod_cookie.proofs.OwnNames.{AreOwn, own_insert, own_none, all_again}

abbrev HaveBytes : Cookies → Type 0
HaveBytes jar = AllByRecursion (λ c. IsBytes c.0 × IsBytes c.1) jar

-- a jar as operations make it
pub record IsGood (jar : Cookies) : Type 0 where
  pub own : AreOwn jar
  pub bytes : HaveBytes jar

byte_at : (text : List ℕ) → IsBytes text → (i : ℕ) → get_or text i 0 < 256
byte_at text h i = elim (dec_lt i (length text)) [ yes l ↦ h i 0 l | no l ↦ subst (λ b. b < 256) (sym (get_or_past text i 0 (omega arith))) (omega arith) ]

quoted_back : (text rest : List ℕ) → IsBytes text → quoted_in (quote_of text ++ rest) ≡ Some (text, rest)
quoted_back text rest h = quoted_read text (quote_of text ++ rest) rest (quote_back text rest (byte_at text h))

cookie_back : (c : List ℕ × List ℕ) (jar : Cookies) → IsBytes c.0 → IsBytes c.1 → cookie_in (written (c ∷ jar)) ≡ Some (c, written jar)
cookie_back c jar h k =
    ap cookie_in (append_assoc (quote_of c.0) (quote_of c.1) (written jar))
    ∙ (ap (option_and_then (λ n. option_map (λ v. ((n.0, v.0), v.1)) (quoted_in n.1))) (quoted_back c.0 (quote_of c.1 ++ written jar) h)
    ∙ ap (option_map (λ v. ((c.0, v.0), v.1))) (quoted_back c.1 (written jar) k))

cookies_back : (jar : Cookies) (most : ℕ) → HaveBytes jar → length jar ≤ most → cookies_in most (written jar) ≡ jar
cookies_back [] zero h l = refl
cookies_back [] (suc most) h l = refl
cookies_back (c ∷ jar) zero h l = absurd (omega arith)
cookies_back (c ∷ jar) (suc most) h l =
    ap (λ o. option_map_or (λ first. first.0 ∷ cookies_in most first.1) o []) (cookie_back c jar h.0.0 h.0.1)
    ∙ ap (λ more. c ∷ more) (cookies_back jar most h.1 (omega arith))

written_long : (jar : Cookies) → length jar ≤ length (written jar)
written_long [] = omega arith
written_long (c ∷ jar) =
    omega (arith, length-append (quote_of c.0 ++ quote_of c.1) (written jar), length-append (quote_of c.0) (quote_of c.1), written_long jar)

pub jar_back : (jar : Cookies) → IsGood jar → jar_of (written jar) ≡ jar
jar_back jar good =
    ap (checked (written jar)) (ap (insert_all bytes_eq []) (cookies_back jar (length (written jar)) good.bytes (written_long jar)) ∙ all_again jar good.own)
    ∙ ap (λ b. cond b jar []) (nat_list_eq_equiv.refl (written jar))

pub good_none : IsGood []
good_none = record { own = own_none; bytes = tt }

bytes_chosen : (b : Bool) (c : List ℕ × List ℕ) (jar more : Cookies) (value : List ℕ) → HaveBytes (c ∷ jar) → IsBytes value → HaveBytes more → HaveBytes (cond b ((c.0, value) ∷ jar) (c ∷ more))
bytes_chosen true c jar more value h v k = ((h.0.0, v), h.1)
bytes_chosen false c jar more value h v k = (h.0, k)

bytes_insert : (jar : Cookies) (name value : List ℕ) → HaveBytes jar → IsBytes name → IsBytes value → HaveBytes (insert_entry bytes_eq jar name value)
bytes_insert [] name value h n v = ((n, v), tt)
bytes_insert (c ∷ jar) name value h n v = bytes_chosen (bytes_eq name c.0) c jar (insert_entry bytes_eq jar name value) value h v (bytes_insert jar name value h.1 n v)

pub good_set : (jar : Cookies) (name value : List ℕ) → IsGood jar → IsBytes name → IsBytes value → IsGood (with_cookie jar name value)
good_set jar [] value good n v = good
good_set jar (b ∷ name) value good n v = record { own = own_insert jar (b ∷ name) value good.own; bytes = bytes_insert jar (b ∷ name) value good.bytes n v }

bytes_kept : (b : Bool) (c : List ℕ × List ℕ) (more : Cookies) → IsBytes c.0 × IsBytes c.1 → HaveBytes more → HaveBytes (cond b (c ∷ more) more)
bytes_kept true c more h k = (h, k)
bytes_kept false c more h k = k

bytes_filter : (p : List ℕ × List ℕ → Bool) (jar : Cookies) → HaveBytes jar → HaveBytes (filter p jar)
bytes_filter p [] h = tt
bytes_filter p (c ∷ jar) h = bytes_kept (p c) c (filter p jar) h.0 (bytes_filter p jar h.1)

pub good_filter : (p : List ℕ × List ℕ → Bool) (jar : Cookies) → IsGood jar → IsGood (filter p jar)
good_filter p jar good = record { own = IsDistinct-keys_filter bytes_eq p jar good.own; bytes = bytes_filter p jar good.bytes }

good_at : (jar : Cookies) (part : List ℕ) (place : Option ℕ) → IsGood jar → IsBytes part → IsGood (option_map_or (λ at. with_cookie jar (take at part) (drop (at + 1) part)) place jar)
good_at jar part None good h = good
good_at jar part (Some at) good h = good_set jar (take at part) (drop (at + 1) part) good (All-take (λ x. x < 256) at part h) (All-drop (λ x. x < 256) (at + 1) part h)

good_part : (jar : Cookies) (part : List ℕ) → IsGood jar → IsBytes part → IsGood (with_part jar part)
good_part jar part good h = good_at jar part (position is_equals part) good h

good_parts : (parts : List (List ℕ)) (jar : Cookies) → IsGood jar → AllByRecursion IsBytes parts → IsGood (fold with_part jar parts)
good_parts [] jar good h = good
good_parts (part ∷ parts) jar good h = good_parts parts (with_part jar part) (good_part jar part good h.0) h.1

bytes_onto : (b : ℕ) (parts : List (List ℕ)) → b < 256 → AllByRecursion IsBytes parts → AllByRecursion IsBytes (onto_first b parts)
bytes_onto b [] l h = (All-cons (λ x. x < 256) b [] l (All-nil (λ x. x < 256)), tt)
bytes_onto b (part ∷ parts) l h = (All-cons (λ x. x < 256) b part l h.0, h.1)

bytes_cut : (t : Bool) (b : ℕ) (more : List (List ℕ)) → b < 256 → AllByRecursion IsBytes more → AllByRecursion IsBytes (cond t ([] ∷ more) (onto_first b more))
bytes_cut true b more l h = (All-nil (λ x. x < 256), h)
bytes_cut false b more l h = bytes_onto b more l h

bytes_split : (p : ℕ → Bool) (text : List ℕ) → IsBytes text → AllByRecursion IsBytes (slice_split p text)
bytes_split p [] h = (h, tt)
bytes_split p (b ∷ text) h = bytes_cut (p b) b (slice_split p text) (All-head (λ x. x < 256) b text h) (bytes_split p text (All-tail (λ x. x < 256) b text h))

bytes_trimmed : (parts : List (List ℕ)) → AllByRecursion IsBytes parts → AllByRecursion IsBytes (map trimmed parts)
bytes_trimmed [] h = tt
bytes_trimmed (part ∷ parts) h =
    (All-take (λ x. x < 256) (length (after_blanks part) - suffix_len is_blank (after_blanks part)) (after_blanks part) (All-drop (λ x. x < 256) (prefix_len is_blank part) part h.0), bytes_trimmed parts h.1)

pub good_parsed : (text : List ℕ) → IsBytes text → IsGood (parsed text)
good_parsed text h = good_parts _ [] good_none (bytes_trimmed _ (bytes_split _ text h))
