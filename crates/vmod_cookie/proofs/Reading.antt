-- How a jar's text is read: the function on texts says what the relation of quoted texts says.
use Rattle.std.proofs.Common.{◌≡◌, ℕ, zero, suc, ◌+◌, ◌-◌, ◌<◌, ◌≤◌, List, [], ◌∷◌, ◌++◌, length, drop, sym, ap, ◌∙◌, subst, refl, arith, inl, inr, true, false, cond, length-append, length-drop}
use Rattle.std.specs.Prelude.{Option, Some, None, option_map}
use Rattle.std.specs.Option.{option_map_or, option_and_then}
use Rattle.std.specs.Str.{bytes_eq}
use Rattle.std.proofs.lemmas.Option.{some_pair_parts, none-some}
use Rattle.std.proofs.lemmas.Bool.Decides.{eqb_tells}
use Rattle.indexmap.specs.IndexMap.{insert_entry, insert_all}
use Rattle.units.specs.Quoted.{ReadsPieces, IsQuoted, IsQuotedAt, piece}
use Rattle.units.proofs.Pieces.{piece_ends, quoted_at}
use Rattle.vmod_host.specs.Jar.{Cookies}
use Rattle.vmod_host.specs.JarText.{behind_quote, body_of, quoted_in, cookie_in, cookies_in}

pieces_long : (values body rest : List ℕ) → ReadsPieces values body rest → length values + length rest ≤ length body
pieces_long [] body rest h = omega (arith, ap length h)
pieces_long (value ∷ values) body rest h =
    let first = piece_ends body value h.0 h.1 in
    omega (arith, ap length first.joined, length-append first.front h.0, first.some, pieces_long values h.0 rest h.2)

-- pieces and a quote mark are read
body_read : (values body rest : List ℕ) (most : ℕ) → length values < most → ReadsPieces values body (34 ∷ rest) → body_of most body ≡ Some (values, rest)
body_read values body rest zero l h = absurd (omega arith)
body_read [] body rest (suc most) l h = subst (λ b. body_of (suc most) b ≡ Some ([], rest)) (sym h) refl
body_read (value ∷ values) body rest (suc most) l h =
    let more = body_read values h.0 rest most (omega arith) h.2 in
    ap (λ o. option_map_or (λ first. option_map (λ m. (first.0 ∷ m.0, m.1)) (body_of most first.1)) o (option_map (λ r. ([], r)) (behind_quote body))) h.1
    ∙ ap (option_map (λ m. (value ∷ m.0, m.1))) more

pub quoted_read : (values bytes rest : List ℕ) → IsQuoted values bytes rest → quoted_in bytes ≡ Some (values, rest)
quoted_read values bytes rest h =
    let long = pieces_long values h.0 (34 ∷ rest) h.2 in
    subst (λ b. quoted_in b ≡ Some (values, rest)) (sym h.1) (body_read values h.0 rest (length (34 ∷ h.0)) (omega arith) h.2)

-- what is read is pieces and a quote mark
closed_told : (body values rest : List ℕ) → option_map {U = List ℕ × List ℕ} (λ r. ([], r)) (behind_quote body) ≡ Some (values, rest) → ([] ≡ values) × (body ≡ 34 ∷ rest)
closed_told [] values rest e = absurd (none-some (values, rest) e)
closed_told (b ∷ body) values rest e =
    elim (eqb_tells b 34) [
      | inl h ↦
          let same = some_pair_parts [] values body rest (sym (ap (λ t. option_map {U = List ℕ × List ℕ} (λ r. ([], r)) (cond t (Some body) None)) h.0) ∙ e) in
          let first = h.1 in
          let tail = same.1 in
          (same.0, cc)
      | inr h ↦ absurd (none-some (values, rest) (sym (ap (λ t. option_map {U = List ℕ × List ℕ} (λ r. ([], r)) (cond t (Some body) None)) h.0) ∙ e))
    ]

abbrev IsTold : (List ℕ → Option (List ℕ × List ℕ)) → Type 0
IsTold read = (body values rest : List ℕ) → read body ≡ Some (values, rest) → ReadsPieces values body (34 ∷ rest)

abbrev prepended : ℕ → Option (List ℕ × List ℕ) → Option (List ℕ × List ℕ)
prepended first more = option_map (λ m. (first ∷ m.0, m.1)) more

piece_told : (read : List ℕ → Option (List ℕ × List ℕ)) → IsTold read → (body values rest : List ℕ) (first : ℕ) (behind : List ℕ) → piece body ≡ Some (first, behind)
    → (more : Option (List ℕ × List ℕ)) → read behind ≡ more → prepended first more ≡ Some (values, rest) → ReadsPieces values body (34 ∷ rest)
piece_told read told body values rest first behind p None m e = absurd (none-some (values, rest) e)
piece_told read told body values rest first behind p (Some more) m e =
    let same = some_pair_parts (first ∷ more.0) values more.1 rest e in
    let pieces : ReadsPieces (first ∷ more.0) body (34 ∷ more.1) = (behind, p, told behind more.0 more.1 m) in
    subst (λ v. ReadsPieces v body (34 ∷ rest)) same.0 (subst (λ r. ReadsPieces (first ∷ more.0) body (34 ∷ r)) same.1 pieces)

step_told : (read : List ℕ → Option (List ℕ × List ℕ)) → IsTold read → (body values rest : List ℕ) (first : Option (ℕ × List ℕ)) → piece body ≡ first
    → option_map_or (λ f. prepended f.0 (read f.1)) first (option_map (λ r. ([], r)) (behind_quote body)) ≡ Some (values, rest) → ReadsPieces values body (34 ∷ rest)
step_told read told body values rest None p e =
    let closed = closed_told body values rest e in
    subst (λ v. ReadsPieces v body (34 ∷ rest)) closed.0 closed.1
step_told read told body values rest (Some first) p e = piece_told read told body values rest first.0 first.1 p (read first.1) refl e

body_told : (most : ℕ) (body values rest : List ℕ) → body_of most body ≡ Some (values, rest) → ReadsPieces values body (34 ∷ rest)
body_told zero body values rest e = absurd (none-some (values, rest) e)
body_told (suc most) body values rest e = step_told (body_of most) (λ b v r k. body_told most b v r k) body values rest (piece body) refl e

pub quoted_told : (bytes values rest : List ℕ) → quoted_in bytes ≡ Some (values, rest) → IsQuoted values bytes rest
quoted_told [] values rest e = absurd (none-some (values, rest) e)
quoted_told (b ∷ bytes) values rest e =
    elim (eqb_tells b 34) [
      | inl h ↦
          let read = body_told (length (b ∷ bytes)) bytes values rest (sym (ap (λ t. option_and_then (body_of (length (b ∷ bytes))) (cond t (Some bytes) None)) h.0) ∙ e) in
          (bytes, ap (λ f. f ∷ bytes) h.1, read)
      | inr h ↦ absurd (none-some (values, rest) (sym (ap (λ t. option_and_then (body_of (length (b ∷ bytes))) (cond t (Some bytes) None)) h.0) ∙ e))
    ]

-- the same at a place
pub found_read : (text values : List ℕ) (from behind : ℕ) → IsQuotedAt text from values behind → (quoted_in (drop from text) ≡ Some (values, drop behind text)) × (from < behind) × (behind ≤ length text)
found_read text values from behind h =
    let long = pieces_long values h.2.0 (34 ∷ drop behind text) h.2.2 in
    let whole = ap length h.2.1 in
    (quoted_read values (drop from text) (drop behind text) h.2, omega (arith, long, whole, length-drop from text, length-drop behind text), h.1)

pub missing_read : (text : List ℕ) (from : ℕ) → from ≤ length text → ((values : List ℕ) (behind : ℕ) → IsQuotedAt text from values behind → ⊥) → quoted_in (drop from text) ≡ None
missing_read text from within none = by (quoted_in (drop from text)) refl
  where
    by : (found : Option (List ℕ × List ℕ)) → quoted_in (drop from text) ≡ found → found ≡ None
    by None e = refl
    by (Some found) e =
        let h = quoted_told (drop from text) found.0 found.1 e in
        absurd (none found.0 _ (quoted_at text from h.0 found.1 found.0 within h.1 h.2).1)

-- As far as a jar's text is read: the cookies that are left make of the jar so far what all of them make.
pub record Reads (text : List ℕ) (from : ℕ) (jar : Cookies) : Type 0 where
  pub within : from ≤ length text
  pub most : ℕ
  pub enough : length text - from ≤ most
  pub leads : insert_all bytes_eq jar (cookies_in most (drop from text)) ≡ insert_all bytes_eq [] (cookies_in (length text) text)

pub reads_first : (text : List ℕ) (jar : Cookies) → jar ≡ [] → Reads text 0 jar
reads_first text jar e =
    record { within = omega arith; most = length text; enough = omega arith; leads = ap (λ j. insert_all bytes_eq j (cookies_in (length text) text)) e }

cookie_at : (text : List ℕ) (name value : List ℕ) (from middle behind : ℕ) → quoted_in (drop from text) ≡ Some (name, drop middle text) → quoted_in (drop middle text) ≡ Some (value, drop behind text) → cookie_in (drop from text) ≡ Some ((name, value), drop behind text)
cookie_at text name value from middle behind e k =
    ap (option_and_then (λ n. option_map (λ v. ((n.0, v.0), v.1)) (quoted_in n.1))) e ∙ ap (option_map (λ v. ((name, v.0), v.1))) k

more_cookies : (most : ℕ) (text rest name value : List ℕ) → cookie_in text ≡ Some ((name, value), rest) → cookies_in (suc most) text ≡ (name, value) ∷ cookies_in most rest
more_cookies most text rest name value e = ap (λ o. option_map_or (λ first. first.0 ∷ cookies_in most first.1) o []) e

no_cookies : (most : ℕ) (text : List ℕ) → cookie_in text ≡ None → cookies_in most text ≡ []
no_cookies zero text e = refl
no_cookies (suc most) text e = ap (λ o. option_map_or (λ first. first.0 ∷ cookies_in most first.1) o []) e

-- one cookie more
pub reads_more : (text : List ℕ) (from middle behind : ℕ) (jar : Cookies) (name value : List ℕ)
    → Reads text from jar
    → (quoted_in (drop from text) ≡ Some (name, drop middle text)) × (from < middle) × (middle ≤ length text)
    → (quoted_in (drop middle text) ≡ Some (value, drop behind text)) × (middle < behind) × (behind ≤ length text)
    → Reads text behind (insert_entry bytes_eq jar name value)
reads_more text from middle behind jar name value r first second = by r.most r.enough r.leads
  where
    by : (most : ℕ) → length text - from ≤ most → insert_all bytes_eq jar (cookies_in most (drop from text)) ≡ insert_all bytes_eq [] (cookies_in (length text) text) → Reads text behind (insert_entry bytes_eq jar name value)
    by zero enough leads = absurd (omega arith)
    by (suc most) enough leads =
        let more = more_cookies most (drop from text) (drop behind text) name value (cookie_at text name value from middle behind first.0 second.0) in
        record { within = second.2; most = most; enough = omega arith; leads = sym (ap (insert_all bytes_eq jar) more) ∙ leads }

-- no name, or no value behind it
pub reads_end : (text : List ℕ) (from : ℕ) (jar : Cookies) → Reads text from jar → quoted_in (drop from text) ≡ None → jar ≡ insert_all bytes_eq [] (cookies_in (length text) text)
reads_end text from jar r e =
    sym (ap (insert_all bytes_eq jar) (no_cookies r.most (drop from text) (ap (option_and_then (λ n. option_map (λ v. ((n.0, v.0), v.1)) (quoted_in n.1))) e))) ∙ r.leads

pub reads_half : (text : List ℕ) (from middle : ℕ) (jar : Cookies) (name : List ℕ) → Reads text from jar → quoted_in (drop from text) ≡ Some (name, drop middle text) → quoted_in (drop middle text) ≡ None → jar ≡ insert_all bytes_eq [] (cookies_in (length text) text)
reads_half text from middle jar name r e k =
    sym (ap (insert_all bytes_eq jar) (no_cookies r.most (drop from text) (ap (option_and_then (λ n. option_map (λ v. ((n.0, v.0), v.1)) (quoted_in n.1))) e ∙ ap (option_map (λ v. ((name, v.0), v.1))) k))) ∙ r.leads
