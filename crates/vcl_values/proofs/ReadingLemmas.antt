-- From what `regex` says of a pattern that it read or refused to the text's reading.
use Rattle.std.proofs.Common.{◌≡◌, ◌≢◌, ◌⊎◌, ◌<◌, ◌≤◌, ℕ, true, List, Option, Some, None, IsSomeAnd, IfSome, is_some, option_map, refl, sym, ◌∙◌, ap, inl, inr, ⊎_elim, get_or, length, false, option_and_then}
use Rattle.std.proofs.lemmas.Bool.{cond-true, cond-false, false_from_ne_true}
use Rattle.std.proofs.lemmas.Str.{IsUtf8-from_is_utf8}
use Rattle.std.specs.Str.{is_utf8, chars, IsUtf8}
use Rattle.regex.specs.Patterns.{Re, find, SameCaptures, Reads, Refuses}
use Rattle.regex.specs.Bytes.{regex_source, regex_pattern}
use Rattle.regex.specs.declared.bytes.regex.Regex.{Regex}
use Rattle.regex_syntax.specs.Brackets.{Nested}
use Rattle.regex_syntax.specs.Grammar.{Names, read, group_count}
use Rattle.regex_syntax.specs.declared.error.ErrorKind.{ErrorKind}
use Rattle.regex_syntax.specs.declared.error.ErrorKind.TheVariants.{OutOfMemory}
use Rattle.regex.proofs.ForCallers.{is_match_alike}
use Rattle.regex.specs.Names.{names_of}
use Rattle.vcl_values.specs.ReadHere.{IsReadHere}
use Rattle.vcl_values.specs.Readings.{options, reading, tree_of, first_found, IsAccepted, HasNoReading, NestsTooDeep}

-- the reading of a text that is UTF-8
reading-utf8 : (source : List ℕ) → is_utf8 source ≡ true → reading source ≡ read options (chars source)
unfolding reading
reading-utf8 source text = cond-true (is_utf8 source) (read options (chars source)) None text

either : (found : Option (Nested Re × Names)) → IfSome found (λ r. options.nest_limit < r.0.depth) → (found ≡ None) ⊎ IsSomeAnd found (λ r. options.nest_limit < r.0.depth)
either None deep = inl refl
either (Some r) deep = inr deep

-- a refusal other than for memory has its cause in the text
pub refusal_cause : (source : List ℕ) (kind : ErrorKind) → is_utf8 source ≡ true → kind ≢ OutOfMemory → Refuses options source kind → HasNoReading source ⊎ NestsTooDeep source
unfolding Refuses
refusal_cause source kind text no_memory refused =
    rw (reading-utf8 source text) (⊎_elim (λ out. absurd (no_memory out)) (λ other. ⊎_elim (λ none. inl none) (λ deep. either (read options (chars source)) deep.1) other) refused)

holds_of : {A : Type 0} (o : Option A) (P Q : A → Type 0) → ((x : A) → P x → Q x) → IsSomeAnd o P → IsSomeAnd o Q
holds_of None P Q f p = absurd p
holds_of (Some x) P Q f p = f x p

tree : (found : Option (Nested Re × Names)) (re : Re) → IsSomeAnd found (λ r. SameCaptures re r.0.value) → (t : Re) × (option_map (λ r. r.0.value) found ≡ Some t) × SameCaptures re t
tree None re holds = absurd holds
tree (Some r) re holds = (r.0.value, refl, holds)

-- a regex that is read from its text matches as the text's tree does
pub tree_of-regex : (r : Regex) → IsReadHere r → (t : Re) × (tree_of (regex_source r) ≡ Some t) × SameCaptures (regex_pattern r) t
unfolding Reads tree_of
tree_of-regex r here =
    let reads : Reads options (regex_source r) r.pattern.program.hir (names_of r.pattern.names.items) = rw here.config at here.is_read in
    let Whole : Nested Re × Names → Type 0 = λ x. (x.0.depth ≤ options.nest_limit) × SameCaptures (regex_pattern r) x.0.value × (names_of r.pattern.names.items ≡ x.1) × (group_count (regex_pattern r) ≤ length (names_of r.pattern.names.items)) in
    let Alike : Nested Re × Names → Type 0 = λ x. SameCaptures (regex_pattern r) x.0.value in
    let found = tree (read options (chars (regex_source r))) (regex_pattern r) (holds_of (read options (chars (regex_source r))) Whole Alike (λ x h. h.1) reads) in
    (found.0, ap (option_map (λ (x : Nested Re × Names). x.0.value)) (reading-utf8 (regex_source r) here.utf8) ∙ found.1, found.2)

pub first_found-regex : (r : Regex) → IsReadHere r → (text : List ℕ) → ((k : ℕ) → get_or text k 0 < 256) → is_some (find (regex_pattern r) text 0) ≡ is_some (first_found (regex_source r) text)
unfolding first_found
first_found-regex r here text bytes =
    let t = tree_of-regex r here in
    is_match_alike t.2 text bytes false 0 ∙ ap (λ o. is_some (option_and_then (λ re. find re text 0) o)) (sym t.1)

-- and its text is accepted
pub IsAccepted-regex : (r : Regex) → IsReadHere r → IsAccepted (regex_source r)
unfolding Reads
IsAccepted-regex r here =
    let reads : Reads options (regex_source r) r.pattern.program.hir (names_of r.pattern.names.items) = rw here.config at here.is_read in
    let Whole : Nested Re × Names → Type 0 = λ x. (x.0.depth ≤ options.nest_limit) × SameCaptures (regex_pattern r) x.0.value × (names_of r.pattern.names.items ≡ x.1) × (group_count (regex_pattern r) ≤ length (names_of r.pattern.names.items)) in
    let Shallow : Nested Re × Names → Type 0 = λ x. x.0.depth ≤ options.nest_limit in
    rw (reading-utf8 (regex_source r) here.utf8) (holds_of (read options (chars (regex_source r))) Whole Shallow (λ x h. h.0) reads)

-- a text that isn't UTF-8 has no reading
pub HasNoReading-bytes : (source : List ℕ) → (IsUtf8 source → ⊥) → HasNoReading source
unfolding reading
HasNoReading-bytes source raw = cond-false (is_utf8 source) (read options (chars source)) None (false_from_ne_true (is_utf8 source) (λ text. raw (IsUtf8-from_is_utf8 source text)))

accepted : (found : Option (Nested Re × Names)) → found ≡ None → IsSomeAnd found (λ r. r.0.depth ≤ options.nest_limit) → ⊥
accepted None none fits = fits
accepted (Some r) none fits = cc

-- no text without a reading is accepted
pub IsAccepted-reading : (source : List ℕ) → IsAccepted source → HasNoReading source → ⊥
IsAccepted-reading source fits none = accepted (reading source) none fits
