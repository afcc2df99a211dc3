-- Reading items one by one.
use Rattle.std.proofs.Common.{◌≡◌, ℕ, suc, ◌+◌, ◌-◌, ◌<◌, ◌≤◌, List, [], ◌∷◌, ◌++◌, sym, ap, ◌∙◌, refl, arith, append_assoc}
use Rattle.std.proofs.lemmas.List.{append-nil}
use Rattle.std.specs.Prelude.{Ok, Err}
use Rattle.journal_text.specs.declared.word.Word.{Word}
use Rattle.journal_reader.specs.declared.fault.Stop.{Stop}
use Rattle.journal_reader.specs.Reading.{Read, onward, items_at}

-- items that were read, before those still to be read
abbrev pub behind : {X : Type 0} → List X → List X × List Word → Read (List X)
behind front found = Ok (front ++ found.0, found.1)

pub behind_none : {X : Type 0} (read : Read (List X)) → read ≡ onward (behind []) read
behind_none (Ok found) = refl
behind_none (Err stop) = refl

pub behind_one : {X : Type 0} (x : X) (front : List X) (read : Read (List X)) → onward (behind front) (onward (λ found. Ok (x ∷ found.0, found.1)) read) ≡ onward (behind (front ++ x ∷ [])) read
behind_one x front (Ok found) = ap (λ xs. Ok (xs, found.1)) (sym (append_assoc front (x ∷ []) found.0))
behind_one x front (Err stop) = refl

-- so many items were read, and the rest of them is still to be read
abbrev pub IsHalf : {X : Type 0} → (List Word → Read X) → ℕ → List Word → ℕ → List X → List Word → Type 0
IsHalf one count whole at front words = items_at one count whole ≡ onward (behind front) (items_at one (count - at) words)

pub half_begins : {X : Type 0} (one : List Word → Read X) (count : ℕ) (whole : List Word) → IsHalf one count whole 0 [] whole
half_begins one count whole =
    let all : count - 0 ≡ count = omega arith in
    behind_none (items_at one count whole) ∙ ap (λ n. onward (behind []) (items_at one n whole)) (sym all)

one_more : (count at : ℕ) → at < count → count - at ≡ suc (count - (at + 1))
one_more count at h = omega (arith, h)

pub half_goes_on : {X : Type 0} (one : List Word → Read X) (count : ℕ) (whole : List Word) (at : ℕ) (front : List X) (words rest : List Word) (x : X) → IsHalf one count whole at front words → at < count → one words ≡ Ok (x, rest) → IsHalf one count whole (at + 1) (front ++ x ∷ []) rest
unfolding items_at
half_goes_on one count whole at front words rest x h less e =
    let turn : items_at one (suc (count - (at + 1))) words ≡ onward (λ found. Ok (x ∷ found.0, found.1)) (items_at one (count - (at + 1)) rest) = rw e refl in
    h ∙ (ap (λ n. onward (behind front) (items_at one n words)) (one_more count at less) ∙ (ap (onward (behind front)) turn ∙ behind_one x front (items_at one (count - (at + 1)) rest)))

pub half_stops : {X : Type 0} (one : List Word → Read X) (count : ℕ) (whole : List Word) (at : ℕ) (front : List X) (words : List Word) (stop : Stop) → IsHalf one count whole at front words → at < count → one words ≡ Err stop → items_at one count whole ≡ Err stop
unfolding items_at
half_stops one count whole at front words stop h less e =
    let turn : items_at one (suc (count - (at + 1))) words ≡ Err stop = rw e refl in
    h ∙ (ap (λ n. onward (behind front) (items_at one n words)) (one_more count at less) ∙ ap (onward (behind front)) turn)

pub half_ends : {X : Type 0} (one : List Word → Read X) (count : ℕ) (whole : List Word) (at : ℕ) (front : List X) (words : List Word) → IsHalf one count whole at front words → count ≤ at → items_at one count whole ≡ Ok (front, words)
unfolding items_at
half_ends one count whole at front words h least =
    let none : count - at ≡ 0 = omega (arith, least) in
    h ∙ (ap (λ n. onward (behind front) (items_at one n words)) none ∙ ap (λ xs. Ok (xs, words)) (append-nil front))
