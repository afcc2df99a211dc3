-- Words are read one by one.
use Rattle.std.proofs.Common.{◌≡◌, ℕ, ◌+◌, ◌-◌, ◌<◌, ◌≤◌, List, [], ◌∷◌, ◌++◌, length, sym, ap, ◌∙◌, subst, arith, append_assoc, length-append}
use Rattle.std.proofs.lemmas.List.{append-nil}
use Rattle.journal_text.specs.declared.word.Word.{Word}
use Rattle.journal_text.specs.Words.{word_text}
use Rattle.journal_reader.specs.Fronts.{AreFront, IsFirst, StandFirst, columns as places}

-- words and their columns were read, and the rest of the line is still to be read
pub record IsGoing (line rest : List ℕ) (words : List Word) (columns : List ℕ) : Type 0 where
  pub within : length rest ≤ length line
  pub stand : (later : List Word) → StandFirst rest later → StandFirst line (words ++ later)
  pub placed : (later : List Word) → columns ++ places (length line - length rest + 1) later ≡ places 1 (words ++ later)

pub going_begins : (line : List ℕ) → IsGoing line line [] []
going_begins line =
    let start : length line - length line + 1 ≡ 1 = omega arith in
    record { within = omega arith; stand = λ later s. s; placed = λ later. ap (λ at. places at later) start }

first_length : (rest : List ℕ) (word : Word) (behind : List ℕ) → IsFirst rest word behind → length rest ≡ length (word_text word) + (1 + length behind)
first_length rest word behind f =
    let whole : length rest ≡ length (word_text word ++ 32 ∷ behind) = ap length f.written in
    let parts : length (word_text word ++ 32 ∷ behind) ≡ length (word_text word) + length (32 ∷ behind) = length-append (word_text word) (32 ∷ behind) in
    let last : length (32 ∷ behind) ≡ 1 + length behind = omega arith in
    omega (arith, whole, parts, last)

pub shorter : (rest : List ℕ) (word : Word) (behind : List ℕ) → IsFirst rest word behind → length behind < length rest
shorter rest word behind f = let e = first_length rest word behind f in omega (arith, e)

pub going_on : (line rest : List ℕ) (words : List Word) (columns : List ℕ) (word : Word) (behind : List ℕ) → IsGoing line rest words columns → IsFirst rest word behind → IsGoing line behind (words ++ word ∷ []) (columns ++ (length line - length rest + 1) ∷ [])
going_on line rest words columns word behind g f =
    let e = first_length rest word behind f in
    let within = g.within in
    let next : length line - length behind + 1 ≡ (length line - length rest + 1) + (length (word_text word) + 1) = omega (arith, e, within) in
    record {
      within = omega (arith, e, within);
      stand = λ later s. subst (λ all. StandFirst line all) (sym (append_assoc words (word ∷ []) later)) (g.stand (word ∷ later) (behind, f, s));
      placed = λ later.
          append_assoc columns ((length line - length rest + 1) ∷ []) (places (length line - length behind + 1) later)
          ∙ (ap (λ at. columns ++ (length line - length rest + 1) ∷ places at later) next
          ∙ (g.placed (word ∷ later) ∙ ap (places 1) (sym (append_assoc words (word ∷ []) later))));
    }

pub going_ends : (line rest : List ℕ) (words : List Word) (columns : List ℕ) → IsGoing line rest words columns → StandFirst rest [] → AreFront line words (columns ++ (length line - length rest + 1) ∷ [])
going_ends line rest words columns g s =
    record {
      stand = subst (λ all. StandFirst line all) (append-nil words) (g.stand [] s);
      placed = g.placed [] ∙ ap (places 1) (append-nil words);
    }
