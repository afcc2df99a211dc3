-- Texts that are cut behind some of their bytes.
use Rattle.std.proofs.Common.{take_all, ◌≡◌, ◌∙◌, ℕ, zero, suc, ◌<◌, ◌≤◌, ◌-◌, ◌+◌, List, [], ◌∷◌, ◌++◌, length, take, drop, refl, ap, ap₂, arith, append_assoc, length-append, slice_range}
use Rattle.std.proofs.lemmas.List.{length-take}
use Rattle.regex.specs.Patterns.{Match}
use Rattle.regex.specs.Replace.{replaced_by, IsReplacedInTurn}
use Rattle.vcl_values.specs.Cuts.{IsCutFrom}

take_again : (n : ℕ) (front back : List ℕ) → take n (take n front ++ back) ≡ take n (front ++ back)
take_again zero front back = refl
take_again (suc n) [] back = refl
take_again (suc n) (x ∷ front) back = ap (λ rest. x ∷ rest) (take_again n front back)

-- one part more, cut at once
pub cut_on : (n : ℕ) (out part rest longer whole : List ℕ) → longer ≡ take n (out ++ part) → take n (out ++ (part ++ rest)) ≡ whole → take n (longer ++ rest) ≡ whole
cut_on n out part rest longer whole e h = rw e (take_again n (out ++ part) rest ∙ ap (take n) (append_assoc out part rest) ∙ h)

-- matches replaced from a position on, where all that is put in their places is cut behind so many bytes
unfoldable pub limited : (Match → List ℕ) → ℕ → List ℕ → ℕ → List Match → List ℕ
limited told room hay at [] = drop at hay
limited told room hay at (m ∷ ms) = (slice_range hay at m.start ++ take room (told m)) ++ limited told (room - length (take room (told m))) hay m.trace.end ms

-- a replacement in turn, where the state has the room that is left
pub limited-in_turn : {S : Type 0} (Writes : S → Match → List ℕ → S → Type 0) (Keeps : S → ℕ → Type 0) (told : Match → List ℕ)
    → ((s : S) (m : Match) (w : List ℕ) (next : S) (room : ℕ) → Keeps s room → Writes s m w next → (w ≡ take room (told m)) × Keeps next (room - length w))
    → (hay : List ℕ) (ms : List Match) (s : S) (room at : ℕ) (out : List ℕ) → Keeps s room → IsReplacedInTurn Writes hay s at ms out → out ≡ limited told room hay at ms
unfolding limited
limited-in_turn Writes Keeps told tells hay [] s room at out kept turn = turn
limited-in_turn Writes Keeps told tells hay (m ∷ ms) s room at out kept turn =
    let step = tells s m turn.0 turn.2 room kept turn.3 in
    let later : turn.1 ≡ limited told (room - length turn.0) hay m.trace.end ms = limited-in_turn Writes Keeps told tells hay ms turn.2 (room - length turn.0) m.trace.end turn.1 step.1 turn.4 in
    turn.5 ∙ ap₂ (λ w rest. (slice_range hay at m.start ++ w) ++ rest) step.0 (later ∙ ap (λ w. limited told (room - length w) hay m.trace.end ms) step.0)

lengths : (a b c : List ℕ) → length ((a ++ b) ++ c) ≡ length a + length b + length c
lengths a b c = rw (length-append (a ++ b) c, length-append a b) refl

within_is : (told : Match → List ℕ) (hay : List ℕ) (ms : List Match) (room at : ℕ) → length (limited told room hay at ms) < room → limited told room hay at ms ≡ replaced_by told hay at ms
unfolding limited replaced_by
within_is told hay [] room at short = refl
within_is told hay (m ∷ ms) room at short =
    let kept = slice_range hay at m.start in
    let put = take room (told m) in
    let long = lengths kept put (limited told (room - length put) hay m.trace.end ms) in
    let cut = length-take room (told m) in
    let whole : put ≡ told m = take_all room (told m) (omega arith) in
    let rest = within_is told hay ms (room - length put) m.trace.end (omega arith) in
    ap₂ (λ w behind. (kept ++ w) ++ behind) whole rest

no_longer : (told : Match → List ℕ) (hay : List ℕ) (ms : List Match) (room at : ℕ) → length (limited told room hay at ms) ≤ length (replaced_by told hay at ms)
unfolding limited replaced_by
no_longer told hay [] room at = omega arith
no_longer told hay (m ∷ ms) room at =
    let kept = slice_range hay at m.start in
    let put = take room (told m) in
    let a = lengths kept put (limited told (room - length put) hay m.trace.end ms) in
    let b = lengths kept (told m) (replaced_by told hay m.trace.end ms) in
    let cut = length-take room (told m) in
    let rest = no_longer told hay ms (room - length put) m.trace.end in
    omega arith

pub limited_is-cut : (told : Match → List ℕ) (hay : List ℕ) (ms : List Match) (limit at : ℕ) → IsCutFrom limit (replaced_by told hay at ms) (limited told (limit + 1) hay at ms)
limited_is-cut told hay ms limit at = record {
  within = λ short. within_is told hay ms (limit + 1) at (omega arith);
  over = λ long. omega (arith, no_longer told hay ms (limit + 1) at);
}
