-- The scan finds the longest piece.
use Rattle.std.proofs.Common.{◌≡◌, ℕ, zero, suc, ◌+◌, ◌≤◌, ◌<◌, List, [], ◌∷◌, length, take, drop, refl, arith, sym, ◌∙◌, get_or, add-one, one-add, add-zero, add_assoc, drop-cons}
use Rattle.std.specs.Prelude.{Option, Some, None, MatchOption}
use Rattle.std.specs.Option.{option_and_then}
use Rattle.vcl_tokens.specs.declared.spelling.Form.{Form}
use Rattle.vcl_tokens.specs.declared.spelling.State.{State}
use Rattle.vcl_tokens.specs.declared.spelling.State.TheVariants as state
use Rattle.vcl_tokens.specs.Steps.{form_at, next_state, form_behind}
use Rattle.vcl_tokens.specs.Spelling.{IsNoPiece}
use Rattle.vcl_tokens.specs.Reading.{IsLongest}
use Rattle.vcl_tokens.proofs.Spelled.{sound, no_piece}
use Rattle.vcl_tokens.specs.Longest.{better, best_of, longest_behind}

-- What the longest piece behind a state is, or that there is none.
abbrev pub IsLongestBehind : State → List ℕ → Option (ℕ × Form) → Type 0
IsLongestBehind s bs found = MatchOption found
    ((m : ℕ) → m ≤ length bs → form_behind s (take m bs) ≡ None)
    (λ piece. (piece.0 ≤ length bs) × (form_behind s (take piece.0 bs) ≡ Some (piece.1)) × ((m : ℕ) → piece.0 < m → m ≤ length bs → form_behind s (take m bs) ≡ None))

here : (s : State) (bs : List ℕ) (f : Option Form) → form_at s ≡ f → ((m : ℕ) → suc m ≤ length bs → form_behind s (take (suc m) bs) ≡ None) → IsLongestBehind s bs (better f 0 None)
here s bs None e none = λ m h. elim m as (λ m. m ≤ length bs → form_behind s (take m bs) ≡ None) [ zero ↦ λ _. e | suc k ↦ λ q. none k q ] h
here s bs (Some f) e none = (omega arith, e, λ m h q. elim m as (λ m. 0 < m → m ≤ length bs → form_behind s (take m bs) ≡ None) [ zero ↦ λ h q. absurd (omega arith) | suc k ↦ λ h q. none k q ] h q)

-- with one more byte in front, which leads from one state to another
step : (s t : State) (b : ℕ) (bs : List ℕ) (found : Option (ℕ × Form)) → next_state s b ≡ Some t → IsLongestBehind t bs found → IsLongestBehind s (b ∷ bs) (best_of 1 found (better (form_at s) 0 None))
step s t b bs None e none = here s (b ∷ bs) (form_at s) refl (λ m h. rw e (none m (omega arith)))
step s t b bs (Some piece) e found = rw one-add (omega arith, rw e (found.1), λ m h q. elim m as (λ m. suc (piece.0) < m → m ≤ suc (length bs) → form_behind s (take m (b ∷ bs)) ≡ None) [ zero ↦ λ h q. absurd (omega arith) | suc k ↦ λ h q. rw e (found.2 k (omega arith) (omega arith)) ] h q)

-- with one more byte, with which no piece goes on
stop : (s : State) (b : ℕ) (bs : List ℕ) → next_state s b ≡ None → IsLongestBehind s (b ∷ bs) (better (form_at s) 0 None)
stop s b bs e = here s (b ∷ bs) (form_at s) refl (λ m h. rw e refl)

pub longest_behind_is : (s : State) (bs : List ℕ) → IsLongestBehind s bs (longest_behind s bs)
longest_behind_is s [] = here s [] (form_at s) refl (λ m h. absurd (omega arith))
longest_behind_is s (b ∷ bs) =
    let P : Option State → Type 0 = λ o. next_state s b ≡ o → IsLongestBehind s (b ∷ bs) (best_of 1 (option_and_then (λ t. longest_behind t bs) o) (better (form_at s) 0 None)) in
    let q : P (next_state s b) = elim (next_state s b) as P [ None ↦ λ e. stop s b bs e | Some t ↦ λ e. step s t b bs (longest_behind t bs) e (longest_behind_is t bs) ] in
    q refl

joined : (f : Option Form) (found : Option (ℕ × Form)) (i : ℕ) (best : Option (ℕ × Form)) →
    best_of i (best_of 1 found (better f 0 None)) best ≡ best_of (i + 1) found (better f i best)
joined None None i best = refl
joined (Some f) None i best = rw add-zero refl
joined f (Some piece) i best = rw add_assoc refl

-- what a loop over the bytes keeps
pub scan_on : (s t : State) (i : ℕ) (text : List ℕ) (best whole : Option (ℕ × Form)) → i < length text → next_state s (get_or text i 0) ≡ Some t →
    best_of i (longest_behind s (drop i text)) best ≡ whole →
    best_of (i + 1) (longest_behind t (drop (i + 1) text)) (better (form_at s) i best) ≡ whole
scan_on s t i text best whole h e invariant =
    let split : drop i text ≡ get_or text i 0 ∷ drop (i + 1) text = rw (add-one, drop-cons text i 0) refl in
    sym (joined (form_at s) (longest_behind t (drop (i + 1) text)) i best) ∙ (let a : best_of i (best_of 1 (option_and_then (λ t. longest_behind t (drop (i + 1) text)) (next_state s (get_or text i 0))) (better (form_at s) 0 None)) best ≡ whole = rw split at invariant in rw e at a)

-- the same as what `longest_piece` promises
pub longest_piece_is : (text : List ℕ) (found : Option (ℕ × Form)) → IsLongestBehind state.Start text found →
    MatchOption found ((m : ℕ) → m ≤ length text → IsNoPiece (take m text)) (λ piece. IsLongest text (piece.0) (piece.1))
longest_piece_is text None h = λ m short. no_piece (take m text) (h m short)
longest_piece_is text (Some piece) h = record {
  within = h.0;
  spelled = sound (take piece.0 text) piece.1 h.1;
  longest = λ m more short. no_piece (take m text) (h.2 m more short);
}
