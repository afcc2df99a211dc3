-- Pieces that are cut at LFs.
use Rattle.std.proofs.Common.{◌≡◌, ◌≢◌, inl, inr, ℕ, suc, ◌+◌, ◌<◌, ◌≤◌, true, false, List, [], ◌∷◌, ◌++◌, length, get_or, take, drop, sym, ap, ◌∙◌, subst, refl, arith, append_assoc, length-append}
use Rattle.std.specs.Prelude.{MatchOption, Option, Some, None, nat_lt}
use Rattle.std.specs.List.{position, position_or_len}
use Rattle.std.proofs.lemmas.Bool.{false≢true}
use Rattle.std.proofs.lemmas.Bool.Decides.{eqb_tells, nat_tests}
use Rattle.std.proofs.lemmas.Grind.{common_steps}
use Rattle.std.proofs.lemmas.List.Quantifiers.{position-Some}
use Rattle.std.proofs.lemmas.List.Sums.{fails_before_first}
use Rattle.units.proofs.Pieces.{chosen}
use Rattle.cache_law.specs.declared.setting.Params.{Params}
use Rattle.cache_law.specs.State.{State}
use Rattle.audit_laws.specs.Faults.{HasNoFeed}
use Rattle.audit_laws.proofs.Agreeing.{append_none}
use Rattle.journal_audit.specs.declared.auditor.Auditor.{Auditor}
use Rattle.journal_audit.specs.Feeding.{HasFeedAt, IsFed, IsParted, is_feed}

free_by : (bytes : List ℕ) → ((k : ℕ) → k < length bytes → get_or bytes k 0 ≢ 10) → HasNoFeed bytes
free_by [] h = tt
free_by (byte ∷ bytes) h = (h 0 (omega arith), free_by bytes (λ k less. h (suc k) (omega (arith, less))))

no_feed : (byte : ℕ) → is_feed byte ≡ false → byte ≢ 10
no_feed byte e f = false≢true (sym e ∙ ap is_feed f)

a_feed : (byte : ℕ) → is_feed byte ≡ true → byte ≡ 10
a_feed byte e =
    elim (eqb_tells byte 10) [
      | inl h ↦ h.1
      | inr h ↦ absurd (false≢true (sym h.0 ∙ e))
    ]

free_take : (bytes : List ℕ) (place : ℕ) → place < length bytes → ((k : ℕ) → k < place → is_feed (get_or bytes k 0) ≡ false) → HasNoFeed (take place bytes)
free_take bytes place within none =
    free_by (take place bytes) (λ k less f.
    let size : length (take place bytes) ≡ place = grind (arith, common_steps) in
    let inside : k < place = omega (arith, less, size) in
    let same : get_or (take place bytes) k 0 ≡ get_or bytes k 0 = grind (arith, common_steps) in
    no_feed (get_or bytes k 0) (none k inside) (sym same ∙ f))

parted_at : (bytes : List ℕ) (place : ℕ) → place < length bytes → get_or bytes place 0 ≡ 10 → bytes ≡ take place bytes ++ 10 ∷ drop (place + 1) bytes
parted_at bytes place within e = grind (arith, common_steps)

none_before : (bytes : List ℕ) → position is_feed bytes ≡ None → length bytes ≤ position_or_len is_feed bytes
none_before bytes e =
    elim (chosen (nat_lt (position_or_len is_feed bytes) (length bytes)) (Some (position_or_len is_feed bytes)) None None e) [
      | inl t ↦ let found = t.1 in absurd cc
      | inr t ↦ let test = t.0 in grind (arith, nat_tests, test)
    ]

pub feed_found : (bytes : List ℕ) (result : Option ℕ) → result ≡ position is_feed bytes → MatchOption result (HasNoFeed bytes) (HasFeedAt bytes)
feed_found bytes None e =
    let all = none_before bytes (sym e) in
    free_by bytes (λ k less. no_feed (get_or bytes k 0) (fails_before_first is_feed bytes k 0 (omega (arith, all, less))))
feed_found bytes (Some place) e =
    let found = position-Some is_feed bytes place 0 (sym e) in
    record { within = found.0; free = free_take bytes place found.0 found.2; parted = parted_at bytes place found.0 (a_feed (get_or bytes place 0) found.1) }

pub parted_as : (bytes : List ℕ) (place : ℕ) (front rest : List ℕ) → HasFeedAt bytes place → front ≡ take place bytes → rest ≡ drop (place + 1) bytes → IsParted bytes front rest
parted_as bytes place front rest at p q =
    record {
      joined = at.parted ∙ (ap (λ (t : List ℕ). t ++ 10 ∷ drop (place + 1) bytes) (sym p) ∙ ap (λ (t : List ℕ). front ++ 10 ∷ t) (sym q));
      free = subst HasNoFeed (sym p) at.free;
    }

-- so much of a piece was fed
pub record HasFed {F : Type 0} (stands : F → Params → State → ℕ → Type 0) (first auditor : Auditor F) (piece rest : List ℕ) : Type 0 where
  pub before : List ℕ
  pub joined : piece ≡ before ++ rest
  pub fed : (bytes : List ℕ) → IsFed stands first bytes → IsFed stands auditor (bytes ++ before)

pub fed_none : {F : Type 0} (stands : F → Params → State → ℕ → Type 0) (first : Auditor F) (piece : List ℕ) → HasFed stands first first piece piece
fed_none stands first piece = record { before = []; joined = refl; fed = λ bytes fed. subst (IsFed stands first) (sym (append_none bytes)) fed }

-- with a line more
pub fed_line : {F : Type 0} (stands : F → Params → State → ℕ → Type 0) (first held next auditor : Auditor F) (piece rest part behind : List ℕ) → HasFed stands first auditor piece rest → IsParted rest part behind
    → ((bytes : List ℕ) → IsFed stands auditor bytes → IsFed stands held (bytes ++ part)) → ((bytes : List ℕ) → IsFed stands held bytes → IsFed stands next (bytes ++ 10 ∷ []))
    → HasFed stands first next piece behind
fed_line stands first held next auditor piece rest part behind has at holds ends =
    let line : List ℕ = part ++ 10 ∷ [] in
    let whole : rest ≡ line ++ behind = at.joined ∙ sym (append_assoc part (10 ∷ []) behind) in
    record {
      before = has.before ++ line;
      joined = has.joined ∙ (ap (λ (r : List ℕ). has.before ++ r) whole ∙ sym (append_assoc has.before line behind));
      fed = λ bytes fed.
          let all : ((bytes ++ has.before) ++ part) ++ 10 ∷ [] ≡ bytes ++ (has.before ++ line) = append_assoc (bytes ++ has.before) part (10 ∷ []) ∙ append_assoc bytes has.before line in
          subst (IsFed stands next) all (ends ((bytes ++ has.before) ++ part) (holds (bytes ++ has.before) (has.fed bytes fed)));
    }

pub shorter : (bytes front rest : List ℕ) → IsParted bytes front rest → length rest < length bytes
shorter bytes front rest at =
    let size = ap length at.joined in
    let parts = length-append front (10 ∷ rest) in
    omega (arith, size, parts)

pub fed_all : {F : Type 0} (stands : F → Params → State → ℕ → Type 0) (first auditor next : Auditor F) (piece rest : List ℕ) → HasFed stands first auditor piece rest
    → ((bytes : List ℕ) → IsFed stands auditor bytes → IsFed stands next (bytes ++ rest)) → (bytes : List ℕ) → IsFed stands first bytes → IsFed stands next (bytes ++ piece)
fed_all stands first auditor next piece rest has holds bytes fed =
    let all : (bytes ++ has.before) ++ rest ≡ bytes ++ piece = append_assoc bytes has.before rest ∙ ap (λ (p : List ℕ). bytes ++ p) (sym has.joined) in
    subst (IsFed stands next) all (holds (bytes ++ has.before) (has.fed bytes fed))
