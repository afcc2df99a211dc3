-- Keepers that are told nothing, and more and more.
use Rattle.std.proofs.Common.{◌≡◌, ℕ, ◌+◌, Bool, List, [], ◌∷◌, ◌++◌, map, refl, sym, ap, ◌∙◌, subst, arith, append-nil, append_assoc}
use Rattle.std.specs.Prelude.{sum_by}
use Rattle.std.proofs.lemmas.List.Sums.{sum_by-append}
use Rattle.std.proofs.lemmas.List.Folds.{list_any-append}
use Rattle.wire.specs.Calls.{joined_count}
use Rattle.connection.specs.declared.ended.Ended.{Ended}
use Rattle.round_lead.specs.declared.keeping.Round.{Round}
use Rattle.server.specs.declared.keeping.Event.{Event}
use Rattle.server.specs.declared.keeping.Event.TheVariants.{Led, Over}
use Rattle.server.specs.declared.tally.Tally.{Tally}
use Rattle.server.specs.Keeping.{IsTold, added, places_of, round_in, tally_of, tells_full}
use Rattle.server.specs.Transcripts.{all_numbers}

pub told_none : {N E : Type 0} (Told : N → List E → Type 0) (keeper : N) → IsTold Told keeper keeper []
told_none {E = E} Told keeper before told = subst (λ (es : List E). Told keeper es) (sym (append-nil before)) told

pub told_then : {N E : Type 0} (Told : N → List E → Type 0) (first second third : N) (events more : List E) → IsTold Told first second events → IsTold Told second third more
    → IsTold Told first third (events ++ more)
told_then {E = E} Told first second third events more one other before told =
    subst (λ (es : List E). Told third es) (append_assoc before events more) (other (before ++ events) (one before told))

joined_sum : (a b : ℕ) → joined_count 0 (a + b) ≡ joined_count (joined_count 0 a) (joined_count 0 b)
joined_sum a b = omega arith

abbrev tally_with : ℕ → Bool → Tally
tally_with rounds found_full = record { rounds = rounds; found_full = found_full }

same_tally : (r r' : ℕ) (f f' : Bool) → r ≡ r' → f ≡ f' → tally_with r f ≡ tally_with r' f'
same_tally r r' f f' a b = cc

-- what more events count is added
pub tally_more : {L : Type 0} (events more : List (Event L)) → tally_of (events ++ more) ≡ added (tally_of events) (tally_of more)
tally_more {L} events more =
    same_tally _ _ _ _ (ap (joined_count 0) (sum_by-append round_in events more) ∙ joined_sum (sum_by round_in events) (sum_by round_in more)) (list_any-append tells_full events more)

-- the places of a connection's rounds are those that its events have
pub places_led : {L : Type 0} (rounds : List Round) (link : L) (ended : Ended) → places_of (map Led rounds ++ Over link ended ∷ []) ≡ all_numbers rounds
places_led [] link ended = refl
places_led (round ∷ rounds) link ended = ap (λ (ns : List ℕ). round.numbers.items ++ ns) (places_led rounds link ended)
