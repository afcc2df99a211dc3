-- A step of the cache, as one entry more; and whether a caller waits.
use Rattle.std.proofs.Common.{◌≡◌, ◌≢◌, ◌≤◌, ℕ, List, [], ◌∷◌, ◌++◌, max, refl, arith, sym, ◌∙◌, subst}
use Rattle.std.specs.Prelude.{Option, Some, None, MatchOption}
use Rattle.cache_law.specs.declared.cache.Told.{Told}
use Rattle.cache_law.specs.declared.call.Call.{Call}
use Rattle.cache_law.specs.declared.call.Call.TheVariants.{Lookup}
use Rattle.cache_law.specs.declared.call.Query.{Query}
use Rattle.cache_law.specs.Core.{Entered}
use Rattle.cache_law.specs.History.{Follows, HasWaited, reached}
use Rattle.cache_law.specs.State.{State, awaits}
use Rattle.cache_frame.specs.Framed.{Plain}
use Rattle.cache_frame.specs.Shelves.{entry_of}
use Rattle.history_audit.specs.Alongside.{HasJoined, IsAwaited}

joins_at : (old new : Plain) (caller moment now : ℕ) (call : Call) (told : Told) → told.moment ≡ now → now ≡ moment → new.beginning ≡ old.beginning → Entered old.beginning old.entries new.entries caller moment call told
    → HasJoined old new caller moment call told.reply
joins_at old new caller moment now call told is at same entered =
    let moments : told.moment ≡ moment = is ∙ at in
    record {
      same = same;
      joined = subst (λ (m : ℕ). new.entries ≡ old.entries ++ entry_of caller m call told.reply ∷ []) moments entered.joined;
      follows = subst (λ (m : ℕ). Follows old.beginning.params (reached old.beginning old.entries) (entry_of caller m call told.reply)) moments entered.follows;
    }

pub joins_of : (old new : Plain) (caller moment : ℕ) (call : Call) (told : Told) → (reached old.beginning old.entries).moment ≤ moment → new.beginning ≡ old.beginning → Entered old.beginning old.entries new.entries caller moment call told
    → HasJoined old new caller moment call told.reply
joins_of old new caller moment call told order same entered =
    joins_at old new caller moment (max (reached old.beginning old.entries).moment moment) call told entered.moment (omega (arith, order)) same entered

-- a lookup's caller waits where there is a token
pub awaited_by : (state : State) (caller : ℕ) (query : Query) (token : Option ℕ) → token ≡ awaits state caller
    → MatchOption token (HasWaited state caller (Lookup query)) (IsAwaited state caller (Lookup query))
awaited_by state caller query None e = sym e
awaited_by state caller query (Some token) e = record { waits = λ none. let no : Some token ≡ None = e ∙ none in cc; is = sym e }

-- no other call waits
pub waits_for_none : (state : State) (caller : ℕ) (call : Call) → ((query : Query) → call ≢ Lookup query) → HasWaited state caller call
waits_for_none state caller (Lookup query) other = absurd (other query refl)
waits_for_none state caller call other = tt
