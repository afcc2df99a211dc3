-- An entry that doesn't concern the plain cache's shelf leaves it standing.
use Rattle.std.proofs.Common.{◌≡◌, ◌≤◌, ◌++◌, ◌∷◌, ℕ, List, [], arith, sym, ap, ◌∙◌, subst}
use Rattle.cache_law.specs.declared.call.Entry.{Entry}
use Rattle.cache_law.specs.Beginning.{Beginning}
use Rattle.cache_law.specs.History.{next_state, reached}
use Rattle.cache_law.specs.State.{State, Held, as_seen, at_moment, those_in_time}
use Rattle.cache_law.proofs.Growth.{after_grows}
use Rattle.cache_law.proofs.Histories.{reached-push}
use Rattle.cache_law.proofs.Moments.{at_moment-later, those_in_time-later}
use Rattle.cache_frame.specs.Shelves.{StandsBeside}
use Rattle.cache_desk.specs.Stock.{Stock, stock_at, stock_of, with_stock}
use Rattle.flat_core.specs.Shelf.{StandsFor, Stored, stock_in}
use Rattle.flat_core.specs.StoredObject.{AreOrdered}

-- what is in time is in time
once : (now : ℕ) (objects : List Held) → those_in_time now (those_in_time now objects) ≡ those_in_time now objects
once now objects = those_in_time-later now now (omega arith) objects

-- the state that the entries reach, with what is stored
abbrev pub laid : Stored → State → State
laid stored state = with_stock (stock_in stored) state

-- from its moment on it is the state
pub same_at : (stored : Stored) (state : State) (now : ℕ) → as_seen (laid stored state) ≡ as_seen state → state.moment ≤ now → at_moment now (laid stored state) ≡ at_moment now state
same_at stored state now same later =
    sym (at_moment-later state.moment now later (laid stored state)) ∙ ap (at_moment now) same ∙ at_moment-later state.moment now later state

-- what is stored stands for what one more entry leaves
stands_next : (stored : Stored) (next : State) (now : ℕ) → next.moment ≡ now → stock_at now (laid stored next) ≡ stock_at now next → as_seen (laid stored next) ≡ as_seen next
stands_next stored next now at_ same =
    ap (λ (m : ℕ). at_moment m (laid stored next)) at_
    ∙ ap (λ (stock : Stock). record next { moment = now; issued = stock.issued; bans = stock.bans; objects = stock.objects }) same
    ∙ ap (λ (m : ℕ). at_moment m next) (sym at_)

pub stands_on : (stored : Stored) (beginning : Beginning) (entries : List Entry) (entry : Entry) → AreOrdered stored.issued stored.bans stored.objects
    → stock_at entry.moment (laid stored (reached beginning entries)) ≡ stock_at entry.moment (next_state beginning.params (reached beginning entries) entry) → StandsFor stored beginning (entries ++ entry ∷ [])
stands_on stored beginning entries entry ordered same =
    let state : State = reached beginning entries in
    let next : State = next_state beginning.params state entry in
    let push = reached-push beginning entries entry in
    let moment : next.moment ≡ entry.moment = (after_grows beginning.params state entry.caller entry.moment entry.call entry.reply).moment in
    record {
      ordered = ordered;
      issued = ap (λ (s : Stock). s.issued) same ∙ ap (λ (s : State). s.issued) (sym push);
      reaches = subst (λ (s : State). as_seen (laid stored s) ≡ as_seen s) (sym push) (stands_next stored next entry.moment moment same);
    }

-- an entry that doesn't concern it
pub rests_so : (stored : Stored) → StandsBeside StandsFor stored
rests_so stored beginning entries entry sound stands later side same =
    let state : State = reached beginning entries in
    stands_on stored beginning entries entry stands.ordered
    (ap stock_of (same_at stored state entry.moment stands.reaches later)
    ∙ ap (λ (o : List Held). record { issued = state.issued; bans = state.bans; objects = o }) (sym (once entry.moment state.objects))
    ∙ ap (λ (s : Stock). record { issued = s.issued; bans = s.bans; objects = those_in_time entry.moment s.objects }) (sym same))
