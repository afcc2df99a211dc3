-- A round runs under the VCL that its Begin was told.
use Rattle.std.proofs.Common.{◌≡◌, ℕ, List, [], ◌∷◌, ◌++◌, length, Option, refl, sym, ap, ◌∙◌, subst, inl, inr, ◌⊎◌, arith}
use Rattle.std.specs.List.{AllByRecursion}
use Rattle.cache_law.specs.declared.call.Call.{Call}
use Rattle.cache_law.specs.declared.call.Call.TheVariants as call
use Rattle.cache_law.specs.declared.call.Entry.{Entry}
use Rattle.cache_law.specs.declared.cache.Told.{Told}
use Rattle.cache_law.specs.declared.rounds.Given.{Given}
use Rattle.cache_law.specs.declared.rounds.Given.TheVariants as given
use Rattle.cache_law.specs.declared.rounds.Request.{Request}
use Rattle.cache_law.specs.Core.{entry_of}
use Rattle.vcl_runs.specs.Evaluators.{Evaluator}
use Rattle.vcl_runs.specs.Languages.{Language}
use Rattle.round_task.specs.declared.want.Want.{Want}
use Rattle.round_task.specs.declared.want.Want.TheVariants.{Cache, Exchange, Send, Done}
use Rattle.round_task.specs.Happened.{Happened, entries_for, entries_of}
use Rattle.round_task.specs.Laws.{vcl_in}
use Rattle.round_task.specs.Responses.{WantsBy}
use Rattle.round_task.specs.Rounds.{Wants}
use Rattle.round_task.proofs.Vcls.{wants-under-round}
use Rattle.round_lead.specs.Seen.{StandsAt, StandAt}
use Rattle.round_lead.specs.Things.{Runs, Suits, text_given, text_of}
use Rattle.round_lead.specs.Vcls.{PicksFor, RunsUnderItsVcl}

same_behind : (xs ys us vs : List Entry) (a b : Entry) → length xs ≡ length ys → xs ++ a ∷ us ≡ ys ++ b ∷ vs → a ≡ b
same_behind [] [] us vs a b long is = cc
same_behind [] (y ∷ ys) us vs a b long is = absurd (cc)
same_behind (x ∷ xs) [] us vs a b long is = absurd (cc)
same_behind (x ∷ xs) (y ∷ ys) us vs a b long is = same_behind xs ys us vs a b (cc) (cc)

-- one entry stands at a place
one_entry : (from : ℕ) (history : List Entry) (place : ℕ) (a b : Entry) → StandsAt from history place a → StandsAt from history place b → a ≡ b
one_entry from history place a b one other =
    let one_place = one.place_is in
    let other_place = other.place_is in
    same_behind one.before other.before one.behind other.behind a b (omega (arith, one_place, other_place)) (sym one.is ∙ other.is)

module _ (e : Evaluator) (words : Option ℕ → Type 0) (request : Request) (peer : List ℕ) (from : ℕ) (history : List Entry) (caller : ℕ) where
  -- what the call at a place is, where a director picks there
  picked : (newest : Given) (givens : List Given) (asked : Call) (told : Told) (place : ℕ) → WantsBy e words request peer (newest ∷ givens) (Cache asked)
      → StandsAt from history place (entry_of caller asked told) → PicksFor from history caller (vcl_in (newest ∷ givens)) place
  picked newest givens asked told place wants stands = λ number target word answer here.
      let same : asked ≡ call.Pick number target word = ap (λ (entry : Entry). entry.call) (one_entry from history place _ _ stands here) in
      wants-under-round e wants.0 request peer (newest ∷ givens) number target word
      (subst (λ (c : Call). Wants e wants.0 request peer (newest ∷ givens) (Cache c)) same wants.2)

  picks_by : (newest : Given) (givens : List Given) (want : Want) (one : Given) (entries : List Entry) (places : List ℕ) → WantsBy e words request peer (newest ∷ givens) want → Suits want one
      → StandAt from history places (entries_for caller want one ++ entries)
      → ((rest : List ℕ) → StandAt from history rest entries → AllByRecursion (λ place. PicksFor from history caller (vcl_in (newest ∷ givens)) place) rest)
      → AllByRecursion (λ place. PicksFor from history caller (vcl_in (newest ∷ givens)) place) places
  picks_by newest givens (Cache asked) (given.Reply told) entries [] wants suits stand later = absurd stand
  picks_by newest givens (Cache asked) (given.Reply told) entries (place ∷ places) wants suits stand later =
      (picked newest givens asked told place wants stand.0, later places stand.1)
  picks_by newest givens (Cache asked) one entries places wants suits stand later = absurd suits
  picks_by newest givens (Exchange number backend asked) (given.Exchange got) entries places wants suits stand later = later places stand
  picks_by newest givens (Exchange number backend asked) one entries places wants suits stand later = absurd suits
  picks_by newest givens (Send delivery) given.Sent entries places wants suits stand later = later places stand
  picks_by newest givens (Send delivery) one entries places wants suits stand later = absurd suits
  picks_by newest givens Done one entries places wants suits stand later = absurd suits

  picks_from : (newest : Given) (givens : List Given) (steps : List Happened) (places : List ℕ) → Runs (WantsBy e words request peer) (newest ∷ givens) steps
      → StandAt from history places (entries_of caller steps) → AllByRecursion (λ place. PicksFor from history caller (vcl_in (newest ∷ givens)) place) places
  picks_from newest givens [] [] runs stand = tt
  picks_from newest givens [] (place ∷ places) runs stand = absurd stand
  picks_from newest givens (one ∷ more) places runs stand =
      picks_by newest givens one.want one.given (entries_of caller more) places runs.0 runs.1 stand (λ rest stands. picks_from one.given (newest ∷ givens) more rest runs.2 stands)

module _ {P : Type 0} (language : Language P) (words : Option ℕ → Type 0) (request : Request) (peer : List ℕ) (from : ℕ) (history : List Entry) (caller : ℕ) (program : P) where
  begun_by : (first : Given) (more : List Happened) (places : List ℕ) → Suits (Cache call.Begin) first → language.programs (text_given first) program
      → Runs (WantsBy (language.evaluator program) words request peer) (first ∷ []) more → StandAt from history places (entries_for caller (Cache call.Begin) first ++ entries_of caller more)
      → RunsUnderItsVcl language from history caller places program
  begun_by (given.Reply told) more [] suits ran runs stand = absurd stand
  begun_by (given.Reply told) more (place ∷ places) suits ran runs stand = record {
    first = place;
    others = places;
    are = refl;
    told = told;
    begins = stand.0;
    ran = ran;
    picks = picks_from (language.evaluator program) words request peer from history caller (given.Reply told) [] more places runs stand.1;
  }
  begun_by other more places suits ran runs stand = absurd suits

  pub runs_under : (steps : List Happened) (places : List ℕ) → language.programs (text_of steps) program → Runs (WantsBy (language.evaluator program) words request peer) [] steps
      → StandAt from history places (entries_of caller steps) → (steps ≡ []) ⊎ RunsUnderItsVcl language from history caller places program
  runs_under [] places ran runs stand = inl refl
  runs_under (one ∷ more) places ran runs stand =
      let is : one.want ≡ Cache call.Begin = runs.0.2 in
      inr (begun_by one.given more places (subst (λ (w : Want). Suits w one.given) is runs.1) ran runs.2
      (subst (λ (w : Want). StandAt from history places (entries_for caller w one.given ++ entries_of caller more)) is stand))

  never_empty : (front : List Happened) (last : Happened) → [] ≡ front ++ last ∷ [] → ⊥
  never_empty [] last is = cc
  never_empty (one ∷ front) last is = cc

  pub whole_under : (steps front : List Happened) (last : Happened) (places : List ℕ) → steps ≡ front ++ last ∷ [] → language.programs (text_of steps) program
      → Runs (WantsBy (language.evaluator program) words request peer) [] steps → StandAt from history places (entries_of caller steps) → RunsUnderItsVcl language from history caller places program
  whole_under steps front last places is ran runs stand = by (runs_under steps places ran runs stand)
    where
      by : (steps ≡ []) ⊎ RunsUnderItsVcl language from history caller places program → RunsUnderItsVcl language from history caller places program
      by (inl none_) = absurd (never_empty front last (sym none_ ∙ is))
      by (inr under) = under
