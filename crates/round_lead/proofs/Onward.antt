-- How a round goes on, step by step.
use Rattle.std.proofs.Common.{◌≡◌, ℕ, true, false, List, [], ◌∷◌, ◌++◌, Option, Some, None, refl, sym, ap, ◌∙◌, subst, inl, inr}
use Rattle.std.proofs.lemmas.Bool.{false≢true}
use Rattle.std.proofs.lemmas.List.{append-nil, append_assoc}
use Rattle.http_heads.specs.declared.exchange.Backend.{Backend}
use Rattle.wire.specs.Tapes.{Tape, Tells}
use Rattle.wire.specs.Telling.{LinkTold}
use Rattle.vcl_context.specs.declared.turn.Answer.{Answer}
use Rattle.vcl_runs.specs.Runs.{Ran}
use Rattle.cache_law.specs.declared.call.Call.{Call}
use Rattle.cache_law.specs.declared.call.Call.TheVariants as call
use Rattle.cache_law.specs.declared.rounds.Given.{Given}
use Rattle.cache_law.specs.declared.rounds.Request.{Request}
use Rattle.shared_cache.specs.Sharing.{CallerKnows}
use Rattle.vcl_runs.specs.Evaluators.{Evaluator}
use Rattle.round_task.specs.declared.place.Place.{Place}
use Rattle.round_task.specs.declared.want.Want.{Want}
use Rattle.round_task.specs.declared.want.Want.TheVariants.{Cache}
use Rattle.round_task.specs.Happened.{Happened, behind, bytes_of, bytes_for}
use Rattle.round_task.specs.Rounds.{Wants}
use Rattle.round_task.specs.Standing.{StandsAt}
use Rattle.round_lead.specs.declared.cut.Cut.{Cut}
use Rattle.round_lead.specs.declared.cut.Cut.TheVariants.{NoMemory, HistoryFull, WriteFault}
use Rattle.round_task.specs.Responses.{WantsBy}
use Rattle.round_lead.specs.Responses.{CutBy, WasUntold}
use Rattle.round_lead.specs.Steps.{At, Did, Refused}
use Rattle.round_lead.specs.Tapes.{Went, ToldIn, WasDrawn}
use Rattle.round_lead.specs.Onward.{happened, is_last, IsStanding, Carries, CarriesTo, Goes, Stops, Gives, Halts, Fails}
use Rattle.round_lead.proofs.Told.{Went-none, Went-then, Went-told, ToldIn-wider, WasDrawn-wider}
use Rattle.round_lead.proofs.Things.{behind-append, bytes_of-append, runs_then, runs_wider}
use Rattle.round_lead.proofs.Did.{did_none, did_then, did_draw}

untold_weaker : (one other : Want → Type 0) (extra : List Happened) → ((w : Want) → one w → other w) → WasUntold one extra → WasUntold other extra
untold_weaker one other [] wider untold = tt
untold_weaker one other (thing ∷ []) wider untold = (wider thing.want untold.0, untold.1)
untold_weaker one other (thing ∷ next ∷ more) wider untold = absurd untold

pub cut_weaker : (one other : Want → Type 0) (refused declined : Call → Type 0) (cut : Cut) (extra : List Happened) (part : List ℕ) → ((w : Want) → one w → other w)
    → ((c : Call) → refused c → declined c) → CutBy one refused cut extra part → CutBy other declined cut extra part
cut_weaker one other refused declined NoMemory extra part wider so cut = (cut.0, untold_weaker one other extra wider cut.1)
cut_weaker one other refused declined HistoryFull extra part wider so cut = (cut.0, cut.1, cut.2, wider _ cut.3, so cut.0 cut.4)
cut_weaker one other refused declined WriteFault extra part wider so cut = (cut.0, cut.1, cut.2, wider _ cut.3, cut.4)

pub refused_since : (k : CallerKnows) (since from until : Option Tape) (call : Call) → Went since from → Refused k from until call → Refused k since until call
refused_since k since from until call earlier refused = record {
  beginning = refused.beginning;
  begins = refused.begins;
  reading = refused.reading;
  read = ToldIn-wider since from until until refused.reading earlier (Went-none until) refused.read;
  full = refused.full;
}

pub since_told : (since until : Option Tape) (value : ℕ) → ToldIn since until value → Went since until
since_told since until value told =
    Went-then since told.first until told.earlier (Went-then told.first told.last until (Went-told told.first told.last value told.told) told.later)

pub since_drawn : (since until : Option Tape) (word : Option ℕ) → WasDrawn since until word → Went since until
since_drawn since until None drawn = absurd drawn
since_drawn since until (Some word) drawn = since_told since until word drawn

pub drawn_now : (since before after : Option Tape) (word : ℕ) → Went since before → Tells before after word → ToldIn since after word
drawn_now since before after word earlier told = record { first = before; last = after; earlier = earlier; told = told; later = Went-none after }

module _ (e : Evaluator) (request : Request) (peer : List ℕ) (since before after : Option Tape) (later : Went before after) where
  pub wants_later : (givens : List Given) (want : Want) → WantsBy e (WasDrawn since before) request peer givens want → WantsBy e (WasDrawn since after) request peer givens want
  wants_later givens want wanted = (wanted.0, WasDrawn-wider since since before after wanted.0 (Went-none since) later wanted.1, wanted.2)

module _ {M : Type 0} (e : Evaluator) (stands : M → Ran → Type 0) (fits : M → Answer → Type 0) where
  pub carries_none : (place : Place M) (want : Want) (words : Option Tape) → Carries e stands fits place want words place want words []
  carries_none place want words request peer givens since standing = (tt, standing)

  pub carries_then : (p q r : Place M) (v w u : Want) (first second third : Option Tape) (xs ys : List Happened) → Went second third
      → Carries e stands fits p v first q w second xs → Carries e stands fits q w second r u third ys → Carries e stands fits p v first r u third (xs ++ ys)
  carries_then p q r v w u first second third xs ys later one two request peer givens since standing =
      let here = one request peer givens since standing in
      let there = two request peer (behind givens xs) since here.1 in (
        runs_then (WantsBy e (WasDrawn since third) request peer) givens xs ys
            (runs_wider (WantsBy e (WasDrawn since second) request peer) (WantsBy e (WasDrawn since third) request peer) givens xs
            (wants_later e request peer since second third later) here.0)
            there.0,
        subst (λ (g : List Given). IsStanding e stands fits request peer g (WasDrawn since third) r u) (sym (behind-append givens xs ys)) there.1,
      )

  pub carries_to : (p q : Place M) (v w : Want) (first second third : Option Tape) (refused : Call → Type 0) (cut : Cut) (xs ys extra : List Happened) (part : List ℕ) → Went second third
      → Carries e stands fits p v first q w second xs → CarriesTo e stands fits q w second third refused cut ys extra part
      → CarriesTo e stands fits p v first third refused cut (xs ++ ys) extra part
  carries_to p q v w first second third refused cut xs ys extra part later one two request peer givens since standing =
      let here = one request peer givens since standing in
      let there = two request peer (behind givens xs) since here.1 in (
        runs_then (WantsBy e (WasDrawn since third) request peer) givens xs ys
            (runs_wider (WantsBy e (WasDrawn since second) request peer) (WantsBy e (WasDrawn since third) request peer) givens xs
            (wants_later e request peer since second third later) here.0)
            there.0,
        subst (λ (g : List Given). CutBy (WantsBy e (WasDrawn since third) request peer g) refused cut extra part) (sym (behind-append givens xs ys)) there.1,
      )

  module _ {L : Type 0} (heard : L → LinkTold) (backends : List ℕ → Backend) where
    pub goes_none : (place : Place M) (want : Want) (x : At L) → Goes e stands fits heard backends place want x x place want
    goes_none place want x = record { steps = []; did = did_none heard backends x; carries = carries_none place want x.words }

    pub goes_then : (p q r : Place M) (v w u : Want) (x y z : At L) → Goes e stands fits heard backends p v x y q w → Goes e stands fits heard backends q w y z r u
        → Goes e stands fits heard backends p v x z r u
    goes_then p q r v w u x y z one two = record {
      steps = one.steps ++ two.steps;
      did = subst (λ (bs : List ℕ). Did heard backends x z (one.steps ++ two.steps) bs) (sym (bytes_of-append one.steps two.steps))
          (did_then heard backends x y z one.steps two.steps (bytes_of one.steps) (bytes_of two.steps) one.did two.did);
      carries = carries_then p q r v w u x.words y.words z.words one.steps two.steps two.did.drew one.carries two.carries;
    }

    pub stops_then : (p q : Place M) (v w : Want) (x y z : At L) (cut : Cut) → Goes e stands fits heard backends p v x y q w → Stops e stands fits heard backends q w y z cut
        → Stops e stands fits heard backends p v x z cut
    stops_then p q v w x y z cut one two =
        let things : one.steps ++ (two.steps ++ two.extra) ≡ (one.steps ++ two.steps) ++ two.extra = sym (append_assoc one.steps two.steps two.extra) in
        let bytes : bytes_of one.steps ++ (bytes_of two.steps ++ two.part) ≡ bytes_of (one.steps ++ two.steps) ++ two.part =
        sym (append_assoc (bytes_of one.steps) (bytes_of two.steps) two.part) ∙ ap (λ (bs : List ℕ). bs ++ two.part) (sym (bytes_of-append one.steps two.steps)) in
        record {
          steps = one.steps ++ two.steps;
          extra = two.extra;
          part = two.part;
          did = subst (λ (bs : List ℕ). Did heard backends x z ((one.steps ++ two.steps) ++ two.extra) bs) bytes
              (subst (λ (hs : List Happened). Did heard backends x z hs (bytes_of one.steps ++ (bytes_of two.steps ++ two.part))) things
              (did_then heard backends x y z one.steps (two.steps ++ two.extra) (bytes_of one.steps) (bytes_of two.steps ++ two.part) one.did two.did));
          so = carries_to p q v w x.words y.words z.words (Refused z.known x.readings z.readings) cut one.steps two.steps two.extra two.part two.did.drew one.carries
              (λ request peer givens since standing. let there = two.so request peer givens since standing in (
                there.0,
                cut_weaker (WantsBy e (WasDrawn since z.words) request peer (behind givens two.steps)) (WantsBy e (WasDrawn since z.words) request peer (behind givens two.steps))
                    (Refused z.known y.readings z.readings) (Refused z.known x.readings z.readings) cut two.extra two.part (λ other wanted. wanted)
                    (λ call refused. refused_since z.known x.readings y.readings z.readings call one.did.read refused) there.1,
              ));
        }

    -- a want was answered, a word was drawn, and the round was asked again
    pub goes_one : (p q : Place M) (want next : Want) (x y : At L) (words : Option Tape) (given : Given) (word : ℕ) → Tells y.words words word → Gives heard backends x y want given
        → ((request : Request) (peer : List ℕ) (givens : List Given) → StandsAt e stands fits request peer givens p → StandsAt e stands fits request peer (given ∷ givens) q)
        → ((request : Request) (peer : List ℕ) (givens : List Given) → StandsAt e stands fits request peer givens p → Wants e (Some word) request peer (given ∷ givens) next)
        → Goes e stands fits heard backends p want x (record y { words = words }) q next
    goes_one p q want next x y words given word told gives there wants =
        let drew = Went-told y.words words word told in
        record {
          steps = happened want given ∷ [];
          did = did_then heard backends x y (record y { words = words }) (happened want given ∷ []) [] (bytes_for want given) [] gives.did (did_draw heard backends y words drew);
          carries = λ request peer givens since standing. (
            (wants_later e request peer since x.words words (Went-then x.words y.words words gives.did.drew drew) givens want standing.wants, gives.suits, tt),
            record {
              there = there request peer givens standing.there;
              wants = (
                Some word,
                drawn_now since y.words words word (Went-then since x.words y.words (since_drawn since x.words standing.wants.0 standing.wants.1) gives.did.drew) told,
                wants request peer givens standing.there,
              );
            },
          );
        }

    halts : (place : Place M) (want : Want) (x y : At L) (cut : Cut) → Halts heard backends x y want cut → Stops e stands fits heard backends place want x y cut
    halts place want x y cut halted = record {
      steps = [];
      extra = halted.extra;
      part = halted.part;
      did = halted.did;
      so = λ request peer givens since standing. (
        tt,
        cut_weaker (λ (other : Want). other ≡ want) (WantsBy e (WasDrawn since y.words) request peer givens) (Refused y.known x.readings y.readings) (Refused y.known x.readings y.readings)
            cut halted.extra halted.part
            (λ other is. subst (λ (w : Want). WantsBy e (WasDrawn since y.words) request peer givens w) (sym is) (wants_later e request peer since x.words y.words halted.did.drew givens want standing.wants))
            (λ call refused. refused) halted.so,
      );
    }

    -- it was answered, a word may have been drawn, and memory was wanting
    pub stops_behind : (place : Place M) (want : Want) (x y : At L) (words : Option Tape) (given : Given) → Went y.words words → Gives heard backends x y want given
        → Stops e stands fits heard backends place want x (record y { words = words }) NoMemory
    stops_behind place want x y words given drew gives =
        record {
          steps = happened want given ∷ [];
          extra = [];
          part = [];
          did = subst (λ (bs : List ℕ). Did heard backends x (record y { words = words }) (happened want given ∷ []) bs) (sym (append-nil (bytes_for want given ++ [])))
              (did_then heard backends x y (record y { words = words }) (happened want given ∷ []) [] (bytes_for want given) [] gives.did (did_draw heard backends y words drew));
          so = λ request peer givens since standing.
              ((wants_later e request peer since x.words words (Went-then x.words y.words words gives.did.drew drew) givens want standing.wants, gives.suits, tt), (refl, tt));
        }

    pub fails : (place : Place M) (want : Want) (x y : At L) (cut : Cut) → Fails heard backends x y want cut → Stops e stands fits heard backends place want x y cut
    fails place want x y cut (inl halted) = halts place want x y cut halted
    fails place want x y cut (inr stalled) =
        subst (λ (c : Cut). Stops e stands fits heard backends place want x y c) (sym stalled.is) (stops_behind place want x y y.words stalled.given (Went-none y.words) stalled.gives)

-- the round's end is wanted where the test says so
pub last_is : (want : Want) → is_last want ≡ true → want ≡ Cache call.End
last_is (Cache call.End) e = refl
last_is other e = absurd (false≢true e)
