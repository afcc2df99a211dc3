-- How a round that is led by its VCL goes on.
use Rattle.std.specs.Prelude.{IfOk, OnOk, Result, Ok, Err}
use Rattle.std.proofs.Common.{◌≡◌, ℕ, Bool, true, false, List, [], ◌∷◌, Option, Some, None, refl, sym, ◌∙◌, subst}
use Rattle.vcl_context.specs.declared.turn.Answer.{Answer}
use Rattle.vcl_runs.specs.Runs.{Ran}
use Rattle.cache_law.specs.declared.rounds.Given.{Given as Gift}
use Rattle.cache_law.specs.declared.rounds.Request.{Request as Message}
use Rattle.client_graph.specs.declared.round.Next.{Next}
use Rattle.client_task.specs.declared.place.Place.{Place as ClientPlace}
use Rattle.client_task.specs.Rounds.{Evaluator as ClientEvaluator}
use Rattle.client_task.specs.Standing.{StandsAt as ClientStands, MayGoOn as ClientMay}
use Rattle.client_task.proofs.Places.{goes-on}
use Rattle.vcl_runs.specs.Evaluators.{Evaluator}
use Rattle.round_task.specs.declared.place.Place.{Place}
use Rattle.round_task.specs.declared.place.Place.TheVariants as place
use Rattle.round_task.specs.declared.round.Round.{Round}
use Rattle.round_task.specs.declared.want.Want.{Want as RoundWant}
use Rattle.round_task.specs.declared.want.Want.TheVariants as wish
use Rattle.round_task.specs.Responses.{text_given, text_in}
use Rattle.vcl_runs.specs.Languages.{Language}
use Rattle.round_task.specs.Rounds.{Node, Opening, AtClient, AtFetch, Over, for_client, Wants as RoundWants}
use Rattle.round_task.specs.Standing.{IsAt, StandsAt as RoundStands, MayGoOn as RoundMay}
use Rattle.replay.specs.Rounds.{WantedBy}
use Rattle.replay.specs.Turns.{StandsBy, StandsLed, HasProgram}

-- what follows from each Ok
pub if_ok : {A E : Type 0} (P Q : A → Type 0) (r : Result A E) → ((a : A) → P a → Q a) → IfOk r P → IfOk r Q
if_ok P Q (Ok a) f h = f a h
if_ok P Q (Err e) f h = tt

pub on_ok : {A E : Type 0} (P Q : Type 0) (r : Result A E) → (P → Q) → OnOk r P → OnOk r Q
on_ok P Q (Ok a) f h = f h
on_ok P Q (Err e) f h = tt

some-same : {A : Type 0} {x y : A} → Some x ≡ Some y → x ≡ y
some-same h = cc

none-some : {A : Type 0} {y : A} → None ≡ Some y → ⊥
none-some h = cc

-- ---- a round that stands somewhere may go on

client-may : {M : Type 0} (e : ClientEvaluator) (stands : M → Ran → Type 0) (fits : M → Answer → Type 0) (start : Next) (givens : List Gift) (at : ClientPlace M)
    → ClientStands e stands fits start givens at → ClientMay stands fits at
client-may e stands fits start givens at h = goes-on stands fits at h.0 h.2

place-may : {M : Type 0} (e : Evaluator) (stands : M → Ran → Type 0) (fits : M → Answer → Type 0) (at : Place M) (node : Node) → IsAt e stands fits at node → RoundMay stands fits at
place-may e stands fits (place.Opening request peer) node h = tt
place-may e stands fits (place.Client client) (AtClient start givens) h = client-may (for_client e) stands fits start givens client.place h
place-may e stands fits (place.Client client) (Opening request peer) h = absurd h
place-may e stands fits (place.Client client) (AtFetch start givens order told) h = absurd h
place-may e stands fits (place.Client client) Over h = absurd h
place-may e stands fits (place.Fetch client number fetch) (AtFetch start givens order told) h = client-may (for_client e) stands fits start givens client.place h.0
place-may e stands fits (place.Fetch client number fetch) (Opening request peer) h = absurd h
place-may e stands fits (place.Fetch client number fetch) (AtClient start givens) h = absurd h
place-may e stands fits (place.Fetch client number fetch) Over h = absurd h
place-may e stands fits place.Over node h = tt
place-may e stands fits place.Broken node h = tt

round-may : {M : Type 0} (e : Evaluator) (stands : M → Ran → Type 0) (fits : M → Answer → Type 0) (message : Message) (peer : List ℕ) (given : List Gift) (at : Place M)
    → RoundStands e stands fits message peer given at → RoundMay stands fits at
round-may e stands fits message peer given at h = place-may e stands fits at h.0 h.2

-- ---- a round with the program that leads it on

module _ {M P : Type 0} (language : Language P) (stands : M → P → Ran → Type 0) (fits : M → Answer → Type 0) (message : Message) (peer : List ℕ) where
  -- it stands before what it is given, on a program of the text that its Begin was told by then
  abbrev IsReady : List Gift → Option (List ℕ) → Round M → Option P → Type 0
  IsReady before None round program = program ≡ None
  IsReady before (Some text) round program =
      (p : P) × (program ≡ Some p) × language.programs text p × RoundStands (language.evaluator p) (λ run ran. stands run p ran) fits message peer before round.place

  ready-first : (told : Option (List ℕ)) (round : Round M) (old new : Option P) → HasProgram language.programs false old told new
      → StandsBy language stands fits message peer [] None round old → IsReady [] told round new
  ready-first None round old new h s = h ∙ s.0
  ready-first (Some text) round old (Some p) h s = (p, refl, h, s.1 p)
  ready-first (Some text) round old None h s = absurd h

  ready-later : (newest : Gift) (before : List Gift) (text : Option (List ℕ)) (round : Round M) (old new : Option P) → new ≡ old
      → StandsBy language stands fits message peer (newest ∷ before) text round old → IsReady (newest ∷ before) text round new
  ready-later newest before None round old new same s = same ∙ s
  ready-later newest before (Some text) round (Some p) new same s = (p, same, s.0, s.1)
  ready-later newest before (Some text) round None new same s = absurd s

  ready : (given : Gift) (before : List Gift) (round : Round M) (begun : Bool) (old new : Option P)
      → StandsLed language stands fits message peer before round begun old → HasProgram language.programs begun old (text_given given) new
      → IsReady before (text_in (given ∷ before)) round new
  ready given [] round begun old new s h =
      ready-first (text_given given) round old new (subst (λ (b : Bool). HasProgram language.programs b old (text_given given) new) s.begun_is h) s.stands_at
  ready given (newest ∷ before) round begun old new s h =
      ready-later newest before (text_in (newest ∷ before)) round old new (subst (λ (b : Bool). HasProgram language.programs b old (text_given given) new) s.begun_is h) s.stands_at

  -- the text, where there is a program
  abbrev IsOn : List Gift → Option (List ℕ) → Round M → P → Type 0
  IsOn before text round p =
      (told : List ℕ) × (text ≡ Some told) × language.programs told p × RoundStands (language.evaluator p) (λ run ran. stands run p ran) fits message peer before round.place

  ready-on : (before : List Gift) (text : Option (List ℕ)) (round : Round M) (program : Option P) (p : P) → IsReady before text round program → program ≡ Some p → IsOn before text round p
  ready-on before None round program p h is = absurd (none-some (sym h ∙ is))
  ready-on before (Some told) round program p h is =
      let same : h.0 ≡ p = some-same (sym h.1 ∙ is) in
      (told, refl, subst (λ (x : P). language.programs told x) same h.2, subst (λ (x : P). RoundStands (language.evaluator x) (λ run ran. stands run x ran) fits message peer before round.place) same h.3)

  ready-off : (before : List Gift) (text : Option (List ℕ)) (round : Round M) (program : Option P) → IsReady before text round program → program ≡ None → text ≡ None
  ready-off before None round program h is = refl
  ready-off before (Some told) round program h is = absurd (none-some (sym is ∙ h.1))

  -- where it stands then, and what it wants
  pub stood-on : (given : Gift) (before : List Gift) (round after : Round M) (begun : Bool) (old new : Option P) (p : P)
      → StandsLed language stands fits message peer before round begun old → HasProgram language.programs begun old (text_given given) new → new ≡ Some p
      → (RoundStands (language.evaluator p) (λ run ran. stands run p ran) fits message peer before round.place → RoundStands (language.evaluator p) (λ run ran. stands run p ran) fits message peer (given ∷ before) after.place)
      → (now : Bool) → now ≡ true → StandsLed language stands fits message peer (given ∷ before) after now new
  stood-on given before round after begun old new p s h is step now begins =
      let on = ready-on before (text_in (given ∷ before)) round new p (ready given before round begun old new s h) is in
      record {
        stands_at = subst (λ (t : Option (List ℕ)). StandsBy language stands fits message peer (given ∷ before) t after new) (sym on.1)
            (subst (λ (o : Option P). StandsBy language stands fits message peer (given ∷ before) (Some on.0) after o) (sym is) (on.2, step on.3));
        begun_is = begins;
      }

  pub stood-off : (given : Gift) (before : List Gift) (round after : Round M) (begun : Bool) (old new : Option P)
      → StandsLed language stands fits message peer before round begun old → HasProgram language.programs begun old (text_given given) new → new ≡ None
      → (now : Bool) → now ≡ true → StandsLed language stands fits message peer (given ∷ before) after now new
  stood-off given before round after begun old new s h is now begins =
      let off = ready-off before (text_in (given ∷ before)) round new (ready given before round begun old new s h) is in
      record {
        stands_at = subst (λ (t : Option (List ℕ)). StandsBy language stands fits message peer (given ∷ before) t after new) (sym off) is;
        begun_is = begins;
      }

  pub wants-on : (given : Gift) (before : List Gift) (round : Round M) (begun : Bool) (old new : Option P) (p : P) (want : RoundWant)
      → StandsLed language stands fits message peer before round begun old → HasProgram language.programs begun old (text_given given) new → new ≡ Some p
      → (RoundStands (language.evaluator p) (λ run ran. stands run p ran) fits message peer before round.place → RoundWants (language.evaluator p) None message peer (given ∷ before) want)
      → WantedBy language message peer (given ∷ before) (text_in (given ∷ before)) want
  wants-on given before round begun old new p want s h is step =
      let on = ready-on before (text_in (given ∷ before)) round new p (ready given before round begun old new s h) is in
      subst (λ (t : Option (List ℕ)). WantedBy language message peer (given ∷ before) t want) (sym on.1) (p, on.2, step on.3)

  pub wants-off : (given : Gift) (before : List Gift) (round : Round M) (begun : Bool) (old new : Option P)
      → StandsLed language stands fits message peer before round begun old → HasProgram language.programs begun old (text_given given) new → new ≡ None
      → WantedBy language message peer (given ∷ before) (text_in (given ∷ before)) wish.Done
  wants-off given before round begun old new s h is =
      let off = ready-off before (text_in (given ∷ before)) round new (ready given before round begun old new s h) is in
      subst (λ (t : Option (List ℕ)). WantedBy language message peer (given ∷ before) t wish.Done) (sym off) refl

  -- and it may be given this
  pub may-on : (given : Gift) (before : List Gift) (round : Round M) (begun : Bool) (old new : Option P) (p : P)
      → StandsLed language stands fits message peer before round begun old → HasProgram language.programs begun old (text_given given) new → new ≡ Some p
      → RoundMay (λ run ran. stands run p ran) fits round.place
  may-on given before round begun old new p s h is =
      let on = ready-on before (text_in (given ∷ before)) round new p (ready given before round begun old new s h) is in
      round-may (language.evaluator p) (λ run ran. stands run p ran) fits message peer before round.place on.3

  -- the same for a program and a round that are these
  pub may-at : (given : Gift) (before : List Gift) (round here : Round M) (begun : Bool) (old new : Option P) (p q : P)
      → StandsLed language stands fits message peer before round begun old → HasProgram language.programs begun old (text_given given) new → new ≡ Some p → here ≡ round → q ≡ p
      → RoundMay (λ run ran. stands run q ran) fits here.place
  may-at given before round here begun old new p q s h is same program =
      subst (λ (r : Round M). RoundMay (λ run ran. stands run q ran) fits r.place) (sym same)
      (subst (λ (x : P). RoundMay (λ run ran. stands run x ran) fits round.place) (sym program) (may-on given before round begun old new p s h is))

  pub stood-at : (given : Gift) (before : List Gift) (round here after : Round M) (begun : Bool) (old new : Option P) (p q : P)
      → StandsLed language stands fits message peer before round begun old → HasProgram language.programs begun old (text_given given) new → new ≡ Some p → here ≡ round → q ≡ p
      → (RoundStands (language.evaluator q) (λ run ran. stands run q ran) fits message peer before here.place → RoundStands (language.evaluator q) (λ run ran. stands run q ran) fits message peer (given ∷ before) after.place)
      → (now : Bool) → now ≡ true → StandsLed language stands fits message peer (given ∷ before) after now new
  stood-at given before round here after begun old new p q s h is same program step now begins =
      stood-on given before round after begun old new p s h is
      (subst (λ (x : P). RoundStands (language.evaluator x) (λ run ran. stands run x ran) fits message peer before round.place → RoundStands (language.evaluator x) (λ run ran. stands run x ran) fits message peer (given ∷ before) after.place) program
      (subst (λ (r : Round M). RoundStands (language.evaluator q) (λ run ran. stands run q ran) fits message peer before r.place → RoundStands (language.evaluator q) (λ run ran. stands run q ran) fits message peer (given ∷ before) after.place) same step))
      now begins

  pub wants-at : (given : Gift) (before : List Gift) (round here : Round M) (begun : Bool) (old new : Option P) (p q : P) (want : RoundWant)
      → StandsLed language stands fits message peer before round begun old → HasProgram language.programs begun old (text_given given) new → new ≡ Some p → here ≡ round → q ≡ p
      → (RoundStands (language.evaluator q) (λ run ran. stands run q ran) fits message peer before here.place → RoundWants (language.evaluator q) None message peer (given ∷ before) want)
      → WantedBy language message peer (given ∷ before) (text_in (given ∷ before)) want
  wants-at given before round here begun old new p q want s h is same program step =
      wants-on given before round begun old new p want s h is
      (subst (λ (x : P). RoundStands (language.evaluator x) (λ run ran. stands run x ran) fits message peer before round.place → RoundWants (language.evaluator x) None message peer (given ∷ before) want) program
      (subst (λ (r : Round M). RoundStands (language.evaluator q) (λ run ran. stands run q ran) fits message peer before r.place → RoundWants (language.evaluator q) None message peer (given ∷ before) want) same step))
