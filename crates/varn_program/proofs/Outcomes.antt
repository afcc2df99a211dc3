-- The outcome of a session that was played.
use Rattle.std.specs.Prelude.{IsErrOf}
use Rattle.std.specs.Cmp.Lexicographic.{pointwise}
use Rattle.std.proofs.lemmas.Bool.{eq-eqb}
use Rattle.std.proofs.Common.{◌≡◌, ◌∙◌, ◌∷◌, ◌++◌, ◌+◌, ◌⊎◌, ◌≤◌, ◌&&◌, Bool, true, nat_eq, length, ap, arith, ℕ, List, [], Option, Some, None, Err, refl, sym, subst, inl, inr, length-append}
use Rattle.std.proofs.lemmas.List.{append-nil}
use Rattle.cache_law.specs.declared.setting.Params.{Params}
use Rattle.cache_law.specs.declared.setting.Boot.{Boot}
use Rattle.cache_law.specs.declared.call.Entry.{Entry}
use Rattle.std.specs.Io.KnownBytes.{Consumes, IsAtEnd}
use Rattle.wire.specs.Content.{ReadsUpTo}
use Rattle.session_text.specs.declared.session.Session.{Session}
use Rattle.replay.specs.Laws.{NothingStops}
use Rattle.session_text.specs.Sessions.{IsSession}
use Rattle.replay.specs.declared.session.ReplayError.{ReplayError}
use Rattle.replay.specs.declared.session.ReplayError.TheVariants as refusals
use Rattle.replay.specs.Replayed.{SessionEnds, PlayedTo as SessionPlayedTo}
use Rattle.vmod_host.specs.declared.signature.Stored.{Stored}
use Rattle.varn_program.specs.declared.outcome.Outcome.{Outcome}
use Rattle.varn_program.specs.declared.outcome.Status.TheVariants as statuses
use Rattle.varn_program.specs.Run.{IsText, PlayedTo, EndsReplay, HasEnded, HasSession, IsComplete, opening_boot, outcome_of, plan, stopped}

-- ---- a session that was played

as_ended : (stored : List Stored) (params : Params) (session : Session) (held0 held1 : Option (List ℕ)) (history : List Entry) (swept : List ℕ) (ending : Option ReplayError) → SessionEnds stored (plan params opening_boot) session history held0 held1 ending → HasEnded stored params session held0 held1 (outcome_of history swept ending)
as_ended stored params session held0 held1 history swept None ends = record { ending = None; ends = ends; outcome_is = refl }
as_ended stored params session held0 held1 history swept (Some (refusals.Idle line)) ends = record { ending = Some (refusals.Idle line); ends = ends; outcome_is = refl }
as_ended stored params session held0 held1 history swept (Some (refusals.Unanswered line)) ends = record { ending = Some (refusals.Unanswered line); ends = ends; outcome_is = refl }
as_ended stored params session held0 held1 history swept (Some refusals.WriteFault) ends = record { ending = Some refusals.WriteFault; ends = ends; outcome_is = refl }
as_ended stored params session held0 held1 history swept (Some refusals.HistoryFull) ends = record { ending = Some refusals.HistoryFull; ends = ends; outcome_is = refl }
as_ended stored params session held0 held1 history swept (Some refusals.NoMemory) ends = record { ending = Some refusals.NoMemory; ends = ends; outcome_is = refl }

-- the same, as the calls tell it
pub has_ended : (stored : List Stored) (params : Params) (session : Session) (held0 held1 : Option (List ℕ)) (boot : Boot) (history : List Entry) (swept : List ℕ) (ending : Option ReplayError) (outcome : Outcome) → boot ≡ opening_boot → outcome ≡ outcome_of history swept ending → SessionEnds stored (plan params boot) session history held0 held1 ending → HasEnded stored params session held0 held1 outcome
has_ended stored params session held0 held1 boot history swept ending outcome opened told ends =
    subst (λ (o : Outcome). HasEnded stored params session held0 held1 o) (sym told)
    (as_ended stored params session held0 held1 history swept ending (subst (λ (b : Boot). SessionEnds stored (plan params b) session history held0 held1 ending) opened ends))

-- nothing was played for want of memory
pub wanting_ended : (stored : List Stored) (params : Params) (session : Session) (held : Option (List ℕ)) (outcome : Outcome) → outcome ≡ stopped statuses.NoMemory None → HasEnded stored params session held held outcome
wanting_ended stored params session held outcome is =
    subst (λ (o : Outcome). HasEnded stored params session held held o) (sym is)
    (record { ending = Some refusals.NoMemory; ends = inl (record { history_is = refl; held_is = refl }); outcome_is = refl })

-- ---- a replay

outcome_ends : (stored : List Stored) (params : Params) (left0 left1 held0 held1 : Option (List ℕ)) (history : List Entry) (swept : List ℕ) (refusal : Option ReplayError) → PlayedTo stored params left0 left1 held0 held1 history refusal → EndsReplay stored params left0 left1 held0 held1 (outcome_of history swept refusal)
outcome_ends stored params left0 left1 held0 held1 history swept None played = (refl, played)
outcome_ends stored params left0 left1 held0 held1 history swept (Some (refusals.Idle line)) played = inr (inl (line, refl, played))
outcome_ends stored params left0 left1 held0 held1 history swept (Some (refusals.Unanswered line)) played = inr (inr (line, refl, played))
outcome_ends stored params left0 left1 held0 held1 history swept (Some refusals.WriteFault) played = (refl, played)
outcome_ends stored params left0 left1 held0 held1 history swept (Some refusals.HistoryFull) played = (refl, played)
outcome_ends stored params left0 left1 held0 held1 history swept (Some refusals.NoMemory) played = (refl, inr played)

-- the same, as the calls tell it
pub replay_ends : (stored : List Stored) (params : Params) (left0 left1 held0 held1 : Option (List ℕ)) (text : List ℕ) (session : Session) (outcome : Outcome) → IsText left0 left1 text → IsSession text session → HasEnded stored params session held0 held1 outcome → EndsReplay stored params left0 left1 held0 held1 outcome
replay_ends stored params left0 left1 held0 held1 text session outcome is_text is_session ended =
    subst (λ (o : Outcome). EndsReplay stored params left0 left1 held0 held1 o) (sym ended.outcome_is)
    (outcome_ends stored params left0 left1 held0 held1 outcome.history outcome.swept ended.ending (text, session, is_text, is_session, ended.ends))

pointwise_same : (xs : List ℕ) → pointwise nat_eq xs xs ≡ true
pointwise_same [] = refl
pointwise_same (x ∷ xs) = ap (λ (b : Bool). b && pointwise nat_eq xs xs) (eq-eqb x x refl) ∙ pointwise_same xs

consumed : (bytes text : List ℕ) (left : Option (List ℕ)) → Consumes (Some bytes) left text → (length text ≤ 67108864 → IsAtEnd left) → length bytes ≤ 67108864 → text ≡ bytes
consumed bytes text None front end short = absurd front
consumed bytes text (Some rest) front end short =
    let size : length bytes ≡ length text + length rest = ap length front ∙ length-append text rest in
    let none : rest ≡ [] = end (omega arith) in
    sym (front ∙ (ap (λ (r : List ℕ). text ++ r) none ∙ append-nil text))

-- all that the source had was read, where that is within the limit
pub all_read : (left0 left1 : Option (List ℕ)) (text bytes : List ℕ) → IsText left0 left1 text → left0 ≡ Some bytes → length bytes ≤ 67108864 → text ≡ bytes
all_read left0 left1 text bytes reads is short =
    let here = subst (λ (l : Option (List ℕ)). ReadsUpTo 67108864 l left1 text) is reads in
    consumed bytes text left1 here.front here.whole short

-- a session that nothing stops was played whole, unless a call of the outside failed or memory was wanting
pub played_whole : (stored : List Stored) (params : Params) (held0 held1 : Option (List ℕ)) (session : Session) (outcome : Outcome) (ending : Option ReplayError) (failed : Type 0) → outcome ≡ outcome_of outcome.history outcome.swept ending → (outcome.status ≡ statuses.WriteFault → failed) → SessionEnds stored (plan params opening_boot) session outcome.history held0 held1 ending → NothingStops stored (plan params opening_boot) session outcome.history → (failed → ⊥)
    → ((outcome.status ≡ statuses.Done) × SessionPlayedTo stored (plan params opening_boot) session outcome.history held0 held1 None) ⊎ (outcome.status ≡ statuses.NoMemory)
played_whole stored params held0 held1 session outcome None failed is cause ends nothing calm = inl (ap (λ (o : Outcome). o.status) is, ends)
played_whole stored params held0 held1 session outcome (Some (refusals.Idle line)) failed is cause ends nothing calm = absurd (nothing held0 held1 (refusals.Idle line) tt ends)
played_whole stored params held0 held1 session outcome (Some (refusals.Unanswered line)) failed is cause ends nothing calm = absurd (nothing held0 held1 (refusals.Unanswered line) tt ends)
played_whole stored params held0 held1 session outcome (Some refusals.WriteFault) failed is cause ends nothing calm = absurd (calm (cause (ap (λ (o : Outcome). o.status) is)))
played_whole stored params held0 held1 session outcome (Some refusals.HistoryFull) failed is cause ends nothing calm = absurd (nothing held0 held1 refusals.HistoryFull tt ends)
played_whole stored params held0 held1 session outcome (Some refusals.NoMemory) failed is cause ends nothing calm = inr (ap (λ (o : Outcome). o.status) is)

-- the text of a source that has a session is that session's
pub text_reads : (left0 left1 : Option (List ℕ)) (text : List ℕ) (session : Session) → IsText left0 left1 text → HasSession left0 session → IsSession text session
text_reads left0 left1 text session is_text has = subst (λ (t : List ℕ). IsSession t session) (sym (all_read left0 left1 text has.bytes is_text has.left_is has.short)) has.reads

pub complete_at : (stored : List Stored) (params : Params) (left0 left1 held0 held1 : Option (List ℕ)) (text : List ℕ) (read : Session) (outcome : Outcome) (failed : Type 0) → IsText left0 left1 text → ((session : Session) → IsSession text session → read ≡ session) → HasEnded stored params read held0 held1 outcome → (outcome.status ≡ statuses.WriteFault → failed) → IsComplete stored params left0 held0 held1 failed outcome
complete_at stored params left0 left1 held0 held1 text read outcome failed is_text only ended cause =
    λ session has nothing calm.
    let here = text_reads left0 left1 text session is_text has in
    let so : SessionEnds stored (plan params opening_boot) session outcome.history held0 held1 ended.ending =
    subst (λ (s : Session). SessionEnds stored (plan params opening_boot) s outcome.history held0 held1 ended.ending) (only session here) ended.ends in
    played_whole stored params held0 held1 session outcome ended.ending failed ended.outcome_is cause so nothing calm

-- an error that is told is this one
pub same_error : {T E : Type 0} (told error : E) → told ≡ error → IsErrOf {T = T} {E = E} (Err told) error
same_error {T} {E} told error is = subst (λ (e : E). IsErrOf {T = T} {E = E} (Err told) e) is refl
