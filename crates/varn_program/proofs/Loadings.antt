-- What a load comes to, from how its session was played and told.
use Rattle.std.proofs.Common.{◌≡◌, ◌⊎◌, ℕ, List, [], Option, Some, None, refl, sym, ◌∙◌, ap, ap₂, subst, inl, inr}
use Rattle.cache_law.specs.declared.call.Entry.{Entry}
use Rattle.cache_law.specs.declared.setting.Params.{Params}
use Rattle.session_text.specs.declared.session.Session.{Session}
use Rattle.session_text.specs.Generated.{generated}
use Rattle.session_text.specs.Sessions.{IsSession}
use Rattle.replay.specs.Laws.{NothingStops}
use Rattle.replay.specs.Replayed.{SessionEnds}
use Rattle.replay.specs.declared.session.ReplayError.{ReplayError}
use Rattle.replay.specs.declared.session.ReplayError.TheVariants as refusals
use Rattle.vmod_host.specs.declared.signature.Stored.{Stored}
use Rattle.varn_program.specs.declared.outcome.Outcome.{Outcome}
use Rattle.varn_program.specs.declared.outcome.Status.{Status}
use Rattle.varn_program.specs.declared.outcome.Status.TheVariants as statuses
use Rattle.load_summary.specs.declared.summary.Summary.{Summary}
use Rattle.load_summary.specs.Counts.{summary_of}
use Rattle.varn_program.specs.Load.{IsLoaded, Loads, LoadsAs, Reports, Tells, TellsAs, usual_limits}
use Rattle.varn_program.specs.Run.{HasEnded, opening_boot, outcome_of, plan}

-- how a session was played into a sink in memory that held nothing
pub in_memory : (stored : List Stored) (params : Params) (session : Session) (held taken kept : List ℕ) (played : Outcome) → params ≡ usual_limits → held ≡ [] → kept ≡ taken → HasEnded stored params session (Some held) (Some taken) played → HasEnded stored usual_limits session (Some []) (Some kept) played
in_memory stored params session held taken kept played limits none same ended =
    subst (λ (l : Params). HasEnded stored l session (Some []) (Some kept) played) limits
    (subst (λ (h : List ℕ). HasEnded stored params session (Some h) (Some kept) played) none
    (subst (λ (t : List ℕ). HasEnded stored params session (Some held) (Some t) played) (sym same) ended))

-- what is told of a load that was whole
pub tells_done : (steps : ℕ) (held0 held1 : Option (List ℕ)) (failed : Type 0) (transcript : List ℕ) (played : Outcome) (history : List Entry) (swept : List ℕ) (summary : Summary) (status told : Status) → status ≡ statuses.Done → history ≡ played.history → swept ≡ played.swept → summary ≡ summary_of steps history swept transcript → Reports held0 held1 failed summary told → TellsAs steps held0 held1 failed transcript played status told
tells_done steps held0 held1 failed transcript played history swept summary status told done entries sweeps made reports =
    subst (λ (s : Status). TellsAs steps held0 held1 failed transcript played s told) (sym done)
    (subst (λ (m : Summary). Reports held0 held1 failed m told) (made ∙ ap₂ (λ (h : List Entry) (w : List ℕ). summary_of steps h w transcript) entries sweeps) reports)

-- what is told of a load that was neither whole nor stopped by its sink
pub tells_other : (steps : ℕ) (held : Option (List ℕ)) (failed : Type 0) (transcript : List ℕ) (played : Outcome) (status : Status) → (status ≡ statuses.Done → ⊥) → (status ≡ statuses.WriteFault → ⊥) → TellsAs steps held held failed transcript played status status
tells_other steps held failed transcript played statuses.Done a b = absurd (a refl)
tells_other steps held failed transcript played statuses.WriteFault a b = absurd (b refl)
tells_other steps held failed transcript played status a b = (refl, refl)

module _ (stored : List Stored) (seed steps : ℕ) (held0 held1 : Option (List ℕ)) (failed : Type 0) (kept : List ℕ) (session : Session) (is : IsSession (generated seed steps) session) where
  abbrev Ends : List Entry → Option ReplayError → Type 0
  Ends history ending = SessionEnds stored (plan usual_limits opening_boot) session history (Some []) (Some kept) ending

  abbrev Told : Outcome → Status → Type 0
  Told played status = TellsAs steps held0 held1 failed kept played played.status status

  abbrev With : Outcome → Status → Outcome
  With played status = record played { status = status }

  -- ---- how it ends

  whole : (history : List Entry) (swept : List ℕ) (status : Status) → Ends history None → Told (outcome_of history swept None) status → LoadsAs stored seed steps held0 held1 (With (outcome_of history swept None) status) status
  whole history swept statuses.Done ends told = (refl, kept, (session, is, ends), told)
  whole history swept statuses.Words ends told = absurd told
  whole history swept statuses.Session ends told = absurd told
  whole history swept statuses.ReadFault ends told = absurd told
  whole history swept statuses.WriteFault ends told = (refl, kept, (session, is, ends), told.0)
  whole history swept statuses.HistoryFull ends told = absurd told
  whole history swept statuses.NoMemory ends told = (told, refl, inr (None, (Some kept, (session, is, ends))))

  told_as : (history : List Entry) (swept : List ℕ) (ending : Option ReplayError) (status : Status) → Ends history ending → Told (outcome_of history swept ending) status → LoadsAs stored seed steps held0 held1 (With (outcome_of history swept ending) status) status
  told_as history swept None status ends told = whole history swept status ends told
  told_as history swept (Some (refusals.Idle line)) status ends told =
      subst (λ (s : Status). LoadsAs stored seed steps held0 held1 (With (outcome_of history swept (Some (refusals.Idle line))) s) s) (sym told.0) (told.1, inr (inl (line, refl, (Some kept, (session, is, ends)))))
  told_as history swept (Some (refusals.Unanswered line)) status ends told =
      subst (λ (s : Status). LoadsAs stored seed steps held0 held1 (With (outcome_of history swept (Some (refusals.Unanswered line))) s) s) (sym told.0) (told.1, inr (inr (line, refl, (Some kept, (session, is, ends)))))
  told_as history swept (Some refusals.WriteFault) status ends told =
      subst (λ (s : Status). LoadsAs stored seed steps held0 held1 (With (outcome_of history swept (Some refusals.WriteFault)) s) s) (sym told.0) (told.1, refl, inr (Some refusals.WriteFault, (Some kept, (session, is, ends))))
  told_as history swept (Some refusals.HistoryFull) status ends told =
      subst (λ (s : Status). LoadsAs stored seed steps held0 held1 (With (outcome_of history swept (Some refusals.HistoryFull)) s) s) (sym told.0) (told.1, refl, (Some kept, (session, is, ends)))
  told_as history swept (Some refusals.NoMemory) status ends told =
      subst (λ (s : Status). LoadsAs stored seed steps held0 held1 (With (outcome_of history swept (Some refusals.NoMemory)) s) s) (sym told.0) (told.1, refl, inr (Some refusals.NoMemory, (Some kept, (session, is, ends))))

  -- ---- what hinders it

  unhindered : (history : List Entry) (swept : List ℕ) (status : Status) → Told (outcome_of history swept None) status → (failed → ⊥) → (status ≡ statuses.Done) ⊎ (status ≡ statuses.NoMemory)
  unhindered history swept statuses.Done told calm = inl refl
  unhindered history swept statuses.Words told calm = absurd told
  unhindered history swept statuses.Session told calm = absurd told
  unhindered history swept statuses.ReadFault told calm = absurd told
  unhindered history swept statuses.WriteFault told calm = absurd (calm told.1)
  unhindered history swept statuses.HistoryFull told calm = absurd told
  unhindered history swept statuses.NoMemory told calm = inr refl

  hindered : (history : List Entry) (swept : List ℕ) (ending : Option ReplayError) (status : Status) → Ends history ending → Told (outcome_of history swept ending) status → NothingStops stored (plan usual_limits opening_boot) session history → (failed → ⊥) → (status ≡ statuses.Done) ⊎ (status ≡ statuses.NoMemory)
  hindered history swept None status ends told nothing calm = unhindered history swept status told calm
  hindered history swept (Some (refusals.Idle line)) status ends told nothing calm = absurd (nothing (Some []) (Some kept) (refusals.Idle line) tt ends)
  hindered history swept (Some (refusals.Unanswered line)) status ends told nothing calm = absurd (nothing (Some []) (Some kept) (refusals.Unanswered line) tt ends)
  hindered history swept (Some refusals.WriteFault) status ends told nothing calm = inr told.0
  hindered history swept (Some refusals.HistoryFull) status ends told nothing calm = absurd (nothing (Some []) (Some kept) refusals.HistoryFull tt ends)
  hindered history swept (Some refusals.NoMemory) status ends told nothing calm = inr told.0

  -- ---- why writing failed

  faulty : (history : List Entry) (swept : List ℕ) (status : Status) → Told (outcome_of history swept None) status → status ≡ statuses.WriteFault → failed
  faulty history swept statuses.WriteFault told so = told.1
  faulty history swept statuses.Done told so = absurd (cc)
  faulty history swept statuses.Words told so = absurd told
  faulty history swept statuses.Session told so = absurd told
  faulty history swept statuses.ReadFault told so = absurd told
  faulty history swept statuses.HistoryFull told so = absurd told
  faulty history swept statuses.NoMemory told so = absurd (cc)

  caused : (history : List Entry) (swept : List ℕ) (ending : Option ReplayError) (status : Status) → Told (outcome_of history swept ending) status → status ≡ statuses.WriteFault → failed
  caused history swept None status told so = faulty history swept status told so
  caused history swept (Some (refusals.Idle line)) status told so = let other = told.0 in absurd (cc)
  caused history swept (Some (refusals.Unanswered line)) status told so = let other = told.0 in absurd (cc)
  caused history swept (Some refusals.WriteFault) status told so = let other = told.0 in absurd (cc)
  caused history swept (Some refusals.HistoryFull) status told so = let other = told.0 in absurd (cc)
  caused history swept (Some refusals.NoMemory) status told so = let other = told.0 in absurd (cc)

  -- ---- the same, as the calls tell it

  module _ (played outcome : Outcome) (ended : HasEnded stored usual_limits session (Some []) (Some kept) played) (tells : Tells steps held0 held1 failed kept played outcome) where
    as_played : Told (outcome_of played.history played.swept ended.ending) outcome.status
    as_played = subst (λ (o : Outcome). Told o outcome.status) ended.outcome_is tells.tells

    pub loads : Loads stored seed steps held0 held1 outcome
    loads =
        subst (λ (o : Outcome). Loads stored seed steps held0 held1 o) (sym tells.rest)
        (subst (λ (o : Outcome). LoadsAs stored seed steps held0 held1 (With o outcome.status) outcome.status) (sym ended.outcome_is)
        (told_as played.history played.swept ended.ending outcome.status ended.ends as_played))

    pub is_loaded : ((other : Session) → IsSession (generated seed steps) other → session ≡ other) → IsLoaded stored seed steps failed outcome
    is_loaded only = λ other reads nothing calm.
        let here : NothingStops stored (plan usual_limits opening_boot) session outcome.history = subst (λ (s : Session). NothingStops stored (plan usual_limits opening_boot) s outcome.history) (sym (only other reads)) nothing in
        hindered played.history played.swept ended.ending outcome.status ended.ends as_played
        (subst (λ (h : List Entry). NothingStops stored (plan usual_limits opening_boot) session h) (ap (λ (o : Outcome). o.history) tells.rest) here) calm

    pub failing : outcome.status ≡ statuses.WriteFault → failed
    failing so = caused played.history played.swept ended.ending outcome.status as_played so
