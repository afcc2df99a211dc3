-- An entry fits where that fits by which it is judged, and the other way round.
use Rattle.std.proofs.Common.{◌≡◌, ◌≢◌, ◌⊎◌, inl, inr, ℕ, sym, ap, ◌∙◌, subst, refl}
use Rattle.cache_law.specs.declared.call.Call.{Call}
use Rattle.cache_law.specs.declared.call.Call.TheVariants.{Insert, BanList}
use Rattle.cache_law.specs.declared.call.Entry.{Entry}
use Rattle.cache_law.specs.declared.call.Reply.{Reply}
use Rattle.cache_law.specs.declared.call.Reply.TheVariants.{Refused, NotOpen, Bans}
use Rattle.cache_law.specs.declared.setting.Params.{Params}
use Rattle.cache_law.specs.History.{Fits, lawful_entry}
use Rattle.cache_law.specs.Law.{IsBanList, MayAnswer, step_of}
use Rattle.cache_law.specs.State.{State, at_moment}
use Rattle.cache_law.proofs.Reserve.{fits_told}
use Rattle.journal_text.specs.Grammar.{said_of, shown_of}
use Rattle.audit_laws.specs.Faults.{judged_by, judged_entry}

pub record IsByLaw (reply law : Reply) : Type 0 where
  pub other : reply ≢ Refused
  pub judged : judged_by (shown_of reply) law ≡ law

-- a reply is a refusal, or it is judged by the law's
pub judged_as : (reply law : Reply) → (reply ≡ Refused) ⊎ IsByLaw reply law
judged_as Refused law = inl refl
judged_as reply law = inr (record { other = λ e. cc; judged = refl })

abbrev entry_by : Entry → Reply → Entry
entry_by entry reply = record { caller = entry.caller; moment = entry.moment; call = entry.call; reply = reply }

fits_listed : (params : Params) (state : State) (used caller moment : ℕ) (reply : Reply) → IsBanList (at_moment moment state) reply
    → Fits params state used (record { caller = caller; moment = moment; call = BanList; reply = reply }) → Fits params state used (lawful_entry params state caller moment BanList)
fits_listed params state used caller moment (Bans lines) shows fits = record { number = refl; within = fits.within; counted = fits.counted }
fits_listed params state used caller moment reply shows fits = absurd shows

-- with the law's reply, where the entry's isn't a refusal
fits_by_law : (params : Params) (state : State) (used caller moment : ℕ) (call : Call) (reply : Reply) → reply ≢ Refused
    → MayAnswer (at_moment moment state) call (step_of params state caller moment call).reply reply
    → Fits params state used (record { caller = caller; moment = moment; call = call; reply = reply }) → Fits params state used (lawful_entry params state caller moment call)
fits_by_law params state used caller moment (Insert token object stale) reply other (inl same) fits =
    subst (λ (r : Reply). Fits params state used (record { caller = caller; moment = moment; call = Insert token object stale; reply = r })) same fits
fits_by_law params state used caller moment (Insert token object stale) reply other (inr free) fits = absurd (other free.0)
fits_by_law params state used caller moment BanList reply other may fits = fits_listed params state used caller moment reply may fits
fits_by_law params state used caller moment call reply other may fits =
    subst (λ (r : Reply). Fits params state used (record { caller = caller; moment = moment; call = call; reply = r })) may fits

pub fits_judged : (params : Params) (state : State) (used : ℕ) (entry : Entry) → MayAnswer (at_moment entry.moment state) entry.call (step_of params state entry.caller entry.moment entry.call).reply entry.reply
    → Fits params state used entry → Fits params state used (judged_entry params state (said_of entry))
fits_judged params state used entry may fits =
    let law : Reply = (step_of params state entry.caller entry.moment entry.call).reply in
    elim (judged_as entry.reply law) [
      | inl refusal ↦
          let same : judged_by (shown_of entry.reply) law ≡ entry.reply = ap (λ (r : Reply). judged_by (shown_of r) law) refusal ∙ sym refusal in
          subst (λ (r : Reply). Fits params state used (entry_by entry r)) (sym same) fits
      | inr lawful ↦ subst (λ (r : Reply). Fits params state used (entry_by entry r)) (sym lawful.judged) (fits_by_law params state used entry.caller entry.moment entry.call entry.reply lawful.other may fits)
    ]

-- what is judged fits, so the entry fits that may come next
pub judged_fits : (params : Params) (state : State) (used : ℕ) (entry : Entry) → MayAnswer (at_moment entry.moment state) entry.call (step_of params state entry.caller entry.moment entry.call).reply entry.reply
    → Fits params state used (judged_entry params state (said_of entry)) → Fits params state used entry
judged_fits params state used entry may fits =
    let law : Reply = (step_of params state entry.caller entry.moment entry.call).reply in
    elim (judged_as entry.reply law) [
      | inl refusal ↦
          let same : judged_by (shown_of entry.reply) law ≡ entry.reply = ap (λ (r : Reply). judged_by (shown_of r) law) refusal ∙ sym refusal in
          subst (λ (r : Reply). Fits params state used (entry_by entry r)) same fits
      | inr lawful ↦ fits_told params state used entry may (subst (λ (r : Reply). Fits params state used (entry_by entry r)) lawful.judged fits)
    ]
