-- Steps without the lurker's lead to the same history, and calls to one.
use Rattle.std.proofs.Common.{◌≡◌, ◌≢◌, ◌⊎◌, inl, inr, ℕ, Bool, true, false, cond, List, [], ◌∷◌, ◌++◌, filter, refl, sym, ◌∙◌, ap, subst}
use Rattle.std.specs.List.{AllByRecursion}
use Rattle.std.proofs.lemmas.Bool.{true≢false}
use Rattle.std.proofs.lemmas.List.{append-nil, append_assoc}
use Rattle.cache_law.specs.declared.cache.Told.{Told}
use Rattle.cache_law.specs.declared.call.Call.{Call as Asked}
use Rattle.cache_law.specs.declared.call.Call.TheVariants.{BanList, Insert}
use Rattle.cache_law.specs.declared.call.Entry.{Entry}
use Rattle.cache_law.specs.declared.call.Reply.{Reply}
use Rattle.cache_law.specs.declared.call.Reply.TheVariants.{Refused}
use Rattle.cache_law.specs.Beginning.{Beginning}
use Rattle.cache_law.specs.Core.{Entered, entry_of, moment_of}
use Rattle.cache_law.specs.History.{Legal, reached}
use Rattle.cache_law.specs.Law.{MayAnswer, step_of}
use Rattle.cache_law.specs.State.{State, at_moment}
use Rattle.cache_law.proofs.Histories.{Legal-push}
use Rattle.core_steps.specs.declared.step.CoreStep.{CoreStep}
use Rattle.core_steps.specs.declared.step.CoreStep.TheVariants.{Call, Lurk, Settle}
use Rattle.core_steps.specs.Steps.{AllBound, Grows, IsBound, Moves, erased, is_call}

-- ---- the lurker's steps

still : (beginning : Beginning) (old new : List Entry) (step : CoreStep) → is_call step ≡ false → Moves beginning old step new → new ≡ old
still beginning old new (Call caller reading call) e moves = absurd (true≢false e)
still beginning old new (Lurk count) e moves = moves
still beginning old new (Settle verdict) e moves = moves

trace_step : (b : Bool) (beginning : Beginning) (old between new : List Entry) (step : CoreStep) (steps : List CoreStep) → is_call step ≡ b → Moves beginning old step between → Grows beginning between steps new
    → Grows beginning old (cond b (step ∷ steps) steps) new
trace_step true beginning old between new step steps e moves grows = (between, moves, grows)
trace_step false beginning old between new step steps e moves grows = subst (λ (es : List Entry). Grows beginning es steps new) (still beginning old between step e moves) grows

pub no_trace : (beginning : Beginning) (old new : List Entry) (steps : List CoreStep) → Grows beginning old steps new → Grows beginning old (erased steps) new
no_trace beginning old new [] grows = grows
no_trace beginning old new (step ∷ steps) grows = trace_step (is_call step) beginning old grows.0 new step (erased steps) refl grows.1 (no_trace beginning grows.0 new steps grows.2)

-- ---- what is entered

-- where the law leaves one answer, it is the law's
laws_own : (state : State) (call : Asked) (law answer : Reply) → MayAnswer state call law answer → answer ≢ Refused → call ≢ BanList → answer ≡ law
laws_own state (Insert token object stale) law answer (inl same) other one = same
laws_own state (Insert token object stale) law answer (inr refused) other one = absurd (other refused.0)
laws_own state BanList law answer may other one = absurd (one refl)
laws_own state call law answer may other one = may

law_of : Beginning → List Entry → ℕ → ℕ → Asked → Reply
law_of beginning before caller moment call = (step_of beginning.params (reached beginning before) caller moment call).reply

same_entry : (beginning : Beginning) (old one other : List Entry) (caller reading : ℕ) (call : Asked) (told said : Told) → Entered beginning old one caller reading call told → Entered beginning old other caller reading call said
    → IsBound (entry_of caller call told) → IsBound (entry_of caller call said) → entry_of caller call said ≡ entry_of caller call told
unfolding law_of
same_entry beginning old one other caller reading call told said p q bound own =
    let when : said.moment ≡ told.moment = q.moment ∙ sym p.moment in
    let mine : told.reply ≡ law_of beginning old caller told.moment call = laws_own (at_moment told.moment (reached beginning old)) call _ told.reply p.follows.answer bound.0 bound.1 in
    let its : said.reply ≡ law_of beginning old caller said.moment call = laws_own (at_moment said.moment (reached beginning old)) call _ said.reply q.follows.answer own.0 own.1 in
    let reply : said.reply ≡ told.reply = its ∙ ap (λ (n : ℕ). law_of beginning old caller n call) when ∙ sym mine in
    let of : ℕ → Reply → Entry = λ n r. record { caller = caller; moment = n; call = call; reply = r } in
    ap (λ (n : ℕ). of n said.reply) when ∙ ap (λ (r : Reply). of told.moment r) reply

-- the last of these holds what all hold
last_bound : (old : List Entry) (entry : Entry) → AllBound (old ++ entry ∷ []) → IsBound entry
last_bound [] entry all = all.0
last_bound (e ∷ old) entry all = last_bound old entry all.1

front_bound : (front back : List Entry) → AllBound (front ++ back) → AllBound front
front_bound [] back all = tt
front_bound (e ∷ front) back all = (all.0, front_bound front back all.1)

-- the history that steps lead to begins with that before them
record BeginsWith (old new : List Entry) : Type 0 where
  more : List Entry
  is : new ≡ old ++ more

longer : (beginning : Beginning) (old new : List Entry) (step : CoreStep) → Moves beginning old step new → BeginsWith old new
longer beginning old new (Call caller reading call) moves = record { more = entry_of caller call moves.0 ∷ []; is = moves.1.joined }
longer beginning old new (Lurk count) moves = record { more = []; is = moves ∙ sym (append-nil old) }
longer beginning old new (Settle verdict) moves = record { more = []; is = moves ∙ sym (append-nil old) }

all_longer : (beginning : Beginning) (old new : List Entry) (steps : List CoreStep) → Grows beginning old steps new → BeginsWith old new
all_longer beginning old new [] grows = record { more = []; is = grows ∙ sym (append-nil old) }
all_longer beginning old new (step ∷ steps) grows =
    let one = longer beginning old grows.0 step grows.1 in
    let rest = all_longer beginning grows.0 new steps grows.2 in
    record { more = one.more ++ rest.more; is = rest.is ∙ (ap (λ (es : List Entry). es ++ rest.more) one.is ∙ append_assoc old one.more rest.more) }

between_bound : (old new : List Entry) → BeginsWith old new → AllBound new → AllBound old
between_bound old new begins all = front_bound old begins.more (subst AllBound begins.is all)

-- ---- one history

same_move : (beginning : Beginning) (old one other : List Entry) (step : CoreStep) → Moves beginning old step one → Moves beginning old step other → AllBound one → AllBound other → other ≡ one
same_move beginning old one other (Call caller reading call) p q bound own =
    let mine = last_bound old (entry_of caller call p.0) (subst AllBound p.1.joined bound) in
    let its = last_bound old (entry_of caller call q.0) (subst AllBound q.1.joined own) in
    q.1.joined ∙ (ap (λ (e : Entry). old ++ e ∷ []) (same_entry beginning old one other caller reading call p.0 q.0 p.1 q.1 mine its) ∙ sym p.1.joined)
same_move beginning old one other (Lurk count) p q bound own = q ∙ sym p
same_move beginning old one other (Settle verdict) p q bound own = q ∙ sym p

same_growth : (beginning : Beginning) (old new other : List Entry) (steps : List CoreStep) → Grows beginning old steps new → Grows beginning old steps other → AllBound new → AllBound other → other ≡ new
same_growth beginning old new other [] p q bound own = q ∙ sym p
same_growth beginning old new other (step ∷ steps) p q bound own =
    let mine = between_bound p.0 new (all_longer beginning p.0 new steps p.2) bound in
    let its = between_bound q.0 other (all_longer beginning q.0 other steps q.2) own in
    let same : q.0 ≡ p.0 = same_move beginning old p.0 q.0 step p.1 q.1 mine its in
    same_growth beginning p.0 new other steps p.2 (subst (λ (es : List Entry). Grows beginning es steps other) same q.2) bound own

pub one_history : (beginning : Beginning) (old new other : List Entry) (steps others : List CoreStep) → erased others ≡ erased steps → Grows beginning old steps new → Grows beginning old others other → AllBound new → AllBound other → other ≡ new
one_history beginning old new other steps others same p q bound own =
    same_growth beginning old new other (erased steps) (no_trace beginning old new steps p)
    (subst (λ (made : List CoreStep). Grows beginning old made other) same (no_trace beginning old other others q)) bound own

-- ---- legal histories

legal_move : (beginning : Beginning) (old new : List Entry) (step : CoreStep) → Legal beginning old → Moves beginning old step new → Legal beginning new
legal_move beginning old new (Call caller reading call) legal moves =
    subst (Legal beginning) (sym moves.1.joined) (Legal-push beginning old (entry_of caller call moves.0) legal moves.1.follows moves.1.fits)
legal_move beginning old new (Lurk count) legal moves = subst (Legal beginning) (sym moves) legal
legal_move beginning old new (Settle verdict) legal moves = subst (Legal beginning) (sym moves) legal

pub stays_legal : (beginning : Beginning) (old new : List Entry) (steps : List CoreStep) → Legal beginning old → Grows beginning old steps new → Legal beginning new
stays_legal beginning old new [] legal grows = subst (Legal beginning) (sym grows) legal
stays_legal beginning old new (step ∷ steps) legal grows = stays_legal beginning grows.0 new steps (legal_move beginning old grows.0 step legal grows.1) grows.2
