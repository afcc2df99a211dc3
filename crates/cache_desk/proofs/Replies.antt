-- What each answer of the desk's own leaves is what the law leaves.
use Rattle.std.proofs.Common.{◌≡◌, ◌≢◌, ℕ, Bool, true, false, cond, List, [], ◌∷◌, ◌+◌, ◌<◌, ◌++◌, ◌^◌, Option, Some, None, nat_lt, refl, arith, sym, ap, ◌∙◌}
use Rattle.std.proofs.lemmas.Bool.{cond-true, cond-false, ltb-true, eq-eqb, ne_eqb}
use Rattle.std.specs.List.{list_any}
use Rattle.std.specs.Str.{bytes_eq}
use Rattle.cache_law.specs.declared.call.Call.{Call}
use Rattle.cache_law.specs.declared.call.Call.TheVariants.{Begin, Draw, Pick, SetHealth, Load, Switch, Discard, VclList, Drop, End}
use Rattle.cache_law.specs.declared.call.Reply.{Reply}
use Rattle.cache_law.specs.declared.call.Reply.TheVariants.{Began, NoRound, Drawn, NotOpen, Picked, HealthSet, Loaded, NameTaken, Switched, NoVcl, Discarded, IsActive, Vcls, Dropped, Ended}
use Rattle.cache_law.specs.declared.state.OpenFetch.{OpenFetch}
use Rattle.cache_law.specs.declared.state.OpenRound.{OpenRound}
use Rattle.directors.specs.declared.target.Target.{Target}
use Rattle.cache_law.specs.declared.vcl.Vcl.{Vcl}
use Rattle.cache_law.specs.declared.vcl.VclSource.{VclSource}
use Rattle.cache_law.specs.declared.vcl.LoadedVcl.{LoadedVcl}
use Rattle.cache_law.specs.declared.vcl.VclLine.{VclLine}
use Rattle.cache_law.specs.declared.vcl.Counter.{Counter}
use Rattle.cache_law.specs.declared.vcl.Health.{Health}
use Rattle.cache_law.specs.declared.vcl.ForcedHealth.{ForcedHealth}
use Rattle.cache_law.specs.Targets.{with_health, counted_on, name_at}
use Rattle.cache_law.specs.Vcls.{called, is_taken, numbered, those_staying, with_vcl, without_vcl, vcl_lines}
use Rattle.cache_law.specs.History.{is_numbered}
use Rattle.cache_law.specs.State.{State, Held, those_in_time, at_moment, has_round, has_fetch, without_fetch, without_fetches_of, without_round_of}
use Rattle.cache_law.specs.Law.{Step, refused, leaving, begun, drawn, closing, picked_at, health_set, loaded, loaded_as, switched, switched_to, discarded, discarded_of, vcls_listed, dropped, ended}
use Rattle.cache_law.proofs.Moments.{those_in_time-later}
use Rattle.cache_law.proofs.Lawful.{asks_bans, is_refusal, behind_lawful, MayAnswer-lawful}
use Rattle.cache_desk.specs.declared.answer.Answer.{Answer}
use Rattle.cache_desk.specs.Answers.{Answers}

-- what is in time is in time
pub once : (now : ℕ) (objects : List Held) → those_in_time now (those_in_time now objects) ≡ those_in_time now objects
once now objects = those_in_time-later now now (omega arith) objects

-- a reply of the law, and a state that differs from the law's by objects that aren't in time
pub by_law : (old new : State) (now : ℕ) (call : Call) (law : Step) (reply : Reply) (state : State) (answer : Answer) → asks_bans call ≡ false → law ≡ record { reply = reply; state = state } → is_refusal reply ≡ false → new.moment ≡ now → at_moment now new ≡ at_moment now state → answer.told ≡ reply → answer.kept ≡ reply → Answers old new now call law answer
by_law old new now call law reply state answer one is_ lawful at_ same told kept =
    record {
      twice = kept ∙ sym told;
      allows = MayAnswer-lawful (at_moment now old) call law.reply answer.told one (told ∙ sym (ap (λ (s : Step). s.reply) is_));
      moment = at_;
      leaves = same ∙ ap (at_moment now) (sym (ap (λ (s : Step). s.state) is_))
          ∙ ap (at_moment now) (sym (behind_lawful answer.told (refused (at_moment now old) call) law.state (ap is_refusal told ∙ lawful)));
    }

-- the same, part by part: what is kept differs from the law's state by objects that aren't in time
pub by_parts : (old : State) (now : ℕ) (call : Call) (law : Step) (reply : Reply) (next : ℕ) (objects lawful_objects : List Held) (fetches lawful_fetches : List OpenFetch) (rounds lawful_rounds : List OpenRound) (answer : Answer) → asks_bans call ≡ false → law ≡ record { reply = reply; state = record old { moment = now; next = next; objects = lawful_objects; fetches = lawful_fetches; rounds = lawful_rounds } } → is_refusal reply ≡ false → those_in_time now objects ≡ those_in_time now lawful_objects → fetches ≡ lawful_fetches → rounds ≡ lawful_rounds → answer.told ≡ reply → answer.kept ≡ reply → Answers old (record old { moment = now; next = next; objects = objects; fetches = fetches; rounds = rounds }) now call law answer
by_parts old now call law reply next objects lawful_objects fetches lawful_fetches rounds lawful_rounds answer one is_ lawful same opens runs told kept =
    by_law old (record old { moment = now; next = next; objects = objects; fetches = fetches; rounds = rounds }) now call law reply
    (record old { moment = now; next = next; objects = lawful_objects; fetches = lawful_fetches; rounds = lawful_rounds }) answer one is_ lawful refl
    (ap (λ (o : List Held). record old { moment = now; next = next; objects = o; fetches = fetches; rounds = rounds }) same
    ∙ ap (λ (f : List OpenFetch). record old { moment = now; next = next; objects = those_in_time now lawful_objects; fetches = f; rounds = rounds }) opens
    ∙ ap (λ (r : List OpenRound). record old { moment = now; next = next; objects = those_in_time now lawful_objects; fetches = lawful_fetches; rounds = r }) runs) told kept

-- what isn't among the objects changes
pub by_rest : (old rest : State) (now : ℕ) (call : Call) (law : Step) (reply : Reply) (answer : Answer) → asks_bans call ≡ false → law ≡ record { reply = reply; state = at_moment now rest } → is_refusal reply ≡ false → answer.told ≡ reply → answer.kept ≡ reply → Answers old (record rest { moment = now }) now call law answer
by_rest old rest now call law reply answer one is_ lawful told kept =
    by_law old (record rest { moment = now }) now call law reply (at_moment now rest) answer one is_ lawful refl
    (ap (λ (o : List Held). record rest { moment = now; objects = o }) (sym (once now rest.objects))) told kept

-- nothing but the moment changes
pub stays : (old : State) (now : ℕ) (call : Call) (law : Step) (reply : Reply) (answer : Answer) → asks_bans call ≡ false → law ≡ leaving (at_moment now old) reply → is_refusal reply ≡ false → answer.told ≡ reply → answer.kept ≡ reply → Answers old (record old { moment = now }) now call law answer
stays old now call law reply answer one is_ lawful told kept =
    by_parts old now call law reply old.next old.objects (those_in_time now old.objects) old.fetches old.fetches old.rounds old.rounds answer one is_ lawful (sym (once now old.objects)) refl refl told kept

-- the caller's round is open already, or isn't open
pub begins_not : (old : State) (now caller : ℕ) (answer : Answer) → has_round old.rounds caller ≡ true → answer.told ≡ NoRound → answer.kept ≡ NoRound → Answers old (record old { moment = now }) now Begin (begun (at_moment now old) caller) answer
begins_not old now caller answer opened told kept = stays old now Begin _ NoRound answer refl (cond-true _ _ _ opened) refl told kept

pub draws_not : (old : State) (now caller : ℕ) (answer : Answer) → has_round old.rounds caller ≡ false → answer.told ≡ NoRound → answer.kept ≡ NoRound → Answers old (record old { moment = now }) now Draw (drawn (at_moment now old) caller) answer
draws_not old now caller answer closed told kept = stays old now Draw _ NoRound answer refl (cond-false _ _ _ closed) refl told kept

pub ends_not : (old : State) (now caller : ℕ) (answer : Answer) → has_round old.rounds caller ≡ false → answer.told ≡ NoRound → answer.kept ≡ NoRound → Answers old (record old { moment = now }) now End (ended (at_moment now old) caller) answer
ends_not old now caller answer closed told kept = stays old now End _ NoRound answer refl (cond-false _ _ _ closed) refl told kept

pub drops_not : (old : State) (now caller token : ℕ) (answer : Answer) → has_fetch old.fetches caller token ≡ false → answer.told ≡ NotOpen → answer.kept ≡ NotOpen → Answers old (record old { moment = now }) now (Drop token) (dropped (at_moment now old) caller token) answer
drops_not old now caller token answer closed told kept = stays old now (Drop token) _ NotOpen answer refl (cond-false _ _ _ closed) refl told kept

-- a round is opened
pub begins : (old : State) (now caller : ℕ) (rounds : List OpenRound) (answer : Answer) → has_round old.rounds caller ≡ false → rounds ≡ record { caller = caller; vcl = old.active.number; waits = None } ∷ old.rounds → answer.told ≡ Began old.next old.active.number old.active.text → answer.kept ≡ Began old.next old.active.number old.active.text → Answers old (record old { moment = now; next = old.next + 1; rounds = rounds }) now Begin (begun (at_moment now old) caller) answer
begins old now caller rounds answer closed opens told kept =
    by_parts old now Begin (begun (at_moment now old) caller) _ (old.next + 1) old.objects (those_in_time now old.objects) old.fetches old.fetches rounds _ answer refl (cond-false _ _ _ closed) refl (sym (once now old.objects)) refl opens told kept

-- a number is drawn
pub draws : (old : State) (now caller : ℕ) (answer : Answer) → has_round old.rounds caller ≡ true → answer.told ≡ Drawn old.next → answer.kept ≡ Drawn old.next → Answers old (record old { moment = now; next = old.next + 1 }) now Draw (drawn (at_moment now old) caller) answer
draws old now caller answer opened told kept =
    by_parts old now Draw (drawn (at_moment now old) caller) (Drawn old.next) (old.next + 1) old.objects (those_in_time now old.objects) old.fetches old.fetches old.rounds old.rounds answer refl (cond-true _ _ _ opened) refl (sym (once now old.objects)) refl refl told kept

-- the fetch is closed and nothing is stored
pub closes : (old : State) (now : ℕ) (call : Call) (token : ℕ) (law : Step) (reply : Reply) (objects : List Held) (fetches : List OpenFetch) (answer : Answer) → asks_bans call ≡ false → law ≡ closing token (at_moment now old) reply → is_refusal reply ≡ false → those_in_time now objects ≡ those_in_time now old.objects → fetches ≡ without_fetch token old.fetches → answer.told ≡ reply → answer.kept ≡ reply → Answers old (record old { moment = now; objects = objects; fetches = fetches }) now call law answer
closes old now call token law reply objects fetches answer one is_ lawful same closed told kept =
    by_parts old now call law reply old.next objects (those_in_time now old.objects) fetches _ old.rounds old.rounds answer one is_ lawful (same ∙ sym (once now old.objects)) closed refl told kept

pub drops : (old : State) (now caller token : ℕ) (fetches : List OpenFetch) (answer : Answer) → has_fetch old.fetches caller token ≡ true → fetches ≡ without_fetch token old.fetches → answer.told ≡ Dropped → answer.kept ≡ Dropped → Answers old (record old { moment = now; fetches = fetches }) now (Drop token) (dropped (at_moment now old) caller token) answer
drops old now caller token fetches answer opened closed told kept =
    closes old now (Drop token) token _ Dropped old.objects fetches answer refl (cond-true _ _ _ opened) refl refl closed told kept

-- the round and its fetches are closed, and the discarded VCLs go that no round runs under
pub ends : (old : State) (now caller : ℕ) (rounds : List OpenRound) (fetches : List OpenFetch) (vcls : List LoadedVcl) (answer : Answer) → has_round old.rounds caller ≡ true → rounds ≡ without_round_of caller old.rounds → fetches ≡ without_fetches_of caller old.fetches → vcls ≡ those_staying rounds old.vcls → answer.told ≡ Ended → answer.kept ≡ Ended → Answers old (record old { moment = now; rounds = rounds; fetches = fetches; vcls = vcls }) now End (ended (at_moment now old) caller) answer
ends old now caller rounds fetches vcls answer opened closed closed_ stay told kept =
    rw (stay, closed, closed_)
    (by_rest old (record old { rounds = without_round_of caller old.rounds; fetches = without_fetches_of caller old.fetches; vcls = those_staying (without_round_of caller old.rounds) old.vcls }) now End _ Ended answer refl (cond-true _ _ _ opened) refl told kept)

-- a member is picked
pub picks : (old : State) (vcl : ℕ) (target : Target) (word place now : ℕ) (counters : List Counter) (name : Option (List ℕ)) (answer : Answer) → counters ≡ counted_on target.kind vcl target.name place old.counters → name ≡ name_at place target.members → answer.told ≡ Picked name → answer.kept ≡ Picked name → Answers old (record old { moment = now; counters = counters }) now (Pick vcl target word) (picked_at (at_moment now old) vcl target (Some place)) answer
picks old vcl target word place now counters name answer counts_ named told kept =
    rw (counts_)
    (by_rest old (record old { counters = counted_on target.kind vcl target.name place old.counters }) now (Pick vcl target word) _ _ answer refl refl refl (told ∙ ap Picked named) (kept ∙ ap Picked named))

pub picks_none : (old : State) (vcl : ℕ) (target : Target) (word now : ℕ) (answer : Answer) → answer.told ≡ Picked None → answer.kept ≡ Picked None → Answers old (record old { moment = now }) now (Pick vcl target word) (picked_at (at_moment now old) vcl target None) answer
picks_none old vcl target word now answer told kept = stays old now (Pick vcl target word) _ _ answer refl refl refl told kept

-- the health of a backend is set
pub sets_health : (old : State) (backend : List ℕ) (given : Health) (now : ℕ) (health : List ForcedHealth) (answer : Answer) → list_any (bytes_eq backend) old.active.backends ≡ true → health ≡ with_health old.active.number backend given old.health → answer.told ≡ HealthSet true → answer.kept ≡ HealthSet true → Answers old (record old { moment = now; health = health }) now (SetHealth backend given) (health_set (at_moment now old) backend given) answer
sets_health old backend given now health answer there sets told kept =
    rw (sets)
    (by_rest old (record old { health = with_health old.active.number backend given old.health }) now (SetHealth backend given) _ (HealthSet true) answer refl (cond-true _ _ _ there) refl told kept)

pub sets_no_health : (old : State) (backend : List ℕ) (given : Health) (now : ℕ) (answer : Answer) → list_any (bytes_eq backend) old.active.backends ≡ false → answer.told ≡ HealthSet false → answer.kept ≡ HealthSet false → Answers old (record old { moment = now }) now (SetHealth backend given) (health_set (at_moment now old) backend given) answer
sets_no_health old backend given now answer there told kept = stays old now (SetHealth backend given) _ _ answer refl (cond-false _ _ _ there) refl told kept

-- a VCL is loaded
pub name_taken : (old : State) (source : VclSource) (now : ℕ) (answer : Answer) → is_taken source.name old.vcls ≡ true → answer.told ≡ NameTaken → answer.kept ≡ NameTaken → Answers old (record old { moment = now }) now (Load source) (loaded (at_moment now old) source) answer
name_taken old source now answer taken told kept = stays old now (Load source) _ _ answer refl (cond-true _ _ _ taken) refl told kept

pub loads : (old : State) (source : VclSource) (now number : ℕ) (vcl : Vcl) (vcls : List LoadedVcl) (answer : Answer) → is_taken source.name old.vcls ≡ false → number ≡ old.next_vcl → vcl ≡ numbered number source → vcls ≡ old.vcls ++ record { vcl = vcl; is_discarded = false } ∷ [] → answer.told ≡ Loaded number → answer.kept ≡ Loaded number → Answers old (record old { moment = now; next_vcl = old.next_vcl + 1; vcls = vcls }) now (Load source) (loaded (at_moment now old) source) answer
loads old source now number vcl vcls answer free is_number is_vcl pushed told kept =
    rw (pushed, is_vcl, is_number)
    (by_rest old (record old { next_vcl = old.next_vcl + 1; vcls = with_vcl (numbered old.next_vcl source) old.vcls }) now (Load source) _ (Loaded old.next_vcl) answer refl (cond-false _ _ _ free) refl (told ∙ ap Loaded is_number) (kept ∙ ap Loaded is_number))

below_limit : (state : State) (vcl : Vcl) (taken : Bool) → taken ≡ false → is_numbered (cond taken (leaving state NameTaken) (loaded_as state vcl)).reply ≡ true → nat_lt state.next_vcl (2 ^ 32) ≡ true
below_limit state vcl false free numbered_ = numbered_
below_limit state vcl true free numbered_ = cc

-- where the name is free, the next number of a VCL has 32 bits
pub loads_below : (old : State) (now : ℕ) (source : VclSource) → is_taken source.name old.vcls ≡ false → is_numbered (loaded (at_moment now old) source).reply ≡ true → old.next_vcl < 2 ^ 32
loads_below old now source free numbered_ = ltb-true _ _ (below_limit (at_moment now old) (numbered old.next_vcl source) (is_taken source.name old.vcls) free numbered_)

-- another VCL becomes active
pub switches : (old : State) (name : List ℕ) (now : ℕ) (found_ : LoadedVcl) (active : Vcl) (answer : Answer) → Some found_ ≡ called name old.vcls → active ≡ found_.vcl → answer.told ≡ Switched → answer.kept ≡ Switched → Answers old (record old { moment = now; active = active }) now (Switch name) (switched (at_moment now old) name) answer
switches old name now found_ active answer finds_ is_ told kept =
    rw (is_)
    (by_rest old (record old { active = found_.vcl }) now (Switch name) _ Switched answer refl (ap (switched_to (at_moment now old)) (sym finds_)) refl told kept)

pub switches_not : (old : State) (name : List ℕ) (now : ℕ) (answer : Answer) → None ≡ called name old.vcls → answer.told ≡ NoVcl → answer.kept ≡ NoVcl → Answers old (record old { moment = now }) now (Switch name) (switched (at_moment now old) name) answer
switches_not old name now answer finds_ told kept = stays old now (Switch name) _ _ answer refl (ap (switched_to (at_moment now old)) (sym finds_)) refl told kept

-- a VCL is discarded
pub discards : (old : State) (name : List ℕ) (now : ℕ) (found_ : LoadedVcl) (vcls : List LoadedVcl) (answer : Answer) → Some found_ ≡ called name old.vcls → found_.vcl.number ≢ old.active.number → vcls ≡ without_vcl old.rounds found_.vcl.number old.vcls → answer.told ≡ Discarded → answer.kept ≡ Discarded → Answers old (record old { moment = now; vcls = vcls }) now (Discard name) (discarded (at_moment now old) name) answer
discards old name now found_ vcls answer finds_ other goes told kept =
    rw (goes)
    (by_rest old (record old { vcls = without_vcl old.rounds found_.vcl.number old.vcls }) now (Discard name) _ Discarded answer refl (ap (discarded_of (at_moment now old)) (sym finds_) ∙ cond-false _ _ _ (ne_eqb found_.vcl.number old.active.number other)) refl told kept)

pub discards_none : (old : State) (name : List ℕ) (now : ℕ) (answer : Answer) → None ≡ called name old.vcls → answer.told ≡ NoVcl → answer.kept ≡ NoVcl → Answers old (record old { moment = now }) now (Discard name) (discarded (at_moment now old) name) answer
discards_none old name now answer finds_ told kept = stays old now (Discard name) _ _ answer refl (ap (discarded_of (at_moment now old)) (sym finds_)) refl told kept

pub discards_not : (old : State) (name : List ℕ) (now : ℕ) (found_ : LoadedVcl) (answer : Answer) → Some found_ ≡ called name old.vcls → found_.vcl.number ≡ old.active.number → answer.told ≡ IsActive → answer.kept ≡ IsActive → Answers old (record old { moment = now }) now (Discard name) (discarded (at_moment now old) name) answer
discards_not old name now found_ answer finds_ same told kept = stays old now (Discard name) _ _ answer refl (ap (discarded_of (at_moment now old)) (sym finds_) ∙ cond-true _ _ _ (eq-eqb found_.vcl.number old.active.number same)) refl told kept

pub lists_vcls : (old : State) (now : ℕ) (lines : List VclLine) (answer : Answer) → lines ≡ vcl_lines old.active.number old.rounds old.vcls → answer.told ≡ Vcls lines → answer.kept ≡ Vcls lines → Answers old (record old { moment = now }) now VclList (vcls_listed (at_moment now old)) answer
lists_vcls old now lines answer are told kept = stays old now VclList _ _ answer refl refl refl (told ∙ ap Vcls are) (kept ∙ ap Vcls are)
