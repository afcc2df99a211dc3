-- Each reply that the law of the cache gives to a call of the console has an answer.
use Rattle.std.proofs.Common.{◌≡◌, ℕ, Bool, true, false, eqb, List, [], ◌∷◌, ap, sym, ◌∙◌, subst, refl}
use Rattle.std.proofs.lemmas.Bool.{false≢true}
use Rattle.std.specs.Prelude.{Option, Some, None, IsSome, IsSomeAnd, Result, Ok, Err, MatchResult, if◌then◌else◌}
use Rattle.std.specs.List.{list_any}
use Rattle.std.specs.Str.{bytes_eq}
use Rattle.cache_law.specs.declared.call.Call.{Call}
use Rattle.cache_law.specs.declared.call.Call.TheVariants as call
use Rattle.cache_law.specs.declared.call.Reply.{Reply}
use Rattle.cache_law.specs.declared.call.Reply.TheVariants as reply
use Rattle.cache_law.specs.declared.vcl.Health.{Health}
use Rattle.cache_law.specs.declared.vcl.LoadedVcl.{LoadedVcl}
use Rattle.vmod_host.specs.declared.signature.Stored.{Stored}
use Rattle.cli_console.specs.declared.message.Message.{Message}
use Rattle.cache_law.specs.declared.setting.Params.{Params}
use Rattle.cache_law.specs.Law.{Step, answered, step_of, MayAnswer, IsBanList, switched_to, discarded_of}
use Rattle.cache_law.specs.State.{State, at_moment}
use Rattle.cache_law.specs.Vcls.{is_taken, called}
use Rattle.cli_console.specs.declared.commands.CommandKind.{CommandKind}
use Rattle.cli_console.specs.declared.commands.CommandKind.TheVariants as command
use Rattle.cli_console.specs.declared.command.Command.TheVariants as done
use Rattle.cli_console.specs.declared.orders.Order.{Order}
use Rattle.cli_console.specs.declared.orders.Order.TheVariants as order
use Rattle.cli_console.specs.Answers.{is_console, name_in, message_to}
use Rattle.cli_console.specs.Lines.{IsCommand, IsLoadOf, Carries}
use Rattle.cli_console.specs.Orders.{Means, IsOrder, kind_of, health_named}

-- the reply has an answer where the call has this name
abbrev HasAnswer : List ℕ → Reply → Type 0
HasAnswer name r = IsSome (message_to name r)

either : (name : List ℕ) (b : Bool) (x y : Step) → HasAnswer name x.reply → HasAnswer name y.reply → HasAnswer name (if b then x else y).reply
either name true x y h k = h
either name false x y h k = k

lists_answered : (name : List ℕ) (state : State) (r : Reply) → IsBanList state r → HasAnswer name r
lists_answered name state (reply.Bans lines) h = refl
lists_answered name state _ h = absurd h

switches_answered : (name : List ℕ) (state : State) (found : Option LoadedVcl) → HasAnswer name (switched_to state found).reply
switches_answered name state None = refl
switches_answered name state (Some vcl) = refl

discards_answered : (name : List ℕ) (state : State) (found : Option LoadedVcl) → HasAnswer name (discarded_of state found).reply
discards_answered name state None = refl
discards_answered name state (Some vcl) =
    either name (eqb vcl.vcl.number state.active.number) _ _ refl refl

-- of the law's reply, and of what may be answered in its place
law_answered : (room : ℕ) (state : State) (caller : ℕ) (c : Call) → is_console c ≡ true → (r : Reply) → MayAnswer state c (answered room state caller c).reply r → HasAnswer (name_in c) r
law_answered room state caller (call.Ban ban) h r k = let At : Reply → Type 0 = HasAnswer [] in subst At (sym k) refl
law_answered room state caller call.BanList h r k = lists_answered [] state r k
law_answered room state caller (call.SetHealth backend given) h r k =
    let At : Reply → Type 0 = HasAnswer backend in
    subst At (sym k) (either backend (list_any (bytes_eq backend) state.active.backends) _ _ refl refl)
law_answered room state caller (call.Load source) h r k =
    let At : Reply → Type 0 = HasAnswer source.name in
    subst At (sym k) (either source.name (is_taken source.name state.vcls) _ _ refl refl)
law_answered room state caller (call.Switch name) h r k =
    let At : Reply → Type 0 = HasAnswer name in subst At (sym k) (switches_answered name state (called name state.vcls))
law_answered room state caller (call.Discard name) h r k =
    let At : Reply → Type 0 = HasAnswer name in subst At (sym k) (discards_answered name state (called name state.vcls))
law_answered room state caller call.VclList h r k = let At : Reply → Type 0 = HasAnswer [] in subst At (sym k) refl
law_answered room state caller _ h r k = absurd (false≢true h)

health_console : (backend : List ℕ) (found : Option Health) (c : Call) → IsSomeAnd found (λ given. order.Cache c ≡ order.Cache (call.SetHealth backend given)) → is_console c ≡ true
health_console backend None c h = absurd h
health_console backend (Some given) c h = let e : c ≡ call.SetHealth backend given = cc in ap is_console e

-- what a command means is a call of the console, where it is one of the cache
means_console : (kind : CommandKind) (arguments : List (List ℕ)) (c : Call) → Means kind arguments (order.Cache c) → is_console c ≡ true
means_console command.Ping arguments c h = absurd (let e : order.Cache c ≡ order.Ping = h in cc)
means_console command.VclInline (name ∷ text ∷ []) c h = absurd (let e : order.Cache c ≡ order.Inline name text = h in cc)
means_console command.VclLoad (name ∷ file ∷ []) c h = absurd (let e : order.Cache c ≡ order.Load name file = h in cc)
means_console command.VclUse (name ∷ []) c h = let e : c ≡ call.Switch name = cc in ap is_console e
means_console command.VclDiscard (name ∷ []) c h = let e : c ≡ call.Discard name = cc in ap is_console e
means_console command.VclList arguments c h = let e : c ≡ call.VclList = cc in ap is_console e
means_console command.Ban arguments c h = let q : order.Cache c ≡ order.Cache (call.Ban h.0) = h.3 in let e : c ≡ call.Ban h.0 = cc in ap is_console e
means_console command.BanList arguments c h = let e : c ≡ call.BanList = cc in ap is_console e
means_console command.SetHealth (backend ∷ state ∷ []) c h = health_console backend (health_named state) c h
means_console command.Quit arguments c h = absurd (let e : order.Cache c ≡ order.Quit = h in cc)
means_console _ _ c h = absurd h

-- what a line says is a call of the console, where it is one of the cache
carried_console : (stored : List Stored) (kind : CommandKind) (arguments : List (List ℕ)) (o : Order) (c : Call) → Means kind arguments o → Carries stored o (done.Cache c) → is_console c ≡ true
carried_console stored kind arguments order.Ping c h k = absurd (let e : done.Cache c ≡ done.Ping = k in cc)
carried_console stored kind arguments order.Quit c h k = absurd (cc k)
carried_console stored kind arguments (order.Cache ordered) c h k =
    let e : c ≡ ordered = cc in ap is_console e ∙ means_console kind arguments ordered h
carried_console stored kind arguments (order.Inline name text) c h k =
    let loads : k.0 ≡ call.Load k.1.0 = k.1.2 in
    let made : done.Cache c ≡ done.Cache k.0 = k.2 in
    let e : c ≡ call.Load k.1.0 = cc in ap is_console e
carried_console stored kind arguments (order.Load name file) c h k = absurd (let e : done.Cache c ≡ done.Load name file = k in cc)

found_console : (stored : List Stored) (found : Result CommandKind Message) (arguments : List (List ℕ)) (o : Order) (c : Call) → MatchResult found (λ kind. Means kind arguments o) (λ m. ⊥) → Carries stored o (done.Cache c) → is_console c ≡ true
found_console stored (Ok kind) arguments o c h k = carried_console stored kind arguments o c h k
found_console stored (Err m) arguments o c h k = absurd h

words_console : (stored : List Stored) (words : List (List ℕ)) (o : Order) (c : Call) → IsOrder words o → Carries stored o (done.Cache c) → is_console c ≡ true
words_console stored [] o c h k = absurd h
words_console stored (name ∷ arguments) o c h k = found_console stored (kind_of name arguments) arguments o c h k

pub command_console : (stored : List Stored) (line : List ℕ) (c : Call) → IsCommand stored line (done.Cache c) → is_console c ≡ true
command_console stored line c h = words_console stored h.1.0 h.0 c h.1.2 h.2

pub load_console : (stored : List Stored) (name text : List ℕ) (c : Call) → IsLoadOf stored name text c → is_console c ≡ true
load_console stored name text c h = let e : c ≡ call.Load h.0 = h.2 in ap is_console e

pub call_answered : (params : Params) (state : State) (caller moment : ℕ) (c : Call) (r : Reply) → is_console c ≡ true → MayAnswer (at_moment moment state) c (step_of params state caller moment c).reply r → IsSome (message_to (name_in c) r)
call_answered params state caller moment c r h k = law_answered params.room (at_moment moment state) caller c h r k
