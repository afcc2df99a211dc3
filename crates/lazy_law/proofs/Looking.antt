-- Behind each call the objects that are kept look as the history has them.
use Rattle.std.proofs.Common.{◌≡◌, ◌≤◌, ◌==◌, ℕ, Bool, true, false, not, cond, List, [], ◌∷◌, ◌&&◌, Option, Some, None, refl, arith, ap, ◌∙◌}
use Rattle.std.specs.List.{AllByRecursion}
use Rattle.std.specs.Option.{option_or}
use Rattle.std.proofs.lemmas.Bool.{eq-eqb}
use Rattle.cache_law.specs.declared.object.Object.{Object}
use Rattle.cache_law.specs.declared.ban.Issued.{Issued}
use Rattle.cache_law.specs.declared.call.Call.{Call}
use Rattle.cache_law.specs.declared.call.Call.TheVariants.{Begin, Draw, Lookup, Pick, Insert, Ban, BanList, Purge, Xkey, SetHealth, Load, Switch, Discard, VclList, Drop, End}
use Rattle.cache_law.specs.declared.call.Query.{Query}
use Rattle.cache_law.specs.declared.call.Reply.{Reply}
use Rattle.cache_law.specs.declared.call.Reply.TheVariants.{Stored}
use Rattle.cache_law.specs.Object.{in_time, size_of}
use Rattle.cache_law.specs.Lookup.{Scan}
use Rattle.cache_law.specs.Purges.{softened}
use Rattle.cache_law.specs.State.{State, has_fetch, has_round}
use Rattle.cache_law.proofs.Held.{all-filter, all-weaken}
use Rattle.ban_lurker.specs.Looks.{is_stopped, is_tagged, known_by, softened_at}
use Rattle.lazy_law.specs.Placed.{Lazy, Placed, kept_bans}
use Rattle.lazy_law.specs.Scan.{scanned_late, used_late}
use Rattle.lazy_law.specs.Purging.{is_of_key, is_of_xkeys, is_softened, soft_of, xkey_late}
use Rattle.lazy_law.specs.Insertion.{has_no_room_late, is_gone_late, made_room, others_late}
use Rattle.lazy_law.specs.Stands.{IsWithin}
use Rattle.lazy_law.specs.Standing.{IsKnownBy}
use Rattle.lazy_law.specs.Late.{LateStep, answered_late, looked_up_late, inserted_late, stored_step}
use Rattle.lazy_law.proofs.Keeping.{Stays, keep_left, keep_made, keep_scanned, keep_softened, keep_used}

-- within the bans that were issued, and known
pub record IsKnown (issued : ℕ) (known : ℕ → ℕ → Option Object) (p : Placed) : Type 0 where
  pub within : p.mark ≤ issued
  pub looks : IsKnownBy known p

pub stays_known : (issued : ℕ) (known : ℕ → ℕ → Option Object) → Stays issued (IsKnown issued known)
stays_known issued known =
    record {
      counts = λ place p is. record { within = is.within; looks = is.looks };
      touches = λ place p is. record { within = is.within; looks = is.looks };
      tests = λ p is. record { within = omega arith; looks = λ mark less. is.looks mark (omega (arith, is.within, less)) };
      marks = λ p is. record { within = omega arith; looks = λ mark less. is.looks mark (omega (arith, is.within, less)) };
    }

pub all_known : (issued : ℕ) (known : ℕ → ℕ → Option Object) (objects : List Placed) → AllByRecursion (IsWithin issued) objects → AllByRecursion (IsKnownBy known) objects → AllByRecursion (IsKnown issued known) objects
all_known issued known [] within looks = tt
all_known issued known (p ∷ objects) within looks = (record { within = within.0.mark; looks = looks.0 }, all_known issued known objects within.1 looks.1)

looks_of : (issued : ℕ) (known : ℕ → ℕ → Option Object) (objects : List Placed) → AllByRecursion (IsKnown issued known) objects → AllByRecursion (IsKnownBy known) objects
looks_of issued known objects all = all-weaken (IsKnown issued known) (IsKnownBy known) (λ p is. is.looks) objects all

-- what is known behind the call with this reply
abbrev pub known_then : State → ℕ → Call → Reply → (ℕ → ℕ → Option Object) → ℕ → ℕ → Option Object
known_then state moment call reply known number mark = known_by number (is_stopped mark state) moment call reply (known number mark)

abbrev KnowsThen : State → ℕ → Call → (ℕ → ℕ → Option Object) → LateStep → Type 0
KnowsThen state moment call known late = AllByRecursion (IsKnownBy (known_then state moment call late.reply known)) late.lazy.objects

late_ways : (P : LateStep → Type 0) (b : Bool) (one two : LateStep) → (b ≡ true → P one) → (b ≡ false → P two) → P (cond b one two)
late_ways P true one two here there = here refl
late_ways P false one two here there = there refl

-- ---- a lookup

lookup_known : (desk state : State) (moment caller : ℕ) (query : Query) (lazy : Lazy) (known : ℕ → ℕ → Option Object) → AllByRecursion (IsKnown lazy.issued known) lazy.objects
    → KnowsThen state moment (Lookup query) known (looked_up_late desk caller query lazy)
lookup_known desk state moment caller query lazy known all =
    let scan : Scan Placed = scanned_late desk.moment query (kept_bans lazy) lazy.issued lazy.objects in
    let stays = stays_known lazy.issued known in
    let same = looks_of lazy.issued known lazy.objects all in
    late_ways (KnowsThen state moment (Lookup query) known) (has_round desk.rounds caller) _ _
    (λ opened. late_ways (KnowsThen state moment (Lookup query) known) query.options.always_miss _ _ (λ misses. same)
    (λ looks. looks_of lazy.issued known (used_late desk.entries scan)
    (keep_used lazy.issued (IsKnown lazy.issued known) stays desk.entries scan.fresh scan.grace scan.objects
    (keep_scanned lazy.issued (IsKnown lazy.issued known) stays desk.moment query (kept_bans lazy) lazy.objects all))))
    (λ shut. same)

-- ---- an insertion

some_either : (b : Bool) (object other : Object) → cond b (option_or (Some object) (Some other)) (Some object) ≡ Some object
some_either true object other = refl
some_either false object other = refl

still_known : (state : State) (moment token : ℕ) (object : Object) (stale : Option ℕ) (known : ℕ → ℕ → Option Object) (p : Placed) → IsKnownBy known p → IsKnownBy (known_then state moment (Insert token object stale) (Stored token) known) p
still_known state moment token object stale known p looks =
    λ mark less. ap (λ (k : Option Object). known_by p.view.number (is_stopped mark state) moment (Insert token object stale) (Stored token) k) (looks mark less) ∙ some_either (token == p.view.number) p.view.object object

new_known : (state : State) (moment token : ℕ) (object : Object) (stale : Option ℕ) (known : ℕ → ℕ → Option Object) → ((mark : ℕ) → known token mark ≡ None) → (mark : ℕ) → known_then state moment (Insert token object stale) (Stored token) known token mark ≡ Some object
new_known state moment token object stale known unknown mark = rw (eq-eqb token token refl, unknown mark) refl

stored_known : (room : ℕ) (desk state : State) (moment token : ℕ) (object : Object) (stale : Option ℕ) (lazy : Lazy) (known : ℕ → ℕ → Option Object) → AllByRecursion (IsKnown lazy.issued known) lazy.objects → ((mark : ℕ) → known token mark ≡ None)
    → KnowsThen state moment (Insert token object stale) known (stored_step room desk token object stale lazy)
stored_known room desk state moment token object stale lazy known all unknown =
    let own : List Issued = kept_bans lazy in
    let others : List Placed = others_late stale lazy.objects in
    let left : List Placed = made_room room (size_of object) desk.moment own lazy.issued others in (
      λ mark less. new_known state moment token object stale known unknown mark,
      all-weaken (IsKnown lazy.issued known) (IsKnownBy (known_then state moment (Insert token object stale) (Stored token) known)) (λ p is. still_known state moment token object stale known p is.looks) left
          (keep_made lazy.issued (IsKnown lazy.issued known) (stays_known lazy.issued known) room (size_of object) desk.moment own others (keep_left (IsKnown lazy.issued known) stale lazy.objects all)),
    )

insertion_known : (room : ℕ) (desk state : State) (moment caller token : ℕ) (object : Object) (stale : Option ℕ) (lazy : Lazy) (known : ℕ → ℕ → Option Object) → AllByRecursion (IsKnown lazy.issued known) lazy.objects
    → (has_fetch desk.fetches caller token ≡ true → (mark : ℕ) → known token mark ≡ None)
    → KnowsThen state moment (Insert token object stale) known (inserted_late room desk caller token object stale lazy)
insertion_known room desk state moment caller token object stale lazy known all unknown =
    let same = looks_of lazy.issued known lazy.objects all in
    let call : Call = Insert token object stale in
    late_ways (KnowsThen state moment call known) (has_fetch desk.fetches caller token) _ _
    (λ opened. late_ways (KnowsThen state moment call known) (is_gone_late desk.moment (kept_bans lazy) stale lazy.objects) _ _ (λ gone. same)
    (λ there. late_ways (KnowsThen state moment call known) (in_time desk.moment object) _ _
    (λ timely. late_ways (KnowsThen state moment call known) (has_no_room_late room (size_of object) desk.moment (kept_bans lazy) lazy.issued (others_late stale lazy.objects)) _ _ (λ full. same)
    (λ free. stored_known room desk state moment token object stale lazy known all (unknown opened)))
    (λ late. same)))
    (λ shut. same)

-- ---- a purge by xkeys

soft_known : (state : State) (moment : ℕ) (keys : List (List ℕ)) (issued : ℕ) (reply : Reply) (known : ℕ → ℕ → Option Object) (p : Placed) → ((mark : ℕ) → issued ≤ mark → is_stopped mark state ≡ false) → is_softened moment keys p ≡ true → IsKnown issued known p
    → IsKnownBy (known_then state moment (Xkey keys true) reply known) (soft_of moment issued p)
soft_known state moment keys issued reply known p unstopped e is =
    λ mark less. rw (unstopped mark less, is.looks mark (omega (arith, is.within, less))) (ap (λ (b : Bool). Some (cond b (softened moment p.view.object) p.view.object)) e)

either_known : (stopped : Bool) (moment : ℕ) (keys : List (List ℕ)) (object : Object) → (in_time moment object && is_tagged keys object) ≡ false → cond (not stopped) (Some (softened_at moment keys object)) (Some object) ≡ Some object
either_known true moment keys object e = refl
either_known false moment keys object e = ap (λ (b : Bool). Some (cond b (softened moment object) object)) e

hard_known : (state : State) (moment : ℕ) (keys : List (List ℕ)) (issued : ℕ) (reply : Reply) (known : ℕ → ℕ → Option Object) (p : Placed) → is_softened moment keys p ≡ false → IsKnown issued known p → IsKnownBy (known_then state moment (Xkey keys true) reply known) p
hard_known state moment keys issued reply known p e is =
    λ mark less. ap (λ (k : Option Object). known_by p.view.number (is_stopped mark state) moment (Xkey keys true) reply k) (is.looks mark less) ∙ either_known (is_stopped mark state) moment keys p.view.object e

xkey_known : (state : State) (moment : ℕ) (keys : List (List ℕ)) (soft : Bool) (reply : Reply) (bans : List Issued) (issued : ℕ) (objects : List Placed) (known : ℕ → ℕ → Option Object) → ((mark : ℕ) → issued ≤ mark → is_stopped mark state ≡ false)
    → AllByRecursion (IsKnown issued known) objects → AllByRecursion (IsKnownBy (known_then state moment (Xkey keys soft) reply known)) (xkey_late moment keys soft bans issued objects)
xkey_known state moment keys true reply bans issued objects known unstopped all =
    keep_softened (IsKnown issued known) (IsKnownBy (known_then state moment (Xkey keys true) reply known)) moment keys bans issued
    (λ p e is. soft_known state moment keys issued reply known p unstopped e is) (λ p e is. hard_known state moment keys issued reply known p e is) objects all
xkey_known state moment keys false reply bans issued objects known unstopped all =
    all-filter (IsKnownBy known) (λ p. not (is_of_xkeys keys p)) objects (looks_of issued known objects all)

-- ---- all calls

pub known_behind_call : (room : ℕ) (desk state : State) (caller : ℕ) (call : Call) (lazy : Lazy) (known : ℕ → ℕ → Option Object) → AllByRecursion (IsKnown lazy.issued known) lazy.objects
    → ((token : ℕ) → has_fetch desk.fetches caller token ≡ true → (mark : ℕ) → known token mark ≡ None) → ((mark : ℕ) → lazy.issued ≤ mark → is_stopped mark state ≡ false)
    → KnowsThen state desk.moment call known (answered_late room desk caller call lazy)
known_behind_call room desk state caller Begin lazy known all unknown unstopped = looks_of lazy.issued known lazy.objects all
known_behind_call room desk state caller Draw lazy known all unknown unstopped = looks_of lazy.issued known lazy.objects all
known_behind_call room desk state caller (Lookup query) lazy known all unknown unstopped = lookup_known desk state desk.moment caller query lazy known all
known_behind_call room desk state caller (Pick vcl target word) lazy known all unknown unstopped = looks_of lazy.issued known lazy.objects all
known_behind_call room desk state caller (Insert token object stale) lazy known all unknown unstopped = insertion_known room desk state desk.moment caller token object stale lazy known all (unknown token)
known_behind_call room desk state caller (Ban ban) lazy known all unknown unstopped = looks_of lazy.issued known lazy.objects all
known_behind_call room desk state caller BanList lazy known all unknown unstopped = looks_of lazy.issued known lazy.objects all
known_behind_call room desk state caller (Purge key) lazy known all unknown unstopped = all-filter (IsKnownBy known) (λ p. not (is_of_key key p)) lazy.objects (looks_of lazy.issued known lazy.objects all)
known_behind_call room desk state caller (Xkey keys soft) lazy known all unknown unstopped = xkey_known state desk.moment keys soft (answered_late room desk caller (Xkey keys soft) lazy).reply (kept_bans lazy) lazy.issued lazy.objects known unstopped all
known_behind_call room desk state caller (SetHealth backend given) lazy known all unknown unstopped = looks_of lazy.issued known lazy.objects all
known_behind_call room desk state caller (Load source) lazy known all unknown unstopped = looks_of lazy.issued known lazy.objects all
known_behind_call room desk state caller (Switch name) lazy known all unknown unstopped = looks_of lazy.issued known lazy.objects all
known_behind_call room desk state caller (Discard name) lazy known all unknown unstopped = looks_of lazy.issued known lazy.objects all
known_behind_call room desk state caller VclList lazy known all unknown unstopped = looks_of lazy.issued known lazy.objects all
known_behind_call room desk state caller (Drop token) lazy known all unknown unstopped = looks_of lazy.issued known lazy.objects all
known_behind_call room desk state caller End lazy known all unknown unstopped = looks_of lazy.issued known lazy.objects all
