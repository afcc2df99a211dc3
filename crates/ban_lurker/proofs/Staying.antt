-- A verdict of a history is one of it with more entries behind.
use Rattle.std.proofs.Common.{◌≡◌, ℕ, Bool, true, false, not, cond, List, [], ◌∷◌, ◌++◌, ◌+◌, ◌≤◌, ◌<◌, ◌&&◌, ◌||◌, ◌==◌, Option, Some, None, length, filter, refl, arith, sym, ap, ◌∙◌, subst, inl, inr}
use Rattle.std.specs.Prelude.{nat_le}
use Rattle.std.specs.List.{list_any}
use Rattle.std.proofs.lemmas.Bool.{lt-leb}
use Rattle.cache_law.specs.declared.setting.Params.{Params}
use Rattle.cache_law.specs.declared.object.Object.{Object}
use Rattle.cache_law.specs.declared.ban.Issued.{Issued}
use Rattle.cache_law.specs.declared.call.Call.{Call}
use Rattle.cache_law.specs.declared.call.Call.TheVariants.{Insert, Xkey}
use Rattle.cache_law.specs.declared.call.Reply.{Reply}
use Rattle.cache_law.specs.declared.call.Reply.TheVariants.{Stored}
use Rattle.cache_law.specs.declared.call.Entry.{Entry}
use Rattle.cache_law.specs.Bans.{matches}
use Rattle.cache_law.specs.State.{State}
use Rattle.cache_law.specs.Beginning.{Beginning}
use Rattle.cache_law.specs.History.{next_state, reached_from, reached}
use Rattle.cache_law.proofs.Numbers.{reached-append}
use Rattle.ban_lurker.specs.declared.chore.Verdict.{Verdict}
use Rattle.ban_lurker.specs.Looks.{held_under, is_above, is_stopped, known_behind, known_by, look_of}
use Rattle.ban_lurker.specs.Verdicts.{IsVerdictOf, between, is_between}
use Rattle.ban_lurker.proofs.Growing.{BansGrow, next_grow}

-- ---- bans

dropped : (a b : Bool) (ban : Issued) (bans : List Issued) → b ≡ false → cond (a && b) (ban ∷ bans) bans ≡ bans
dropped true b ban bans e = rw (e) refl
dropped false b ban bans e = refl

newer : (number upto : ℕ) → upto < number → nat_le number upto ≡ false
newer number upto below = lt-leb number upto below

between_same : (mark upto : ℕ) (old new : State) → BansGrow old new → upto ≤ old.issued → between mark upto new.bans ≡ between mark upto old.bans
between_same mark upto old new (inl same) below = ap (between mark upto) same.bans
between_same mark upto old new (inr more) below =
    ap (between mark upto) more.bans
    ∙ dropped (is_above mark more.ban) (nat_le more.ban.number upto) more.ban (between mark upto old.bans) (newer more.ban.number upto (omega (arith, below, more.numbered)))

more_issued : (old new : State) → BansGrow old new → old.issued ≤ new.issued
more_issued old new (inl same) = omega (arith, same.issued)
more_issued old new (inr more) = omega (arith, more.issued)

issued_rises : (params : Params) (state : State) (entries : List Entry) → state.issued ≤ (reached_from params state entries).issued
issued_rises params state [] = omega arith
issued_rises params state (entry ∷ entries) =
    let here = more_issued state (next_state params state entry) (next_grow params state entry) in
    let later = issued_rises params (next_state params state entry) entries in omega (arith, here, later)

between_stays : (params : Params) (mark upto : ℕ) (state : State) (entries : List Entry) → upto ≤ state.issued
    → between mark upto (reached_from params state entries).bans ≡ between mark upto state.bans
between_stays params mark upto state [] below = refl
between_stays params mark upto state (entry ∷ entries) below =
    let grow = next_grow params state entry in
    let here = more_issued state (next_state params state entry) grow in
    between_stays params mark upto (next_state params state entry) entries (omega (arith, below, here))
    ∙ between_same mark upto state (next_state params state entry) grow below

-- ---- stopped

one_stops : (a b : Bool) (ban : Issued) (bans : List Issued) (later : Bool) → (0 < length bans → later ≡ true) → 0 < length (cond (a && b) (ban ∷ bans) bans) → (a || later) ≡ true
one_stops true b ban bans later rest some = refl
one_stops false b ban bans later rest some = rest some

between_stops : (mark upto : ℕ) (bans : List Issued) → 0 < length (between mark upto bans) → list_any (is_above mark) bans ≡ true
between_stops mark upto [] some = absurd (not_below some)
  where
    not_below : 0 < 0 → ⊥
    not_below e = omega (arith, e)
between_stops mark upto (ban ∷ bans) some =
    one_stops (is_above mark ban) (nat_le ban.number upto) ban (between mark upto bans) (list_any (is_above mark) bans) (between_stops mark upto bans) some

either_true : (a b : Bool) → b ≡ true → (a || b) ≡ true
either_true true b e = refl
either_true false b e = e

stopped_by : (mark : ℕ) (old new : State) → BansGrow old new → is_stopped mark old ≡ true → is_stopped mark new ≡ true
stopped_by mark old new (inl same) stopped = ap (list_any (is_above mark)) same.bans ∙ stopped
stopped_by mark old new (inr more) stopped =
    ap (list_any (is_above mark)) more.bans ∙ either_true (is_above mark more.ban) (list_any (is_above mark) old.bans) stopped

-- ---- looks

either_same : (b : Bool) (known : Option Object) → cond b known known ≡ known
either_same true known = refl
either_same false known = refl

-- what is known stays once bans stop it
known_kept : (number moment : ℕ) (object : Object) (call : Call) (reply : Reply) → known_by number true moment call reply (Some object) ≡ Some object
known_kept number moment object (Insert token other stale) (Stored stored) = either_same (stored == number) (Some object)
known_kept number moment object (Xkey keys true) reply = refl
known_kept number moment object (Xkey keys false) reply = refl
known_kept number moment object call reply = refl

known_stays : (params : Params) (number mark : ℕ) (state : State) (object : Object) (entries : List Entry) → is_stopped mark state ≡ true
    → known_behind params number mark state (Some object) entries ≡ Some object
known_stays params number mark state object [] stopped = refl
known_stays params number mark state object (entry ∷ entries) stopped =
    let next : State = next_state params state entry in
    let kept : known_by number (is_stopped mark state) entry.moment entry.call entry.reply (Some object) ≡ Some object =
    ap (λ (b : Bool). known_by number b entry.moment entry.call entry.reply (Some object)) stopped ∙ known_kept number entry.moment object entry.call entry.reply in
    ap (λ (known : Option Object). known_behind params number mark next known entries) kept
    ∙ known_stays params number mark next object entries (stopped_by mark state next (next_grow params state entry) stopped)

pub known-append : (params : Params) (number mark : ℕ) (state : State) (known : Option Object) (entries more : List Entry)
    → known_behind params number mark state known (entries ++ more) ≡ known_behind params number mark (reached_from params state entries) (known_behind params number mark state known entries) more
known-append params number mark state known [] more = refl
known-append params number mark state known (entry ∷ entries) more =
    known-append params number mark (next_state params state entry) (known_by number (is_stopped mark state) entry.moment entry.call entry.reply known) entries more

-- ---- verdicts

pub verdict_stays : (beginning : Beginning) (entries more : List Entry) (verdict : Verdict) → IsVerdictOf beginning entries verdict → IsVerdictOf beginning (entries ++ more) verdict
verdict_stays beginning entries more verdict is =
    let params : Params = beginning.params in
    let state : State = reached beginning entries in
    let same : reached beginning (entries ++ more) ≡ reached_from params state more = reached-append beginning entries more in
    let bans : between verdict.mark verdict.upto (reached beginning (entries ++ more)).bans ≡ between verdict.mark verdict.upto state.bans =
    ap (λ (s : State). between verdict.mark verdict.upto s.bans) same ∙ between_stays params verdict.mark verdict.upto state more is.issued in
    let known : Option Object = known_behind params verdict.object verdict.mark beginning.base (held_under verdict.object beginning.base.objects) entries in
    record {
      issued = subst (λ (s : State). verdict.upto ≤ s.issued) (sym same) (omega (arith, is.issued, issued_rises params state more));
      some = subst (λ (those : List Issued). 0 < length those) (sym bans) is.some;
      object = is.object;
      looks =
          known-append params verdict.object verdict.mark beginning.base (held_under verdict.object beginning.base.objects) entries more
          ∙ ap (λ (known : Option Object). known_behind params verdict.object verdict.mark state known more) is.looks
          ∙ known_stays params verdict.object verdict.mark state is.object more (between_stops verdict.mark verdict.upto state.bans is.some);
      dead = is.dead ∙ ap (list_any (matches is.object)) (sym bans);
    }
