-- What isn't in time at a moment isn't in time later, so a state can be read as it is at its own moment first.
use Rattle.std.proofs.Common.{◌≡◌, ℕ, ℤ, Bool, true, false, cond, List, [], ◌∷◌, ◌≤◌, ◌+◌, pos, negsuc, refl, arith, ap}
use Rattle.std.specs.Int.Signed.{lt_z}
use Rattle.std.proofs.lemmas.Bool.{ltb-true, lt-ltb, false≢true}
use Rattle.cache_law.specs.declared.call.Call.{Call}
use Rattle.cache_law.specs.declared.call.Reply.{Reply}
use Rattle.cache_law.specs.Object.{in_time}
use Rattle.cache_law.specs.State.{State, Held, those_in_time, at_moment, as_seen}
use Rattle.cache_law.specs.declared.setting.Params.{Params}
use Rattle.cache_law.specs.Law.{step_of, answered, after, behind, refused}

earlier_below : (earlier later : ℕ) (bound : ℤ) → earlier ≤ later → lt_z (pos later) bound ≡ true → lt_z (pos earlier) bound ≡ true
earlier_below earlier later (pos bound) order h = lt-ltb earlier bound (let below = ltb-true later bound h in omega (arith, below))
earlier_below earlier later (negsuc bound) order h = absurd (false≢true h)

-- one object before others, by whether it is in time earlier and later
one_more : (held : Held) (before after_ : Bool) (later : ℕ) (early late : List Held) → in_time later held.view.object ≡ after_ → (after_ ≡ true → before ≡ true) → those_in_time later early ≡ late → those_in_time later (cond before (held ∷ early) early) ≡ cond after_ (held ∷ late) late
one_more held true true later early late e stays same = rw (e, same) refl
one_more held true false later early late e stays same = rw (e, same) refl
one_more held false true later early late e stays same = absurd (false≢true (stays refl))
one_more held false false later early late e stays same = same

pub those_in_time-later : (earlier later : ℕ) → earlier ≤ later → (objects : List Held) → those_in_time later (those_in_time earlier objects) ≡ those_in_time later objects
those_in_time-later earlier later order [] = refl
those_in_time-later earlier later order (held ∷ objects) =
    one_more held (in_time earlier held.view.object) (in_time later held.view.object) later _ _ refl (earlier_below earlier later _ order) (those_in_time-later earlier later order objects)

pub at_moment-later : (earlier later : ℕ) → earlier ≤ later → (state : State) → at_moment later (at_moment earlier state) ≡ at_moment later state
at_moment-later earlier later order state =
    ap (λ (objects : List Held). record state { moment = later; objects = objects }) (those_in_time-later earlier later order state.objects)

-- a call is answered, and leaves, the same where the state is first read as it is at its own moment
pub after-as_seen : (params : Params) (state : State) (caller moment : ℕ) (call : Call) (answer : Reply) → state.moment ≤ moment → after params (as_seen state) caller moment call answer ≡ after params state caller moment call answer
after-as_seen params state caller moment call answer order =
    ap (λ (now : State). record (behind answer (refused now call) (answered params.room now caller call).state) { entries = state.entries + 1 }) (at_moment-later state.moment moment order state)

pub step_of-as_seen : (params : Params) (state : State) (caller moment : ℕ) (call : Call) → state.moment ≤ moment → step_of params (as_seen state) caller moment call ≡ step_of params state caller moment call
step_of-as_seen params state caller moment call order =
    ap (λ (now : State). answered params.room now caller call) (at_moment-later state.moment moment order state)
