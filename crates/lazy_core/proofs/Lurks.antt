-- The shelf stands as before behind what the lurker does, and what it takes out is a chore of the history.
use Rattle.std.proofs.Common.{◌≡◌, ◌≤◌, ◌<◌, ◌==◌, ◌&&◌, ◌||◌, nat_le, nat_lt, ℕ, zero, suc, Bool, true, false, cond, List, [], ◌∷◌, length, refl, arith, sym, ap, ◌∙◌, subst}
use Rattle.std.specs.Prelude.{Result, Ok, Err, Option, Some, None, IfOk, IfSome, slice_index_or}
use Rattle.std.specs.List.{list_any, AllByRecursion}
use Rattle.std.proofs.lemmas.Bool.{and_from, and_parts, eqb-true, le-leb, leb-true, ltb-true, or_right}
use Rattle.cache_law.specs.declared.ban.Issued.{Issued}
use Rattle.cache_law.specs.declared.call.Entry.{Entry}
use Rattle.cache_law.specs.Beginning.{Beginning}
use Rattle.cache_law.specs.Bases.{IsSound}
use Rattle.cache_law.specs.History.{reached}
use Rattle.ban_lurker.specs.declared.chore.Chore.{Chore}
use Rattle.ban_lurker.specs.declared.chore.Verdict.{Verdict}
use Rattle.cache_law.proofs.Held.{all-weaken}
use Rattle.ban_lurker.specs.Looks.{is_above, is_alone}
use Rattle.ban_lurker.specs.Verdicts.{IsChoreOf, IsVerdictOf, between}
use Rattle.cache_frame.specs.Shelves.{StandsOn}
use Rattle.lazy_law.specs.Placed.{Lazy, Placed, is_unswept, kept_bans}
use Rattle.lazy_law.specs.Stands.{Agrees}
use Rattle.lazy_law.specs.Sweeping.{chore_of, count_unswept, is_asked, judged_lazy}
use Rattle.lazy_law.proofs.Agreeing.{same_unswept}
use Rattle.lazy_law.proofs.Filters.{any_on}
use Rattle.lazy_law.proofs.Judging.{judged_at, no_more_by}
use Rattle.lazy_law.proofs.Lurking.{all_chores}
use Rattle.lazy_store.specs.Chores.{IsChoreIn}
use Rattle.lazy_store.specs.Cutting.{AreCut}
use Rattle.lazy_store.specs.Lurking.{AreSwept}
use Rattle.lazy_store.specs.Settling.{is_open, is_settled, is_sound, settled}
use Rattle.lazy_store.proofs.Settles.{settled_as, settled_not, sound_says}
use Rattle.lazy_insert.proofs.Roomy.{each_keeps}
use Rattle.lazy_insert.proofs.Unseen.{each_at}
use Rattle.lazy_core.specs.Shelf.{StandsBehind}
use Rattle.lazy_core.proofs.Uses.{judged_uses}

-- ---- sweeps

pub swept_on : (old new : Lazy) → AreSwept old new → StandsOn StandsBehind old new
swept_on old new swept beginning entries sound stands =
    let place : ℕ = (reached beginning entries).entries in
    subst (λ (l : Lazy). StandsBehind l beginning entries) (sym swept.is)
    (record {
      stands = each_at beginning entries swept.numbers old stands.stands;
      uses = each_keeps (λ (p : Placed). p.used < place) (λ issued p less. less) swept.numbers old stands.uses;
    })

-- ---- chores

among : {X : Type 0} (P : X → Type 0) (xs : List X) (x : X) (k : ℕ) → AllByRecursion P xs → k < length xs → slice_index_or xs k x ≡ x → P x
among P [] x k all less is = absurd (omega (arith, less))
among P (y ∷ xs) x zero all less is = subst P is all.0
among P (y ∷ xs) x (suc k) all less is = among P xs x k all.1 (omega (arith, less)) is

pub chore_so : (lazy : Lazy) (chore : Chore) (beginning : Beginning) (entries : List Entry) → IsChoreIn lazy chore → StandsBehind lazy beginning entries → IsChoreOf beginning entries chore
chore_so lazy chore beginning entries is stands =
    subst (IsChoreOf beginning entries) (sym is.is)
    (among (λ (p : Placed). is_unswept (kept_bans lazy) p ≡ true → IsChoreOf beginning entries (chore_of lazy p)) lazy.objects is.placed is.there.0 (all_chores lazy beginning entries stands.stands) is.there.1 is.there.2 is.waits)

pub chore_told : {E : Type 0} (lazy : Lazy) (beginning : Beginning) (entries : List Entry) (result : Result (Option Chore) E) → IfOk result (λ chore. IfSome chore (IsChoreIn lazy)) → StandsBehind lazy beginning entries
    → IfOk result (λ chore. IfSome chore (IsChoreOf beginning entries))
chore_told lazy beginning entries (Ok (Some chore)) is stands = chore_so lazy chore beginning entries is stands
chore_told lazy beginning entries (Ok None) is stands = is
chore_told lazy beginning entries (Err e) is stands = is

-- ---- verdicts

settled_case : (b : Bool) (verdict : Verdict) (lazy : Lazy) (beginning : Beginning) (entries : List Entry) → IsVerdictOf beginning entries verdict → StandsBehind lazy beginning entries → StandsBehind (cond b (judged_lazy verdict lazy) lazy) beginning entries
settled_case true verdict lazy beginning entries is stands =
    record { stands = judged_at lazy beginning entries verdict is stands.stands; uses = judged_uses (reached beginning entries).entries verdict lazy.objects stands.uses }
settled_case false verdict lazy beginning entries is stands = stands

pub settled_on : (verdict : Verdict) (old now new : Lazy) → now ≡ settled verdict old → StandsOn StandsBehind now new → (beginning : Beginning) (entries : List Entry) → IsSound (reached beginning entries) → IsVerdictOf beginning entries verdict
    → StandsBehind old beginning entries → StandsBehind new beginning entries
settled_on verdict old now new is on beginning entries sound of_it stands =
    on beginning entries sound (subst (λ (l : Lazy). StandsBehind l beginning entries) (sym is) (settled_case (is_settled verdict old) verdict old beginning entries of_it stands))

first_holds : (a b : Bool) → (a && b) ≡ true → a ≡ true
first_holds true b e = refl
first_holds false b e = e

fewer_case : (b : Bool) (verdict : Verdict) (lazy : Lazy) → is_settled verdict lazy ≡ b → count_unswept (cond b (judged_lazy verdict lazy) lazy) ≤ count_unswept lazy
fewer_case true verdict lazy e =
    no_more_by lazy verdict (λ alive. (sound_says lazy.issued verdict (first_holds (is_sound lazy.issued verdict) (list_any (is_open (kept_bans lazy) verdict) lazy.objects) e) alive).0)
fewer_case false verdict lazy e = omega arith

-- no more wait than before
pub fewer_wait : (verdict : Verdict) (old now new : Lazy) → now ≡ settled verdict old → count_unswept new ≡ count_unswept now → count_unswept new ≤ count_unswept old
fewer_wait verdict old now new is same =
    let less : count_unswept now ≤ count_unswept old = subst (λ (l : Lazy). count_unswept l ≤ count_unswept old) (sym is) (fewer_case (is_settled verdict old) verdict old refl) in
    omega (arith, same, less)

-- where nothing was settled, as many do
pub left_waiting : (verdict : Verdict) (old now new : Lazy) (answer : Bool) → answer ≡ is_settled verdict old → now ≡ settled verdict old → count_unswept new ≡ count_unswept now → answer ≡ false → count_unswept new ≡ count_unswept old
left_waiting verdict old now new answer told is same e =
    same ∙ ap count_unswept is ∙ ap count_unswept (sym (settled_not verdict old (sym told ∙ e)))

-- ---- whether the object is as a verdict of the history has it

above_step : (above within : Bool) (i : Issued) (rest : List Issued) (later : Bool) → (0 < length rest → later ≡ true) → 0 < length (cond (above && within) (i ∷ rest) rest) → (above || later) ≡ true
above_step true within i rest later on some = refl
above_step false within i rest later on some = on some

some_above : (mark upto : ℕ) (bans : List Issued) → 0 < length (between mark upto bans) → list_any (is_above mark) bans ≡ true
some_above mark upto [] some = absurd (omega (arith, some))
some_above mark upto (i ∷ bans) some = above_step (is_above mark i) (nat_le i.number upto) i (between mark upto bans) (list_any (is_above mark) bans) (some_above mark upto bans) some

below_step : (newer alone within : Bool) (mark upto : ℕ) (i : Issued) (rest : List Issued) → nat_lt mark i.number ≡ newer → nat_le i.number upto ≡ within → (0 < length rest → mark ≤ upto)
    → 0 < length (cond ((newer && alone) && within) (i ∷ rest) rest) → mark ≤ upto
below_step true true true mark upto i rest e f on some =
    let newer = ltb-true mark i.number e in
    let within = leb-true i.number upto f in
    omega (arith, newer, within)
below_step true true false mark upto i rest e f on some = on some
below_step true false within mark upto i rest e f on some = on some
below_step false alone within mark upto i rest e f on some = on some

some_below : (mark upto : ℕ) (bans : List Issued) → 0 < length (between mark upto bans) → mark ≤ upto
some_below mark upto [] some = absurd (omega (arith, some))
some_below mark upto (i ∷ bans) some = below_step (nat_lt mark i.number) (is_alone i) (nat_le i.number upto) mark upto i (between mark upto bans) refl refl (some_below mark upto bans) some

sound_so : (verdict : Verdict) (lazy : Lazy) (beginning : Beginning) (entries : List Entry) → IsVerdictOf beginning entries verdict → StandsBehind lazy beginning entries → is_sound lazy.issued verdict ≡ true
sound_so verdict lazy beginning entries is stands =
    let below = some_below verdict.mark verdict.upto (reached beginning entries).bans is.some in
    let count = stands.stands.stands.count in
    let within : verdict.upto ≤ lazy.issued = omega (arith, is.issued, count) in
    or_right verdict.dead (nat_le verdict.mark verdict.upto && nat_le verdict.upto lazy.issued)
    (and_from (nat_le verdict.mark verdict.upto) (nat_le verdict.upto lazy.issued) (le-leb verdict.mark verdict.upto below) (le-leb verdict.upto lazy.issued within))

same_first : (a b : Bool) → (a ≡ true → b ≡ true) → (a && b) ≡ a
same_first true b on = on refl
same_first false b on = refl

waits_so : (lazy : Lazy) (bans : List Issued) (verdict : Verdict) (p : Placed) → 0 < length (between verdict.mark verdict.upto bans) → Agrees (kept_bans lazy) bans p → is_asked verdict p ≡ true → is_unswept (kept_bans lazy) p ≡ true
waits_so lazy bans verdict p some agrees e =
    let mark : p.mark ≡ verdict.mark = eqb-true p.mark verdict.mark (and_parts (p.view.number == verdict.object) (p.mark == verdict.mark) e).1 in
    same_unswept (kept_bans lazy) bans p agrees ∙ ap (λ (m : ℕ). list_any (is_above m) bans) mark ∙ some_above verdict.mark verdict.upto bans some

pub answer_so : (verdict : Verdict) (lazy : Lazy) (beginning : Beginning) (entries : List Entry) → IsVerdictOf beginning entries verdict → StandsBehind lazy beginning entries → is_settled verdict lazy ≡ list_any (is_asked verdict) lazy.objects
answer_so verdict lazy beginning entries is stands =
    let own : List Issued = kept_bans lazy in
    let bans : List Issued = (reached beginning entries).bans in
    ap (λ (b : Bool). b && list_any (is_open own verdict) lazy.objects) (sound_so verdict lazy beginning entries is stands)
    ∙ any_on (is_open own verdict) (is_asked verdict) lazy.objects
    (all-weaken (Agrees own bans) (λ (p : Placed). is_open own verdict p ≡ is_asked verdict p)
    (λ p agrees. same_first (is_asked verdict p) (is_unswept own p) (waits_so lazy bans verdict p is.some agrees)) lazy.objects stands.stands.stands.kept.agrees)

-- ---- what a verdict leaves

pub unsettled : (verdict : Verdict) (old new : Lazy) (answer : Bool) → answer ≡ is_settled verdict old → new ≡ settled verdict old → answer ≡ false → new ≡ old
unsettled verdict old new answer told is e = is ∙ sym (settled_not verdict old (sym told ∙ e))

pub judged_cut : (verdict : Verdict) (old between new : Lazy) (answer : Bool) → answer ≡ is_settled verdict old → between ≡ settled verdict old → answer ≡ true → AreCut between new → AreCut (judged_lazy verdict old) new
judged_cut verdict old between new answer told is e cut = subst (λ (l : Lazy). AreCut l new) (is ∙ sym (settled_as verdict old (sym told ∙ e))) cut
