-- A hit is counted, or a marker used, at one place: the law does it for each object of the number, of which there is one.
use Rattle.std.proofs.Common.{◌≡◌, ◌≢◌, ℕ, Bool, true, false, cond, List, [], ◌∷◌, ◌+◌, ◌<◌, ◌≤◌, ◌==◌, ◌&&◌, zero, suc, length, get_or, set, map, Some, None, nat_lt, refl, arith, sym, ap, ◌∙◌, subst}
use Rattle.std.specs.List.{AllByRecursion, position, position_or_len}
use Rattle.std.proofs.lemmas.Bool.{cond-true, cond-false, eqb-true, ltb-false, ne_eqb}
use Rattle.std.proofs.lemmas.List.Quantifiers.{position-Some}
use Rattle.std.proofs.lemmas.List.Sums.{fails_before_first}
use Rattle.cache_law.specs.declared.ban.Issued.{Issued}
use Rattle.cache_law.specs.Object.{in_time}
use Rattle.cache_law.specs.Bases.{AreFalling, AreNumberedApart}
use Rattle.cache_law.specs.BansAtOnce.{cleared}
use Rattle.cache_law.specs.State.{Held, those_in_time}
use Rattle.cache_law.specs.Lookup.{raised, counted, touched}
use Rattle.flat_core.specs.declared.stored_object.StoredObject.{StoredObject}
use Rattle.flat_core.specs.declared.stored_object.Fate.{Fate}
use Rattle.flat_core.specs.declared.stored_object.Fate.TheVariants.{Stays, Tested, Goes}
use Rattle.flat_core.specs.StoredObject.{AreTested, counted_at, first_changed, held_all, held_of, is_of, settled, settled_held, touched_at, using_in}
use Rattle.cache_frame.specs.declared.seen.Use.{Use}
use Rattle.cache_frame.specs.declared.seen.Use.TheVariants.{Nothing, Hit, Marker}
use Rattle.flat_core.proofs.Objects.{held_all-settled}

-- ---- in memory

module _ (test : StoredObject → Bool) (change : StoredObject → StoredObject) where
  changed_at : (objects : List StoredObject) (place : ℕ) (d : StoredObject) → place < length objects → test (get_or objects place d) ≡ true
      → ((k : ℕ) → k < place → test (get_or objects k d) ≡ false) → set objects place (change (get_or objects place d)) ≡ first_changed test change objects
  changed_at [] place d below passes before = absurd (omega arith)
  changed_at (kept ∷ objects) zero d below passes before = sym (cond-true (test kept) _ _ passes)
  changed_at (kept ∷ objects) (suc place) d below passes before =
      ap (λ (rest : List StoredObject). kept ∷ rest) (changed_at objects place d (omega arith) passes (λ k less. before (suc k) (omega (arith, less))))
      ∙ sym (cond-false (test kept) _ _ (before 0 (omega arith)))

  unchanged_by : (objects : List StoredObject) → ((k : ℕ) (d : StoredObject) → k < length objects → test (get_or objects k d) ≡ false) → objects ≡ first_changed test change objects
  unchanged_by [] fails = refl
  unchanged_by (kept ∷ objects) fails =
      ap (λ (rest : List StoredObject). kept ∷ rest) (unchanged_by objects (λ k d less. fails (suc k) d (omega (arith, less))))
      ∙ sym (cond-false (test kept) _ _ (fails 0 kept (omega arith)))

  none_of : (b : Bool) (n : ℕ) → cond b (Some n) None ≡ None → b ≡ false
  none_of true n e = absurd (cc)
  none_of false n e = refl

  -- none passes
  pub unchanged : (objects : List StoredObject) → position test objects ≡ None → objects ≡ first_changed test change objects
  unchanged objects none_ =
      let past : length objects ≤ position_or_len test objects = ltb-false (position_or_len test objects) (length objects) (none_of (nat_lt (position_or_len test objects) (length objects)) _ none_) in
      unchanged_by objects (λ k d less. fails_before_first test objects k d (omega (arith, less, past)))

  -- the first that passes stands at the place, and was changed there
  pub changed : (objects : List StoredObject) (place : ℕ) (seen new : StoredObject) → position test objects ≡ Some place → seen ≡ get_or objects place seen → new ≡ change seen
      → set objects place new ≡ first_changed test change objects
  changed objects place seen new found at_ is_ =
      let first = position-Some test objects place seen found in
      ap (λ (y : StoredObject). set objects place y) (is_ ∙ ap change at_) ∙ changed_at objects place seen first.0 first.1 first.2

  -- no object was tested on more bans than before
  changed_one : (issued : ℕ) (b : Bool) (new kept : StoredObject) (objects rest : List StoredObject) → new.tested ≤ issued → kept.tested ≤ issued → AreTested issued objects → AreTested issued rest
      → AreTested issued (cond b (new ∷ objects) (kept ∷ rest))
  changed_one issued true new kept objects rest one other all more = (one, all)
  changed_one issued false new kept objects rest one other all more = (other, more)

  changed_tested : (issued : ℕ) → ((kept : StoredObject) → (change kept).tested ≡ kept.tested) → (objects : List StoredObject) → AreTested issued objects → AreTested issued (first_changed test change objects)
  changed_tested issued same [] tested = tt
  changed_tested issued same (kept ∷ objects) tested =
      changed_one issued (test kept) (change kept) kept objects _ (omega (arith, same kept, tested.0)) tested.0 tested.1 (changed_tested issued same objects tested.1)

pub using_tested : (issued now place : ℕ) (use_ : Use) (objects : List StoredObject) → AreTested issued objects → AreTested issued (using_in now place use_ objects)
using_tested issued now place Nothing objects tested = tested
using_tested issued now place (Hit number) objects tested = changed_tested (is_of now number) (counted_at place) issued (λ kept. refl) objects tested
using_tested issued now place (Marker number) objects tested = changed_tested (is_of now number) (touched_at place) issued (λ kept. refl) objects tested

-- ---- by the law

module _ (now number : ℕ) (bans : List Issued) (change : StoredObject → StoredObject) (law : Held → Held) (on : (kept : StoredObject) → held_of bans (change kept) ≡ law (held_of bans kept))
    (same : (kept : StoredObject) → in_time now (change kept).view.object ≡ in_time now kept.view.object) where
  -- what the law does to each object
  abbrev each : Held → Held
  each held = cond (held.view.number == number) (law held) held

  others_stay : (own : ℕ) (objects : List Held) → AllByRecursion (λ (other : Held). own ≢ other.view.number) objects → own ≡ number → objects ≡ map each objects
  others_stay own [] apart is_ = refl
  others_stay own (held ∷ objects) apart is_ =
      ap (λ (rest : List Held). held ∷ rest) (others_stay own objects apart.1 is_)
      ∙ ap (λ (h : Held). h ∷ map each objects) (sym (cond-false (held.view.number == number) (law held) held (ne_eqb held.view.number number (λ e. apart.0 (is_ ∙ sym e)))))

  changed_so : (kept : StoredObject) (objects rest : List StoredObject) (b lives : Bool) → (kept.view.number == number) ≡ b → in_time now kept.view.object ≡ lives
      → AreNumberedApart (cond lives (held_of bans kept ∷ those_in_time now (held_all bans objects)) (those_in_time now (held_all bans objects)))
      → (AreNumberedApart (those_in_time now (held_all bans objects)) → those_in_time now (held_all bans rest) ≡ map each (those_in_time now (held_all bans objects)))
      → those_in_time now (held_all bans (cond (b && lives) (change kept ∷ objects) (kept ∷ rest)))
      ≡ map each (cond lives (held_of bans kept ∷ those_in_time now (held_all bans objects)) (those_in_time now (held_all bans objects)))
  changed_so kept objects rest true true e lives apart later =
      cond-true (in_time now (change kept).view.object) _ _ (same kept ∙ lives)
      ∙ ap (λ (h : Held). h ∷ those_in_time now (held_all bans objects)) (on kept ∙ sym (cond-true (kept.view.number == number) (law (held_of bans kept)) (held_of bans kept) e))
      ∙ ap (λ (hs : List Held). each (held_of bans kept) ∷ hs) (others_stay kept.view.number (those_in_time now (held_all bans objects)) apart.0 (eqb-true kept.view.number number e))
  changed_so kept objects rest true false e lives apart later = cond-false (in_time now kept.view.object) _ _ lives ∙ later apart
  changed_so kept objects rest false true e lives apart later =
      cond-true (in_time now kept.view.object) _ _ lives
      ∙ ap (λ (hs : List Held). held_of bans kept ∷ hs) (later apart.1)
      ∙ ap (λ (h : Held). h ∷ map each (those_in_time now (held_all bans objects))) (sym (cond-false (kept.view.number == number) (law (held_of bans kept)) (held_of bans kept) e))
  changed_so kept objects rest false false e lives apart later = cond-false (in_time now kept.view.object) _ _ lives ∙ later apart

  changed_lawful : (objects : List StoredObject) → AreNumberedApart (those_in_time now (held_all bans objects))
      → those_in_time now (held_all bans (first_changed (is_of now number) change objects)) ≡ map each (those_in_time now (held_all bans objects))
  changed_lawful [] apart = refl
  changed_lawful (kept ∷ objects) apart = changed_so kept objects _ (kept.view.number == number) (in_time now kept.view.object) refl refl apart (changed_lawful objects)

pub counted_so : (now place number : ℕ) (bans : List Issued) (objects : List StoredObject) → AreNumberedApart (those_in_time now (held_all bans objects))
    → those_in_time now (held_all bans (first_changed (is_of now number) (counted_at place) objects)) ≡ counted place number (those_in_time now (held_all bans objects))
counted_so now place number bans objects apart =
    changed_lawful now number bans (counted_at place) (λ held. record held { view = raised held.view; used = place }) (λ kept. refl) (λ kept. refl) objects apart

pub touched_so : (now place number : ℕ) (bans : List Issued) (objects : List StoredObject) → AreNumberedApart (those_in_time now (held_all bans objects))
    → those_in_time now (held_all bans (first_changed (is_of now number) (touched_at place) objects)) ≡ touched place number (those_in_time now (held_all bans objects))
touched_so now place number bans objects apart =
    changed_lawful now number bans (touched_at place) (λ held. record held { used = place }) (λ kept. refl) (λ kept. refl) objects apart

-- ---- objects that a scan leaves have numbers of their own, as those before it had

module _ (P : ℕ → Type 0) where
  abbrev Each : List Held → Type 0
  Each objects = AllByRecursion (λ (held : Held). P held.view.number) objects

  each_one : (b : Bool) (held left : Held) (objects rest : List Held) → (P held.view.number → P left.view.number) → (Each objects → Each rest) → Each (cond b (held ∷ objects) objects) → Each (cond b (left ∷ rest) rest)
  each_one true held left objects rest one on all = (one all.0, on all.1)
  each_one false held left objects rest one on all = on all

  each_gone : (b : Bool) (held : Held) (objects : List Held) → Each (cond b (held ∷ objects) objects) → Each objects
  each_gone true held objects all = all.1
  each_gone false held objects all = all

  each_left : (now : ℕ) (fates : List Fate) (objects : List Held) → Each (those_in_time now objects) → Each (those_in_time now (settled_held fates objects))
  each_left now [] objects all = all
  each_left now (fate ∷ fates) [] all = tt
  each_left now (Stays ∷ fates) (held ∷ objects) all = each_one (in_time now held.view.object) held held (those_in_time now objects) _ (λ own. own) (each_left now fates objects) all
  each_left now (Tested ∷ fates) (held ∷ objects) all = each_one (in_time now held.view.object) held (cleared held) (those_in_time now objects) _ (λ own. own) (each_left now fates objects) all
  each_left now (Goes ∷ fates) (held ∷ objects) all = each_left now fates objects (each_gone (in_time now held.view.object) held (those_in_time now objects) all)

apart_one : (b : Bool) (held left : Held) (objects rest : List Held) → held.view.number ≡ left.view.number → (Each (λ n. held.view.number ≢ n) objects → Each (λ n. held.view.number ≢ n) rest) → (AreNumberedApart objects → AreNumberedApart rest)
    → AreNumberedApart (cond b (held ∷ objects) objects) → AreNumberedApart (cond b (left ∷ rest) rest)
apart_one true held left objects rest same each_ on apart = (subst (λ (n : ℕ). Each (λ m. n ≢ m) rest) same (each_ apart.0), on apart.1)
apart_one false held left objects rest same each_ on apart = on apart

apart_gone : (b : Bool) (held : Held) (objects : List Held) → AreNumberedApart (cond b (held ∷ objects) objects) → AreNumberedApart objects
apart_gone true held objects apart = apart.1
apart_gone false held objects apart = apart

apart_left : (now : ℕ) (fates : List Fate) (objects : List Held) → AreNumberedApart (those_in_time now objects) → AreNumberedApart (those_in_time now (settled_held fates objects))
apart_left now [] objects apart = apart
apart_left now (fate ∷ fates) [] apart = tt
apart_left now (Stays ∷ fates) (held ∷ objects) apart =
    apart_one (in_time now held.view.object) held held (those_in_time now objects) _ refl (each_left (λ n. held.view.number ≢ n) now fates objects) (apart_left now fates objects) apart
apart_left now (Tested ∷ fates) (held ∷ objects) apart =
    apart_one (in_time now held.view.object) held (cleared held) (those_in_time now objects) _ refl (each_left (λ n. held.view.number ≢ n) now fates objects) (apart_left now fates objects) apart
apart_left now (Goes ∷ fates) (held ∷ objects) apart = apart_left now fates objects (apart_gone (in_time now held.view.object) held (those_in_time now objects) apart)

pub apart_settled : (now issued : ℕ) (bans : List Issued) (fates : List Fate) (objects : List StoredObject) → AreFalling (issued + 1) bans → AreNumberedApart (those_in_time now (held_all bans objects))
    → AreNumberedApart (those_in_time now (held_all bans (settled issued fates objects)))
apart_settled now issued bans fates objects falling apart =
    subst (λ (hs : List Held). AreNumberedApart (those_in_time now hs)) (sym (held_all-settled issued bans fates objects falling)) (apart_left now fates (held_all bans objects) apart)
