-- What a purge does to the objects in memory is what it does by the law.
use Rattle.std.proofs.Common.{◌≡◌, ℕ, Bool, true, false, not, cond, List, [], ◌∷◌, ◌≤◌, ◌&&◌, length, filter, map, refl}
use Rattle.cache_law.specs.declared.ban.Issued.{Issued}
use Rattle.cache_law.specs.declared.object.Object.{Object}
use Rattle.cache_law.specs.Object.{in_time}
use Rattle.cache_law.specs.Purges.{count_of, softening as softened_by_law}
use Rattle.cache_law.specs.State.{Held, those_in_time}
use Rattle.flat_core.specs.declared.stored_object.StoredObject.{StoredObject}
use Rattle.flat_core.specs.StoredObject.{held_of, held_all, AreTested}
use Rattle.flat_core.specs.Purging.{soft_of, has_xkey, is_purged, is_spared, softening}

-- the object of a held one passes
abbrev pub of_object : (Object → Bool) → Held → Bool
of_object test held = test held.view.object

abbrev pub not_of_object : (Object → Bool) → Held → Bool
not_of_object test held = not (test held.view.object)

count_one : (bans : List Issued) (test : Object → Bool) (kept : StoredObject) (objects : List StoredObject) (rest : List Held) (lives passes : Bool) → test kept.view.object ≡ passes → length objects ≡ length (filter (of_object test) rest)
    → length (cond (lives && passes) (kept ∷ objects) objects) ≡ length (filter (of_object test) (cond lives (held_of bans kept ∷ rest) rest))
count_one bans test kept objects rest false passes e ih = ih
count_one bans test kept objects rest true false e ih = rw (e) ih
count_one bans test kept objects rest true true e ih = rw (e, ih) refl

-- how many are purged
pub counts : (bans : List Issued) (now : ℕ) (test : Object → Bool) (objects : List StoredObject) → length (filter (is_purged now test) objects) ≡ count_of (of_object test) (those_in_time now (held_all bans objects))
counts bans now test [] = refl
counts bans now test (kept ∷ objects) = count_one bans test kept _ _ (in_time now kept.view.object) (test kept.view.object) refl (counts bans now test objects)

spared_one : (bans : List Issued) (now : ℕ) (test : Object → Bool) (kept : StoredObject) (objects : List StoredObject) (rest : List Held) (lives passes : Bool) → in_time now kept.view.object ≡ lives → test kept.view.object ≡ passes → those_in_time now (held_all bans objects) ≡ filter (not_of_object test) rest
    → those_in_time now (held_all bans (cond (not (lives && passes)) (kept ∷ objects) objects)) ≡ filter (not_of_object test) (cond lives (held_of bans kept ∷ rest) rest)
spared_one bans now test kept objects rest false passes e p ih = rw (e) ih
spared_one bans now test kept objects rest true false e p ih = rw (e, p, ih) refl
spared_one bans now test kept objects rest true true e p ih = rw (p) ih

-- what is left of them
pub spared : (bans : List Issued) (now : ℕ) (test : Object → Bool) (objects : List StoredObject) → those_in_time now (held_all bans (filter (is_spared now test) objects)) ≡ filter (not_of_object test) (those_in_time now (held_all bans objects))
spared bans now test [] = refl
spared bans now test (kept ∷ objects) = spared_one bans now test kept _ _ (in_time now kept.view.object) (test kept.view.object) refl refl (spared bans now test objects)

-- the object in memory, softened or not, by two tests
abbrev soft_by : ℕ → List (List ℕ) → StoredObject → Bool → Bool → StoredObject
soft_by now keys kept lives passes = cond (lives && passes) (soft_of now kept) kept

soft_one : (bans : List Issued) (now : ℕ) (keys : List (List ℕ)) (kept : StoredObject) (objects : List StoredObject) (rest : List Held) (lives passes : Bool) → in_time now kept.view.object ≡ lives → has_xkey keys kept.view.object ≡ passes
    → those_in_time now (held_all bans objects) ≡ those_in_time now (map (softened_by_law now keys) rest)
    → those_in_time now (held_of bans (soft_by now keys kept lives passes) ∷ held_all bans objects) ≡ those_in_time now (map (softened_by_law now keys) (cond lives (held_of bans kept ∷ rest) rest))
soft_one bans now keys kept objects rest false passes e p ih = rw (e) ih
soft_one bans now keys kept objects rest true false e p ih = rw (p, e, ih) refl
soft_one bans now keys kept objects rest true true e p ih = rw (p, ih) refl

-- what a soft purge leaves of them
pub softened_so : (bans : List Issued) (now : ℕ) (keys : List (List ℕ)) (objects : List StoredObject) → those_in_time now (held_all bans (map (softening now keys) objects)) ≡ those_in_time now (map (softened_by_law now keys) (those_in_time now (held_all bans objects)))
softened_so bans now keys [] = refl
softened_so bans now keys (kept ∷ objects) =
    soft_one bans now keys kept (map (softening now keys) objects) (those_in_time now (held_all bans objects)) (in_time now kept.view.object) (has_xkey keys kept.view.object) refl refl (softened_so bans now keys objects)

soft_tested : (issued now : ℕ) (b : Bool) (kept : StoredObject) → kept.tested ≤ issued → (cond b (soft_of now kept) kept).tested ≤ issued
soft_tested issued now true kept below = below
soft_tested issued now false kept below = below

pub softened_tested : (issued now : ℕ) (keys : List (List ℕ)) (objects : List StoredObject) → AreTested issued objects → AreTested issued (map (softening now keys) objects)
softened_tested issued now keys [] tested = tt
softened_tested issued now keys (kept ∷ objects) tested = (soft_tested issued now (is_purged now (has_xkey keys) kept) kept tested.0, softened_tested issued now keys objects tested.1)
