-- No object was tested on more bans than were issued, whatever a call does.
use Rattle.std.proofs.Common.{ℕ, Bool, true, false, cond, List, [], ◌∷◌, ◌++◌, ◌+◌, ◌≤◌, ◌==◌, filter, map, Option, Some, None, arith}
use Rattle.std.specs.Option.{option_map_or}
use Rattle.cache_law.specs.declared.object.Object.{Object}
use Rattle.flat_core.specs.declared.stored_object.StoredObject.{StoredObject}
use Rattle.flat_core.specs.declared.stored_object.Fate.{Fate}
use Rattle.flat_core.specs.declared.stored_object.Fate.TheVariants.{Stays, Tested, Goes}
use Rattle.flat_core.specs.StoredObject.{AreTested, left_of, settled, tested_for, first_of}
use Rattle.flat_core.specs.Room.{stays_from}

left_tested : (issued : ℕ) (count : ℕ) (fate : Fate) (kept : StoredObject) (objects : List StoredObject) → count ≤ issued → kept.tested ≤ issued → AreTested issued objects → AreTested issued (left_of count fate kept ++ objects)
left_tested issued count Stays kept objects all below rest = (below, rest)
left_tested issued count Tested kept objects all below rest = (all, rest)
left_tested issued count Goes kept objects all below rest = rest

pub settled_tested : (issued : ℕ) (count : ℕ) (fates : List Fate) (objects : List StoredObject) → count ≤ issued → AreTested issued objects → AreTested issued (settled count fates objects)
settled_tested issued count [] objects all tested = tested
settled_tested issued count (fate ∷ fates) [] all tested = tt
settled_tested issued count (fate ∷ fates) (kept ∷ objects) all tested = left_tested issued count fate kept _ all tested.0 (settled_tested issued count fates objects all tested.1)

filter_one : (issued : ℕ) (b : Bool) (kept : StoredObject) (objects : List StoredObject) → kept.tested ≤ issued → AreTested issued objects → AreTested issued (cond b (kept ∷ objects) objects)
filter_one issued true kept objects below rest = (below, rest)
filter_one issued false kept objects below rest = rest

pub filter_tested : (issued : ℕ) (test : StoredObject → Bool) (objects : List StoredObject) → AreTested issued objects → AreTested issued (filter test objects)
filter_tested issued test [] tested = tt
filter_tested issued test (kept ∷ objects) tested = filter_one issued (test kept) kept (filter test objects) tested.0 (filter_tested issued test objects tested.1)

found_one : (issued : ℕ) (b : Bool) (kept : StoredObject) (later : Option StoredObject) → kept.tested ≤ issued → option_map_or (λ (k : StoredObject). k.tested) later issued ≤ issued → option_map_or (λ (k : StoredObject). k.tested) (cond b (Some kept) later) issued ≤ issued
found_one issued true kept later below rest = below
found_one issued false kept later below rest = rest

stale_tested : (issued : ℕ) (stale : Option ℕ) (objects : List StoredObject) → AreTested issued objects → tested_for issued stale objects ≤ issued
stale_tested issued None objects tested = omega arith
stale_tested issued (Some stale) [] tested = omega arith
stale_tested issued (Some stale) (kept ∷ objects) tested = found_one issued (kept.view.number == stale) kept _ tested.0 (stale_tested issued (Some stale) objects tested.1)

-- the new object in the stale one's place
pub first_tested : (issued : ℕ) (place token : ℕ) (object : Object) (stale : Option ℕ) (bound : ℕ) (objects : List StoredObject) → AreTested issued objects → AreTested issued (first_of place token object stale issued objects ∷ filter (stays_from stale bound) objects)
first_tested issued place token object stale bound objects tested = (stale_tested issued stale objects tested, filter_tested issued (stays_from stale bound) objects tested)

-- with one ban more
pub more_tested : (issued : ℕ) (objects : List StoredObject) → AreTested issued objects → AreTested (issued + 1) objects
more_tested issued [] tested = tt
more_tested issued (kept ∷ objects) tested = (omega (arith, tested.0), more_tested issued objects tested.1)
