-- What a purge does to the objects in memory.
use Rattle.std.specs.Prelude.{ℕ, Bool, not, List, ◌&&◌, if◌then◌else◌}
use Rattle.std.specs.List.{list_any}
use Rattle.std.specs.Str.{bytes_eq}
use Rattle.cache_law.specs.declared.object.Object.{Object}
use Rattle.cache_law.specs.Object.{in_time, key_of, same_texts}
use Rattle.cache_law.specs.Purges.{xkeys_of, softened}
use Rattle.flat_core.specs.declared.stored_object.StoredObject.{StoredObject}

abbrev pub has_key : List (List ℕ) → Object → Bool
has_key key object = same_texts (key_of object) key

-- it has at least one of the xkeys
abbrev pub has_xkey : List (List ℕ) → Object → Bool
has_xkey keys object = list_any (λ own. list_any (bytes_eq own) keys) (xkeys_of object)

-- the object is in time at the moment and passes the test
abbrev pub is_purged : ℕ → (Object → Bool) → StoredObject → Bool
is_purged now test kept = in_time now kept.view.object && test kept.view.object

abbrev pub is_spared : ℕ → (Object → Bool) → StoredObject → Bool
is_spared now test kept = not (is_purged now test kept)

abbrev pub soft_of : ℕ → StoredObject → StoredObject
soft_of now kept = let view = kept.view in record kept { view = record view { object = softened now view.object } }

-- the object is softened where it is in time and has one of the xkeys
abbrev pub softening : ℕ → List (List ℕ) → StoredObject → StoredObject
softening now keys kept = if is_purged now (has_xkey keys) kept then soft_of now kept else kept
