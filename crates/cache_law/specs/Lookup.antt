-- What a lookup finds, and what it leaves of the objects (RFC 9111, section 4.1; Varnish Users Guide, "Grace mode and keep").
use Rattle.std.specs.Prelude.{ℕ, ℤ, Bool, not, List, [], ◌∷◌, ◌+◌, ◌-◌, ◌^◌, ◌==◌, ◌&&◌, ◌||◌, ◌+ℤ◌, pos, Option, Some, None, map, filter, min, if◌then◌else◌}
use Rattle.std.specs.List.{list_all}
use Rattle.std.specs.Int.{int_min}
use Rattle.std.specs.Int.Signed.{lt_z}
use Rattle.units.specs.Blanks.{trimmed}
use Rattle.http_heads.specs.declared.fields.Field.{Field}
use Rattle.http_heads.specs.Fields.{is_named}
use Rattle.cache_law.specs.declared.object.VaryItem.{VaryItem}
use Rattle.cache_law.specs.declared.object.Object.{Object}
use Rattle.cache_law.specs.declared.object.ObjectView.{ObjectView}
use Rattle.cache_law.specs.declared.call.Options.{Options}
use Rattle.cache_law.specs.declared.call.Query.{Query}
use Rattle.cache_law.specs.Object.{key_of, vary_of, varies_always, timing_of, can_confirm, same_texts}
use Rattle.cache_law.specs.BansAtOnce.{is_met, cleared}
use Rattle.cache_law.specs.State.{Held}

-- the values of a field, without the blanks at their ends
abbrev pub values_of : List ℕ → List Field → List (List ℕ)
values_of name fields = map (λ field. trimmed field.value) (filter (is_named name) fields)

-- a request with these fields has the item's values
abbrev pub has_values : List Field → VaryItem → Bool
has_values fields item = same_texts (values_of item.name fields) (map trimmed item.values)

-- the object was chosen by what the request has, too
abbrev pub is_chosen_by : Query → Object → Bool
is_chosen_by query object =
    query.options.ignore_vary || (not (varies_always object) && list_all (has_values query.request.fields) (vary_of object))

-- an object of the key that may answer the request
abbrev pub matches : Query → Object → Bool
matches query object = same_texts (key_of object) query.key && is_chosen_by query object

-- the lesser of an object's number and of the one that the lookup gives
abbrev pub lessened : ℤ → Option ℤ → ℤ
lessened own None = own
lessened own (Some given) = int_min own given

-- the moment from which on the object isn't fresh for the lookup
abbrev pub fresh_until : Options → Object → ℤ
fresh_until options object = let timing = timing_of object in timing.origin +ℤ lessened timing.ttl options.ttl

-- the moment from which on it isn't in grace for the lookup
abbrev pub grace_until : Options → Object → ℤ
grace_until options object = fresh_until options object +ℤ lessened (timing_of object).grace options.grace

abbrev pub is_fresh : ℕ → Options → Object → Bool
is_fresh moment options object = lt_z (pos moment) (fresh_until options object)

-- where it isn't fresh
abbrev pub is_in_grace : ℕ → Options → Object → Bool
is_in_grace moment options object = lt_z (pos moment) (grace_until options object)

-- the object with one more hit, where a number of 64 bits has one more
abbrev pub raised : ObjectView → ObjectView
raised view = record view { hits = min (view.hits + 1) (2 ^ 64 - 1) }

-- the object has one more hit, and was used at this place of the history, where it has this number
abbrev pub counting : ℕ → ℕ → Held → Held
counting place number held =
    if held.view.number == number then record held { view = raised held.view; used = place } else held

-- the objects, of which that of this number has one more hit and was used at this place
abbrev pub counted : ℕ → ℕ → List Held → List Held
counted place number objects = map (counting place number) objects

-- the object was used at this place where it has this number
abbrev pub touching : ℕ → ℕ → Held → Held
touching place number held = if held.view.number == number then record held { used = place } else held

-- the objects, of which that of this number was used at this place
abbrev pub touched : ℕ → ℕ → List Held → List Held
touched place number objects = map (touching place number) objects

-- What a scan of objects of any kind found, and what it leaves of them: a fresh object, which ended it, and of the
-- objects before it the first that is in grace and the first that the backend may confirm.
pub record Scan (X : Type 0) : Type 0 where
  pub fresh : Option ObjectView
  pub grace : Option ObjectView
  pub stale : Option ObjectView
  pub objects : List X

-- a scan that comes to no object
abbrev pub nothing_found : {X : Type 0} → Scan X
nothing_found = record { fresh = None; grace = None; stale = None; objects = [] }

-- a scan that passes this object by and then goes so
abbrev pub passing : {X : Type 0} → X → Scan X → Scan X
passing x scan = record scan { objects = x ∷ scan.objects }

-- a scan that ends at an object, which it gives
abbrev pub ending : {X : Type 0} → ObjectView → X → List X → Scan X
ending view x others = record { fresh = Some view; grace = None; stale = None; objects = x ∷ others }

-- the object where it passes a test, and else what came of the objects behind it
abbrev pub first_of : Bool → ObjectView → Option ObjectView → Option ObjectView
first_of passes view later = if passes then Some view else later

-- a scan that sees an object which isn't fresh and then goes so
abbrev pub seeing : {X : Type 0} → ℕ → Options → ObjectView → X → Scan X → Scan X
seeing moment options view x scan =
    record {
      fresh = scan.fresh;
      grace = first_of (is_in_grace moment options view.object) view scan.grace;
      stale = first_of (can_confirm view.object) view scan.stale;
      objects = x ∷ scan.objects;
    }

-- an object of the key that no ban matched, before objects of which a scan finds so
abbrev pub tested : ℕ → Query → Held → List Held → Scan Held → Scan Held
tested moment query held objects scan =
    if is_chosen_by query held.view.object
    then (if is_fresh moment query.options held.view.object
    then ending held.view (cleared held) objects
    else seeing moment query.options held.view (cleared held) scan)
    else passing (cleared held) scan

-- The lookup's scan of the objects in time at the moment, newest first. An object of the key is tested on the bans that
-- wait for it: it goes where one matches it with the request, and else none of them waits any more.
abbrev pub scanned : ℕ → Query → List Held → Scan Held
scanned moment query [] = nothing_found
scanned moment query (held ∷ objects) =
    if same_texts (key_of held.view.object) query.key
    then (if is_met query.request held then scanned moment query objects
    else tested moment query held objects (scanned moment query objects))
    else passing held (scanned moment query objects)
