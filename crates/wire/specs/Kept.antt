-- What was handed back, in order.
use Rattle.std.specs.Prelude.{List, [], ◌++◌, Option, Some, None, Box, box_value}
use Rattle.std.specs.Option.{option_to_list}
use Rattle.std.specs.declared.alloc.Global.{Global}
use Rattle.wire.specs.declared.kept.Kept.{Kept}
use Rattle.wire.specs.declared.kept.Kept.TheOpen.{Kept-F}
use Rattle.wire.specs.declared.kept.Kept.TheFolds.{fold-Kept}

-- the item of a place, behind those of the places before it
abbrev pub items_here : {X : Type 0} → Kept-F X (List X) → List X
items_here {X} place = elim place.before as (λ _. List X) [ None ↦ [] | Some before ↦ box_value before ] ++ option_to_list place.item

abbrev pub items_at : {X : Type 0} → Kept X → List X
items_at {X} = fold-Kept X (List X) items_here

abbrev pub items_of : {X : Type 0} → Option (Box (Kept X) Global) → List X
items_of None = []
items_of (Some place) = items_at (box_value place)
