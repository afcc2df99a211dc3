-- What a sound text keeps of probes.
use Rattle.std.specs.Prelude.{ℕ, ◌≡◌, true, List, Contains, is_some, codes}
use Rattle.vmod_host.specs.declared.signature.Stored.{Stored}
use Rattle.vcl_tree.specs.Phrase as phrase
use Rattle.vcl_tree.specs.Phrase.{Phrase}
use Rattle.vcl_tree.specs.declared.item.Item.{Item}
use Rattle.vcl_tree.specs.declared.item.Item.TheVariants as item
use Rattle.vcl_tree.specs.declared.name.Name.{Name}
use Rattle.vcl_check.specs.Mentions.{parts}
use Rattle.vcl_attributes.specs.WindowNumbers.{numbers_in}
use Rattle.vcl_check.specs.Texts.{IsSound}

-- the numbers of a probe that a sound text declares fit
abbrev pub DeclaredFit : Type 0
DeclaredFit =
    (items : List Item) (stored : List Stored) → IsSound items stored
    → (place : ℕ) (name : Name) (attributes : List Phrase) → Contains items (item.Probe place name attributes)
    → is_some (numbers_in attributes) ≡ true

-- and those of a probe in the braces of a backend
abbrev pub NestedFit : Type 0
NestedFit =
    (items : List Item) (stored : List Stored) → IsSound items stored
    → (place : ℕ) (name : Name) (attributes : List Phrase) → Contains items (item.Backend place name attributes)
    → (a b list : Phrase) (at : ℕ)
    → Contains attributes (phrase.Node phrase.Attribute a (phrase.Node phrase.Bound (phrase.Named at (codes "probe")) (phrase.Node phrase.Nested b list)))
    → is_some (numbers_in (parts list)) ≡ true
