-- The faults of a whole text, and when it is sound.
use Rattle.std.specs.Prelude.{ℕ, ◌≡◌, ◌⊎◌, ◌<◌, Bool, true, false, List, [], Contains, filter_map, length, Option, Some, None}
use Rattle.std.specs.List.{list_any}
use Rattle.vcl_tree.specs.declared.error.VclError.{VclError}
use Rattle.vcl_tree.specs.declared.error.VclError.TheVariants as error
use Rattle.vcl_symbols.specs.Circles.{OnCircleAt}
use Rattle.vcl_symbols.specs.declared.call_graph.Call.{Call}
use Rattle.vcl_values.specs.Readings.{HasNoReading, NestsTooDeep}
use Rattle.vmod_host.specs.declared.signature.Stored.{Stored}
use Rattle.vcl_tree.specs.declared.error.Fault.{Fault}
use Rattle.vcl_tree.specs.declared.error.Refusal.TheVariants as refusal
use Rattle.vcl_tree.specs.declared.item.Item.{Item}
use Rattle.vcl_tree.specs.declared.item.Item.TheVariants as item
use Rattle.vcl_check.specs.declared.mentions.MentionKind.{MentionKind}
use Rattle.vcl_check.specs.declared.mentions.MentionKind.TheVariants as kind
use Rattle.vcl_check.specs.Acls.{acl_fault}
use Rattle.vcl_check.specs.Attributes.{backend_fault, probe_fault}
use Rattle.vcl_check.specs.Declarations.{declarations, known_of, unknown_said, twice_said}
use Rattle.vcl_check.specs.Faults.{FaultIn, IsLeastOf}
use Rattle.vcl_check.specs.Folded.{AnyOf}
use Rattle.vcl_symbols.specs.Known.{Known}
use Rattle.vcl_check.specs.Mentions.{Said, with_items}
use Rattle.vcl_check.specs.Reaching.{calls_of, roots_of, numbered_names, AreReached}
use Rattle.vcl_check.specs.Roles.{Block}
use Rattle.vcl_check.specs.Least.{fault_at}

-- what a text says of names
abbrev pub says : List Item → List Said
says items = with_items [] items

-- a string that must be refused as a pattern, and one that may be
abbrev pub MustRefuse : List ℕ → Type 0
MustRefuse text = (4096 < length text) ⊎ HasNoReading text

abbrev pub MayRefuse : List ℕ → Type 0
MayRefuse text = (4096 < length text) ⊎ (HasNoReading text ⊎ NestsTooDeep text)

-- places of refused patterns: of each string that must be refused, and of none that may not
pub record AreRefused (said : List Said) (places : List ℕ) : Type 0 where
  pub each : (s : Said) → Contains said s → s.kind ≡ kind.Pattern → MustRefuse s.name → Contains places s.place
  pub only : (p : ℕ) → Contains places p → (s : Said) × Contains said s × (s.kind ≡ kind.Pattern) × (s.place ≡ p) × MayRefuse s.name

abbrev pub pattern_if : MentionKind → List ℕ → Option (List ℕ)
pattern_if kind.Pattern text = Some text
pattern_if _ text = None

abbrev pub pattern_of : Said → Option (List ℕ)
pattern_of s = pattern_if s.kind s.name

-- the strings of a text that must be patterns, in its order
abbrev pub pattern_texts : List Said → List (List ℕ)
pattern_texts said = filter_map pattern_of said

-- What came of trying these strings: the places of those that are refused, and the patterns that the others are.
pub record AreTried (said : List Said) (places : List ℕ) (patterns : List (List ℕ)) : Type 0 where
  pub refused : AreRefused said places
  pub built : places ≡ [] → patterns ≡ pattern_texts said

abbrev pub refused_at : ℕ → ℕ → Option Fault
refused_at k place = fault_at refusal.Pattern (Some place)

-- a fault of an item
abbrev pub ItemFault : Known → List (List ℕ) → List (List Bool) → ℕ → Item → Fault → Type 0
ItemFault known numbers rows k (item.Import place name) f = ⊥
ItemFault known numbers rows k (item.NoBackend place name) f = ⊥
ItemFault known numbers rows k (item.Backend place name attributes) f = backend_fault known name attributes ≡ Some f
ItemFault known numbers rows k (item.Probe place name attributes) f = probe_fault known attributes ≡ Some f
ItemFault known numbers rows k (item.Acl place name entries) f = acl_fault entries ≡ Some f
ItemFault known numbers rows k (item.Sub place name block) f = FaultIn known (roots_of numbers rows name.text) Block block f

-- a call that is on a circle
abbrev pub CircleFault : List Call → Fault → Type 0
CircleFault calls f = (place : ℕ) × OnCircleAt calls place × (fault_at refusal.Recursion (Some place) ≡ Some f)

-- A fault of a text, where the rows mark what calls lead to from the built-in subroutines, and the places are those of
-- refused patterns: a name that isn't known, one that is declared twice, a fault of an item, a call on a circle, a text
-- that is no pattern.
abbrev pub FaultOf : List Said → List Item → Known → List (List ℕ) → List (List Bool) → List ℕ → Fault → Type 0
FaultOf said items known numbers rows places f =
    AnyOf (λ k s g. unknown_said known.stored k s ≡ Some g) 0 said f
    ⊎ (AnyOf (λ k s g. twice_said known.names k s ≡ Some g) 0 (declarations said) f
    ⊎ (AnyOf (ItemFault known numbers rows) 0 items f
    ⊎ (CircleFault (calls_of known numbers said) f
    ⊎ AnyOf (λ k place g. refused_at k place ≡ Some g) 0 places f)))

abbrev pub AnyFault : List Item → List Stored → List (List Bool) → List ℕ → Fault → Type 0
AnyFault items stored rows places =
    let known = known_of (says items) stored in
    FaultOf (says items) items known (numbered_names known.names) rows places

-- the calls of a text
abbrev pub calls_in : List Item → List Stored → List Call
calls_in items stored = let known = known_of (says items) stored in calls_of known (numbered_names known.names) (says items)

-- The first fault of a text other than that no backend is declared, or none: with the rows of what calls lead to, and
-- with places of patterns that were refused.
pub record IsFirstFault (items : List Item) (stored : List Stored) (found : Option Fault) : Type 0 where
  pub rows : List (List Bool)
  pub places : List ℕ
  pub thirteen : length rows ≡ 13
  pub reached : AreReached (calls_in items stored) 0 rows
  pub refused : AreRefused (says items) places
  pub first : IsLeastOf (AnyFault items stored rows places) found

abbrev pub is_backend : Item → Bool
is_backend (item.Backend place name attributes) = true
is_backend (item.NoBackend place name) = true
is_backend _ = false

-- at least one backend is declared
abbrev pub has_backend : List Item → Bool
has_backend items = list_any is_backend items

-- A text is sound: it has no fault, and declares a backend.
pub record IsSound (items : List Item) (stored : List Stored) : Type 0 where
  pub faultless : IsFirstFault items stored None
  pub backend : has_backend items ≡ true

-- Why a text is refused: by its first fault; or it has none and declares no backend, which is told at place 0.
abbrev pub IsRefused : List Item → List Stored → VclError → Type 0
IsRefused items stored error.NoMemory = Unit {0}
IsRefused items stored (error.Refused kind place) =
    IsFirstFault items stored (Some (record { place = place; kind = kind }))
    ⊎ (IsFirstFault items stored None × (has_backend items ≡ false) × (kind ≡ refusal.NoBackend) × (place ≡ 0))
