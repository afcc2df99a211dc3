-- What is asked of a text, each by itself: a text that is sound keeps all of it.
use Rattle.std.specs.Prelude.{ℕ, ◌≡◌, true, Bool, List, Contains, length, None, slice_get, Some}
use Rattle.vcl_symbols.specs.Circles.{OnCircleAt}
use Rattle.vcl_language.specs.declared.scope.Subroutine.{Subroutine}
use Rattle.vmod_host.specs.declared.signature.Stored.{Stored}
use Rattle.vcl_tree.specs.Phrase.{Phrase}
use Rattle.vcl_tree.specs.declared.item.AclEntry.{AclEntry}
use Rattle.vcl_tree.specs.declared.item.Item.{Item}
use Rattle.vcl_tree.specs.declared.item.Item.TheVariants as item
use Rattle.vcl_tree.specs.declared.name.Name.{Name}
use Rattle.vcl_check.specs.declared.mentions.MentionKind.TheVariants as kind
use Rattle.vcl_check.specs.Acls.{acl_fault}
use Rattle.vcl_check.specs.Attributes.{backend_fault, probe_fault}
use Rattle.vcl_check.specs.Declarations.{declarations, known_of, unknown_said, twice_said}
use Rattle.vcl_check.specs.Faults.{Within, unknown_in, misfit_in, misused_in, misplaced_in, unwritten_part}
use Rattle.vcl_symbols.specs.Known.{Known}
use Rattle.vcl_check.specs.Mentions.{Said}
use Rattle.vcl_check.specs.Reaching.{numbered_names, roots_of, AreReached}
use Rattle.vcl_check.specs.Roles.{Role, Block}
use Rattle.vcl_check.specs.Texts.{says, calls_in, has_backend, MustRefuse, IsSound}

abbrev pub known_in : List Item → List Stored → Known
known_in items stored = known_of (says items) stored

-- the built-in subroutines from which the one of this name is reached
abbrev pub roots_in : List Item → List Stored → List (List Bool) → List ℕ → List Subroutine
roots_in items stored rows name = roots_of (numbered_names (known_in items stored).names) rows name

-- the part stands in this role in a block that is reached from these built-in subroutines
pub record IsPart (items : List Item) (stored : List Stored) (rows : List (List Bool)) (roots : List Subroutine) (role : Role) (part : Phrase) : Type 0 where
  pub place : ℕ
  pub name : Name
  pub block : Phrase
  pub declared : Contains items (item.Sub place name block)
  pub reached : roots ≡ roots_in items stored rows name.text
  pub within : Within role part Block block

-- With rows that mark what calls lead to from each of the thirteen built-in subroutines.
pub record KeepsSentences (items : List Item) (stored : List Stored) (rows : List (List Bool)) : Type 0 where
  pub thirteen : length rows ≡ 13
  pub reached : AreReached (calls_in items stored) 0 rows
  -- each name that is used is known; a module is there, and a subroutine named like a built-in one is one
  pub known : (roots : List Subroutine) (role : Role) (part : Phrase) → IsPart items stored rows roots role part → unknown_in (known_in items stored) role part ≡ None
  pub modules : (k : ℕ) (s : Said) → slice_get (says items) k ≡ Some s → unknown_said stored k s ≡ None
  -- no name is declared twice
  pub once : (k : ℕ) (s : Said) → slice_get (declarations (says items)) k ≡ Some s → twice_said (known_in items stored).names k s ≡ None
  -- types and counts of arguments fit
  pub fit : (roots : List Subroutine) (role : Role) (part : Phrase) → IsPart items stored rows roots role part → misfit_in (known_in items stored) roots role part ≡ None
  -- variables, words and functions are used where they may be
  pub used : (roots : List Subroutine) (role : Role) (part : Phrase) → IsPart items stored rows roots role part → misused_in (known_in items stored) roots role part ≡ None
  -- statements stand where they may
  pub placed : (roots : List Subroutine) (role : Role) (part : Phrase) → IsPart items stored rows roots role part → misplaced_in (known_in items stored) roots role part ≡ None
  -- no subroutine reaches itself by calls
  pub straight : (place : ℕ) → OnCircleAt (calls_in items stored) place → ⊥
  -- what must be one string is, and it is a pattern
  pub written : (roots : List Subroutine) (role : Role) (part : Phrase) → IsPart items stored rows roots role part → unwritten_part (known_in items stored) role part ≡ None
  pub patterns : (s : Said) → Contains (says items) s → s.kind ≡ kind.Pattern → MustRefuse s.name → ⊥
  -- backends, probes and ACLs are right
  pub backends : (place : ℕ) (name : Name) (attributes : List Phrase) → Contains items (item.Backend place name attributes) → backend_fault (known_in items stored) name attributes ≡ None
  pub probes : (place : ℕ) (name : Name) (attributes : List Phrase) → Contains items (item.Probe place name attributes) → probe_fault (known_in items stored) attributes ≡ None
  pub acls : (place : ℕ) (name : Name) (entries : List AclEntry) → Contains items (item.Acl place name entries) → acl_fault entries ≡ None
  -- at least one backend is declared
  pub backend : has_backend items ≡ true

-- a text that is sound keeps them all
abbrev pub SoundKeeps : Type 0
SoundKeeps = (items : List Item) (stored : List Stored) → IsSound items stored → (rows : List (List Bool)) × KeepsSentences items stored rows
