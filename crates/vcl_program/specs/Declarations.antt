-- What a text declares for its runs. A thing's number is its place among those of its sort.
use Rattle.std.specs.Prelude.{ℕ, Bool, true, false, List, [], ◌∷◌, ◌++◌, filter_map, Option, Some, None, option_map}
use Rattle.directors.specs.declared.director.DirectorKind.{DirectorKind}
use Rattle.acl_match.specs.declared.entry.AclEntry.{AclEntry as Network}
use Rattle.vcl_values.specs.declared.value.Backend.{Backend}
use Rattle.vcl_tree.specs.declared.item.Item.{Item}
use Rattle.vcl_tree.specs.declared.item.Item.TheVariants as item
use Rattle.vcl_language.specs.Modules.{maker_named}
use Rattle.vcl_check.specs.declared.mentions.MentionKind.{MentionKind}
use Rattle.vcl_check.specs.declared.mentions.MentionKind.TheVariants as mention
use Rattle.vcl_check.specs.Acls.{networks}
use Rattle.vcl_check.specs.Mentions.{Said}
use Rattle.vcl_program.specs.declared.code.Director.{Director}

-- the backends, in the text's order
abbrev pub backend : Bool → List ℕ → Backend
backend is_none name = record { name = name; key = None; declared_none = is_none }

abbrev pub backend_of : Item → Option Backend
backend_of (item.Backend place name attributes) = Some (backend false name.text)
backend_of (item.NoBackend place name) = Some (backend true name.text)
backend_of _ = None

abbrev pub backends_of : List Item → List Backend
backends_of items = filter_map backend_of items

abbrev pub one_more : {A : Type 0} → List A → Option A → List A
one_more before None = before
one_more before (Some x) = before ++ x ∷ []

-- the networks of each ACL, in the text's order
abbrev pub networks_of : Item → Option (List Network)
networks_of (item.Acl place name entries) = Some (networks entries)
networks_of _ = None

abbrev pub acls_of : List Item → List (List Network)
acls_of items = filter_map networks_of items

-- the objects that are made in vcl_init are directors, whose kind goes by what makes them
abbrev pub director : List ℕ → DirectorKind → Director
director name kind = record { name = name; kind = kind }

abbrev pub director_by : MentionKind → List ℕ → List ℕ → Option Director
director_by mention.Object name maker = option_map (director name) (maker_named maker)
director_by _ name other = None

abbrev pub director_of : Said → Option Director
director_of s = director_by s.kind s.name s.other

abbrev pub directors_of : List Said → List Director
directors_of says = filter_map director_of says
