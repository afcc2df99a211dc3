-- What a text takes a backend or a director for.
use Rattle.std.specs.Prelude.{ℕ, Bool, ◌==◌, List, [], ◌∷◌, ◌++◌, Option, Some, None, option_map, unwrap_or, position, slice_get, if◌then◌else◌}
use Rattle.std.specs.Str.{bytes_eq}
use Rattle.directors.specs.declared.director.DirectorKind.TheVariants.{One}
use Rattle.vcl_values.specs.declared.value.Backend.{Backend}
use Rattle.vcl_program.specs.declared.code.Code.{Code}
use Rattle.vcl_program.specs.declared.code.Director.{Director}
use Rattle.vcl_program.specs.declared.code.Member.{Member as Placed}
use Rattle.directors.specs.declared.target.Member.{Member}
use Rattle.directors.specs.declared.target.Target.{Target}

-- a backend as a member; one that is declared as none has the weight 0
abbrev pub member : Backend → ℕ → Member
member backend weight = record { name = backend.name; weight = if backend.declared_none then 0 else weight }

-- the members of the director of this number, in the text's order
abbrev pub with_member : List Member → Option Backend → ℕ → List Member
with_member before (Some backend) weight = before ++ member backend weight ∷ []
with_member before None weight = before

abbrev pub one_more : List Backend → ℕ → List Member → Placed → List Member
one_more backends k before placed = if placed.director == k then with_member before (slice_get backends placed.backend) placed.weight else before

abbrev pub with_members : List Backend → ℕ → List Member → List Placed → List Member
with_members backends k before [] = before
with_members backends k before (p ∷ ps) = with_members backends k (one_more backends k before p) ps

abbrev pub members_of : Code → ℕ → List Member
members_of code k = with_members code.backends k [] code.members

abbrev pub as_target : Code → ℕ → Director → Target
as_target code k director = record { kind = director.kind; name = director.name; members = members_of code k }

abbrev pub director_at : Code → ℕ → Option Target
director_at code k = option_map (as_target code k) (slice_get code.directors k)

-- a single backend is its own one member
abbrev pub single : Backend → Target
single backend = record { kind = One; name = backend.name; members = member backend 1 ∷ [] }

abbrev pub backend_at : Code → ℕ → Option Target
backend_at code k = option_map single (slice_get code.backends k)

-- the director of this name, or else the backend
abbrev pub director_named : List ℕ → Director → Bool
director_named name director = bytes_eq director.name name

abbrev pub backend_named : List ℕ → Backend → Bool
backend_named name backend = bytes_eq backend.name name

abbrev pub backend_or : Code → Option ℕ → Option Target
backend_or code (Some k) = backend_at code k
backend_or code None = None

abbrev pub director_or : Code → List ℕ → Option ℕ → Option Target
director_or code name (Some k) = director_at code k
director_or code name None = backend_or code (position (backend_named name) code.backends)

abbrev pub target_named : Code → List ℕ → Option Target
target_named code name = director_or code name (position (director_named name) code.directors)

-- no sound text is without a backend; of none nothing can be chosen
abbrev pub no_target : Target
no_target = record { kind = One; name = []; members = [] }

abbrev pub default_target : Code → Target
default_target code = unwrap_or (backend_at code code.default_backend) no_target
