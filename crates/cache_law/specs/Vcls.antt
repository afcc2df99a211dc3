-- The VCLs that a cache holds (varnish-cli(7), "vcl.load", "vcl.use", "vcl.discard", "vcl.list").
use Rattle.std.specs.Prelude.{ℕ, Bool, true, false, not, List, [], ◌∷◌, ◌++◌, ◌==◌, ◌&&◌, ◌||◌, Option, map, filter, find, length, if◌then◌else◌}
use Rattle.std.specs.List.{list_any}
use Rattle.std.specs.Str.{bytes_eq}
use Rattle.cache_law.specs.declared.state.OpenRound.{OpenRound}
use Rattle.cache_law.specs.declared.vcl.Vcl.{Vcl}
use Rattle.cache_law.specs.declared.vcl.VclSource.{VclSource}
use Rattle.cache_law.specs.declared.vcl.LoadedVcl.{LoadedVcl}
use Rattle.cache_law.specs.declared.vcl.VclState.{VclState}
use Rattle.cache_law.specs.declared.vcl.VclState.TheVariants.{Active, Available, Discarded}
use Rattle.cache_law.specs.declared.vcl.VclLine.{VclLine}

-- the VCL has the name, and isn't discarded
abbrev pub is_called : List ℕ → LoadedVcl → Bool
is_called name loaded = not loaded.is_discarded && bytes_eq loaded.vcl.name name

abbrev pub is_taken : List ℕ → List LoadedVcl → Bool
is_taken name vcls = list_any (is_called name) vcls

abbrev pub called : List ℕ → List LoadedVcl → Option LoadedVcl
called name vcls = find (is_called name) vcls

-- the round runs under the VCL of this number
abbrev pub is_under : ℕ → OpenRound → Bool
is_under number round = round.vcl == number

-- how many rounds run under it
abbrev pub references : List OpenRound → ℕ → ℕ
references rounds number = length (filter (is_under number) rounds)

-- a VCL stays that isn't discarded or that a round runs under
abbrev pub stays : List OpenRound → LoadedVcl → Bool
stays rounds loaded = not loaded.is_discarded || list_any (is_under loaded.vcl.number) rounds

abbrev pub those_staying : List OpenRound → List LoadedVcl → List LoadedVcl
those_staying rounds vcls = filter (stays rounds) vcls

-- the VCL under its number
abbrev pub numbered : ℕ → VclSource → Vcl
numbered number source = record { number = number; name = source.name; text = source.text; backends = source.backends }

-- the VCLs with one more behind them
abbrev pub with_vcl : Vcl → List LoadedVcl → List LoadedVcl
with_vcl vcl vcls = vcls ++ record { vcl = vcl; is_discarded = false } ∷ []

-- the VCL is discarded where it has this number
abbrev pub discarding : ℕ → LoadedVcl → LoadedVcl
discarding number loaded = if loaded.vcl.number == number then record loaded { is_discarded = true } else loaded

-- the VCLs, of which that of this number is discarded: it goes, unless a round runs under it
abbrev pub without_vcl : List OpenRound → ℕ → List LoadedVcl → List LoadedVcl
without_vcl rounds number vcls = those_staying rounds (map (discarding number) vcls)

-- what a VCL is for, where that of this number is active
abbrev pub state_of : ℕ → LoadedVcl → VclState
state_of active loaded = if loaded.is_discarded then Discarded else (if loaded.vcl.number == active then Active else Available)

abbrev pub vcl_line : ℕ → List OpenRound → LoadedVcl → VclLine
vcl_line active rounds loaded =
    record { state = state_of active loaded; references = references rounds loaded.vcl.number; name = loaded.vcl.name }

abbrev pub vcl_lines : ℕ → List OpenRound → List LoadedVcl → List VclLine
vcl_lines active rounds vcls = map (vcl_line active rounds) vcls
