use Rattle.std.proofs.Common.{◌≡◌, map, take}
use Rattle.vmod_host.specs.Stored.{entry_of}
use Rattle.vcl_library.specs.Functions.{std_functions}
use Rattle.vcl_library.proofs.functions.std_vmods.Given as goal

abbrev pub invariant-loop-stored : goal.invariant-loop-stored
invariant-loop-stored g l = map (λ vmod. entry_of vmod.tag vmod.signature) l.list.items ≡ take l.stored-index std_functions
