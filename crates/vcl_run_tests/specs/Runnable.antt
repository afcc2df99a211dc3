-- Programs that runs are of: made with these functions, and no run of them gets stuck.
use Rattle.std.specs.Prelude.{◌≡◌, List}
use Rattle.vmod_host.specs.declared.signature.Stored.{Stored}
use Rattle.vcl_program.specs.declared.compiled.Compiled.{Compiled}
use Rattle.vcl_meaning.specs.Meaning.{NeverStuck}

pub record IsRunnable (stored : List Stored) (program : Compiled) : Type 0 where
  pub functions : program.program.stored ≡ stored
  pub sure : NeverStuck program.program.tree.items program.program.stored
