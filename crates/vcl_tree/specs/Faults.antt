-- The order of faults of a text: by place, and at one place by the refusal's number.
use Rattle.std.specs.Prelude.{Bool, ◌||◌, ◌&&◌, ◌==◌, nat_lt}
use Rattle.vcl_tree.specs.Numbers.{number_of}
use Rattle.vcl_tree.specs.declared.error.Fault.{Fault}

abbrev pub comes_before : Fault → Fault → Bool
comes_before a b = nat_lt a.place b.place || (a.place == b.place && nat_lt (number_of a.kind) (number_of b.kind))
