use Rattle.std.proofs.Common.{◌≡◌, ◌≤◌, drop}
use Rattle.vcl_check.specs.Views.{whole_part}
use Rattle.vcl_check.proofs.views.whole_part.Given as goal

abbrev pub invariant-loop-byte : goal.invariant-loop-byte
invariant-loop-byte l = (whole_part l.number (drop l.byte-index l.digits) ≡ whole_part l.initial.number l.digits) × (l.number ≤ 1001)
