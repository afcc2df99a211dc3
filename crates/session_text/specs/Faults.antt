-- What can be wrong with a line of a session.
use Rattle.std.specs.Prelude.{ℕ}
use Rattle.session_text.specs.declared.session.FaultKind.{FaultKind}
use Rattle.session_text.specs.declared.session.FaultKind.TheVariants.{Word, Unknown, Argument, Moment, NoEnd, After}

-- the numbers by which faults are told
abbrev pub kind_number : FaultKind → ℕ
kind_number Word = 1
kind_number Unknown = 2
kind_number Argument = 3
kind_number Moment = 4
kind_number NoEnd = 5
kind_number After = 6
