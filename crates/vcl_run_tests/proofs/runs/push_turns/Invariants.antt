use Rattle.vcl_eval.specs.Turns.{Suits, IsSureAt}
use Rattle.vcl_run_tests.proofs.runs.push_turns.Given as goal

abbrev pub invariant-turns : goal.invariant-turns
invariant-turns g l = Suits l.answer l.machine × IsSureAt l.program.code l.functions.stored l.machine
