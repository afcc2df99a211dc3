use Rattle.std.proofs.Common.{◌≡◌, ◌++◌, drop, map}
use Rattle.std.specs.List.{list_any}
use Rattle.probe_window.specs.Boards.{begun, has_no_window}
use Rattle.probe_window.proofs.board.Board.of.Given as goal

-- what is left of the probes
abbrev pub invariant-loop-probe : goal.invariant-loop-probe
invariant-loop-probe l = record {
  begun : l.watched.items ++ map begun (drop l.probe-index l.probes) ≡ map begun l.probes;
  any : list_any has_no_window (drop l.probe-index l.probes) ≡ list_any has_no_window l.probes;
}
