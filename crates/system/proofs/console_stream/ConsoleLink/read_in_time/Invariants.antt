-- Reads that gave nothing changed no count, and the connection stands.
use Rattle.std.proofs.Common.{◌≡◌}
use Rattle.system.proofs.console_stream.ConsoleLink.read_in_time.Given as goal

abbrev pub invariant-loop : goal.invariant-loop
invariant-loop g l = record {
  reads : l.self.read_faults ≡ l.fn.self.read_faults;
  writes : l.self.write_faults ≡ l.fn.self.write_faults;
  address : l.self.address ≡ l.fn.self.address;
  is_open : l.self.is_open ≡ l.fn.self.is_open;
}
