-- So many interim replies stand in front of what is held.
use Rattle.std.proofs.Common.{◌≡◌, ◌≤◌, ◌-◌}
use Rattle.message_reader.specs.Inputs.{Hears}
use Rattle.backend_link.specs.Replies.{Behind, interim_limit}
use Rattle.backend_link.proofs.replies.read_final.Given as goal

abbrev pub invariant-passing : goal.invariant-passing
invariant-passing g l = record {
  heard : Hears (g.L.Link.flow l.fn.link) (g.L.Link.flow l.link) l.fn.held (λ input. Behind l.passed input l.held);
  few : l.passed ≤ interim_limit;
  later : g.L.Link.read_faults l.fn.link ≤ g.L.Link.read_faults l.link;
  other : g.L.Link.write_faults l.link ≡ g.L.Link.write_faults l.fn.link;
  peer : g.L.Link.peer l.link ≡ g.L.Link.peer l.fn.link;
}

abbrev pub decreases-passing : goal.decreases-passing
decreases-passing g l = interim_limit - l.passed
