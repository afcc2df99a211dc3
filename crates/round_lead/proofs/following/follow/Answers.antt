-- One want more.
use Rattle.std.proofs.Common.{arith, refl, sym, ◌∙◌}
use Rattle.round_lead.proofs.Onward.{goes_none, goes_then, stops_then, last_is}
use Rattle.round_lead.proofs.following.follow.Goals as goal

pub wants-init : goal.wants-init
wants-init g c = record {
  pass = c.requires.pass;
  opened = c.requires.opened;
  is_open = c.requires.is_open;
  room = c.requires.room;
  may = c.requires.may;
  goes = goes_none _ _ _ _ _ _ _ _;
  later = omega arith;
  other = refl;
  peer = refl;
}

pub wants-preserved : goal.wants-preserved
wants-preserved g c = record {
  pass = c.in-Ok.ensures.pass;
  opened = c.in-Ok.ensures.opened;
  is_open = c.in-Ok.ensures.is_open;
  room = c.in-Ok.ensures.room;
  may = c.in-Ok.ensures.may;
  goes = goes_then _ _ _ _ _ _ _ _ _ _ _ _ _ _ c.wants.invariant.goes c.in-Ok.ensures.goes;
  later = omega (arith, c.wants.invariant.later, c.in-Ok.ensures.later);
  other = c.in-Ok.ensures.other ∙ c.wants.invariant.other;
  peer = c.in-Ok.ensures.peer ∙ c.wants.invariant.peer;
}

pub returns-in-Err-clause-stops : goal.returns-in-Err-clause-stops
returns-in-Err-clause-stops g c = stops_then _ _ _ _ _ _ _ _ _ _ _ _ c.in-Err.cut c.wants.invariant.goes c.in-Err.ensures.stops

pub returns-then-is_end-clause-whole : goal.returns-then-is_end-clause-whole
returns-then-is_end-clause-whole g c = (c.wants.machine.place, rw (last_is c.wants.want (sym c.is_end.ensures ∙ c.if-is_end.true)) at c.wants.invariant.goes)
