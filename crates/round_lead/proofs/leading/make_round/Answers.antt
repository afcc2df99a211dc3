-- What is kept of a round, from its Begin to its End.
use Rattle.std.proofs.Common.{sym, ◌∙◌}
use Rattle.cache_law.specs.declared.call.Call.TheVariants.{End}
use Rattle.vcl_runs.specs.Languages.{language_of}
use Rattle.turnstile.specs.Handles.{known}
use Rattle.round_lead.specs.Steps.{stood}
use Rattle.round_lead.proofs.Did.{did_call}
use Rattle.round_lead.proofs.Going.{begin_unwritten}
use Rattle.round_lead.proofs.Responses.{led_by, clock_by, led_none}
use Rattle.wire.specs.Telling.{told_by, dialer_told_by}
use Rattle.round_lead.proofs.leading.make_round.Goals as goal

pub returns-in-Ok-clause-led : goal.returns-in-Ok-clause-led
returns-in-Ok-clause-led g c =
    let flow = (told_by g.D.Link.Link.flow g.D.Link.Link.read_faults g.D.Link.Link.write_faults g.D.Link.Link.peer g.D.Link.Link.is_open) in
    let over = g.L.Link.flow c.args.link.now in
    let over' = g.L.Link.flow c.go_on-led.new.link in
    let dialer' = dialer_told_by g.D.Dialer.talks g.D.Dialer.dial_faults c.go_on-led.new.shift.kit.dialer in
    let first = c.requires.first in
    rw c.answered.ensures (led_by (language_of g.P.Programs.of_text g.M.Runner.turns g.M.Runner.targets g.M.Runner.default_of g.P.Programs.backends) flow c.args.request c.args.peer
    (stood g.D.Dialer.talks g.D.Dialer.dial_faults g.K.Clock.readings g.K.Clock.words c.args.shift.now over c.args.progress.now)
    (stood g.D.Dialer.talks g.D.Dialer.dial_faults g.K.Clock.readings g.K.Clock.words c.begin.new.shift over c.begin.new.progress)
    (stood g.D.Dialer.talks g.D.Dialer.dial_faults g.K.Clock.readings g.K.Clock.words c.go_on-led.new.shift over' c.go_on-led.new.progress) (known c.close.new.pass) over'
    (g.K.Clock.readings c.close.new.clock) (g.K.Clock.words c.close.new.clock) dialer' c.close.new.progress c.in-Ok.told c.close.ensures.made.0 c.requires.legal.beginning
    (record {
      begins = c.requires.legal.begins;
      no_place = first.no_place;
      no_exchange = first.no_exchange;
      no_byte = first.nothing_sent;
      stays = first.stays;
      opened = c.in-Ok.ensures.began over;
      shut = λ backends. did_call flow backends over' dialer' (known c.go_on-led.new.shift.pass) (known c.close.new.pass) (g.K.Clock.readings c.go_on-led.new.shift.kit.clock)
          (g.K.Clock.readings c.close.new.clock) (g.K.Clock.words c.go_on-led.new.shift.kit.clock) (g.K.Clock.words c.close.new.clock) c.go_on-led.new.progress c.close.new.progress End
          c.close.ensures.made.0 c.close.ensures.words c.close.ensures.made.1;
    }) c.go_on-led.result c.go_on-led.ensures.whole c.go_on-led.ensures.cut).0

pub returns-in-Ok-clause-moves : goal.returns-in-Ok-clause-moves
returns-in-Ok-clause-moves g c =
    let flow = (told_by g.D.Link.Link.flow g.D.Link.Link.read_faults g.D.Link.Link.write_faults g.D.Link.Link.peer g.D.Link.Link.is_open) in
    let over = g.L.Link.flow c.args.link.now in
    let over' = g.L.Link.flow c.go_on-led.new.link in
    let dialer' = dialer_told_by g.D.Dialer.talks g.D.Dialer.dial_faults c.go_on-led.new.shift.kit.dialer in
    let first = c.requires.first in
    (led_by (language_of g.P.Programs.of_text g.M.Runner.turns g.M.Runner.targets g.M.Runner.default_of g.P.Programs.backends) flow c.args.request c.args.peer
    (stood g.D.Dialer.talks g.D.Dialer.dial_faults g.K.Clock.readings g.K.Clock.words c.args.shift.now over c.args.progress.now)
    (stood g.D.Dialer.talks g.D.Dialer.dial_faults g.K.Clock.readings g.K.Clock.words c.begin.new.shift over c.begin.new.progress)
    (stood g.D.Dialer.talks g.D.Dialer.dial_faults g.K.Clock.readings g.K.Clock.words c.go_on-led.new.shift over' c.go_on-led.new.progress) (known c.close.new.pass) over'
    (g.K.Clock.readings c.close.new.clock) (g.K.Clock.words c.close.new.clock) dialer' c.close.new.progress c.in-Ok.told c.close.ensures.made.0 c.requires.legal.beginning
    (record {
      begins = c.requires.legal.begins;
      no_place = first.no_place;
      no_exchange = first.no_exchange;
      no_byte = first.nothing_sent;
      stays = first.stays;
      opened = c.in-Ok.ensures.began over;
      shut = λ backends. did_call flow backends over' dialer' (known c.go_on-led.new.shift.pass) (known c.close.new.pass) (g.K.Clock.readings c.go_on-led.new.shift.kit.clock)
          (g.K.Clock.readings c.close.new.clock) (g.K.Clock.words c.go_on-led.new.shift.kit.clock) (g.K.Clock.words c.close.new.clock) c.go_on-led.new.progress c.close.new.progress End
          c.close.ensures.made.0 c.close.ensures.words c.close.ensures.made.1;
    }) c.go_on-led.result c.go_on-led.ensures.whole c.go_on-led.ensures.cut).1

pub returns-in-Ok-clause-clock : goal.returns-in-Ok-clause-clock
returns-in-Ok-clause-clock g c =
    let flow = (told_by g.D.Link.Link.flow g.D.Link.Link.read_faults g.D.Link.Link.write_faults g.D.Link.Link.peer g.D.Link.Link.is_open) in
    let over = g.L.Link.flow c.args.link.now in
    let over' = g.L.Link.flow c.go_on-led.new.link in
    let dialer' = dialer_told_by g.D.Dialer.talks g.D.Dialer.dial_faults c.go_on-led.new.shift.kit.dialer in
    let first = c.requires.first in
    clock_by (language_of g.P.Programs.of_text g.M.Runner.turns g.M.Runner.targets g.M.Runner.default_of g.P.Programs.backends) flow c.args.request c.args.peer
    (stood g.D.Dialer.talks g.D.Dialer.dial_faults g.K.Clock.readings g.K.Clock.words c.args.shift.now over c.args.progress.now)
    (stood g.D.Dialer.talks g.D.Dialer.dial_faults g.K.Clock.readings g.K.Clock.words c.begin.new.shift over c.begin.new.progress)
    (stood g.D.Dialer.talks g.D.Dialer.dial_faults g.K.Clock.readings g.K.Clock.words c.go_on-led.new.shift over' c.go_on-led.new.progress) (known c.close.new.pass) over'
    (g.K.Clock.readings c.close.new.clock) (g.K.Clock.words c.close.new.clock) dialer' c.close.new.progress c.in-Ok.told c.close.ensures.made.0 c.requires.legal.beginning
    (record {
      begins = c.requires.legal.begins;
      no_place = first.no_place;
      no_exchange = first.no_exchange;
      no_byte = first.nothing_sent;
      stays = first.stays;
      opened = c.in-Ok.ensures.began over;
      shut = λ backends. did_call flow backends over' dialer' (known c.go_on-led.new.shift.pass) (known c.close.new.pass) (g.K.Clock.readings c.go_on-led.new.shift.kit.clock)
          (g.K.Clock.readings c.close.new.clock) (g.K.Clock.words c.go_on-led.new.shift.kit.clock) (g.K.Clock.words c.close.new.clock) c.go_on-led.new.progress c.close.new.progress End
          c.close.ensures.made.0 c.close.ensures.words c.close.ensures.made.1;
    }) c.go_on-led.result c.go_on-led.ensures.whole c.go_on-led.ensures.cut

pub returns-in-Err-clause-led : goal.returns-in-Err-clause-led
returns-in-Err-clause-led g c =
    let over = g.L.Link.flow c.args.link.now in
    let first = c.requires.first in
    rw c.ended_by.ensures (led_none (language_of g.P.Programs.of_text g.M.Runner.turns g.M.Runner.targets g.M.Runner.default_of g.P.Programs.backends) (told_by g.D.Link.Link.flow g.D.Link.Link.read_faults g.D.Link.Link.write_faults g.D.Link.Link.peer g.D.Link.Link.is_open)
    c.args.request c.args.peer (stood g.D.Dialer.talks g.D.Dialer.dial_faults g.K.Clock.readings g.K.Clock.words c.args.shift.now over c.args.progress.now) (known c.begin.new.shift.pass) over
    (g.K.Clock.readings c.begin.new.shift.kit.clock) (g.K.Clock.words c.begin.new.shift.kit.clock) (dialer_told_by g.D.Dialer.talks g.D.Dialer.dial_faults c.begin.new.shift.kit.dialer) c.begin.new.progress
    c.requires.legal.beginning c.in-Err.cut c.requires.legal.begins first.no_place first.no_exchange first.nothing_sent first.stays (c.in-Err.ensures.began over)).0

pub returns-in-Err-clause-moves : goal.returns-in-Err-clause-moves
returns-in-Err-clause-moves g c =
    let over = g.L.Link.flow c.args.link.now in
    let first = c.requires.first in
    (led_none (language_of g.P.Programs.of_text g.M.Runner.turns g.M.Runner.targets g.M.Runner.default_of g.P.Programs.backends) (told_by g.D.Link.Link.flow g.D.Link.Link.read_faults g.D.Link.Link.write_faults g.D.Link.Link.peer g.D.Link.Link.is_open)
    c.args.request c.args.peer (stood g.D.Dialer.talks g.D.Dialer.dial_faults g.K.Clock.readings g.K.Clock.words c.args.shift.now over c.args.progress.now) (known c.begin.new.shift.pass) over
    (g.K.Clock.readings c.begin.new.shift.kit.clock) (g.K.Clock.words c.begin.new.shift.kit.clock) (dialer_told_by g.D.Dialer.talks g.D.Dialer.dial_faults c.begin.new.shift.kit.dialer) c.begin.new.progress
    c.requires.legal.beginning c.in-Err.cut c.requires.legal.begins first.no_place first.no_exchange first.nothing_sent first.stays (c.in-Err.ensures.began over)).1

pub returns-in-Err-clause-clock : goal.returns-in-Err-clause-clock
returns-in-Err-clause-clock g c =
    let over = g.L.Link.flow c.args.link.now in
    let first = c.requires.first in
    (led_none (language_of g.P.Programs.of_text g.M.Runner.turns g.M.Runner.targets g.M.Runner.default_of g.P.Programs.backends) (told_by g.D.Link.Link.flow g.D.Link.Link.read_faults g.D.Link.Link.write_faults g.D.Link.Link.peer g.D.Link.Link.is_open)
    c.args.request c.args.peer (stood g.D.Dialer.talks g.D.Dialer.dial_faults g.K.Clock.readings g.K.Clock.words c.args.shift.now over c.args.progress.now) (known c.begin.new.shift.pass) over
    (g.K.Clock.readings c.begin.new.shift.kit.clock) (g.K.Clock.words c.begin.new.shift.kit.clock) (dialer_told_by g.D.Dialer.talks g.D.Dialer.dial_faults c.begin.new.shift.kit.dialer) c.begin.new.progress
    c.requires.legal.beginning c.in-Err.cut c.requires.legal.begins first.no_place first.no_exchange first.nothing_sent first.stays (c.in-Err.ensures.began over)).2

pub returns-in-Err-clause-failed : goal.returns-in-Err-clause-failed
returns-in-Err-clause-failed g c = λ is.
    let over = g.L.Link.flow c.args.link.now in
    absurd (begin_unwritten (told_by g.D.Link.Link.flow g.D.Link.Link.read_faults g.D.Link.Link.write_faults g.D.Link.Link.peer g.D.Link.Link.is_open) (stood g.D.Dialer.talks g.D.Dialer.dial_faults g.K.Clock.readings g.K.Clock.words c.args.shift.now over c.args.progress.now)
    (stood g.D.Dialer.talks g.D.Dialer.dial_faults g.K.Clock.readings g.K.Clock.words c.begin.new.shift over c.begin.new.progress) c.in-Err.cut (sym c.ended_by.ensures ∙ is) (c.in-Err.ensures.began over).why)
