use Rattle.std.proofs.Common.{ap, ◌∙◌, List, ℕ}
use Rattle.session_text.specs.declared.session.Session.{Session}
use Rattle.session_text.specs.declared.session.NumberedLine.{NumberedLine}
use Rattle.session_text.specs.Lines.{lines_of}
use Rattle.session_text.specs.Sessions.{first_place}
use Rattle.session_text.proofs.Meanings.{reads_same, fails_same, not_both, not_neither}
use Rattle.session_text.proofs.Going.{stops_at, end_makes, end_made}
use Rattle.session_text.proofs.laws.one_meaning.Goals as goal

abbrev session : List NumberedLine → ℕ → Session
session lines end = record { lines = lines; end = end }

pub returns : goal.returns
returns c =
    let all = lines_of c.args.text.now in
    record {
      one_session = λ s t h k.
          let same = reads_same all first_place s.lines t.lines s.end t.end h k in
          ap (λ v. session v s.end) same.0 ∙ ap (session t.lines) same.1;
      one_fault = λ x y a b h k. fails_same all first_place x y a b h k;
      not_both = λ s x a h k. not_both all first_place s.lines s.end x a h k;
      stops = λ x a other fault. stops_at c.args.text.now x a other fault;
      no_end = λ x whole room. (end_makes c.args.text.now x whole room, end_made c.args.text.now x whole);
      not_neither = λ r f. not_neither all first_place (λ v x h. r (session v x) h) f;
    }
