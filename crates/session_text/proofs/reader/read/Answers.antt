use Rattle.session_text.proofs.Meanings.{answers_session, answers_fault}
use Rattle.session_text.proofs.reader.read.Goals as goal

pub returns-clause-only_session : goal.returns-clause-only_session
returns-clause-only_session c = λ s h. answers_session c.args.bytes.now s c.read_lines.result c.read_lines.ensures.session c.read_lines.ensures.error h

pub returns-clause-only_fault : goal.returns-clause-only_fault
returns-clause-only_fault c = λ line kind h. answers_fault c.args.bytes.now line kind c.read_lines.result c.read_lines.ensures.session c.read_lines.ensures.error h
