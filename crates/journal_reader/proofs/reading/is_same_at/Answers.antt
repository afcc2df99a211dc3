use Rattle.std.proofs.Common.{rules, refl}
use Rattle.journal_reader.proofs.Agreeing.{tell_bytes}
use Rattle.journal_reader.proofs.reading.is_same_at.Goals as goal

pub returns : goal.returns
returns c = tell_bytes c.args.text.now c.args.other.now c.args.place _ (search rules) (search rules) refl
