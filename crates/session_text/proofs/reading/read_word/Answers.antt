use Rattle.std.proofs.Common.{refl}
use mathlib.Core.Logic.{inl}
use Rattle.session_text.proofs.Words.{unknown}
use Rattle.session_text.proofs.reading.read_word.Goals as goal

pub returns-in-None : goal.returns-in-None
returns-in-None c = unknown c.args.word.now c.args.word.now c.requires.some (c.requires.word, inl refl) c.in-None.ensures
