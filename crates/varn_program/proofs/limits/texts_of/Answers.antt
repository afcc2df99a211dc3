use Rattle.std.proofs.Common.{sym, subst, IsUtf8}
use Rattle.varn_program.proofs.limits.texts_of.Goals as goal

pub unreachable-requires : goal.unreachable-requires
unreachable-requires c =
    c.in-Err.ensures.cases.0
    (subst IsUtf8 (sym c.bytes.ensures) (subst IsUtf8 (sym c.word-item.is) (c.requires c.loop-word.word-index c.word-item.result c.loop-word-test.true)))
