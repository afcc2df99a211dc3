use Rattle.std.proofs.Common.{length, ap, arith}
use Rattle.std.proofs.lemmas.Bool.{ltb-true}
use Rattle.ban_expr.proofs.Joined.{length-joined}
use Rattle.ban_expr.proofs.reading.is_shaped.Goals as goal

pub returns-then-words : goal.returns-then-words
returns-then-words c = (
  λ r. let a = c.are_clauses.ensures.0 r in
      let count = length-joined a.0 a.1 in
      let same = ap length a.2 in
      (a.0, record { spelled = a.2; some = a.1; few = omega arith }),
  λ m. c.are_clauses.ensures.1 (m.0, m.1.some, m.1.spelled),
)

pub returns-else-words : goal.returns-else-words
returns-else-words c = (
  λ r. absurd (omega (arith, ltb-true (length c.args.words.now) 64 r)),
  λ m. let count = length-joined m.0 m.1.some in
      let same = ap length m.1.spelled in
      absurd (omega (arith, m.1.few)),
)
