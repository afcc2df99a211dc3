-- What the reader told of the input.
use Rattle.std.proofs.Common.{inl, inr, length, List, ℕ, refl, sym, ap, subst, Ok, Err}
use Rattle.http_bodies.proofs.Fronts.{none_made}
use Rattle.measure.specs.Tasks.{HasBody}
use Rattle.measure.proofs.Pieces.{body_counted, same_count, not_broken, not_early, not_refused_later, memory_alone}
use Rattle.measure.proofs.count.body_bytes.Goals as goal

pub returns-in-Err-clause-found : goal.returns-in-Err-clause-found
returns-in-Err-clause-found c n has =
    memory_alone _ c.counted_error.result c.in-Err.error n refl c.counted_error.ensures
    (λ other. not_broken c.args.framing c.of-reader.result c.args.input.now n c.in-Err.error c.of-reader.ensures.starts has (c.in-Err.ensures.refused other))

pub returns-in-Ok-clause-given : goal.returns-in-Ok-clause-given
returns-in-Ok-clause-given c =
    let fed = c.in_default.ensures in
    subst (λ (bytes : List ℕ). HasBody c.args.framing c.args.input.now (length bytes)) (sym c.bytes.ensures)
    (body_counted c.args.framing c.of-reader.result c.feed_pieces.new.reader c.args.input.now c.in-Ok.body c.in_default.field-0 c.of-reader.ensures.starts
    fed.taken.0 fed.taken.1 fed.end c.in-Ok.ensures.whole)

pub returns-in-Ok-clause-found : goal.returns-in-Ok-clause-found
returns-in-Ok-clause-found c n has =
    let fed = c.in_default.ensures in
    let given = body_counted c.args.framing c.of-reader.result c.feed_pieces.new.reader c.args.input.now c.in-Ok.body c.in_default.field-0 c.of-reader.ensures.starts
    fed.taken.0 fed.taken.1 fed.end c.in-Ok.ensures.whole in
    let here = subst (λ (bytes : List ℕ). HasBody c.args.framing c.args.input.now (length bytes)) (sym c.bytes.ensures) given in
    inl (ap Ok (same_count c.args.framing c.args.input.now (length c.bytes.result.now) n here has))

pub returns-in-Err-finish-clause-found : goal.returns-in-Err-finish-clause-found
returns-in-Err-finish-clause-found c n has =
    let fed = c.in_default.ensures in
    let error = c.in-Err-finish.error in
    memory_alone _ c.counted_error-in-Err-finish.result c.in-Err-finish.error n refl c.counted_error-in-Err-finish.ensures
    (λ other. elim c.in-Err-finish.ensures.kinds [
      | inl early ↦ not_early c.args.framing c.of-reader.result c.feed_pieces.new.reader c.args.input.now c.in_default.field-0 n c.of-reader.ensures.starts
          fed.taken.0 fed.taken.1 fed.end (c.in-Err-finish.ensures.early (ap Err early))
          (λ body makes. none_made _ error body refl other (c.in-Err-finish.ensures.found body makes)) has
      | inr more ↦ elim more [
        | inl memory ↦ other memory
        | inr refused ↦ not_refused_later c.args.framing c.of-reader.result c.feed_pieces.new.reader c.args.input.now n error c.of-reader.ensures.starts has fed.kept refused
      ]
    ])
