-- No other place is at the end of a body.
use Rattle.std.proofs.Common.{inl, inr, sym, subst, []}
use Rattle.http_bodies.specs.Reading.{ReaderState, Makes, state}
use Rattle.http_bodies.specs.Answers.{HasEndWithin}
use Rattle.http_bodies.proofs.AnswerFacts.{has_end, finished}
use Rattle.http_bodies.proofs.reader.BodyReader.finish.Goals as goal

pub returns-in_default-clause-found : goal.returns-in_default-clause-found
returns-in_default-clause-found c body makes =
    let r = c.self.inside in
    let there : Makes (state c.self.inside.place c.self.inside.kept.items c.self.inside.limit) [] body =
    subst (λ (s : ReaderState). Makes s [] body) (sym c.self.view_is) makes in
    elim (finished r.place r.kept.items r.limit _ (c.self.invariant.sound c.in_default.not-Refused) body there) [
      | inl whole ↦ absurd (c.in_default.not-Whole whole)
      | inr open_end ↦ absurd (c.in_default.not-Open open_end)
    ]

pub returns-in_default-clause-early : goal.returns-in_default-clause-early
returns-in_default-clause-early c is =
    let r = c.self.inside in
    subst (λ (s : ReaderState). HasEndWithin s []) c.self.view_is
    (has_end r.place r.kept.items r.limit (c.self.invariant.sound c.in_default.not-Refused) c.self.invariant.fits)
