-- Each place but the whole body's goes on.
use Rattle.std.proofs.Common.{◌≢◌, ap, ◌∙◌, subst, []}
use Rattle.http_bodies.specs.declared.framing.BodyError.{BodyError}
use Rattle.http_bodies.specs.declared.place.Place.TheVariants.{Refused}
use Rattle.http_bodies.specs.Reading.{ReaderState, refusal}
use Rattle.http_bodies.specs.Answers.{GoesOn}
use Rattle.http_bodies.proofs.PlaceFacts.{open_place}
use Rattle.http_bodies.proofs.AnswerFacts.{goes_on}
use Rattle.http_bodies.proofs.reader.BodyReader.done.Goals as goal

pub returns-in_default-clause-over : goal.returns-in_default-clause-over
returns-in_default-clause-over c none =
    let r = c.self.inside in
    let open_inside : (error : BodyError) → c.self.inside.place ≢ Refused error =
    open_place c.self.inside.place (ap refusal c.self.view_is ∙ none) in
    let goes : GoesOn c.args.self.now [] = subst (λ (s : ReaderState). GoesOn s []) c.self.view_is
    (goes_on r.place r.kept.items r.limit _ (c.self.invariant.sound open_inside) c.in_default.not-Whole) in
    (λ never. absurd (let no : ⊥ = cc in no), λ over. absurd (over goes))
