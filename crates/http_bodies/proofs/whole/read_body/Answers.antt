-- What the reader told of the text.
use Rattle.std.proofs.Common.{◌≡◌, ◌≢◌, ◌≤◌, inl, inr, ℕ, List, length, sym, ◌∙◌, refl, None, Some}
use Rattle.http_bodies.specs.declared.framing.BodyError.TheVariants.{Early, NoMemory}
use Rattle.http_bodies.specs.Bodies.{BeginsWith}
use Rattle.http_bodies.specs.Reading.{refusal}
use Rattle.http_bodies.specs.Answers.{IsBroken}
use Rattle.http_bodies.proofs.PlaceFacts.{passed_on, passed_back}
use Rattle.http_bodies.proofs.Fronts.{text_found, text_broken, broken_none, text_early, early_none, not_refused, none_made}
use Rattle.http_bodies.proofs.whole.read_body.Goals as goal

pub returns-in_err-count-clause-none : goal.returns-in_err-count-clause-none
returns-in_err-count-clause-none c =
    let error = c.in_err-count.field-0.0 in
    let reader = c.of-reader.result in
    passed_on c.from_residual.result error
    (λ e. e ≢ NoMemory → (body rest : List ℕ) → BeginsWith c.args.framing c.args.text.now body rest → length body ≤ c.args.limit → ⊥) c.from_residual.ensures.1
    (λ other body rest x short. broken_none c.args.framing c.args.limit c.args.text.now body rest error
    (text_broken c.args.framing c.args.limit reader c.args.text.now error c.of-reader.ensures.starts (c.in_err-count.ensures.refused other).1) x short)

pub returns-in_err-count-clause-broken : goal.returns-in_err-count-clause-broken
returns-in_err-count-clause-broken c =
    let error = c.in_err-count.field-0.0 in
    let reader = c.of-reader.result in
    passed_on c.from_residual.result error (λ e. e ≢ Early → e ≢ NoMemory → IsBroken c.args.framing c.args.limit c.args.text.now e) c.from_residual.ensures.1
    (λ late other. text_broken c.args.framing c.args.limit reader c.args.text.now error c.of-reader.ensures.starts (c.in_err-count.ensures.refused other).1)

pub returns-in_err-body-clause-none : goal.returns-in_err-body-clause-none
returns-in_err-body-clause-none c =
    let error = c.in_err-body.field-0.0 in
    let reader = c.of-reader.result in
    let taken = c.in_ok-count.ensures.taken in
    passed_on c.from_residual-in_err-body.result error
    (λ e. e ≢ NoMemory → (body rest : List ℕ) → BeginsWith c.args.framing c.args.text.now body rest → length body ≤ c.args.limit → ⊥) c.from_residual-in_err-body.ensures.1
    (λ other body rest x short. early_none c.args.framing c.args.limit c.in_ok-count.count reader c.feed.new.self c.args.text.now body rest c.of-reader.ensures.starts
    taken.0 taken.1 (λ made makes. none_made _ error made refl other (c.in_err-body.ensures.found made makes)) x short)

pub returns-in_err-body-clause-early : goal.returns-in_err-body-clause-early
returns-in_err-body-clause-early c is =
    let error = c.in_err-body.field-0.0 in
    let reader = c.of-reader.result in
    let taken = c.in_ok-count.ensures.taken in
    let early : c.in_err-body.field-0.0 ≡ Early = passed_back c.from_residual-in_err-body.result error Early c.from_residual-in_err-body.ensures.1 is in
    (text_early c.args.framing c.args.limit c.in_ok-count.count reader c.feed.new.self c.args.text.now c.of-reader.ensures.starts taken.0 taken.1
    (λ made makes. none_made _ error made refl (λ memory. absurd (let never : Early ≡ NoMemory = sym early ∙ memory in cc)) (c.in_err-body.ensures.found made makes))).1

pub returns-in_err-body-clause-broken : goal.returns-in_err-body-clause-broken
returns-in_err-body-clause-broken c =
    let error = c.in_err-body.field-0.0 in
    let taken = c.in_ok-count.ensures.taken in
    let none : refusal c.feed.new.self ≡ None = not_refused c.in_ok-count.count c.of-reader.result c.feed.new.self c.args.text.now taken.0 taken.1 in
    passed_on c.from_residual-in_err-body.result error (λ e. e ≢ Early → e ≢ NoMemory → IsBroken c.args.framing c.args.limit c.args.text.now e) c.from_residual-in_err-body.ensures.1
    (λ late other. elim c.in_err-body.ensures.kinds [
      | inl early ↦ absurd (late early)
      | inr more ↦ elim more [
        | inl memory ↦ absurd (other memory)
        | inr refused ↦ absurd (let never : None ≡ Some c.in_err-body.field-0.0 = sym none ∙ refused in cc)
      ]
    ])

pub returns-clause-found : goal.returns-clause-found
returns-clause-found c =
    text_found c.args.framing c.args.limit c.in_ok-count.count c.of-reader.result c.feed.new.self c.args.text.now c.in_ok-body.body c.of-reader.ensures.starts
    c.in_ok-count.ensures.taken.0 c.in_ok-count.ensures.taken.1 c.in_ok-body.ensures.whole
