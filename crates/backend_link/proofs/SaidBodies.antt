-- What bytes say of a body is one thing.
use Rattle.std.proofs.Common.{◌≡◌, inl, inr, List, ℕ, Ok, Err, sym, ◌∙◌, ap}
use Rattle.http_bodies.specs.declared.framing.Framing.{Framing}
use Rattle.http_bodies.specs.declared.framing.BodyError.{BodyError}
use Rattle.http_bodies.proofs.Fronts.{one_body, broken_none}
use Rattle.http_heads.specs.declared.message.ResponseHead.{ResponseHead}
use Rattle.message_reader.specs.Causes.{body_stop}
use Rattle.message_reader.proofs.LongerBodies.{ends_unbroken, one_refusal}
use Rattle.backend_link.specs.Replies.{body_limit}
use Rattle.backend_link.specs.Said.{Outcome, SaysBody}

pub one_said : (framing : Framing) (head : ResponseHead) (bytes : List ℕ) (a b : Outcome) → SaysBody framing head bytes a → SaysBody framing head bytes b → a ≡ b
one_said framing head bytes a b (inl x) (inl y) =
    let same = one_body framing bytes x.0 x.1 y.0 y.1 x.3 y.3 in
    let made : List ℕ → Outcome = λ (t : List ℕ). Ok (head, t) in
    x.2 ∙ ap made same.0 ∙ sym y.2
one_said framing head bytes a b (inl x) (inr (inl y)) = absurd (y.2 x.0 x.1 x.3 x.4)
one_said framing head bytes a b (inl x) (inr (inr y)) = absurd (broken_none framing body_limit bytes x.0 x.1 y.0 y.2 x.3 x.4)
one_said framing head bytes a b (inr (inl x)) (inl y) = absurd (x.2 y.0 y.1 y.3 y.4)
one_said framing head bytes a b (inr (inl x)) (inr (inl y)) = x.0 ∙ sym y.0
one_said framing head bytes a b (inr (inl x)) (inr (inr y)) = absurd (ends_unbroken framing body_limit bytes y.0 x.1 y.2)
one_said framing head bytes a b (inr (inr x)) (inl y) = absurd (broken_none framing body_limit bytes y.0 y.1 x.0 x.2 y.3 y.4)
one_said framing head bytes a b (inr (inr x)) (inr (inl y)) = absurd (ends_unbroken framing body_limit bytes x.0 y.1 x.2)
one_said framing head bytes a b (inr (inr x)) (inr (inr y)) =
    let stopped : BodyError → Outcome = λ (e : BodyError). Err (body_stop e) in
    x.1 ∙ ap stopped (one_refusal framing body_limit bytes x.0 y.0 x.2 y.2) ∙ sym y.1
