-- Where a body begins.
use Rattle.std.proofs.Common.{◌≡◌, [], inr, refl, sym, subst, arith}
use Rattle.http_bodies.specs.declared.framing.BodyError.TheVariants.{TooLarge}
use Rattle.http_bodies.specs.declared.framing.Framing.{Framing}
use Rattle.http_bodies.specs.declared.framing.Framing.TheVariants.{Chunked}
use Rattle.http_bodies.specs.declared.place.Place.TheVariants.{Line}
use Rattle.http_bodies.specs.declared.place.LinePart.TheVariants.{Size}
use Rattle.http_bodies.specs.Reading.{Starts, state}
use Rattle.http_bodies.proofs.AnswerFacts.{chunks_end}
use Rattle.http_bodies.proofs.reader.first_place.Goals as goal

pub returns-then-length-limit-clause-sound : goal.returns-then-length-limit-clause-sound
returns-then-length-limit-clause-sound c = record {
  sound = λ open_place. absurd (open_place TooLarge refl);
  fits = omega arith;
  refusal = λ error is. inr (let same : TooLarge ≡ error = cc in sym same);
}

pub returns-in-Chunked-clause-starts : goal.returns-in-Chunked-clause-starts
returns-in-Chunked-clause-starts c =
    let starts : Starts Chunked c.args.limit (state (Line (Size 0 0 32768)) [] c.args.limit) = record {
      limit_is = refl;
      ends = λ none text body. chunks_end c.args.limit text body;
      makes = λ text body. (
        λ m. ((chunks_end c.args.limit text body).0 m.ends, m.within),
        λ b. record { ends = (chunks_end c.args.limit text body).1 b.0; within = b.1 },
      );
      large = λ n is. absurd (cc);
      refused = λ error is. absurd (cc);
    } in
    subst (λ (f : Framing). Starts f c.args.limit (state (Line (Size 0 0 32768)) [] c.args.limit)) (sym c.in-Chunked.is) starts
