-- The chunks behind the line feed.
use Rattle.std.proofs.Common.{◌≡◌, List, ℕ, refl, sym, subst}
use Rattle.http_bodies.specs.Bodies.{IsChunked}
use Rattle.http_bodies.specs.declared.place.Place.TheVariants.{Line}
use Rattle.http_bodies.specs.declared.place.LinePart.TheVariants.{Size, DataFeed}
use Rattle.http_bodies.specs.Places.{IsNext}
use Rattle.http_bodies.proofs.LineFacts.{chunks_left}
use Rattle.http_bodies.proofs.line.data_feed_byte.Goals as goal

pub returns-clause-next : goal.returns-clause-next
returns-clause-next c =
    let feed : IsNext (DataFeed c.args.spare) 10 (Line (Size 0 0 c.args.spare)) = λ text added. (
      λ left. (text, refl, (chunks_left c.args.spare text added).0 left),
      λ left.
          let same : left.0 ≡ text = cc in
          (chunks_left c.args.spare text added).1 (subst (λ (t : List ℕ). IsChunked c.args.spare t added) same left.2),
    ) in
    subst (λ b. IsNext (DataFeed c.args.spare) b (Line (Size 0 0 c.args.spare))) (sym c.if-byte-ne10.false) feed
