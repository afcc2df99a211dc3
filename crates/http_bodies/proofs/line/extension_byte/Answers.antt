-- The classes of the byte.
use Rattle.std.proofs.Common.{◌≡◌, true, refl, sym, subst, arith}
use Rattle.std.proofs.lemmas.Bool.Decides.{nat_tests}
use Rattle.httparse.specs.Grammar.{is_extension_byte}
use Rattle.http_bodies.specs.declared.place.Place.TheVariants.{Line}
use Rattle.http_bodies.specs.declared.place.LinePart.TheVariants.{Extension, LineFeed}
use Rattle.http_bodies.specs.Places.{IsNext}
use Rattle.http_bodies.proofs.LineFacts.{extension_return, extension_more}
use Rattle.http_bodies.proofs.line.extension_byte.Goals as goal

pub returns-then-byte-eq13-clause-next : goal.returns-then-byte-eq13-clause-next
returns-then-byte-eq13-clause-next c =
    subst (λ b. IsNext (Extension c.args.size c.args.left c.args.spare) b (Line (LineFeed c.args.size c.args.spare))) (sym c.if-byte-eq13.true)
    (extension_return c.args.size c.args.left c.args.spare c.requires.waits)

pub returns-clause-next : goal.returns-clause-next
returns-clause-next c =
    let passes : is_extension_byte c.args.byte ≡ true =
    let not_return = c.if-byte-eq13.false in
    let not_feed = c.if-byte-eq10.false in
    grind (arith, nat_tests) in
    extension_more c.args.size c.args.left c.args.spare c.args.byte passes (omega (arith, c.requires.waits)) (c.if-is_full.ensures.open refl).1
