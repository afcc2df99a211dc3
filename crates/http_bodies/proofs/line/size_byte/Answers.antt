-- No digit: what stands behind the digits.
use Rattle.std.proofs.Common.{◌≡◌, ◌-◌, inl, ◌∷◌, false, refl, sym, subst, arith}
use Rattle.std.specs.Char.{is_ascii_hexdigit}
use Rattle.http_bodies.specs.declared.place.LinePart.TheVariants.{Size, Blanks}
use Rattle.http_bodies.specs.Reading.{LineLeft}
use Rattle.http_bodies.proofs.LineFacts.{size_none, size_other}
use Rattle.http_bodies.proofs.PlaceFacts.{next_by, refusal_by}
use Rattle.http_bodies.proofs.line.size_byte.Goals as goal

pub returns-then-digits-eq0-clause-refused : goal.returns-then-digits-eq0-clause-refused
returns-then-digits-eq0-clause-refused c =
    let other : is_ascii_hexdigit c.args.byte ≡ false = sym c.in-None.ensures.found in
    inl (refl, λ text added left. size_none c.args.size c.args.spare c.args.byte other text added (subst (λ n. LineLeft (Size n c.args.size c.args.spare) (c.args.byte ∷ text) added) c.if-digits-eq0.true left))

pub returns-else-digits-eq0-clause-next : goal.returns-else-digits-eq0-clause-next
returns-else-digits-eq0-clause-next c =
    let other : is_ascii_hexdigit c.args.byte ≡ false = sym c.in-None.ensures.found in
    next_by (Blanks c.args.size (32768 - c.args.digits) c.args.spare) (Size c.args.digits c.args.size c.args.spare) c.args.byte c.blanks_byte.result
    (size_other c.args.digits c.args.size c.args.spare c.args.byte other (omega (arith, c.if-digits-eq0.false)) c.requires.waits.0) c.blanks_byte.ensures.next

pub returns-else-digits-eq0-clause-refused : goal.returns-else-digits-eq0-clause-refused
returns-else-digits-eq0-clause-refused c =
    let other : is_ascii_hexdigit c.args.byte ≡ false = sym c.in-None.ensures.found in
    refusal_by (Blanks c.args.size (32768 - c.args.digits) c.args.spare) (Size c.args.digits c.args.size c.args.spare) c.args.byte c.args.room c.blanks_byte.result
    (size_other c.args.digits c.args.size c.args.spare c.args.byte other (omega (arith, c.if-digits-eq0.false)) c.requires.waits.0) c.blanks_byte.ensures.refused
