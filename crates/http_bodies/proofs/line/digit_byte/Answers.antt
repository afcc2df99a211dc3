-- A digit more, one too many, or a size above the room.
use Rattle.std.proofs.Common.{◌≡◌, ℕ, ◌+◌, ◌*◌, inl, inr, ◌∷◌, refl, subst, arith}
use Rattle.std.specs.Char.{digit_value}
use Rattle.http_bodies.specs.declared.place.Place.TheVariants.{Line}
use Rattle.http_bodies.specs.declared.place.LinePart.TheVariants.{Size}
use Rattle.http_bodies.specs.Reading.{LineLeft}
use Rattle.http_bodies.specs.Places.{IsNext}
use Rattle.http_bodies.proofs.LineFacts.{size_digit, size_full, size_least}
use Rattle.http_bodies.proofs.LivingFacts.{line_lives}
use Rattle.http_bodies.proofs.line.digit_byte.Goals as goal

pub returns-then-digits-eq-MAX_DIGITS-clause-refused : goal.returns-then-digits-eq-MAX_DIGITS-clause-refused
returns-then-digits-eq-MAX_DIGITS-clause-refused c =
    inl (
      refl,
      λ text added left. size_full c.args.size c.args.spare c.args.byte c.requires.hex text added
          (subst (λ n. LineLeft (Size n c.args.size c.args.spare) (c.args.byte ∷ text) added) c.if-digits-eq-MAX_DIGITS.true left),
    )

pub returns-then-grown-from-clause-refused : goal.returns-then-grown-from-clause-refused
returns-then-grown-from-clause-refused c =
    let grown = c.args.size * 16 + digit_value c.args.byte in
    let step = size_digit c.args.digits c.args.size c.args.spare c.args.byte c.requires.hex in
    let lives = line_lives (Size (c.args.digits + 1) (c.args.size * 16 + digit_value c.args.byte) c.args.spare) (omega (arith, c.requires.sound.waits.0, c.if-digits-eq-MAX_DIGITS.false), λ none. absurd (omega (arith, none))) in
    inr (
      refl,
      (lives.byte ∷ lives.text, lives.added, (step (lives.byte ∷ lives.text) lives.added).0 lives.left),
      λ text added left. omega (
        arith,
        size_least (c.args.digits + 1) (c.args.size * 16 + digit_value c.args.byte) c.args.spare text added ((step text added).1 left),
        c.if-grown-from.true,
        c.from.ensures,
        c.from-2.ensures,
        c.from-3.ensures,
        c.requires.value,
      ),
    )

pub returns-clause-next : goal.returns-clause-next
returns-clause-next c =
    let is : c.args.size * 16 + digit_value c.args.byte ≡ c.from.result * 16 + c.from-2.result = omega (arith, c.from.ensures, c.from-2.ensures, c.requires.value) in
    subst (λ (n : ℕ). IsNext (Size c.args.digits c.args.size c.args.spare) c.args.byte (Line (Size (c.args.digits + 1) n c.args.spare))) is
    (size_digit c.args.digits c.args.size c.args.spare c.args.byte c.requires.hex)
