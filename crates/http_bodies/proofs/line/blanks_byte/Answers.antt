-- The classes of the byte.
use Rattle.std.proofs.Common.{◌≡◌, ◌-◌, inl, inr, true, false, refl, sym, subst, arith}
use Rattle.httparse.specs.Grammar.{is_ows}
use Rattle.http_bodies.specs.declared.place.Place.TheVariants.{Line}
use Rattle.http_bodies.specs.declared.place.LinePart.TheVariants.{Blanks, Extension, LineFeed}
use Rattle.http_bodies.specs.Places.{IsNext}
use Rattle.http_bodies.proofs.LineFacts.{blanks_return, blanks_more, blanks_semicolon, blanks_none}
use Rattle.http_bodies.proofs.line.blanks_byte.Goals as goal

pub returns-then-byte-eq13-clause-next : goal.returns-then-byte-eq13-clause-next
returns-then-byte-eq13-clause-next c =
    subst (λ b. IsNext (Blanks c.args.size c.args.left c.args.spare) b (Line (LineFeed c.args.size c.args.spare))) (sym c.if-byte-eq13.true)
    (blanks_return c.args.size c.args.left c.args.spare c.requires.waits)

pub returns-then-is_full-clause-refused : goal.returns-then-is_full-clause-refused
returns-then-is_full-clause-refused c =
    inl (refl, blanks_none c.args.size c.args.left c.args.spare c.args.byte c.if-byte-eq13.false (inl (c.if-is_full.ensures.full refl)))

pub returns-then-is_space_or_tab-clause-next : goal.returns-then-is_space_or_tab-clause-next
returns-then-is_space_or_tab-clause-next c =
    let blank : is_ows c.args.byte ≡ true = sym c.if-is_space_or_tab.ensures in
    blanks_more c.args.size c.args.left c.args.spare c.args.byte blank (omega (arith, c.requires.waits)) (c.if-is_full.ensures.open refl).1

pub returns-then-byte-eq59-clause-next : goal.returns-then-byte-eq59-clause-next
returns-then-byte-eq59-clause-next c =
    subst (λ b. IsNext (Blanks c.args.size c.args.left c.args.spare) b (Line (Extension c.args.size (c.args.left - 1) (c.args.spare - 1)))) (sym c.if-byte-eq59.true)
    (blanks_semicolon c.args.size c.args.left c.args.spare (omega (arith, c.requires.waits)) (c.if-is_full.ensures.open refl).1)

pub returns-clause-refused : goal.returns-clause-refused
returns-clause-refused c =
    let blank : is_ows c.args.byte ≡ false = sym c.if-is_space_or_tab.ensures in
    inl (refl, blanks_none c.args.size c.args.left c.args.spare c.args.byte c.if-byte-eq13.false (inr (blank, c.if-byte-eq59.false)))
