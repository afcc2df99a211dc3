-- Fields frame a body in one way at most.
use Rattle.std.proofs.Common.{◌≡◌, ℕ, ◌<◌, true, List, Option, Some, None, refl, sym, ◌∙◌, arith}
use Rattle.http_heads.specs.declared.fields.Field.{Field}
use Rattle.http_heads.specs.Fields.{count_of, first_value}
use Rattle.http_bodies.specs.declared.framing.Kind.{Kind}
use Rattle.http_bodies.specs.declared.framing.Kind.TheVariants.{Request, Reply, Interim, NoBody}
use Rattle.http_bodies.specs.declared.framing.Framing.{Framing}
use Rattle.http_bodies.specs.declared.framing.Framing.TheVariants.{Nothing, Length, Chunked, UntilEnd}
use Rattle.http_bodies.specs.Framings.{length_name, length_number, says_length, is_that, Says, Frames}
use Rattle.http_bodies.proofs.LengthFacts.{first_says, none_named, that}

-- two lengths that each field says
one_length : (m n : ℕ) (fields : List Field) → 0 < count_of length_name fields → says_length m fields ≡ true → says_length n fields ≡ true → m ≡ n
one_length m n fields some first second = by_first (first_value length_name fields) refl
  where
    by_number : (value : List ℕ) (number : Option ℕ) → length_number value ≡ number → is_that m number ≡ true → is_that n number ≡ true → m ≡ n
    by_number value None is a b = absurd (cc)
    by_number value (Some k) is a b = that m k a ∙ sym (that n k b)

    by_first : (value : Option (List ℕ)) → value ≡ first_value length_name fields → m ≡ n
    by_first None is = absurd (omega (arith, none_named length_name fields is, some))
    by_first (Some value) is = by_number value (length_number value) refl (first_says m fields value is first) (first_says n fields value is second)

one_saying : (kind : Kind) (fields : List Field) (a b : Framing) → Says kind fields a → Says kind fields b → a ≡ b
one_saying kind fields Nothing Nothing x y = refl
one_saying kind fields Nothing (Length n) x y = absurd (omega (arith, x.0, y.0))
one_saying kind fields Nothing Chunked x y = absurd (omega (arith, x.1, y.1))
one_saying kind fields Nothing UntilEnd x y = sym x.2 ∙ y.2
one_saying kind fields (Length m) Nothing x y = absurd (omega (arith, x.0, y.0))
one_saying kind fields (Length m) (Length n) x y = let same = one_length m n fields x.0 x.2 y.2 in λ i. Length (same i)
one_saying kind fields (Length m) Chunked x y = absurd (omega (arith, x.0, y.0))
one_saying kind fields (Length m) UntilEnd x y = absurd (omega (arith, x.0, y.0))
one_saying kind fields Chunked Nothing x y = absurd (omega (arith, x.1, y.1))
one_saying kind fields Chunked (Length n) x y = absurd (omega (arith, x.0, y.0))
one_saying kind fields Chunked Chunked x y = refl
one_saying kind fields Chunked UntilEnd x y = absurd (omega (arith, x.1, y.1))
one_saying kind fields UntilEnd Nothing x y = sym x.2 ∙ y.2
one_saying kind fields UntilEnd (Length n) x y = absurd (omega (arith, x.0, y.0))
one_saying kind fields UntilEnd Chunked x y = absurd (omega (arith, x.1, y.1))
one_saying kind fields UntilEnd UntilEnd x y = refl

pub one_framing : (kind : Kind) (fields : List Field) (a b : Framing) → Frames kind fields a → Frames kind fields b → a ≡ b
one_framing Request fields a b x y = one_saying Request fields a b x y
one_framing Reply fields a b x y = one_saying Reply fields a b x y
one_framing Interim fields a b x y = x ∙ sym y
one_framing NoBody fields a b x y = x ∙ sym y
