-- At each place of a line something may still come, which adds just what is due.
use Rattle.std.proofs.Common.{◌≡◌, ℕ, zero, suc, ◌-◌, ◌≤◌, inl, inr, List, [], ◌∷◌, ◌++◌, length, replicate, refl, sym, subst, arith, length-append, None}
use Rattle.std.proofs.lemmas.List.{length-replicate}
use Rattle.std.specs.Char.{is_ascii_hexdigit}
use Rattle.httparse.specs.Grammar.{is_ows, is_token_byte, is_value_byte, is_extension_byte}
use Rattle.httparse.specs.Grammar.LineEnd.{lf}
use Rattle.http_bodies.specs.Bodies.{IsTrailer, IsChunked}
use Rattle.http_bodies.specs.Rests.{DataRest, BehindLine, BlanksRest, SectionRest, ValueRest}
use Rattle.http_bodies.specs.declared.place.LinePart.{LinePart}
use Rattle.http_bodies.specs.declared.place.LinePart.TheVariants.{Size, Blanks, Extension, LineFeed, DataReturn, DataFeed, TrailerLine, FieldName, FieldValue, FieldFeed, LastFeed}
use Rattle.http_bodies.specs.Reading.{LineLeft}
use Rattle.http_bodies.specs.Places.{LineWaits, line_due}
use Rattle.http_bodies.proofs.ByteFacts.{pass_nil}
use Rattle.http_bodies.proofs.LineFacts.{chunks_left, size_digit}

no_fields : (most : ℕ) → SectionRest most (10 ∷ [])
no_fields most = record { fields = []; last = lf; reads = refl; each = λ k d lt. absurd (omega (arith, lt)); few = omega arith }

trailer : IsTrailer (10 ∷ [])
trailer = record { fields = []; last = lf; reads = ((λ k d lt. absurd (omega (arith, lt))), refl); few = omega arith; short = omega arith }

-- the end of a chunk's line, where the size is 0
zero_line : (spare : ℕ) → LineLeft (Size 1 0 spare) (13 ∷ 10 ∷ 10 ∷ []) []
zero_line spare = record {
  more = [];
  rest = 13 ∷ 10 ∷ 10 ∷ [];
  reads = refl;
  hex = pass_nil is_ascii_hexdigit;
  some = omega arith;
  few = omega arith;
  left = 32767;
  total = omega arith;
  line = record {
    pad = [];
    extension = None;
    rest = 10 ∷ [];
    reads = refl;
    blanks = pass_nil is_ows;
    plain = tt;
    short = omega arith;
    later = spare;
    spends = omega arith;
    behind = inl (refl, trailer, refl);
  };
}

pub last_chunk : (spare : ℕ) → IsChunked spare (48 ∷ 13 ∷ 10 ∷ 10 ∷ []) []
last_chunk spare = (chunks_left spare (48 ∷ 13 ∷ 10 ∷ 10 ∷ []) []).0 ((size_digit 0 0 spare 48 refl (13 ∷ 10 ∷ 10 ∷ []) []).0 (zero_line spare))

pub zeros : ℕ → List ℕ
zeros n = replicate n 0

pub zeros_length : (n : ℕ) → length (zeros n) ≡ n
unfolding zeros
zeros_length n = length-replicate n 0

-- so many bytes of data and the last chunk
pub data_lives : (n spare : ℕ) → DataRest n spare (zeros n ++ 13 ∷ 10 ∷ 48 ∷ 13 ∷ 10 ∷ 10 ∷ []) (zeros n ++ [])
data_lives n spare = (zeros n, 48 ∷ 13 ∷ 10 ∷ 10 ∷ [], [], refl, zeros_length n, last_chunk spare, refl)

pub behind_lives : (size spare : ℕ) → (text : List ℕ) × (added : List ℕ) × BehindLine size spare text added × (length added ≡ size)
behind_lives zero spare = (10 ∷ [], [], inl (refl, trailer, refl), refl)
behind_lives (suc n) spare = (
  zeros (suc n) ++ 13 ∷ 10 ∷ 48 ∷ 13 ∷ 10 ∷ 10 ∷ [],
  zeros (suc n) ++ [],
  inr (omega arith, data_lives (suc n) spare),
  omega (arith, length-append (zeros (suc n)) [], zeros_length (suc n)),
)

pub record Lives (part : LinePart) : Type 0 where
  pub byte : ℕ
  pub text : List ℕ
  pub added : List ℕ
  pub left : LineLeft part (byte ∷ text) added
  pub size : length added ≡ line_due part

empty_value : (most : ℕ) → ValueRest most (10 ∷ 10 ∷ [])
empty_value most = record { raw = []; last = lf; rest = 10 ∷ []; reads = refl; plain = pass_nil is_value_byte; section = no_fields most }

-- nothing more before the line's end
plain_end : (size left spare : ℕ) → 2 ≤ left → (text added : List ℕ) → BehindLine size spare text added → BlanksRest size left spare (13 ∷ 10 ∷ text) added
plain_end size left spare wide text added behind = record {
  pad = [];
  extension = None;
  rest = text;
  reads = refl;
  blanks = pass_nil is_ows;
  plain = tt;
  short = omega arith;
  later = spare;
  spends = omega arith;
  behind = behind;
}

pub line_lives : (part : LinePart) → LineWaits part → Lives part
line_lives (Size zero size spare) waits =
    let zero_size : size ≡ 0 = waits.1 refl in
    record {
      byte = 48;
      text = 13 ∷ 10 ∷ 10 ∷ [];
      added = [];
      left = subst (λ (n : ℕ). LineLeft (Size 0 n spare) (48 ∷ 13 ∷ 10 ∷ 10 ∷ []) []) (sym zero_size) ((size_digit 0 0 spare 48 refl (13 ∷ 10 ∷ 10 ∷ []) []).0 (zero_line spare));
      size = omega (arith, zero_size);
    }
line_lives (Size (suc digits) size spare) waits =
    let behind = behind_lives size spare in
    record {
      byte = 13;
      text = 10 ∷ behind.0;
      added = behind.1;
      left = record {
        more = [];
        rest = 13 ∷ 10 ∷ behind.0;
        reads = refl;
        hex = pass_nil is_ascii_hexdigit;
        some = omega arith;
        few = omega (arith, waits.0);
        left = 32768 - suc digits;
        total = omega (arith, waits.0);
        line = plain_end size (32768 - suc digits) spare (omega (arith, waits.0)) behind.0 behind.1 behind.2;
      };
      size = behind.3;
    }
line_lives (Blanks size left spare) waits =
    let behind = behind_lives size spare in
    record { byte = 13; text = 10 ∷ behind.0; added = behind.1; left = plain_end size left spare waits behind.0 behind.1 behind.2; size = behind.3 }
line_lives (Extension size left spare) waits =
    let behind = behind_lives size spare in
    record {
      byte = 13;
      text = 10 ∷ behind.0;
      added = behind.1;
      left = record {
        more = [];
        rest = behind.0;
        reads = refl;
        plain = pass_nil is_extension_byte;
        short = omega (arith, waits);
        later = spare;
        spends = omega arith;
        behind = behind.2;
      };
      size = behind.3;
    }
line_lives (LineFeed size spare) waits =
    let behind = behind_lives size spare in
    record { byte = 10; text = behind.0; added = behind.1; left = (behind.0, refl, behind.2); size = behind.3 }
line_lives (DataReturn spare) waits = record { byte = 13; text = 10 ∷ 48 ∷ 13 ∷ 10 ∷ 10 ∷ []; added = []; left = (48 ∷ 13 ∷ 10 ∷ 10 ∷ [], refl, last_chunk spare); size = refl }
line_lives (DataFeed spare) waits = record { byte = 10; text = 48 ∷ 13 ∷ 10 ∷ 10 ∷ []; added = []; left = (48 ∷ 13 ∷ 10 ∷ 10 ∷ [], refl, last_chunk spare); size = refl }
line_lives (TrailerLine fields left) waits = record { byte = 10; text = []; added = []; left = (no_fields fields, omega (arith, waits), refl); size = refl }
line_lives (FieldName fields left) waits = record {
  byte = 58;
  text = 10 ∷ 10 ∷ [];
  added = [];
  left = (record { name = []; rest = 10 ∷ 10 ∷ []; reads = refl; token = pass_nil is_token_byte; value = empty_value fields }, omega (arith, waits), refl);
  size = refl;
}
line_lives (FieldValue fields left) waits = record { byte = 10; text = 10 ∷ []; added = []; left = (empty_value fields, omega (arith, waits), refl); size = refl }
line_lives (FieldFeed fields left) waits = record { byte = 10; text = 10 ∷ []; added = []; left = ((10 ∷ [], refl, no_fields fields), omega (arith, waits), refl); size = refl }
line_lives LastFeed waits = record { byte = 10; text = []; added = []; left = (refl, refl); size = refl }
