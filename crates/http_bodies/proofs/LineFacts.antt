-- A byte of a chunk's line, and what it leaves.
use Rattle.std.proofs.Common.{◌≡◌, ◌≢◌, ℕ, ◌+◌, ◌-◌, ◌*◌, ◌<◌, ◌≤◌, ◌⊎◌, inl, inr, ◌↔◌, true, false, List, [], ◌∷◌, ◌++◌, length, refl, sym, ◌∙◌, ap, subst, arith, append_assoc, length-append, Option, Some, None}
use Rattle.std.specs.List.{flat_map}
use Rattle.std.specs.Char.{is_ascii_hexdigit, digit_value}
use Rattle.std.specs.Str.Parse.{digits_value_after}
use Rattle.httparse.specs.Grammar.{AllPass, is_ows, is_extension_byte, IsExtension, print_extension, ChunkLine, IsChunkLine, print_chunk_line, chunk_size}
use Rattle.http_bodies.specs.declared.place.LinePart.TheVariants.{Size, Blanks, Extension, LineFeed}
use Rattle.http_bodies.specs.declared.place.Place.TheVariants.{Line}
use Rattle.http_bodies.specs.Bodies.{ReadsLine, ReadsChunks, IsChunked, spare_of}
use Rattle.http_bodies.specs.Rests.{BehindLine, ExtensionRest, BlanksRest}
use Rattle.http_bodies.specs.Reading.{LineLeft}
use Rattle.http_bodies.specs.Places.{IsNext}
use Rattle.http_bodies.proofs.ByteFacts.{other_byte, hex_is_no_blank, pass_nil, pass_cons, pass_head, pass_tail}

-- ---- the extension

pub extension_return : (size left spare : ℕ) → 2 ≤ left → IsNext (Extension size left spare) 13 (Line (LineFeed size spare))
extension_return size left spare wide text added = (
  λ feed. record {
    more = [];
    rest = feed.0;
    reads = ap (λ (l : List ℕ). 13 ∷ l) feed.1;
    plain = pass_nil is_extension_byte;
    short = omega arith;
    later = spare;
    spends = omega arith;
    behind = feed.2;
  },
  λ e. by_more e.more e.rest e.reads e.plain e.later e.spends e.behind,
)
  where
    by_more : (more rest : List ℕ) → 13 ∷ text ≡ more ++ 13 ∷ 10 ∷ rest → AllPass is_extension_byte more → (later : ℕ) → length more + later ≡ spare
        → BehindLine size later rest added → LineLeft (LineFeed size spare) text added
    by_more [] rest reads plain later spends behind =
        let same : text ≡ 10 ∷ rest = cc in
        let all : later ≡ spare = omega (arith, spends) in
        (rest, same, subst (λ (s : ℕ). BehindLine size s rest added) all behind)
    by_more (c ∷ more) rest reads plain later spends behind =
        let same : c ≡ 13 = cc in
        absurd (other_byte is_extension_byte c 13 (pass_head is_extension_byte c more plain) refl same)

pub extension_more : (size left spare b : ℕ) → is_extension_byte b ≡ true → 0 < left → 0 < spare
    → IsNext (Extension size left spare) b (Line (Extension size (left - 1) (spare - 1)))
extension_more size left spare b passes some more_spare text added = (
  λ e. record {
    more = b ∷ e.more;
    rest = e.rest;
    reads = ap (λ (l : List ℕ). b ∷ l) e.reads;
    plain = pass_cons is_extension_byte b e.more passes e.plain;
    short = omega (arith, e.short);
    later = e.later;
    spends = omega (arith, e.spends, more_spare);
    behind = e.behind;
  },
  λ e. by_more e.more e.rest e.reads e.plain e.short e.later e.spends e.behind,
)
  where
    by_more : (more rest : List ℕ) → b ∷ text ≡ more ++ 13 ∷ 10 ∷ rest → AllPass is_extension_byte more → length more + 2 ≤ left
        → (later : ℕ) → length more + later ≡ spare → BehindLine size later rest added → LineLeft (Extension size (left - 1) (spare - 1)) text added
    by_more [] rest reads plain short later spends behind = let same : b ≡ 13 = cc in absurd (other_byte is_extension_byte b 13 passes refl same)
    by_more (c ∷ more) rest reads plain short later spends behind =
        let same : text ≡ more ++ 13 ∷ 10 ∷ rest = cc in
        record {
          more = more;
          rest = rest;
          reads = same;
          plain = pass_tail is_extension_byte c more plain;
          short = omega (arith, short);
          later = later;
          spends = omega (arith, spends);
          behind = behind;
        }

-- a line feed, or a byte too many
pub extension_none : (size left spare b : ℕ) → b ≢ 13 → (b ≡ 10) ⊎ ((left ≤ 2) ⊎ (spare ≡ 0)) → (text added : List ℕ)
    → ¬ (LineLeft (Extension size left spare) (b ∷ text) added)
extension_none size left spare b other why text added e = by_more e.more e.rest e.reads e.plain e.short e.spends
  where
    by_more : (more rest : List ℕ) → b ∷ text ≡ more ++ 13 ∷ 10 ∷ rest → AllPass is_extension_byte more → length more + 2 ≤ left
        → length more + e.later ≡ spare → ⊥
    by_more [] rest reads plain short spends = let same : b ≡ 13 = cc in other same
    by_more (c ∷ more) rest reads plain short spends =
        let same : c ≡ b = cc in
        elim why [
          | inl feed ↦ other_byte is_extension_byte c 10 (pass_head is_extension_byte c more plain) refl (same ∙ feed)
          | inr full ↦ elim full [
            | inl narrow ↦ omega (arith, short, narrow)
            | inr none ↦ omega (arith, spends, none)
          ]
        ]

-- ---- the blanks

-- what the first byte of the rest may be
first_blank : (b size left spare : ℕ) (text added : List ℕ) → BlanksRest size left spare (b ∷ text) added
    → ((is_ows b ≡ true) × ((3 ≤ left) × (0 < spare)) × BlanksRest size (left - 1) (spare - 1) text added)
    ⊎ ((b ≡ 59) × ((3 ≤ left) × (0 < spare)) × ExtensionRest size (left - 1) (spare - 1) text added)
    ⊎ ((b ≡ 13) × LineLeft (LineFeed size spare) text added)
first_blank b size left spare text added e = by_pad e.pad e.extension e.rest e.reads e.blanks e.plain e.short e.spends e.behind
  where
    by_extension : (extension : Option (List ℕ)) (rest : List ℕ) → b ∷ text ≡ print_extension extension ++ 13 ∷ 10 ∷ rest → IsExtension extension
        → length (print_extension extension) + 2 ≤ left → length (print_extension extension) + e.later ≡ spare → BehindLine size e.later rest added
        → ((b ≡ 59) × ((3 ≤ left) × (0 < spare)) × ExtensionRest size (left - 1) (spare - 1) text added)
        ⊎ ((b ≡ 13) × LineLeft (LineFeed size spare) text added)
    by_extension None rest reads plain short spends behind =
        let byte : b ≡ 13 = cc in
        let same : text ≡ 10 ∷ rest = cc in
        let all : e.later ≡ spare = omega (arith, spends) in
        inr (byte, (rest, same, subst (λ (s : ℕ). BehindLine size s rest added) all behind))
    by_extension (Some more) rest reads plain short spends behind =
        let byte : b ≡ 59 = cc in
        let same : text ≡ more ++ 13 ∷ 10 ∷ rest = cc in
        inl (
          byte,
          (omega (arith, short), omega (arith, spends)),
          record {
            more = more;
            rest = rest;
            reads = same;
            plain = plain;
            short = omega (arith, short);
            later = e.later;
            spends = omega (arith, spends);
            behind = behind;
          },
        )

    by_pad : (pad : List ℕ) (extension : Option (List ℕ)) (rest : List ℕ) → b ∷ text ≡ pad ++ print_extension extension ++ 13 ∷ 10 ∷ rest
        → AllPass is_ows pad → IsExtension extension → length pad + length (print_extension extension) + 2 ≤ left
        → length pad + length (print_extension extension) + e.later ≡ spare → BehindLine size e.later rest added
        → ((is_ows b ≡ true) × ((3 ≤ left) × (0 < spare)) × BlanksRest size (left - 1) (spare - 1) text added)
        ⊎ ((b ≡ 59) × ((3 ≤ left) × (0 < spare)) × ExtensionRest size (left - 1) (spare - 1) text added)
        ⊎ ((b ≡ 13) × LineLeft (LineFeed size spare) text added)
    by_pad [] extension rest reads blanks plain short spends behind =
        inr (by_extension extension rest reads plain (omega (arith, short)) (omega (arith, spends)) behind)
    by_pad (c ∷ pad) extension rest reads blanks plain short spends behind =
        let byte : c ≡ b = cc in
        let same : text ≡ pad ++ print_extension extension ++ 13 ∷ 10 ∷ rest = cc in
        inl (
          ap is_ows (sym byte) ∙ pass_head is_ows c pad blanks,
          (omega (arith, short), omega (arith, spends)),
          record {
            pad = pad;
            extension = extension;
            rest = rest;
            reads = same;
            blanks = pass_tail is_ows c pad blanks;
            plain = plain;
            short = omega (arith, short);
            later = e.later;
            spends = omega (arith, spends);
            behind = behind;
          },
        )

pub blanks_return : (size left spare : ℕ) → 2 ≤ left → IsNext (Blanks size left spare) 13 (Line (LineFeed size spare))
blanks_return size left spare wide text added = (
  λ feed. record {
    pad = [];
    extension = None;
    rest = feed.0;
    reads = ap (λ (l : List ℕ). 13 ∷ l) feed.1;
    blanks = pass_nil is_ows;
    plain = tt;
    short = omega arith;
    later = spare;
    spends = omega arith;
    behind = feed.2;
  },
  λ e. elim (first_blank 13 size left spare text added e) [
    | inl blank ↦ let never : false ≡ true = blank.0 in absurd (let no : ⊥ = cc in no)
    | inr rest ↦ elim rest [
      | inl semicolon ↦ absurd (omega (arith, semicolon.0))
      | inr feed ↦ feed.1
    ]
  ],
)

pub blanks_more : (size left spare b : ℕ) → is_ows b ≡ true → 0 < left → 0 < spare
    → IsNext (Blanks size left spare) b (Line (Blanks size (left - 1) (spare - 1)))
blanks_more size left spare b passes some more_spare text added = (
  λ e. record {
    pad = b ∷ e.pad;
    extension = e.extension;
    rest = e.rest;
    reads = ap (λ (l : List ℕ). b ∷ l) e.reads;
    blanks = pass_cons is_ows b e.pad passes e.blanks;
    plain = e.plain;
    short = omega (arith, e.short);
    later = e.later;
    spends = omega (arith, e.spends, more_spare);
    behind = e.behind;
  },
  λ e. elim (first_blank b size left spare text added e) [
    | inl blank ↦ blank.2
    | inr rest ↦ elim rest [
      | inl semicolon ↦ absurd (other_byte is_ows b 59 passes refl semicolon.0)
      | inr feed ↦ absurd (other_byte is_ows b 13 passes refl feed.0)
    ]
  ],
)

pub blanks_semicolon : (size left spare : ℕ) → 0 < left → 0 < spare → IsNext (Blanks size left spare) 59 (Line (Extension size (left - 1) (spare - 1)))
blanks_semicolon size left spare some more_spare text added = (
  λ e. record {
    pad = [];
    extension = Some e.more;
    rest = e.rest;
    reads = ap (λ (l : List ℕ). 59 ∷ l) e.reads;
    blanks = pass_nil is_ows;
    plain = e.plain;
    short = omega (arith, e.short);
    later = e.later;
    spends = omega (arith, e.spends, more_spare);
    behind = e.behind;
  },
  λ e. elim (first_blank 59 size left spare text added e) [
    | inl blank ↦ let never : false ≡ true = blank.0 in absurd (let no : ⊥ = cc in no)
    | inr rest ↦ elim rest [
      | inl semicolon ↦ semicolon.2
      | inr feed ↦ absurd (omega (arith, feed.0))
    ]
  ],
)

-- a byte too many, or one that can't stand there
pub blanks_none : (size left spare b : ℕ) → b ≢ 13 → ((left ≤ 2) ⊎ (spare ≡ 0)) ⊎ ((is_ows b ≡ false) × (b ≢ 59)) → (text added : List ℕ)
    → ¬ (LineLeft (Blanks size left spare) (b ∷ text) added)
blanks_none size left spare b other why text added e = elim (first_blank b size left spare text added e) [
  | inl blank ↦ elim why [
    | inl full ↦ no_room full blank.1
    | inr none ↦ other_byte is_ows b b blank.0 none.0 refl
  ]
  | inr rest ↦ elim rest [
    | inl semicolon ↦ elim why [
      | inl full ↦ no_room full semicolon.1
      | inr none ↦ none.1 semicolon.0
    ]
    | inr feed ↦ other feed.0
  ]
]
  where
    no_room : (left ≤ 2) ⊎ (spare ≡ 0) → (3 ≤ left) × (0 < spare) → ⊥
    no_room (inl narrow) room = omega (arith, narrow, room.0)
    no_room (inr none) room = omega (arith, none, room.1)

-- ---- the size

pub size_digit : (digits size spare b : ℕ) → is_ascii_hexdigit b ≡ true
    → IsNext (Size digits size spare) b (Line (Size (digits + 1) (size * 16 + digit_value b) spare))
size_digit digits size spare b hex text added = (
  λ e. record {
    more = b ∷ e.more;
    rest = e.rest;
    reads = ap (λ (l : List ℕ). b ∷ l) e.reads;
    hex = pass_cons is_ascii_hexdigit b e.more hex e.hex;
    some = omega arith;
    few = omega (arith, e.few);
    left = e.left;
    total = omega (arith, e.total);
    line = e.line;
  },
  λ e. by_more e.more e.rest e.reads e.hex e.few e.left e.total e.line,
)
  where
    by_more : (more rest : List ℕ) → b ∷ text ≡ more ++ rest → AllPass is_ascii_hexdigit more → digits + length more ≤ 16
        → (left : ℕ) → digits + length more + left ≡ 32768 → BlanksRest (digits_value_after 16 size more) left spare rest added
        → LineLeft (Size (digits + 1) (size * 16 + digit_value b) spare) text added
    by_more [] rest reads all few left total line =
        elim (first_blank b size left spare text added (subst (λ (t : List ℕ). BlanksRest size left spare t added) (sym reads) line)) [
          | inl blank ↦ absurd (hex_is_no_blank b hex blank.0)
          | inr other ↦ elim other [
            | inl semicolon ↦ absurd (other_byte is_ascii_hexdigit b 59 hex refl semicolon.0)
            | inr feed ↦ absurd (other_byte is_ascii_hexdigit b 13 hex refl feed.0)
          ]
        ]
    by_more (c ∷ more) rest reads all few left total line =
        let byte : c ≡ b = cc in
        let same : text ≡ more ++ rest = cc in
        record {
          more = more;
          rest = rest;
          reads = same;
          hex = pass_tail is_ascii_hexdigit c more all;
          some = omega arith;
          few = omega (arith, few);
          left = left;
          total = omega (arith, total);
          line = subst (λ (d : ℕ). BlanksRest (digits_value_after 16 (size * 16 + digit_value d) more) left spare rest added) byte line;
        }

-- the seventeenth digit
pub size_full : (size spare b : ℕ) → is_ascii_hexdigit b ≡ true → (text added : List ℕ) → ¬ (LineLeft (Size 16 size spare) (b ∷ text) added)
size_full size spare b hex text added e =
    let next = (size_digit 16 size spare b hex text added).1 e in
    omega (arith, next.few)

-- behind the digits
pub size_other : (digits size spare b : ℕ) → is_ascii_hexdigit b ≡ false → 0 < digits → digits ≤ 16 → (text added : List ℕ)
    → LineLeft (Blanks size (32768 - digits) spare) (b ∷ text) added ↔ LineLeft (Size digits size spare) (b ∷ text) added
size_other digits size spare b other some few text added = (
  λ e. record {
    more = [];
    rest = b ∷ text;
    reads = refl;
    hex = pass_nil is_ascii_hexdigit;
    some = omega (arith, some);
    few = omega (arith, few);
    left = 32768 - digits;
    total = omega (arith, few);
    line = e;
  },
  λ e. by_more e.more e.rest e.reads e.hex e.left e.total e.line,
)
  where
    by_more : (more rest : List ℕ) → b ∷ text ≡ more ++ rest → AllPass is_ascii_hexdigit more
        → (left : ℕ) → digits + length more + left ≡ 32768 → BlanksRest (digits_value_after 16 size more) left spare rest added
        → LineLeft (Blanks size (32768 - digits) spare) (b ∷ text) added
    by_more [] rest reads all left total line =
        let is : left ≡ 32768 - digits = omega (arith, total) in
        subst (λ (l : ℕ). BlanksRest size l spare (b ∷ text) added) is (subst (λ (t : List ℕ). BlanksRest size left spare t added) (sym reads) line)
    by_more (c ∷ more) rest reads all left total line =
        let byte : c ≡ b = cc in
        absurd (other_byte is_ascii_hexdigit c c (pass_head is_ascii_hexdigit c more all) (ap is_ascii_hexdigit byte ∙ other) refl)

-- a line has a digit
pub size_none : (size spare b : ℕ) → is_ascii_hexdigit b ≡ false → (text added : List ℕ) → ¬ (LineLeft (Size 0 size spare) (b ∷ text) added)
size_none size spare b other text added e = by_more e.more e.rest e.reads e.hex e.some
  where
    by_more : (more rest : List ℕ) → b ∷ text ≡ more ++ rest → AllPass is_ascii_hexdigit more → 0 < 0 + length more → ⊥
    by_more [] rest reads all some = omega (arith, some)
    by_more (c ∷ more) rest reads all some =
        let byte : c ≡ b = cc in
        other_byte is_ascii_hexdigit c c (pass_head is_ascii_hexdigit c more all) (ap is_ascii_hexdigit byte ∙ other) refl

-- ---- the size is how much of the body is due

pub behind_least : (size spare : ℕ) (text added : List ℕ) → BehindLine size spare text added → size ≤ length added
behind_least size spare text added behind = elim behind [
  | inl none ↦ omega (arith, none.0)
  | inr some ↦
      let d = some.1.0 in
      let more = some.1.2 in
      omega (arith, some.1.4, ap length some.1.6, length-append d more)
]

grows : (n : ℕ) (more : List ℕ) → n ≤ digits_value_after 16 n more
grows n [] = omega arith
grows n (c ∷ more) = let rest = grows (n * 16 + digit_value c) more in omega (arith, rest)

pub size_least : (digits size spare : ℕ) (text added : List ℕ) → LineLeft (Size digits size spare) text added → size ≤ length added
size_least digits size spare text added e =
    omega (arith, grows size e.more, behind_least (digits_value_after 16 size e.more) e.line.later e.line.rest added e.line.behind)

-- ---- a whole line

line_ends : (digits pad : List ℕ) (extension : Option (List ℕ)) (rest : List ℕ)
    → digits ++ (pad ++ print_extension extension ++ 13 ∷ 10 ∷ rest) ≡ print_chunk_line (record { digits = digits; pad = pad; extension = extension }) ++ rest
unfolding print_chunk_line
line_ends digits pad extension rest = simp append_assoc

line_length : (digits pad : List ℕ) (extension : Option (List ℕ))
    → length (print_chunk_line (record { digits = digits; pad = pad; extension = extension })) ≡ length digits + length pad + length (print_extension extension) + 2
unfolding print_chunk_line
line_length digits pad extension =
    omega (
      arith,
      length-append (digits ++ pad ++ print_extension extension) (13 ∷ 10 ∷ []),
      length-append (digits ++ pad) (print_extension extension),
      length-append digits pad,
    )

-- the chunks behind nothing
pub chunks_left : (spare : ℕ) (text added : List ℕ) → LineLeft (Size 0 0 spare) text added ↔ IsChunked spare text added
chunks_left spare text added = (there, back)
  where
    line_of : List ℕ → List ℕ → Option (List ℕ) → ChunkLine
    line_of digits pad extension = record { digits = digits; pad = pad; extension = extension }

    there : LineLeft (Size 0 0 spare) text added → IsChunked spare text added
    there e =
        let line = line_of e.more e.line.pad e.line.extension in
        let rest = e.line.rest in
        let reads : text ≡ print_chunk_line (line_of e.more e.line.pad e.line.extension) ++ e.line.rest =
        e.reads ∙ ap (λ (l : List ℕ). e.more ++ l) e.line.reads ∙ line_ends e.more e.line.pad e.line.extension e.line.rest in
        let size : length (print_chunk_line (line_of e.more e.line.pad e.line.extension)) ≤ 32768 =
        omega (arith, line_length e.more e.line.pad e.line.extension, e.total, e.line.short) in
        let is : IsChunkLine (line_of e.more e.line.pad e.line.extension) =
        record { digits = (omega (arith, e.some), omega (arith, e.few), e.hex); pad = e.line.blanks; extension = e.line.plain } in
        let line_reads : ReadsLine text (line_of e.more e.line.pad e.line.extension) e.line.rest = record { reads = (is, reads); short = size } in
        elim e.line.behind [
          | inl none ↦ ([], (line, rest, line_reads, omega (arith, e.line.spends), none.0, none.1), none.2)
          | inr some ↦
              let d = some.1.0 in
              let next = some.1.1 in
              let chunks = some.1.5 in (
                d ∷ chunks.0,
                (line, rest, next, e.line.later, line_reads, e.line.spends, sym some.1.4, omega (arith, some.0, some.1.4), some.1.3, chunks.1),
                some.1.6 ∙ ap (λ (m : List ℕ). d ++ m) chunks.2,
              )
        ]

    from_line : (line : ChunkLine) (rest : List ℕ) (later : ℕ) → ReadsLine text line rest → spare_of line + later ≡ spare
        → BehindLine (chunk_size line) later rest added → LineLeft (Size 0 0 spare) text added
    from_line line rest later reads spends behind =
        let total = line_length line.digits line.pad line.extension in
        record {
          more = line.digits;
          rest = line.pad ++ print_extension line.extension ++ 13 ∷ 10 ∷ rest;
          reads = reads.reads.1 ∙ sym (line_ends line.digits line.pad line.extension rest);
          hex = reads.reads.0.digits.2;
          some = omega (arith, reads.reads.0.digits.0);
          few = omega (arith, reads.reads.0.digits.1);
          left = 32768 - length line.digits;
          total = omega (arith, reads.reads.0.digits.1);
          line = record {
            pad = line.pad;
            extension = line.extension;
            rest = rest;
            reads = refl;
            blanks = reads.reads.0.pad;
            plain = reads.reads.0.extension;
            short = omega (arith, total, reads.short);
            later = later;
            spends = spends;
            behind = behind;
          };
        }

    by_datas : (datas : List (List ℕ)) → ReadsChunks spare datas text → added ≡ flat_map (λ d. d) datas → LineLeft (Size 0 0 spare) text added
    by_datas [] chunks body =
        from_line chunks.0 chunks.1 (spare - spare_of chunks.0) chunks.2 (omega (arith, chunks.3)) (inl (chunks.4, chunks.5, body))
    by_datas (d ∷ others) chunks body =
        from_line chunks.0 chunks.1 chunks.3 chunks.4 chunks.5
        (inr (omega (arith, chunks.6, chunks.7), (d, chunks.2, flat_map (λ e. e) others, chunks.8, sym chunks.6, (others, chunks.9, refl), body)))

    back : IsChunked spare text added → LineLeft (Size 0 0 spare) text added
    back chunked = by_datas chunked.0 chunked.1 chunked.2
