-- A byte of the trailer, and what it leaves.
use Rattle.std.proofs.Common.{◌≡◌, ◌≢◌, ℕ, ◌+◌, ◌-◌, ◌<◌, ◌≤◌, ◌⊎◌, inl, inr, ◌↔◌, true, false, List, [], ◌∷◌, ◌++◌, length, refl, sym, ◌∙◌, ap, subst, arith, append_assoc, append-nil, length-append, All}
use Rattle.std.specs.List.{flat_map}
use Rattle.std.proofs.lemmas.List.Elements.{All-head, All-tail, All-cons, All-nil}
use Rattle.httparse.specs.Grammar.{AllPass, is_token_byte, is_value_byte, Field as FieldTree, IsField, LineEnd, print_end, print_field, print_section}
use Rattle.httparse.specs.Grammar.LineEnd.{crlf, lf}
use Rattle.http_bodies.specs.Bodies.{IsTrailer}
use Rattle.http_bodies.specs.Rests.{SectionRest, ValueRest, NameRest}
use Rattle.http_bodies.specs.declared.place.Place.TheVariants.{Whole, Line}
use Rattle.http_bodies.specs.declared.place.LinePart.TheVariants.{TrailerLine, FieldName, FieldValue, FieldFeed, LastFeed}
use Rattle.http_bodies.specs.Reading.{LineLeft}
use Rattle.http_bodies.specs.Places.{IsNext}
use Rattle.http_bodies.proofs.ByteFacts.{other_byte, no_token_13, no_token_10, no_token_58, pass_nil, pass_cons, pass_head, pass_tail}

-- a field's line and what stands behind it
section_head : (f : FieldTree) (fields : List FieldTree) (last : LineEnd)
    → print_section (f ∷ fields) last ≡ f.name ++ 58 ∷ (f.raw ++ print_end f.end ++ print_section fields last)
section_head f fields last = simp append_assoc

-- ---- sizes

some_end : (last : LineEnd) → 0 < length (print_end last)
some_end crlf = omega arith
some_end lf = omega arith

pub section_some : (most : ℕ) (text : List ℕ) → SectionRest most text → 0 < length text
section_some most text e =
    omega (arith, ap length e.reads, length-append (flat_map print_field e.fields) (print_end e.last), some_end e.last)

pub value_some : (most : ℕ) (text : List ℕ) → ValueRest most text → 2 ≤ length text
value_some most text e =
    omega (arith, ap length e.reads, length-append (e.raw ++ print_end e.last) e.rest, length-append e.raw (print_end e.last), some_end e.last, section_some most e.rest e.section)

pub name_some : (most : ℕ) (text : List ℕ) → NameRest most text → 3 ≤ length text
name_some most text e = omega (arith, ap length e.reads, length-append e.name (58 ∷ e.rest), value_some most e.rest e.value)

-- ---- the first byte of a line

-- what the first byte of the rest may be
first_of_section : (b most : ℕ) (text : List ℕ) → SectionRest most (b ∷ text)
    → ((b ≡ 10) × (text ≡ [])) ⊎ ((b ≡ 13) × (text ≡ 10 ∷ [])) ⊎ ((is_token_byte b ≡ true) × (0 < most) × NameRest (most - 1) text)
first_of_section b most text e = by_fields e.fields e.last e.reads e.each e.few
  where
    by_last : (last : LineEnd) → b ∷ text ≡ print_end last → ((b ≡ 10) × (text ≡ [])) ⊎ ((b ≡ 13) × (text ≡ 10 ∷ []))
    by_last crlf reads = let byte : b ≡ 13 = cc in let same : text ≡ 10 ∷ [] = cc in inr (byte, same)
    by_last lf reads = let byte : b ≡ 10 = cc in let same : text ≡ [] = cc in inl (byte, same)

    by_name : (name rest : List ℕ) → b ∷ text ≡ name ++ 58 ∷ rest → 0 < length name → AllPass is_token_byte name → ValueRest (most - 1) rest
        → (is_token_byte b ≡ true) × NameRest (most - 1) text
    by_name [] rest reads some token value = absurd (omega (arith, some))
    by_name (c ∷ name) rest reads some token value =
        let byte : c ≡ b = cc in
        let same : text ≡ name ++ 58 ∷ rest = cc in (
          ap is_token_byte (sym byte) ∙ pass_head is_token_byte c name token,
          record { name = name; rest = rest; reads = same; token = pass_tail is_token_byte c name token; value = value },
        )

    by_fields : (fields : List FieldTree) (last : LineEnd) → b ∷ text ≡ print_section fields last → All IsField fields → length fields ≤ most
        → ((b ≡ 10) × (text ≡ [])) ⊎ ((b ≡ 13) × (text ≡ 10 ∷ [])) ⊎ ((is_token_byte b ≡ true) × (0 < most) × NameRest (most - 1) text)
    by_fields [] last reads each few = elim (by_last last reads) [
      | inl is_lf ↦ inl is_lf
      | inr is_crlf ↦ inr (inl is_crlf)
    ]
    by_fields (f ∷ fields) last reads each few =
        let is = All-head IsField f fields each in
        let value : ValueRest (most - 1) (f.raw ++ print_end f.end ++ print_section fields last) = record {
          raw = f.raw;
          last = f.end;
          rest = print_section fields last;
          reads = refl;
          plain = is.raw;
          section = record { fields = fields; last = last; reads = refl; each = All-tail IsField f fields each; few = omega (arith, few) };
        } in
        let named = by_name f.name _ (reads ∙ section_head f fields last) is.name.0 is.name.1 value in
        inr (inr (named.0, omega (arith, few), named.1))

pub section_feed : (most left : ℕ) → 1 ≤ left → IsNext (TrailerLine most left) 10 Whole
section_feed most left wide text added = (
  λ whole. (
    record { fields = []; last = lf; reads = ap (λ (l : List ℕ). 10 ∷ l) whole.0; each = All-nil IsField; few = omega arith },
    omega (arith, ap length whole.0),
    whole.1,
  ),
  λ e. elim (first_of_section 10 most text e.0) [
    | inl is_lf ↦ (is_lf.1, e.2)
    | inr rest ↦ elim rest [
      | inl is_crlf ↦ absurd (omega (arith, is_crlf.0))
      | inr field ↦ absurd (other_byte is_token_byte 10 10 field.0 no_token_10 refl)
    ]
  ],
)

pub section_return : (most left : ℕ) → 2 ≤ left → IsNext (TrailerLine most left) 13 (Line LastFeed)
section_return most left wide text added = (
  λ whole. (
    record { fields = []; last = crlf; reads = ap (λ (l : List ℕ). 13 ∷ l) whole.0; each = All-nil IsField; few = omega arith },
    omega (arith, ap length whole.0),
    whole.1,
  ),
  λ e. elim (first_of_section 13 most text e.0) [
    | inl is_lf ↦ absurd (omega (arith, is_lf.0))
    | inr rest ↦ elim rest [
      | inl is_crlf ↦ (is_crlf.1, e.2)
      | inr field ↦ absurd (other_byte is_token_byte 13 13 field.0 no_token_13 refl)
    ]
  ],
)

-- one field's line more
section_cons : (most b : ℕ) (text : List ℕ) → is_token_byte b ≡ true → NameRest most text → SectionRest (most + 1) (b ∷ text)
section_cons most b text token e =
    let f : FieldTree = record { name = b ∷ e.name; raw = e.value.raw; end = e.value.last } in
    let is : IsField f = record { name = (omega arith, pass_cons is_token_byte b e.name token e.token); raw = e.value.plain } in
    let rest : e.rest ≡ e.value.raw ++ print_end e.value.last ++ print_section e.value.section.fields e.value.section.last =
    e.value.reads ∙ ap (λ (l : List ℕ). e.value.raw ++ print_end e.value.last ++ l) e.value.section.reads in
    record {
      fields = f ∷ e.value.section.fields;
      last = e.value.section.last;
      reads = ap (λ (l : List ℕ). b ∷ l) (e.reads ∙ ap (λ (l : List ℕ). e.name ++ 58 ∷ l) rest) ∙ sym (section_head f e.value.section.fields e.value.section.last);
      each = All-cons IsField f e.value.section.fields is e.value.section.each;
      few = omega (arith, e.value.section.few);
    }

pub section_name : (most left b : ℕ) → is_token_byte b ≡ true → 0 < most → 0 < left → IsNext (TrailerLine most left) b (Line (FieldName (most - 1) (left - 1)))
section_name most left b token some wide text added = (
  λ e.
      let one : most - 1 + 1 ≡ most = omega (arith, some) in (
        subst (λ (n : ℕ). SectionRest n (b ∷ text)) one (section_cons (most - 1) b text token e.0),
        omega (arith, e.1, wide),
        e.2,
      ),
  λ e. elim (first_of_section b most text e.0) [
    | inl is_lf ↦ absurd (other_byte is_token_byte b 10 token no_token_10 is_lf.0)
    | inr rest ↦ elim rest [
      | inl is_crlf ↦ absurd (other_byte is_token_byte b 13 token no_token_13 is_crlf.0)
      | inr field ↦ (field.2, omega (arith, e.1), e.2)
    ]
  ],
)

-- a byte that can't begin a line, or a field too many, or a byte too many
pub section_none : (most left b : ℕ) → b ≢ 10 → (b ≡ 13 → left ≤ 1) → (is_token_byte b ≡ true → (most ≡ 0) ⊎ (left < 4)) → (text added : List ℕ)
    → ¬ (LineLeft (TrailerLine most left) (b ∷ text) added)
section_none most left b other narrow why text added e = elim (first_of_section b most text e.0) [
  | inl is_lf ↦ other is_lf.0
  | inr rest ↦ elim rest [
    | inl is_crlf ↦ omega (arith, narrow is_crlf.0, e.1, ap length is_crlf.1)
    | inr field ↦ elim (why field.0) [
      | inl none ↦ omega (arith, none, field.1)
      | inr short ↦ omega (arith, short, e.1, name_some (most - 1) text field.2)
    ]
  ]
]

-- ---- the name

pub name_colon : (most left : ℕ) → 0 < left → IsNext (FieldName most left) 58 (Line (FieldValue most (left - 1)))
name_colon most left wide text added = (
  λ e. (record { name = []; rest = text; reads = refl; token = pass_nil is_token_byte; value = e.0 }, omega (arith, e.1, wide), e.2),
  λ e. (by_name e.0.name e.0.rest e.0.reads e.0.token e.0.value, omega (arith, e.1), e.2),
)
  where
    by_name : (name rest : List ℕ) → 58 ∷ text ≡ name ++ 58 ∷ rest → AllPass is_token_byte name → ValueRest most rest → ValueRest most text
    by_name [] rest reads token value = let same : rest ≡ text = cc in subst (ValueRest most) same value
    by_name (c ∷ name) rest reads token value =
        let byte : c ≡ 58 = cc in
        absurd (other_byte is_token_byte c 58 (pass_head is_token_byte c name token) no_token_58 byte)

pub name_more : (most left b : ℕ) → is_token_byte b ≡ true → 0 < left → IsNext (FieldName most left) b (Line (FieldName most (left - 1)))
name_more most left b token wide text added = (
  λ e. (
    record {
      name = b ∷ e.0.name;
      rest = e.0.rest;
      reads = ap (λ (l : List ℕ). b ∷ l) e.0.reads;
      token = pass_cons is_token_byte b e.0.name token e.0.token;
      value = e.0.value;
    },
    omega (arith, e.1, wide),
    e.2,
  ),
  λ e. (by_name e.0.name e.0.rest e.0.reads e.0.token e.0.value, omega (arith, e.1), e.2),
)
  where
    by_name : (name rest : List ℕ) → b ∷ text ≡ name ++ 58 ∷ rest → AllPass is_token_byte name → ValueRest most rest → NameRest most text
    by_name [] rest reads all value = let byte : b ≡ 58 = cc in absurd (other_byte is_token_byte b 58 token no_token_58 byte)
    by_name (c ∷ name) rest reads all value =
        let same : text ≡ name ++ 58 ∷ rest = cc in
        record { name = name; rest = rest; reads = same; token = pass_tail is_token_byte c name all; value = value }

-- a byte that can't stand in a name, or a byte too many
pub name_none : (most left b : ℕ) → b ≢ 58 → (is_token_byte b ≡ true → left < 4) → (text added : List ℕ) → ¬ (LineLeft (FieldName most left) (b ∷ text) added)
name_none most left b other why text added e = by_name e.0.name e.0.rest e.0.reads e.0.token e.0.value
  where
    by_name : (name rest : List ℕ) → b ∷ text ≡ name ++ 58 ∷ rest → AllPass is_token_byte name → ValueRest most rest → ⊥
    by_name [] rest reads all value = let byte : b ≡ 58 = cc in other byte
    by_name (c ∷ name) rest reads all value =
        let byte : c ≡ b = cc in
        let same : text ≡ name ++ 58 ∷ rest = cc in
        let token : is_token_byte b ≡ true = ap is_token_byte (sym byte) ∙ pass_head is_token_byte c name all in
        omega (arith, why token, e.1, ap length same, length-append name (58 ∷ rest), value_some most rest value)

-- ---- the value

-- what the first byte of the rest may be
first_of_value : (b most : ℕ) (text : List ℕ) → ValueRest most (b ∷ text)
    → ((b ≡ 10) × SectionRest most text) ⊎ ((b ≡ 13) × (rest : List ℕ) × (text ≡ 10 ∷ rest) × SectionRest most rest) ⊎ ((is_value_byte b ≡ true) × ValueRest most text)
first_of_value b most text e = by_raw e.raw e.last e.reads e.plain
  where
    by_last : (last : LineEnd) → b ∷ text ≡ print_end last ++ e.rest
        → ((b ≡ 10) × SectionRest most text) ⊎ ((b ≡ 13) × (rest : List ℕ) × (text ≡ 10 ∷ rest) × SectionRest most rest)
    by_last crlf reads = let byte : b ≡ 13 = cc in let same : text ≡ 10 ∷ e.rest = cc in inr (byte, e.rest, same, e.section)
    by_last lf reads = let byte : b ≡ 10 = cc in let same : e.rest ≡ text = cc in inl (byte, subst (SectionRest most) same e.section)

    by_raw : (raw : List ℕ) (last : LineEnd) → b ∷ text ≡ raw ++ print_end last ++ e.rest → AllPass is_value_byte raw
        → ((b ≡ 10) × SectionRest most text) ⊎ ((b ≡ 13) × (rest : List ℕ) × (text ≡ 10 ∷ rest) × SectionRest most rest) ⊎ ((is_value_byte b ≡ true) × ValueRest most text)
    by_raw [] last reads plain = elim (by_last last reads) [
      | inl is_lf ↦ inl is_lf
      | inr is_crlf ↦ inr (inl is_crlf)
    ]
    by_raw (c ∷ raw) last reads plain =
        let byte : c ≡ b = cc in
        let same : text ≡ raw ++ print_end last ++ e.rest = cc in
        inr (
        inr (
          ap is_value_byte (sym byte) ∙ pass_head is_value_byte c raw plain,
          record { raw = raw; last = last; rest = e.rest; reads = same; plain = pass_tail is_value_byte c raw plain; section = e.section },
        )
        )

pub value_feed : (most left : ℕ) → 0 < left → IsNext (FieldValue most left) 10 (Line (TrailerLine most (left - 1)))
value_feed most left wide text added = (
  λ e. (record { raw = []; last = lf; rest = text; reads = refl; plain = pass_nil is_value_byte; section = e.0 }, omega (arith, e.1, wide), e.2),
  λ e. elim (first_of_value 10 most text e.0) [
    | inl is_lf ↦ (is_lf.1, omega (arith, e.1), e.2)
    | inr rest ↦ elim rest [
      | inl is_crlf ↦ absurd (omega (arith, is_crlf.0))
      | inr more ↦ absurd (other_byte is_value_byte 10 10 more.0 refl refl)
    ]
  ],
)

pub value_return : (most left : ℕ) → 0 < left → IsNext (FieldValue most left) 13 (Line (FieldFeed most (left - 1)))
value_return most left wide text added = (
  λ e. (
    record {
      raw = [];
      last = crlf;
      rest = e.0.0;
      reads = ap (λ (l : List ℕ). 13 ∷ l) e.0.1;
      plain = pass_nil is_value_byte;
      section = e.0.2;
    },
    omega (arith, e.1, wide),
    e.2,
  ),
  λ e. elim (first_of_value 13 most text e.0) [
    | inl is_lf ↦ absurd (omega (arith, is_lf.0))
    | inr rest ↦ elim rest [
      | inl is_crlf ↦ ((is_crlf.1, is_crlf.2, is_crlf.3), omega (arith, e.1), e.2)
      | inr more ↦ absurd (other_byte is_value_byte 13 13 more.0 refl refl)
    ]
  ],
)

pub value_more : (most left b : ℕ) → is_value_byte b ≡ true → 0 < left → IsNext (FieldValue most left) b (Line (FieldValue most (left - 1)))
value_more most left b plain wide text added = (
  λ e. (
    record {
      raw = b ∷ e.0.raw;
      last = e.0.last;
      rest = e.0.rest;
      reads = ap (λ (l : List ℕ). b ∷ l) e.0.reads;
      plain = pass_cons is_value_byte b e.0.raw plain e.0.plain;
      section = e.0.section;
    },
    omega (arith, e.1, wide),
    e.2,
  ),
  λ e. elim (first_of_value b most text e.0) [
    | inl is_lf ↦ absurd (other_byte is_value_byte b 10 plain refl is_lf.0)
    | inr rest ↦ elim rest [
      | inl is_crlf ↦ absurd (other_byte is_value_byte b 13 plain refl is_crlf.0)
      | inr more ↦ (more.1, omega (arith, e.1), e.2)
    ]
  ],
)

-- a byte too many, or one that can't stand in a value
pub value_none : (most left b : ℕ) → b ≢ 10 → (left < 3) ⊎ ((b ≢ 13) × (is_value_byte b ≡ false)) → (text added : List ℕ)
    → ¬ (LineLeft (FieldValue most left) (b ∷ text) added)
value_none most left b other why text added e = elim (first_of_value b most text e.0) [
  | inl is_lf ↦ other is_lf.0
  | inr rest ↦ elim rest [
    | inl is_crlf ↦ elim why [
      | inl short ↦ omega (arith, short, e.1, ap length is_crlf.2, section_some most is_crlf.1 is_crlf.3)
      | inr none ↦ none.0 is_crlf.0
    ]
    | inr more ↦ elim why [
      | inl short ↦ omega (arith, short, e.1, value_some most text more.1)
      | inr none ↦ other_byte is_value_byte b b more.0 none.1 refl
    ]
  ]
]

-- ---- the line feeds

pub field_feed : (most left : ℕ) → 0 < left → IsNext (FieldFeed most left) 10 (Line (TrailerLine most (left - 1)))
field_feed most left wide text added = (
  λ e. ((text, refl, e.0), omega (arith, e.1, wide), e.2),
  λ e. let same : e.0.0 ≡ text = cc in (subst (SectionRest most) same e.0.2, omega (arith, e.1), e.2),
)

-- the trailer is what may come where its first line begins
pub trailer_left : (text : List ℕ) → IsTrailer text ↔ (SectionRest 64 text × (length text ≤ 32768))
trailer_left text = (
  λ t. (
    record {
      fields = t.fields;
      last = t.last;
      reads = t.reads.1 ∙ append-nil (print_section t.fields t.last);
      each = t.reads.0;
      few = t.few;
    },
    t.short,
  ),
  λ e. record {
    fields = e.0.fields;
    last = e.0.last;
    reads = (e.0.each, e.0.reads ∙ sym (append-nil (print_section e.0.fields e.0.last)));
    few = e.0.few;
    short = e.1;
  },
)
