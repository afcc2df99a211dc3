-- What may still come of a chunk's line, of its data and of a trailer, once a front of them has come (RFC 9112,
-- section 7.1). `added` is what this adds to the body, and `spare` how many bytes the lines may still have together beyond
-- their digits and ends.
use Rattle.std.specs.Prelude.{◌≡◌, ℕ, ◌+◌, ◌<◌, ◌≤◌, ◌⊎◌, List, [], ◌∷◌, ◌++◌, length, Option, All}
use Rattle.std.specs.Char.{is_ascii_hexdigit}
use Rattle.std.specs.Str.Parse.{digits_value_after}
use Rattle.httparse.specs.Grammar.{AllPass, is_ows, is_token_byte, is_value_byte, is_extension_byte, IsExtension, print_extension, Field as FieldTree, LineEnd, print_end, print_section, IsField}
use Rattle.http_bodies.specs.Bodies.{line_limit, IsTrailer, IsChunked}

-- so many bytes of a chunk's data, and the chunks behind it
abbrev pub DataRest : ℕ → ℕ → List ℕ → List ℕ → Type 0
DataRest n spare text added =
    (d : List ℕ) × (next : List ℕ) × (more : List ℕ) × (text ≡ d ++ 13 ∷ 10 ∷ next) × (length d ≡ n) × IsChunked spare next more × (added ≡ d ++ more)

-- behind the line of a chunk of this size
abbrev pub BehindLine : ℕ → ℕ → List ℕ → List ℕ → Type 0
BehindLine size spare text added = ((size ≡ 0) × IsTrailer text × (added ≡ [])) ⊎ ((0 < size) × DataRest size spare text added)

-- the line's LF
abbrev pub LineFeedRest : ℕ → ℕ → List ℕ → List ℕ → Type 0
LineFeedRest size spare text added = (rest : List ℕ) × (text ≡ 10 ∷ rest) × BehindLine size spare rest added

-- bytes of the extension and the line's end, within so many bytes
pub record ExtensionRest (size left spare : ℕ) (text added : List ℕ) : Type 0 where
  pub more : List ℕ
  pub rest : List ℕ
  pub reads : text ≡ more ++ 13 ∷ 10 ∷ rest
  pub plain : AllPass is_extension_byte more
  pub short : length more + 2 ≤ left
  pub later : ℕ
  pub spends : length more + later ≡ spare
  pub behind : BehindLine size later rest added

-- blanks, an extension or none, and the line's end, within so many bytes
pub record BlanksRest (size left spare : ℕ) (text added : List ℕ) : Type 0 where
  pub pad : List ℕ
  pub extension : Option (List ℕ)
  pub rest : List ℕ
  pub reads : text ≡ pad ++ print_extension extension ++ 13 ∷ 10 ∷ rest
  pub blanks : AllPass is_ows pad
  pub plain : IsExtension extension
  pub short : length pad + length (print_extension extension) + 2 ≤ left
  pub later : ℕ
  pub spends : length pad + length (print_extension extension) + later ≡ spare
  pub behind : BehindLine size later rest added

-- more digits behind so many with this value, at most 16 in all, and the rest of a line
pub record SizeRest (digits size spare : ℕ) (text added : List ℕ) : Type 0 where
  pub more : List ℕ
  pub rest : List ℕ
  pub reads : text ≡ more ++ rest
  pub hex : AllPass is_ascii_hexdigit more
  pub some : 0 < digits + length more
  pub few : digits + length more ≤ 16
  pub left : ℕ
  pub total : digits + length more + left ≡ line_limit
  pub line : BlanksRest (digits_value_after 16 size more) left spare rest added

-- field lines, at most so many, and the empty line
pub record SectionRest (most : ℕ) (text : List ℕ) : Type 0 where
  pub fields : List FieldTree
  pub last : LineEnd
  pub reads : text ≡ print_section fields last
  pub each : All IsField fields
  pub few : length fields ≤ most

-- bytes of a field's value and the line's end, and at most so many field lines
pub record ValueRest (most : ℕ) (text : List ℕ) : Type 0 where
  pub raw : List ℕ
  pub last : LineEnd
  pub rest : List ℕ
  pub reads : text ≡ raw ++ print_end last ++ rest
  pub plain : AllPass is_value_byte raw
  pub section : SectionRest most rest

-- bytes of a field's name, and the rest of its line
pub record NameRest (most : ℕ) (text : List ℕ) : Type 0 where
  pub name : List ℕ
  pub rest : List ℕ
  pub reads : text ≡ name ++ 58 ∷ rest
  pub token : AllPass is_token_byte name
  pub value : ValueRest most rest

-- the LF of a field's line
abbrev pub FieldFeedRest : ℕ → List ℕ → Type 0
FieldFeedRest most text = (rest : List ℕ) × (text ≡ 10 ∷ rest) × SectionRest most rest
