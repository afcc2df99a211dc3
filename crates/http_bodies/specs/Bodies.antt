-- The body of a message, as a whole text (RFC 9112, sections 6 and 7.1).
use Rattle.std.specs.Prelude.{◌≡◌, ℕ, ◌+◌, ◌<◌, ◌≤◌, List, [], ◌∷◌, ◌++◌, length}
use Rattle.std.specs.List.{flat_map}
use Rattle.httparse.specs.Grammar.{ChunkLine, ReadsChunkLine, print_chunk_line, print_extension, chunk_size, Field as FieldTree, LineEnd, ReadsSection}
use Rattle.http_bodies.specs.declared.framing.Framing.{Framing}
use Rattle.http_bodies.specs.declared.framing.Framing.TheVariants.{Nothing, Length, Chunked, UntilEnd}

-- the most bytes of a chunk's line; also of what all of a body's lines have beyond their digits and ends, and of a trailer
abbrev pub line_limit : ℕ
line_limit = 32768

-- the most fields of a trailer
abbrev pub field_limit : ℕ
field_limit = 64

-- a chunk's line, and what stands behind it
pub record ReadsLine (text : List ℕ) (line : ChunkLine) (rest : List ℕ) : Type 0 where
  pub reads : ReadsChunkLine text line rest
  pub short : length (print_chunk_line line) ≤ line_limit

-- how many bytes a line has beyond its digits and its end
abbrev pub spare_of : ChunkLine → ℕ
spare_of line = length line.pad + length (print_extension line.extension)

-- the fields behind the last chunk and their empty line
pub record IsTrailer (text : List ℕ) : Type 0 where
  pub fields : List FieldTree
  pub last : LineEnd
  pub reads : ReadsSection text fields last []
  pub few : length fields ≤ field_limit
  pub short : length text ≤ line_limit

-- chunks with these data: before each a line with its size, behind it CR LF; and then the line of a chunk of size 0 and
-- the trailer. Their lines have at most `spare` bytes together beyond their digits and ends.
abbrev pub ReadsChunks : ℕ → List (List ℕ) → List ℕ → Type 0
ReadsChunks spare [] text =
    (line : ChunkLine) × (rest : List ℕ) × ReadsLine text line rest × (spare_of line ≤ spare) × (chunk_size line ≡ 0) × IsTrailer rest
ReadsChunks spare (d ∷ others) text =
    (line : ChunkLine) × (rest : List ℕ) × (next : List ℕ) × (left : ℕ) × ReadsLine text line rest × (spare_of line + left ≡ spare)
    × (chunk_size line ≡ length d) × (0 < length d) × (rest ≡ d ++ 13 ∷ 10 ∷ next) × ReadsChunks left others next

-- the body is the data, one behind another
abbrev pub IsChunked : ℕ → List ℕ → List ℕ → Type 0
IsChunked spare text body = (datas : List (List ℕ)) × ReadsChunks spare datas text × (body ≡ flat_map (λ d. d) datas)

-- the whole text is a body with this framing
abbrev pub IsBody : Framing → List ℕ → List ℕ → Type 0
IsBody Nothing text body = (text ≡ []) × (body ≡ [])
IsBody (Length n) text body = (text ≡ body) × (length body ≡ n)
IsBody Chunked text body = IsChunked line_limit text body
IsBody UntilEnd text body = text ≡ body

-- the text begins with a whole body of this framing, and `rest` stands behind it: nothing, where the body goes on to the
-- end of the connection
pub record BeginsWith (framing : Framing) (text body rest : List ℕ) : Type 0 where
  pub front : List ℕ
  pub split : text ≡ front ++ rest
  pub reads : IsBody framing front body
  pub last : framing ≡ UntilEnd → rest ≡ []
