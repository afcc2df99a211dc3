-- Lists of bans and of VCLs as lines (varnish-cli(7), "ban.list", "vcl.list").
use Rattle.std.specs.Prelude.{ℕ, Bool, List, ◌∷◌, ◌++◌, map, codes, if◌then◌else◌}
use Rattle.std.specs.Fmt.{decimal}
use Rattle.std.specs.List.{join_with_byte}
use Rattle.cache_law.specs.declared.ban.BanLine.{BanLine}
use Rattle.cache_law.specs.declared.vcl.VclLine.{VclLine}
use Rattle.cache_law.specs.declared.vcl.VclState.{VclState}
use Rattle.cache_law.specs.declared.vcl.VclState.TheVariants.{Active, Available, Discarded}
use Rattle.cli_words.specs.Words.{words_text}

-- lines with LF between two
abbrev pub lines_text : List (List ℕ) → List ℕ
lines_text lines = join_with_byte 10 lines

-- whether a later equal ban does the work of the ban
abbrev pub mark_text : Bool → List ℕ
mark_text completed = if completed then codes " C " else codes " - "

-- when the ban was issued, in milliseconds, its mark and its words
abbrev pub ban_text : BanLine → List ℕ
ban_text line = decimal line.issued.moment ++ mark_text line.completed ++ words_text line.issued.ban.words

abbrev pub bans_text : List BanLine → List ℕ
bans_text lines = lines_text (map ban_text lines)

abbrev pub state_text : VclState → List ℕ
state_text Active = codes "active"
state_text Available = codes "available"
state_text Discarded = codes "discarded"

-- what the VCL is for, how many rounds run under it, and its name
abbrev pub vcl_text : VclLine → List ℕ
vcl_text line = state_text line.state ++ 32 ∷ decimal line.references ++ 32 ∷ line.name

abbrev pub vcls_text : List VclLine → List ℕ
vcls_text lines = lines_text (map vcl_text lines)
