-- What the lines of a head carry (RFC 9110, sections 5 and 9; RFC 9112, sections 3 and 4), by the grammar of `httparse`.
use Rattle.std.specs.Prelude.{ℕ, ℤ, pos, Bool, not, ◌&&◌, nat_lt, nat_le, List, length}
use Rattle.std.specs.List.{list_all}
use Rattle.std.specs.Str.{is_utf8}
use Rattle.std.specs.Int.Signed.{lt_z}
use Rattle.httparse.specs.Grammar.{is_uri_byte}
use Rattle.http_header.specs.Token.{is_token_byte, is_value_byte}
use Rattle.http_heads.specs.Fields.{is_line_byte}

-- one byte of a token or more
abbrev pub is_token : List ℕ → Bool
is_token text = nat_lt 0 (length text) && list_all is_token_byte text

-- a target of a request: one byte or more, as UTF-8
abbrev pub is_target : List ℕ → Bool
is_target text = nat_lt 0 (length text) && (list_all is_uri_byte text && is_utf8 text)

abbrev pub is_reason : List ℕ → Bool
is_reason text = list_all is_value_byte text

-- a status from 200 to 999
abbrev pub is_status : ℤ → Bool
is_status number = lt_z (pos 199) number && lt_z number (pos 1000)

-- no CR, LF and NUL
abbrev pub is_line : List ℕ → Bool
is_line text = list_all (λ byte. not (is_line_byte byte)) text

-- a name and a value that a field may have: a token of at most 65,535 bytes, and no CR, LF and NUL
abbrev pub is_field : List ℕ → List ℕ → Bool
is_field name value = (is_token name && nat_le (length name) 65535) && is_line value
