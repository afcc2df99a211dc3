-- The word of a key: the first eight bytes of its SHA-256 digest (FIPS 180-4, section 6.2) as a number,
-- the first byte highest.
use Rattle.std.specs.Prelude.{ℕ, List, take}
use Rattle.std.specs.Int.{w64, from_be_bytes}
use Rattle.sha2.specs.Sha256.{sha256}

unfoldable pub key_word_of : List ℕ → ℕ
key_word_of key = from_be_bytes w64 (take 8 (sha256 key))
