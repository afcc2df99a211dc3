-- What captures hold.
use Rattle.std.specs.Prelude.{ℕ, List}
use Rattle.regex.specs.Bytes.{captures_haystack, captures_span}
use Rattle.regex.specs.Replace.{bytes_of}
use Rattle.regex.specs.declared.bytes.captures.Captures.{Captures}

-- what a group captured, or nothing
abbrev pub captured : Captures → ℕ → List ℕ
captured c group = bytes_of (captures_haystack c) (captures_span c group)
