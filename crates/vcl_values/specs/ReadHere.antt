-- A compiled pattern that was read under the options of this crate.
use Rattle.std.specs.Prelude.{◌≡◌, true}
use Rattle.std.specs.Str.{is_utf8}
use Rattle.regex.specs.Bytes.{regex_source, regex_config, IsReadFromSource}
use Rattle.regex.specs.declared.bytes.regex.Regex.{Regex}
use Rattle.vcl_values.specs.Readings.{options}

pub record IsReadHere (regex : Regex) : Type 0 where
  pub utf8 : is_utf8 (regex_source regex) ≡ true
  pub config : regex_config regex ≡ options
  pub is_read : IsReadFromSource regex
