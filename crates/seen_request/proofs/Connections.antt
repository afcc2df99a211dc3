-- What Connection names is told by the fields of that name alone.
use Rattle.std.specs.Prelude.{◌≡◌, List, ℕ, true, filter}
use Rattle.std.specs.List.{list_any}
use Rattle.std.proofs.lemmas.Bool.{and_parts}
use Rattle.std.proofs.lemmas.Map.Views.{any-filter_same}
use Rattle.http_heads.specs.declared.fields.Field.{Field}
use Rattle.http_heads.specs.declared.parts.Separators.TheVariants.{Commas}
use Rattle.http_heads.specs.Fields.{is_named}
use Rattle.http_heads.specs.Lists.{is_listed, is_listed_in, is_word, parts}

pub listed_by_named : (name word : List ℕ) (fields : List Field) → is_listed name word (filter (is_named name) fields) ≡ is_listed name word fields
listed_by_named name word fields =
    any-filter_same (is_listed_in name word) (is_named name) true (λ field listed. (and_parts (is_named name field) (list_any (is_word word) (parts Commas field.value)) listed).0) fields
