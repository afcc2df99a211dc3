-- What is written of an audit.
use Rattle.std.specs.Prelude.{ℕ, List, [], ◌∷◌, ◌++◌, codes}
use Rattle.std.specs.Fmt.{decimal}
use Rattle.units.specs.Signs.{line_feed}
use Rattle.audit_laws.specs.declared.kind.Kind.{Kind}
use Rattle.audit_laws.specs.Faults.{kind_number}
use Rattle.journal_audit.specs.declared.auditor.Finding.{Finding}
use Rattle.journal_audit.specs.declared.auditor.Finding.TheVariants.{Bad, Legal}

abbrev pub legal_text : ℕ → List ℕ
legal_text entries = codes "legal " ++ decimal entries ++ line_feed ∷ []

abbrev pub bad_text : ℕ → Kind → List ℕ
bad_text line kind = codes "line " ++ decimal line ++ codes " kind " ++ decimal (kind_number kind) ++ line_feed ∷ []

abbrev pub finding_text : Finding → List ℕ
finding_text (Legal entries segments) = legal_text entries
finding_text (Bad line kind expected) = bad_text line kind
