-- What an audit leaves, for each way in which it may end.
use Rattle.std.specs.Prelude.{◌≡◌, ◌^◌, ℕ, Option, Some, None, List}
use Rattle.std.specs.Io.KnownBytes.{Appends}
use Rattle.wire.specs.Content.{AppendsPart, ReadsUpTo}
use Rattle.audit_laws.specs.Journals.{most_bytes}
use Rattle.journal_audit.specs.declared.auditor.Finding.{Finding}
use Rattle.journal_audit.specs.declared.auditor.Finding.TheVariants.{Bad, Legal as LegalFinding}
use Rattle.journal_audit.specs.Feeding.{IsFinding}
use Rattle.varn_audit.specs.declared.outcome.Audited.{Audited}
use Rattle.varn_audit.specs.declared.outcome.Status.{Status}
use Rattle.varn_audit.specs.declared.outcome.Status.TheVariants.{Legal, Illegal, ReadFault, WriteFault, NoMemory}
use Rattle.varn_audit.specs.Texts.{finding_text}

-- the status of what was found, and the line that is to blame
abbrev pub audited_as : Finding → Audited
audited_as (LegalFinding entries segments) = record { status = Legal; note = None }
audited_as (Bad line kind expected) = record { status = Illegal; note = Some (record { line = line; kind = kind; expected = expected }) }

-- the journal: all that the source had left, or one byte more than a journal has where it had more
abbrev pub IsText : Option (List ℕ) → Option (List ℕ) → List ℕ → Type 0
IsText before after bytes = ReadsUpTo most_bytes before after bytes

-- What was told of what was found, by the status: its line was written, or a part of it, or memory was wanting for it.
abbrev pub Tells : Option (List ℕ) → Option (List ℕ) → Finding → Audited → Status → Type 0
Tells held0 held1 finding audited Legal = (audited ≡ audited_as finding) × Appends held0 held1 (finding_text finding)
Tells held0 held1 finding audited Illegal = (audited ≡ audited_as finding) × Appends held0 held1 (finding_text finding)
Tells held0 held1 finding audited ReadFault = ⊥
Tells held0 held1 finding audited WriteFault = (audited.note ≡ None) × AppendsPart held0 held1 (finding_text finding)
Tells held0 held1 finding audited NoMemory = (audited.note ≡ None) × (held1 ≡ held0)

-- The source's bytes were audited, and this was told of what they are.
pub record IsAudited (left0 left1 held0 held1 : Option (List ℕ)) (audited : Audited) : Type 0 where
  pub bytes : List ℕ
  pub text : IsText left0 left1 bytes
  pub finding : Finding
  pub holds : IsFinding bytes finding
  pub told : Tells held0 held1 finding audited audited.status

-- nothing was told
pub record IsUntold (held0 held1 : Option (List ℕ)) (audited : Audited) : Type 0 where
  pub note : audited.note ≡ None
  pub held : held1 ≡ held0

-- How an audit ends, by its status.
abbrev pub EndsAs : Option (List ℕ) → Option (List ℕ) → Option (List ℕ) → Option (List ℕ) → Audited → Status → Type 0
EndsAs left0 left1 held0 held1 audited Legal = IsAudited left0 left1 held0 held1 audited
EndsAs left0 left1 held0 held1 audited Illegal = IsAudited left0 left1 held0 held1 audited
EndsAs left0 left1 held0 held1 audited ReadFault = IsUntold held0 held1 audited
EndsAs left0 left1 held0 held1 audited WriteFault = IsAudited left0 left1 held0 held1 audited
EndsAs left0 left1 held0 held1 audited NoMemory = IsUntold held0 held1 audited

abbrev pub Ends : Option (List ℕ) → Option (List ℕ) → Option (List ℕ) → Option (List ℕ) → Audited → Type 0
Ends left0 left1 held0 held1 audited = EndsAs left0 left1 held0 held1 audited audited.status
