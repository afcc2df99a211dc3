-- How an audit ends whose finding was told.
use Rattle.std.proofs.Common.{◌≡◌, ℕ, List, refl, sym, subst}
use Rattle.std.specs.Prelude.{Option}
use Rattle.std.specs.Io.KnownBytes.{Appends}
use Rattle.journal_audit.specs.declared.auditor.Finding.{Finding}
use Rattle.journal_audit.specs.declared.auditor.Finding.TheVariants.{Bad, Legal as LegalFinding}
use Rattle.journal_audit.specs.Feeding.{IsFinding}
use Rattle.varn_audit.specs.declared.outcome.Audited.{Audited}
use Rattle.varn_audit.specs.declared.outcome.Status.{Status}
use Rattle.varn_audit.specs.declared.outcome.Status.TheVariants.{Legal, Illegal, ReadFault, WriteFault, NoMemory}
use Rattle.varn_audit.specs.Run.{Ends, EndsAs, IsText, Tells, audited_as}
use Rattle.varn_audit.specs.Texts.{finding_text}

ends_as : (left0 left1 held0 held1 : Option (List ℕ)) (bytes : List ℕ) (finding : Finding) (audited : Audited) (status : Status) → status ≡ audited.status → IsText left0 left1 bytes → IsFinding bytes finding
    → Tells held0 held1 finding audited status → EndsAs left0 left1 held0 held1 audited status
ends_as left0 left1 held0 held1 bytes finding audited Legal is text holds told = record { bytes = bytes; text = text; finding = finding; holds = holds; told = subst (λ (s : Status). Tells held0 held1 finding audited s) is told }
ends_as left0 left1 held0 held1 bytes finding audited Illegal is text holds told = record { bytes = bytes; text = text; finding = finding; holds = holds; told = subst (λ (s : Status). Tells held0 held1 finding audited s) is told }
ends_as left0 left1 held0 held1 bytes finding audited ReadFault is text holds told = absurd told
ends_as left0 left1 held0 held1 bytes finding audited WriteFault is text holds told = record { bytes = bytes; text = text; finding = finding; holds = holds; told = subst (λ (s : Status). Tells held0 held1 finding audited s) is told }
ends_as left0 left1 held0 held1 bytes finding audited NoMemory is text holds told = record { note = told.0; held = told.1 }

pub ends : (left0 left1 held0 held1 : Option (List ℕ)) (bytes : List ℕ) (finding : Finding) (audited : Audited) → IsText left0 left1 bytes → IsFinding bytes finding → Tells held0 held1 finding audited audited.status
    → Ends left0 left1 held0 held1 audited
ends left0 left1 held0 held1 bytes finding audited text holds told = ends_as left0 left1 held0 held1 bytes finding audited audited.status refl text holds told

-- its whole line was written
pub told_whole : (held0 held1 : Option (List ℕ)) (finding : Finding) (audited : Audited) → audited ≡ audited_as finding → Appends held0 held1 (finding_text finding) → Tells held0 held1 finding audited audited.status
told_whole held0 held1 (LegalFinding entries segments) audited is appends = subst (λ (a : Audited). Tells held0 held1 (LegalFinding entries segments) a a.status) (sym is) (refl, appends)
told_whole held0 held1 (Bad line kind expected) audited is appends = subst (λ (a : Audited). Tells held0 held1 (Bad line kind expected) a a.status) (sym is) (refl, appends)
