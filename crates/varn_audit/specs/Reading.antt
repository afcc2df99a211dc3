-- What an audit was fed of a source.
use Rattle.std.specs.Prelude.{◌≡◌, ◌++◌, ℕ, Option, List, length}
use Rattle.std.specs.Io.KnownBytes.{Consumes, IsAtEnd}
use Rattle.wire.specs.Content.{ReadsUpTo}
use Rattle.audit_laws.specs.Journals.{most_bytes}
use Rattle.journal_audit.specs.declared.auditor.Auditor.{Auditor}
use Rattle.journal_audit.specs.Feeding.{IsFed}
use Rattle.history_audit.specs.declared.following.Following.{Following}
use Rattle.history_audit.specs.Alongside.{Stands}

-- one reading of the source gave so many bytes, and the audit was fed these; it gives none only at the end
pub record HasTaken (before after : Option (List ℕ)) (auditor next : Auditor Following) (count : ℕ) : Type 0 where
  pub bytes : List ℕ
  pub front : Consumes before after bytes
  pub feeds : (fed : List ℕ) → IsFed Stands auditor fed → IsFed Stands next (fed ++ bytes)
  pub many : length bytes ≡ count
  pub ends : count ≡ 0 → IsAtEnd after

-- the audit was fed so many bytes, which stood at the source's front
pub record HasFed (before after : Option (List ℕ)) (auditor : Auditor Following) (count : ℕ) : Type 0 where
  pub bytes : List ℕ
  pub front : Consumes before after bytes
  pub fed : IsFed Stands auditor bytes
  pub many : length bytes ≡ count

-- the audit was fed the journal: all that the source had left, or one byte more than a journal has where it had more
pub record HasRead (before after : Option (List ℕ)) (auditor : Auditor Following) : Type 0 where
  pub bytes : List ℕ
  pub text : ReadsUpTo most_bytes before after bytes
  pub fed : IsFed Stands auditor bytes
