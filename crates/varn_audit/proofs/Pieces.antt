-- An audit that is fed a source piece by piece.
use Rattle.std.proofs.Common.{◌≡◌, ℕ, ◌+◌, ◌<◌, ◌≤◌, List, [], ◌++◌, length, take, refl, arith, sym, subst, length-append}
use Rattle.std.specs.Prelude.{Option}
use Rattle.std.proofs.lemmas.List.{length-take-le}
use Rattle.std.specs.Io.KnownBytes.{Consumes, IsAtEnd}
use Rattle.std.proofs.KnownBytes.{Consumes-nil, Consumes-trans}
use Rattle.audit_laws.specs.Journals.{most_bytes}
use Rattle.journal_audit.specs.declared.auditor.Auditor.{Auditor}
use Rattle.journal_audit.specs.Feeding.{IsFed}
use Rattle.history_audit.specs.declared.following.Following.{Following}
use Rattle.history_audit.specs.Alongside.{Stands}
use Rattle.varn_audit.specs.Reading.{HasFed, HasRead, HasTaken}

-- the audit was fed what the source put into the room
pub takes_piece : (before after : Option (List ℕ)) (auditor next : Auditor Following) (count : ℕ) (room piece : List ℕ) → Consumes before after (take count room) → (count ≡ 0 → 0 < length room → IsAtEnd after) → count ≤ length room
    → 0 < length room → piece ≡ take count room → ((fed : List ℕ) → IsFed Stands auditor fed → IsFed Stands next (fed ++ piece)) → HasTaken before after auditor next count
takes_piece before after auditor next count room piece front ends within some same feeds = record {
  bytes = take count room;
  front = front;
  feeds = λ fed was. subst (λ (b : List ℕ). IsFed Stands next (fed ++ b)) same (feeds fed was);
  many = length-take-le count room within;
  ends = λ none. ends none some;
}

pub none_read : (left : Option (List ℕ)) (auditor : Auditor Following) → IsFed Stands auditor [] → HasFed left left auditor 0
none_read left auditor fed = record { bytes = []; front = Consumes-nil left; fed = fed; many = refl }

pub piece_read : (before middle after : Option (List ℕ)) (auditor next : Auditor Following) (count more : ℕ) → HasFed before middle auditor count → HasTaken middle after auditor next more → HasFed before after next (count + more)
piece_read before middle after auditor next count more has taken =
    let many = has.many in
    let size = taken.many in
    let parts = length-append has.bytes taken.bytes in
    record {
      bytes = has.bytes ++ taken.bytes;
      front = Consumes-trans before middle after has.bytes taken.bytes has.front taken.front;
      fed = taken.feeds has.bytes has.fed;
      many = omega (arith, many, size, parts);
    }

all_read : (before after : Option (List ℕ)) (auditor : Auditor Following) (count : ℕ) → HasFed before after auditor count → count ≤ most_bytes + 1 → (count ≤ most_bytes → IsAtEnd after) → HasRead before after auditor
all_read before after auditor count has bound ends =
    let many = has.many in
    record {
      bytes = has.bytes;
      text = record { front = has.front; whole = λ few. ends (omega (arith, few, many)); bound = omega (arith, bound, many) };
      fed = has.fed;
    }

-- a reading gave nothing
pub whole_read : (before middle after : Option (List ℕ)) (auditor next : Auditor Following) (count more : ℕ) → HasFed before middle auditor count → HasTaken middle after auditor next more → more ≡ 0 → count ≤ most_bytes + 1 → HasRead before after next
whole_read before middle after auditor next count more has taken none bound =
    all_read before after next (count + more) (piece_read before middle after auditor next count more has taken) (omega (arith, bound, none)) (λ few. taken.ends none)

-- more bytes came than a journal has
pub much_read : (before after : Option (List ℕ)) (auditor : Auditor Following) (count : ℕ) → HasFed before after auditor count → count ≤ most_bytes + 1 → most_bytes < count → HasRead before after auditor
much_read before after auditor count has bound much = all_read before after auditor count has bound (λ few. absurd (omega (arith, few, much)))
