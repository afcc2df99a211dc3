-- A session that is played twice, each time to an end of its own, ends in one way.
use Rattle.std.proofs.Common.{◌≡◌, ◌∙◌, inl, inr, ℕ, List, [], Option, Some, None, refl, sym, ap, subst}
use Rattle.vmod_host.specs.declared.signature.Stored.{Stored}
use Rattle.cache_law.specs.declared.setting.Params.{Params}
use Rattle.cache_law.specs.declared.call.Entry.{Entry}
use Rattle.session_text.specs.declared.session.Session.{Session}
use Rattle.session_text.specs.declared.session.NumberedLine.{NumberedLine}
use Rattle.session_text.specs.Lines.{lines_of}
use Rattle.session_text.specs.Sessions.{IsSession, first_place}
use Rattle.session_text.proofs.Meanings.{not_both, reads_same}
use Rattle.vcl_meaning.specs.Meaning.{run_of}
use Rattle.vcl_refusals.proofs.OneTree.{items-one}
use Rattle.vcl_runner.specs.Standing.{one_turn}
use Rattle.vcl_library.specs.Functions.{std_functions}
use Rattle.vcl_library.specs.Meaning.{meant, vcl}
use Rattle.vcl_library.specs.OneMeaning.{like-same}
use Rattle.replay.specs.Laws.{IsOwnEnding, OneSession}
use Rattle.replay.specs.OneWant.{IsOneMeaning, wants-one}
use Rattle.replay.specs.Replayed.{SessionEnds}
use Rattle.replay.specs.declared.session.ReplayError.{ReplayError}
use Rattle.replay.specs.declared.session.ReplayError.TheVariants as refusals
use Rattle.replay.proofs.Sessions.{one_session}
use Rattle.varn_program.specs.declared.outcome.Note.{Note}
use Rattle.varn_program.specs.declared.outcome.Status.{Status}
use Rattle.varn_program.specs.declared.outcome.Status.TheVariants as statuses
use Rattle.varn_program.specs.Laws.{IsOwnStatus, OneReplay}
use Rattle.varn_program.specs.Run.{IsText, PlayedTo, IsRefused, EndsAs, HasSession, opening_boot, outcome_of, plan}
use Rattle.varn_program.proofs.Outcomes.{text_reads}

-- ---- what VCL means is one

vcl-one : IsOneMeaning vcl
vcl-one = record {
  same = λ text one other p q. like-same (meant one.items std_functions) (meant other.items std_functions) (ap (λ items. meant items std_functions) (items-one text one other p q));
  turns = λ tree ran one other p q. one_turn (run_of tree.items std_functions ran.subroutine ran.context ran.answers) one other p q;
}

one_vcl : (params : Params) → OneSession (plan params opening_boot)
one_vcl params = one_session (plan params opening_boot) (wants-one vcl vcl-one)

-- ---- a status of its own is that of an ending of the session's own

abbrev status_for : Option ReplayError → Status
status_for ending = (outcome_of [] [] ending).status

abbrev note_for : Option ReplayError → Option Note
note_for ending = (outcome_of [] [] ending).note

record Ended (stored : List Stored) (params : Params) (session : Session) (held0 held1 : Option (List ℕ)) (history : List Entry) (note : Option Note) (status : Status) : Type 0 where
  ending : Option ReplayError
  own : IsOwnEnding ending
  ends : SessionEnds stored (plan params opening_boot) session history held0 held1 ending
  status_is : status ≡ status_for ending
  note_is : note ≡ note_for ending

module _ (stored : List Stored) (params : Params) (session : Session) (left left1 held0 held1 : Option (List ℕ)) (has : HasSession left session) where
  only : (text : List ℕ) (read : Session) → IsText left left1 text → IsSession text read → read ≡ session
  only text read is_text is_session =
      let same = reads_same (lines_of text) first_place read.lines session.lines read.end session.end is_session (text_reads left left1 text session is_text has) in
      let of_lines : List NumberedLine → ℕ → Session = λ lines end. record { lines = lines; end = end } in
      ap (λ lines. of_lines lines read.end) same.0 ∙ ap (of_lines session.lines) same.1

  played : (history : List Entry) (ending : Option ReplayError) → PlayedTo stored params left left1 held0 held1 history ending → SessionEnds stored (plan params opening_boot) session history held0 held1 ending
  played history ending came = subst (λ (s : Session). SessionEnds stored (plan params opening_boot) s history held0 held1 ending) (only came.0 came.1 came.2 came.3) came.4

  unrefused : (told : Option Note) → IsRefused left left1 told → ⊥
  unrefused told refused =
      not_both (lines_of refused.0) first_place session.lines session.end refused.1 refused.2 (text_reads left left1 refused.0 session refused.3 has) refused.4

  own_ended : (history : List Entry) (told : Option Note) (status : Status) → IsOwnStatus status → EndsAs stored params left left1 held0 held1 history told status → Ended stored params session held0 held1 history told status
  own_ended history told statuses.Done own ends = record { ending = None; own = tt; ends = played history None ends.1; status_is = refl; note_is = ends.0 }
  own_ended history told statuses.Words own ends = absurd own
  own_ended history told statuses.Session own (inl refused) = absurd (unrefused told refused.1)
  own_ended history told statuses.Session own (inr (inl idle)) =
      record { ending = Some (refusals.Idle idle.0); own = tt; ends = played history (Some (refusals.Idle idle.0)) idle.2; status_is = refl; note_is = idle.1 }
  own_ended history told statuses.Session own (inr (inr waits)) =
      record { ending = Some (refusals.Unanswered waits.0); own = tt; ends = played history (Some (refusals.Unanswered waits.0)) waits.2; status_is = refl; note_is = waits.1 }
  own_ended history told statuses.ReadFault own ends = absurd own
  own_ended history told statuses.WriteFault own ends = absurd own
  own_ended history told statuses.NoMemory own ends = absurd own
  own_ended history told statuses.HistoryFull own ends = record { ending = Some refusals.HistoryFull; own = tt; ends = played history (Some refusals.HistoryFull) ends.1; status_is = refl; note_is = ends.0 }

-- ---- two replays

pub one_way : (stored : List Stored) (params : Params) → OneReplay stored params
one_way stored params session left left1 left2 held0 held1 held2 held3 one other has plain ends ends2 own own2 bound =
    let a = own_ended stored params session left left1 held0 held1 has one.history one.note one.status own ends in
    let b = own_ended stored params session left left2 held2 held3 has other.history other.note other.status own2 ends2 in
    let same = one_vcl params stored session one.history other.history held0 held1 held2 held3 a.ending b.ending plain a.ends b.ends a.own b.own bound in
    (b.status_is ∙ (ap status_for same.0 ∙ sym a.status_is), b.note_is ∙ (ap note_for same.0 ∙ sym a.note_is), same.1, same.2, same.3, same.4)
