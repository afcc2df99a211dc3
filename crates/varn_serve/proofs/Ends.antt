-- How a run ends in which nothing was served.
use Rattle.std.proofs.Common.{◌≡◌, ◌⊎◌, inl, inr, ℕ, Bool, true, false, List, Option, Result, Ok, Err, refl, sym, ◌∙◌, ap, subst}
use Rattle.std.specs.Prelude.{IfErr, IsErrAnd}
use Rattle.vmod_host.specs.declared.signature.Stored.{Stored}
use Rattle.world.specs.declared.file.File.{File}
use Rattle.command_line.specs.declared.order.ServeOptions.{ServeOptions}
use Rattle.boot_file.specs.declared.error.BootError.{BootError}
use Rattle.boot_file.specs.declared.error.BootError.TheVariants as without
use Rattle.boot_file.specs.Booting.{Why}
use Rattle.varn_serve.specs.declared.ending.Served.{Served}
use Rattle.varn_serve.specs.declared.ending.VclNote.{VclNote}
use Rattle.varn_serve.specs.declared.ending.Status.{Status}
use Rattle.varn_serve.specs.declared.ending.Status.TheVariants.{Done, ReadFault, WriteFault, NoMemory, ListenFault, Vcl, HistoryFull}
use Rattle.varn_serve.specs.Run.{EndsAs, Halts, IsAccepted, IsComplete, IsIdle, Outside, found_full, is_full_status, is_unserved, unbooted_status, unbooted_note, unserved}

module _ (N : Type 0) (read listen write : Type 0) (ended : Bool) (held : Option (List ℕ)) (files : Option (List File)) (stored : List Stored) (order : ServeOptions) where
  pub unbooted_ends : (error : BootError) → Why files order.file stored read error
      → EndsAs (record { read_failed = read; listen_failed = listen; write_failed = write; ended = ended; held = held; holds = held }) files stored order
      (unserved {N = N} (unbooted_status error) (unbooted_note error)) (unbooted_status error)
  unbooted_ends without.Missing why = (why, refl)
  unbooted_ends without.Unreadable why = (refl, why, refl)
  unbooted_ends (without.Refused _ _) why = (why, refl)
  unbooted_ends without.NoMemory why = (refl, refl)

-- the same of what was answered then
pub unbooted_so : {N : Type 0} (read listen write : Type 0) (ended : Bool) (held : Option (List ℕ)) (files : Option (List File)) (stored : List Stored) (order : ServeOptions) (error : BootError) (served : Served N)
    → served ≡ unserved (unbooted_status error) (unbooted_note error) → Why files order.file stored read error
    → EndsAs (record { read_failed = read; listen_failed = listen; write_failed = write; ended = ended; held = held; holds = held }) files stored order served served.status
unbooted_so {N} read listen write ended held files stored order error served same why =
    subst (λ (s : Served N). EndsAs (record { read_failed = read; listen_failed = listen; write_failed = write; ended = ended; held = held; holds = held }) files stored order s s.status)
    (sym same) (unbooted_ends N read listen write ended held files stored order error why)

unbooted_unserved : (error : BootError) → is_unserved (unbooted_status error) ≡ true
unbooted_unserved without.Missing = refl
unbooted_unserved without.Unreadable = refl
unbooted_unserved (without.Refused _ _) = refl
unbooted_unserved without.NoMemory = refl

halted_unserved : (failed : Type 0) (status : Status) → Halts failed status → is_unserved status ≡ true
halted_unserved failed NoMemory halts = refl
halted_unserved failed ListenFault halts = refl
halted_unserved failed Done halts = absurd halts
halted_unserved failed ReadFault halts = absurd halts
halted_unserved failed WriteFault halts = absurd halts
halted_unserved failed Vcl halts = absurd halts
halted_unserved failed HistoryFull halts = absurd halts

-- a run in which nothing was served, of a world that was left as it was
module _ {N K O : Type 0} (before after : Option (List K)) (operators operators' : O) (served : Served N) (kits : after ≡ before) (untouched : operators' ≡ operators) (status : Status)
    (note : Option VclNote) (same : served ≡ unserved status note) where
  idle_of : is_unserved status ≡ true → IsIdle before after operators operators' served
  idle_of unserved = record {
    kits = kits;
    untouched = untouched;
    no_entry = ap (λ (s : Served N). s.history) same;
    no_keeper = ap (λ (s : Served N). s.keepers) same;
    no_connection = ap (λ (s : Served N). s.connections) same;
    no_talk = ap (λ (s : Served N). s.console) same;
    no_round = ap (λ (s : Served N). s.tally) same;
    unserved = ap (λ (s : Served N). is_unserved s.status) same ∙ unserved;
  }

  pub idle_halted : (failed : Type 0) → Halts failed status → IsIdle before after operators operators' served
  idle_halted failed halts = idle_of (halted_unserved failed status halts)

pub idle_unbooted : {N K O : Type 0} (before after : Option (List K)) (operators operators' : O) (served : Served N) → after ≡ before → operators' ≡ operators → (error : BootError)
    → served ≡ unserved (unbooted_status error) (unbooted_note error) → IsIdle before after operators operators' served
idle_unbooted before after operators operators' served kits untouched error same = idle_of before after operators operators' served kits untouched (unbooted_status error) (unbooted_note error) same (unbooted_unserved error)

-- ---- a run that nothing hindered

module _ {N : Type 0} (outside : Outside) (files : Option (List File)) (stored : List Stored) (order : ServeOptions) (served : Served N) where
  complete_as : (status : Status) → EndsAs outside files stored order served status → is_full_status status ≡ found_full served
      → ¬ outside.read_failed → ¬ outside.listen_failed → ¬ outside.write_failed → IsAccepted files stored order.file → found_full served ≡ false
      → (status ≡ Done) ⊎ (status ≡ NoMemory)
  complete_as Done ends full read listen write accepted fits = inl refl
  complete_as NoMemory ends full read listen write accepted fits = inr refl
  complete_as ReadFault ends full read listen write accepted fits = absurd (read ends.1)
  complete_as WriteFault ends full read listen write accepted fits = absurd (write ends.2)
  complete_as ListenFault ends full read listen write accepted fits = absurd (listen ends.1)
  complete_as Vcl ends full read listen write accepted fits = absurd (accepted served.note ends.0)
  complete_as HistoryFull ends full read listen write accepted fits = absurd (let never : true ≡ false = full ∙ fits in cc)

  pub is_complete : EndsAs outside files stored order served served.status → is_full_status served.status ≡ found_full served → IsComplete outside files stored order served
  is_complete ends full = λ read listen write accepted fits. complete_as served.status ends full read listen write accepted fits

-- what failed is one of more that may have failed
halts_more : (failed more : Type 0) → (failed → more) → (status : Status) → Halts failed status → Halts more status
halts_more failed more wider NoMemory halts = tt
halts_more failed more wider ListenFault halts = wider halts
halts_more failed more wider Done halts = absurd halts
halts_more failed more wider ReadFault halts = absurd halts
halts_more failed more wider WriteFault halts = absurd halts
halts_more failed more wider Vcl halts = absurd halts
halts_more failed more wider HistoryFull halts = absurd halts

-- the same of what a question mark hands on
pub halted_more : {T : Type 0} (failed more : Type 0) → (failed → more) → (result : Result T Status) (status : Status) → IsErrAnd result (λ e. e ≡ status) → Halts failed status → IfErr result (Halts more)
halted_more failed more wider (Ok came) status is halts = absurd is
halted_more failed more wider (Err error) status is halts = subst (λ (s : Status). Halts more s) (sym is) (halts_more failed more wider status halts)
