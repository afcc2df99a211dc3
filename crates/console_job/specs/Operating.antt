-- What operators' connections came to, one behind another.
use Rattle.std.specs.Prelude.{◌≡◌, ℕ, List, [], ◌∷◌, ◌++◌, false, length, Option, Some, None}
use Rattle.std.specs.List.{flat_map}
use Rattle.wire.specs.Calls.{joined_count}
use Rattle.wire.specs.Causes.{Rose}
use Rattle.wire.specs.Tapes.{Tape}
use Rattle.wire.specs.Telling.{LinkTold}
use Rattle.wire.specs.Talks.{Adds}
use Rattle.world.specs.Keeping.{IsUntold}
use Rattle.world.specs.declared.file.File.{File}
use Rattle.world.specs.declared.kit.Kit.{Kit}
use Rattle.cache_law.specs.Beginning.{Beginning}
use Rattle.cache_law.specs.declared.call.Entry.{Entry}
use Rattle.vmod_host.specs.declared.signature.Stored.{Stored}
use Rattle.shared_cache.specs.Sharing.{CallerKnows}
use Rattle.crew.specs.Calls.{HasCalled}
use Rattle.entrance.specs.Arriving.{IsNew}
use Rattle.console_link.specs.Complete.{IsComplete, IsUnhindered}
use Rattle.console_link.specs.Talks.{Stand, Talked, places_of}
use Rattle.console_link.specs.declared.talk.ConsoleEnd.TheVariants.{ReadFault, WriteFault}
use Rattle.console_link.specs.declared.talk.ConsoleTalk.{ConsoleTalk}
use Rattle.console_job.specs.declared.job.ConsoleBook.{ConsoleBook}

-- the places of the calls of all lines
abbrev pub places_of_talks : List ConsoleTalk → List ℕ
places_of_talks talks = flat_map (λ talk. places_of talk.lines.items) talks

-- The lurker was at work, or nobody was: the pass may have seen more, and made no call.
pub record HasLurked (x y : Stand) : Type 0 where
  pub called : HasCalled x.known y.known []
  pub readings : y.readings ≡ x.readings
  pub faults : y.faults ≡ x.faults

-- Below, texts of VCLs may call these functions, the shelf has these files, and this is told of links.
module _ {L : Type 0} (stored : List Stored) (files : Option (List File)) (tell : L → LinkTold) where
  -- An operator's connection was accepted when it was new, served, and ended: its lines came over its link, and their answers went over
  -- it. Where nothing hindered the talk, each line was answered.
  pub record IsServed (x y : Stand) (talk : ConsoleTalk) (link : L) : Type 0 where
    pub opening : LinkTold
    pub address : List ℕ
    pub is_new : IsNew opening address
    pub behind : List ℕ
    pub talked : Talked stored files x y opening.flow (tell link).flow [] behind talk.lines.items talk.ended
    pub complete : IsUnhindered opening.read_faults (tell link).read_faults opening.write_faults (tell link).write_faults talk.ended
        → IsComplete stored files x y opening.flow (tell link).flow [] talk.lines.items talk.ended
    pub reads : talk.ended ≡ ReadFault → Rose opening.read_faults (tell link).read_faults
    pub writes : talk.ended ≡ WriteFault → Rose opening.write_faults (tell link).write_faults
    pub stays : (tell link).peer ≡ opening.peer
    pub closed : (tell link).is_open ≡ false

  -- connections served one behind another, each from where the lurker left the console behind the one before it
  abbrev pub AllServed : Stand → Stand → List ConsoleTalk → List L → Type 0
  AllServed x y [] [] = HasLurked x y
  AllServed x y (talk ∷ talks) (link ∷ links) = (begun : Stand) × (mid : Stand) × HasLurked x begun × IsServed begun mid talk link × AllServed mid y talks links
  AllServed x y talks links = ⊥

-- what is told of a console: the stored functions that texts of VCLs may call, its files and how often one couldn't be read, its clock,
-- and how many connections its listener gave
pub record ConsoleTold : Type 0 where
  pub functions : List Stored
  pub files : Option (List File)
  pub faults : ℕ
  pub readings : Option Tape
  pub came : ℕ

-- A console was at work, from what its pass knew to what it knows then. Of each connection that its listener gave there is a talk,
-- where it had given none before.
pub record Did {L T S D K : Type 0} (tell : L → LinkTold) (faults : S → ℕ) (readings : K → Option Tape) (given : T → ℕ)
    (began : ConsoleTold) (book : ConsoleBook T S D K L) (first last : CallerKnows) : Type 0 where
  pub served : AllServed began.functions began.files tell (record { known = first; readings = began.readings; faults = began.faults })
      (record { known = last; readings = readings book.kit.clock; faults = faults book.shelf }) book.talks.items book.links.items
  pub counted : began.came ≡ 0 → given book.listener ≡ joined_count 0 (length book.talks.items)

-- what the operators' side of the outside tells
pub record OperatorsTold (L D K : Type 0) : Type 0 where
  pub links : Option (List L)
  pub kits : Option (List (Kit D K))
  pub given : ℕ
  pub shelf_faults : ℕ

-- Below, a run began so and has this history, and this is told of clocks.
module _ {L D K : Type 0} (stored : List Stored) (files : Option (List File)) (tell : L → LinkTold) (readings : K → Option Tape) (beginning : Beginning) (history : List Entry) where
  -- A console was at work by the run's first pass, from before the first entry; what it has seen in the end is a front of the history. The
  -- outside has its kit back, and the links of its talks, in their order.
  pub record HasOperated (before after : OperatorsTold L D K) (talks : List ConsoleTalk) : Type 0 where
    pub first : CallerKnows
    pub number : first.number ≡ 0
    pub begins : first.setting ≡ Some beginning
    pub unseen : first.seen ≡ []
    pub last : CallerKnows
    pub front : (rest : List Entry) × (history ≡ last.seen ++ rest)
    pub opened : Option Tape
    pub untold : IsUntold opened
    pub kit : Kit D K
    pub faults : ℕ
    pub links : List L
    pub served : AllServed stored files tell (record { known = first; readings = opened; faults = 0 })
        (record { known = last; readings = readings kit.clock; faults = faults }) talks links
    pub links_are : Adds before.links after.links links
    pub kits_are : Adds before.kits after.kits (kit ∷ [])
    pub given_are : after.given ≡ joined_count before.given (length talks)
    pub faults_are : after.shelf_faults ≡ joined_count before.shelf_faults faults

  -- the same where there is a port for a console; else nothing was done
  abbrev pub MayOperate : Option ℕ → OperatorsTold L D K → OperatorsTold L D K → List ConsoleTalk → Type 0
  MayOperate None before after talks = (talks ≡ []) × (after ≡ before)
  MayOperate (Some port) before after talks = HasOperated before after talks
