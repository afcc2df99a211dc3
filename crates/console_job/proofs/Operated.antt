-- What a console was opened with, what it did and how it was taken down, put together.
use Rattle.std.proofs.Common.{◌≡◌, ℕ, List, [], ◌∷◌, false, length, Option, Some, None, refl, ap, ◌∙◌, subst, arith}
use Rattle.std.specs.Prelude.{All, IfSome}
use Rattle.std.proofs.lemmas.List.Elements.{All-nil, All-cons}
use Rattle.cache_law.specs.Beginning.{Beginning}
use Rattle.cache_law.specs.declared.call.Entry.{Entry}
use Rattle.vmod_host.specs.declared.signature.Stored.{Stored}
use Rattle.world.specs.declared.file.File.{File}
use Rattle.world.specs.declared.kit.Kit.{Kit}
use Rattle.wire.specs.Calls.{joined_count}
use Rattle.wire.specs.Tapes.{Tape}
use Rattle.wire.specs.Telling.{LinkTold}
use Rattle.shared_cache.specs.Sharing.{CallerKnows}
use Rattle.crew.specs.Besides.{IsDone, WasDone, places_beside}
use Rattle.console_link.specs.Talks.{Stand}
use Rattle.console_link.specs.declared.talk.ConsoleTalk.{ConsoleTalk}
use Rattle.console_job.specs.Opening.{IsConsoleAt, IsGone, IsOpen, IsTakenDown, talks_of}
use Rattle.console_job.specs.Operating.{AllServed, ConsoleTold, Did, HasOperated, MayOperate, OperatorsTold, places_of_talks}
use Rattle.console_job.specs.declared.job.ConsoleBook.{ConsoleBook}

joined_twice : (before n : ℕ) → joined_count before (joined_count 0 n) ≡ joined_count before n
joined_twice before n = omega arith

abbrev pub operators_told : {L D K : Type 0} → Option (List L) → Option (List (Kit D K)) → ℕ → ℕ → OperatorsTold L D K
operators_told links kits given faults = record { links = links; kits = kits; given = given; shelf_faults = faults }

-- a world's side that tells the same in each part
pub same_told : {L D K : Type 0} (links links' : Option (List L)) (kits kits' : Option (List (Kit D K))) (given given' faults faults' : ℕ) → links' ≡ links → kits' ≡ kits → given' ≡ given → faults' ≡ faults
    → operators_told links' kits' given' faults' ≡ operators_told links kits given faults
same_told links links' kits kits' given given' faults faults' a b c d = cc

-- the places beside the workers are those of the talks' lines
pub places_at : {L T S D K : Type 0} (done : Option (ConsoleBook T S D K L)) → places_beside (λ (book : ConsoleBook T S D K L). places_of_talks book.talks.items) done ≡ places_of_talks (talks_of done)
places_at None = refl
places_at (Some book) = refl

module _ {L : Type 0} (tell : L → LinkTold) where
  closed_each : (stored : List Stored) (files : Option (List File)) (x y : Stand) (talks : List ConsoleTalk) (links : List L) → AllServed stored files tell x y talks links
      → All (λ (link : L). (tell link).is_open ≡ false) links
  closed_each stored files x y [] [] all = All-nil (λ (link : L). (tell link).is_open ≡ false)
  closed_each stored files x y [] (link ∷ links) all = absurd all
  closed_each stored files x y (talk ∷ talks) [] all = absurd all
  closed_each stored files x y (talk ∷ talks) (link ∷ links) all =
      All-cons (λ (l : L). (tell l).is_open ≡ false) link links all.3.closed (closed_each stored files all.1 y talks links all.4)

module _ {J L T S D K : Type 0} (told : J → ConsoleTold) (tell : L → LinkTold) (faults : S → ℕ) (readings : K → Option Tape) (given : T → ℕ) where
  -- what a console does, with what is told of it when it is opened
  abbrev pub Does : J → ConsoleBook T S D K L → CallerKnows → CallerKnows → Type 0
  Does job book first last = Did tell faults readings given (told job) book first last

  -- its links were ended
  pub all_closed : (beginning : Beginning) (history : List Entry) (job : Option J) (done : Option (ConsoleBook T S D K L)) → IsDone Does beginning history job done
      → IfSome done (λ book. All (λ (link : L). (tell link).is_open ≡ false) book.links.items)
  all_closed beginning history None None is = tt
  all_closed beginning history None (Some book) is = absurd is
  all_closed beginning history (Some job) None is = absurd is
  all_closed beginning history (Some job) (Some book) is =
      closed_each tell (told job).functions (told job).files (record { known = is.first; readings = (told job).readings; faults = (told job).faults })
      (record { known = is.last; readings = readings book.kit.clock; faults = faults book.shelf }) book.talks.items book.links.items is.did.served

  module _ (stored : List Stored) (files : Option (List File)) (beginning : Beginning) (history : List Entry) where
    has_operated : (job : J) (book : ConsoleBook T S D K L) (before after : OperatorsTold L D K) → IsOpen stored files (told job)
        → WasDone Does beginning history job book → IsTakenDown faults given book before after
        → HasOperated stored files tell readings beginning history before after book.talks.items
    has_operated job book before after was_open was down =
        let left : Stand = record { known = was.last; readings = readings book.kit.clock; faults = faults book.shelf } in
        let begun : ℕ → Stand = λ n. record { known = was.first; readings = (told job).readings; faults = n } in
        record {
          first = was.first;
          number = was.number;
          begins = was.begins;
          unseen = was.unseen;
          last = was.last;
          front = was.front;
          opened = (told job).readings;
          untold = was_open.untold;
          kit = book.kit;
          faults = faults book.shelf;
          links = book.links.items;
          served = subst (λ (s : List Stored). AllServed s files tell (begun 0) left book.talks.items book.links.items) was_open.functions
              (subst (λ (f : Option (List File)). AllServed (told job).functions f tell (begun 0) left book.talks.items book.links.items) was_open.shelf
              (subst (λ (n : ℕ). AllServed (told job).functions (told job).files tell (begun n) left book.talks.items book.links.items) was_open.no_fault was.did.served));
          links_are = down.links_are;
          kits_are = down.kits_are;
          given_are = down.given_are ∙ (ap (λ (n : ℕ). joined_count before.given n) (was.did.counted was_open.nobody) ∙ joined_twice before.given (length book.talks.items));
          faults_are = down.faults_are;
        }

    -- where there was a port for it, it was at work
    pub may_operate : (port : Option ℕ) (job : Option J) (done : Option (ConsoleBook T S D K L)) (before after : OperatorsTold L D K)
        → IsConsoleAt port job (λ (j : J). IsOpen stored files (told j)) → IsDone Does beginning history job done → IsGone faults given done before after
        → MayOperate stored files tell readings beginning history port before after (talks_of done)
    may_operate None None None before after was_open is gone = (refl, gone)
    may_operate None None (Some book) before after was_open is gone = absurd is
    may_operate None (Some job) _ before after was_open is gone = absurd was_open
    may_operate (Some port) None _ before after was_open is gone = absurd was_open
    may_operate (Some port) (Some job) None before after was_open is gone = absurd is
    may_operate (Some port) (Some job) (Some book) before after was_open is gone = has_operated job book before after was_open is gone
