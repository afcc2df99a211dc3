-- Connections one behind another, and the calls that were made for them.
use Rattle.std.proofs.Common.{◌≡◌, ◌^◌, ◌-◌, ◌≤◌, ◌+◌, ℕ, List, [], ◌∷◌, ◌++◌, length, Option, refl, sym, ap, ◌∙◌, subst, arith}
use Rattle.std.proofs.lemmas.Grind.{flat_map-append}
use Rattle.std.proofs.lemmas.List.{append-nil, length-append}
use Rattle.cache_law.specs.declared.call.Entry.{Entry}
use Rattle.world.specs.declared.file.File.{File}
use Rattle.vmod_host.specs.declared.signature.Stored.{Stored}
use Rattle.turnstile.specs.Knowledge.{saw}
use Rattle.shared_cache.specs.Sharing.{CallerKnows}
use Rattle.wire.specs.Calls.{joined_count}
use Rattle.wire.specs.Causes.{next_count}
use Rattle.wire.specs.Telling.{LinkTold}
use Rattle.crew.specs.Calls.{HasCalled}
use Rattle.crew.proofs.Called.{called_none, called_then}
use Rattle.console_link.specs.Talks.{Stand, places_of}
use Rattle.console_link.specs.declared.talk.ConsoleTalk.{ConsoleTalk}
use Rattle.console_job.specs.Operating.{AllServed, HasLurked, IsServed, places_of_talks}
use Rattle.console_job.proofs.Growing.{grew_talk}

pub lurked_none : (x : Stand) → HasLurked x x
lurked_none x = record {
  called = called_none x.known;
  readings = refl;
  faults = refl;
}

lurked_then : (x y z : Stand) → HasLurked x y → HasLurked y z → HasLurked x z
lurked_then x y z one two = record {
  called = called_then x.known y.known z.known [] [] one.called two.called;
  readings = two.readings ∙ one.readings;
  faults = two.faults ∙ one.faults;
}

-- no call was made for the lurker
pub called_lurked : (k : CallerKnows) (y z : Stand) (places : List ℕ) → HasCalled k y.known places → HasLurked y z → HasCalled k z.known places
called_lurked k y z places called lurked =
    subst (λ (ps : List ℕ). HasCalled k z.known ps) (append-nil places) (called_then k y.known z.known places [] called lurked.called)

module _ {L : Type 0} (stored : List Stored) (files : Option (List File)) (tell : L → LinkTold) where
  -- one more behind the others
  pub served_more : (talks : List ConsoleTalk) (links : List L) (talk : ConsoleTalk) (link : L) (x y z : Stand) → AllServed stored files tell x y talks links
      → IsServed stored files tell y z talk link → AllServed stored files tell x z (talks ++ talk ∷ []) (links ++ link ∷ [])
  served_more [] [] talk link x y z lurked served = (y, z, lurked, served, lurked_none z)
  served_more [] (l ∷ ls) talk link x y z all served = absurd all
  served_more (t ∷ ts) [] talk link x y z all served = absurd all
  served_more (t ∷ ts) (l ∷ ls) talk link x y z all served = (all.0, all.1, all.2, all.3, served_more ts ls talk link all.1 y z all.4 served)

  -- the lurker was at work behind them
  pub served_lurked : (talks : List ConsoleTalk) (links : List L) (x y z : Stand) → AllServed stored files tell x y talks links → HasLurked y z
      → AllServed stored files tell x z talks links
  served_lurked [] [] x y z all lurked = lurked_then x y z all lurked
  served_lurked [] (l ∷ ls) x y z all lurked = absurd all
  served_lurked (t ∷ ts) [] x y z all lurked = absurd all
  served_lurked (t ∷ ts) (l ∷ ls) x y z all lurked = (all.0, all.1, all.2, all.3, served_lurked ts ls all.1 y z all.4 lurked)

  -- the calls that were made for one
  called_one : (x y : Stand) (talk : ConsoleTalk) (link : L) → IsServed stored files tell x y talk link → y.known ≡ saw x.known y.known.seen
      → HasCalled x.known y.known (places_of talk.lines.items)
  called_one x y talk link served knows =
      let grew = grew_talk stored files x y served.opening.flow (tell link).flow [] served.behind talk.lines.items talk.ended served.talked in
      record {
        between = grew.0;
        knows = knows ∙ ap (λ (h : List Entry). saw x.known h) grew.1;
        gained = served.talked.gained;
      }

  -- behind those that were made for the others
  pub called_more : (talks : List ConsoleTalk) (talk : ConsoleTalk) (link : L) (k : CallerKnows) (y z : Stand) → HasCalled k y.known (places_of_talks talks)
      → IsServed stored files tell y z talk link → z.known ≡ saw y.known z.known.seen → HasCalled k z.known (places_of_talks (talks ++ talk ∷ []))
  called_more talks talk link k y z called served knows =
      let places : places_of_talks (talks ++ talk ∷ []) ≡ places_of_talks talks ++ places_of talk.lines.items =
      flat_map-append (λ (t : ConsoleTalk). places_of t.lines.items) talks (talk ∷ [])
      ∙ ap (λ (ps : List ℕ). places_of_talks talks ++ ps) (append-nil (places_of talk.lines.items)) in
      subst (λ (ps : List ℕ). HasCalled k z.known ps) (sym places)
      (called_then k y.known z.known (places_of_talks talks) (places_of talk.lines.items) called (called_one y z talk link served knows))

-- one more was given
pub given_more : (given given' : ℕ) (talks : List ConsoleTalk) (talk : ConsoleTalk) → given ≡ joined_count 0 (length talks) → given' ≡ next_count given
    → given' ≡ joined_count 0 (length (talks ++ talk ∷ []))
given_more given given' talks talk so_far one =
    let count : length (talks ++ talk ∷ []) ≡ length talks + 1 = length-append talks (talk ∷ []) in
    rw count (omega (arith, so_far, one))
