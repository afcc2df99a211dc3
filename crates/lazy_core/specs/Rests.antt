-- An entry that doesn't concern the lazy cache's shelf leaves it standing.
use Rattle.std.proofs.Common.{◌≡◌, ◌<◌, ◌+◌, ◌++◌, ◌∷◌, ℕ, true, List, [], refl, arith, ap, sym, subst}
use Rattle.cache_law.specs.declared.call.Call.{Call}
use Rattle.cache_law.specs.declared.call.Call.TheVariants.{Insert, Xkey}
use Rattle.cache_law.specs.declared.call.Entry.{Entry}
use Rattle.cache_law.specs.declared.call.Reply.{Reply}
use Rattle.cache_law.specs.declared.call.Reply.TheVariants.{Stored}
use Rattle.cache_law.specs.declared.ban.Issued.{Issued}
use Rattle.cache_law.specs.Beginning.{Beginning}
use Rattle.cache_law.specs.History.{reached}
use Rattle.cache_law.specs.State.{Held, State}
use Rattle.cache_law.proofs.Held.{all-weaken}
use Rattle.cache_desk.specs.Stock.{Stock}
use Rattle.cache_frame.specs.Shelves as shelves
use Rattle.cache_frame.specs.Shelves.{StandsBeside}
use Rattle.lazy_law.specs.Beside.{is_beside}
use Rattle.lazy_law.specs.Placed.{Lazy, Placed}
use Rattle.lazy_law.proofs.Beside.{beside_grows}
use Rattle.lazy_law.proofs.Growing.{reached_push}
use Rattle.lazy_store.specs.Uses.{AreUsedBefore}
use Rattle.lazy_core.specs.Shelf.{StandsBehind}

-- objects that were used before a place were so before each later one
pub used_longer : (place later : ℕ) (objects : List Placed) → later ≡ place + 1 → AreUsedBefore place objects → AreUsedBefore later objects
used_longer place later objects next all = all-weaken (λ (p : Placed). p.used < place) (λ (p : Placed). p.used < later) (λ p less. omega (arith, next, less)) objects all

-- one more entry has the next place
pub entries_push : (beginning : Beginning) (entries : List Entry) (entry : Entry) → (reached beginning (entries ++ entry ∷ [])).entries ≡ (reached beginning entries).entries + 1
entries_push beginning entries entry = ap (λ (s : State). s.entries) (reached_push beginning entries entry)

-- what doesn't concern a shelf stores no object and softens none
beside_late : (call : Call) (reply : Reply) → shelves.is_beside call reply ≡ true → is_beside call reply ≡ true
beside_late (Insert token object stale) (Stored number) e = e
beside_late (Xkey keys soft) reply e = e
beside_late call reply e = refl

pub rests_so : (lazy : Lazy) → StandsBeside StandsBehind lazy
rests_so lazy beginning entries entry sound stands later side same =
    record {
      stands = beside_grows beginning entries entry lazy (beside_late entry.call entry.reply side) later stands.stands (ap (λ (s : Stock). s.issued) same) (ap (λ (s : Stock). s.bans) same) (ap (λ (s : Stock). s.objects) same);
      uses = used_longer (reached beginning entries).entries (reached beginning (entries ++ entry ∷ [])).entries lazy.objects (entries_push beginning entries entry) stands.uses;
    }
