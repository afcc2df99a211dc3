-- Why no more connections were accepted, and what the history is that a closed cache gives.
use Rattle.std.proofs.Common.{◌≡◌, ℕ, ◌≤◌, ◌||◌, Bool, List, [], ◌++◌, map, Option, Some, None, sym, ap, ◌∙◌, subst, arith}
use Rattle.std.specs.Option.{unwrap_or}
use Rattle.cache_law.specs.declared.call.Entry.{Entry}
use Rattle.cache_law.specs.Beginning.{Beginning}
use Rattle.cache_law.specs.History.{Legal}
use Rattle.turnstile.specs.Knowledge.{saw}
use Rattle.shared_cache.specs.Sharing.{CallerKnows, SeesLegal}
use Rattle.wire.specs.Causes.{Rose}
use Rattle.wire.specs.Calls.{joined_count}
use Rattle.entrance.specs.Shutting.{Why}
use Rattle.entrance.specs.declared.remains.Reason.{Reason}
use Rattle.entrance.specs.declared.remains.Reason.TheVariants.{Full, Ended, Failed, NoMemory}
use Rattle.crew.specs.Running.{Stopped}

rose_by : (count faults : ℕ) → 1 ≤ faults → Rose count (joined_count count faults)
rose_by count faults some = omega arith

stopped_so : (reason : Option Reason) (most count left faults before : ℕ) (ended was : Bool) → Why reason most count left faults ended
    → Stopped (unwrap_or reason NoMemory) most count (ended || was) before (joined_count before faults)
stopped_so None most count left faults before ended was why = tt
stopped_so (Some Full) most count left faults before ended was why = why
stopped_so (Some Ended) most count left faults before ended was why = ap (λ (b : Bool). b || was) why
stopped_so (Some Failed) most count left faults before ended was why = rose_by before faults why
stopped_so (Some NoMemory) most count left faults before ended was why = tt

pub stopped_by : (reason : Option Reason) (most count counted left faults before after : ℕ) (ended was is : Bool) → Why reason most count left faults ended
    → counted ≡ count → is ≡ (ended || was) → after ≡ joined_count before faults → Stopped (unwrap_or reason NoMemory) most counted is before after
stopped_by reason most count counted left faults before after ended was is why same said rose =
    subst (λ (n : ℕ). Stopped (unwrap_or reason NoMemory) most n is before after) (sym same)
    (subst (λ (b : Bool). Stopped (unwrap_or reason NoMemory) most count b before after) (sym said)
    (subst (λ (n : ℕ). Stopped (unwrap_or reason NoMemory) most count (ended || was) before n) (sym rose) (stopped_so reason most count left faults before ended was why)))

same_some : (o : Option Beginning) (x y : Beginning) → o ≡ Some x → o ≡ Some y → x ≡ y
same_some o x y a b = cc

pub legal_of : (k after : CallerKnows) (history : List Entry) (beginning : Beginning) → after ≡ saw k history → SeesLegal after → k.setting ≡ Some beginning
    → Legal beginning history
legal_of k after history beginning saw_all sees set =
    let begun : after.setting ≡ Some beginning = ap (λ (z : CallerKnows). z.setting) saw_all ∙ set in
    let is = same_some after.setting sees.beginning beginning sees.begins begun in
    subst (λ (b : Beginning). Legal b history) is (subst (λ (h : List Entry). Legal sees.beginning h) (ap (λ (z : CallerKnows). z.seen) saw_all) sees.legal)

-- behind an empty list
pub behind_none : {X Y : Type 0} → (f : X → Y) (old new : List X) (more : List Y) → old ≡ [] → map f new ≡ map f old ++ more → map f new ≡ more
behind_none {X = X} f old new more none all = all ∙ ap (λ (xs : List X). map f xs ++ more) none

pub all_behind_none : {X : Type 0} → (old new more : List X) → old ≡ [] → new ≡ old ++ more → new ≡ more
all_behind_none {X = X} old new more none all = all ∙ ap (λ (xs : List X). xs ++ more) none
