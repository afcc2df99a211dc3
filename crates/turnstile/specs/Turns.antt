-- The rule of the lock: what is true between any two steps of any threads.
-- The table has two words, the next ticket and the ticket that is served, and one slot with the value.
-- The log isn't stored: its entries are the history of the value, or, while the value is out, what the pass that has it has seen.
use Rattle.std.specs.Prelude.{◌≡◌, ◌≢◌, ◌⊎◌, ℕ, ◌+◌, ◌-◌, ◌%◌, ◌^◌, ◌<◌, ◌≤◌, List, [], ◌∷◌, sum_by, Option, Some, All, Contains}
use mathlib.Core.Option.{some}
use mathlib.Core.Option as maybe
use lib.ListN.{get_elem?}
use Rattle.atomic_table.specs.Table.{State}
use Rattle.turnstile.specs.declared.knowledge.Known.{Known}
use Rattle.turnstile.specs.declared.knowledge.View.{View}
use Rattle.turnstile.specs.declared.knowledge.Stage.{Stage}
use Rattle.turnstile.specs.declared.knowledge.Stage.TheVariants.{Waiting, Inside, Joining, Spent}
use Rattle.turnstile.specs.Knowledge.{ended_numbers, Owns, Covers, Grown, EndedStay}

module _ {E G : Type 0} where
  -- the stage has this ticket
  abbrev pub HasTicket : Stage E G → ℕ → Type 0
  HasTicket (Waiting t) ticket = t ≡ ticket
  HasTicket (Inside t) ticket = t ≡ ticket
  HasTicket _ ticket = ⊥

  -- how many tickets it has
  abbrev pub tickets_of : Stage E G → ℕ
  tickets_of (Waiting t) = 1
  tickets_of (Inside t) = 1
  tickets_of _ = 0

  abbrev pub IsInside : Stage E G → ℕ → Type 0
  IsInside (Inside t) ticket = t ≡ ticket
  IsInside _ ticket = ⊥

  -- it wasn't joined into another
  abbrev pub IsLive : Stage E G → Type 0
  IsLive Spent = ⊥
  IsLive _ = Unit {0}

  abbrev pub queued : View E G → ℕ
  queued v = tickets_of v.stage

  abbrev pub width : View E G → ℕ
  width v = v.known.upto - v.known.number

  -- the seat with this number has this view
  abbrev pub Sits : List (View E G) → ℕ → View E G → Type 0
  Sits views seat v = get_elem? views seat ≡ some v

  -- the next ticket: as many are out as there are views that have one
  abbrev pub next_ticket : ℕ → List (View E G) → ℕ
  next_ticket turns views = turns + sum_by queued views

  -- Tickets are whole numbers, and the words have them modulo 2 ^ 64. Those in the views differ, and as many as there are
  -- lie from the number of finished turns on and below the next: so they are all the numbers there. Each pass has a span
  -- of its own below 2 ^ 32, so that no two tickets that are out are one number in the words.
  pub record TicketsInOrder (words : List ℕ) (views : List (View E G)) (turns : ℕ) : Type 0 where
    pub words_are : words ≡ (next_ticket turns views % 2 ^ 64) ∷ (turns % 2 ^ 64) ∷ []
    pub within : (seat : ℕ) (v : View E G) (t : ℕ) → Sits views seat v → HasTicket v.stage t → (turns ≤ t) × (t < next_ticket turns views)
    pub differ : (seat other : ℕ) (v w : View E G) (t : ℕ) → Sits views seat v → Sits views other w → HasTicket v.stage t → HasTicket w.stage t → seat ≡ other
    pub narrow : sum_by width views ≤ 2 ^ 32

  -- Spans of live views and all ended numbers are disjoint
  abbrev pub NumbersApart : List (View E G) → Type 0
  NumbersApart views =
      (seat other : ℕ) (v w : View E G) (n : ℕ) → Sits views seat v → Sits views other w → Covers v.known n → Covers w.known n → seat ≡ other

  -- what a live view says of its own numbers
  pub record OwnNumbers (first : ℕ) (setting : G) (k : Known E G) : Type 0 where
    pub first_is : k.first ≡ first
    pub setting_is : k.setting ≡ Some setting
    pub spans : k.number < k.upto
    pub ended_outside : (n : ℕ) → Contains (ended_numbers k) n → k.number ≤ n → n < k.upto → ⊥

  -- a live view owns the number
  abbrev pub IsOwned : List (View E G) → ℕ → Type 0
  IsOwned views n = (seat : ℕ) × (v : View E G) × Sits views seat v × IsLive v.stage × Owns v.known n

  -- the number was split off from a smaller one that a live view owns
  abbrev pub IsMade : List (View E G) → ℕ → Type 0
  IsMade views n =
      (seat : ℕ) × (v : View E G) × (m : ℕ) × Sits views seat v × IsLive v.stage × Owns v.known m × (m < n) × Contains v.known.made n

  -- each number that is owned, but the first, was split off from a smaller one
  abbrev pub NumbersRooted : ℕ → List (View E G) → Type 0
  NumbersRooted first views =
      (seat : ℕ) (v : View E G) (n : ℕ) → Sits views seat v → IsLive v.stage → Owns v.known n → n ≢ first → IsMade views n

module _ {E G : Type 0} (caller : E → ℕ) where
  -- what a view that has just taken in another knows of what the two had seen
  abbrev pub JoinedBoth : Stage E G → Known E G → Type 0
  JoinedBoth (Joining k o) known = Grown caller k known.seen × Grown caller o known.seen
  JoinedBoth _ known = Unit {0}

  -- the history so far begins with what a view has seen, and nothing that it owns was entered since
  pub record SeenAFront (v : View E G) (log : List E) : Type 0 where
    pub grown : Grown caller v.known log
    pub both : JoinedBoth v.stage v.known

  -- Each number has one owner at most, and each entry's caller has one. The places of an ended number are those that it had.
  pub record NumbersKept (views : List (View E G)) (log : List E) (first : ℕ) (setting : G) : Type 0 where
    pub apart : NumbersApart views
    pub own : (seat : ℕ) (v : View E G) → Sits views seat v → IsLive v.stage → OwnNumbers first setting v.known
    pub ended : (seat : ℕ) (v : View E G) → Sits views seat v → IsLive v.stage → EndedStay caller v.known log
    pub authored : All (λ e. IsOwned views (caller e)) log

module _ {T E G : Type 0} where
  -- a view whose ticket is served has it
  abbrev pub IsOut : List (maybe.Option (Option T)) → List (View E G) → ℕ → Type 0
  IsOut homes views turns = (h : maybe.Option (Option T)) × (homes ≡ h ∷ []) × (seat : ℕ) × (v : View E G) × Sits views seat v × IsInside v.stage turns

module _ {T E G : Type 0} (history : T → List E) (setting_of : T → G) (Sound : T → Type 0) where
  -- the value is at home, and nobody is inside
  abbrev pub IsHome : List (maybe.Option (Option T)) → List (View E G) → List E → G → Type 0
  IsHome homes views log setting =
      (x : T) × (homes ≡ some (Some x) ∷ []) × (history x ≡ log) × (setting_of x ≡ setting) × Sound x
      × ((seat : ℕ) (v : View E G) (t : ℕ) → Sits views seat v → ¬ (IsInside v.stage t))

  -- The slot is out exactly where the view whose ticket is served has it. While it is home, the value's history is the log;
  -- while it is out, the log is what that view has seen.
  pub record SlotInPlace (homes : List (maybe.Option (Option T))) (views : List (View E G)) (turns : ℕ) (log : List E) (setting : G) : Type 0 where
    pub place : IsHome homes views log setting ⊎ IsOut homes views turns
    pub inside : (seat : ℕ) (v : View E G) (t : ℕ) → Sits views seat v → IsInside v.stage t → (t ≡ turns) × (v.known.seen ≡ log)

module _ {T E G : Type 0} (caller : E → ℕ) (history : T → List E) (setting_of : T → G) (Sound : T → Type 0) where
  pub record TakesTurns (first : ℕ) (setting : G) (s : State (Option T) (View E G)) : Type 0 where
    -- the number of finished turns, and the entries that they made
    pub turns : ℕ
    pub log : List E
    pub tickets : TicketsInOrder s.words s.views turns
    pub slot : SlotInPlace history setting_of Sound s.homes s.views turns log setting
    pub seen : (seat : ℕ) (v : View E G) → Sits s.views seat v → IsLive v.stage → SeenAFront caller v log
    pub numbers : NumbersKept caller s.views log first setting
    pub rooted : NumbersRooted first s.views
