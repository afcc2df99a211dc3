-- What each step of the lock tells the thread that makes it: of its view and slots before, the number found, and those after.
use Rattle.std.specs.Prelude.{◌≡◌, ◌≢◌, ℕ, ◌%◌, ◌^◌, List, [], ◌∷◌, Option, Some}
use Rattle.atomic_table.specs.Table.{Me, Step}
use Rattle.turnstile.specs.declared.knowledge.Known.{Known}
use Rattle.turnstile.specs.declared.knowledge.View.{View}
use Rattle.turnstile.specs.declared.knowledge.Stage.TheVariants.{Idle, Cutting, Waiting, Inside, Joining, Spent}
use Rattle.turnstile.specs.Knowledge.{nobody, saw, cut_off, branch, merged, Grown, Meets}

module _ {E G : Type 0} where
  abbrev pub idle : Known E G → View E G
  idle k = record { known = k; stage = Idle }

  abbrev pub cutting : Known E G → ℕ → View E G
  cutting k c = record { known = k; stage = Cutting c }

  abbrev pub waiting : Known E G → ℕ → View E G
  waiting k t = record { known = k; stage = Waiting t }

  abbrev pub inside : Known E G → ℕ → View E G
  inside k t = record { known = k; stage = Inside t }

  abbrev pub joining : Known E G → Known E G → Known E G → View E G
  joining k o both = record { known = both; stage = Joining k o }

  abbrev pub spent : View E G
  spent = record { known = nobody; stage = Spent }

  -- what the two seats have after a split
  abbrev pub cut_view : View E G → View E G
  cut_view v = idle (elim v.stage [ Cutting c ↦ cut_off v.known c | _ ↦ v.known ])

  abbrev pub branch_view : View E G → View E G
  branch_view v = idle (elim v.stage [ Cutting c ↦ branch v.known c | _ ↦ v.known ])

module _ {E G : Type 0} (caller : E → ℕ) where
  -- what the seat that takes in another has after a join
  abbrev pub joined : View E G → View E G → View E G
  joined v w = joining v.known w.known (merged caller v.known w.known)

abbrev Sat : Type 0 → Type 0 → Type 0 → Type 0
Sat T E G = Me (Option T) (View E G)

module _ {T E G : Type 0} where
  -- a ticket was drawn
  abbrev pub drawn : Sat T E G → ℕ → Sat T E G → Type 0
  drawn m n w = (t : ℕ) × (n ≡ t % 2 ^ 64) × (w ≡ (waiting m.0.known t, []))

  -- the empty slot was given home, and the turn not passed on
  abbrev pub left : Sat T E G → ℕ → Sat T E G → Type 0
  left m n w = w ≡ (m.0, [])

  -- the number to split off was noted
  abbrev pub noted : Step (Option T) → Sat T E G → ℕ → Sat T E G → Type 0
  noted st m n w = w ≡ (cutting m.0.known st.first, [])

module _ {T E G : Type 0} (history : T → List E) where
  -- the value was given home, with what it has now seen, and the turn passed on
  abbrev pub passed : Sat T E G → ℕ → Sat T E G → Type 0
  passed m n w = (x : T) → m.1 ≡ (0, Some x) ∷ [] → w ≡ (idle (saw m.0.known (history x)), [])

module _ {T E G : Type 0} (caller : E → ℕ) where
  -- what two passes had seen begins what the one has seen that they became
  abbrev pub told : Sat T E G → ℕ → Sat T E G → Type 0
  told m n w = (k o : Known E G) → m.0.stage ≡ Joining k o → (w ≡ (idle m.0.known, [])) × Grown caller k m.0.known.seen × Grown caller o m.0.known.seen

module _ {T E G : Type 0} (caller : E → ℕ) (history : T → List E) (setting_of : T → G) (Sound : T → Type 0) where
  -- the thread has the slot with the value
  pub record Taken (k : Known E G) (t : ℕ) (w : Sat T E G) : Type 0 where
    pub value : T
    pub now : w ≡ (inside (saw k (history value)) t, (0, Some value) ∷ [])
    pub setting_is : k.setting ≡ Some (setting_of value)
    pub sound : Sound value
    pub meets : Meets caller k (history value)

  abbrev pub IsTaken : Known E G → Sat T E G → Type 0
  IsTaken k w = (t : ℕ) × Taken k t w

  -- the ticket that is served was found; where it is the thread's own, the thread has the slot
  abbrev pub looked : Sat T E G → ℕ → Sat T E G → Type 0
  looked m n w = (t : ℕ) → m.0.stage ≡ Waiting t → (n ≡ t % 2 ^ 64 → Taken m.0.known t w) × (n ≢ t % 2 ^ 64 → w ≡ m)
