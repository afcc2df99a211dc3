-- What a clause says of a lock, its passes and the turns that it gives.
use Rattle.std.specs.Prelude.{◌≡◌, ℕ, List, [], ◌∷◌, None}
use Rattle.turnstile.specs.declared.knowledge.Known.{Known}
use Rattle.turnstile.specs.declared.knowledge.View.{View}
use Rattle.turnstile.specs.declared.handles.Pass.{Pass}
use Rattle.turnstile.specs.declared.handles.Held.{Held}
use Rattle.turnstile.specs.declared.lock.Turnstile.{Turnstile}
use Rattle.turnstile.specs.Knowledge.{nobody}
use Rattle.turnstile.specs.Steps.{idle, inside}

module _ {E G : Type 0} where
  abbrev pub known_in : List (View E G) → Known E G
  known_in [] = nobody
  known_in (v ∷ vs) = v.known

  -- what the pass knows; of a pass that is in a turn, nothing
  abbrev pub known : Pass E G → Known E G
  known p = known_in p.badge.views

  -- the caller's number
  abbrev pub number_of : Pass E G → ℕ
  number_of p = p.number

module _ {T E G : Type 0} where
  -- what the pass that has the turn knows
  abbrev pub held_known : Held T E G → Known E G
  held_known h = h.seat.me.0.known

  -- it is a pass of this lock, and in no turn
  pub record IsPassOf (lock : Turnstile T E G) (p : Pass E G) : Type 0 where
    pub table : p.badge.table_id ≡ lock.table.shared.table_id
    pub views : p.badge.views ≡ idle (known p) ∷ []
    pub number : (known p).number ≡ number_of p

  -- it is a turn of this lock
  pub record IsHeldOf (lock : Turnstile T E G) (h : Held T E G) : Type 0 where
    pub table : h.seat.table_id ≡ lock.table.shared.table_id
    pub ticket : ℕ
    pub me : h.seat.me ≡ (inside (held_known h) ticket, (0, None) ∷ [])
