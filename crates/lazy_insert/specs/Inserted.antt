-- What an insertion answers, and what it leaves.
use Rattle.std.specs.Prelude.{◌≡◌, ◌⊎◌, ℕ, Bool, false, not, nat_eq, List, Option, filter}
use Rattle.std.specs.List.{list_any}
use Rattle.cache_law.specs.declared.object.Object.{Object}
use Rattle.cache_law.specs.declared.call.Reply.TheVariants as replies
use Rattle.cache_law.specs.State.{State}
use Rattle.cache_frame.specs.declared.seen.Placing.{Placing}
use Rattle.cache_frame.specs.declared.seen.Placing.TheVariants.{Stored, NotInTime, NoRoom, Refused}
use Rattle.lazy_law.specs.Placed.{Lazy, kept_bans}
use Rattle.lazy_law.specs.Insertion.{has_no_room_late, has_number, made_room, others_late, stored_late}
use Rattle.lazy_law.specs.Late.{LateStep, leaving_late, placed_late}
use Rattle.lazy_store.specs.Lurking.{AreSwept}
use Rattle.lazy_store.specs.Numbered.{is_one_of}
use Rattle.lazy_store.specs.Tidying.{with_timely}

-- The call is answered so over what is kept, at each desk of this moment and with so many entries, where its fetch is open and its
-- stale object isn't gone.
abbrev pub IsAnswer : ℕ → ℕ → ℕ → ℕ → Object → Option ℕ → Lazy → LateStep → Type 0
IsAnswer room used moment token object stale lazy step =
    (desk : State) → desk.moment ≡ moment → desk.entries ≡ used → placed_late room desk token object stale lazy ≡ step

-- All is left as it was; or the objects that weren't in time at the moment are gone, and some others were tested, which go where a
-- ban matches them.
abbrev pub IsTidied : ℕ → Lazy → Lazy → Type 0
IsTidied moment old new = (new ≡ old) ⊎ AreSwept (with_timely moment old) new

-- what an insertion at the moment answers, used at this place of the history, and what it leaves
abbrev pub IsPlaced : ℕ → ℕ → ℕ → ℕ → Object → Option ℕ → Lazy → Lazy → Placing → Type 0
IsPlaced room used moment token object stale old new Stored =
    IsAnswer room used moment token object stale old (record { reply = replies.Stored token; lazy = new })
IsPlaced room used moment token object stale old new NotInTime =
    IsAnswer room used moment token object stale old (leaving_late old replies.NotInTime) × (new ≡ old)
IsPlaced room used moment token object stale old new NoRoom =
    IsAnswer room used moment token object stale old (leaving_late old replies.NoRoom) × IsTidied moment old new
IsPlaced room used moment token object stale old new Refused = IsTidied moment old new

-- no room is made for one of the size in the stale one's place
abbrev pub is_full : ℕ → ℕ → ℕ → Option ℕ → Lazy → Bool
is_full room size moment stale lazy = has_no_room_late room size moment (kept_bans lazy) lazy.issued (others_late stale lazy.objects)

-- room is made once the objects of these numbers go, which are all stored
pub record IsRoomy (room size moment : ℕ) (stale : Option ℕ) (old new : Lazy) (numbers : List ℕ) : Type 0 where
  pub free : is_full room size moment stale old ≡ false
  pub left : filter (λ placed. not (is_one_of numbers placed)) (others_late stale new.objects) ≡ made_room room size moment (kept_bans old) old.issued (others_late stale old.objects)
  pub stored : (number : ℕ) → list_any (has_number number) new.objects ≡ false → list_any (nat_eq number) numbers ≡ false

-- what is left once the object is stored
abbrev pub stored_in : ℕ → ℕ → ℕ → ℕ → Object → Option ℕ → Lazy → Lazy
stored_in room used moment token object stale lazy =
    record lazy { objects = stored_late room moment used (kept_bans lazy) lazy.issued token object stale lazy.objects }
