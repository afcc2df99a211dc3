-- What each call owes that is made of a shelf: that the shelf stands again for what the entries reach, once the entry of
-- the call is among them. A shelf stands for the law's bans and objects behind some entries; how, it says itself.
use Rattle.std.specs.Prelude.{◌≡◌, ◌≤◌, ℕ, Bool, true, false, List, [], ◌∷◌, ◌++◌, Option}
use Rattle.cache_law.specs.declared.object.Object.{Object}
use Rattle.cache_law.specs.declared.ban.BanLine.{BanLine}
use Rattle.cache_law.specs.declared.call.Query.{Query}
use Rattle.cache_law.specs.declared.call.Call.{Call}
use Rattle.cache_law.specs.declared.call.Call.TheVariants.{Lookup, Insert, Ban, Purge, Xkey}
use Rattle.cache_law.specs.declared.call.Entry.{Entry}
use Rattle.cache_law.specs.declared.call.Reply.{Reply}
use Rattle.cache_law.specs.declared.call.Reply.TheVariants as replies
use Rattle.cache_law.specs.Lookup.{counted, touched, scanned}
use Rattle.cache_law.specs.State.{State, Held, at_moment, has_fetch, is_gone, those_in_time}
use Rattle.cache_law.specs.Law.{MayAnswer, step_of}
use Rattle.cache_law.specs.Beginning.{Beginning}
use Rattle.cache_law.specs.History.{next_state, reached}
use Rattle.cache_law.specs.Bases.{AreAlike, IsBase, IsSound}
use Rattle.cache_law.specs.ShownBans.{ShowsBans}
use Rattle.cache_desk.specs.Stock.{Stock, stock_at, stock_of, with_stock}
use Rattle.cache_frame.specs.declared.seen.Placing.{Placing}
use Rattle.cache_frame.specs.declared.seen.Placing.TheVariants.{Stored, NotInTime, NoRoom, Refused}
use Rattle.cache_frame.specs.declared.seen.Seen.{Seen}
use Rattle.cache_frame.specs.declared.seen.Use.{Use}
use Rattle.cache_frame.specs.declared.seen.Use.TheVariants.{Nothing, Hit, Marker}

-- The call concerns neither bans nor objects, as it was answered: the shelf isn't asked to change.
abbrev pub is_beside : Call → Reply → Bool
is_beside (Lookup query) replies.NoRound = true
is_beside (Lookup query) reply = query.options.always_miss
is_beside (Insert token object stale) (replies.Stored number) = false
is_beside (Insert token object stale) reply = true
is_beside (Ban ban) reply = false
is_beside (Purge key) reply = false
is_beside (Xkey keys soft) reply = false
is_beside call reply = true

-- the entry that a call makes
abbrev pub entry_of : ℕ → ℕ → Call → Reply → Entry
entry_of caller moment call reply = record { caller = caller; moment = moment; call = call; reply = reply }

-- the objects once one of them was used at this place of the history
abbrev pub used_for : ℕ → Use → List Held → List Held
used_for place Nothing objects = objects
used_for place (Hit number) objects = counted place number objects
used_for place (Marker number) objects = touched place number objects

-- what a lookup leaves on a shelf that looks for an object at the moment
abbrev pub looked_over : ℕ → Query → Use → State → Stock
looked_over now query use_ state =
    record {
      issued = state.issued;
      bans = state.bans;
      objects = used_for state.entries use_ (scanned now query (those_in_time now state.objects)).objects;
    }

-- the law's reply to an insertion that was placed so
abbrev pub reply_of_placing : ℕ → Placing → Reply
reply_of_placing token Stored = replies.Stored token
reply_of_placing token NotInTime = replies.NotInTime
reply_of_placing token NoRoom = replies.NoRoom
reply_of_placing token Refused = replies.Refused

module _ {S : Type 0} (Stands : S → Beginning → List Entry → Type 0) where
  -- the shelf stands for the same histories as before
  abbrev pub StandsOn : S → S → Type 0
  StandsOn old new = (beginning : Beginning) (entries : List Entry) → IsSound (reached beginning entries) → Stands old beginning entries → Stands new beginning entries

  -- the entry may come next, and the shelf stands for what it leaves
  pub record Joins (new : S) (beginning : Beginning) (entries : List Entry) (entry : Entry) : Type 0 where
    pub allows : MayAnswer (at_moment entry.moment (reached beginning entries)) entry.call (step_of beginning.params (reached beginning entries) entry.caller entry.moment entry.call).reply entry.reply
    pub stands : Stands new beginning (entries ++ entry ∷ [])

  -- the call may be answered so at the moment, and the shelf stands for what that leaves
  abbrev pub MovesOn : S → S → ℕ → Call → Reply → Type 0
  MovesOn old new now call reply =
      (beginning : Beginning) (entries : List Entry) (caller : ℕ) → IsSound (reached beginning entries) → Stands old beginning entries → (reached beginning entries).moment ≤ now
      → Joins new beginning entries (entry_of caller now call reply)

  -- the same of an insertion of an open fetch whose stale object isn't gone, with this room for objects
  abbrev pub Places : S → S → ℕ → ℕ → ℕ → ℕ → Object → Option ℕ → Placing → Type 0
  Places old new room used now token object stale placing =
      (beginning : Beginning) (entries : List Entry) (caller : ℕ) → IsSound (reached beginning entries) → Stands old beginning entries → (reached beginning entries).moment ≤ now
      → beginning.params.room ≡ room → (reached beginning entries).entries ≡ used → has_fetch (reached beginning entries).fetches caller token ≡ true
      → is_gone stale (those_in_time now (reached beginning entries).objects) ≡ false
      → Joins new beginning entries (entry_of caller now (Insert token object stale) (reply_of_placing token placing))

  -- of a lookup: the shelf stands for what the scan and the use of an object leave
  abbrev pub LooksOver : S → S → ℕ → ℕ → Query → Use → Type 0
  LooksOver old new used now query use_ =
      (beginning : Beginning) (entries : List Entry) (entry : Entry) → IsSound (reached beginning entries) → Stands old beginning entries → (reached beginning entries).moment ≤ now
      → (reached beginning entries).entries ≡ used → entry.moment ≡ now → entry.call ≡ Lookup query
      → stock_of (next_state beginning.params (reached beginning entries) entry) ≡ looked_over now query use_ (reached beginning entries)
      → Stands new beginning (entries ++ entry ∷ [])

  -- what is told of the law's bans and objects at the moment
  abbrev pub Tells : S → ℕ → (State → Type 0) → Type 0
  Tells shelf now Holds =
      (beginning : Beginning) (entries : List Entry) → IsSound (reached beginning entries) → Stands shelf beginning entries → (reached beginning entries).moment ≤ now
      → Holds (at_moment now (reached beginning entries))

  -- an entry that doesn't concern the shelf leaves it standing
  abbrev pub StandsBeside : S → Type 0
  StandsBeside shelf =
      (beginning : Beginning) (entries : List Entry) (entry : Entry) → IsSound (reached beginning entries) → Stands shelf beginning entries → (reached beginning entries).moment ≤ entry.moment
      → is_beside entry.call entry.reply ≡ true
      → stock_of (next_state beginning.params (reached beginning entries) entry) ≡ stock_at entry.moment (reached beginning entries)
      → Stands shelf beginning (entries ++ entry ∷ [])

  -- with this stock a history begins in a base alike to what the entries reached
  pub record Reopens (new : S) (stock : Stock) (beginning : Beginning) (entries : List Entry) : Type 0 where
    pub base : IsBase (with_stock stock (reached beginning entries))
    pub alike : AreAlike (with_stock stock (reached beginning entries)) (reached beginning entries)
    pub stands : Stands new (record { params = beginning.params; base = with_stock stock (reached beginning entries) }) []

-- the views are the law's scan's
pub record IsScan {M : Type 0} (now : ℕ) (query : Query) (seen : Seen M) (state : State) : Type 0 where
  pub fresh : (scanned now query state.objects).fresh ≡ seen.fresh
  pub grace : (scanned now query state.objects).grace ≡ seen.grace
  pub stale : (scanned now query state.objects).stale ≡ seen.stale

-- these lines show the bans
abbrev pub AreShown : List BanLine → State → Type 0
AreShown lines state = ShowsBans state.bans state.objects lines
