-- The shelf stands behind bans, purges and insertions.
use Rattle.std.proofs.Common.{◌≡◌, ◌≤◌, ◌+◌, ◌++◌, ◌∷◌, ◌⊎◌, inl, inr, ℕ, Bool, true, false, cond, List, [], ◌||◌, Option, Some, None, find, refl, arith, sym, ap, ◌∙◌, subst}
use Rattle.std.specs.Prelude.{Result, Ok, Err, IfOk, IsTrue, OnOk}
use Rattle.std.specs.List.{list_any, AllByRecursion}
use Rattle.std.proofs.lemmas.Bool.{eqb-true, true≢false}
use Rattle.cache_law.specs.declared.ban.Ban.{Ban as BanWords}
use Rattle.cache_law.specs.declared.call.Call.{Call}
use Rattle.cache_law.specs.declared.call.Call.TheVariants.{Ban, Insert, Purge, Xkey}
use Rattle.cache_law.specs.declared.call.Entry.{Entry}
use Rattle.cache_law.specs.declared.call.Reply.{Reply}
use Rattle.cache_law.specs.declared.call.Reply.TheVariants as replies
use Rattle.cache_law.specs.declared.object.Object.{Object}
use Rattle.cache_law.specs.Beginning.{Beginning}
use Rattle.cache_law.specs.Bases.{IsSound}
use Rattle.cache_law.specs.History.{next_state, reached}
use Rattle.cache_law.specs.Law.{MayAnswer, answered}
use Rattle.cache_law.specs.State.{State, at_moment, has_fetch, is_gone, those_in_time}
use Rattle.cache_law.proofs.Growth.{after_grows}
use Rattle.cache_law.proofs.Present.{opened_by}
use Rattle.ban_lurker.specs.Looks.{look_of}
use Rattle.cache_frame.specs.declared.seen.Placing.{Placing}
use Rattle.cache_frame.specs.declared.seen.Placing.TheVariants.{Stored, NotInTime, NoRoom, Refused}
use Rattle.cache_frame.specs.Shelves.{Joins, MovesOn, Places, StandsOn, entry_of, reply_of_placing}
use Rattle.cache_frame.proofs.Joins.{other_reply}
use Rattle.lazy_law.specs.Banning.{banned_late}
use Rattle.lazy_law.specs.Insertion.{has_number, is_gone_late}
use Rattle.lazy_law.specs.Late.{LateStep, answered_late, desk_of, handed_late, leaving_late, placed_late}
use Rattle.lazy_law.specs.Placed.{Lazy, Placed, kept_bans}
use Rattle.lazy_law.specs.Purging.{count_alive, is_of_key, is_of_xkeys}
use Rattle.lazy_law.specs.Standing.{IsKnownBy, StandsAt}
use Rattle.lazy_law.proofs.Filters.{any_none}
use Rattle.lazy_law.proofs.Growing.{reached_push, refusal_grows}
use Rattle.lazy_store.specs.Cutting.{AreCut}
use Rattle.lazy_store.specs.Purged.{purged}
use Rattle.lazy_store.specs.Softening.{softly_purged}
use Rattle.lazy_store.specs.Uses.{AreUsedBefore}
use Rattle.lazy_store.proofs.Splits.{all_weaken}
use Rattle.lazy_insert.specs.Inserted.{IsAnswer, IsPlaced, IsTidied}
use Rattle.lazy_insert.proofs.Inserts.{still_before}
use Rattle.lazy_insert.proofs.Unseen.{tidied_at}
use Rattle.lazy_core.specs.Rests.{entries_push, used_longer}
use Rattle.lazy_core.specs.Shelf.{StandsBehind}
use Rattle.lazy_core.proofs.Standing.{cut_behind, gone_so, moves}
use Rattle.lazy_core.proofs.Uses.{placed_uses, purged_uses, softened_uses}

-- ---- a ban, and purges

answered_so : (new : Lazy) (reply : Reply) (step : LateStep) → reply ≡ step.reply → new ≡ step.lazy → step ≡ record { reply = reply; lazy = new }
answered_so new reply step told left = ap (λ (r : Reply). record { reply = r; lazy = step.lazy }) (sym told) ∙ ap (λ (l : Lazy). record { reply = reply; lazy = l }) (sym left)

uses_of : (place : ℕ) (new now : Lazy) → new ≡ now → AreUsedBefore place now.objects → AreUsedBefore place new.objects
uses_of place new now is uses = subst (λ (l : Lazy). AreUsedBefore place l.objects) (sym is) uses

ban_moves : (old new : Lazy) (now : ℕ) (ban : BanWords) → new ≡ banned_late now ban old → MovesOn StandsBehind old new now (Ban ban) replies.Banned
ban_moves old new now ban is beginning entries caller sound stands later =
    let state : State = reached beginning entries in
    moves old new beginning entries caller now (Ban ban) replies.Banned sound stands later
    (answered_so new replies.Banned (record { reply = replies.Banned; lazy = banned_late now ban old }) refl is)
    (uses_of (state.entries + 1) new (banned_late now ban old) is (used_longer state.entries (state.entries + 1) old.objects refl stands.uses))

-- the ban was issued, and then lines were cut
pub ban_cut : (old between new : Lazy) (now : ℕ) (ban : BanWords) → between ≡ banned_late now ban old → AreCut between new → MovesOn StandsBehind old new now (Ban ban) replies.Banned
ban_cut old between new now ban is cut beginning entries caller sound stands later =
    let joins = ban_moves old between now ban is beginning entries caller sound stands later in
    record { allows = joins.allows; stands = cut_behind between new cut beginning (entries ++ entry_of caller now (Ban ban) replies.Banned ∷ []) joins.stands }

pub untested_so : (old between new : Lazy) (now : ℕ) (ban : BanWords) → between ≡ banned_late now ban old → AreCut between new → new.objects ≡ old.objects
untested_so old between new now ban is cut = ap (λ (l : Lazy). l.objects) cut.is ∙ ap (λ (l : Lazy). l.objects) is

pub issued_so : (old between new : Lazy) (now : ℕ) (ban : BanWords) → between ≡ banned_late now ban old → AreCut between new → AreCut (banned_late now ban old) new
issued_so old between new now ban is cut = subst (λ (l : Lazy). AreCut l new) is cut

pub key_moves : (old new : Lazy) (now : ℕ) (key : List (List ℕ)) (count : ℕ) → new ≡ purged (is_of_key key) old → count ≡ count_alive now (kept_bans old) (is_of_key key) old.objects
    → MovesOn StandsBehind old new now (Purge key) (replies.Purged count)
key_moves old new now key count is counts beginning entries caller sound stands later =
    let state : State = reached beginning entries in
    moves old new beginning entries caller now (Purge key) (replies.Purged count) sound stands later
    (answered_so new (replies.Purged count) (record { reply = replies.Purged (count_alive now (kept_bans old) (is_of_key key) old.objects); lazy = purged (is_of_key key) old }) (ap replies.Purged counts) is)
    (uses_of (state.entries + 1) new (purged (is_of_key key) old) is (purged_uses state.entries (is_of_key key) old.objects stands.uses))

pub xkeys_move : (old new : Lazy) (now : ℕ) (keys : List (List ℕ)) (count : ℕ) → new ≡ purged (is_of_xkeys keys) old → count ≡ count_alive now (kept_bans old) (is_of_xkeys keys) old.objects
    → MovesOn StandsBehind old new now (Xkey keys false) (replies.Purged count)
xkeys_move old new now keys count is counts beginning entries caller sound stands later =
    let state : State = reached beginning entries in
    moves old new beginning entries caller now (Xkey keys false) (replies.Purged count) sound stands later
    (answered_so new (replies.Purged count) (record { reply = replies.Purged (count_alive now (kept_bans old) (is_of_xkeys keys) old.objects); lazy = purged (is_of_xkeys keys) old }) (ap replies.Purged counts) is)
    (uses_of (state.entries + 1) new (purged (is_of_xkeys keys) old) is (purged_uses state.entries (is_of_xkeys keys) old.objects stands.uses))

pub soft_moves : (old new : Lazy) (now : ℕ) (keys : List (List ℕ)) (count : ℕ) → new ≡ softly_purged now keys old → count ≡ count_alive now (kept_bans old) (is_of_xkeys keys) old.objects
    → MovesOn StandsBehind old new now (Xkey keys true) (replies.Purged count)
soft_moves old new now keys count is counts beginning entries caller sound stands later =
    let state : State = reached beginning entries in
    moves old new beginning entries caller now (Xkey keys true) (replies.Purged count) sound stands later
    (answered_so new (replies.Purged count) (record { reply = replies.Purged (count_alive now (kept_bans old) (is_of_xkeys keys) old.objects); lazy = softly_purged now keys old }) (ap replies.Purged counts) is)
    (uses_of (state.entries + 1) new (softly_purged now keys old) is (softened_uses state.entries now keys (kept_bans old) old.issued old.objects stands.uses))

pub key_told : {E : Type 0} (old new : Lazy) (now : ℕ) (key : List (List ℕ)) (result : Result ℕ E) → OnOk result (new ≡ purged (is_of_key key) old) → IfOk result (λ count. count ≡ count_alive now (kept_bans old) (is_of_key key) old.objects)
    → IfOk result (λ count. MovesOn StandsBehind old new now (Purge key) (replies.Purged count))
key_told old new now key (Ok count) is counts = key_moves old new now key count is counts
key_told old new now key (Err e) is counts = counts

pub xkeys_told : {E : Type 0} (old new : Lazy) (now : ℕ) (keys : List (List ℕ)) (result : Result ℕ E) → OnOk result (new ≡ purged (is_of_xkeys keys) old) → IfOk result (λ count. count ≡ count_alive now (kept_bans old) (is_of_xkeys keys) old.objects)
    → IfOk result (λ count. MovesOn StandsBehind old new now (Xkey keys false) (replies.Purged count))
xkeys_told old new now keys (Ok count) is counts = xkeys_move old new now keys count is counts
xkeys_told old new now keys (Err e) is counts = counts

pub soft_told : {E : Type 0} (old new : Lazy) (now : ℕ) (keys : List (List ℕ)) (result : Result ℕ E) → OnOk result (new ≡ softly_purged now keys old) → IfOk result (λ count. count ≡ count_alive now (kept_bans old) (is_of_xkeys keys) old.objects)
    → IfOk result (λ count. MovesOn StandsBehind old new now (Xkey keys true) (replies.Purged count))
soft_told old new now keys (Ok count) is counts = soft_moves old new now keys count is counts
soft_told old new now keys (Err e) is counts = counts

-- ---- an insertion

-- no object is stored under the number of an open fetch
unknown_not : (known : ℕ → ℕ → Option Object) (number : ℕ) → ((mark : ℕ) → known number mark ≡ None) → (p : Placed) → IsKnownBy known p → (b : Bool) → has_number number p ≡ b → has_number number p ≡ false
unknown_not known number none p is true e = let same : p.view.number ≡ number = eqb-true p.view.number number e in let one = is p.mark (omega arith) in let other = none p.mark in cc
unknown_not known number none p is false e = e

pub own_number : (lazy : Lazy) (beginning : Beginning) (entries : List Entry) (caller token : ℕ) → StandsBehind lazy beginning entries → has_fetch (reached beginning entries).fetches caller token ≡ true → list_any (has_number token) lazy.objects ≡ false
own_number lazy beginning entries caller token stands opened =
    let state : State = reached beginning entries in
    let known : ℕ → ℕ → Option Object = look_of beginning entries in
    let none : (mark : ℕ) → known token mark ≡ None = λ mark. stands.stands.unborn token (inr (opened_by state.fetches caller token opened)) mark in
    any_none (has_number token) lazy.objects
    (all_weaken (IsKnownBy known) (λ (p : Placed). has_number token p ≡ false) (λ p is. unknown_not known token none p is (has_number token p) refl) lazy.objects stands.stands.looks)

module _ (old new : Lazy) (room used now token : ℕ) (object : Object) (stale : Option ℕ) where
  -- the fetch is open, and the stale object isn't gone
  open_is : (beginning : Beginning) (entries : List Entry) (caller : ℕ) (step : LateStep) → IsSound (reached beginning entries) → StandsBehind old beginning entries → (reached beginning entries).moment ≤ now → beginning.params.room ≡ room → (reached beginning entries).entries ≡ used
      → has_fetch (reached beginning entries).fetches caller token ≡ true → is_gone stale (those_in_time now (reached beginning entries).objects) ≡ false → IsAnswer room used now token object stale old step
      → answered_late beginning.params.room (desk_of (at_moment now (reached beginning entries))) caller (Insert token object stale) old ≡ step
  open_is beginning entries caller step sound stands later is_room place opened here answer =
      let desk : State = desk_of (at_moment now (reached beginning entries)) in
      let gone : is_gone_late now (kept_bans old) stale old.objects ≡ false = gone_so old now stale (is_gone_late now (kept_bans old) stale old.objects) refl beginning entries sound stands later ∙ here in
      ap (λ (b : Bool). cond b (handed_late beginning.params.room desk token object stale old) (leaving_late old replies.NotOpen)) opened
      ∙ ap (λ (b : Bool). cond b (leaving_late old replies.StaleGone) (placed_late beginning.params.room desk token object stale old)) gone
      ∙ ap (λ (r : ℕ). placed_late r desk token object stale old) is_room
      ∙ answer desk refl place

  stored_places : IsAnswer room used now token object stale old (record { reply = replies.Stored token; lazy = new }) → Places StandsBehind old new room used now token object stale Stored
  stored_places answer beginning entries caller sound stands later is_room place opened here =
      let state : State = reached beginning entries in
      let desk : State = desk_of (at_moment now state) in
      let step : LateStep = record { reply = replies.Stored token; lazy = new } in
      moves old new beginning entries caller now (Insert token object stale) (replies.Stored token) sound stands later
      (open_is beginning entries caller step sound stands later is_room place opened here answer)
      (subst (λ (s : LateStep). AreUsedBefore (state.entries + 1) s.lazy.objects) (answer desk refl place) (placed_uses room desk token object stale old stands.uses))

  -- nothing is stored, and what is left was tidied at most
  tidied_joins : (beginning : Beginning) (entries : List Entry) (entry : Entry) → entry.moment ≡ now → IsTidied now old new → Joins StandsBehind old beginning entries entry → Joins StandsBehind new beginning entries entry
  tidied_joins beginning entries entry at_ tidied joins =
      let state : State = reached beginning entries in
      let later : List Entry = entries ++ entry ∷ [] in
      let moment : (reached beginning later).moment ≡ now =
      ap (λ (s : State). s.moment) (reached_push beginning entries entry) ∙ (after_grows beginning.params state entry.caller entry.moment entry.call entry.reply).moment ∙ at_ in
      record {
        allows = joins.allows;
        stands = record {
          stands = tidied_at beginning later old new (subst (λ (m : ℕ). IsTidied m old new) (sym moment) tidied) joins.stands.stands;
          uses = still_before (reached beginning later).entries now old new tidied joins.stands.uses;
        };
      }

  kept_places : (placing : Placing) → IsAnswer room used now token object stale old (leaving_late old (reply_of_placing token placing)) → IsTidied now old new → Places StandsBehind old new room used now token object stale placing
  kept_places placing answer tidied beginning entries caller sound stands later is_room place opened here =
      let state : State = reached beginning entries in
      let reply : Reply = reply_of_placing token placing in
      tidied_joins beginning entries (entry_of caller now (Insert token object stale) reply) refl tidied
      (moves old old beginning entries caller now (Insert token object stale) reply sound stands later
      (open_is beginning entries caller (leaving_late old reply) sound stands later is_room place opened here answer)
      (used_longer state.entries (state.entries + 1) old.objects refl stands.uses))

  refused_places : IsTidied now old new → Places StandsBehind old new room used now token object stale Refused
  refused_places tidied beginning entries caller sound stands later is_room place opened here =
      let state : State = reached beginning entries in
      let entry : Entry = entry_of caller now (Insert token object stale) replies.Refused in
      tidied_joins beginning entries entry refl tidied
      (record {
        allows = inr (refl, other_reply beginning.params.room (at_moment now state) caller token object stale opened);
        stands = record {
          stands = refusal_grows beginning entries old caller now token object stale later stands.stands;
          uses = used_longer state.entries (reached beginning (entries ++ entry ∷ [])).entries old.objects (entries_push beginning entries entry) stands.uses;
        };
      })

  pub placed_so : (placing : Placing) → IsPlaced room used now token object stale old new placing → Places StandsBehind old new room used now token object stale placing
  placed_so Stored is = stored_places is
  placed_so NotInTime is = kept_places NotInTime is.0 (inl is.1)
  placed_so NoRoom is = kept_places NoRoom is.0 is.1
  placed_so Refused is = refused_places is

-- ---- whether an object of the number is stored

pub not_true : (b : Bool) → b ≡ false → IsTrue b → ⊥
not_true b e t = true≢false (sym t ∙ e)

none_case : (b : Bool) (x : Placed) (found : Option Placed) (later : Bool) → (found ≡ None → later ≡ false) → cond b (Some x) found ≡ None → (b || later) ≡ false
none_case true x found later rest e = absurd cc
none_case false x found later rest e = rest e

pub none_there : (test : Placed → Bool) (objects : List Placed) → find test objects ≡ None → list_any test objects ≡ false
none_there test [] e = refl
none_there test (p ∷ objects) e = none_case (test p) p (find test objects) (list_any test objects) (none_there test objects) e

some_case : (b : Bool) (x one : Placed) (found : Option Placed) (later : Bool) → (found ≡ Some one → later ≡ true) → cond b (Some x) found ≡ Some one → (b || later) ≡ true
some_case true x one found later rest e = refl
some_case false x one found later rest e = rest e

pub some_there : (test : Placed → Bool) (one : Placed) (objects : List Placed) → find test objects ≡ Some one → list_any test objects ≡ true
some_there test one [] e = absurd cc
some_there test one (p ∷ objects) e = some_case (test p) p one (find test objects) (list_any test objects) (some_there test one objects) e

-- where the store can't take the object, nothing stands on it
pub never_places : (lazy : Lazy) (room used now token : ℕ) (object : Object) (stale : Option ℕ) (placing : Placing) → (AreUsedBefore used lazy.objects × (list_any (has_number token) lazy.objects ≡ false) → ⊥)
    → Places StandsBehind lazy lazy room used now token object stale placing
never_places lazy room used now token object stale placing not_next beginning entries caller sound stands later is_room place opened here =
    absurd (not_next (subst (λ (n : ℕ). AreUsedBefore n lazy.objects) place stands.uses, own_number lazy beginning entries caller token stands opened))
