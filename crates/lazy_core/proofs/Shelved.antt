-- What is shown of the store is so of the shelf that has it.
use Rattle.std.proofs.Common.{◌≡◌, ◌≤◌, ◌++◌, ℕ, true, false, List, Option, subst}
use Rattle.std.specs.Prelude.{Result, Ok, Err, IfOk, OnOk}
use Rattle.cache_law.specs.declared.call.Call.{Call}
use Rattle.cache_law.specs.declared.call.Call.TheVariants.{Insert, Purge, Xkey}
use Rattle.cache_law.specs.declared.call.Entry.{Entry}
use Rattle.cache_law.specs.declared.call.Reply.{Reply}
use Rattle.cache_law.specs.declared.call.Reply.TheVariants.{Purged}
use Rattle.cache_law.specs.declared.object.Object.{Object}
use Rattle.cache_law.specs.Beginning.{Beginning}
use Rattle.cache_desk.specs.Stock.{Stock}
use Rattle.cache_frame.specs.declared.seen.Placing.{Placing}
use Rattle.cache_frame.specs.Shelves.{Joins, MovesOn, Places, Reopens, entry_of, reply_of_placing}
use Rattle.lazy_law.specs.Placed.{Lazy, kept_bans}
use Rattle.lazy_law.specs.Purging.{count_alive, is_of_key, is_of_xkeys}
use Rattle.lazy_store.specs.Purged.{purged}
use Rattle.lazy_store.specs.Softening.{softly_purged}
use Rattle.lazy_core.specs.declared.shelf.LazyShelf.{LazyShelf}
use Rattle.lazy_core.specs.Shelf.{ShelfStands, StandsBehind}
use Rattle.lazy_core.proofs.Placings.{key_told, soft_told, xkeys_told}

pub joins_so : (new : LazyShelf) (beginning : Beginning) (entries : List Entry) (entry : Entry) → Joins StandsBehind new.store beginning entries entry → Joins ShelfStands new beginning entries entry
joins_so new beginning entries entry joins = record { allows = joins.allows; stands = joins.stands }

pub moves_so : (old new : LazyShelf) (now : ℕ) (call : Call) (reply : Reply) → MovesOn StandsBehind old.store new.store now call reply → MovesOn ShelfStands old new now call reply
moves_so old new now call reply moves beginning entries caller sound stands later = joins_so new beginning entries (entry_of caller now call reply) (moves beginning entries caller sound stands later)

pub on_moves : {T E : Type 0} (old new : LazyShelf) (now : ℕ) (call : Call) (reply : Reply) (result : Result T E) → OnOk result (MovesOn StandsBehind old.store new.store now call reply) → OnOk result (MovesOn ShelfStands old new now call reply)
on_moves old new now call reply (Ok value) moves = moves_so old new now call reply moves
on_moves old new now call reply (Err e) moves = moves

ok_moves : {E : Type 0} (old new : LazyShelf) (now : ℕ) (call : Call) (result : Result ℕ E) → IfOk result (λ count. MovesOn StandsBehind old.store new.store now call (Purged count)) → IfOk result (λ count. MovesOn ShelfStands old new now call (Purged count))
ok_moves old new now call (Ok count) moves = moves_so old new now call (Purged count) moves
ok_moves old new now call (Err e) moves = moves

pub key_so : {E : Type 0} (old new : LazyShelf) (now : ℕ) (key asked : List (List ℕ)) (result : Result ℕ E) → asked ≡ key → OnOk result (new.store ≡ purged (is_of_key asked) old.store)
    → IfOk result (λ count. count ≡ count_alive now (kept_bans old.store) (is_of_key asked) old.store.objects) → IfOk result (λ count. MovesOn ShelfStands old new now (Purge key) (Purged count))
key_so old new now key asked result same is counts =
    subst (λ (k : List (List ℕ)). IfOk result (λ count. MovesOn ShelfStands old new now (Purge k) (Purged count))) same
    (ok_moves old new now (Purge asked) result (key_told old.store new.store now asked result is counts))

pub xkeys_so : {E : Type 0} (old new : LazyShelf) (now : ℕ) (keys asked : List (List ℕ)) (result : Result ℕ E) → asked ≡ keys → OnOk result (new.store ≡ purged (is_of_xkeys asked) old.store)
    → IfOk result (λ count. count ≡ count_alive now (kept_bans old.store) (is_of_xkeys asked) old.store.objects) → IfOk result (λ count. MovesOn ShelfStands old new now (Xkey keys false) (Purged count))
xkeys_so old new now keys asked result same is counts =
    subst (λ (k : List (List ℕ)). IfOk result (λ count. MovesOn ShelfStands old new now (Xkey k false) (Purged count))) same
    (ok_moves old new now (Xkey asked false) result (xkeys_told old.store new.store now asked result is counts))

pub soft_so : {E : Type 0} (old new : LazyShelf) (now : ℕ) (keys asked : List (List ℕ)) (result : Result ℕ E) → asked ≡ keys → OnOk result (new.store ≡ softly_purged now asked old.store)
    → IfOk result (λ count. count ≡ count_alive now (kept_bans old.store) (is_of_xkeys asked) old.store.objects) → IfOk result (λ count. MovesOn ShelfStands old new now (Xkey keys true) (Purged count))
soft_so old new now keys asked result same is counts =
    subst (λ (k : List (List ℕ)). IfOk result (λ count. MovesOn ShelfStands old new now (Xkey k true) (Purged count))) same
    (ok_moves old new now (Xkey asked true) result (soft_told old.store new.store now asked result is counts))

pub places_so : (old new : LazyShelf) (room used now token : ℕ) (object : Object) (stale : Option ℕ) (placing : Placing) → Places StandsBehind old.store new.store room used now token object stale placing
    → Places ShelfStands old new room used now token object stale placing
places_so old new room used now token object stale placing places beginning entries caller sound stands later is_room place opened here =
    joins_so new beginning entries (entry_of caller now (Insert token object stale) (reply_of_placing token placing)) (places beginning entries caller sound stands later is_room place opened here)

pub reopens_so : (new : LazyShelf) (stock : Stock) (beginning : Beginning) (entries : List Entry) → Reopens StandsBehind new.store stock beginning entries → Reopens ShelfStands new stock beginning entries
reopens_so new stock beginning entries reopens = record { base = reopens.base; alike = reopens.alike; stands = reopens.stands }
