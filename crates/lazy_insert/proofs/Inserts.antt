-- What an insertion answers, and what it leaves.
use Rattle.std.proofs.Common.{◌≡◌, ◌<◌, ℕ, Bool, true, false, not, cond, List, [], ◌∷◌, Option, Some, None, filter, nat_eq, refl, sym, ap, ◌∙◌, subst}
use Rattle.std.specs.List.{list_any, AllByRecursion}
use Rattle.std.proofs.lemmas.Bool.{eqb-true}
use Rattle.cache_law.specs.declared.object.Object.{Object}
use Rattle.cache_law.specs.declared.call.Reply.TheVariants as replies
use Rattle.cache_law.specs.Object.{in_time, size_of}
use Rattle.cache_law.specs.State.{State}
use Rattle.lazy_law.specs.Placed.{Lazy, Placed, kept_bans}
use Rattle.lazy_law.specs.Insertion.{has_number, made_room, new_placed, others_late, place_for, stored_late}
use Rattle.lazy_law.specs.Late.{LateStep, leaving_late}
use Rattle.lazy_law.proofs.Filters.{filters_swap}
use Rattle.lazy_store.specs.Changes.{without}
use Rattle.lazy_store.specs.Displaced.{with_first}
use Rattle.lazy_store.specs.Numbered.{is_one_of, without_all}
use Rattle.lazy_store.specs.Uses.{AreUsedBefore}
use Rattle.lazy_store.proofs.Splits.{all_fail, all_weaken, eq_turned, filter_all}
use Rattle.lazy_insert.specs.Inserted.{IsAnswer, IsRoomy, IsTidied, is_full, stored_in}
use Rattle.lazy_insert.specs.Putting.{replaced}
use Rattle.lazy_insert.proofs.Roomy.{tidied_frame, tidied_keeps}

-- ---- the law's answers

-- the law's answer by a moment and a place of the history
abbrev answer_by : ℕ → ℕ → ℕ → ℕ → Object → Option ℕ → Lazy → LateStep
answer_by room used moment token object stale lazy =
    cond (in_time moment object) (cond (is_full room (size_of object) moment stale lazy) (leaving_late lazy replies.NoRoom)
    (record { reply = replies.Stored token; lazy = stored_in room used moment token object stale lazy })) (leaving_late lazy replies.NotInTime)

module _ (room used moment token : ℕ) (object : Object) (stale : Option ℕ) (lazy : Lazy) where
  answers : (step : LateStep) → answer_by room used moment token object stale lazy ≡ step → IsAnswer room used moment token object stale lazy step
  answers step is desk at entries =
      ap (λ (n : ℕ). answer_by room desk.entries n token object stale lazy) at ∙ ap (λ (n : ℕ). answer_by room n moment token object stale lazy) entries ∙ is

  timely_is : in_time moment object ≡ true → answer_by room used moment token object stale lazy
      ≡ cond (is_full room (size_of object) moment stale lazy) (leaving_late lazy replies.NoRoom) (record { reply = replies.Stored token; lazy = stored_in room used moment token object stale lazy })
  timely_is t =
      ap (λ (b : Bool). cond b (cond (is_full room (size_of object) moment stale lazy) (leaving_late lazy replies.NoRoom)
      (record { reply = replies.Stored token; lazy = stored_in room used moment token object stale lazy })) (leaving_late lazy replies.NotInTime)) t

  pub answers_late : in_time moment object ≡ false → IsAnswer room used moment token object stale lazy (leaving_late lazy replies.NotInTime)
  answers_late t =
      answers (leaving_late lazy replies.NotInTime)
      (ap (λ (b : Bool). cond b (cond (is_full room (size_of object) moment stale lazy) (leaving_late lazy replies.NoRoom)
      (record { reply = replies.Stored token; lazy = stored_in room used moment token object stale lazy })) (leaving_late lazy replies.NotInTime)) t)

  pub answers_full : in_time moment object ≡ true → is_full room (size_of object) moment stale lazy ≡ true → IsAnswer room used moment token object stale lazy (leaving_late lazy replies.NoRoom)
  answers_full t full =
      answers (leaving_late lazy replies.NoRoom)
      (timely_is t ∙ ap (λ (b : Bool). cond b (leaving_late lazy replies.NoRoom) (record { reply = replies.Stored token; lazy = stored_in room used moment token object stale lazy })) full)

  pub answers_stored : (new : Lazy) → in_time moment object ≡ true → is_full room (size_of object) moment stale lazy ≡ false → new ≡ stored_in room used moment token object stale lazy
      → IsAnswer room used moment token object stale lazy (record { reply = replies.Stored token; lazy = new })
  answers_stored new t free is =
      answers (record { reply = replies.Stored token; lazy = new })
      (timely_is t ∙ ap (λ (b : Bool). cond b (leaving_late lazy replies.NoRoom) (record { reply = replies.Stored token; lazy = stored_in room used moment token object stale lazy })) free
      ∙ ap (λ (left : Lazy). record { reply = replies.Stored token; lazy = left }) (sym is))

-- ---- the new one before the others

module _ (new : Placed) (out : List ℕ) (other : list_any (nat_eq new.view.number) out ≡ false) (objects : List Placed) where
  abbrev left : List Placed → List Placed
  left xs = filter (λ (p : Placed). not (is_one_of out p)) xs

  new_left : left (new ∷ objects) ≡ new ∷ left objects
  new_left = ap (λ (b : Bool). cond (not b) (new ∷ left objects) (left objects)) other

  other_case : (stale : ℕ) (rest : List Placed) (b : Bool) → has_number stale new ≡ b → b ≡ false → others_late (Some stale) (new ∷ rest) ≡ new ∷ others_late (Some stale) rest
  other_case stale rest b is e = ap (λ (b : Bool). cond (not b) (new ∷ others_late (Some stale) rest) (others_late (Some stale) rest)) (is ∙ e)

  unstale : (stale : ℕ) → nat_eq stale new.view.number ≡ true → list_any (has_number new.view.number) objects ≡ false → objects ≡ others_late (Some stale) objects
  unstale stale same own =
      let is : stale ≡ new.view.number = eqb-true stale new.view.number same in
      sym (filter_all (λ (p : Placed). not (has_number stale p)) objects
      (all_weaken (λ (p : Placed). has_number new.view.number p ≡ false) (λ (p : Placed). not (has_number stale p) ≡ true) (λ p e. ap not (ap (λ (n : ℕ). has_number n p) is ∙ e)) objects
      (all_fail (has_number new.view.number) objects own)))

  replaced_case : (stale : ℕ) (lazy : Lazy) (b : Bool) → nat_eq stale new.view.number ≡ b → list_any (has_number new.view.number) objects ≡ false
      → cond b (record lazy { objects = left (new ∷ objects) }) (record lazy { objects = others_late (Some stale) (left (new ∷ objects)) }) ≡ record lazy { objects = new ∷ left (others_late (Some stale) objects) }
  replaced_case stale lazy true same own = ap (λ (xs : List Placed). record lazy { objects = xs }) (new_left ∙ ap (λ (xs : List Placed). new ∷ left xs) (unstale stale same own))
  replaced_case stale lazy false same own =
      ap (λ (xs : List Placed). record lazy { objects = xs })
      (ap (others_late (Some stale)) new_left ∙ other_case stale (left objects) (nat_eq new.view.number stale) refl (eq_turned new.view.number stale ∙ same)
      ∙ ap (λ (xs : List Placed). new ∷ xs) (filters_swap (λ (p : Placed). not (has_number stale p)) (λ (p : Placed). not (is_one_of out p)) objects))

  pub put_first : (stale : Option ℕ) (lazy : Lazy) → list_any (has_number new.view.number) objects ≡ false
      → replaced stale new.view.number (record lazy { objects = left (new ∷ objects) }) ≡ record lazy { objects = new ∷ left (others_late stale objects) }
  put_first None lazy own = ap (λ (xs : List Placed). record lazy { objects = xs }) new_left
  put_first (Some stale) lazy own = replaced_case stale lazy (nat_eq stale new.view.number) refl own

-- ---- what is left

pub stored_so : (room size used moment token place : ℕ) (object : Object) (stale : Option ℕ) (old now new : Lazy) (out : List ℕ) → size ≡ size_of object → IsTidied moment old now → IsRoomy room size moment stale old now out
    → place ≡ place_for moment (kept_bans old) old.issued stale old.objects
    → new ≡ record now { objects = new_placed used token object place now.issued ∷ filter (λ (p : Placed). not (is_one_of out p)) (others_late stale now.objects) }
    → new ≡ stored_in room used moment token object stale old
stored_so room size used moment token place object stale old now new out same tidied roomy at is =
    let issued : now.issued ≡ old.issued = ap (λ (lazy : Lazy). lazy.issued) (tidied_frame [] moment old now tidied) in
    let others : List Placed = others_late stale old.objects in
    is ∙ tidied_frame (new_placed used token object place now.issued ∷ filter (λ (p : Placed). not (is_one_of out p)) (others_late stale now.objects)) moment old now tidied
    ∙ ap (λ (n : ℕ). record old { objects = new_placed used token object place n ∷ filter (λ (p : Placed). not (is_one_of out p)) (others_late stale now.objects) }) issued
    ∙ ap (λ (n : ℕ). record old { objects = new_placed used token object n old.issued ∷ filter (λ (p : Placed). not (is_one_of out p)) (others_late stale now.objects) }) at
    ∙ ap (λ (xs : List Placed). record old { objects = new_placed used token object (place_for moment (kept_bans old) old.issued stale old.objects) old.issued ∷ xs })
    (roomy.left ∙ ap (λ (n : ℕ). made_room room n moment (kept_bans old) old.issued others) same)

pub still_before : (used moment : ℕ) (old now : Lazy) → IsTidied moment old now → AreUsedBefore used old.objects → AreUsedBefore used now.objects
still_before used moment old now tidied before = tidied_keeps (λ (p : Placed). p.used < used) (λ issued p less. less) moment old now tidied before

none_of : (number : ℕ) (objects : List Placed) → AllByRecursion (λ (p : Placed). has_number number p ≡ false) objects → list_any (has_number number) objects ≡ false
none_of number [] all = refl
none_of number (p ∷ objects) all = rw (all.0) (none_of number objects all.1)

pub still_own : (number moment : ℕ) (old now : Lazy) → IsTidied moment old now → list_any (has_number number) old.objects ≡ false → list_any (has_number number) now.objects ≡ false
still_own number moment old now tidied own =
    none_of number now.objects (tidied_keeps (λ (p : Placed). has_number number p ≡ false) (λ issued p e. e) moment old now tidied (all_fail (has_number number) old.objects own))
