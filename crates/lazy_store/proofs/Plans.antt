-- What a plan has of one number after another.
use Rattle.std.proofs.Common.{◌≡◌, ◌<◌, ◌+◌, ℕ, Bool, true, false, cond, List, [], ◌∷◌, ◌++◌, Option, Some, None, filter, length, take, drop, get_or, sym, ap, ◌∙◌, append_assoc, add-one, drop-cons}
use Rattle.std.specs.Prelude.{filter_map, option_and_then, option_map, option_to_list}
use Rattle.std.specs.List.{cons_option}
use Rattle.std.proofs.lemmas.List.{append-nil, take_more}
use Rattle.std.proofs.lemmas.List.Elements.{filter-append}
use Rattle.cache_law.specs.declared.object.Object.{Object}
use Rattle.room_lru.specs.declared.ending.Ending.{Ending}
use Rattle.lazy_store.specs.Members.{Member, at_number}
use Rattle.lazy_store.specs.Softening.{ending_at, ending_in, object_at, soft_object}

-- ---- one number

module _ (moment number : ℕ) (members : List Member) where
  pub no_ending : (items : List Ending) → at_number number members ≡ None → items ≡ items ++ option_to_list (ending_at moment members number)
  no_ending items none = sym (append-nil items) ∙ ap (λ (o : Option Member). items ++ option_to_list (option_and_then (ending_in moment) o)) (sym none)

  pub no_object : (items : List (ℕ × Object)) → at_number number members ≡ None → items ≡ items ++ option_to_list (object_at moment members number)
  no_object items none = sym (append-nil items) ∙ ap (λ (o : Option Member). items ++ option_to_list (option_map (λ (m : Member). (m.0, soft_object moment m)) o)) (sym none)

  pub one_ending : (items : List Ending) (m : Member) (ending : Option Ending) → at_number number members ≡ Some m → ending ≡ ending_in moment m
      → items ++ option_to_list ending ≡ items ++ option_to_list (ending_at moment members number)
  one_ending items m ending found is =
      ap (λ (o : Option Ending). items ++ option_to_list o) is ∙ ap (λ (o : Option Member). items ++ option_to_list (option_and_then (ending_in moment) o)) (sym found)

  pub one_object : (items : List (ℕ × Object)) (m : Member) (object : Object) → at_number number members ≡ Some m → object ≡ soft_object moment m
      → items ++ (m.0, object) ∷ [] ≡ items ++ option_to_list (object_at moment members number)
  one_object items m object found is =
      ap (λ (o : Object). items ++ (m.0, o) ∷ []) is ∙ ap (λ (o : Option Member). items ++ option_to_list (option_map (λ (x : Member). (x.0, soft_object moment x)) o)) (sym found)

-- ---- one number more

module _ {Y : Type 0} where
  more_case : (o : Option Y) (items rest : List Y) → (items ++ option_to_list o) ++ rest ≡ items ++ cons_option o rest
  more_case None items rest = ap (λ (ys : List Y). ys ++ rest) (append-nil items)
  more_case (Some y) items rest = append_assoc items (y ∷ []) rest

  pub more_planned : (f : ℕ → Option Y) (numbers : List ℕ) (i d : ℕ) (items : List Y) → i < length numbers
      → (items ++ option_to_list (f (get_or numbers i d))) ++ filter_map f (drop (i + 1) numbers) ≡ items ++ filter_map f (drop i numbers)
  more_planned f numbers i d items within =
      let next : drop i numbers ≡ get_or numbers i d ∷ drop (i + 1) numbers = rw add-one (drop-cons numbers i d within) in
      more_case (f (get_or numbers i d)) items (filter_map f (drop (i + 1) numbers)) ∙ ap (λ (ns : List ℕ). items ++ filter_map f ns) (sym next)

chosen_case : (b : Bool) (items chosen : List ℕ) (n : ℕ) → items ≡ chosen → cond b (items ++ n ∷ []) items ≡ chosen ++ cond b (n ∷ []) []
chosen_case true items chosen n is = ap (λ (ns : List ℕ). ns ++ n ∷ []) is
chosen_case false items chosen n is = is ∙ sym (append-nil chosen)

pub chosen_more : (test : ℕ → Bool) (numbers : List ℕ) (i d : ℕ) (items : List ℕ) → i < length numbers → items ≡ filter test (take i numbers)
    → cond (test (get_or numbers i d)) (items ++ get_or numbers i d ∷ []) items ≡ filter test (take (i + 1) numbers)
chosen_more test numbers i d items within is =
    chosen_case (test (get_or numbers i d)) items (filter test (take i numbers)) (get_or numbers i d) is
    ∙ sym (ap (filter test) (take_more numbers i d within) ∙ filter-append test (take i numbers) (get_or numbers i d ∷ []))
