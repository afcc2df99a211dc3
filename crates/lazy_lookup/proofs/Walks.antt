-- A walk over objects by their numbers, one after another.
use Rattle.std.proofs.Common.{◌≡◌, ℕ, Bool, true, false, cond, List, [], ◌∷◌, ◌++◌, ◌+◌, ◌<◌, length, drop, get_or, Option, Some, None, refl, add-one, sym, ap, ◌∙◌, append_assoc}
use Rattle.std.specs.Option.{option_or}
use Rattle.std.proofs.Math.Seq.{drop-cons, drop-length}
use Rattle.cache_law.specs.declared.object.ObjectView.{ObjectView}
use Rattle.cache_law.specs.declared.call.Query.{Query}
use Rattle.cache_law.specs.Object.{can_confirm}
use Rattle.cache_law.specs.Lookup.{is_in_grace}
use Rattle.cache_frame.specs.declared.seen.Seen.{Seen}
use Rattle.lazy_law.specs.Placed.{Lazy, Placed}
use Rattle.lazy_lookup.specs.declared.marks.Marks.{Marks}
use Rattle.lazy_lookup.specs.declared.sight.Sight.{Sight}
use Rattle.lazy_lookup.specs.declared.sight.Sight.TheVariants.{Past, Struck, Unfit, Aged, Fresh}
use Rattle.lazy_lookup.specs.Sights.{at_number, ends_there, is_end, joined, nothing_seen, seeing, seeing_there, seen_all, sight_of}

-- ---- what is seen at first, and what later

or_none : (o : Option ObjectView) → option_or o None ≡ o
or_none None = refl
or_none (Some view) = refl

or_or : (a b c : Option ObjectView) → option_or (option_or a b) c ≡ option_or a (option_or b c)
or_or None b c = refl
or_or (Some view) b c = refl

first_or : (passes : Bool) (view : ObjectView) (later : Option ObjectView) → cond passes (Some view) later ≡ option_or (cond passes (Some view) None) later
first_or true view later = refl
first_or false view later = refl

append_none : (numbers : List ℕ) → numbers ++ [] ≡ numbers
append_none [] = refl
append_none (number ∷ numbers) = ap (λ (rest : List ℕ). number ∷ rest) (append_none numbers)

joined_nothing : (seen : Seen Marks) → joined seen nothing_seen ≡ seen
joined_nothing seen =
    rw (or_none seen.fresh, or_none seen.grace, or_none seen.stale, append_none seen.marks.gone, append_none seen.marks.tested) refl

joined_joined : (a b c : Seen Marks) → joined (joined a b) c ≡ joined a (joined b c)
joined_joined a b c =
    rw (
      or_or a.fresh b.fresh c.fresh,
      or_or a.grace b.grace c.grace,
      or_or a.stale b.stale c.stale,
      append_assoc a.marks.gone b.marks.gone c.marks.gone,
      append_assoc a.marks.tested b.marks.tested c.marks.tested,
    ) refl

goes_on : (moment : ℕ) (query : Query) (sight : Sight) (view : ObjectView) (later : Seen Marks) → is_end sight ≡ false
    → seeing moment query sight view later ≡ joined (seeing moment query sight view nothing_seen) later
goes_on moment query Past view later e = refl
goes_on moment query Struck view later e = refl
goes_on moment query Unfit view later e = refl
goes_on moment query Aged view later e =
    rw (first_or (is_in_grace moment query.options view.object) view later.grace, first_or (can_confirm view.object) view later.stale) refl
goes_on moment query Fresh view later e = cc

stays_open : (moment : ℕ) (query : Query) (sight : Sight) (view : ObjectView) → is_end sight ≡ false → (seeing moment query sight view nothing_seen).fresh ≡ None
stays_open moment query Past view e = refl
stays_open moment query Struck view e = refl
stays_open moment query Unfit view e = refl
stays_open moment query Aged view e = refl
stays_open moment query Fresh view e = cc

ends_so : (moment : ℕ) (query : Query) (sight : Sight) (view : ObjectView) (later : Seen Marks) → is_end sight ≡ true
    → seeing moment query sight view later ≡ seeing moment query sight view nothing_seen
ends_so moment query Past view later e = cc
ends_so moment query Struck view later e = cc
ends_so moment query Unfit view later e = cc
ends_so moment query Aged view later e = cc
ends_so moment query Fresh view later e = refl

-- ---- the same of what has a number, where there is one

module _ (moment : ℕ) (query : Query) (lazy : Lazy) where
  goes_on_there : (there : Option Placed) (later : Seen Marks) → ends_there moment query lazy there ≡ false
      → seeing_there moment query lazy there later ≡ joined (seeing_there moment query lazy there nothing_seen) later
  goes_on_there None later e = refl
  goes_on_there (Some placed) later e = goes_on moment query (sight_of moment query lazy placed) placed.view later e

  open_there : (there : Option Placed) → ends_there moment query lazy there ≡ false → (seeing_there moment query lazy there nothing_seen).fresh ≡ None
  open_there None e = refl
  open_there (Some placed) e = stays_open moment query (sight_of moment query lazy placed) placed.view e

  ends_at : (there : Option Placed) (later : Seen Marks) → ends_there moment query lazy there ≡ true
      → seeing_there moment query lazy there later ≡ seeing_there moment query lazy there nothing_seen
  ends_at None later e = cc
  ends_at (Some placed) later e = ends_so moment query (sight_of moment query lazy placed) placed.view later e

  -- the walk so far, and what it sees behind
  pub record SeenSo (numbers : List ℕ) (place : ℕ) (seen : Seen Marks) : Type 0 where
    pub whole : seen_all moment query lazy numbers ≡ joined seen (seen_all moment query lazy (drop place numbers))
    pub open_ : seen.fresh ≡ None

  next_whole : (numbers : List ℕ) (place d : ℕ) (seen : Seen Marks) → place < length numbers → SeenSo numbers place seen
      → seen_all moment query lazy numbers ≡ joined seen (seeing_there moment query lazy (at_number (get_or numbers place d) lazy) (seen_all moment query lazy (drop (place + 1) numbers)))
  next_whole numbers place d seen below so =
      so.whole
      ∙ ap (λ (rest : List ℕ). joined seen (seen_all moment query lazy rest)) (drop-cons numbers place d below ∙ ap (λ (k : ℕ). get_or numbers place d ∷ drop k numbers) (sym (add-one place)))

  pub see_more : (numbers : List ℕ) (place d : ℕ) (seen new : Seen Marks) → place < length numbers → SeenSo numbers place seen
      → ends_there moment query lazy (at_number (get_or numbers place d) lazy) ≡ false → new ≡ joined seen (seeing_there moment query lazy (at_number (get_or numbers place d) lazy) nothing_seen)
      → SeenSo numbers (place + 1) new
  see_more numbers place d seen new below so goes is =
      let there : Option Placed = at_number (get_or numbers place d) lazy in
      let later : Seen Marks = seen_all moment query lazy (drop (place + 1) numbers) in
      let here : Seen Marks = seeing_there moment query lazy there nothing_seen in
      record {
        whole =
            next_whole numbers place d seen below so ∙ ap (joined seen) (goes_on_there there later goes) ∙ sym (joined_joined seen here later) ∙ ap (λ (s : Seen Marks). joined s later) (sym is);
        open_ = ap (λ (s : Seen Marks). s.fresh) is ∙ rw (so.open_) (open_there there goes);
      }

  pub see_end : (numbers : List ℕ) (place d : ℕ) (seen new : Seen Marks) → place < length numbers → SeenSo numbers place seen
      → ends_there moment query lazy (at_number (get_or numbers place d) lazy) ≡ true → new ≡ joined seen (seeing_there moment query lazy (at_number (get_or numbers place d) lazy) nothing_seen)
      → new ≡ seen_all moment query lazy numbers
  see_end numbers place d seen new below so ends is =
      let there : Option Placed = at_number (get_or numbers place d) lazy in
      is ∙ ap (joined seen) (sym (ends_at there (seen_all moment query lazy (drop (place + 1) numbers)) ends)) ∙ sym (next_whole numbers place d seen below so)

  pub seen_whole : (numbers : List ℕ) (place : ℕ) (seen : Seen Marks) → place ≡ length numbers → SeenSo numbers place seen → seen ≡ seen_all moment query lazy numbers
  seen_whole numbers place seen end_ so =
      sym (joined_nothing seen) ∙ ap (λ (rest : List ℕ). joined seen (seen_all moment query lazy rest)) (sym (ap (λ (n : ℕ). drop n numbers) end_ ∙ drop-length numbers)) ∙ sym so.whole

  pub nothing_yet : (numbers : List ℕ) (seen : Seen Marks) → seen ≡ nothing_seen → SeenSo numbers 0 seen
  nothing_yet numbers seen is =
      record { whole = ap (λ (s : Seen Marks). joined s (seen_all moment query lazy numbers)) (sym is); open_ = ap (λ (s : Seen Marks). s.fresh) is }
