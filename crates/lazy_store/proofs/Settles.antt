-- What was found of an object is settled.
use Rattle.std.proofs.Common.{◌≡◌, ◌≤◌, ℕ, Bool, true, false, not, cond, List, [], ◌∷◌, ◌++◌, ◌&&◌, ◌||◌, Some, None, find, map, refl, arith, sym, ap, ◌∙◌, subst}
use Rattle.std.specs.Prelude.{nat_eq, nat_le, option_map}
use Rattle.std.specs.List.{list_any, AllByRecursion}
use Rattle.std.proofs.lemmas.Bool.{and_parts, eq-eqb, eqb-true, false≢true, leb-true}
use Rattle.std.proofs.lemmas.Bool.Decides.{nat_tests}
use Rattle.cache_law.specs.declared.ban.Issued.{Issued}
use Rattle.cache_law.specs.ShownBans.{those_open}
use Rattle.ban_lurker.specs.declared.chore.Verdict.{Verdict}
use Rattle.room_lru.specs.Members.{Used}
use Rattle.ban_list.specs.Bans.{Bans}
use Rattle.ban_list.specs.declared.list.Stand.{Stand}
use Rattle.object_heads.specs.Members as heads
use Rattle.lazy_law.specs.Placed.{Lazy, Placed, is_unswept, kept_bans, marked_at}
use Rattle.lazy_law.specs.Insertion.{has_number, others_late}
use Rattle.lazy_law.specs.Stands.{IsWithin as TestedUpTo}
use Rattle.lazy_law.specs.Sweeping.{is_asked, judged_late, judged_lazy, judging}
use Rattle.lazy_store.specs.declared.finding.Found.{Found}
use Rattle.lazy_store.specs.Found.{found_in}
use Rattle.lazy_store.specs.Changes.{is_waiting, moved, moving, without}
use Rattle.lazy_store.specs.Members.{Member, at_number, number_in, number_of, placed_of, stand_of}
use Rattle.lazy_store.specs.Settling.{is_open, is_settled, is_sound, settled}
use Rattle.lazy_store.specs.Tied.{AreApart, AreTied}
use Rattle.lazy_store.proofs.Splits.{IsFound, all_here, all_more, all_weaken, apart_others, filter_all, filter_less, found, map_all, map_one}
use Rattle.lazy_store.proofs.Changes.{IsOf, one_of, others_numbered}
use Rattle.lazy_store.proofs.Fewer.{gone_rest}
use Rattle.lazy_store.proofs.Sweeps.{others_of}
use Rattle.lazy_store.proofs.Ties.{alone_for, waiting_among}
use Rattle.lazy_store.proofs.Waits.{waits_is}

-- ---- whether there is one

pub open_none : (verdict : Verdict) (kept : List Issued) (members : List Member) → AllByRecursion (λ (y : Member). nat_eq (number_of y) verdict.object ≡ false) members
    → find (is_open kept verdict) (map placed_of members) ≡ None
open_none verdict kept [] others = refl
open_none verdict kept (y ∷ members) others = rw (others.0) (open_none verdict kept members others.1)

open_at : (verdict : Verdict) (kept : List Issued) (before : List Member) (m : Member) (behind : List Member) (b : Bool)
    → AllByRecursion (λ (y : Member). nat_eq (number_of y) verdict.object ≡ false) (before ++ behind) → is_open kept verdict (placed_of m) ≡ b
    → find (is_open kept verdict) (map placed_of (before ++ m ∷ behind)) ≡ cond b (Some (placed_of m)) None
open_at verdict kept [] m behind true others e = rw e refl
open_at verdict kept [] m behind false others e = rw e (open_none verdict kept behind others)
open_at verdict kept (y ∷ before) m behind b others e = rw (others.0) (open_at verdict kept before m behind b others.1 e)

open_case : (number mark waits : Bool) (b : Bool) → number ≡ true → mark ≡ true → waits ≡ b → ((number && mark) && waits) ≡ b
open_case number mark waits b e f g = rw (e, f) g

place_case : (b : Bool) (p : Placed) → option_map (λ (q : Placed). q.place) (cond b (Some p) None) ≡ cond b (Some p.place) None
place_case true p = refl
place_case false p = refl

-- the object of the verdict's number, whether it is as the verdict has it and waits
module _ (verdict : Verdict) (it : Found) (members : List Member) (tagged : List (ℕ × List (List ℕ))) (room : List Used) (bans : Bans) (newest unswept : ℕ) where
  pub open_found : (b : Bool) → AreTied members tagged room bans newest unswept → Some it ≡ option_map found_in (at_number verdict.object members)
      → (nat_eq it.placement.stand.mark verdict.mark && is_waiting unswept newest it.placement.stand.mark) ≡ b
      → option_map (λ (p : Placed). p.place) (find (is_open (those_open bans.lines) verdict) (map placed_of members)) ≡ cond b (Some it.placement.stand.place) None
  open_found b tied is e =
      let one : IsOf found_in (at_number verdict.object members) it = one_of found_in (at_number verdict.object members) it is in
      let m : Member = one.one in
      let f : IsFound (λ (x : Member). heads.has_number verdict.object x.1) members m = found (λ (x : Member). heads.has_number verdict.object x.1) members m one.is in
      let split : AreTied (f.split.before ++ m ∷ f.split.behind) tagged room bans newest unswept = subst (λ (xs : List Member). AreTied xs tagged room bans newest unswept) f.split.is tied in
      let waits : is_waiting unswept newest (stand_of m).mark ≡ is_unswept (those_open bans.lines) (placed_of m) =
      waits_is unswept newest (stand_of m).mark _ (is_unswept (those_open bans.lines) (placed_of m)) (split.waiting ∙ waiting_among f.split.before m f.split.behind bans) (alone_for bans unswept newest m split.alone) in
      let others = others_numbered verdict.object m (f.split.before ++ f.split.behind) f.passes (apart_others number_of f.split.before m f.split.behind split.numbers) in
      let own : (nat_eq (stand_of m).mark verdict.mark && is_unswept (those_open bans.lines) (placed_of m)) ≡ b =
      ap (λ (w : Bool). nat_eq (stand_of m).mark verdict.mark && w) (sym waits) ∙ subst (λ (g : Found). (nat_eq g.placement.stand.mark verdict.mark && is_waiting unswept newest g.placement.stand.mark) ≡ b) (sym one.gives) e in
      let passes : is_open (those_open bans.lines) verdict (placed_of m) ≡ b = rw (f.passes) own in
      ap (option_map (λ (p : Placed). p.place))
      (ap (λ (xs : List Member). find (is_open (those_open bans.lines) verdict) (map placed_of xs)) f.split.is ∙ open_at verdict (those_open bans.lines) f.split.before m f.split.behind b others passes)
      ∙ place_case b (placed_of m) ∙ ap (λ (g : Found). cond b (Some g.placement.stand.place) None) one.gives

pub unequal : (a b : ℕ) (c : Bool) → (a ≡ b → ⊥) → (nat_eq a b && c) ≡ false
unequal a b c apart = let e : nat_eq a b ≡ false = grind (arith, nat_tests) in ap (λ (x : Bool). x && c) e

pub equal_so : (a b : ℕ) (c d : Bool) → a ≡ b → c ≡ d → (nat_eq a b && c) ≡ d
equal_so a b c d same is = ap (λ (x : Bool). x && c) (eq-eqb a b same) ∙ is

-- ---- what is left

not_asked : (verdict : Verdict) (y : Placed) → has_number verdict.object y ≡ false → is_asked verdict y ≡ false
not_asked verdict y e = rw e refl

unjudged : (verdict : Verdict) (xs : List Placed) → AllByRecursion (λ y. has_number verdict.object y ≡ false) xs → AllByRecursion (λ (y : Placed). judging verdict y ≡ y) xs
unjudged verdict xs others =
    all_weaken (λ (y : Placed). has_number verdict.object y ≡ false) (λ (y : Placed). judging verdict y ≡ y) (λ y e. rw (not_asked verdict y e) refl) xs others

stay : (verdict : Verdict) (xs : List Placed) → AllByRecursion (λ y. has_number verdict.object y ≡ false) xs → AllByRecursion (λ (y : Placed). not (is_asked verdict y && verdict.dead) ≡ true) xs
stay verdict xs others =
    all_weaken (λ (y : Placed). has_number verdict.object y ≡ false) (λ (y : Placed). not (is_asked verdict y && verdict.dead) ≡ true) (λ y e. rw (not_asked verdict y e) refl) xs others

dead_case : (asked dead : Bool) → asked ≡ true → dead ≡ true → not (asked && dead) ≡ false
dead_case asked dead e f = rw (e, f) refl

alive_case : (asked dead : Bool) → dead ≡ false → not (asked && dead) ≡ true
alive_case true dead e = ap not e
alive_case false dead e = refl

judged_dead : (verdict : Verdict) (before : List Placed) (p : Placed) (behind : List Placed) → AllByRecursion (λ y. has_number verdict.object y ≡ false) (before ++ behind)
    → has_number verdict.object p ≡ true → is_asked verdict p ≡ true → verdict.dead ≡ true → judged_late verdict (before ++ p ∷ behind) ≡ others_late (Some verdict.object) (before ++ p ∷ behind)
judged_dead verdict before p behind others same asked dead =
    ap (map (judging verdict)) (filter_less (λ (y : Placed). not (is_asked verdict y && verdict.dead)) before p behind (dead_case (is_asked verdict p) verdict.dead asked dead) (stay verdict (before ++ behind) others))
    ∙ map_all (judging verdict) (before ++ behind) (unjudged verdict (before ++ behind) others)
    ∙ sym (gone_rest verdict.object before p behind others same)

one_judged : (verdict : Verdict) (p : Placed) → is_asked verdict p ≡ true → judging verdict p ≡ marked_at verdict.upto p
one_judged verdict p e = rw e refl

one_moved : (verdict : Verdict) (p : Placed) → has_number verdict.object p ≡ true → moving verdict.object (record { place = p.place; mark = verdict.upto }) p ≡ marked_at verdict.upto p
one_moved verdict p e = rw e refl

judged_alive : (verdict : Verdict) (before : List Placed) (p : Placed) (behind : List Placed) → AllByRecursion (λ y. has_number verdict.object y ≡ false) (before ++ behind)
    → has_number verdict.object p ≡ true → is_asked verdict p ≡ true → verdict.dead ≡ false
    → judged_late verdict (before ++ p ∷ behind) ≡ map (moving verdict.object (record { place = p.place; mark = verdict.upto })) (before ++ p ∷ behind)
judged_alive verdict before p behind others same asked alive =
    let stand : Stand = record { place = p.place; mark = verdict.upto } in
    ap (map (judging verdict)) (filter_all (λ (y : Placed). not (is_asked verdict y && verdict.dead)) (before ++ p ∷ behind)
    (all_more (λ (y : Placed). not (is_asked verdict y && verdict.dead) ≡ true) before p behind (alive_case (is_asked verdict p) verdict.dead alive) (stay verdict (before ++ behind) others)))
    ∙ map_one (judging verdict) before p behind (unjudged verdict (before ++ behind) others)
    ∙ ap (λ (q : Placed). before ++ q ∷ behind) (one_judged verdict p asked)
    ∙ sym (map_one (moving verdict.object stand) before p behind
    (all_weaken (λ (y : Placed). has_number verdict.object y ≡ false) (λ (y : Placed). moving verdict.object stand y ≡ y) (λ y e. rw e refl) (before ++ behind) others)
    ∙ ap (λ (q : Placed). before ++ q ∷ behind) (one_moved verdict p same))

-- with the place of the one that is found
record IsJudged (verdict : Verdict) (lazy : Lazy) (place : ℕ) : Type 0 where
  one : Placed
  found_ : IsFound (is_open (kept_bans lazy) verdict) lazy.objects one
  place_ : one.place ≡ place

judged_of : (verdict : Verdict) (lazy : Lazy) (place : ℕ) → Some place ≡ option_map (λ (p : Placed). p.place) (find (is_open (kept_bans lazy) verdict) lazy.objects) → IsJudged verdict lazy place
judged_of verdict lazy place is =
    let one : IsOf (λ (p : Placed). p.place) (find (is_open (kept_bans lazy) verdict) lazy.objects) place = one_of (λ (p : Placed). p.place) (find (is_open (kept_bans lazy) verdict) lazy.objects) place is in
    record { one = one.one; found_ = found (is_open (kept_bans lazy) verdict) lazy.objects one.one one.is; place_ = one.gives }

own_number : (asked number mark waits : Bool) → ((number && mark) && waits) ≡ true → (number ≡ true) × ((number && mark) ≡ true)
own_number asked true true true e = (refl, refl)
own_number asked true true false e = absurd (false≢true e)
own_number asked true false waits e = absurd (false≢true e)
own_number asked false mark waits e = absurd (false≢true e)

module _ (verdict : Verdict) (lazy : Lazy) (place : ℕ) where
  pub close_dead : AreApart number_in lazy.objects → Some place ≡ option_map (λ (p : Placed). p.place) (find (is_open (kept_bans lazy) verdict) lazy.objects) → verdict.dead ≡ true
      → without verdict.object lazy ≡ judged_lazy verdict lazy
  close_dead apart is dead =
      let j : IsJudged verdict lazy place = judged_of verdict lazy place is in
      let own = own_number true (has_number verdict.object j.one) (nat_eq j.one.mark verdict.mark) (is_unswept (kept_bans lazy) j.one) j.found_.passes in
      let others : AllByRecursion (λ y. has_number verdict.object y ≡ false) (j.found_.split.before ++ j.found_.split.behind) =
      others_of verdict.object j.found_.split.before j.one j.found_.split.behind (subst (AreApart number_in) j.found_.split.is apart) own.0 in
      ap (λ (objects : List Placed). record lazy { objects = objects })
      (ap (others_late (Some verdict.object)) j.found_.split.is
      ∙ sym (judged_dead verdict j.found_.split.before j.one j.found_.split.behind others own.0 own.1 dead)
      ∙ ap (judged_late verdict) (sym j.found_.split.is))

  pub close_alive : AreApart number_in lazy.objects → Some place ≡ option_map (λ (p : Placed). p.place) (find (is_open (kept_bans lazy) verdict) lazy.objects) → verdict.dead ≡ false
      → moved verdict.object (record { place = place; mark = verdict.upto }) lazy ≡ judged_lazy verdict lazy
  close_alive apart is alive =
      let j : IsJudged verdict lazy place = judged_of verdict lazy place is in
      let own = own_number true (has_number verdict.object j.one) (nat_eq j.one.mark verdict.mark) (is_unswept (kept_bans lazy) j.one) j.found_.passes in
      let others : AllByRecursion (λ y. has_number verdict.object y ≡ false) (j.found_.split.before ++ j.found_.split.behind) =
      others_of verdict.object j.found_.split.before j.one j.found_.split.behind (subst (AreApart number_in) j.found_.split.is apart) own.0 in
      ap (λ (n : ℕ). moved verdict.object (record { place = n; mark = verdict.upto }) lazy) (sym j.place_)
      ∙ ap (λ (objects : List Placed). record lazy { objects = objects })
      (ap (map (moving verdict.object (record { place = j.one.place; mark = verdict.upto }))) j.found_.split.is
      ∙ sym (judged_alive verdict j.found_.split.before j.one j.found_.split.behind others own.0 own.1 alive)
      ∙ ap (judged_late verdict) (sym j.found_.split.is))

  pub close_place : (issued : ℕ) → AllByRecursion (TestedUpTo issued) lazy.objects → Some place ≡ option_map (λ (p : Placed). p.place) (find (is_open (kept_bans lazy) verdict) lazy.objects) → place ≤ issued
  close_place issued within is =
      let j : IsJudged verdict lazy place = judged_of verdict lazy place is in
      let here : TestedUpTo issued j.one = all_here (TestedUpTo issued) j.found_.split.before j.one j.found_.split.behind (subst (AllByRecursion (TestedUpTo issued)) j.found_.split.is within) in
      omega (arith, here.place, j.place_)

  pub close_later : AreApart number_in lazy.objects → Some place ≡ option_map (λ (p : Placed). p.place) (find (is_open (kept_bans lazy) verdict) lazy.objects) → verdict.mark ≤ verdict.upto
      → AllByRecursion (λ (p : Placed). has_number verdict.object p ≡ true → p.mark ≤ verdict.upto) lazy.objects
  close_later apart is less =
      let j : IsJudged verdict lazy place = judged_of verdict lazy place is in
      let own = own_number true (has_number verdict.object j.one) (nat_eq j.one.mark verdict.mark) (is_unswept (kept_bans lazy) j.one) j.found_.passes in
      let mark : j.one.mark ≡ verdict.mark = eqb-true j.one.mark verdict.mark (and_parts (has_number verdict.object j.one) (nat_eq j.one.mark verdict.mark) own.1).1 in
      let others : AllByRecursion (λ y. has_number verdict.object y ≡ false) (j.found_.split.before ++ j.found_.split.behind) =
      others_of verdict.object j.found_.split.before j.one j.found_.split.behind (subst (AreApart number_in) j.found_.split.is apart) own.0 in
      subst (AllByRecursion (λ (p : Placed). has_number verdict.object p ≡ true → p.mark ≤ verdict.upto)) (sym j.found_.split.is)
      (all_more (λ (p : Placed). has_number verdict.object p ≡ true → p.mark ≤ verdict.upto) j.found_.split.before j.one j.found_.split.behind (λ e. omega arith)
      (all_weaken (λ (y : Placed). has_number verdict.object y ≡ false) (λ (p : Placed). has_number verdict.object p ≡ true → p.mark ≤ verdict.upto) (λ y e. λ f. absurd (false≢true (sym e ∙ f))) (j.found_.split.before ++ j.found_.split.behind) others))

-- ---- the answer

sound_parts : (dead later within : Bool) → (dead || (later && within)) ≡ true → dead ≡ false → (later ≡ true) × (within ≡ true)
sound_parts true later within e f = absurd (false≢true (sym f))
sound_parts false later within e f = and_parts later within e

pub sound_says : (issued : ℕ) (verdict : Verdict) → is_sound issued verdict ≡ true → verdict.dead ≡ false → (verdict.mark ≤ verdict.upto) × (verdict.upto ≤ issued)
sound_says issued verdict e alive =
    let parts = sound_parts verdict.dead (nat_le verdict.mark verdict.upto) (nat_le verdict.upto issued) e alive in
    (leb-true verdict.mark verdict.upto parts.0, leb-true verdict.upto issued parts.1)

any_case : {X : Type 0} (test : X → Bool) (x : X) (xs : List X) (place : X → ℕ) (b : Bool) → (None ≡ option_map place (find test xs) → list_any test xs ≡ false)
    → None ≡ option_map place (cond b (Some x) (find test xs)) → (b || list_any test xs) ≡ false
any_case test x xs place true rest is = absurd cc
any_case test x xs place false rest is = rest is

none_any : {X : Type 0} (test : X → Bool) (place : X → ℕ) (xs : List X) → None ≡ option_map place (find test xs) → list_any test xs ≡ false
none_any test place [] is = refl
none_any test place (x ∷ xs) is = any_case test x xs place (test x) (none_any test place xs) is

some_case : {X : Type 0} (test : X → Bool) (x : X) (xs : List X) (place : X → ℕ) (given : ℕ) (b : Bool) → (Some given ≡ option_map place (find test xs) → list_any test xs ≡ true)
    → Some given ≡ option_map place (cond b (Some x) (find test xs)) → (b || list_any test xs) ≡ true
some_case test x xs place given true rest is = refl
some_case test x xs place given false rest is = rest is

some_any : {X : Type 0} (test : X → Bool) (place : X → ℕ) (given : ℕ) (xs : List X) → Some given ≡ option_map place (find test xs) → list_any test xs ≡ true
some_any test place given [] is = absurd cc
some_any test place given (x ∷ xs) is = some_case test x xs place given (test x) (some_any test place given xs) is

and_none : (b : Bool) → (b && false) ≡ false
and_none true = refl
and_none false = refl

pub not_open : (verdict : Verdict) (lazy : Lazy) → None ≡ option_map (λ (p : Placed). p.place) (find (is_open (kept_bans lazy) verdict) lazy.objects) → is_settled verdict lazy ≡ false
not_open verdict lazy is =
    ap (λ (b : Bool). is_sound lazy.issued verdict && b) (none_any (is_open (kept_bans lazy) verdict) (λ (p : Placed). p.place) lazy.objects is) ∙ and_none (is_sound lazy.issued verdict)

pub is_open_so : (verdict : Verdict) (lazy : Lazy) (place : ℕ) → is_sound lazy.issued verdict ≡ true → Some place ≡ option_map (λ (p : Placed). p.place) (find (is_open (kept_bans lazy) verdict) lazy.objects)
    → is_settled verdict lazy ≡ true
is_open_so verdict lazy place sound is = rw (sound) (some_any (is_open (kept_bans lazy) verdict) (λ (p : Placed). p.place) place lazy.objects is)

pub not_sound : (verdict : Verdict) (lazy : Lazy) → is_sound lazy.issued verdict ≡ false → is_settled verdict lazy ≡ false
not_sound verdict lazy e = ap (λ (b : Bool). b && list_any (is_open (kept_bans lazy) verdict) lazy.objects) e

settled_case : (verdict : Verdict) (lazy : Lazy) (b : Bool) → is_settled verdict lazy ≡ b → settled verdict lazy ≡ cond b (judged_lazy verdict lazy) lazy
settled_case verdict lazy b e = ap (λ (x : Bool). cond x (judged_lazy verdict lazy) lazy) e

pub settled_as : (verdict : Verdict) (lazy : Lazy) → is_settled verdict lazy ≡ true → judged_lazy verdict lazy ≡ settled verdict lazy
settled_as verdict lazy e = sym (settled_case verdict lazy true e)

pub settled_not : (verdict : Verdict) (lazy : Lazy) → is_settled verdict lazy ≡ false → lazy ≡ settled verdict lazy
settled_not verdict lazy e = sym (settled_case verdict lazy false e)
