-- The containers stay tied where one of the members goes, or is tested.
use Rattle.std.proofs.Common.{◌≡◌, ◌≤◌, ◌<◌, ◌+◌, ◌⊎◌, inl, inr, ℕ, zero, suc, true, false, not, List, [], ◌∷◌, ◌++◌, filter, map, length, nat_eq, refl, arith, sym, ap, ◌∙◌, subst}
use Rattle.std.specs.Prelude.{nat_lt}
use Rattle.std.specs.List.{list_any}
use Rattle.std.proofs.lemmas.Bool.{and_from, and_parts, ltb-true, lt-ltb}
use Rattle.std.proofs.lemmas.Bool.Decides.{nat_tests}
use Rattle.std.proofs.lemmas.List.{map-append}
use Rattle.cache_law.specs.declared.ban.BanLine.{BanLine}
use Rattle.cache_law.specs.declared.ban.Issued.{Issued}
use Rattle.cache_law.specs.ShownBans.{those_open}
use Rattle.xkey_index.specs.Members as xkeys
use Rattle.room_lru.specs.Members as rooms
use Rattle.room_lru.specs.Members.{Used}
use Rattle.ban_lurker.specs.Looks.{is_above, is_alone}
use Rattle.ban_list.specs.declared.list.Stand.{Stand}
use Rattle.ban_list.specs.Bans.{Bans, departed, entered, newer, one_more, standing}
use Rattle.ban_list.specs.Stands.{AreAt, counts_of}
use Rattle.ban_list.proofs.StandLemmas.{at_departed, at_entered, may_depart}
use Rattle.lazy_law.specs.Placed.{is_unswept}
use Rattle.lazy_law.specs.Sweeping.{count_unswept}
use Rattle.lazy_law.proofs.Filters.{any_more, filter_of_map, length_of_map}
use Rattle.lazy_store.specs.declared.placement.Placement.{Placement}
use Rattle.lazy_store.specs.Members.{Member, handle_of, lazy_of, number_of, placed_of, stand_of, tagged_of, use_of, used_of}
use Rattle.lazy_store.specs.Tied.{AreAlike, AreApart, AreTied, IsAhead, IsNewestAlone, IsWithin}
use Rattle.lazy_store.specs.Changes.{fewer, with_mark}
use Rattle.lazy_store.proofs.Splits.{all_here, all_less, all_more, all_weaken, alike_filter, apart_less, apart_more, apart_others, count_among, filter_less, one_if}
use Rattle.lazy_store.proofs.Waits.{fewer_is, fewer_none, with_mark_is, with_none}

-- ---- one member less

not_self : (n : ℕ) → not (nat_eq n n) ≡ false
not_self n = grind (arith, nat_tests)

-- the others than the one of a number are left
pub others_left : {X : Type 0} (number : X → ℕ) (before : List X) (x : X) (behind : List X) → AreApart number (before ++ x ∷ behind)
    → filter (λ (y : X). not (nat_eq (number x) (number y))) (before ++ x ∷ behind) ≡ before ++ behind
others_left {X} number before x behind apart =
    filter_less (λ (y : X). not (nat_eq (number x) (number y))) before x behind (not_self (number x))
    (all_weaken (λ (y : X). nat_eq (number x) (number y) ≡ false) (λ (y : X). not (nat_eq (number x) (number y)) ≡ true) (λ y e. ap not e) (before ++ behind) (apart_others number before x behind apart))

tagged_less : (before : List Member) (m : Member) (behind : List Member) (tagged : List (ℕ × List (List ℕ))) → AreApart handle_of (before ++ m ∷ behind)
    → tagged ≡ map tagged_of (before ++ m ∷ behind) → xkeys.without (handle_of m) tagged ≡ map tagged_of (before ++ behind)
tagged_less before m behind tagged apart is =
    ap (xkeys.without (handle_of m)) is
    ∙ filter_of_map (λ (x : ℕ × List (List ℕ)). not (nat_eq (handle_of m) x.0)) tagged_of (before ++ m ∷ behind)
    ∙ ap (map tagged_of) (others_left handle_of before m behind apart)

pub room_less : (before : List Member) (m : Member) (behind : List Member) (room : List Used) → AreApart use_of (before ++ m ∷ behind)
    → AreAlike room (map used_of (before ++ m ∷ behind)) → AreAlike (rooms.without (use_of m) room) (map used_of (before ++ behind))
room_less before m behind room apart alike =
    subst (λ (xs : List Used). AreAlike (rooms.without (use_of m) room) xs)
    (filter_of_map (λ (x : Used). not (nat_eq (use_of m) x.0)) used_of (before ++ m ∷ behind) ∙ ap (map used_of) (others_left use_of before m behind apart))
    (alike_filter (λ (x : Used). not (nat_eq (use_of m) x.0)) room (map used_of (before ++ m ∷ behind)) alike)

stands_around : (before : List Member) (m : Member) (behind : List Member) (bans : Bans) → AreAt bans (map stand_of (before ++ m ∷ behind))
    → AreAt bans (map stand_of before ++ stand_of m ∷ map stand_of behind)
stands_around before m behind bans at = subst (AreAt bans) (map-append stand_of before (m ∷ behind)) at

stands_less : (before : List Member) (m : Member) (behind : List Member) (bans : Bans) → AreAt bans (map stand_of (before ++ m ∷ behind))
    → AreAt (departed (stand_of m).place (stand_of m).mark bans) (map stand_of (before ++ behind))
stands_less before m behind bans at =
    subst (AreAt (departed (stand_of m).place (stand_of m).mark bans)) (sym (map-append stand_of before behind))
    (at_departed (stand_of m) bans (map stand_of before) (map stand_of behind) (stands_around before m behind bans at))

-- what departs may do so
pub may_go : (before : List Member) (m : Member) (behind : List Member) (bans : Bans) → AreAt bans (map stand_of (before ++ m ∷ behind))
    → (0 < standing (stand_of m).place bans.lines bans.placed) × (0 < standing (stand_of m).mark bans.lines bans.marked)
may_go before m behind bans at = may_depart (stand_of m) bans (map stand_of before) (map stand_of behind) (stands_around before m behind bans at)

-- how many wait, one of them taken apart
pub waiting_among : (before : List Member) (m : Member) (behind : List Member) (bans : Bans)
    → count_unswept (lazy_of (before ++ m ∷ behind) bans) ≡ one_if (is_unswept (those_open bans.lines) (placed_of m)) + count_unswept (lazy_of (before ++ behind) bans)
waiting_among before m behind bans =
    let kept : List Issued = those_open bans.lines in
    let all : length (filter (is_unswept kept) (map placed_of (before ++ m ∷ behind))) ≡ length (filter (λ x. is_unswept kept (placed_of x)) (before ++ m ∷ behind)) =
    ap length (filter_of_map (is_unswept kept) placed_of (before ++ m ∷ behind)) ∙ length_of_map placed_of (filter (λ x. is_unswept kept (placed_of x)) (before ++ m ∷ behind)) in
    let rest : length (filter (is_unswept kept) (map placed_of (before ++ behind))) ≡ length (filter (λ x. is_unswept kept (placed_of x)) (before ++ behind)) =
    ap length (filter_of_map (is_unswept kept) placed_of (before ++ behind)) ∙ length_of_map placed_of (filter (λ x. is_unswept kept (placed_of x)) (before ++ behind)) in
    all ∙ count_among (λ x. is_unswept kept (placed_of x)) before m behind ∙ ap (λ (n : ℕ). one_if (is_unswept kept (placed_of m)) + n) (sym rest)

pub alone_for : (bans : Bans) (unswept newest : ℕ) (m : Member) → IsNewestAlone bans unswept newest → (unswept ≡ 0) ⊎ (is_unswept (those_open bans.lines) (placed_of m) ≡ nat_lt (stand_of m).mark newest)
alone_for bans unswept newest m (inl none) = inl none
alone_for bans unswept newest m (inr those) = inr (those (stand_of m).mark)

alone_less : (bans later : Bans) (unswept newest mark : ℕ) → later.lines ≡ bans.lines → IsNewestAlone bans unswept newest → IsNewestAlone later (fewer unswept newest mark) newest
alone_less bans later unswept newest mark same (inl none) = inl (fewer_none unswept newest mark none)
alone_less bans later unswept newest mark same (inr those) = inr (λ n. ap (λ (lines : List BanLine). list_any (is_above n) (those_open lines)) same ∙ those n)

pub tied_less : (before : List Member) (m : Member) (behind : List Member) (tagged : List (ℕ × List (List ℕ))) (room : List Used) (bans : Bans) (newest unswept : ℕ)
    → AreTied (before ++ m ∷ behind) tagged room bans newest unswept
    → AreTied (before ++ behind) (xkeys.without (handle_of m) tagged) (rooms.without (use_of m) room) (departed (stand_of m).place (stand_of m).mark bans) newest (fewer unswept newest (stand_of m).mark)
tied_less before m behind tagged room bans newest unswept tied =
    record {
      handles = apart_less handle_of before m behind tied.handles;
      numbers = apart_less number_of before m behind tied.numbers;
      uses = apart_less use_of before m behind tied.uses;
      ahead = all_less IsAhead before m behind tied.ahead;
      within = all_less (IsWithin bans.issued) before m behind tied.within;
      tagged_ = tagged_less before m behind tagged tied.handles tied.tagged_;
      room_ = room_less before m behind room tied.uses tied.room_;
      stands = stands_less before m behind bans tied.stands;
      waiting =
          fewer_is unswept newest (stand_of m).mark (count_unswept (lazy_of (before ++ behind) bans)) (is_unswept (those_open bans.lines) (placed_of m))
          (tied.waiting ∙ waiting_among before m behind bans) (alone_for bans unswept newest m tied.alone);
      alone = alone_less bans (departed (stand_of m).place (stand_of m).mark bans) unswept newest (stand_of m).mark refl tied.alone;
    }

-- ---- one member is tested

more_of_two : (i j : ℕ) (counts : List ℕ) → one_more i (one_more j counts) ≡ one_more j (one_more i counts)
more_of_two i j [] = refl
more_of_two zero zero (count ∷ counts) = refl
more_of_two zero (suc j) (count ∷ counts) = refl
more_of_two (suc i) zero (count ∷ counts) = refl
more_of_two (suc i) (suc j) (count ∷ counts) = ap (λ (rest : List ℕ). count ∷ rest) (more_of_two i j counts)

first_anywhere : {X : Type 0} (number : X → ℕ) (lines : List BanLine) (before : List X) (x : X) (behind : List X)
    → counts_of lines (map number (x ∷ (before ++ behind))) ≡ counts_of lines (map number (before ++ x ∷ behind))
first_anywhere number lines [] x behind = refl
first_anywhere number lines (y ∷ before) x behind =
    more_of_two (newer (number x) lines) (newer (number y) lines) (counts_of lines (map number (before ++ behind)))
    ∙ ap (one_more (newer (number y) lines)) (first_anywhere number lines before x behind)

length_anywhere : {X : Type 0} (before : List X) (x : X) (behind : List X) → length (x ∷ (before ++ behind)) ≡ length (before ++ x ∷ behind)
length_anywhere [] x behind = refl
length_anywhere (y ∷ before) x behind = let rest = length_anywhere before x behind in omega arith

-- an object may be taken for the last that came
stands_anywhere : (bans : Bans) (before : List Stand) (stand : Stand) (behind : List Stand) → AreAt bans (stand ∷ (before ++ behind)) → AreAt bans (before ++ stand ∷ behind)
stands_anywhere bans before stand behind at =
    record {
      placed = at.placed ∙ first_anywhere (λ (s : Stand). s.place) bans.lines before stand behind;
      marked = at.marked ∙ first_anywhere (λ (s : Stand). s.mark) bans.lines before stand behind;
      all = at.all ∙ length_anywhere before stand behind;
    }

pub stands_more : (before : List Member) (m : Member) (behind : List Member) (bans : Bans) → AreAt bans (map stand_of (before ++ behind))
    → AreAt (entered (stand_of m).place (stand_of m).mark bans) (map stand_of (before ++ m ∷ behind))
stands_more before m behind bans at =
    subst (AreAt (entered (stand_of m).place (stand_of m).mark bans)) (sym (map-append stand_of before (m ∷ behind)))
    (stands_anywhere (entered (stand_of m).place (stand_of m).mark bans) (map stand_of before) (stand_of m) (map stand_of behind)
    (at_entered (stand_of m) bans (map stand_of before ++ map stand_of behind) (subst (AreAt bans) (map-append stand_of before behind) at)))

-- the member with another payload
abbrev pub re_payed : Placement → Member → Member
re_payed payload m = (m.0, record m.1 { payload = payload })

above_longer : (mark later : ℕ) (i : Issued) → mark ≤ later → is_above later i ≡ true → is_above mark i ≡ true
above_longer mark later i less above =
    let parts = and_parts (nat_lt later i.number) (is_alone i) above in
    let newer = ltb-true later i.number parts.0 in
    and_from (nat_lt mark i.number) (is_alone i) (lt-ltb mark i.number (omega arith)) parts.1

stays_ahead : (m new : Member) → handle_of new ≡ handle_of m → use_of new ≡ use_of m → IsAhead m → IsAhead new
stays_ahead m new handle used ahead = record { fits = omega (arith, handle, ahead.fits); low = omega (arith, handle, used, ahead.low) }

pub waits_longer : (mark later : ℕ) (bans : List Issued) → mark ≤ later → list_any (is_above later) bans ≡ true → list_any (is_above mark) bans ≡ true
waits_longer mark later bans less e = any_more (is_above later) (is_above mark) (λ i above. above_longer mark later i less above) bans e

alone_both : (bans : Bans) (unswept newest mark later : ℕ) → IsNewestAlone bans unswept newest
    → (unswept ≡ 0) ⊎ ((list_any (is_above mark) (those_open bans.lines) ≡ nat_lt mark newest) × (list_any (is_above later) (those_open bans.lines) ≡ nat_lt later newest))
alone_both bans unswept newest mark later (inl none) = inl none
alone_both bans unswept newest mark later (inr those) = inr (those mark, those later)

alone_with : (bans later : Bans) (unswept newest mark new : ℕ) → later.lines ≡ bans.lines → IsNewestAlone bans unswept newest → IsNewestAlone later (with_mark unswept newest mark new) newest
alone_with bans later unswept newest mark new same (inl none) = inl (with_none unswept newest mark new none)
alone_with bans later unswept newest mark new same (inr those) = inr (λ n. ap (λ (lines : List BanLine). list_any (is_above n) (those_open lines)) same ∙ those n)

pub tied_moved : (before : List Member) (m : Member) (behind : List Member) (tagged : List (ℕ × List (List ℕ))) (room : List Used) (bans : Bans) (newest unswept : ℕ) (stand : Stand)
    → AreTied (before ++ m ∷ behind) tagged room bans newest unswept → stand.place ≤ bans.issued → stand.mark ≤ bans.issued → (stand_of m).mark ≤ stand.mark
    → AreTied (before ++ re_payed (record { used = use_of m; stand = stand }) m ∷ behind) tagged room
    (entered stand.place stand.mark (departed (stand_of m).place (stand_of m).mark bans)) newest (with_mark unswept newest (stand_of m).mark stand.mark)
tied_moved before m behind tagged room bans newest unswept stand tied place mark later =
    let new : Member = re_payed (record { used = use_of m; stand = stand }) m in
    let kept : List Issued = those_open bans.lines in
    let less : Bans = departed (stand_of m).place (stand_of m).mark bans in
    record {
      handles = apart_more handle_of before new behind (apart_others handle_of before m behind tied.handles) (apart_less handle_of before m behind tied.handles);
      numbers = apart_more number_of before new behind (apart_others number_of before m behind tied.numbers) (apart_less number_of before m behind tied.numbers);
      uses = apart_more use_of before new behind (apart_others use_of before m behind tied.uses) (apart_less use_of before m behind tied.uses);
      ahead = all_more IsAhead before new behind (stays_ahead m new refl refl (all_here IsAhead before m behind tied.ahead)) (all_less IsAhead before m behind tied.ahead);
      within = all_more (IsWithin bans.issued) before new behind (record { place = place; mark = mark }) (all_less (IsWithin bans.issued) before m behind tied.within);
      tagged_ = tied.tagged_ ∙ map-append tagged_of before (m ∷ behind) ∙ sym (map-append tagged_of before (new ∷ behind));
      room_ = subst (AreAlike room) (map-append used_of before (m ∷ behind) ∙ sym (map-append used_of before (new ∷ behind))) tied.room_;
      stands = stands_more before new behind less (stands_less before m behind bans tied.stands);
      waiting =
          with_mark_is unswept newest (stand_of m).mark stand.mark (count_unswept (lazy_of (before ++ behind) bans)) (is_unswept kept (placed_of m)) (is_unswept kept (placed_of new))
          (tied.waiting ∙ waiting_among before m behind bans) later (waits_longer (stand_of m).mark stand.mark kept later)
          (alone_both bans unswept newest (stand_of m).mark stand.mark tied.alone) ∙ sym (waiting_among before new behind bans);
      alone = alone_with bans (entered stand.place stand.mark less) unswept newest (stand_of m).mark stand.mark refl tied.alone;
    }
