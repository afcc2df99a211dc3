-- Segments go on from states that are alike to what they reach.
use Rattle.std.proofs.Common.{◌≡◌, ◌≢◌, ◌⊎◌, true, List, [], ◌∷◌, ◌++◌, ◌&&◌, ◌||◌, nat_le, inl, inr, refl, arith, sym, ap, ◌∙◌, subst, append_assoc}
use Rattle.std.specs.List.{AllByRecursion}
use Rattle.std.specs.Cmp.Lexicographic.{pointwise}
use Rattle.std.proofs.lemmas.Bool.{false≢true, and_parts, and_from, or_cases, or_left, or_right, leb-true, le-leb}
use Rattle.cache_law.specs.declared.ban.Ban.{Ban}
use Rattle.cache_law.specs.declared.ban.Issued.{Issued}
use Rattle.cache_law.specs.declared.call.Entry.{Entry}
use Rattle.cache_law.specs.declared.setting.Params.{Params}
use Rattle.cache_law.specs.Bans.{is_equal, same_condition}
use Rattle.cache_law.specs.ShownBans.{IsPartOf}
use Rattle.cache_law.specs.State.{State, Held, as_seen}
use Rattle.cache_law.specs.History.{Legal, reached}
use Rattle.cache_law.specs.Bases.{AreAlike, AreAlikeAsSeen, AreHeldAlike, IsClosed, IsHeldAlike, IsIn, IsThinned, is_completed}
use Rattle.cache_law.specs.Segments.{GoesOn, Segmented, from, joined}
use Rattle.cache_law.proofs.BanLemmas.{one_list}
use Rattle.cache_law.proofs.Numbers.{reached_from-append}
use Rattle.cache_law.proofs.AlikeHistories.{legal_alike, part_of_part, reached_alike}

-- Each is alike to itself.

own_part : (bans : List Issued) → IsPartOf bans bans
own_part [] = tt
own_part (ban ∷ bans) = inl (refl, own_part bans)

all_in : (kept whole : List Issued) → ((ban : Issued) → IsIn ban whole → IsIn ban kept) → AllByRecursion (λ (ban : Issued). IsIn ban kept ⊎ (is_completed kept ban ≡ true)) whole
all_in kept [] each = tt
all_in kept (ban ∷ whole) each = (inl (each ban (inl refl)), all_in kept whole (λ b p. each b (inr p)))

own_thinned : (bans : List Issued) → IsThinned bans bans
own_thinned bans = record { part = own_part bans; covers = all_in bans bans (λ ban p. p) }

pub own_held : (objects : List Held) → AreHeldAlike objects objects
own_held [] = tt
own_held (held ∷ objects) = (record { rest = refl; pending = own_thinned held.pending }, own_held objects)

pub own_alike : (state : State) → AreAlike state state
own_alike state = record { rest = refl; bans = own_part state.bans; objects = own_held (as_seen state).objects }

-- Alike to what is alike.

equal_of_equal : (one two three : Ban) → is_equal one two ≡ true → is_equal two three ≡ true → is_equal one three ≡ true
unfolding is_equal
equal_of_equal one two three e f =
    let first = one_list one.conditions two.conditions e in
    ap (λ cs. pointwise same_condition cs three.conditions) first.0 ∙ f

in_kept : (kept : List Issued) (ban : Issued) (whole : List Issued) → AllByRecursion (λ (b : Issued). IsIn b kept ⊎ (is_completed kept b ≡ true)) whole → IsIn ban whole → IsIn ban kept ⊎ (is_completed kept ban ≡ true)
in_kept kept ban [] covers p = absurd p
in_kept kept ban (own ∷ whole) covers (inl same) = subst (λ (b : Issued). IsIn b kept ⊎ (is_completed kept b ≡ true)) (sym same) covers.0
in_kept kept ban (own ∷ whole) covers (inr p) = in_kept kept ban whole covers.1 p

done_in : (later ban : Issued) (kept : List Issued) → nat_le ban.number later.number ≡ true → is_equal later.ban ban.ban ≡ true → IsIn later kept → is_completed kept ban ≡ true
done_in later ban [] order e p = absurd p
done_in later ban (own ∷ kept) order e (inl same) =
    or_left (nat_le ban.number own.number && is_equal own.ban ban.ban) (is_completed kept ban)
    (subst (λ (b : Issued). (nat_le ban.number b.number && is_equal b.ban ban.ban) ≡ true) same (and_from (nat_le ban.number later.number) (is_equal later.ban ban.ban) order e))
done_in later ban (own ∷ kept) order e (inr p) = or_right (nat_le ban.number own.number && is_equal own.ban ban.ban) (is_completed kept ban) (done_in later ban kept order e p)

done_later : (later ban : Issued) (kept : List Issued) → nat_le ban.number later.number ≡ true → is_equal later.ban ban.ban ≡ true → is_completed kept later ≡ true → is_completed kept ban ≡ true
done_later later ban [] order e done = absurd (false≢true done)
done_later later ban (own ∷ kept) order e done = by_first (done_later later ban kept order e) (or_cases _ _ done)
  where
    by_first : (is_completed kept later ≡ true → is_completed kept ban ≡ true) → ((nat_le later.number own.number && is_equal own.ban later.ban) ≡ true) ⊎ (is_completed kept later ≡ true)
        → ((nat_le ban.number own.number && is_equal own.ban ban.ban) || is_completed kept ban) ≡ true
    by_first behind_ (inl here) =
        let both = and_parts (nat_le later.number own.number) (is_equal own.ban later.ban) here in
        or_left (nat_le ban.number own.number && is_equal own.ban ban.ban) (is_completed kept ban)
        (and_from (nat_le ban.number own.number) (is_equal own.ban ban.ban) (le-leb ban.number own.number (omega (arith, leb-true ban.number later.number order, leb-true later.number own.number both.0))) (equal_of_equal own.ban later.ban ban.ban both.1 e))
    by_first behind_ (inr there) = or_right (nat_le ban.number own.number && is_equal own.ban ban.ban) (is_completed kept ban) (behind_ there)

done_by : (kept : List Issued) (ban : Issued) (between : List Issued) → AllByRecursion (λ (b : Issued). IsIn b kept ⊎ (is_completed kept b ≡ true)) between → is_completed between ban ≡ true → is_completed kept ban ≡ true
done_by kept ban [] covers done = absurd (false≢true done)
done_by kept ban (later ∷ between) covers done = by_first (done_by kept ban between covers.1) (or_cases _ _ done)
  where
    by_cover : nat_le ban.number later.number ≡ true → is_equal later.ban ban.ban ≡ true → IsIn later kept ⊎ (is_completed kept later ≡ true) → is_completed kept ban ≡ true
    by_cover order e (inl p) = done_in later ban kept order e p
    by_cover order e (inr c) = done_later later ban kept order e c

    by_first : (is_completed between ban ≡ true → is_completed kept ban ≡ true) → ((nat_le ban.number later.number && is_equal later.ban ban.ban) ≡ true) ⊎ (is_completed between ban ≡ true) → is_completed kept ban ≡ true
    by_first behind_ (inl here) =
        let both = and_parts (nat_le ban.number later.number) (is_equal later.ban ban.ban) here in by_cover both.0 both.1 covers.0
    by_first behind_ (inr there) = behind_ there

covers_all : (kept between whole : List Issued) → AllByRecursion (λ (b : Issued). IsIn b kept ⊎ (is_completed kept b ≡ true)) between → AllByRecursion (λ (b : Issued). IsIn b between ⊎ (is_completed between b ≡ true)) whole
    → AllByRecursion (λ (b : Issued). IsIn b kept ⊎ (is_completed kept b ≡ true)) whole
covers_all kept between [] first second = tt
covers_all kept between (ban ∷ whole) first second = (by_cover second.0, covers_all kept between whole first second.1)
  where
    by_cover : IsIn ban between ⊎ (is_completed between ban ≡ true) → IsIn ban kept ⊎ (is_completed kept ban ≡ true)
    by_cover (inl p) = in_kept kept ban between first p
    by_cover (inr c) = inr (done_by kept ban between first c)

thinned_of_thinned : (kept between whole : List Issued) → IsThinned kept between → IsThinned between whole → IsThinned kept whole
thinned_of_thinned kept between whole one two =
    record { part = part_of_part kept between whole one.part two.part; covers = covers_all kept between whole one.covers two.covers }

held_of_held : (one two three : Held) → IsHeldAlike one two → IsHeldAlike two three → IsHeldAlike one three
held_of_held one two three first second =
    record { rest = ap (λ (h : Held). record h { pending = three.pending }) first.rest ∙ second.rest; pending = thinned_of_thinned one.pending two.pending three.pending first.pending second.pending }

helds_of_helds : (one two three : List Held) → AreHeldAlike one two → AreHeldAlike two three → AreHeldAlike one three
helds_of_helds [] [] [] p q = tt
helds_of_helds [] [] (c ∷ three) p q = absurd q
helds_of_helds [] (b ∷ two) three p q = absurd p
helds_of_helds (a ∷ one) [] three p q = absurd p
helds_of_helds (a ∷ one) (b ∷ two) [] p q = absurd q
helds_of_helds (a ∷ one) (b ∷ two) (c ∷ three) p q = (held_of_held a b c p.0 q.0, helds_of_helds one two three p.1 q.1)

pub alike_of_alike : (one two three : State) → AreAlikeAsSeen one two → AreAlikeAsSeen two three → AreAlikeAsSeen one three
alike_of_alike one two three p q =
    record {
      rest = ap (λ (s : State). record s { bans = three.bans; objects = three.objects }) p.rest ∙ q.rest;
      bans = part_of_part one.bans two.bans three.bans p.bans q.bans;
      objects = helds_of_helds one.objects two.objects three.objects p.objects q.objects;
    }

-- Segments.

append_none : (entries : List Entry) → entries ++ [] ≡ entries
append_none [] = refl
append_none (e ∷ es) = ap (λ (rest : List Entry). e ∷ rest) (append_none es)

joined-push : (segments : List (List Entry)) (entries : List Entry) → joined (segments ++ entries ∷ []) ≡ joined segments ++ entries
joined-push [] entries = append_none entries
joined-push (segment ∷ segments) entries = ap (λ (es : List Entry). segment ++ es) (joined-push segments entries) ∙ sym (append_assoc segment (joined segments) entries)

-- what entries reach behind others
reached_behind : (params : Params) (state : State) (before entries : List Entry) → reached (from params state) (before ++ entries) ≡ reached (from params (reached (from params state) before)) entries
reached_behind params state before entries = reached_from-append params state before entries

-- one segment more, from the state that all before reach
segmented_push : (params : Params) (state : State) (segments : List (List Entry)) (entries : List Entry) → Segmented params state segments → (segments ≢ [] → IsClosed (reached (from params state) (joined segments)))
    → Legal (from params (reached (from params state) (joined segments))) entries → Segmented params state (segments ++ entries ∷ [])
segmented_push params state [] entries segmented closed legal = (legal, λ some. absurd (some refl), tt)
segmented_push params state (segment ∷ []) entries segmented closed legal =
    let same : reached (from params state) (segment ++ []) ≡ reached (from params state) segment = ap (reached (from params state)) (append_none segment) in
    (segmented.0, λ some. subst IsClosed same (closed (λ e. cc)), (subst (λ (s : State). Legal (from params s) entries) same legal, λ some. absurd (some refl), tt))
segmented_push params state (segment ∷ other ∷ segments) entries segmented closed legal =
    let next : State = reached (from params state) segment in
    let there = reached_behind params state segment (joined (other ∷ segments)) in
    (segmented.0, λ some. segmented.1 (λ e. cc), segmented_push params next (other ∷ segments) entries segmented.2 (λ some. subst IsClosed there (closed (λ e. cc))) (subst (λ (s : State). Legal (from params s) entries) there legal))

pub first_goes_on : (params : Params) (first : State) → GoesOn params first [] first
first_goes_on params first = record { alike = own_alike first; more = λ entries legal. (legal, λ some. absurd (some refl), tt) }

closed_alike : (less more : State) → AreAlike less more → IsClosed less → IsClosed more
closed_alike less more alike closed =
    record { rounds = sym (ap (λ (s : State). s.rounds) alike.rest) ∙ closed.rounds; fetches = sym (ap (λ (s : State). s.fetches) alike.rest) ∙ closed.fetches }

pub more_go_on : (params : Params) (first base next : State) (segments : List (List Entry)) (entries : List Entry) → GoesOn params first segments base → Legal (from params base) entries
    → IsClosed (reached (from params base) entries) → AreAlike next (reached (from params base) entries) → GoesOn params first (segments ++ entries ∷ []) next
more_go_on params first base next segments entries goes legal closed alike =
    let all : State = reached (from params first) (joined segments) in
    let there : reached (from params first) (joined (segments ++ entries ∷ [])) ≡ reached (from params all) entries =
    ap (reached (from params first)) (joined-push segments entries) ∙ reached_behind params first (joined segments) entries in
    let mid : AreAlike (reached (from params base) entries) (reached (from params all) entries) = reached_alike params base all entries goes.alike legal.follow in
    let end_ : AreAlike next (reached (from params first) (joined (segments ++ entries ∷ []))) =
    subst (AreAlike next) (sym there) (alike_of_alike (as_seen next) (as_seen (reached (from params base) entries)) (as_seen (reached (from params all) entries)) alike mid) in
    let shut : IsClosed (reached (from params first) (joined (segments ++ entries ∷ []))) =
    subst IsClosed (sym there) (closed_alike (reached (from params base) entries) (reached (from params all) entries) mid closed) in
    record {
      alike = end_;
      more = λ later legal_later. segmented_push params first (segments ++ entries ∷ []) later (goes.more entries legal) (λ some. shut) (legal_alike params next (reached (from params first) (joined (segments ++ entries ∷ []))) later end_ legal_later);
    }
