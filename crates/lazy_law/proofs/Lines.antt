-- The lines that are kept answer as all bans do: behind a ban that completes equal ones, and behind a cut.
use Rattle.std.proofs.Common.{◌≡◌, ◌≤◌, ◌<◌, ◌+◌, ℕ, Bool, true, false, not, cond, List, [], ◌∷◌, ◌&&◌, ◌||◌, nat_lt, filter, map, inl, refl, arith, sym, ap, ◌∙◌, subst}
use Rattle.std.specs.List.{list_any, AllByRecursion}
use Rattle.std.specs.Cmp.Lexicographic.{pointwise}
use Rattle.std.proofs.lemmas.Bool.{false≢true, and_from, and_parts, lt-ltb, ltb-true, or_left, or_right}
use Rattle.cache_law.specs.declared.ban.Ban.{Ban}
use Rattle.cache_law.specs.declared.ban.BanLine.{BanLine}
use Rattle.cache_law.specs.declared.ban.Issued.{Issued}
use Rattle.cache_law.specs.Bans.{is_equal, same_condition}
use Rattle.cache_law.specs.Bases.{AreFalling}
use Rattle.cache_law.specs.ShownBans.{has_newer, IsPartOf, those_open}
use Rattle.cache_law.proofs.BanLemmas.{equal_bans_alone, one_list}
use Rattle.cache_law.proofs.Cut.{part_falling}
use Rattle.cache_law.proofs.Held.{all-weaken}
use Rattle.ban_lurker.specs.Looks.{is_above, is_alone}
use Rattle.lazy_law.specs.Placed.{Placed, is_since}
use Rattle.lazy_law.specs.Banning.{completed_by, with_line}
use Rattle.lazy_law.specs.Stands.{Agrees, AreLines, PassesAlike}
use Rattle.lazy_law.proofs.Filters.{any_of_filter}
use Rattle.lazy_law.proofs.Numbers.{AreUpTo, up_to}

-- the bans of the lines
abbrev pub bans_of : List BanLine → List Issued
bans_of lines = map (λ (line : BanLine). line.issued) lines

pub lines_up_to : (issued : ℕ) (lines : List BanLine) (bans : List Issued) → AreLines lines bans → AreFalling (issued + 1) bans → AreUpTo issued (bans_of lines)
lines_up_to issued lines bans are falling = up_to (issued + 1) issued (bans_of lines) (omega arith) (part_falling (issued + 1) (bans_of lines) bans are.part falling)

step_open : (most : ℕ) (b : Bool) (line : BanLine) (rest : List BanLine) → line.issued.number ≤ most → AreUpTo most (bans_of rest) → AreUpTo most (bans_of (cond b (line ∷ rest) rest))
step_open most true line rest here all = (here, all)
step_open most false line rest here all = all

pub open_up_to : (most : ℕ) (lines : List BanLine) → AreUpTo most (bans_of lines) → AreUpTo most (those_open lines)
open_up_to most [] all = tt
open_up_to most (line ∷ lines) all = step_open most (not line.completed) line (filter (λ (l : BanLine). not l.completed) lines) all.0 (open_up_to most lines all.1)

-- ---- a ban completes equal ones

-- what passes the test passes it for the new ban
abbrev pub Covers : (Issued → Bool) → Issued → BanLine → Type 0
Covers test issued line = is_equal line.issued.ban issued.ban ≡ true → test line.issued ≡ true → test issued ≡ true

left_out : (a b one two : Bool) → (b ≡ true → a ≡ true) → (a || one) ≡ (a || two) → (a || one) ≡ (a || (b || two))
left_out true b one two covers same = refl
left_out false true one two covers same = absurd (false≢true (covers refl))
left_out false false one two covers same = same

left_in : (a b one two : Bool) → (a || one) ≡ (a || two) → (a || (b || one)) ≡ (a || (b || two))
left_in true b one two same = refl
left_in false true one two same = refl
left_in false false one two same = same

completed_step : (test : Issued → Bool) (a : Bool) (line : BanLine) (xs ys : List BanLine) (equal done : Bool) → line.completed ≡ done → (equal ≡ true → test line.issued ≡ true → a ≡ true)
    → (a || list_any test (bans_of xs)) ≡ (a || list_any test (bans_of ys))
    → (a || list_any test (bans_of (cond (not (cond equal (record line { completed = true }) line).completed) (cond equal (record line { completed = true }) line ∷ xs) xs)))
    ≡ (a || list_any test (bans_of (cond (not line.completed) (line ∷ ys) ys)))
completed_step test a line xs ys true true e covers same = rw (e) same
completed_step test a line xs ys true false e covers same = rw (e) (left_out a (test line.issued) (list_any test (bans_of xs)) (list_any test (bans_of ys)) (covers refl) same)
completed_step test a line xs ys false true e covers same = rw (e) same
completed_step test a line xs ys false false e covers same = rw (e) (left_in a (test line.issued) (list_any test (bans_of xs)) (list_any test (bans_of ys)) same)

-- beside the new ban a test finds one among those that aren't completed by it where it finds one among all
completed_same : (test : Issued → Bool) (issued : Issued) (lines : List BanLine) → AllByRecursion (Covers test issued) lines
    → (test issued || list_any test (those_open (map (completed_by issued.ban) lines))) ≡ (test issued || list_any test (those_open lines))
completed_same test issued [] all = refl
completed_same test issued (line ∷ lines) all =
    completed_step test (test issued) line (filter (λ (l : BanLine). not l.completed) (map (completed_by issued.ban) lines)) (filter (λ (l : BanLine). not l.completed) lines) (is_equal line.issued.ban issued.ban) line.completed refl all.0
    (completed_same test issued lines all.1)

above_covers : (test : Issued → Bool) → PassesAlike test → (mark : ℕ) (issued : Issued) (line : BanLine) → line.issued.number < issued.number → Covers (λ i. is_above mark i && test i) issued line
above_covers test alike mark issued line less e passes =
    let parts = and_parts (is_above mark line.issued) (test line.issued) passes in
    let inner = and_parts (nat_lt mark line.issued.number) (is_alone line.issued) parts.0 in
    let newer = ltb-true mark line.issued.number inner.0 in
    and_from (is_above mark issued) (test issued)
    (and_from (nat_lt mark issued.number) (is_alone issued) (lt-ltb mark issued.number (omega (arith, newer, less))) (sym (equal_bans_alone line.issued.ban issued.ban e) ∙ inner.1))
    (sym (alike issued line.issued e) ∙ parts.1)

since_covers : (test : Issued → Bool) → PassesAlike test → (place : ℕ) (issued : Issued) (line : BanLine) → line.issued.number < issued.number → Covers (λ i. is_since place i && test i) issued line
since_covers test alike place issued line less e passes =
    let parts = and_parts (is_since place line.issued) (test line.issued) passes in
    let inner = and_parts (nat_lt place line.issued.number) (not (is_alone line.issued)) parts.0 in
    let newer = ltb-true place line.issued.number inner.0 in
    and_from (is_since place issued) (test issued)
    (and_from (nat_lt place issued.number) (not (is_alone issued)) (lt-ltb place issued.number (omega (arith, newer, less))) (sym (ap not (equal_bans_alone line.issued.ban issued.ban e)) ∙ inner.1))
    (sym (alike issued line.issued e) ∙ parts.1)

-- what is found in kept ones is found in all, with one more before each
one_more_found : (test keep : Issued → Bool) (issued : Issued) (lines : List BanLine) (bans : List Issued) → AllByRecursion (Covers (λ i. keep i && test i) issued) lines
    → list_any test (filter keep (those_open lines)) ≡ list_any test (filter keep bans)
    → list_any test (filter keep (those_open (with_line issued lines))) ≡ list_any test (filter keep (issued ∷ bans))
one_more_found test keep issued lines bans covers same =
    let both : Issued → Bool = λ (i : Issued). keep i && test i in
    any_of_filter test keep (issued ∷ those_open (map (completed_by issued.ban) lines))
    ∙ completed_same both issued lines covers
    ∙ ap (λ (b : Bool). both issued || b) (sym (any_of_filter test keep (those_open lines)) ∙ same ∙ any_of_filter test keep bans)
    ∙ sym (any_of_filter test keep (issued ∷ bans))

abbrev AreOlder : Issued → List BanLine → Type 0
AreOlder issued lines = AllByRecursion (λ (line : BanLine). line.issued.number < issued.number) lines

older_of : (issued : Issued) (most : ℕ) (lines : List BanLine) → most < issued.number → AreUpTo most (bans_of lines) → AreOlder issued lines
older_of issued most [] less all = tt
older_of issued most (line ∷ lines) less all = (omega (arith, less, all.0), older_of issued most lines less all.1)

pub banned_agrees : (issued : Issued) (most : ℕ) (lines : List BanLine) (bans : List Issued) (p : Placed) → most < issued.number → AreUpTo most (bans_of lines) → Agrees (those_open lines) bans p
    → Agrees (those_open (with_line issued lines)) (issued ∷ bans) p
banned_agrees issued most lines bans p less up agrees =
    let older = older_of issued most lines less up in
    record {
      on_objects = λ test alike mark later. one_more_found test (is_above mark) issued lines bans
          (all-weaken (λ (line : BanLine). line.issued.number < issued.number) (Covers (λ i. is_above mark i && test i) issued) (above_covers test alike mark issued) lines older) (agrees.on_objects test alike mark later);
      on_requests = λ test alike place later. one_more_found test (is_since place) issued lines bans
          (all-weaken (λ (line : BanLine). line.issued.number < issued.number) (Covers (λ i. is_since place i && test i) issued) (since_covers test alike place issued) lines older) (agrees.on_requests test alike place later);
    }

-- ---- the lines behind a ban

equal_turned : (ban other : Ban) → is_equal ban other ≡ true → is_equal other ban ≡ true
unfolding is_equal
equal_turned ban other e =
    let one = (one_list ban.conditions other.conditions e).0 in
    ap (λ cs. pointwise same_condition cs ban.conditions) (sym one) ∙ ap (λ cs. pointwise same_condition ban.conditions cs) one ∙ e

completed_bans : (ban : Ban) (lines : List BanLine) → bans_of (map (completed_by ban) lines) ≡ bans_of lines
completed_bans ban [] = refl
completed_bans ban (line ∷ lines) = step (is_equal line.issued.ban ban) (completed_bans ban lines)
  where
    step : (b : Bool) → bans_of (map (completed_by ban) lines) ≡ bans_of lines → ((cond b (record line { completed = true }) line).issued ∷ bans_of (map (completed_by ban) lines)) ≡ line.issued ∷ bans_of lines
    step true same = ap (λ (rest : List Issued). line.issued ∷ rest) same
    step false same = ap (λ (rest : List Issued). line.issued ∷ rest) same

-- a line finds the same newer equal one among lines of the same bans
newer_by_bans : (lines : List BanLine) (issued : Issued) → list_any (λ (newer : BanLine). nat_lt issued.number newer.issued.number && is_equal newer.issued.ban issued.ban) lines
    ≡ list_any (λ (newer : Issued). nat_lt issued.number newer.number && is_equal newer.ban issued.ban) (bans_of lines)
newer_by_bans [] issued = refl
newer_by_bans (line ∷ lines) issued = ap (λ (b : Bool). (nat_lt issued.number line.issued.number && is_equal line.issued.ban issued.ban) || b) (newer_by_bans lines issued)

newer_completed : (ban : Ban) (lines : List BanLine) (line : BanLine) → has_newer lines line ≡ true → has_newer (map (completed_by ban) lines) line ≡ true
newer_completed ban lines line e =
    newer_by_bans (map (completed_by ban) lines) line.issued
    ∙ ap (list_any (λ (newer : Issued). nat_lt line.issued.number newer.number && is_equal newer.ban line.issued.ban)) (completed_bans ban lines)
    ∙ sym (newer_by_bans lines line.issued) ∙ e

newer_step : (issued : Issued) (lines : List BanLine) (line : BanLine) (b : Bool) → is_equal line.issued.ban issued.ban ≡ b → line.issued.number < issued.number → (line.completed ≡ true → has_newer lines line ≡ true)
    → (cond b (record line { completed = true }) line).completed ≡ true → has_newer (with_line issued lines) (cond b (record line { completed = true }) line) ≡ true
newer_step issued lines line true e less before done =
    or_left (nat_lt line.issued.number issued.number && is_equal issued.ban line.issued.ban) (has_newer (map (completed_by issued.ban) lines) line)
    (and_from (nat_lt line.issued.number issued.number) (is_equal issued.ban line.issued.ban) (lt-ltb line.issued.number issued.number less) (equal_turned line.issued.ban issued.ban e))
newer_step issued lines line false e less before done =
    or_right (nat_lt line.issued.number issued.number && is_equal issued.ban line.issued.ban) (has_newer (map (completed_by issued.ban) lines) line) (newer_completed issued.ban lines line (before done))

all_newer : (issued : Issued) (lines some : List BanLine) → AreOlder issued some → AllByRecursion (λ (line : BanLine). line.completed ≡ true → has_newer lines line ≡ true) some
    → AllByRecursion (λ (line : BanLine). line.completed ≡ true → has_newer (with_line issued lines) line ≡ true) (map (completed_by issued.ban) some)
all_newer issued lines [] older all = tt
all_newer issued lines (line ∷ some) older all =
    (newer_step issued lines line (is_equal line.issued.ban issued.ban) refl older.0 all.0, all_newer issued lines some older.1 all.1)

pub banned_lines : (issued : Issued) (most : ℕ) (lines : List BanLine) (bans : List Issued) → most < issued.number → AreUpTo most (bans_of lines) → AreLines lines bans → AreLines (with_line issued lines) (issued ∷ bans)
banned_lines issued most lines bans less up are =
    record {
      part = inl (refl, subst (λ (part : List Issued). IsPartOf part bans) (sym (completed_bans issued.ban lines)) are.part);
      completed = (λ e. absurd (false≢true e), all_newer issued lines lines (older_of issued most lines less up) are.completed);
    }
