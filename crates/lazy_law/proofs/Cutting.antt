-- A cut of lines that no object needs changes no answer.
use Rattle.std.proofs.Common.{◌≡◌, ◌≤◌, ◌+◌, ◌⊎◌, ℕ, zero, suc, Bool, true, false, not, cond, List, [], ◌∷◌, ◌&&◌, ◌||◌, nat_lt, filter, take, drop, inl, inr, refl, arith, sym, ap, ◌∙◌, subst}
use Rattle.std.specs.List.{list_any, AllByRecursion}
use Rattle.std.proofs.lemmas.Bool.{false≢true, true≢false, and_left, and_right, le-ltb, ltb-false, or_parts}
use Rattle.cache_law.specs.declared.ban.BanLine.{BanLine}
use Rattle.cache_law.specs.declared.ban.Issued.{Issued}
use Rattle.cache_law.specs.declared.call.Entry.{Entry}
use Rattle.cache_law.specs.Bans.{is_equal}
use Rattle.cache_law.specs.Beginning.{Beginning}
use Rattle.cache_law.specs.Bases.{AreFalling}
use Rattle.cache_law.specs.History.{reached}
use Rattle.cache_law.specs.ShownBans.{has_newer, IsPartOf, those_open}
use Rattle.cache_law.specs.State.{Held, State}
use Rattle.cache_law.proofs.AlikeHistories.{part_of_part}
use Rattle.cache_law.proofs.Cut.{falling_more, part_falling}
use Rattle.ban_lurker.specs.Looks.{is_above, is_alone}
use Rattle.lazy_law.specs.Placed.{Lazy, Placed, is_since}
use Rattle.lazy_law.specs.Banning.{MayBeCut, cut_to, is_awaited_by, is_needed}
use Rattle.lazy_law.specs.Stands.{Agrees, AreLines, IsKept, StandsFor}
use Rattle.lazy_law.specs.Standing.{StandsAt}
use Rattle.lazy_law.proofs.Filters.{any_of_filter}
use Rattle.lazy_law.proofs.Lines.{bans_of}

-- ---- some lines of others, of which those that are out may be left out

abbrev pub LeavesOut : (BanLine → Type 0) → List BanLine → List BanLine → Type 0
LeavesOut Out [] [] = Unit {0}
LeavesOut Out [] (line ∷ lines) = Out line × LeavesOut Out [] lines
LeavesOut Out (kept ∷ some) [] = ⊥
LeavesOut Out (kept ∷ some) (line ∷ lines) = ((kept ≡ line) × LeavesOut Out some lines) ⊎ (Out line × LeavesOut Out (kept ∷ some) lines)

all_out : (Out : BanLine → Type 0) (lines : List BanLine) → AllByRecursion Out lines → LeavesOut Out [] lines
all_out Out [] all = tt
all_out Out (line ∷ lines) all = (all.0, all_out Out lines all.1)

taken_out : (Out : BanLine → Type 0) (left : ℕ) (lines : List BanLine) → AllByRecursion Out (drop left lines) → LeavesOut Out (take left lines) lines
taken_out Out zero lines all = all_out Out lines all
taken_out Out (suc left) [] all = tt
taken_out Out (suc left) (line ∷ lines) all = inl (refl, taken_out Out left lines all)

one_out : (Out : BanLine → Type 0) (some : List BanLine) (line : BanLine) (lines : List BanLine) → Out line → LeavesOut Out some lines → LeavesOut Out some (line ∷ lines)
one_out Out [] line lines here rest = (here, rest)
one_out Out (kept ∷ some) line lines here rest = inr (here, rest)

filter_out : (Out : BanLine → Type 0) (keep : BanLine → Bool) → ((line : BanLine) → keep line ≡ false → Out line) → (b : Bool) (line : BanLine) (lines : List BanLine) → keep line ≡ b → LeavesOut Out (filter keep lines) lines → LeavesOut Out (cond b (line ∷ filter keep lines) (filter keep lines)) (line ∷ lines)
filter_out Out keep out true line lines e rest = inl (refl, rest)
filter_out Out keep out false line lines e rest = one_out Out (filter keep lines) line lines (out line e) rest

pub filtered_out : (Out : BanLine → Type 0) (keep : BanLine → Bool) → ((line : BanLine) → keep line ≡ false → Out line) → (lines : List BanLine) → LeavesOut Out (filter keep lines) lines
filtered_out Out keep out [] = tt
filtered_out Out keep out (line ∷ lines) = filter_out Out keep out (keep line) line lines refl (filtered_out Out keep out lines)

pub part_left : (Out : BanLine → Type 0) (some lines : List BanLine) → LeavesOut Out some lines → IsPartOf (bans_of some) (bans_of lines)
part_left Out [] lines out = tt
part_left Out (kept ∷ some) [] out = absurd out
part_left Out (kept ∷ some) (line ∷ lines) (inl both) = inl (ap (λ (l : BanLine). l.issued) both.0, part_left Out some lines both.1)
part_left Out (kept ∷ some) (line ∷ lines) (inr both) = inr (part_left Out (kept ∷ some) lines both.1)

-- ---- tests that no line that is out passes

-- the line is completed, or its ban fails the test
abbrev Fails : (Issued → Bool) → BanLine → Type 0
Fails test line = (line.completed ≡ true) ⊎ (test line.issued ≡ false)

fail_step : (test : Issued → Bool) (line : BanLine) (lines : List BanLine) (done : Bool) → line.completed ≡ done → Fails test line → list_any test (bans_of (cond (not done) (line ∷ lines) lines)) ≡ list_any test (bans_of lines)
fail_step test line lines true d fails = refl
fail_step test line lines false d (inl e) = absurd (false≢true (sym d ∙ e))
fail_step test line lines false d (inr e) = rw (e) refl

same_step : (test : Issued → Bool) (kept line : BanLine) (some lines : List BanLine) (done : Bool) → kept ≡ line → line.completed ≡ done → list_any test (bans_of some) ≡ list_any test (bans_of lines)
    → list_any test (bans_of (cond (not kept.completed) (kept ∷ some) some)) ≡ list_any test (bans_of (cond (not line.completed) (line ∷ lines) lines))
same_step test kept line some lines done e d same = subst (λ (k : BanLine). list_any test (bans_of (cond (not k.completed) (k ∷ some) some)) ≡ list_any test (bans_of (cond (not line.completed) (line ∷ lines) lines))) (sym e) (by_done done d)
  where
    by_done : (b : Bool) → line.completed ≡ b → list_any test (bans_of (cond (not line.completed) (line ∷ some) some)) ≡ list_any test (bans_of (cond (not line.completed) (line ∷ lines) lines))
    by_done true d = rw (d) same
    by_done false d = rw (d) (ap (λ (b : Bool). test line.issued || b) same)

any_left : (Out : BanLine → Type 0) (test : Issued → Bool) → ((line : BanLine) → Out line → Fails test line) → (some lines : List BanLine) → LeavesOut Out some lines → list_any test (those_open some) ≡ list_any test (those_open lines)
any_left Out test fails [] [] out = refl
any_left Out test fails [] (line ∷ lines) out = any_left Out test fails [] lines out.1 ∙ sym (fail_step test line (filter (λ (l : BanLine). not l.completed) lines) line.completed refl (fails line out.0))
any_left Out test fails (kept ∷ some) [] out = absurd out
any_left Out test fails (kept ∷ some) (line ∷ lines) (inl both) =
    same_step test kept line (filter (λ (l : BanLine). not l.completed) some) (filter (λ (l : BanLine). not l.completed) lines) line.completed both.0 refl (any_left Out test fails some lines both.1)
any_left Out test fails (kept ∷ some) (line ∷ lines) (inr both) =
    any_left Out test fails (kept ∷ some) lines both.1 ∙ sym (fail_step test line (filter (λ (l : BanLine). not l.completed) lines) line.completed refl (fails line both.0))

-- ---- what no object waits for

not_awaited : (objects : List Placed) (issued : Issued) → list_any (is_awaited_by issued) objects ≡ false → AllByRecursion (λ (p : Placed). is_awaited_by issued p ≡ false) objects
not_awaited [] issued e = tt
not_awaited (p ∷ objects) issued e = let parts = or_parts (is_awaited_by issued p) (list_any (is_awaited_by issued) objects) e in (parts.0, not_awaited objects issued parts.1)

above_fails : (issued : Issued) (p : Placed) (mark : ℕ) (b : Bool) → is_alone issued ≡ b → p.mark ≤ mark → cond b (nat_lt p.mark issued.number) (nat_lt p.place issued.number) ≡ false → is_above mark issued ≡ false
above_fails issued p mark true e less waits = let older = ltb-false p.mark issued.number waits in and_left (nat_lt mark issued.number) (is_alone issued) (le-ltb mark issued.number (omega (arith, older, less)))
above_fails issued p mark false e less waits = and_right (nat_lt mark issued.number) (is_alone issued) e

since_fails : (issued : Issued) (p : Placed) (place : ℕ) (b : Bool) → is_alone issued ≡ b → p.place ≤ place → cond b (nat_lt p.mark issued.number) (nat_lt p.place issued.number) ≡ false → is_since place issued ≡ false
since_fails issued p place true e less waits = and_right (nat_lt place issued.number) (not (is_alone issued)) (ap not e)
since_fails issued p place false e less waits = let older = ltb-false p.place issued.number waits in and_left (nat_lt place issued.number) (not (is_alone issued)) (le-ltb place issued.number (omega (arith, older, less)))

-- the line is completed, or the object was tested on its ban
abbrev pub IsOut : Placed → BanLine → Type 0
IsOut p line = (line.completed ≡ true) ⊎ (is_awaited_by line.issued p ≡ false)

left_agrees : (some lines : List BanLine) (bans : List Issued) (p : Placed) → LeavesOut (IsOut p) some lines → Agrees (those_open lines) bans p → Agrees (those_open some) bans p
left_agrees some lines bans p out agrees =
    record {
      on_objects = λ test alike mark less.
          any_of_filter test (is_above mark) (those_open some)
          ∙ any_left (IsOut p) (λ i. is_above mark i && test i) (λ line is. above_out test mark less line is) some lines out
          ∙ sym (any_of_filter test (is_above mark) (those_open lines)) ∙ agrees.on_objects test alike mark less;
      on_requests = λ test alike place less.
          any_of_filter test (is_since place) (those_open some)
          ∙ any_left (IsOut p) (λ i. is_since place i && test i) (λ line is. since_out test place less line is) some lines out
          ∙ sym (any_of_filter test (is_since place) (those_open lines)) ∙ agrees.on_requests test alike place less;
    }
  where
    above_out : (test : Issued → Bool) (mark : ℕ) → p.mark ≤ mark → (line : BanLine) → IsOut p line → Fails (λ i. is_above mark i && test i) line
    above_out test mark less line (inl done) = inl done
    above_out test mark less line (inr waits) = inr (and_left (is_above mark line.issued) (test line.issued) (above_fails line.issued p mark (is_alone line.issued) refl less waits))

    since_out : (test : Issued → Bool) (place : ℕ) → p.place ≤ place → (line : BanLine) → IsOut p line → Fails (λ i. is_since place i && test i) line
    since_out test place less line (inl done) = inl done
    since_out test place less line (inr waits) = inr (and_left (is_since place line.issued) (test line.issued) (since_fails line.issued p place (is_alone line.issued) refl less waits))

-- ---- of all objects

abbrev pub IsUnneeded : List Placed → BanLine → Type 0
IsUnneeded objects line = is_needed objects line ≡ false

unneeded_of : (p : Placed) (objects : List Placed) (line : BanLine) (done waits others : Bool) → line.completed ≡ done → is_awaited_by line.issued p ≡ waits → (not done && (waits || others)) ≡ false → IsOut p line
unneeded_of p objects line true waits others d w e = inl d
unneeded_of p objects line false false others d w e = inr w
unneeded_of p objects line false true others d w e = absurd (true≢false e)

fewer_objects : (done waits others : Bool) → (not done && (waits || others)) ≡ false → (not done && others) ≡ false
fewer_objects true waits others e = refl
fewer_objects false true others e = absurd (true≢false e)
fewer_objects false false others e = e

leaves_weaken : (Out More : BanLine → Type 0) → ((line : BanLine) → Out line → More line) → (some lines : List BanLine) → LeavesOut Out some lines → LeavesOut More some lines
leaves_weaken Out More more [] [] out = tt
leaves_weaken Out More more [] (line ∷ lines) out = (more line out.0, leaves_weaken Out More more [] lines out.1)
leaves_weaken Out More more (kept ∷ some) [] out = absurd out
leaves_weaken Out More more (kept ∷ some) (line ∷ lines) (inl both) = inl (both.0, leaves_weaken Out More more some lines both.1)
leaves_weaken Out More more (kept ∷ some) (line ∷ lines) (inr both) = inr (more line both.0, leaves_weaken Out More more (kept ∷ some) lines both.1)

-- the lines without some that none of the objects needs agree for each of these
pub all_left_agree : (some lines : List BanLine) (bans : List Issued) (objects : List Placed) → LeavesOut (IsUnneeded objects) some lines → AllByRecursion (Agrees (those_open lines) bans) objects → AllByRecursion (Agrees (those_open some) bans) objects
all_left_agree some lines bans [] out all = tt
all_left_agree some lines bans (p ∷ objects) out all = (
  left_agrees some lines bans p (leaves_weaken (IsUnneeded (p ∷ objects)) (IsOut p) (λ line e. unneeded_of p objects line line.completed (is_awaited_by line.issued p) (list_any (is_awaited_by line.issued) objects) refl refl e) some lines out) all.0,
  all_left_agree some lines bans objects (leaves_weaken (IsUnneeded (p ∷ objects)) (IsUnneeded objects) (λ line e. fewer_objects line.completed (is_awaited_by line.issued p) (list_any (is_awaited_by line.issued) objects) e) some lines out) all.1,
)

-- ---- the newest lines

abbrev newer_test : Issued → BanLine → Bool
newer_test issued newer = nat_lt issued.number newer.issued.number && is_equal newer.issued.ban issued.ban

-- no line is newer than those before it
older_fail : (bound : ℕ) (issued : Issued) (lines : List BanLine) → AreFalling bound (bans_of lines) → bound ≤ issued.number + 1 → list_any (newer_test issued) lines ≡ false
older_fail bound issued [] falling less = refl
older_fail bound issued (line ∷ lines) falling less =
    rw (le-ltb issued.number line.issued.number (omega (arith, falling.0, less)))
    (older_fail line.issued.number issued lines falling.1 (omega (arith, falling.0, less)))

-- what has a newer equal line has it among the newest, where it is one of them
newer_taken : (bound left : ℕ) (issued : Issued) (lines : List BanLine) → AreFalling bound (bans_of lines) → AreFalling (issued.number + 1) (bans_of (drop left lines)) → list_any (newer_test issued) (take left lines) ≡ list_any (newer_test issued) lines
newer_taken bound zero issued lines falling older = sym (older_fail (issued.number + 1) issued lines older (omega arith))
newer_taken bound (suc left) issued [] falling older = refl
newer_taken bound (suc left) issued (line ∷ lines) falling older = ap (λ (b : Bool). newer_test issued line || b) (newer_taken line.issued.number left issued lines falling.1 older)

falling_drop : (bound left : ℕ) (lines : List BanLine) → AreFalling bound (bans_of lines) → AreFalling bound (bans_of (drop left lines))
falling_drop bound zero lines falling = falling
falling_drop bound (suc left) [] falling = tt
falling_drop bound (suc left) (line ∷ lines) falling = falling_more line.issued.number bound (bans_of (drop left lines)) (omega (arith, falling.0)) (falling_drop line.issued.number left lines falling.1)

-- each of the newest is newer than the others
taken_older : (bound left : ℕ) (lines : List BanLine) → AreFalling bound (bans_of lines) → AllByRecursion (λ (line : BanLine). AreFalling (line.issued.number + 1) (bans_of (drop left lines))) (take left lines)
taken_older bound zero lines falling = tt
taken_older bound (suc left) [] falling = tt
taken_older bound (suc left) (line ∷ lines) falling =
    (falling_more line.issued.number (line.issued.number + 1) (bans_of (drop left lines)) (omega arith) (falling_drop line.issued.number left lines falling.1), taken_older line.issued.number left lines falling.1)

all_take : (Q : BanLine → Type 0) (left : ℕ) (lines : List BanLine) → AllByRecursion Q lines → AllByRecursion Q (take left lines)
all_take Q zero lines all = tt
all_take Q (suc left) [] all = tt
all_take Q (suc left) (line ∷ lines) all = (all.0, all_take Q left lines all.1)

still_newer : (bound left : ℕ) (lines some : List BanLine) → AreFalling bound (bans_of lines) → AllByRecursion (λ (line : BanLine). AreFalling (line.issued.number + 1) (bans_of (drop left lines))) some
    → AllByRecursion (λ (line : BanLine). line.completed ≡ true → has_newer lines line ≡ true) some → AllByRecursion (λ (line : BanLine). line.completed ≡ true → has_newer (take left lines) line ≡ true) some
still_newer bound left lines [] falling older all = tt
still_newer bound left lines (line ∷ some) falling older all =
    (λ done. newer_taken bound left line.issued lines falling older.0 ∙ all.0 done, still_newer bound left lines some falling older.1 all.1)

taken_lines : (bound left : ℕ) (lines : List BanLine) (bans : List Issued) → AreFalling bound bans → AreLines lines bans → AreLines (take left lines) bans
taken_lines bound left lines bans falling are =
    let own : AreFalling bound (bans_of lines) = part_falling bound (bans_of lines) bans are.part falling in
    record {
      part = part_of_part (bans_of (take left lines)) (bans_of lines) bans (part_left (λ line. Unit {0}) (take left lines) lines (taken_out (λ line. Unit {0}) left lines (all_units (drop left lines)))) are.part;
      completed = still_newer bound left lines (take left lines) own (taken_older bound left lines own) (all_take (λ (line : BanLine). line.completed ≡ true → has_newer lines line ≡ true) left lines are.completed);
    }
  where
    all_units : (ls : List BanLine) → AllByRecursion (λ (line : BanLine). Unit {0}) ls
    all_units [] = tt
    all_units (l ∷ ls) = (tt, all_units ls)

pub cut_kept : (left : ℕ) (lazy : Lazy) (bans : List Issued) → MayBeCut left lazy → IsKept lazy bans → IsKept (cut_to left lazy) bans
cut_kept left lazy bans may kept =
    record {
      falling = kept.falling;
      listed = taken_lines (lazy.issued + 1) left lazy.lines bans kept.falling kept.listed;
      within = kept.within;
      agrees = all_left_agree (take left lazy.lines) lazy.lines bans lazy.objects (taken_out (IsUnneeded lazy.objects) left lazy.lines may) kept.agrees;
    }

pub cut_stands : (left : ℕ) (lazy : Lazy) (moment issued : ℕ) (bans : List Issued) (objects : List Held) → MayBeCut left lazy → StandsFor lazy moment issued bans objects → StandsFor (cut_to left lazy) moment issued bans objects
cut_stands left lazy moment issued bans objects may stands = record { count = stands.count; kept = cut_kept left lazy bans may stands.kept; same = stands.same }

pub cut_at : (left : ℕ) (lazy : Lazy) (beginning : Beginning) (entries : List Entry) → MayBeCut left lazy → StandsAt lazy beginning entries → StandsAt (cut_to left lazy) beginning entries
cut_at left lazy beginning entries may at =
    let state : State = reached beginning entries in
    record { stands = cut_stands left lazy state.moment state.issued state.bans state.objects may at.stands; looks = at.looks; unborn = at.unborn }
