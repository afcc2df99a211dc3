-- The containers stay tied where a ban is issued.
use Rattle.std.proofs.Common.{◌≡◌, ◌≤◌, ◌<◌, ◌+◌, inl, inr, ℕ, Bool, true, false, not, cond, List, [], ◌∷◌, ◌&&◌, ◌||◌, filter, map, length, refl, arith, sym, ap, ◌∙◌}
use Rattle.std.specs.Prelude.{nat_lt}
use Rattle.std.specs.List.{list_any, AllByRecursion}
use Rattle.std.proofs.lemmas.Bool.{lt-ltb, le-ltb, ltb-false}
use Rattle.cache_law.specs.declared.ban.Ban.{Ban}
use Rattle.cache_law.specs.declared.ban.BanLine.{BanLine}
use Rattle.cache_law.specs.Bans.{is_equal, object_only}
use Rattle.cache_law.specs.ShownBans.{those_open}
use Rattle.cache_law.proofs.BanLemmas.{equal_bans_alone}
use Rattle.room_lru.specs.Members.{Used}
use Rattle.ban_lurker.specs.Looks.{is_above}
use Rattle.ban_list.specs.Bans.{Bans, completed_by, with_ban}
use Rattle.ban_list.specs.Kept.{AreFalling, number_of}
use Rattle.ban_list.proofs.StandLemmas.{at_issued}
use Rattle.lazy_law.specs.Placed.{Placed, is_unswept}
use Rattle.lazy_law.specs.Sweeping.{count_unswept}
use Rattle.lazy_law.proofs.Filters.{filter_all, filter_on, length_of_map}
use Rattle.lazy_store.specs.Members.{Member, lazy_of, placed_of, stand_of}
use Rattle.lazy_store.specs.Tied.{AreTied, IsNewestAlone, IsWithin}
use Rattle.lazy_store.proofs.Splits.{all_weaken}

-- ---- the bans that are newer than a mark

-- a line that a ban on requests completes is of one, too
completed_case : (mark : ℕ) (line : BanLine) (done rest : List BanLine) (b c : Bool) → (b ≡ true → is_above mark line.issued ≡ false)
    → list_any (is_above mark) (map (λ (l : BanLine). l.issued) (filter (λ (l : BanLine). not l.completed) done)) ≡ list_any (is_above mark) (map (λ (l : BanLine). l.issued) (filter (λ (l : BanLine). not l.completed) rest))
    → line.completed ≡ c
    → list_any (is_above mark) (those_open (cond b (record line { completed = true }) line ∷ done)) ≡ list_any (is_above mark) (those_open (line ∷ rest))
completed_case mark line done rest true true none same e = rw e same
completed_case mark line done rest true false none same e = rw (e, none refl) same
completed_case mark line done rest false true none same e = rw e same
completed_case mark line done rest false false none same e = rw e (ap (λ (x : Bool). is_above mark line.issued || x) same)

and_none : (b : Bool) → (b && false) ≡ false
and_none true = refl
and_none false = refl

not_alone : (mark : ℕ) (ban : Ban) (line : BanLine) → object_only ban ≡ false → is_equal line.issued.ban ban ≡ true → is_above mark line.issued ≡ false
not_alone mark ban line e same = rw (equal_bans_alone line.issued.ban ban same ∙ e) (and_none (nat_lt mark line.issued.number))

alone_completed : (mark : ℕ) (ban : Ban) (lines : List BanLine) → object_only ban ≡ false
    → list_any (is_above mark) (those_open (map (completed_by ban) lines)) ≡ list_any (is_above mark) (those_open lines)
alone_completed mark ban [] e = refl
alone_completed mark ban (line ∷ lines) e =
    completed_case mark line (map (completed_by ban) lines) lines (is_equal line.issued.ban ban) line.completed (λ same. not_alone mark ban line e same) (alone_completed mark ban lines e) refl

-- none is newer than the newest
older_case : (mark : ℕ) (line : BanLine) (done : List BanLine) (c : Bool) → number_of line ≤ mark → line.completed ≡ c → list_any (is_above mark) (those_open done) ≡ false
    → list_any (is_above mark) (those_open (line ∷ done)) ≡ false
older_case mark line done true less e rest = rw e rest
older_case mark line done false less e rest = rw (e, le-ltb mark (number_of line) less) rest

completed_number : (b : Bool) (line : BanLine) → number_of (cond b (record line { completed = true }) line) ≡ number_of line
completed_number true line = refl
completed_number false line = refl

none_newer_than : (mark bound : ℕ) (ban : Ban) (lines : List BanLine) → AreFalling bound lines → bound ≤ mark + 1 → list_any (is_above mark) (those_open (map (completed_by ban) lines)) ≡ false
none_newer_than mark bound ban [] falling less = refl
none_newer_than mark bound ban (line ∷ lines) falling less =
    let same = completed_number (is_equal line.issued.ban ban) line in
    older_case mark (completed_by ban line) (map (completed_by ban) lines) (completed_by ban line).completed (omega (arith, falling.0, same)) refl
    (none_newer_than mark (number_of line) ban lines falling.1 (omega (arith, falling.0)))

newest_case : (t later : Bool) → (t ≡ false → later ≡ false) → ((t && true) || later) ≡ t
newest_case true later none = refl
newest_case false later none = none refl

-- behind a ban on objects alone those wait whose mark is below it
newest_alone : (mark moment : ℕ) (ban : Ban) (bans : Bans) → object_only ban ≡ true → AreFalling (bans.issued + 1) bans.lines
    → list_any (is_above mark) (those_open (with_ban (bans.issued + 1) moment ban bans).lines) ≡ nat_lt mark (bans.issued + 1)
newest_alone mark moment ban bans e falling =
    rw e (newest_case (nat_lt mark (bans.issued + 1)) (list_any (is_above mark) (those_open (map (completed_by ban) bans.lines)))
    (λ none. none_newer_than mark (bans.issued + 1) ban bans.lines falling (omega (arith, ltb-false mark (bans.issued + 1) none))))

-- ---- the containers

within_more : (issued : ℕ) (members : List Member) → AllByRecursion (IsWithin issued) members → AllByRecursion (IsWithin (issued + 1)) members
within_more issued members within =
    all_weaken (IsWithin issued) (IsWithin (issued + 1)) (λ m is. record { place = omega (arith, is.place); mark = omega (arith, is.mark) }) members within

stands_below : (issued : ℕ) (members : List Member) → AllByRecursion (IsWithin issued) members
    → AllByRecursion (λ stand. (stand.place < issued + 1) × (stand.mark < issued + 1)) (map stand_of members)
stands_below issued [] within = tt
stands_below issued (m ∷ members) within = ((omega (arith, within.0.place), omega (arith, within.0.mark)), stands_below issued members within.1)

-- behind a ban on requests as many do as before
behind_request : (mark moment : ℕ) (ban : Ban) (bans : Bans) → object_only ban ≡ false
    → list_any (is_above mark) (those_open (with_ban (bans.issued + 1) moment ban bans).lines) ≡ list_any (is_above mark) (those_open bans.lines)
behind_request mark moment ban bans e = rw (e, and_none (nat_lt mark (bans.issued + 1))) (alone_completed mark ban bans.lines e)

each_same : (moment : ℕ) (ban : Ban) (bans : Bans) (objects : List Placed) → object_only ban ≡ false
    → AllByRecursion (λ (p : Placed). is_unswept (those_open bans.lines) p ≡ is_unswept (those_open (with_ban (bans.issued + 1) moment ban bans).lines) p) objects
each_same moment ban bans [] e = tt
each_same moment ban bans (p ∷ objects) e = (sym (behind_request p.mark moment ban bans e), each_same moment ban bans objects e)

same_wait : (moment : ℕ) (ban : Ban) (bans : Bans) (members : List Member) → object_only ban ≡ false
    → count_unswept (lazy_of members bans) ≡ count_unswept (lazy_of members (with_ban (bans.issued + 1) moment ban bans))
same_wait moment ban bans members e =
    ap length (filter_on (is_unswept (those_open bans.lines)) (is_unswept (those_open (with_ban (bans.issued + 1) moment ban bans).lines)) (map placed_of members)
    (each_same moment ban bans (map placed_of members) e))

alone_behind : (moment : ℕ) (ban : Ban) (bans : Bans) (newest unswept : ℕ) → object_only ban ≡ false → IsNewestAlone bans unswept newest
    → IsNewestAlone (with_ban (bans.issued + 1) moment ban bans) unswept newest
alone_behind moment ban bans newest unswept e (inl none) = inl none
alone_behind moment ban bans newest unswept e (inr those) = inr (λ mark. behind_request mark moment ban bans e ∙ those mark)

pub tied_by_request : (moment : ℕ) (ban : Ban) (members : List Member) (tagged : List (ℕ × List (List ℕ))) (room : List Used) (bans : Bans) (newest unswept : ℕ)
    → object_only ban ≡ false → AreTied members tagged room bans newest unswept → AreTied members tagged room (with_ban (bans.issued + 1) moment ban bans) newest unswept
tied_by_request moment ban members tagged room bans newest unswept e tied =
    record {
      handles = tied.handles;
      numbers = tied.numbers;
      uses = tied.uses;
      ahead = tied.ahead;
      within = within_more bans.issued members tied.within;
      tagged_ = tied.tagged_;
      room_ = tied.room_;
      stands = at_issued (bans.issued + 1) moment ban bans (map stand_of members) (stands_below bans.issued members tied.within) tied.stands;
      waiting = tied.waiting ∙ same_wait moment ban bans members e;
      alone = alone_behind moment ban bans newest unswept e tied.alone;
    }

all_wait : (moment : ℕ) (ban : Ban) (bans : Bans) (members : List Member) → object_only ban ≡ true → AreFalling (bans.issued + 1) bans.lines → AllByRecursion (IsWithin bans.issued) members
    → AllByRecursion (λ (p : Placed). is_unswept (those_open (with_ban (bans.issued + 1) moment ban bans).lines) p ≡ true) (map placed_of members)
all_wait moment ban bans [] e falling within = tt
all_wait moment ban bans (m ∷ members) e falling within =
    (newest_alone (stand_of m).mark moment ban bans e falling ∙ lt-ltb (stand_of m).mark (bans.issued + 1) (omega (arith, within.0.mark)), all_wait moment ban bans members e falling within.1)

pub tied_by_object : (moment : ℕ) (ban : Ban) (members : List Member) (tagged : List (ℕ × List (List ℕ))) (room : List Used) (bans : Bans) (newest unswept : ℕ)
    → object_only ban ≡ true → AreFalling (bans.issued + 1) bans.lines → AreTied members tagged room bans newest unswept
    → AreTied members tagged room (with_ban (bans.issued + 1) moment ban bans) (bans.issued + 1) bans.objects
tied_by_object moment ban members tagged room bans newest unswept e falling tied =
    let later : Bans = with_ban (bans.issued + 1) moment ban bans in
    record {
      handles = tied.handles;
      numbers = tied.numbers;
      uses = tied.uses;
      ahead = tied.ahead;
      within = within_more bans.issued members tied.within;
      tagged_ = tied.tagged_;
      room_ = tied.room_;
      stands = at_issued (bans.issued + 1) moment ban bans (map stand_of members) (stands_below bans.issued members tied.within) tied.stands;
      waiting =
          tied.stands.all ∙ length_of_map stand_of members ∙ sym (length_of_map placed_of members)
          ∙ sym (ap length (filter_all (is_unswept (those_open later.lines)) (map placed_of members) (all_wait moment ban bans members e falling tied.within)));
      alone = inr (λ mark. newest_alone mark moment ban bans e falling);
    }
