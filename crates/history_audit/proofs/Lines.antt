-- The lines that a pass over the bans takes for falling numbers are the only ones that are shown so.
use Rattle.std.proofs.Common.{◌≡◌, ◌≢◌, inl, inr, ℕ, suc, Bool, true, false, cond, ◌+◌, ◌<◌, ◌==◌, List, [], ◌∷◌, ◌++◌, map, length, get_or, drop, drop-cons, refl, arith, sym, ap, ◌∙◌, subst, add-one, append_assoc}
use Rattle.std.specs.Prelude.{Option, Some, None, option_map}
use Rattle.std.proofs.lemmas.Bool.{false≢true, true≢false, cases_Bool, eq-eqb, eqb-true}
use Rattle.std.proofs.Math.Seq.{drop-length}
use Rattle.std.proofs.lemmas.List.{append-nil}
use Rattle.cache_law.specs.declared.ban.BanLine.{BanLine}
use Rattle.cache_law.specs.declared.ban.Issued.{Issued}
use Rattle.cache_law.specs.Bases.{AreFalling}
use Rattle.cache_law.specs.ShownBans.{IsPartOf}
use Rattle.journal_text.specs.declared.shown.ShownBan.{ShownBan}
use Rattle.journal_text.specs.Grammar.{shown_ban}
use Rattle.history_audit.specs.Listing.{AreLinesOf, found_lines, left_over, line_of, taken_line}

-- the bans of lines
abbrev pub bans_in : List BanLine → List Issued
bans_in lines = map (λ (line : BanLine). line.issued) lines

found_nothing : (bans : List Issued) → found_lines bans [] ≡ Some []
found_nothing [] = refl
found_nothing (ban ∷ bans) = ap (λ (o : Option (List BanLine)). option_map (λ (more : List BanLine). [] ++ more) o) (found_nothing bans)

below : (bound : ℕ) (first : Issued) (part bans : List Issued) → AreFalling bound bans → IsPartOf (first ∷ part) bans → first.number < bound
below bound first part [] falling p = absurd p
below bound first part (ban ∷ bans) falling (inl p) = subst (λ (b : Issued). b.number < bound) (sym p.0) falling.0
below bound first part (ban ∷ bans) falling (inr p) =
    let more = below ban.number first part bans falling.1 p in
    let here = falling.0 in
    omega (arith, more, here)

-- what the pass finds from a ban on, where it is or isn't the next one
abbrev onward : Issued → BanLine → List BanLine → List Issued → Bool → Option (List BanLine)
onward ban line lines bans same =
    option_map (λ (more : List BanLine). cond same (line_of ban (shown_ban line) ∷ []) [] ++ more)
    (found_lines bans (cond same (map shown_ban lines) (shown_ban line ∷ map shown_ban lines)))

found_here : (ban : Issued) (line : BanLine) (lines : List BanLine) (bans : List Issued) (same : Bool) → same ≡ true → line_of ban (shown_ban line) ≡ line → found_lines bans (map shown_ban lines) ≡ Some lines
    → onward ban line lines bans same ≡ Some (line ∷ lines)
found_here ban line lines bans true e is_ found =
    ap (λ (o : Option (List BanLine)). option_map (λ (more : List BanLine). (line_of ban (shown_ban line) ∷ []) ++ more) o) found ∙ ap (λ (l : BanLine). Some (l ∷ lines)) is_
found_here ban line lines bans false e is_ found = absurd (false≢true e)

found_later : (ban : Issued) (line : BanLine) (lines : List BanLine) (bans : List Issued) (same : Bool) → same ≡ false → found_lines bans (shown_ban line ∷ map shown_ban lines) ≡ Some (line ∷ lines)
    → onward ban line lines bans same ≡ Some (line ∷ lines)
found_later ban line lines bans true e found = absurd (true≢false e)
found_later ban line lines bans false e found = ap (λ (o : Option (List BanLine)). option_map (λ (more : List BanLine). [] ++ more) o) found

differs : (a b : ℕ) → b < a → (a == b) ≡ false
differs a b less = elim (cases_Bool (a == b)) [ inl e ↦ let same = eqb-true a b e in absurd (omega (arith, same, less)) | inr e ↦ e ]

-- lines of some of the bans are found by their numbers
pub found_if : (bound : ℕ) (bans : List Issued) (lines : List BanLine) → AreFalling bound bans → IsPartOf (bans_in lines) bans → found_lines bans (map shown_ban lines) ≡ Some lines
found_if bound bans [] falling part = found_nothing bans
found_if bound [] (line ∷ lines) falling part = absurd part
found_if bound (ban ∷ bans) (line ∷ lines) falling (inl p) =
    let same : (ban.number == line.issued.number) ≡ true = eq-eqb ban.number line.issued.number (ap (λ (b : Issued). b.number) (sym p.0)) in
    let is_ : line_of ban (shown_ban line) ≡ line = ap (λ (b : Issued). line_of b (shown_ban line)) (sym p.0) in
    found_here ban line lines bans (ban.number == line.issued.number) same is_ (found_if ban.number bans lines falling.1 p.1)
found_if bound (ban ∷ bans) (line ∷ lines) falling (inr p) =
    let less = below ban.number line.issued (bans_in lines) bans falling.1 p in
    found_later ban line lines bans (ban.number == line.issued.number) (differs ban.number line.issued.number less) (found_if ban.number bans (line ∷ lines) falling.1 p)

-- what is found is shown so, and some of the bans

part_later : (part : List Issued) (ban : Issued) (bans : List Issued) → IsPartOf part bans → IsPartOf part (ban ∷ bans)
part_later [] ban bans p = tt
part_later (first ∷ part) ban bans p = inr p

abbrev TakenBy : Issued → ShownBan → List ShownBan → List BanLine → List Issued → Bool → Type 0
TakenBy ban shown others more bans same = AreLinesOf bans (cond same others (shown ∷ others)) more → AreLinesOf (ban ∷ bans) (shown ∷ others) (cond same (line_of ban shown ∷ []) [] ++ more)

taken_by : (ban : Issued) (shown : ShownBan) (others : List ShownBan) (more : List BanLine) (bans : List Issued) (same : Bool) → same ≡ (ban.number == shown.number) → TakenBy ban shown others more bans same
taken_by ban shown others more bans true e are =
    let number : ban.number ≡ shown.number = eqb-true ban.number shown.number (sym e) in
    let first : shown_ban (line_of ban shown) ≡ shown = ap (λ (n : ℕ). record { number = n; completed = shown.completed }) number in
    record { shows = ap (λ (s : ShownBan). s ∷ map shown_ban more) first ∙ ap (λ (ss : List ShownBan). shown ∷ ss) are.shows; part = inl (refl, are.part) }
taken_by ban shown others more bans false e are = record { shows = are.shows; part = part_later (bans_in more) ban bans are.part }

one_more : (ban : Issued) (wanted : List ShownBan) (more : List BanLine) (bans : List Issued) → AreLinesOf bans (left_over wanted ban) more → AreLinesOf (ban ∷ bans) wanted (taken_line wanted ban ++ more)
one_more ban [] more bans are = record { shows = are.shows; part = part_later (bans_in more) ban bans are.part }
one_more ban (shown ∷ others) more bans are = taken_by ban shown others more bans (ban.number == shown.number) refl are

record IsMapped {X Y : Type 0} (f : X → Y) (o : Option X) (y : Y) : Type 0 where
  pub of : X
  pub is : o ≡ Some of
  pub made : f of ≡ y

mapped : {X Y : Type 0} (f : X → Y) (o : Option X) (y : Y) → option_map f o ≡ Some y → IsMapped f o y
mapped f None y e = let no : ⊥ = cc in absurd no
mapped f (Some x) y e = record { of = x; is = refl; made = cc }

pub found_are : (bans : List Issued) (shown : List ShownBan) (lines : List BanLine) → found_lines bans shown ≡ Some lines → AreLinesOf bans shown lines
found_are [] [] lines e =
    let none : [] ≡ lines = cc in
    subst (λ (ls : List BanLine). AreLinesOf [] [] ls) none (record { shows = refl; part = tt })
found_are [] (shown ∷ others) lines e = let no : ⊥ = cc in absurd no
found_are (ban ∷ bans) wanted lines e =
    let from = mapped (λ (more : List BanLine). taken_line wanted ban ++ more) (found_lines bans (left_over wanted ban)) lines e in
    subst (λ (ls : List BanLine). AreLinesOf (ban ∷ bans) wanted ls) from.made (one_more ban wanted from.of bans (found_are bans (left_over wanted ban) from.of from.is))

-- one ban more of a pass that took some lines
pub one_passed : (front : List BanLine) (ban : Issued) (bans : List Issued) (wanted : List ShownBan)
    → option_map (λ (more : List BanLine). front ++ more) (found_lines (ban ∷ bans) wanted) ≡ option_map (λ (more : List BanLine). (front ++ taken_line wanted ban) ++ more) (found_lines bans (left_over wanted ban))
one_passed front ban bans wanted = by_found (found_lines bans (left_over wanted ban))
  where
    by_found : (o : Option (List BanLine))
        → option_map (λ (more : List BanLine). front ++ more) (option_map (λ (more : List BanLine). taken_line wanted ban ++ more) o) ≡ option_map (λ (more : List BanLine). (front ++ taken_line wanted ban) ++ more) o
    by_found None = refl
    by_found (Some more) = ap (λ (ls : List BanLine). Some ls) (sym (append_assoc front (taken_line wanted ban) more))

pub none_passed : (shown : List ShownBan) (bans : List Issued) → found_lines bans shown ≡ option_map (λ (more : List BanLine). [] ++ more) (found_lines bans shown)
none_passed shown bans = by_found (found_lines bans shown)
  where
    by_found : (o : Option (List BanLine)) → o ≡ option_map (λ (more : List BanLine). [] ++ more) o
    by_found None = refl
    by_found (Some more) = refl

-- a pass that has come to this place, took these lines and wants these numbers
pub record HasPassed (bans : List Issued) (shown : List ShownBan) (place : ℕ) (lines : List BanLine) (wanted : List ShownBan) : Type 0 where
  pub same : found_lines bans shown ≡ option_map (λ (more : List BanLine). lines ++ more) (found_lines (drop place bans) wanted)

pub begins_passing : (bans : List Issued) (shown : List ShownBan) (lines : List BanLine) → lines ≡ [] → HasPassed bans shown 0 lines shown
begins_passing bans shown lines none =
    record { same = none_passed shown bans ∙ ap (λ (ls : List BanLine). option_map (λ (more : List BanLine). ls ++ more) (found_lines bans shown)) (sym none) }

pub passes_one : (bans : List Issued) (shown : List ShownBan) (place : ℕ) (lines took : List BanLine) (wanted rest : List ShownBan) (ban : Issued) → HasPassed bans shown place lines wanted → place < length bans → ban ≡ get_or bans place ban
    → took ≡ lines ++ taken_line wanted ban → rest ≡ left_over wanted ban → HasPassed bans shown (place + 1) took rest
passes_one bans shown place lines took wanted rest ban passed below at_ takes leaves =
    let after : List Issued = drop (place + 1) bans in
    let next : drop place bans ≡ ban ∷ after =
    drop-cons bans place ban below ∙ (ap (λ (b : Issued). b ∷ drop (suc place) bans) (sym at_) ∙ ap (λ (k : ℕ). ban ∷ drop k bans) (sym (add-one place))) in
    record {
      same = passed.same
          ∙ (ap (λ (bs : List Issued). option_map (λ (more : List BanLine). lines ++ more) (found_lines bs wanted)) next
          ∙ (one_passed lines ban after wanted
          ∙ (ap (λ (ls : List BanLine). option_map (λ (more : List BanLine). ls ++ more) (found_lines after (left_over wanted ban))) (sym takes)
          ∙ ap (λ (ss : List ShownBan). option_map (λ (more : List BanLine). took ++ more) (found_lines after ss)) (sym leaves))));
    }

-- behind the last ban
passed_all : (bans : List Issued) (shown : List ShownBan) (place : ℕ) (lines : List BanLine) (wanted : List ShownBan) → HasPassed bans shown place lines wanted → place ≡ length bans
    → found_lines bans shown ≡ option_map (λ (more : List BanLine). lines ++ more) (found_lines [] wanted)
passed_all bans shown place lines wanted passed end_ =
    let none : drop place bans ≡ [] = ap (λ (k : ℕ). drop k bans) end_ ∙ drop-length bans in
    passed.same ∙ ap (λ (bs : List Issued). option_map (λ (more : List BanLine). lines ++ more) (found_lines bs wanted)) none

pub finds_all : (bans : List Issued) (shown : List ShownBan) (place : ℕ) (lines : List BanLine) (wanted : List ShownBan) → HasPassed bans shown place lines wanted → place ≡ length bans → true ≡ (length wanted == 0)
    → found_lines bans shown ≡ Some lines
finds_all bans shown place lines [] passed end_ none = passed_all bans shown place lines [] passed end_ ∙ ap (λ (ls : List BanLine). Some ls) (append-nil lines)
finds_all bans shown place lines (first ∷ others) passed end_ none =
    let more : length (first ∷ others) ≡ 0 = eqb-true (length (first ∷ others)) 0 (sym none) in
    absurd (omega (arith, more))

pub lacks_some : (bans : List Issued) (shown : List ShownBan) (place : ℕ) (lines : List BanLine) (wanted : List ShownBan) → HasPassed bans shown place lines wanted → place ≡ length bans → false ≡ (length wanted == 0)
    → found_lines bans shown ≡ None
lacks_some bans shown place lines [] passed end_ more = absurd (false≢true more)
lacks_some bans shown place lines (first ∷ others) passed end_ more = passed_all bans shown place lines (first ∷ others) passed end_
