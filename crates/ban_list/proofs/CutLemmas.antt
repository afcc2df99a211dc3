-- A list of bans while its oldest lines go.
use Rattle.std.proofs.Common.{◌≡◌, ◌<◌, ◌≤◌, ◌-◌, ℕ, true, false, length, ◌⊎◌, inl, inr, sym, ◌∙◌, ap, subst, arith}
use Rattle.std.proofs.lemmas.Bool.{cases_lt}
use Rattle.std.proofs.lemmas.List.{length-take-le}
use Rattle.ban_list.specs.Bans.{Bans, IsCut, cut_to, is_needed}
use Rattle.ban_list.specs.Kept.{IsWhole}
use Rattle.ban_list.proofs.CountLemmas.{cut_again, cut_none, needed_same}

-- some of the oldest lines are gone, none of which was needed
pub record Cuts (old now : Bans) : Type 0 where
  left : ℕ
  within : left ≤ length old.lines
  is : now ≡ cut_to left old
  gone : (at : ℕ) → left ≤ at → at < length old.lines → is_needed old at ≡ false

cuts_none : (bans : Bans) → IsWhole bans → Cuts bans bans
cuts_none bans whole =
    record {
      left = length bans.lines;
      within = omega arith;
      is = sym (cut_none bans whole.places whole.marks);
      gone = λ at from to. absurd (omega (arith, from, to));
    }

lines_left : (old now : Bans) (left : ℕ) → left ≤ length old.lines → now ≡ cut_to left old → length now.lines ≡ left
lines_left old now left within is = ap (λ (bans : Bans). length bans.lines) is ∙ length-take-le left old.lines within

needed_before : (old now : Bans) (left at : ℕ) → IsWhole old → left ≤ length old.lines → now ≡ cut_to left old → at < left → is_needed now at ≡ is_needed old at
needed_before old now left at whole within is below =
    ap (λ (bans : Bans). is_needed bans at) is
    ∙ needed_same at left old below (omega (arith, whole.places, within)) (omega (arith, whole.marks, within))

gone_at : (old now : Bans) (left at : ℕ) → IsWhole old → left ≤ length old.lines → now ≡ cut_to left old → 0 < left
    → is_needed now (left - 1) ≡ false → at ≡ left - 1 → is_needed old at ≡ false
gone_at old now left at whole within is some spare same =
    ap (is_needed old) same ∙ sym (needed_before old now left (left - 1) whole within is (omega (arith, some))) ∙ spare

gone_now : (old now : Bans) (left at : ℕ) → IsWhole old → left ≤ length old.lines → now ≡ cut_to left old → 0 < left → is_needed now (left - 1) ≡ false
    → ((at : ℕ) → left ≤ at → at < length old.lines → is_needed old at ≡ false) → left - 1 ≤ at → at < length old.lines → (at < left) ⊎ (left ≤ at) → is_needed old at ≡ false
gone_now old now left at whole within is some spare gone from to (inl before) = gone_at old now left at whole within is some spare (omega (arith, from, before, some))
gone_now old now left at whole within is some spare gone from to (inr behind) = gone at behind to

cuts_more : (old now new : Bans) → IsWhole old → Cuts old now → 0 < length now.lines → is_needed now (length now.lines - 1) ≡ false
    → new ≡ cut_to (length now.lines - 1) now → Cuts old new
cuts_more old now new whole cuts some spare is =
    let left : length now.lines ≡ cuts.left = lines_left old now cuts.left cuts.within cuts.is in
    let less : length now.lines - 1 ≡ cuts.left - 1 = ap (λ (n : ℕ). n - 1) left in
    let again : cut_to (cuts.left - 1) (cut_to cuts.left old) ≡ cut_to (cuts.left - 1) old =
    cut_again (cuts.left - 1) cuts.left old (omega arith) (omega (arith, whole.places, cuts.within)) (omega (arith, whole.marks, cuts.within)) in
    record {
      left = cuts.left - 1;
      within = omega (arith, cuts.within);
      is = is ∙ ap (λ (n : ℕ). cut_to n now) less ∙ ap (cut_to (cuts.left - 1)) cuts.is ∙ again;
      gone = λ at from to.
          gone_now old now cuts.left at whole cuts.within cuts.is (omega (arith, left, some)) (ap (is_needed now) (sym less) ∙ spare) cuts.gone from to (cases_lt at cuts.left);
    }

cuts_all : (old now : Bans) → IsWhole old → Cuts old now → (0 < length now.lines → is_needed now (length now.lines - 1) ≡ true) → IsCut old now
cuts_all old now whole cuts needed =
    let left : length now.lines ≡ cuts.left = lines_left old now cuts.left cuts.within cuts.is in
    record {
      left = cuts.left;
      within = cuts.within;
      is = cuts.is;
      gone = cuts.gone;
      oldest = λ some.
          sym (needed_before old now cuts.left (cuts.left - 1) whole cuts.within cuts.is (omega (arith, some)))
          ∙ ap (is_needed now) (ap (λ (n : ℕ). n - 1) (sym left)) ∙ needed (omega (arith, left, some));
    }

-- as a loop has it that learns at each test that there is a count for each line
abbrev pub CutsSoFar : Bans → Bans → Type 0
CutsSoFar old now = (now ≡ old) ⊎ (IsWhole old × Cuts old now)

known_whole : (old now : Bans) → IsWhole now → CutsSoFar old now → IsWhole old × Cuts old now
known_whole old now whole (inl same) =
    let whole_old : IsWhole old = subst IsWhole same whole in
    (whole_old, subst (Cuts old) (sym same) (cuts_none old whole_old))
known_whole old now whole (inr both) = both

pub cuts_on : (old now new : Bans) → IsWhole now → CutsSoFar old now → 0 < length now.lines → is_needed now (length now.lines - 1) ≡ false
    → new ≡ cut_to (length now.lines - 1) now → CutsSoFar old new
cuts_on old now new whole so_far some spare is =
    let both = known_whole old now whole so_far in
    inr (both.0, cuts_more old now new both.0 both.1 some spare is)

pub cuts_end : (old now : Bans) → IsWhole now → CutsSoFar old now → (0 < length now.lines → is_needed now (length now.lines - 1) ≡ true) → IsCut old now
cuts_end old now whole so_far needed =
    let both = known_whole old now whole so_far in
    cuts_all old now both.0 both.1 needed
