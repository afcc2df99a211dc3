-- Bytes are one journal, or bad at one line.
use Rattle.std.proofs.Common.{◌≡◌, ◌≢◌, ◌⊎◌, inl, inr, ℕ, suc, ◌+◌, ◌-◌, ◌<◌, ◌≤◌, List, [], ◌∷◌, ◌++◌, length, sym, ap, ◌∙◌, subst, refl, arith, append_assoc, length-append}
use Rattle.std.specs.Prelude.{◌==◌, ◌^◌, if◌then◌else◌}
use Rattle.std.specs.List.{AllByRecursion}
use Rattle.std.proofs.lemmas.Bool.Decides.{leb_tells}
use Rattle.journal_text.specs.declared.line.Line.{Line}
use Rattle.journal_text.specs.declared.line.Line.TheVariants as line
use Rattle.journal_text.specs.Grammar.{line_words}
use Rattle.journal_text.specs.Journals.{IsLine, lines_text, text_of}
use Rattle.journal_reader.proofs.Unique.{line_same}
use Rattle.journal_reader.specs.Histories.{AreLines, IsOwnLine}
use Rattle.journal_reader.proofs.Feeds.{feeds_same, no_feed_in}
use Rattle.audit_laws.specs.declared.kind.Kind.{Kind}
use Rattle.audit_laws.specs.declared.kind.Kind.TheVariants as kinds
use Rattle.audit_laws.specs.Steps.{Step, Starts, Enters, Cuts, Closes, Place, Before, Within, Closed, MayStep, MaySteps, AreWritable, line_for, lines_for, place_after, placed, text_for}
use Rattle.audit_laws.specs.Journals.{Journal, IsLawful, Reads, lines_in, most_bytes, steps_in}
use Rattle.audit_laws.specs.Faults.{BadAt, EntryFault, HasNoFeed, HasPlace, IsLeast, LineFault, RestFault, TextFault, kind_number}
use Rattle.audit_laws.specs.Findings.{IsFront, IsLegal, StopsAt}
use Rattle.audit_laws.proofs.Judging.{fits_judged}
use Rattle.audit_laws.proofs.Agreeing.{GoOn, append_none, steps_agree, text_more, text_none}
use Rattle.audit_laws.proofs.Wholes.{journal_may, lines_same_in, steps_one}
use Rattle.audit_laws.proofs.Fronts.{HasSteps, front_of_steps, steps_of_front, text_joined}

-- A step that may come next has no fault.

has_place : (place : Place) (step : Step) → MayStep place step → HasPlace place (line_for step)
has_place Before (Starts first) m = tt
has_place Before (Enters entry) m = absurd m
has_place Before Cuts m = absurd m
has_place Before Closes m = absurd m
has_place (Within params state used) (Starts first) m = absurd m
has_place (Within params state used) (Enters entry) m = tt
has_place (Within params state used) Cuts m = tt
has_place (Within params state used) Closes m = tt
has_place Closed step m = absurd m

no_line_fault : (place : Place) (step : Step) (kind : Kind) → MayStep place step → LineFault place (line_for step) kind → ⊥
no_line_fault Before (Starts first) kind m f = f
no_line_fault Before (Enters entry) kind m f = m
no_line_fault Before Cuts kind m f = m
no_line_fault Before Closes kind m f = m
no_line_fault (Within params state used) (Starts first) kind m f = m
no_line_fault (Within params state used) (Enters entry) kinds.Text m f = f
no_line_fault (Within params state used) (Enters entry) kinds.Moment m f = let order = m.0.no_earlier in omega (arith, order, f)
no_line_fault (Within params state used) (Enters entry) kinds.Wait m f = f m.0.waited
no_line_fault (Within params state used) (Enters entry) kinds.Bytes m f = f (fits_judged params state used entry m.0.answer m.1)
no_line_fault (Within params state used) (Enters entry) kinds.Reply m f = f entry.reply m.0.answer refl
no_line_fault (Within params state used) (Enters entry) kinds.Cut m f = f
no_line_fault (Within params state used) (Enters entry) kinds.End m f = f
no_line_fault (Within params state used) Cuts kinds.Text m f = f
no_line_fault (Within params state used) Cuts kinds.Moment m f = f
no_line_fault (Within params state used) Cuts kinds.Wait m f = f
no_line_fault (Within params state used) Cuts kinds.Bytes m f = f
no_line_fault (Within params state used) Cuts kinds.Reply m f = f
no_line_fault (Within params state used) Cuts kinds.Cut m f = f m
no_line_fault (Within params state used) Cuts kinds.End m f = f
no_line_fault (Within params state used) Closes kind m f = f
no_line_fault Closed step kind m f = m

some_text : (front rest : List ℕ) → front ++ 10 ∷ rest ≡ [] → ⊥
some_text [] rest e = cc
some_text (byte ∷ front) rest e = cc

has_feed : (front rest : List ℕ) → HasNoFeed (front ++ 10 ∷ rest) → ⊥
has_feed [] rest none = none.0 refl
has_feed (byte ∷ front) rest none = has_feed front rest none.1

no_text_fault : (place : Place) (step : Step) (room : ℕ) (kind : Kind) → MayStep place step → IsOwnLine (line_for step) → length (text_of (line_for step)) + 1 ≤ room
    → TextFault place room (text_of (line_for step)) kind → ⊥
no_text_fault place step room kind m own fits (inl f) = let less = f.1 in omega (arith, less, fits)
no_text_fault place step room kind m own fits (inr (inl f)) = f.1 (line_for step) own (has_place place step m)
no_text_fault place step room kind m own fits (inr (inr f)) =
    let same : f.0 ≡ line_for step = line_same (text_of (line_for step)) f.0 (line_for step) f.1 own in
    no_line_fault place step kind m (subst (λ (one : Line). LineFault place one kind) same f.2)

no_rest_fault : (place : Place) (step : Step) (room : ℕ) (more : List ℕ) (kind : Kind) → MayStep place step → IsOwnLine (line_for step) → length (text_of (line_for step)) + 1 ≤ room
    → RestFault place room (text_of (line_for step) ++ 10 ∷ more) kind → ⊥
no_rest_fault place step room more kind m own fits (inl f) = some_text (text_of (line_for step)) more f.0
no_rest_fault place step room more kind m own fits (inr (inl f)) = has_feed (text_of (line_for step)) more f.1
no_rest_fault place step room more kind m own fits (inr (inr f)) =
    let r = feeds_same (text_of (line_for step)) f.0 more f.1 (no_feed_in (line_for step) own.words) f.3 f.2 in
    no_text_fault place step room kind m own fits (subst (λ (text : List ℕ). TextFault place room text kind) (sym r.0) f.4)

-- Steps that may be taken, and behind them a fault: no others go on.

may_first : (place : Place) (a : List Step) (step : Step) (b : List Step) → MaySteps place (a ++ step ∷ b) → MayStep (placed place a) step
may_first place [] step b m = m.0
may_first place (first ∷ a) step b m = may_first (place_after place first) a step b m.1

own_first : (a : List Step) (step : Step) (b : List Step) → AreWritable (a ++ step ∷ b) → IsOwnLine (line_for step)
own_first [] step b w = w.0
own_first (first ∷ a) step b w = own_first a step b w.1

length_joined : (a : List Step) (step : Step) (b : List Step) → length (text_for (a ++ step ∷ b)) ≡ length (text_for a) + (length (text_of (line_for step)) + 1 + length (text_for b))
length_joined a step b =
    let one = text_more step b [] in
    let whole : text_for (step ∷ b) ≡ text_of (line_for step) ++ 10 ∷ text_for b = sym (append_none (text_for (step ∷ b))) ∙ (one ∙ ap (λ (t : List ℕ). text_of (line_for step) ++ 10 ∷ t) (append_none (text_for b))) in
    let two = ap length (text_joined a (step ∷ b)) in
    let three = length-append (text_for a) (text_for (step ∷ b)) in
    let four = ap length whole in
    let five = length-append (text_of (line_for step)) (10 ∷ text_for b) in
    omega (arith, two, three, four, five)

-- no more steps go on behind these where the fault is
no_more : (a : List Step) (step : Step) (b : List Step) (rest y : List ℕ) (kind : Kind) → MaySteps Before (a ++ step ∷ b) → AreWritable (a ++ step ∷ b) → length (text_for (a ++ step ∷ b)) ≤ most_bytes
    → rest ≡ text_for (step ∷ b) ++ y → RestFault (placed Before a) (most_bytes - length (text_for a)) rest kind → ⊥
no_more a step b rest y kind m w within e fault =
    let size = length_joined a step b in
    let fits : length (text_of (line_for step)) + 1 ≤ most_bytes - length (text_for a) = omega (arith, size, within) in
    no_rest_fault (placed Before a) step (most_bytes - length (text_for a)) (text_for b ++ y) kind (may_first Before a step b m) (own_first a step b w) fits
    (subst (λ (r : List ℕ). RestFault (placed Before a) (most_bytes - length (text_for a)) r kind) (e ∙ text_more step b y) fault)

-- The least kind is one.

kind_at : ℕ → Kind
kind_at n =
    if n == 1 then kinds.Text
    else (if n == 2 then kinds.Moment
    else (if n == 3 then kinds.Wait
    else (if n == 4 then kinds.Bytes
    else (if n == 5 then kinds.Reply else (if n == 6 then kinds.Cut else kinds.End)))))

kind_back : (kind : Kind) → kind_at (kind_number kind) ≡ kind
unfolding kind_at
kind_back kinds.Text = refl
kind_back kinds.Moment = refl
kind_back kinds.Wait = refl
kind_back kinds.Bytes = refl
kind_back kinds.Reply = refl
kind_back kinds.Cut = refl
kind_back kinds.End = refl

least_one : (Holds : Kind → Type 0) (some other : Kind) → IsLeast Holds some → IsLeast Holds other → some ≡ other
least_one Holds some other p q =
    elim (leb_tells (kind_number some) (kind_number other)) [
      | inl low ↦ elim (leb_tells (kind_number other) (kind_number some)) [
        | inl high ↦
            let l = low.1 in
            let h = high.1 in
            let same : kind_number some ≡ kind_number other = omega (arith, l, h) in
            sym (kind_back some) ∙ (ap kind_at same ∙ kind_back other)
        | inr less ↦ absurd (q.least some less.1 p.holds)
      ]
      | inr less ↦ absurd (p.least other less.1 q.holds)
    ]

-- Of two faults the lines before are the same.

same_bad : (bytes : List ℕ) (number place : ℕ) (some other : Kind) (bad : BadAt bytes number some) (worse : BadAt bytes place other)
    → bad.steps ≡ worse.steps → bad.rest ≡ worse.rest → (number ≡ place) × (some ≡ other)
same_bad bytes number place some other bad worse e f =
    let at : List Step → List ℕ → Type 0 = λ steps rest. IsLeast (RestFault (placed Before steps) (most_bytes - length (text_for steps)) rest) some in
    let first : at worse.steps bad.rest = subst (λ (steps : List Step). at steps bad.rest) e bad.fault in
    let fault : at worse.steps worse.rest = subst (λ (rest : List ℕ). at worse.steps rest) f first in
    let one = bad.place in
    let two = worse.place in
    let lengths = ap length e in
    (omega (arith, one, two, lengths), least_one (RestFault (placed Before worse.steps) (most_bytes - length (text_for worse.steps)) worse.rest) some other fault worse.fault)

-- where the second goes on behind the first, it has no more steps
on_none : (bytes : List ℕ) (number : ℕ) (kind : Kind) (bad : BadAt bytes number kind) (others more : List Step) (y : List ℕ) → MaySteps Before others → AreWritable others → length (text_for others) ≤ most_bytes
    → others ≡ bad.steps ++ more → bad.rest ≡ text_for more ++ y → (bad.steps ≡ others) × (bad.rest ≡ y)
on_none bytes number kind bad others [] y m w within e f = (sym (append_none bad.steps) ∙ sym e, f)
on_none bytes number kind bad others (step ∷ more) y m w within e f =
    let longer : length (text_for (bad.steps ++ step ∷ more)) ≤ most_bytes = subst (λ (steps : List Step). length (text_for steps) ≤ most_bytes) e within in
    absurd (no_more bad.steps step more bad.rest y kind (subst (MaySteps Before) e m) (subst AreWritable e w) longer f bad.fault.holds)

pub fault_one : (bytes : List ℕ) (number place : ℕ) (some other : Kind) → BadAt bytes number some → BadAt bytes place other → (number ≡ place) × (some ≡ other)
fault_one bytes number place some other bad worse =
    elim (steps_agree Before bad.steps worse.steps bad.rest worse.rest tt bad.legal worse.legal bad.writable worse.writable (sym bad.joined ∙ worse.joined)) [
      | inl h ↦
          let same = on_none bytes number some bad worse.steps h.0 worse.rest worse.legal worse.writable worse.within h.1 h.2 in
          same_bad bytes number place some other bad worse same.0 same.1
      | inr h ↦
          let same = on_none bytes place other worse bad.steps h.0 bad.rest bad.legal bad.writable bad.within h.1 h.2 in
          same_bad bytes number place some other bad worse (sym same.0) (sym same.1)
    ]

-- One journal.

pub journal_one : (bytes : List ℕ) (some other : Journal) → Reads bytes some → IsLawful some → Reads bytes other → IsLawful other → some ≡ other
journal_one bytes some other p l q k =
    let one = journal_may some l in
    let two = journal_may other k in
    let first = lines_same_in some in
    let second = lines_same_in other in
    let texts : text_for (steps_in some) ≡ text_for (steps_in other) = ap lines_text first ∙ (sym p.written ∙ (q.written ∙ sym (ap lines_text second))) in
    elim (steps_agree Before (steps_in some) (steps_in other) [] [] tt one.0 two.0 (subst AreLines (sym first) p.lines) (subst AreLines (sym second) q.lines) (ap (λ (t : List ℕ). t ++ []) texts)) [
      | inl h ↦ steps_one some other (no_rest (steps_in some) (steps_in other) h.0 h.1 h.2)
      | inr h ↦ steps_one some other (sym (no_rest (steps_in other) (steps_in some) h.0 h.1 h.2))
    ]
  where
    no_rest : (a b rest : List Step) → b ≡ a ++ rest → [] ≡ text_for rest ++ [] → a ≡ b
    no_rest a b [] e f = sym (append_none a) ∙ sym e
    no_rest a b (step ∷ rest) e f = absurd (text_none step rest [] f)

-- Never both.

-- the end has no fault
no_end_fault : (place : Place) (room : ℕ) (rest : List ℕ) (kind : Kind) → place ≡ Closed → rest ≡ [] → RestFault place room rest kind → ⊥
no_end_fault place room rest kind closed none (inl f) = f.1 closed
no_end_fault place room rest kind closed none (inr (inl f)) = f.0 none
no_end_fault place room rest kind closed none (inr (inr f)) = some_text f.0 f.1 (sym f.2 ∙ none)

pub never : (bytes : List ℕ) (number entries segments : ℕ) (kind : Kind) → BadAt bytes number kind → IsLegal bytes entries segments → ⊥
never bytes number entries segments kind bad legal =
    let out = journal_may legal.journal legal.lawful in
    let lines = lines_same_in legal.journal in
    let steps = steps_in legal.journal in
    let writable : AreWritable steps = subst AreLines (sym lines) legal.reads.lines in
    let text : bytes ≡ text_for steps = legal.reads.written ∙ sym (ap lines_text lines) in
    let within : length (text_for steps) ≤ most_bytes = subst (λ (t : List ℕ). length t ≤ most_bytes) text legal.reads.within in
    let at_end : (bad.steps ≡ steps) × (bad.rest ≡ []) → ⊥ =
    λ same. no_end_fault (placed Before bad.steps) (most_bytes - length (text_for bad.steps)) bad.rest kind (ap (placed Before) same.0 ∙ out.1) same.1 bad.fault.holds in
    elim (steps_agree Before bad.steps steps bad.rest [] tt bad.legal out.0 bad.writable writable (sym bad.joined ∙ (text ∙ sym (append_none (text_for steps))))) [
      | inl h ↦ at_end (on_none bytes number kind bad steps h.0 [] out.0 writable within h.1 h.2)
      | inr h ↦ at_end (none_left h.0 h.1 h.2)
    ]
  where
    none_left : (rest : List Step) → bad.steps ≡ steps_in legal.journal ++ rest → [] ≡ text_for rest ++ bad.rest → (bad.steps ≡ steps_in legal.journal) × (bad.rest ≡ [])
    none_left [] e f = (e ∙ append_none (steps_in legal.journal), sym f)
    none_left (step ∷ rest) e f = absurd (text_none step rest bad.rest f)

-- How far bad bytes are good.

length_lines : (steps : List Step) → length (lines_for steps) ≡ length steps
length_lines [] = refl
length_lines (step ∷ steps) = ap (λ (n : ℕ). suc n) (length_lines steps)

-- with the line that is bad no steps go on, but where it is too long
going_on : (a : List Step) (text more behind : List ℕ) (kind : Kind) (rest : List Step) → MaySteps Before (a ++ rest) → AreWritable (a ++ rest) → HasNoFeed text → text ++ 10 ∷ behind ≡ text_for rest
    → RestFault (placed Before a) (most_bytes - length (text_for a)) (text ++ 10 ∷ more) kind → most_bytes < length (text_for a ++ (text ++ 10 ∷ []))
going_on a text more behind kind [] m w none e fault = absurd (some_text text behind e)
going_on a text more behind kind (step ∷ b) m w none e fault =
    let own = own_first a step b w in
    let whole = text_more step b [] in
    let line_ : text ++ 10 ∷ behind ≡ text_of (line_for step) ++ 10 ∷ (text_for b ++ []) = e ∙ (sym (append_none (text_for (step ∷ b))) ∙ whole) in
    let r = feeds_same text (text_of (line_for step)) behind (text_for b ++ []) none (no_feed_in (line_for step) own.words) line_ in
    let size = length-append (text_for a) (text ++ 10 ∷ []) in
    let size_of_text = length-append text (10 ∷ []) in
    let same = ap length r.0 in
    elim (leb_tells (length (text_for a ++ (text ++ 10 ∷ []))) most_bytes) [
      | inl fits ↦
          let less = fits.1 in
          let room : length (text_of (line_for step)) + 1 ≤ most_bytes - length (text_for a) = omega (arith, size, size_of_text, same, less) in
          absurd (no_rest_fault (placed Before a) step (most_bytes - length (text_for a)) more kind (may_first Before a step b m) own room
          (subst (λ (t : List ℕ). RestFault (placed Before a) (most_bytes - length (text_for a)) (t ++ 10 ∷ more) kind) r.0 fault))
      | inr more_ ↦ more_.1
    ]

nothing_left : (rest : List Step) (text behind : List ℕ) → [] ≡ text_for rest ++ ((text ++ 10 ∷ []) ++ behind) → ⊥
nothing_left [] text behind e = some_text text behind (sym (e ∙ append_assoc text (10 ∷ []) behind))
nothing_left (step ∷ rest) text behind e = text_none step rest ((text ++ 10 ∷ []) ++ behind) e

bad_ends : (bytes : List ℕ) (number : ℕ) (kind : Kind) (bad : BadAt bytes number kind) (text more : List ℕ) → bad.rest ≡ text ++ 10 ∷ more → HasNoFeed text
    → IsFront (text_for bad.steps ++ (text ++ 10 ∷ [])) → most_bytes < length (text_for bad.steps ++ (text ++ 10 ∷ []))
bad_ends bytes number kind bad text more e none front =
    let has = steps_of_front (text_for bad.steps ++ (text ++ 10 ∷ [])) front in
    let tail : List ℕ = (text ++ 10 ∷ []) ++ has.behind in
    let whole : text_for bad.steps ++ tail ≡ text_for has.steps ++ [] =
    sym (append_assoc (text_for bad.steps) (text ++ 10 ∷ []) has.behind) ∙ (sym has.written ∙ sym (append_none (text_for has.steps))) in
    elim (steps_agree Before bad.steps has.steps tail [] tt bad.legal has.legal bad.writable has.writable whole) [
      | inl h ↦
          going_on bad.steps text more has.behind kind h.0 (subst (MaySteps Before) h.1 has.legal) (subst AreWritable h.1 has.writable) none
          (sym (append_assoc text (10 ∷ []) has.behind) ∙ (h.2 ∙ append_none (text_for h.0)))
          (subst (λ (rest : List ℕ). RestFault (placed Before bad.steps) (most_bytes - length (text_for bad.steps)) rest kind) e bad.fault.holds)
      | inr h ↦ absurd (nothing_left h.0 text has.behind h.2)
    ]

pub stopping : (bytes : List ℕ) (number : ℕ) (kind : Kind) → BadAt bytes number kind → StopsAt bytes number
stopping bytes number kind bad =
    record {
      lines = lines_for bad.steps;
      rest = bad.rest;
      joined = bad.joined;
      place = bad.place ∙ ap (λ (n : ℕ). n + 1) (sym (length_lines bad.steps));
      are = bad.writable;
      front = front_of_steps bad.steps bad.legal bad.writable;
      ends = λ text more e none front. bad_ends bytes number kind bad text more e none front;
    }
