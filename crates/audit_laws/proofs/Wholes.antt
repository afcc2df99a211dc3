-- A journal and its steps.
use Rattle.std.proofs.Common.{◌≡◌, ◌≢◌, ℕ, ◌+◌, List, [], ◌∷◌, ◌++◌, length, sym, ap, ◌∙◌, subst, refl, arith, append_assoc}
use Rattle.cache_law.specs.declared.call.Entry.{Entry}
use Rattle.cache_law.specs.declared.setting.Params.{Params}
use Rattle.cache_law.specs.Beginning.{base_of}
use Rattle.cache_law.specs.History.{FollowAll, Legal, WithinAll, bytes_of, bytes_of_all, next_state, reached, reached_from}
use Rattle.cache_law.specs.Segments.{Segmented, from}
use Rattle.cache_law.specs.State.{State}
use Rattle.cache_law.proofs.Histories.{Legal-beginning_of, Legal-push, bytes_of_all-push, reached_from-push}
use Rattle.cache_law.proofs.Reserve.{counted}
use Rattle.journal_text.specs.declared.line.First.{First}
use Rattle.journal_text.specs.declared.line.Line.{Line}
use Rattle.journal_text.specs.declared.line.Line.TheVariants as line
use Rattle.journal_text.specs.Grammar.{said_of}
use Rattle.journal_text.specs.Journals.{entries_before, segments_lines}
use Rattle.audit_laws.specs.Steps.{Step, Starts, Enters, Cuts, Closes, Place, Before, Within, Closed, MaySteps, lines_for, params_of, placed}
use Rattle.audit_laws.specs.Journals.{Journal, IsLawful, entries_steps, lines_in, segments_steps, steps_in}
use Rattle.audit_laws.proofs.Agreeing.{append_none}

entries_lines : (more : List Step) (entries : List Entry) → lines_for (entries_steps more entries) ≡ entries_before (lines_for more) entries
entries_lines more [] = refl
entries_lines more (entry ∷ entries) = ap (λ (lines : List Line). line.Entry (said_of entry) ∷ lines) (entries_lines more entries)

segments_same : (segment : List Entry) (segments : List (List Entry)) → lines_for (segments_steps segment segments) ≡ segments_lines segment segments
segments_same segment [] = entries_lines (Closes ∷ []) segment
segments_same segment (next ∷ segments) =
    entries_lines (Cuts ∷ segments_steps next segments) segment ∙ ap (λ (lines : List Line). entries_before (line.Cut ∷ lines) segment) (segments_same next segments)

-- the lines of a journal are those of its steps
pub lines_same_in : (journal : Journal) → lines_for (steps_in journal) ≡ lines_in journal
lines_same_in journal = ap (λ (lines : List Line). line.First journal.first ∷ lines) (segments_same journal.segment journal.segments)

-- steps that lead to the end
abbrev pub LeadOut : Place → List Step → Type 0
LeadOut place steps = MaySteps place steps × (placed place steps ≡ Closed)

entries_may : (params : Params) (state : State) (used : ℕ) (more : List Step) (entries : List Entry) → FollowAll params state entries → WithinAll params state used entries
    → ((now : ℕ) → LeadOut (Within params (reached_from params state entries) now) more) → LeadOut (Within params state used) (entries_steps more entries)
entries_may params state used more [] follow within behind = behind used
entries_may params state used more (entry ∷ entries) follow within behind =
    let later = entries_may params (next_state params state entry) (used + bytes_of entry.call) more entries follow.1 within.1 behind in
    (((follow.0, within.0), later.0), later.1)

segments_may : (params : Params) (state : State) (segment : List Entry) (segments : List (List Entry)) → Segmented params state (segment ∷ segments) → LeadOut (Within params state 0) (segments_steps segment segments)
segments_may params state segment [] lawful = entries_may params state 0 (Closes ∷ []) segment lawful.0.follow lawful.0.within (λ now. ((tt, tt), refl))
segments_may params state segment (next ∷ segments) lawful =
    let later = segments_may params (reached (from params state) segment) next segments lawful.2 in
    entries_may params state 0 (Cuts ∷ segments_steps next segments) segment lawful.0.follow lawful.0.within (λ now. ((lawful.1 (λ e. cc), later.0), later.1))

-- the steps of a lawful journal may be taken, to its end
pub journal_may : (journal : Journal) → IsLawful journal → LeadOut Before (steps_in journal)
journal_may journal lawful =
    let later = segments_may (params_of journal.first) (base_of journal.first.boot) journal.segment journal.segments lawful in
    ((tt, later.0), later.1)

-- steps as those of segments, the first of which has entries before them
record IsWhole (params : Params) (first : State) (before : List Entry) (steps : List Step) : Type 0 where
  pub entries : List Entry
  pub segments : List (List Entry)
  pub are : segments_steps entries segments ≡ steps
  pub lawful : Segmented params first ((before ++ entries) ∷ segments)

one_more : (entry : Entry) (entries : List Entry) (segments : List (List Entry)) → segments_steps (entry ∷ entries) segments ≡ Enters entry ∷ segments_steps entries segments
one_more entry entries [] = refl
one_more entry entries (next ∷ segments) = refl

whole_from : (params : Params) (first : State) (before : List Entry) (steps : List Step) → Legal (from params first) before
    → LeadOut (Within params (reached_from params first before) (bytes_of_all before)) steps → IsWhole params first before steps
whole_from params first before [] legal out = let e = out.1 in let no : ⊥ = cc in absurd no
whole_from params first before (Starts other ∷ steps) legal out = absurd out.0.0
whole_from params first before (Enters entry ∷ steps) legal out =
    let state = reached_from params first before in
    let used = bytes_of_all before in
    let on = Legal-push (from params first) before entry legal out.0.0.0 out.0.0.1 in
    let there : Within params (next_state params state entry) (used + bytes_of entry.call) ≡ Within params (reached_from params first (before ++ entry ∷ [])) (bytes_of_all (before ++ entry ∷ [])) =
    ap (λ (s : State). Within params s (used + bytes_of entry.call)) (sym (reached_from-push params first before entry))
    ∙ ap (λ (u : ℕ). Within params (reached_from params first (before ++ entry ∷ [])) u) (sym (bytes_of_all-push before entry)) in
    let left : LeadOut (Within params (next_state params state entry) (used + bytes_of entry.call)) steps = (out.0.1, out.1) in
    let later = whole_from params first (before ++ entry ∷ []) steps on (subst (λ (place : Place). LeadOut place steps) there left) in
    record {
      entries = entry ∷ later.entries;
      segments = later.segments;
      are = one_more entry later.entries later.segments ∙ ap (λ (more : List Step). Enters entry ∷ more) later.are;
      lawful = subst (λ (es : List Entry). Segmented params first (es ∷ later.segments)) (append_assoc before (entry ∷ []) later.entries) later.lawful;
    }
whole_from params first before (Cuts ∷ steps) legal out =
    let state = reached_from params first before in
    let rounds = ap length out.0.0.rounds in
    let fetches = ap length out.0.0.fetches in
    let begins : Legal (from params state) [] = record {
      opens = omega (arith, rounds, fetches);
      counts = omega (arith, rounds, fetches, counted (from params first) before legal);
      follow = tt;
      within = tt;
    } in
    let later = whole_from params state [] steps begins (out.0.1, out.1) in
    let lawful : Segmented params first (before ∷ later.entries ∷ later.segments) = (legal, λ some. out.0.0, later.lawful) in
    record {
      entries = [];
      segments = later.entries ∷ later.segments;
      are = ap (λ (more : List Step). Cuts ∷ more) later.are;
      lawful = subst (λ (es : List Entry). Segmented params first (es ∷ later.entries ∷ later.segments)) (sym (append_none before)) lawful;
    }
whole_from params first before (Closes ∷ []) legal out =
    let lawful : Segmented params first (before ∷ []) = (legal, λ some. absurd (some refl), tt) in
    record {
      entries = [];
      segments = [];
      are = refl;
      lawful = subst (λ (es : List Entry). Segmented params first (es ∷ [])) (sym (append_none before)) lawful;
    }
whole_from params first before (Closes ∷ step ∷ steps) legal out = absurd out.0.1.0

-- steps that may be taken to the end are those of a lawful journal
pub journal_of : (steps : List Step) → LeadOut Before steps → (journal : Journal) × IsLawful journal × (steps_in journal ≡ steps)
journal_of [] out = let e = out.1 in let no : ⊥ = cc in absurd no
journal_of (Starts first ∷ steps) out =
    let whole = whole_from (params_of first) (base_of first.boot) [] steps (Legal-beginning_of (params_of first) first.boot) (out.0.1, out.1) in
    (record { first = first; segment = whole.entries; segments = whole.segments }, whole.lawful, ap (λ (more : List Step). Starts first ∷ more) whole.are)
journal_of (Enters entry ∷ steps) out = absurd out.0.0
journal_of (Cuts ∷ steps) out = absurd out.0.0
journal_of (Closes ∷ steps) out = absurd out.0.0

-- Steps are those of one journal.

-- no entry stands first
IsNoEntry : List Step → Type 0
IsNoEntry steps = (entry : Entry) (more : List Step) → steps ≡ Enters entry ∷ more → ⊥

entries_one : (x y : List Step) (a b : List Entry) → IsNoEntry x → IsNoEntry y → entries_steps x a ≡ entries_steps y b → (a ≡ b) × (x ≡ y)
unfolding IsNoEntry
entries_one x y [] [] p q e = (refl, e)
entries_one x y [] (other ∷ b) p q e = absurd (p other (entries_steps y b) e)
entries_one x y (entry ∷ a) [] p q e = absurd (q entry (entries_steps x a) (sym e))
entries_one x y (entry ∷ a) (other ∷ b) p q e =
    let heads : Enters entry ≡ Enters other = cc in
    let tails : entries_steps x a ≡ entries_steps y b = cc in
    let one : entry ≡ other = cc in
    let more = entries_one x y a b p q tails in
    let rest = more.0 in
    let all : entry ∷ a ≡ other ∷ b = cc in
    (all, more.1)

close_no_entry : (steps : List Step) → IsNoEntry (Closes ∷ steps)
unfolding IsNoEntry
close_no_entry steps entry more e = cc

cut_no_entry : (steps : List Step) → IsNoEntry (Cuts ∷ steps)
unfolding IsNoEntry
cut_no_entry steps entry more e = cc

segments_one : (s : List Entry) (ss : List (List Entry)) (t : List Entry) (ts : List (List Entry)) → segments_steps s ss ≡ segments_steps t ts → (s ≡ t) × (ss ≡ ts)
segments_one s [] t [] e = let r = entries_one (Closes ∷ []) (Closes ∷ []) s t (close_no_entry []) (close_no_entry []) e in (r.0, refl)
segments_one s [] t (other ∷ ts) e =
    let r = entries_one (Closes ∷ []) (Cuts ∷ segments_steps other ts) s t (close_no_entry []) (cut_no_entry (segments_steps other ts)) e in
    let f = r.1 in let no : ⊥ = cc in absurd no
segments_one s (next ∷ ss) t [] e =
    let r = entries_one (Cuts ∷ segments_steps next ss) (Closes ∷ []) s t (cut_no_entry (segments_steps next ss)) (close_no_entry []) e in
    let f = r.1 in let no : ⊥ = cc in absurd no
segments_one s (next ∷ ss) t (other ∷ ts) e =
    let r = entries_one (Cuts ∷ segments_steps next ss) (Cuts ∷ segments_steps other ts) s t (cut_no_entry (segments_steps next ss)) (cut_no_entry (segments_steps other ts)) e in
    let f = r.1 in
    let tails : segments_steps next ss ≡ segments_steps other ts = cc in
    let more = segments_one next ss other ts tails in
    let one = more.0 in
    let rest = more.1 in
    let all : next ∷ ss ≡ other ∷ ts = cc in
    (r.0, all)

journal_by : First → List Entry → List (List Entry) → Journal
journal_by first segment segments = record { first = first; segment = segment; segments = segments }

pub steps_one : (some other : Journal) → steps_in some ≡ steps_in other → some ≡ other
unfolding journal_by
steps_one some other e =
    let heads : Starts some.first ≡ Starts other.first = cc in
    let first : some.first ≡ other.first = cc in
    let tails : segments_steps some.segment some.segments ≡ segments_steps other.segment other.segments = cc in
    let r = segments_one some.segment some.segments other.segment other.segments tails in
    ap (λ (f : First). journal_by f some.segment some.segments) first
    ∙ (ap (λ (s : List Entry). journal_by other.first s some.segments) r.0 ∙ ap (λ (ss : List (List Entry)). journal_by other.first other.segment ss) r.1)
