-- Bytes that are fed, and what is found of them at their end.
use Rattle.std.proofs.Common.{◌≡◌, ◌≢◌, inl, inr, ℕ, ◌+◌, ◌-◌, ◌<◌, true, false, eqb, List, [], ◌∷◌, ◌++◌, length, sym, ap, ◌∙◌, subst, refl, arith, append_assoc}
use Rattle.cache_law.specs.declared.setting.Params.{Params}
use Rattle.cache_law.specs.State.{State}
use Rattle.journal_text.specs.Journals.{lines_text}
use Rattle.journal_reader.specs.Histories.{AreLines}
use Rattle.journal_reader.proofs.Feeds.{feeds_same}
use Rattle.audit_laws.specs.declared.kind.Kind.{Kind}
use Rattle.audit_laws.specs.declared.kind.Kind.TheVariants as kinds
use Rattle.audit_laws.specs.Steps.{Before, Closed, Place, Step, Within, lines_for, placed, text_for}
use Rattle.audit_laws.specs.Journals.{most_bytes}
use Rattle.audit_laws.specs.Faults.{HasNoFeed, IsLeast, RestFault, TextFault, kind_number}
use Rattle.audit_laws.specs.Findings.{IsLegal}
use Rattle.audit_laws.proofs.Agreeing.{append_none}
use Rattle.audit_laws.proofs.Wholes.{journal_of, lines_same_in}
use Rattle.journal_audit.specs.declared.course.Course.{Course}
use Rattle.journal_audit.specs.declared.going.Found.{Found}
use Rattle.journal_audit.specs.declared.going.Found.TheVariants as found
use Rattle.journal_audit.specs.declared.fault.Expected.TheVariants as expected
use Rattle.journal_audit.specs.declared.fault.Fault.{Fault}
use Rattle.journal_audit.specs.Feeding.{EndsCourse, IsBadFrom, IsBadSo, IsExpectedOf, IsFound, IsGoing, IsOn, cuts_in, entries_in}
use Rattle.std.proofs.lemmas.Bool.{false≢true, true≢false}
use Rattle.std.proofs.lemmas.Bool.Decides.{eqb_tells}
use Rattle.journal_audit.specs.declared.phase.Phase.{Phase}
use Rattle.journal_audit.specs.declared.phase.Phase.TheVariants as phases
use Rattle.journal_audit.specs.Following.{IsAt, is_closed}
use Rattle.journal_audit.proofs.Lining.{text_is_least}
use Rattle.journal_audit.proofs.Pushing.{entries_counted, segments_counted, text_push}

-- Bytes without LF.

pub free_joined : (front rest : List ℕ) → HasNoFeed front → HasNoFeed rest → HasNoFeed (front ++ rest)
free_joined [] rest p q = q
free_joined (byte ∷ front) rest p q = (p.0, free_joined front rest p.1 q)

some_text : (front rest : List ℕ) → front ++ 10 ∷ rest ≡ [] → ⊥
some_text [] rest e = cc
some_text (byte ∷ front) rest e = cc

has_feed : (front rest : List ℕ) → HasNoFeed (front ++ 10 ∷ rest) → ⊥
has_feed [] rest none = none.0 refl
has_feed (byte ∷ front) rest none = has_feed front rest none.1

-- what was bad stays so
bad_more : (line : ℕ) (fault : Fault) (bytes part : List ℕ) → IsBadFrom line fault bytes → IsBadFrom line fault (bytes ++ part)
bad_more line fault bytes part bad =
    record {
      steps = bad.steps;
      legal = bad.legal;
      writable = bad.writable;
      room = bad.room;
      within = bad.within;
      text = bad.text;
      more = bad.more ++ part;
      joined = ap (λ (b : List ℕ). b ++ part) bad.joined ∙ (append_assoc (text_for bad.steps) (bad.text ++ 10 ∷ bad.more) part ∙ ap (λ (b : List ℕ). text_for bad.steps ++ b) (append_assoc bad.text (10 ∷ bad.more) part));
      free = bad.free;
      bad = bad.bad;
    }

going_more : {F : Type 0} (stands : F → Params → State → ℕ → Type 0) (course : Course F) (held bytes part : List ℕ) → HasNoFeed part → IsGoing stands course held bytes → IsGoing stands course (held ++ part) (bytes ++ part)
going_more stands course held bytes part free going =
    record {
      steps = going.steps;
      on = going.on;
      joined = ap (λ (b : List ℕ). b ++ part) going.joined ∙ append_assoc (text_for going.steps) held part;
      free = free_joined held part going.free free;
    }

-- a part without LF is held
pub holds_more : {F : Type 0} (stands : F → Params → State → ℕ → Type 0) (found_ : Found F) (held held' bytes part : List ℕ) → HasNoFeed part → held' ≡ held ++ part → IsFound stands found_ held bytes → IsFound stands found_ held' (bytes ++ part)
holds_more stands (found.Going course) held held' bytes part free e going = subst (λ (h : List ℕ). IsGoing stands course h (bytes ++ part)) (sym e) (going_more stands course held bytes part free going)
holds_more stands (found.Bad line fault) held held' bytes part free e bad = bad_more line fault bytes part bad

-- a line ends
ends_going : {F : Type 0} (stands : F → Params → State → ℕ → Type 0) (course : Course F) (held bytes : List ℕ) (next : Found F) (going : IsGoing stands course held bytes) → EndsCourse stands going.steps held next
    → IsFound stands next [] (bytes ++ 10 ∷ [])
ends_going stands course held bytes (found.Going next) going ends =
    let whole : bytes ++ 10 ∷ [] ≡ text_for going.steps ++ (held ++ 10 ∷ []) = ap (λ (b : List ℕ). b ++ 10 ∷ []) going.joined ∙ append_assoc (text_for going.steps) held (10 ∷ []) in
    record {
      steps = going.steps ++ ends.step ∷ [];
      on = ends.on;
      joined = whole ∙ (ap (λ (t : List ℕ). text_for going.steps ++ (t ++ 10 ∷ [])) ends.read.written ∙ (sym (text_push going.steps ends.step) ∙ sym (append_none (text_for (going.steps ++ ends.step ∷ [])))));
      free = tt;
    }
ends_going stands course held bytes (found.Bad line fault) going ends =
    record {
      steps = going.steps;
      legal = going.on.legal;
      writable = going.on.writable;
      room = course.room;
      within = going.on.room_is;
      text = held;
      more = [];
      joined = ap (λ (b : List ℕ). b ++ 10 ∷ []) going.joined ∙ append_assoc (text_for going.steps) held (10 ∷ []);
      free = going.free;
      bad = ends;
    }

pub line_ends : {F : Type 0} (stands : F → Params → State → ℕ → Type 0) (course : Course F) (held held' bytes : List ℕ) (next : Found F) → IsGoing stands course held bytes → held' ≡ []
    → ((steps : List Step) → IsOn stands course steps → EndsCourse stands steps held next) → IsFound stands next held' (bytes ++ 10 ∷ [])
line_ends stands course held held' bytes next going none ends =
    subst (λ (h : List ℕ). IsFound stands next h (bytes ++ 10 ∷ [])) (sym none) (ends_going stands course held bytes next going (ends going.steps going.on))

pub bad_ends : {F : Type 0} (stands : F → Params → State → ℕ → Type 0) (line : ℕ) (fault : Fault) (bytes : List ℕ) → IsBadFrom line fault bytes → IsBadFrom line fault (bytes ++ 10 ∷ [])
bad_ends stands line fault bytes bad = bad_more line fault bytes (10 ∷ []) bad

-- At the end.

rest_fault : (place : Place) (room : ℕ) (text more : List ℕ) (kind : Kind) → HasNoFeed text → IsLeast (TextFault place room text) kind → IsLeast (RestFault place room (text ++ 10 ∷ more)) kind
rest_fault place room text more kind free fault = record { holds = inr (inr (text, more, refl, free, fault.holds)); least = λ other less f. fault.least other less (down other f) }
  where
    down : (other : Kind) → RestFault place room (text ++ 10 ∷ more) other → TextFault place room text other
    down other (inl f) = absurd (some_text text more f.0)
    down other (inr (inl f)) = absurd (has_feed text more f.1)
    down other (inr (inr f)) =
        let same = feeds_same text f.0 more f.1 free f.3 f.2 in
        subst (λ (t : List ℕ). TextFault place room t other) (sym same.0) f.4

-- bytes behind which no more come are bad where they were
pub bad_at : (line : ℕ) (fault : Fault) (bytes : List ℕ) → IsBadFrom line fault bytes → IsBadSo bytes line fault.kind fault.expected
bad_at line fault bytes bad =
    let within = bad.within in
    record {
      bad = record {
        steps = bad.steps;
        rest = bad.text ++ 10 ∷ bad.more;
        legal = bad.legal;
        writable = bad.writable;
        within = omega (arith, within);
        joined = bad.joined;
        place = bad.bad.place;
        fault = rest_fault (placed Before bad.steps) (most_bytes - length (text_for bad.steps)) bad.text bad.more fault.kind bad.free bad.bad.least;
      };
      expects = λ text more e free.
          let same = feeds_same text bad.text more bad.more free bad.free (sym e) in
          subst (λ (t : List ℕ). IsExpectedOf fault.expected (placed Before bad.steps) t) (sym same.0) bad.bad.expects;
    }

-- a text without its LF
pub unended : {F : Type 0} (stands : F → Params → State → ℕ → Type 0) (course : Course F) (held bytes : List ℕ) → held ≢ [] → IsGoing stands course held bytes → IsBadSo bytes (course.lines + 1) kinds.Text expected.LineFeed
unended stands course held bytes some going =
    let room = going.on.room_is in
    record {
      bad = record {
        steps = going.steps;
        rest = held;
        legal = going.on.legal;
        writable = going.on.writable;
        within = omega (arith, room);
        joined = going.joined;
        place = ap (λ (n : ℕ). n + 1) going.on.lines_are;
        fault = text_is_least (RestFault (placed Before going.steps) (most_bytes - length (text_for going.steps)) held) (inr (inl (some, going.free, refl)));
      };
      expects = λ text more e free one is_. tt;
    }

no_close : (place : Place) (room : ℕ) → place ≢ Closed → IsLeast (RestFault place room []) kinds.End
no_close place room open_ = record { holds = inl (refl, open_, refl); least = λ other less f. by_fault other less f }
  where
    by_fault : (other : Kind) → kind_number other < 7 → RestFault place room [] other → ⊥
    by_fault other less (inl f) = let same = ap kind_number f.2 in omega (arith, less, same)
    by_fault other less (inr (inl f)) = f.0 refl
    by_fault other less (inr (inr f)) = some_text f.0 f.1 (sym f.2)

-- no end
pub unclosed : {F : Type 0} (stands : F → Params → State → ℕ → Type 0) (course : Course F) (held bytes : List ℕ) → held ≡ [] → ((place : Place) → IsAt stands course.phase place → place ≢ Closed) → IsGoing stands course held bytes
    → IsBadSo bytes (course.lines + 1) kinds.End expected.Close
unclosed stands course held bytes none open_ going =
    let room = going.on.room_is in
    record {
      bad = record {
        steps = going.steps;
        rest = [];
        legal = going.on.legal;
        writable = going.on.writable;
        within = omega (arith, room);
        joined = going.joined ∙ ap (λ (h : List ℕ). text_for going.steps ++ h) none;
        place = ap (λ (n : ℕ). n + 1) going.on.lines_are;
        fault = no_close (placed Before going.steps) (most_bytes - length (text_for going.steps)) (open_ (placed Before going.steps) going.on.there);
      };
      expects = λ text more e free one is_. tt;
    }

-- the end
pub closed : {F : Type 0} (stands : F → Params → State → ℕ → Type 0) (course : Course F) (held bytes : List ℕ) → held ≡ [] → ((place : Place) → IsAt stands course.phase place → place ≡ Closed) → IsGoing stands course held bytes
    → IsLegal bytes course.entries (course.cuts + 1)
closed stands course held bytes none ended going =
    let steps = going.steps in
    let room = going.on.room_is in
    let whole : bytes ≡ text_for steps = going.joined ∙ (ap (λ (h : List ℕ). text_for steps ++ h) none ∙ append_none (text_for steps)) in
    let found_ = journal_of steps (going.on.legal, ended (placed Before steps) going.on.there) in
    let lines = sym (ap lines_for found_.2) ∙ lines_same_in found_.0 in
    let size = ap length whole in
    let entries = going.on.entries_are in
    let cuts = going.on.cuts_are in
    let segments = segments_counted found_.0 in
    let cuts_same = ap cuts_in found_.2 in
    record {
      journal = found_.0;
      reads = record {
        within = omega (arith, size, room);
        lines = subst AreLines lines going.on.writable;
        written = whole ∙ ap lines_text lines;
      };
      lawful = found_.1;
      entries_are = entries ∙ (sym (ap entries_in found_.2) ∙ entries_counted found_.0);
      segments_are = omega (arith, cuts, segments, cuts_same);
    }

-- what a phase says of its place
pub open_place : {F : Type 0} (stands : F → Params → State → ℕ → Type 0) (phase : Phase F) (place : Place) → is_closed phase ≡ false → IsAt stands phase place → place ≢ Closed
open_place stands phases.Before place e at f = let no : Before ≡ Closed = sym at ∙ f in cc
open_place stands (phases.Within follower) place e at f = let no : Within at.params at.state at.used ≡ Closed = sym at.is ∙ f in cc
open_place stands phases.Closed place e at f = true≢false e

pub closed_place : {F : Type 0} (stands : F → Params → State → ℕ → Type 0) (phase : Phase F) (place : Place) → is_closed phase ≡ true → IsAt stands phase place → place ≡ Closed
closed_place stands phases.Before place e at = absurd (false≢true e)
closed_place stands (phases.Within follower) place e at = absurd (false≢true e)
closed_place stands phases.Closed place e at = at

-- nothing is held, or something
pub none_held : (held : List ℕ) → true ≡ eqb (length held) 0 → held ≡ []
none_held [] e = refl
none_held (byte ∷ held) e =
    elim (eqb_tells (length (byte ∷ held)) 0) [
      | inl h ↦ let same = h.1 in absurd (omega (arith, same))
      | inr h ↦ absurd (true≢false (e ∙ h.0))
    ]

pub some_held : (held : List ℕ) → false ≡ eqb (length held) 0 → held ≢ []
some_held held e none = false≢true (e ∙ ap (λ (h : List ℕ). eqb (length h) 0) none)
