-- Each line is read in one way, and each text is one session or has one fault.
use Rattle.std.proofs.Common.{◌≡◌, Bool, true, false, ℕ, ◌+◌, ◌<◌, ◌≤◌, List, [], ◌∷◌, ◌++◌, get_or, sym, ap, ◌∙◌, subst, refl, arith, append_assoc, append-nil, lit<}
use Rattle.std.specs.Prelude.{codes, Option, Some, None, Result, Ok, Err, IfOk, IfErr, MatchResult}
use mathlib.Core.Logic.{◌⊎◌, inl, inr}
use Rattle.std.proofs.Common.{⊎_elim}
use Rattle.std.proofs.lemmas.Bool.{cases_order}
use native.Mathlib.Decide.{dec_le}
use Rattle.std.proofs.lemmas.Option.{none-some, same_Some}
use Rattle.units.specs.Numbers.{IsNumber}
use Rattle.units.specs.Quoted.{IsQuoted}
use Rattle.units.proofs.Pieces.{quoted_same}
use Rattle.session_text.specs.declared.session.FaultKind.{FaultKind}
use Rattle.session_text.specs.declared.session.FaultKind.TheVariants.{Word, Unknown, Argument, Moment, NoEnd, After}
use Rattle.session_text.specs.declared.session.Line.{Line}
use Rattle.session_text.specs.declared.session.Line.TheVariants.{At, Req, Reply, Fail, Cli, Lurk, Probe}
use Rattle.session_text.specs.declared.session.NumberedLine.{NumberedLine}
use Rattle.session_text.specs.Readings.{Reading, Passed, End, Says, Bad}
use Rattle.session_text.specs.declared.place.Place.{Place}
use Rattle.session_text.specs.Lines.{TextLine, lines_of, size, content}
use Rattle.session_text.specs.Keywords.{health_text}
use Rattle.session_text.specs.Readings.{IsWord, HasWord, word_for, IsArgument, IsLine, IsPassed, IsKnown, HasBadText, IsReading}
use Rattle.session_text.specs.Sessions.{Step, On, Stop, step_of, IsStep, Reads, Fails, first_place, session_limit, IsSession, IsFault}
use Rattle.session_text.specs.Faults.{kind_number}
use Rattle.session_text.specs.Errors.{IsErrorOf}
use Rattle.session_text.specs.declared.session.Session.{Session}
use Rattle.session_text.specs.declared.session.SessionError.{SessionError}
use Rattle.session_text.specs.declared.session.SessionError.TheVariants.{Refused, NoMemory}
use Rattle.session_text.proofs.Cuts.{words_same}
use Rattle.session_text.proofs.Words.{word_for_word, end_word, req_word, reply_word, word_same, line_word, known_line, end_no_line, apart, number_same, number_word, line_first}

-- a text that begins with a known word
abbrev Knows : List ℕ → Type 0
Knows text = (word : List ℕ) × HasWord text word × IsKnown word

known_first : (word : List ℕ) → IsKnown word → 35 < get_or word 0 0
known_first word (inl e) = let at : List ℕ → Type 0 = λ w. 35 < get_or w 0 0 in let k : 35 < get_or (codes "end") 0 0 = lit< tt in subst at (sym e) k
known_first word (inr (line, e)) = let at : List ℕ → Type 0 = λ w. 35 < get_or w 0 0 in subst at (sym e) (line_first line)

word_first : (text word : List ℕ) → HasWord text word → 35 < get_or word 0 0 → 35 < get_or text 0 0
word_first text word (w, inl e) h = let at : List ℕ → Type 0 = λ t. 35 < get_or t 0 0 in subst at (sym e) h
word_first text [] (w, inr (a, e)) h = absurd (omega arith)
word_first text (c ∷ cs) (w, inr (a, e)) h = let at : List ℕ → Type 0 = λ t. 35 < get_or t 0 0 in subst at (sym e) h

passed_first : (text : List ℕ) → IsPassed text → 35 < get_or text 0 0 → ⊥
passed_first [] p h = omega arith
passed_first (c ∷ cs) p h = omega (arith, p)

passed_known : (text : List ℕ) → IsPassed text → Knows text → ⊥
passed_known text p k = passed_first text p (word_first text k.0 k.1 (known_first k.0 k.2))

end_knows : (text : List ℕ) → text ≡ codes "end" → Knows text
end_knows text e = (codes "end", (end_word, inl e), inl refl)

line_knows : (text : List ℕ) (line : Line) → IsLine text line → Knows text
line_knows text line h = (word_for line, line_word text line h, known_line line)

text_knows : (text : List ℕ) → HasBadText text → Knows text
text_knows text h = elim h.3 [
  | inl e ↦ (h.0, (req_word h.0 e, inr (h.1 ++ 32 ∷ h.2, h.4)), inr (Req 0 [], e))
  | inr e ↦ (h.0, (reply_word h.0 e, inr (h.1 ++ 32 ∷ h.2, h.4)), inr (Reply 0 [], e))
]

end_line : (text : List ℕ) (line : Line) → text ≡ codes "end" → IsLine text line → ⊥
end_line text line e h = end_no_line line (word_same text (codes "end") (word_for line) (end_word, inl e) (line_word text line h))

text_has : (text : List ℕ) → (h : HasBadText text) → HasWord text h.0
text_has text h = elim h.3 [
  | inl e ↦ (req_word h.0 e, inr (h.1 ++ 32 ∷ h.2, h.4))
  | inr e ↦ (reply_word h.0 e, inr (h.1 ++ 32 ∷ h.2, h.4))
]

end_text : (text : List ℕ) → text ≡ codes "end" → HasBadText text → ⊥
end_text text e h =
    let same = word_same text (codes "end") h.0 (end_word, inl e) (text_has text h) in
    elim h.3 [ inl r ↦ apart (codes "end") (codes "req") refl (same ∙ r) | inr r ↦ apart (codes "end") (codes "reply") refl (same ∙ r) ]

-- a line whose text is quoted as it should be has no bad one
quoted_line : (line : Line) (a word number quoted : List ℕ) → IsArgument line a → word_for line ≡ word → (word ≡ codes "req") ⊎ (word ≡ codes "reply") → a ≡ number ++ 32 ∷ quoted → IsWord number → ((values : List ℕ) → IsQuoted values quoted [] → ⊥) → ⊥
quoted_line (At n) a word number quoted p e w s q f = elim w [ inl r ↦ apart (codes "at") (codes "req") refl (e ∙ r) | inr r ↦ apart (codes "at") (codes "reply") refl (e ∙ r) ]
quoted_line (Req c t) a word number quoted p e w s q f =
    let same = words_same number p.0 quoted p.1 q (number_word p.0 c p.3) (sym s ∙ p.2) in
    let at : List ℕ → Type 0 = λ x. IsQuoted t x [] in
    f t (subst at (sym same.1) p.6)
quoted_line (Reply c t) a word number quoted p e w s q f =
    let same = words_same number p.0 quoted p.1 q (number_word p.0 c p.3) (sym s ∙ p.2) in
    let at : List ℕ → Type 0 = λ x. IsQuoted t x [] in
    f t (subst at (sym same.1) p.4)
quoted_line (Fail n) a word number quoted p e w s q f = elim w [ inl r ↦ apart (codes "fail") (codes "req") refl (e ∙ r) | inr r ↦ apart (codes "fail") (codes "reply") refl (e ∙ r) ]
quoted_line (Cli t) a word number quoted p e w s q f = elim w [ inl r ↦ apart (codes "cli") (codes "req") refl (e ∙ r) | inr r ↦ apart (codes "cli") (codes "reply") refl (e ∙ r) ]
quoted_line (Lurk n) a word number quoted p e w s q f = elim w [ inl r ↦ apart (codes "lurk") (codes "req") refl (e ∙ r) | inr r ↦ apart (codes "lurk") (codes "reply") refl (e ∙ r) ]
quoted_line (Probe b g) a word number quoted p e w s q f = elim w [ inl r ↦ apart (codes "probe") (codes "req") refl (e ∙ r) | inr r ↦ apart (codes "probe") (codes "reply") refl (e ∙ r) ]

line_text : (text : List ℕ) (line : Line) → IsLine text line → HasBadText text → ⊥
line_text text line h b =
    let same = words_same (word_for line) b.0 h.0 (b.1 ++ 32 ∷ b.2) (word_for_word line) (text_has text b).0 (sym h.1 ∙ b.4) in
    quoted_line line h.0 b.0 b.1 b.2 h.2 same.0 b.3 same.1 b.5 b.6

-- a probe was one way
health_same : (g h : Bool) → health_text g ≡ health_text h → g ≡ h
health_same true true e = refl
health_same false false e = refl
health_same true false e = absurd (cc)
health_same false true e = absurd (cc)

-- a line is one line
argument_same : (l m : Line) (a : List ℕ) → word_for l ≡ word_for m → IsArgument l a → IsArgument m a → l ≡ m
argument_same (At n) (At k) a e p q = ap At (number_same a n k p.0 q.0)
argument_same (At n) m a e p q = absurd (apart _ _ refl e)
argument_same (Req c t) (Req d u) a e p q =
    let same = words_same p.0 q.0 p.1 q.1 (number_word p.0 c p.3) (number_word q.0 d q.3) (sym p.2 ∙ q.2) in
    let of : List ℕ → Type 0 = λ x. IsNumber x d in
    let at : List ℕ → Type 0 = λ x. IsQuoted u x [] in
    let number = number_same p.0 c d p.3 (subst of (sym same.0) q.3) in
    let text = (quoted_same t u p.1 [] [] p.6 (subst at (sym same.1) q.6)).0 in
    ap (λ x. Req x t) number ∙ ap (Req d) text
argument_same (Req c t) m a e p q = absurd (apart _ _ refl e)
argument_same (Reply c t) (Reply d u) a e p q =
    let same = words_same p.0 q.0 p.1 q.1 (number_word p.0 c p.3) (number_word q.0 d q.3) (sym p.2 ∙ q.2) in
    let of : List ℕ → Type 0 = λ x. IsNumber x d in
    let at : List ℕ → Type 0 = λ x. IsQuoted u x [] in
    let number = number_same p.0 c d p.3 (subst of (sym same.0) q.3) in
    let text = (quoted_same t u p.1 [] [] p.4 (subst at (sym same.1) q.4)).0 in
    ap (λ x. Reply x t) number ∙ ap (Reply d) text
argument_same (Reply c t) m a e p q = absurd (apart _ _ refl e)
argument_same (Fail n) (Fail k) a e p q = ap Fail (number_same a n k p q)
argument_same (Fail n) m a e p q = absurd (apart _ _ refl e)
argument_same (Cli t) (Cli u) a e p q = ap Cli (sym p ∙ q)
argument_same (Cli t) m a e p q = absurd (apart _ _ refl e)
argument_same (Lurk n) (Lurk k) a e p q = ap Lurk (number_same a n k p.0 q.0)
argument_same (Lurk n) m a e p q = absurd (apart _ _ refl e)
argument_same (Probe b g) (Probe c h) a e p q =
    let same = words_same b c (health_text g) (health_text h) p.0 q.0 (sym p.2 ∙ q.2) in
    ap (λ (x : List ℕ). Probe x g) same.0 ∙ ap (λ (x : Bool). Probe c x) (health_same g h same.1)
argument_same (Probe b g) m a e p q = absurd (apart _ _ refl e)

line_same : (text : List ℕ) (l m : Line) → IsLine text l → IsLine text m → l ≡ m
line_same text l m h k =
    let same = words_same (word_for l) (word_for m) h.0 k.0 (word_for_word l) (word_for_word m) (sym h.1 ∙ k.1) in
    let at : List ℕ → Type 0 = λ x. IsArgument m x in
    argument_same l m h.0 same.0 h.2 (subst at (sym same.1) k.2)

unknown_knows : (text : List ℕ) → IsReading text (Bad Unknown) → Knows text → ⊥
unknown_knows text h k = h.1 k.0 k.1 k.2

-- the kinds of reading in an order, by which two different ones are compared once
abbrev rank : Reading → ℕ
rank Passed = 0
rank End = 1
rank (Says line) = 2
rank (Bad kind) = 3 + kind_number kind

-- a text has no two readings of different kinds
apart_readings : (text : List ℕ) (r s : Reading) → rank r < rank s → IsReading text r → IsReading text s → ⊥
apart_readings text r (Bad Moment) order h k = k
apart_readings text r (Bad NoEnd) order h k = k
apart_readings text r (Bad After) order h k = k
apart_readings text (Bad Moment) s order h k = h
apart_readings text (Bad NoEnd) s order h k = h
apart_readings text (Bad After) s order h k = h
apart_readings text Passed End order h k = passed_known text h (end_knows text k)
apart_readings text Passed (Says m) order h k = passed_known text h (line_knows text m k)
apart_readings text Passed (Bad Word) order h k = passed_known text h (text_knows text k)
apart_readings text Passed (Bad Unknown) order h k = k.0 h
apart_readings text Passed (Bad Argument) order h k = passed_known text h k.0
apart_readings text End (Says m) order h k = end_line text m h k
apart_readings text End (Bad Word) order h k = end_text text h k
apart_readings text End (Bad Unknown) order h k = unknown_knows text k (end_knows text h)
apart_readings text End (Bad Argument) order h k = k.1 h
apart_readings text (Says l) (Bad Word) order h k = line_text text l h k
apart_readings text (Says l) (Bad Unknown) order h k = unknown_knows text k (line_knows text l h)
apart_readings text (Says l) (Bad Argument) order h k = k.2 l h
apart_readings text (Bad Word) (Bad Unknown) order h k = unknown_knows text k (text_knows text h)
apart_readings text (Bad Word) (Bad Argument) order h k = k.3 h
apart_readings text (Bad Unknown) (Bad Argument) order h k = unknown_knows text h k.0
apart_readings text (Bad Word) (Bad Word) order h k = omega arith
apart_readings text (Bad Unknown) (Bad Word) order h k = omega arith
apart_readings text (Bad Unknown) (Bad Unknown) order h k = omega arith
apart_readings text (Bad Argument) (Bad Word) order h k = omega arith
apart_readings text (Bad Argument) (Bad Unknown) order h k = omega arith
apart_readings text (Bad Argument) (Bad Argument) order h k = omega arith
apart_readings text r s order h k = omega arith

same_rank : (text : List ℕ) (r s : Reading) → rank r ≡ rank s → IsReading text r → IsReading text s → r ≡ s
same_rank text (Bad Moment) s e h k = absurd h
same_rank text (Bad NoEnd) s e h k = absurd h
same_rank text (Bad After) s e h k = absurd h
same_rank text Passed Passed e h k = refl
same_rank text End End e h k = refl
same_rank text (Says l) (Says m) e h k = ap Says (line_same text l m h k)
same_rank text (Bad Word) (Bad Word) e h k = refl
same_rank text (Bad Unknown) (Bad Unknown) e h k = refl
same_rank text (Bad Argument) (Bad Argument) e h k = refl
same_rank text r s e h k = absurd (omega arith)

-- every text is read in one way
pub reading_same : (text : List ℕ) (r s : Reading) → IsReading text r → IsReading text s → r ≡ s
reading_same text r s h k =
    ⊎_elim (λ e. same_rank text r s e h k)
    (⊎_elim (λ order. absurd (apart_readings text r s order h k)) (λ order. absurd (apart_readings text s r order k h)))
    (cases_order (rank r) (rank s))

-- no text is without a reading
reading_some : (text : List ℕ) → ((r : Reading) → IsReading text r → ⊥) → ⊥
reading_some text none_ =
    none_ (Bad Unknown) (λ p. none_ Passed p, λ w h k. none_ (Bad Argument) ((w, h, k), λ e. none_ End e, λ l i. none_ (Says l) i, λ b. none_ (Bad Word) b))

-- a line does one thing at a place
pub step_same : (place : Place) (line : TextLine) (s t : Step) → IsStep place line s → IsStep place line t → s ≡ t
step_same place line s t (inl h) (inl k) = h.1 ∙ sym k.1
step_same place line s t (inl h) (inr k) = absurd (omega (arith, h.0, k.0))
step_same place line s t (inr h) (inl k) = absurd (omega (arith, h.0, k.0))
step_same place line s t (inr h) (inr k) = h.3 ∙ (ap (step_of place line) (reading_same (content line) h.1 k.1 h.2 k.2) ∙ sym k.3)

step_some : (place : Place) (line : TextLine) → ((s : Step) → IsStep place line s → ⊥) → ⊥
step_some place line none_ =
    elim (dec_le (size line) place.room) [
      | yes h ↦ reading_some (content line) (λ r k. none_ (step_of place line r) (inr (h, r, k, refl)))
      | no h ↦ none_ (Stop Argument) (inl (omega arith, refl))
    ]

pub on_same : (g h : List NumberedLine) (p q : Place) → On g p ≡ On h q → (g ≡ h) × (p ≡ q)
on_same g h p q e = (cc, cc)

pub stop_same : (a b : FaultKind) → Stop a ≡ Stop b → a ≡ b
stop_same a b e = cc

pub on_stop : (g : List NumberedLine) (p : Place) (k : FaultKind) → On g p ≡ Stop k → ⊥
on_stop g p k e = cc

-- the lines of a session are the only ones
pub reads_same : (rest : List TextLine) (place : Place) (v w : List NumberedLine) (x y : ℕ) → Reads rest place v x → Reads rest place w y → (v ≡ w) × (x ≡ y)
reads_same [] place v w x y h k = (h.0 ∙ sym k.0, same_Some x y (sym h.1 ∙ k.1))
reads_same (line ∷ rest) place v w x y h k =
    let same = on_same h.0 k.0 h.2 k.2 (step_same place line (On h.0 h.2) (On k.0 k.2) h.3 k.3) in
    let at : Place → Type 0 = λ p. Reads rest p k.1 y in
    let more = reads_same rest h.2 h.1 k.1 x y h.5 (subst at (sym same.1) k.5) in
    (h.4 ∙ (ap (λ g. g ++ h.1) same.0 ∙ (ap (λ m. k.0 ++ m) more.0 ∙ sym k.4)), more.1)

-- a fault is the only one
pub fails_same : (rest : List TextLine) (place : Place) (x y : ℕ) (a b : FaultKind) → Fails rest place x a → Fails rest place y b → (x ≡ y) × (a ≡ b)
fails_same [] place x y a b h k = (h.1 ∙ sym k.1, h.2 ∙ sym k.2)
fails_same (line ∷ rest) place x y a b (inl h) (inl k) = (h.1 ∙ sym k.1, stop_same a b (step_same place line (Stop a) (Stop b) h.0 k.0))
fails_same (line ∷ rest) place x y a b (inl h) (inr k) = absurd (on_stop k.0 k.1 a (step_same place line (On k.0 k.1) (Stop a) k.2 h.0))
fails_same (line ∷ rest) place x y a b (inr h) (inl k) = absurd (on_stop h.0 h.1 b (step_same place line (On h.0 h.1) (Stop b) h.2 k.0))
fails_same (line ∷ rest) place x y a b (inr h) (inr k) =
    let same = on_same h.0 k.0 h.1 k.1 (step_same place line (On h.0 h.1) (On k.0 k.1) h.2 k.2) in
    let at : Place → Type 0 = λ p. Fails rest p y b in
    fails_same rest h.1 x y a b h.3 (subst at (sym same.1) k.3)

-- a session has no fault
pub not_both : (rest : List TextLine) (place : Place) (v : List NumberedLine) (x y : ℕ) (a : FaultKind) → Reads rest place v x → Fails rest place y a → ⊥
not_both [] place v x y a h k = none-some x (sym k.0 ∙ h.1)
not_both (line ∷ rest) place v x y a h (inl k) = on_stop h.0 h.2 a (step_same place line (On h.0 h.2) (Stop a) h.3 k.0)
not_both (line ∷ rest) place v x y a h (inr k) =
    let same = on_same h.0 k.0 h.2 k.1 (step_same place line (On h.0 h.2) (On k.0 k.1) h.3 k.2) in
    let at : Place → Type 0 = λ p. Fails rest p y a in
    not_both rest h.2 h.1 x y a h.5 (subst at (sym same.1) k.3)

-- a text that is no session has a fault
end_or_none : (place : Place) (o : Option ℕ) → place.end ≡ o → ((v : List NumberedLine) (x : ℕ) → Reads [] place v x → ⊥) → ((y : ℕ) (a : FaultKind) → Fails [] place y a → ⊥) → ⊥
end_or_none place None e r f = f place.number NoEnd (e, refl, refl)
end_or_none place (Some x) e r f = r [] x (refl, e)

pub not_neither : (rest : List TextLine) (place : Place) → ((v : List NumberedLine) (x : ℕ) → Reads rest place v x → ⊥) → ((y : ℕ) (a : FaultKind) → Fails rest place y a → ⊥) → ⊥
not_neither [] place r f = end_or_none place place.end refl r f
not_neither (line ∷ rest) place r f =
    let go : (s : Step) → IsStep place line s → ⊥ = λ s. elim s as (λ t. IsStep place line t → ⊥) [
      | On given next ↦ λ k. not_neither rest next (λ v x h. r (given ++ v) x (given, v, next, k, refl, h)) (λ y a h. f y a (inr (given, next, k, h)))
      | Stop kind ↦ λ k. f place.number kind (inl (k, refl))
    ] in
    step_some place line go

-- How far a reader has come: what follows completes what there is.
pub record AsFar (text rest : List ℕ) (place : Place) (lines : List NumberedLine) : Type 0 where
  pub reads : (more : List NumberedLine) (end : ℕ) → Reads (lines_of rest) place more end → Reads (lines_of text) first_place (lines ++ more) end
  pub fails : (line : ℕ) (kind : FaultKind) → Fails (lines_of rest) place line kind → Fails (lines_of text) first_place line kind
  pub small : place.number + place.room ≤ session_limit + 1

pub as_far_first : (text : List ℕ) → AsFar text text first_place []
as_far_first text = record { reads = λ more end h. h; fails = λ line kind h. h; small = omega arith }

pub as_far_on : (text rest behind : List ℕ) (place next : Place) (lines given : List NumberedLine) (line : TextLine) → AsFar text rest place lines → lines_of rest ≡ line ∷ lines_of behind → IsStep place line (On given next) → next.number + next.room ≤ session_limit + 1 → AsFar text behind next (lines ++ given)
as_far_on text rest behind place next lines given line far cut step small =
    record {
      reads = λ more end h.
          let k : Reads (line ∷ lines_of behind) place (given ++ more) end = (given, more, next, step, refl, h) in
          let at : List TextLine → Type 0 = λ x. Reads x place (given ++ more) end in
          let all = far.reads (given ++ more) end (subst at (sym cut) k) in
          let of_ : List NumberedLine → Type 0 = λ v. Reads (lines_of text) first_place v end in
          subst of_ (sym (append_assoc lines given more)) all;
      fails = λ y a h.
          let k : Fails (line ∷ lines_of behind) place y a = inr (given, next, step, h) in
          let at : List TextLine → Type 0 = λ x. Fails x place y a in
          far.fails y a (subst at (sym cut) k);
      small = small;
    }

pub fails_here : (text rest behind : List ℕ) (place : Place) (lines : List NumberedLine) (line : TextLine) (kind : FaultKind) → AsFar text rest place lines → lines_of rest ≡ line ∷ lines_of behind → IsStep place line (Stop kind) → Fails (lines_of text) first_place place.number kind
fails_here text rest behind place lines line kind far cut step =
    let k : Fails (line ∷ lines_of behind) place place.number kind = inl (step, refl) in
    let at : List TextLine → Type 0 = λ x. Fails x place place.number kind in
    far.fails place.number kind (subst at (sym cut) k)

abbrev session_of : List NumberedLine → ℕ → Session
session_of lines end = record { lines = lines; end = end }

pub reads_here : (text rest : List ℕ) (place : Place) (lines : List NumberedLine) (end : ℕ) → AsFar text rest place lines → rest ≡ [] → place.end ≡ Some end → Reads (lines_of text) first_place lines end
reads_here text rest place lines end far e h =
    let at : List ℕ → Type 0 = λ r. Reads (lines_of r) place [] end in
    let k : Reads (lines_of []) place [] end = (refl, h) in
    let of_ : List NumberedLine → Type 0 = λ v. Reads (lines_of text) first_place v end in
    subst of_ (append-nil lines) (far.reads [] end (subst at (sym e) k))

-- the lines so far are a session's, at the end of its text
pub lines_here : (text rest : List ℕ) (place : Place) (o : Option ℕ) (lines v : List NumberedLine) (x : ℕ) → AsFar text rest place lines → rest ≡ [] → place.end ≡ o → Reads (lines_of text) first_place v x → lines ≡ v
lines_here text rest place (Some e) lines v x far none end h = (reads_same (lines_of text) first_place lines v e x (reads_here text rest place lines e far none end) h).0
lines_here text rest place None lines v x far none end h =
    let at : List ℕ → Type 0 = λ r. Fails (lines_of r) place place.number NoEnd in
    absurd (not_both (lines_of text) first_place v x place.number NoEnd h (far.fails place.number NoEnd (subst at (sym none) (end, refl, refl))))

-- what a reader answers where the text is a session, and where it has a fault
pub answers_session : (text : List ℕ) (s : Session) (r : Result Session SessionError) → IfOk r (λ read. IsSession text read) → IfErr r (λ error. IsErrorOf text error) → IsSession text s → MatchResult r (λ read. read ≡ s) (λ error. error ≡ NoMemory)
answers_session text s (Ok t) a b h =
    let same = reads_same (lines_of text) first_place t.lines s.lines t.end s.end a h in
    ap (λ v. session_of v t.end) same.0 ∙ ap (session_of s.lines) same.1
answers_session text s (Err NoMemory) a b h = refl
answers_session text s (Err (Refused line kind)) a b h = absurd (not_both (lines_of text) first_place s.lines s.end line kind h b)

pub answers_fault : (text : List ℕ) (line : ℕ) (kind : FaultKind) (r : Result Session SessionError) → IfOk r (λ read. IsSession text read) → IfErr r (λ error. IsErrorOf text error) → IsFault text line kind → r ≡ Err (Refused line kind)
answers_fault text line kind (Ok t) a b h = absurd (not_both (lines_of text) first_place t.lines t.end line kind a h)
answers_fault text line kind (Err NoMemory) a b h = absurd (not_both (lines_of text) first_place b.0.lines b.0.end line kind b.1 h)
answers_fault text line kind (Err (Refused x k)) a b h =
    let same = fails_same (lines_of text) first_place x line k kind b h in
    let refused : ℕ → FaultKind → Result Session SessionError = λ n f. Err (Refused n f) in
    ap (λ n. refused n k) same.0 ∙ ap (refused line) same.1
