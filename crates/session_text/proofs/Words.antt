-- The readings of a line: what its first word is, and that it is read in one way.
use Rattle.std.proofs.Common.{◌≡◌, Bool, ℕ, ◌+◌, ◌<◌, ◌≤◌, ◌^◌, List, [], ◌∷◌, ◌++◌, length, get_or, sym, ap, ◌∙◌, subst, refl, arith, drop, length-drop, true, false, eqb, rules, eq-eqb, lit<}
use Rattle.std.proofs.lemmas.Bool.{false≢true}
use Rattle.std.proofs.lemmas.Bool.Decides.{eqb_tells}
use native.Mathlib.Decide.{dec_le}
use Rattle.std.specs.Prelude.{◌↔◌}
use Rattle.std.specs.Prelude.{codes}
use Rattle.std.specs.Char.{digit_value}
use Rattle.std.proofs.lemmas.List.{drop_all}
use Rattle.std.proofs.lemmas.Fmt.{decimal_injective}
use Rattle.std.specs.Str.Parse.{AllDigits}
use mathlib.Core.Logic.{◌⊎◌, inl, inr}
use Rattle.units.specs.Numbers.{IsNumber}
use Rattle.units.specs.Quoted.{IsQuoted, IsQuotedAt}
use Rattle.units.proofs.Pieces.{quoted_same}
use Rattle.units.proofs.Numerals.{spelled}
use Rattle.session_text.specs.declared.session.FaultKind.TheVariants.{Word, Unknown, Argument}
use Rattle.session_text.specs.declared.session.Line.{Line}
use Rattle.session_text.specs.declared.session.Line.TheVariants.{At, Req, Reply, Fail, Cli, Lurk, Probe}
use Rattle.session_text.specs.Readings.{Bad}
use Rattle.session_text.specs.declared.reading.Keyword.{Keyword}
use Rattle.session_text.specs.declared.reading.Keyword.TheVariants as keywords
use Rattle.session_text.specs.Keywords.{health_text, keyword_text}
use Rattle.session_text.specs.Readings.{moment_limit, IsWord, HasWord, word_for, IsArgument, IsLine, IsPassed, IsKnown, HasBadText, IsReading}
use Rattle.session_text.proofs.Cuts.{words_same, word_alone}

-- the first and the third byte of a text together, by which the words differ
abbrev pub mark : List ℕ → ℕ
mark text = get_or text 0 0 + get_or text 2 0

pub apart : (v w : List ℕ) → eqb (mark v) (mark w) ≡ false → v ≡ w → ⊥
apart v w t e = false≢true (sym t ∙ eq-eqb (mark v) (mark w) (ap mark e))

-- the words have no blank
pub word_for_word : (line : Line) → IsWord (word_for line)
word_for_word (At n) = search rules
word_for_word (Req c t) = search rules
word_for_word (Reply c t) = search rules
word_for_word (Fail n) = search rules
word_for_word (Cli t) = search rules
word_for_word (Lurk n) = search rules
word_for_word (Probe b g) = search rules

pub end_word : IsWord (codes "end")
end_word = search rules

-- digits are no blanks
digits_word : (ds : List ℕ) → AllDigits 10 ds → IsWord ds
digits_word [] d = tt
digits_word (c ∷ ds) d = (λ e. let k = d.0 in let at : ℕ → Type 0 = λ b. digit_value b < 10 in let h : digit_value 32 < 10 = subst at e k in omega arith, digits_word ds d.1)

pub number_word : (bytes : List ℕ) (n : ℕ) → IsNumber bytes n → IsWord bytes
number_word bytes n h = digits_word bytes (spelled bytes n h).digits

pub req_word : (w : List ℕ) → w ≡ codes "req" → IsWord w
req_word w e = let at : List ℕ → Type 0 = λ x. IsWord x in subst at (sym e) (word_for_word (Req 0 []))

pub reply_word : (w : List ℕ) → w ≡ codes "reply" → IsWord w
reply_word w e = let at : List ℕ → Type 0 = λ x. IsWord x in subst at (sym e) (word_for_word (Reply 0 []))

-- a text has one first word
pub word_same : (text v w : List ℕ) → HasWord text v → HasWord text w → v ≡ w
word_same text v w h k =
    elim h.1 [
      | inl a ↦ elim k.1 [ inl b ↦ sym a ∙ b | inr b ↦ absurd (word_alone v w b.0 h.0 (sym a ∙ b.1)) ]
      | inr a ↦ elim k.1 [ inl b ↦ absurd (word_alone w v a.0 k.0 (sym b ∙ a.1)) | inr b ↦ (words_same v w a.0 b.0 h.0 k.0 (sym a.1 ∙ b.1)).0 ]
    ]

-- a line begins with its word, which is known
pub line_word : (text : List ℕ) (line : Line) → IsLine text line → HasWord text (word_for line)
line_word text line h = (word_for_word line, inr (h.0, h.1))

behind_word : (line : Line) (a : List ℕ) → HasWord (word_for line ++ 32 ∷ a) (word_for line)
behind_word line a = (word_for_word line, inr (a, refl))

pub known_line : (line : Line) → IsKnown (word_for line)
known_line line = inr (line, refl)

-- `end` is the word of no line
pub end_no_line : (line : Line) → codes "end" ≡ word_for line → ⊥
end_no_line (At n) e = apart _ _ refl e
end_no_line (Req c t) e = apart _ _ refl e
end_no_line (Reply c t) e = apart _ _ refl e
end_no_line (Fail n) e = apart _ _ refl e
end_no_line (Cli t) e = apart _ _ refl e
end_no_line (Lurk n) e = apart _ _ refl e
end_no_line (Probe b g) e = apart _ _ refl e

-- A word with what it cannot take.
bad_argument : (line : Line) (a : List ℕ) → ((m : Line) → word_for m ≡ word_for line → IsArgument m a → ⊥) → (HasBadText (word_for line ++ 32 ∷ a) → ⊥) → IsReading (word_for line ++ 32 ∷ a) (Bad Argument)
bad_argument line a none_ whole = (
  (word_for line, behind_word line a, known_line line),
  λ e. end_no_line line (word_same _ (codes "end") (word_for line) (end_word, inl e) (behind_word line a)),
  λ m h. let same = words_same (word_for line) (word_for m) a h.0 (word_for_word line) (word_for_word m) h.1 in
      let at : List ℕ → Type 0 = λ b. IsArgument m b in
      none_ m (sym same.0) (subst at (sym same.1) h.2),
  whole,
)

-- only `req` and `reply` take a quoted text
text_word : (line : Line) (a : List ℕ) → HasBadText (word_for line ++ 32 ∷ a) → (word_for line ≡ codes "req") ⊎ (word_for line ≡ codes "reply")
text_word line a h =
    elim h.3 [
      | inl e ↦ inl ((words_same (word_for line) h.0 a (h.1 ++ 32 ∷ h.2) (word_for_word line) (req_word h.0 e) h.4).0 ∙ e)
      | inr e ↦ inr ((words_same (word_for line) h.0 a (h.1 ++ 32 ∷ h.2) (word_for_word line) (reply_word h.0 e) h.4).0 ∙ e)
    ]

none_at : (a : List ℕ) → ((n : ℕ) → IsNumber a n → n ≤ moment_limit → ⊥) → (m : Line) → word_for m ≡ word_for (At 0) → IsArgument m a → ⊥
none_at a h (At n) e p = h n p.0 p.1
none_at a h m e p = apart _ _ refl e

none_fail : (a : List ℕ) → ((n : ℕ) → IsNumber a n → ⊥) → (m : Line) → word_for m ≡ word_for (Fail 0) → IsArgument m a → ⊥
none_fail a h (Fail n) e p = h n p
none_fail a h m e p = apart _ _ refl e

none_lurk : (a : List ℕ) → ((n : ℕ) → IsNumber a n → n < 2 ^ 32 → ⊥) → (m : Line) → word_for m ≡ word_for (Lurk 0) → IsArgument m a → ⊥
none_lurk a h (Lurk n) e p = h n p.0 p.1
none_lurk a h m e p = apart _ _ refl e

none_probe : (a : List ℕ) → ((b : List ℕ) (g : Bool) → IsWord b → (b ≡ [] → ⊥) → a ≡ b ++ 32 ∷ health_text g → ⊥) → (m : Line) → word_for m ≡ word_for (Probe [] true) → IsArgument m a → ⊥
none_probe a h (Probe b g) e p = h b g p.0 p.1 p.2
none_probe a h m e p = apart _ _ refl e

-- a word, a blank and how the probe was
pub bad_probe : (a : List ℕ) → ((b : List ℕ) (g : Bool) → IsWord b → (b ≡ [] → ⊥) → a ≡ b ++ 32 ∷ health_text g → ⊥) → IsReading (codes "probe" ++ 32 ∷ a) (Bad Argument)
bad_probe a h = bad_argument (Probe [] true) a (none_probe a h) (λ t. elim (text_word (Probe [] true) a t) [ inl e ↦ apart _ _ refl e | inr e ↦ apart _ _ refl e ])

pub bad_at : (a : List ℕ) → ((n : ℕ) → IsNumber a n → n ≤ moment_limit → ⊥) → IsReading (codes "at" ++ 32 ∷ a) (Bad Argument)
bad_at a h = bad_argument (At 0) a (none_at a h) (λ t. elim (text_word (At 0) a t) [ inl e ↦ apart _ _ refl e | inr e ↦ apart _ _ refl e ])

pub bad_fail : (a : List ℕ) → ((n : ℕ) → IsNumber a n → ⊥) → IsReading (codes "fail" ++ 32 ∷ a) (Bad Argument)
bad_fail a h = bad_argument (Fail 0) a (none_fail a h) (λ t. elim (text_word (Fail 0) a t) [ inl e ↦ apart _ _ refl e | inr e ↦ apart _ _ refl e ])

pub bad_lurk : (a : List ℕ) → ((n : ℕ) → IsNumber a n → n < 2 ^ 32 → ⊥) → IsReading (codes "lurk" ++ 32 ∷ a) (Bad Argument)
bad_lurk a h = bad_argument (Lurk 0) a (none_lurk a h) (λ t. elim (text_word (Lurk 0) a t) [ inl e ↦ apart _ _ refl e | inr e ↦ apart _ _ refl e ])

-- `req` and `reply` take a number, a blank and a quoted text
none_req : (a : List ℕ) → ((c : ℕ) (t number quoted : List ℕ) → a ≡ number ++ 32 ∷ quoted → IsNumber number c → 0 < c → c ≤ 250 → IsQuoted t quoted [] → 0 < length t → ⊥) → (m : Line) → word_for m ≡ word_for (Req 0 []) → IsArgument m a → ⊥
none_req a h (Req c t) e p = h c t p.0 p.1 p.2 p.3 p.4 p.5 p.6 p.7
none_req a h m e p = apart _ _ refl e

none_reply : (a : List ℕ) → ((c : ℕ) (t number quoted : List ℕ) → a ≡ number ++ 32 ∷ quoted → IsNumber number c → IsQuoted t quoted [] → ⊥) → (m : Line) → word_for m ≡ word_for (Reply 0 []) → IsArgument m a → ⊥
none_reply a h (Reply c t) e p = h c t p.0 p.1 p.2 p.3 p.4
none_reply a h m e p = apart _ _ refl e

-- the parts of what stands behind a word
parts_same : (line : Line) (a number quoted : List ℕ) → IsWord number → a ≡ number ++ 32 ∷ quoted → (h : HasBadText (word_for line ++ 32 ∷ a)) → quoted ≡ h.2
parts_same line a number quoted w e h =
    let k : a ≡ h.1 ++ 32 ∷ h.2 = elim h.3 [
      | inl r ↦ (words_same (word_for line) h.0 a (h.1 ++ 32 ∷ h.2) (word_for_word line) (req_word h.0 r) h.4).1
      | inr r ↦ (words_same (word_for line) h.0 a (h.1 ++ 32 ∷ h.2) (word_for_word line) (reply_word h.0 r) h.4).1
    ] in
    (words_same number h.1 quoted h.2 w h.5 (sym e ∙ k)).1

no_parts : (line : Line) (a : List ℕ) → IsWord a → HasBadText (word_for line ++ 32 ∷ a) → ⊥
no_parts line a w h =
    let k : a ≡ h.1 ++ 32 ∷ h.2 = elim h.3 [
      | inl r ↦ (words_same (word_for line) h.0 a (h.1 ++ 32 ∷ h.2) (word_for_word line) (req_word h.0 r) h.4).1
      | inr r ↦ (words_same (word_for line) h.0 a (h.1 ++ 32 ∷ h.2) (word_for_word line) (reply_word h.0 r) h.4).1
    ] in
    word_alone a h.1 h.2 w k

pub req_alone : (a : List ℕ) → IsWord a → IsReading (codes "req" ++ 32 ∷ a) (Bad Argument)
req_alone a w = bad_argument (Req 0 []) a (none_req a (λ c t n q e p r s u v. word_alone a n q w e)) (no_parts (Req 0 []) a w)

pub reply_alone : (a : List ℕ) → IsWord a → IsReading (codes "reply" ++ 32 ∷ a) (Bad Argument)
reply_alone a w = bad_argument (Reply 0 []) a (none_reply a (λ c t n q e p u. word_alone a n q w e)) (no_parts (Reply 0 []) a w)

pub req_bad_text : (a number quoted : List ℕ) → IsWord number → a ≡ number ++ 32 ∷ quoted → ((values : List ℕ) → IsQuoted values quoted [] → ⊥) → IsReading (codes "req" ++ 32 ∷ a) (Bad Word)
req_bad_text a number quoted w e h = (codes "req", number, quoted, inl refl, ap (λ r. codes "req" ++ 32 ∷ r) e, w, h)

pub reply_bad_text : (a number quoted : List ℕ) → IsWord number → a ≡ number ++ 32 ∷ quoted → ((values : List ℕ) → IsQuoted values quoted [] → ⊥) → IsReading (codes "reply" ++ 32 ∷ a) (Bad Word)
reply_bad_text a number quoted w e h = (codes "reply", number, quoted, inr refl, ap (λ r. codes "reply" ++ 32 ∷ r) e, w, h)

not_bad : (line : Line) (a number quoted text : List ℕ) → IsWord number → a ≡ number ++ 32 ∷ quoted → IsQuoted text quoted [] → HasBadText (word_for line ++ 32 ∷ a) → ⊥
not_bad line a number quoted text w e k h =
    let at : List ℕ → Type 0 = λ q. IsQuoted text q [] in
    h.6 text (subst at (parts_same line a number quoted w e h) k)

pub req_bad_number : (a number quoted text : List ℕ) → IsWord number → a ≡ number ++ 32 ∷ quoted → IsQuoted text quoted [] → ((c : ℕ) → IsNumber number c → 0 < c → c ≤ 250 → 0 < length text → ⊥) → IsReading (codes "req" ++ 32 ∷ a) (Bad Argument)
req_bad_number a number quoted text w e k h =
    bad_argument (Req 0 []) a
    (none_req a (λ c t n q f p r s u v.
    let same = words_same number n quoted q w (number_word n c p) (sym e ∙ f) in
    let at : List ℕ → Type 0 = λ x. IsNumber x c in
    let of : List ℕ → Type 0 = λ x. IsQuoted t x [] in
    let texts = (quoted_same text t quoted [] [] k (subst of (sym same.1) u)).0 in
    let long : List ℕ → Type 0 = λ x. 0 < length x in
    h c (subst at (sym same.0) p) r s (subst long (sym texts) v)))
    (not_bad (Req 0 []) a number quoted text w e k)

pub reply_bad_number : (a number quoted text : List ℕ) → IsWord number → a ≡ number ++ 32 ∷ quoted → IsQuoted text quoted [] → ((c : ℕ) → IsNumber number c → ⊥) → IsReading (codes "reply" ++ 32 ∷ a) (Bad Argument)
reply_bad_number a number quoted text w e k h =
    bad_argument (Reply 0 []) a
    (none_reply a (λ c t n q f p u.
    let same = words_same number n quoted q w (number_word n c p) (sym e ∙ f) in
    let at : List ℕ → Type 0 = λ x. IsNumber x c in
    h c (subst at (sym same.0) p)))
    (not_bad (Reply 0 []) a number quoted text w e k)

-- a word that stands alone
pub alone : (line : Line) → IsReading (word_for line) (Bad Argument)
alone line = (
  (word_for line, (word_for_word line, inl refl), known_line line),
  λ e. end_no_line line (sym e),
  λ m h. word_alone (word_for line) (word_for m) h.0 (word_for_word line) h.1,
  λ h. word_alone (word_for line) h.0 (h.1 ++ 32 ∷ h.2) (word_for_word line) h.4,
)

-- `end` with something behind it
pub end_behind : (a : List ℕ) → IsReading (codes "end" ++ 32 ∷ a) (Bad Argument)
end_behind a =
    let has : HasWord (codes "end" ++ 32 ∷ a) (codes "end") = (end_word, inr (a, refl)) in (
      (codes "end", has, inl refl),
      λ e. word_alone (codes "end") (codes "end") a end_word (sym e),
      λ m h. end_no_line m (word_same _ (codes "end") (word_for m) has (line_word _ m h)),
      λ h. elim h.3 [
        | inl r ↦ let e = word_same _ (codes "end") h.0 has (req_word h.0 r, inr (h.1 ++ 32 ∷ h.2, h.4)) ∙ r in apart (codes "end") _ refl e
        | inr r ↦ let e = word_same _ (codes "end") h.0 has (reply_word h.0 r, inr (h.1 ++ 32 ∷ h.2, h.4)) ∙ r in apart (codes "end") _ refl e
      ],
    )

-- a first word that is not known
pub unknown : (text word : List ℕ) → (IsPassed text → ⊥) → HasWord text word → (IsKnown word → ⊥) → IsReading text (Bad Unknown)
unknown text word p h n =
    let at : List ℕ → Type 0 = λ w. IsKnown w in
    (p, λ w k known. n (subst at (word_same text w word k h) known))

pub number_same : (bytes : List ℕ) (m n : ℕ) → IsNumber bytes m → IsNumber bytes n → m ≡ n
number_same bytes m n p q = decimal_injective m n p.0 q.0 (sym p.1 ∙ q.1)

-- a word that is no `end` wants something behind it
pub alone_keyword : (k : Keyword) → (k ≡ keywords.End → ⊥) → IsReading (keyword_text k) (Bad Argument)
alone_keyword keywords.At h = alone (At 0)
alone_keyword keywords.Req h = alone (Req 0 [])
alone_keyword keywords.Reply h = alone (Reply 0 [])
alone_keyword keywords.Fail h = alone (Fail 0)
alone_keyword keywords.Cli h = alone (Cli [])
alone_keyword keywords.Lurk h = alone (Lurk 0)
alone_keyword keywords.Probe h = alone (Probe [] true)
alone_keyword keywords.End h = absurd (h refl)

-- a quoted text that is the whole bytes
pub quoted_whole : (values bytes : List ℕ) → IsQuoted values bytes [] → IsQuotedAt bytes 0 values (length bytes)
quoted_whole values bytes h =
    let at : List ℕ → Type 0 = λ r. IsQuoted values bytes r in
    (omega arith, omega arith, subst at (sym (drop_all (length bytes) bytes (omega arith))) h)

pub quoted_short : (values text bytes : List ℕ) (behind : ℕ) → behind < length bytes → IsQuotedAt bytes 0 text behind → IsQuoted values bytes [] → ⊥
quoted_short values text bytes behind short h k =
    let e = ap length (quoted_same text values bytes (drop behind bytes) [] h.2 k).1 in
    omega (arith, e, length-drop behind bytes)

-- a quoted text is whole where nothing is behind it
pub is_whole : (bytes : List ℕ) (behind : ℕ) → ((values : List ℕ) × IsQuotedAt bytes 0 values behind) → (eqb behind (length bytes) ≡ true) ↔ ((values : List ℕ) × IsQuoted values bytes [])
is_whole bytes behind h = (
  λ t. elim (eqb_tells behind (length bytes)) [
    | inl k ↦ let at : List ℕ → Type 0 = λ r. IsQuoted h.0 bytes r in (h.0, subst at (drop_all behind bytes (omega arith)) h.1.2)
    | inr k ↦ absurd (false≢true (sym k.0 ∙ t))
  ],
  λ whole. eq-eqb behind (length bytes) (elim (dec_le (length bytes) behind) [
    | yes past ↦ omega (arith, h.1.1)
    | no within ↦ absurd (quoted_short whole.0 h.0 bytes behind (omega arith) h.1 whole.1)
  ]),
)

-- the words begin with letters
pub line_first : (line : Line) → 35 < get_or (word_for line) 0 0
line_first (At n) = lit< tt
line_first (Req c t) = lit< tt
line_first (Reply c t) = lit< tt
line_first (Fail n) = lit< tt
line_first (Cli t) = lit< tt
line_first (Lurk n) = lit< tt
line_first (Probe b g) = lit< tt
