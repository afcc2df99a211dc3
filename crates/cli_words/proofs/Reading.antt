-- A line has one list of words at most.
use Rattle.std.proofs.Common.{◌≡◌, ℕ, zero, suc, ◌+◌, ◌-◌, ◌<◌, ◌≤◌, List, [], ◌∷◌, ◌++◌, length, get_or, drop, sym, ap, ◌∙◌, subst, refl, arith, Bool, true, false, eqb, append_assoc, append-nil, length-append}
use Rattle.std.specs.Prelude.{Some, None, ◌||◌, Result, Ok, Err, IfOk, IfErr, MatchResult}
use Rattle.cli_words.specs.declared.line.WordsError.{WordsError}
use Rattle.cli_words.specs.declared.line.WordsError.TheVariants.{Syntax, NoMemory}
use Rattle.cli_words.specs.Errors.{IsErrorOf}
use mathlib.Core.Logic.{inl, inr}
use Rattle.std.proofs.lemmas.Bool.{false≢true}
use Rattle.std.proofs.lemmas.Bool.Decides.{eqb_tells}
use Rattle.std.proofs.lemmas.Option.{none-some, some_pair_parts}
use Rattle.std.proofs.lemmas.List.{drop_more, drop_all}
use Rattle.units.specs.Quoted.{IsQuoted, IsQuotedAt}
use Rattle.units.proofs.Pieces.{quoted_same, pieces_end, place_of, chosen, escape_ends}
use Rattle.cli_words.specs.Words.{is_blank, after_blanks, plain_piece, ReadsPlain, IsWordEnd, ReadsWord, ReadsWords, HasWords}

-- blanks are passed over
pub blanks_passed : (bytes : List ℕ) (n : ℕ) → n ≤ length bytes → ((k : ℕ) → k < n → is_blank (get_or bytes k 0) ≡ true) → after_blanks bytes ≡ after_blanks (drop n bytes)
blanks_passed bytes zero h all = refl
blanks_passed [] (suc n) h all = refl
blanks_passed (b ∷ bytes) (suc n) h all =
    let e : is_blank b ≡ true = all 0 (omega arith) in
    rw e (blanks_passed bytes n (omega arith) (λ k l. all (suc k) (omega arith)))

pub blanks_end : (bytes : List ℕ) (n : ℕ) → n < length bytes → ((k : ℕ) → k < n → is_blank (get_or bytes k 0) ≡ true) → is_blank (get_or bytes n 0) ≡ false → after_blanks bytes ≡ drop n bytes
blanks_end bytes n h all here =
    let e : drop n bytes ≡ get_or bytes n 0 ∷ drop (n + 1) bytes = drop_more bytes n 0 h in
    let k : after_blanks (get_or bytes n 0 ∷ drop (n + 1) bytes) ≡ get_or bytes n 0 ∷ drop (n + 1) bytes = rw here refl in
    blanks_passed bytes n (omega arith) all ∙ (ap after_blanks e ∙ (k ∙ sym e))

pub blanks_all : (bytes : List ℕ) (n : ℕ) → n ≡ length bytes → ((k : ℕ) → k < n → is_blank (get_or bytes k 0) ≡ true) → after_blanks bytes ≡ []
blanks_all bytes n e all = blanks_passed bytes n (omega arith) all ∙ ap after_blanks (drop_all n bytes (omega arith))

-- one more piece
pub plain_push : (values : List ℕ) (bytes rest : List ℕ) (value : ℕ) (behind : List ℕ) → ReadsPlain values bytes rest → plain_piece rest ≡ Some (value, behind) → ReadsPlain (values ++ value ∷ []) bytes behind
plain_push [] bytes rest value behind h e = (behind, ap plain_piece h ∙ e, refl)
plain_push (v ∷ values) bytes rest value behind h e = (h.0, h.1, plain_push values h.0 rest value behind h.2 e)

neither : (a b : Bool) → a ≡ false → b ≡ false → a || b ≡ true → ⊥
neither a b p q h = let at : Bool → Bool → Type 0 = λ x y. x || y ≡ true in false≢true (subst (λ y. at false y) q (subst (λ x. at x b) p h))

-- a word's end is no piece
blank_no_piece : (b : ℕ) (rest : List ℕ) → is_blank b ≡ true → plain_piece (b ∷ rest) ≡ None
blank_no_piece b rest h =
    let at : ℕ → Type 0 = λ c. plain_piece (c ∷ rest) ≡ None in
    elim (eqb_tells b 32) [
      | inl k ↦ subst at (sym k.1) refl
      | inr k ↦
          elim (eqb_tells b 9) [ inl m ↦ subst at (sym m.1) refl | inr m ↦ absurd (neither (eqb b 32) (eqb b 9) k.0 m.0 h) ]
    ]

pub end_no_piece : (rest : List ℕ) → IsWordEnd rest → plain_piece rest ≡ None
end_no_piece [] h = refl
end_no_piece (b ∷ rest) h = blank_no_piece b rest h

-- a piece takes a byte at least
pub plain_shorter : (bytes : List ℕ) (value : ℕ) (behind : List ℕ) → plain_piece bytes ≡ Some (value, behind) → length behind < length bytes
plain_shorter [] value behind e = absurd (none-some (value, behind) e)
plain_shorter (b ∷ bytes) value behind e =
    elim (chosen (eqb b 92) _ _ _ e) [
      | inl h ↦ let end = escape_ends bytes value behind h.1 in omega (arith, ap length end.joined, length-append end.front behind)
      | inr h ↦ elim (chosen (is_blank b) _ _ _ h.1) [
        | inl k ↦ absurd (none-some (value, behind) k.1)
        | inr k ↦ let same = (some_pair_parts b value bytes behind k.1).1 in omega (arith, ap length same)
      ]
    ]

-- where the pieces stop, a word that goes on from there ends there
pub plain_stop : (values others : List ℕ) (bytes rest behind : List ℕ) → ReadsPlain values bytes rest → plain_piece rest ≡ None → ReadsPlain others bytes behind → plain_piece behind ≡ None → (values ≡ others) × (rest ≡ behind)
plain_stop [] [] bytes rest behind h stop k last = (refl, sym h ∙ k)
plain_stop [] (w ∷ others) bytes rest behind h stop k last = absurd (none-some (w, k.0) (sym stop ∙ (sym (ap plain_piece h) ∙ k.1)))
plain_stop (v ∷ values) [] bytes rest behind h stop k last = absurd (none-some (v, h.0) (sym last ∙ (sym (ap plain_piece k) ∙ h.1)))
plain_stop (v ∷ values) (w ∷ others) bytes rest behind h stop k last =
    let same = some_pair_parts v w h.0 k.0 (sym h.1 ∙ k.1) in
    let at : List ℕ → Type 0 = λ m. ReadsPlain others m behind in
    let more = plain_stop values others h.0 rest behind h.2 stop (subst at (sym same.1) k.2) last in
    (ap (λ x. x ∷ values) same.0 ∙ ap (λ r. w ∷ r) more.0, more.1)

-- where no piece and no end stands, no plain word goes on
pub plain_none : (values : List ℕ) (bytes rest : List ℕ) → ReadsPlain values bytes rest → plain_piece rest ≡ None → (IsWordEnd rest → ⊥) → (word behind : List ℕ) → ReadsPlain word bytes behind → IsWordEnd behind → ⊥
plain_none values bytes rest h stop none_ word behind k last =
    let same = plain_stop values word bytes rest behind h stop k (end_no_piece behind last) in
    let at : List ℕ → Type 0 = λ r. IsWordEnd r in
    none_ (subst at (sym same.1) last)

-- bytes begin with one word at most
pub word_same : (v w bytes x y : List ℕ) → ReadsWord v bytes x → ReadsWord w bytes y → (v ≡ w) × (x ≡ y)
word_same v w [] x y h k = absurd h
word_same v w (b ∷ bytes) x y (inl h) (inl k) = quoted_same v w (b ∷ bytes) x y h k
word_same v w (b ∷ bytes) x y (inl h) (inr k) = let e : b ≡ 34 = ap (λ l. get_or l 0 0) h.1 in absurd (k.0 e)
word_same v w (b ∷ bytes) x y (inr h) (inl k) = let e : b ≡ 34 = ap (λ l. get_or l 0 0) k.1 in absurd (h.0 e)
word_same v w (b ∷ bytes) x y (inr h) (inr k) = plain_stop v w (b ∷ bytes) x y h.2 (end_no_piece x h.3) k.2 (end_no_piece y k.3)

pub words_same : (v w : List (List ℕ)) (bytes : List ℕ) → ReadsWords v bytes → ReadsWords w bytes → v ≡ w
words_same [] [] bytes h k = refl
words_same [] (x ∷ w) bytes h k = let at : List ℕ → Type 0 = λ r. ReadsWord x r k.0 in absurd (subst at h k.1)
words_same (x ∷ v) [] bytes h k = let at : List ℕ → Type 0 = λ r. ReadsWord x r h.0 in absurd (subst at k h.1)
words_same (x ∷ v) (y ∷ w) bytes h k =
    let same = word_same x y (after_blanks bytes) h.0 k.0 h.1 k.1 in
    let at : List ℕ → Type 0 = λ r. ReadsWords w r in
    let more = words_same v w h.0 h.2 (subst at (sym same.1) k.2) in
    ap (λ z. z ∷ v) same.0 ∙ ap (λ z. y ∷ z) more

-- How far a reader of words has come: what follows completes what there is, and nothing else does.
pub record AsFar (bytes rest : List ℕ) (words : List (List ℕ)) : Type 0 where
  pub reads : (more : List (List ℕ)) → ReadsWords more rest → ReadsWords (words ++ more) bytes
  pub only : (all : List (List ℕ)) → ReadsWords all bytes → (more : List (List ℕ)) × (all ≡ words ++ more) × ReadsWords more rest

pub as_far_first : (bytes : List ℕ) → AsFar bytes bytes []
as_far_first bytes = record { reads = λ more h. h; only = λ all h. (all, refl, h) }

on_only : (words : List (List ℕ)) (word : List ℕ) (more : List (List ℕ)) (rest behind : List ℕ) (all : List (List ℕ)) → all ≡ words ++ more → ReadsWord word (after_blanks rest) behind → ReadsWords more rest → (after : List (List ℕ)) × (all ≡ (words ++ word ∷ []) ++ after) × ReadsWords after behind
on_only words word [] rest behind all e here h = let at : List ℕ → Type 0 = λ r. ReadsWord word r behind in absurd (subst at h here)
on_only words word (x ∷ more) rest behind all e here h =
    let same = word_same word x (after_blanks rest) behind h.0 here h.1 in
    let at : List ℕ → Type 0 = λ r. ReadsWords more r in
    (more, e ∙ (ap (λ z. words ++ z ∷ more) (sym same.0) ∙ sym (append_assoc words (word ∷ []) more)), subst at (sym same.1) h.2)

pub as_far_on : (bytes rest start behind : List ℕ) (words : List (List ℕ)) (word : List ℕ) → AsFar bytes rest words → after_blanks rest ≡ start → ReadsWord word start behind → AsFar bytes behind (words ++ word ∷ [])
as_far_on bytes rest start behind words word far e h =
    let of_ : List ℕ → Type 0 = λ r. ReadsWord word r behind in
    let here = subst of_ (sym e) h in
    record {
      reads = λ more k.
          let at : List (List ℕ) → Type 0 = λ w. ReadsWords w bytes in
          subst at (sym (append_assoc words (word ∷ []) more)) (far.reads (word ∷ more) (behind, here, k));
      only = λ all k. let r = far.only all k in on_only words word r.0 rest behind all r.1 here r.2;
    }

no_more : (more : List (List ℕ)) (rest start : List ℕ) → after_blanks rest ≡ start → 0 < length start → ((word behind : List ℕ) → ReadsWord word start behind → ⊥) → ReadsWords more rest → ⊥
no_more [] rest start e some none_ h = omega (arith, ap length (sym e ∙ h))
no_more (x ∷ more) rest start e some none_ h = let at : List ℕ → Type 0 = λ r. ReadsWord x r h.0 in none_ x h.0 (subst at e h.1)

-- where no word stands, the line has no words
pub no_word : (bytes rest start : List ℕ) (words : List (List ℕ)) → AsFar bytes rest words → after_blanks rest ≡ start → 0 < length start → ((word behind : List ℕ) → ReadsWord word start behind → ⊥) → (all : List (List ℕ)) → ReadsWords all bytes → ⊥
no_word bytes rest start words far e some none_ all h = let r = far.only all h in no_more r.0 rest start e some none_ r.2

pub reads_whole : (bytes rest : List ℕ) (words : List (List ℕ)) → AsFar bytes rest words → after_blanks rest ≡ [] → ReadsWords words bytes
reads_whole bytes rest words far e = let at : List (List ℕ) → Type 0 = λ w. ReadsWords w bytes in subst at (append-nil words) (far.reads [] e)

-- what is behind a quoted text is shorter
pub quoted_shorter : (values bytes rest : List ℕ) → IsQuoted values bytes rest → length rest < length bytes
quoted_shorter values bytes rest h =
    let end = pieces_end values h.0 (34 ∷ rest) h.2 in
    omega (arith, ap length h.1, ap length end.1, length-append end.0 (34 ∷ rest))

-- a quoted text that the bytes begin with stands at their first place
pub quoted_from : (word bytes rest : List ℕ) → IsQuoted word bytes rest → ((values : List ℕ) (behind : ℕ) → IsQuotedAt bytes 0 values behind → ⊥) → ⊥
quoted_from word bytes rest h none_ =
    let end = pieces_end word h.0 (34 ∷ rest) h.2 in
    let front = 34 ∷ end.0 ++ 34 ∷ [] in
    let joined : bytes ≡ front ++ rest = h.1 ∙ (ap (λ r. 34 ∷ r) end.1 ∙ simp append_assoc) in
    let place = place_of bytes rest (front, joined) in
    let at : List ℕ → Type 0 = λ r. IsQuoted word bytes r in
    none_ word (length bytes - length rest) (omega arith, omega arith, subst at place h)

-- a word that begins with a quote is a quoted text
pub quoted_word : (word start rest : List ℕ) → IsQuoted word start rest → ReadsWord word start rest
quoted_word word [] rest h = absurd (omega (arith, ap length h.1))
quoted_word word (b ∷ bytes) rest h = inl h

pub word_quoted : (word start rest : List ℕ) → get_or start 0 0 ≡ 34 → ReadsWord word start rest → IsQuoted word start rest
word_quoted word [] rest e h = absurd h
word_quoted word (b ∷ bytes) rest e (inl h) = h
word_quoted word (b ∷ bytes) rest e (inr h) = absurd (h.0 e)

-- where there is no piece, there is no plain word
pub none_plain : (values : List ℕ) (bytes rest : List ℕ) → ReadsPlain values bytes rest → plain_piece rest ≡ None → length values ≡ 0 → (word behind : List ℕ) → 0 < length word → ReadsPlain word bytes behind → IsWordEnd behind → ⊥
none_plain values bytes rest h stop e word behind some k last =
    let same = plain_stop values word bytes rest behind h stop k (end_no_piece behind last) in
    omega (arith, ap length same.0)

-- what a reader answers where the line has words
pub answers_words : (line : List ℕ) (w : List (List ℕ)) (r : Result (List (List ℕ)) WordsError) → IfOk r (λ read. HasWords line read) → IfErr r (λ error. IsErrorOf line error) → HasWords line w → MatchResult r (λ read. read ≡ w) (λ error. error ≡ NoMemory)
answers_words line w (Ok v) a b h = words_same v w line a.1 h.1
answers_words line w (Err NoMemory) a b h = refl
answers_words line w (Err Syntax) a b h = absurd (b w h)
