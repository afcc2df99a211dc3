-- Words that are written are read again.
use Rattle.std.proofs.Common.{◌≡◌, ◌≢◌, ℕ, ◌≤◌, List, [], ◌∷◌, ◌++◌, length, sym, ap, ◌∙◌, subst, refl, arith, Bool, true, false, cond, eqb, eq-eqb, append_assoc, append-nil}
use Rattle.std.specs.Prelude.{Some, ◌||◌, Result, Ok, Err, IfOk}
use Rattle.std.specs.List.{list_any, AllByRecursion}
use mathlib.Core.Logic.{inl, inr}
use Rattle.std.proofs.lemmas.Bool.{false≢true}
use Rattle.std.proofs.lemmas.Bool.Decides.{eqb_tells}
use Rattle.units.specs.Quoted.{quote_of}
use Rattle.units.proofs.Pieces.{quote_back}
use Rattle.cli_words.specs.Words.{is_blank, is_special, after_blanks, plain_piece, ReadsPlain, IsWordEnd, ReadsWord, ReadsWords, word_text, words_text, IsBytes, HasWords}

or_parts : (a b : Bool) → a || b ≡ false → (a ≡ false) × (b ≡ false)
or_parts true b h = absurd (false≢true (sym h))
or_parts false b h = (refl, h)

not_eqb : (b c : ℕ) → b ≢ c → eqb b c ≡ false
not_eqb b c h = elim (eqb_tells b c) [ inl k ↦ absurd (h k.1) | inr k ↦ k.0 ]

-- a byte that isn't special
record Plain (b : ℕ) : Type 0 where
  blank : is_blank b ≡ false
  quote : eqb b 34 ≡ false
  slash : eqb b 92 ≡ false

plain_byte : (b : ℕ) → is_special b ≡ false → Plain b
plain_byte b h =
    let s = or_parts _ (eqb b 92) h in
    let q = or_parts _ (eqb b 34) s.0 in
    let l = or_parts _ (eqb b 10) q.0 in
    let c = or_parts _ (eqb b 13) l.0 in
    record { blank = c.0; quote = q.1; slash = s.1 }

plain_piece_of : (b : ℕ) (rest : List ℕ) → Plain b → plain_piece (b ∷ rest) ≡ Some (b, rest)
plain_piece_of b rest p = let e = p.slash in let f = p.blank in rw (e, f) refl

plain_back : (word rest : List ℕ) → list_any is_special word ≡ false → ReadsPlain word (word ++ rest) rest
plain_back [] rest h = refl
plain_back (b ∷ word) rest h =
    let k = or_parts (is_special b) (list_any is_special word) h in
    (word ++ rest, plain_piece_of b (word ++ rest) (plain_byte b k.0), plain_back word rest k.1)

-- a word that is written stands before what follows, and no blank goes before it
abbrev Stands : List ℕ → List ℕ → List ℕ → Type 0
Stands word text rest = (after_blanks (text ++ rest) ≡ text ++ rest) × ReadsWord word (text ++ rest) rest

quoted_stands : (word rest : List ℕ) → IsBytes word → Stands word (quote_of word) rest
quoted_stands word rest bytes = (refl, inl (quote_back word rest bytes))

plain_stands : (b : ℕ) (word rest : List ℕ) → list_any is_special (b ∷ word) ≡ false → IsWordEnd rest → Stands (b ∷ word) (b ∷ word) rest
plain_stands b word rest h end =
    let k = or_parts (is_special b) (list_any is_special word) h in
    let p = plain_byte b k.0 in
    let blank = p.blank in
    (rw blank refl, inr (λ e. false≢true (sym p.quote ∙ eq-eqb b 34 e), omega arith, plain_back (b ∷ word) rest h, end))

chosen_stands : (b : ℕ) (word rest : List ℕ) (t : Bool) → list_any is_special (b ∷ word) ≡ t → IsBytes (b ∷ word) → IsWordEnd rest → Stands (b ∷ word) (cond t (quote_of (b ∷ word)) (b ∷ word)) rest
chosen_stands b word rest true e bytes end = quoted_stands (b ∷ word) rest bytes
chosen_stands b word rest false e bytes end = plain_stands b word rest e end

word_stands : (word rest : List ℕ) → IsBytes word → IsWordEnd rest → Stands word (word_text word) rest
word_stands [] rest bytes end = quoted_stands [] rest bytes
word_stands (b ∷ word) rest bytes end =
    let e : eqb (length (b ∷ word)) 0 ≡ false = not_eqb (length (b ∷ word)) 0 (λ z. omega arith) in
    let at : Bool → Type 0 = λ z. Stands (b ∷ word) (cond (z || list_any is_special (b ∷ word)) (quote_of (b ∷ word)) (b ∷ word)) rest in
    subst at (sym e) (chosen_stands b word rest (list_any is_special (b ∷ word)) refl bytes end)

-- the first word of a line
first_back : (word : List ℕ) (words : List (List ℕ)) (rest : List ℕ) → IsBytes word → IsWordEnd rest → ReadsWords words rest → ReadsWords (word ∷ words) (word_text word ++ rest)
first_back word words rest bytes end more =
    let s = word_stands word rest bytes end in
    let at : List ℕ → Type 0 = λ r. ReadsWord word r rest in
    (rest, subst at (sym s.0) s.1, more)

spaced : (word : List ℕ) (words : List (List ℕ)) (text : List ℕ) → ReadsWords (word ∷ words) text → ReadsWords (word ∷ words) (32 ∷ text)
spaced word words text h = h

pub words_back : (words : List (List ℕ)) → AllByRecursion IsBytes words → ReadsWords words (words_text words)
words_back [] all = refl
words_back (word ∷ []) all =
    let at : List ℕ → Type 0 = λ t. ReadsWords (word ∷ []) t in
    subst at (append-nil (word_text word)) (first_back word [] [] all.0 tt refl)
words_back (word ∷ next ∷ words) all =
    first_back word (next ∷ words) (32 ∷ words_text (next ∷ words)) all.0 refl (spaced next words (words_text (next ∷ words)) (words_back (next ∷ words) all.1))

-- one more word
pub text_push : (first : List ℕ) (words : List (List ℕ)) (word : List ℕ) → words_text (first ∷ (words ++ word ∷ [])) ≡ words_text (first ∷ words) ++ 32 ∷ word_text word
text_push first [] word = refl
text_push first (next ∷ words) word =
    ap (λ t. word_text first ++ 32 ∷ t) (text_push next words word) ∙ sym (append_assoc (word_text first) (32 ∷ words_text (next ∷ words)) (32 ∷ word_text word))

pub all_push : (words : List (List ℕ)) (word : List ℕ) → AllByRecursion IsBytes words → IsBytes word → AllByRecursion IsBytes (words ++ word ∷ [])
all_push [] word all here = (here, tt)
all_push (w ∷ words) word all here = (all.0, all_push words word all.1 here)

-- a line that was written is read again
pub written_ok : {E : Type 0} (r : Result (List ℕ) E) (bytes : List ℕ) (words : List (List ℕ)) → IfOk r (λ t. t ≡ bytes) → bytes ≡ words_text words → AllByRecursion IsBytes words → IfOk r (λ line. ReadsWords words line)
written_ok (Ok t) bytes words e f all = let at : List ℕ → Type 0 = λ x. ReadsWords words x in subst at (sym (e ∙ f)) (words_back words all)
written_ok (Err x) bytes words e f all = tt

pub written_words : {E : Type 0} (r : Result (List ℕ) E) (words : List (List ℕ)) (first : List ℕ) (rest : List (List ℕ)) → words ≡ first ∷ rest → IfOk r (λ line. ReadsWords (first ∷ rest) line) → IfOk r (λ line. length line ≤ 1048576 → HasWords line words)
written_words (Ok t) words first rest e h = λ short. (short, let at : List (List ℕ) → Type 0 = λ w. ReadsWords w t in subst at (sym e) h)
written_words (Err x) words first rest e h = tt
