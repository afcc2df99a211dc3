-- A text has at most one reading, and none where it has a fault.
use Rattle.std.proofs.Common.{◌≡◌, ℕ, zero, suc, ◌+◌, ◌≤◌, ◌<◌, List, [], ◌∷◌, ◌++◌, length, take, drop, refl, arith, sym, ◌∙◌, subst, append_assoc, append-nil, eqb-true, inl, inr}
use Rattle.std.specs.Prelude.{Option, Some, None, true, false, ◌⊎◌, ◌==◌}
use Rattle.std.proofs.Math.Decide.{dec_lt}
use Rattle.std.proofs.Math.Logic.{dite}
use Rattle.units.proofs.Splits.{duration_same}
use Rattle.vcl_tree.specs.declared.token.Token.{Token}
use Rattle.vcl_tree.specs.declared.token.TokenKind.{TokenKind}
use Rattle.vcl_tokens.specs.declared.spelling.Form.{Form}
use Rattle.vcl_tokens.specs.declared.spelling.Form.TheVariants as form
use Rattle.vcl_tokens.specs.Spelling.{IsNoPiece}
use Rattle.vcl_tokens.specs.Steps.{form_of}
use Rattle.vcl_tokens.proofs.Spelled.{complete, one_spelling}
use Rattle.vcl_tokens.specs.Reading.{IsLongest, Means, is_passed_over, Reads, ended, passed, one_more, Faults, begins_none, is_wrong, behind, IsPiece, with_token}

-- a piece has a byte at least
pub positive : {text : List ℕ} {n : ℕ} {f : Form} → IsLongest text n f → 0 < n
positive {text} {n} {f} h = elim n as (λ n. form_of (take n text) ≡ Some f → 0 < n) [ zero ↦ λ e. absurd cc | suc k ↦ λ e. omega arith ] (complete f (take n text) (h.spelled))

one_length : {text : List ℕ} {n m : ℕ} {f g : Form} → IsLongest text n f → IsLongest text m g → n ≡ m
one_length {text} {n} {m} {f} {g} h k =
    dite (dec_lt n m) (λ p. absurd (h.longest m p (k.within) g (k.spelled)))
    (λ p. dite (dec_lt m n) (λ q. absurd (k.longest n q (h.within) f (h.spelled))) (λ q. omega arith))

one_form : {text : List ℕ} {n m : ℕ} {f g : Form} → IsLongest text n f → IsLongest text m g → n ≡ m → f ≡ g
one_form {text} {n} {m} {f} {g} h k e = one_spelling f g (take m text) (rw e at h.spelled) (k.spelled)

one_token : (f : Form) (bytes : List ℕ) (x y : TokenKind) → Means f bytes x → Means f bytes y → x ≡ y
one_token form.Blank bytes x y h k = absurd h
one_token form.Comment bytes x y h k = absurd h
one_token form.Name bytes x y h k = h ∙ sym k
one_token form.Integer bytes x y h k = h.2 ∙ sym (k.2)
one_token form.Decimal bytes x y h k = h ∙ sym k
one_token form.Duration bytes x y h k = let e = duration_same bytes (h.0) (k.0) (h.1) (k.1) in h.2 ∙ (rw e (sym (k.2)))
one_token form.Quoted bytes x y h k = h.1 ∙ sym (k.1)
one_token form.LongQuoted bytes x y h k = h.1 ∙ sym (k.1)
one_token form.TripleQuoted bytes x y h k = h.1 ∙ sym (k.1)
one_token (form.Sign s) bytes x y h k = h ∙ sym k
one_token form.Unended bytes x y h k = absurd h

not_both : (f : Form) (bytes : List ℕ) (x : TokenKind) → is_passed_over f ≡ true → Means f bytes x → ⊥
not_both form.Blank bytes x h k = k
not_both form.Comment bytes x h k = k
not_both form.Name bytes x h k = cc
not_both form.Integer bytes x h k = cc
not_both form.Decimal bytes x h k = cc
not_both form.Duration bytes x h k = cc
not_both form.Quoted bytes x h k = cc
not_both form.LongQuoted bytes x h k = cc
not_both form.TripleQuoted bytes x h k = cc
not_both (form.Sign s) bytes x h k = cc
not_both form.Unended bytes x h k = k

-- nothing is the longest piece of no text
empty : {text : List ℕ} {n : ℕ} {f : Form} → IsLongest text n f → text ≡ [] → ⊥
empty {text} {n} h e = let p = positive h in let w = h.within in let z : n ≤ 0 = rw e at w in omega arith

-- equal places and rests behind two longest pieces of one text
places : {p q : ℕ} {text rest : List ℕ} {n m : ℕ} {f g : Form} → IsLongest text n f → IsLongest rest m g → p ≡ q → text ≡ rest → p + n ≡ q + m
places {p} {q} {text} {rest} {n} {m} {f} {g} h k e d = let hh : IsLongest rest n f = subst (λ t. IsLongest t n f) d h in let i = one_length hh k in omega arith

rests : {text rest : List ℕ} {n m : ℕ} {f g : Form} → IsLongest text n f → IsLongest rest m g → text ≡ rest → drop n text ≡ drop m rest
rests {text} {rest} {n} {m} {f} {g} h k d = let hh : IsLongest rest n f = subst (λ t. IsLongest t n f) d h in let i = one_length hh k in cc

forms : {text rest : List ℕ} {n m : ℕ} {f g : Form} → IsLongest text n f → IsLongest rest m g → text ≡ rest → f ≡ g
forms {text} {rest} {n} {m} {f} {g} h k d = let hh : IsLongest rest n f = subst (λ t. IsLongest t n f) d h in one_form hh k (one_length hh k)

-- the meaning of the one piece of two equal texts
moved : {text rest : List ℕ} {n m : ℕ} {f g : Form} (x : TokenKind) → IsLongest text n f → IsLongest rest m g → text ≡ rest → Means f (take n text) x → Means g (take m rest) x
moved {text} {rest} {n} {m} {f} {g} x h k d means =
    let hh : IsLongest rest n f = subst (λ t. IsLongest t n f) d h in
    let a : Means f (take n rest) x = subst (λ t. Means f (take n t) x) d means in
    let b : Means f (take m rest) x = subst (λ i. Means f (take i rest) x) (one_length hh k) a in
    subst (λ i. Means i (take m rest) x) (one_form hh k (one_length hh k)) b

is_none : {text rest : List ℕ} {n m : ℕ} {f g : Form} → IsLongest text n f → IsLongest rest m g → is_passed_over f ≡ false → ((token : TokenKind) → Means f (take n text) token → ⊥) →
    (is_passed_over g ≡ true) ⊎ ((token : TokenKind) × Means g (take m rest) token) → text ≡ rest → ⊥
is_none l m o w (inl t) d = let i = forms l m d in cc
is_none l m o w (inr t) d = w (t.0) (moved _ m l (sym d) (t.1))

pub one : {p q : ℕ} {text rest : List ℕ} {a b : List Token} → Reads p text a → Reads q rest b → p ≡ q → text ≡ rest → a ≡ b
one ended ended e d = refl
one ended (passed l o r) e d = absurd (empty l (sym d))
one ended (one_more l o r) e d = absurd (empty l (sym d))
one (passed l o r) ended e d = absurd (empty l d)
one (passed l o r) (passed m t s) e d = one r s (places l m e d) (rests l m d)
one (passed l o r) (one_more m t s) e d = absurd (not_both _ _ _ (subst (λ f. is_passed_over f ≡ true) (forms l m d) o) t)
one (one_more l o r) ended e d = absurd (empty l d)
one (one_more l o r) (passed m t s) e d = absurd (not_both _ _ _ t (moved _ l m d o))
one (one_more l o r) (one_more m t s) e d = let i = one_token _ _ _ _ (moved _ l m d o) t in let j = one r s (places l m e d) (rests l m d) in cc

pub faultless : {p q last : ℕ} {text rest : List ℕ} {a : List Token} → Reads p text a → Faults q rest last → p ≡ q → text ≡ rest → ⊥
faultless ended (begins_none none) e d = cc
faultless ended (is_wrong m o w) e d = empty m (sym d)
faultless ended (behind m o s) e d = empty m (sym d)
faultless (passed l o r) (begins_none none) e d = let w = l.within in none _ (rw d at w) _ (rw d at l.spelled)
faultless (passed l o r) (is_wrong m t w) e d = let i = forms l m d in cc
faultless (passed l o r) (behind m t s) e d = faultless r s (places l m e d) (rests l m d)
faultless (one_more l o r) (begins_none none) e d = let w = l.within in none _ (rw d at w) _ (rw d at l.spelled)
faultless (one_more l o r) (is_wrong m t w) e d = w _ (moved _ l m d o)
faultless (one_more l o r) (behind m t s) e d = faultless r s (places l m e d) (rests l m d)

pub one_fault : {p q a b : ℕ} {text rest : List ℕ} → Faults p text a → Faults q rest b → p ≡ q → text ≡ rest → a ≡ b
one_fault (begins_none none) (begins_none more) e d = e
one_fault (begins_none none) (is_wrong m o w) e d = let k = m.within in absurd (none _ (rw (← d) at k) _ (rw (← d) at m.spelled))
one_fault (begins_none none) (behind m o s) e d = let k = m.within in absurd (none _ (rw (← d) at k) _ (rw (← d) at m.spelled))
one_fault (is_wrong l o w) (begins_none none) e d = let k = l.within in absurd (none _ (rw d at k) _ (rw d at l.spelled))
one_fault (is_wrong l o w) (is_wrong m t v) e d = e
one_fault (is_wrong l o w) (behind m t s) e d = absurd (is_none l m o w t d)
one_fault (behind l t r) (begins_none none) e d = let k = l.within in absurd (none _ (rw d at k) _ (rw d at l.spelled))
one_fault (behind l t r) (is_wrong m o w) e d = absurd (is_none m l o w t (sym d))
one_fault (behind l t r) (behind m o s) e d = one_fault r s (places l m e d) (rests l m d)

-- what a loop over the pieces keeps
pub read_on : (place : ℕ) (text : List ℕ) (n : ℕ) (token : Option TokenKind) (front tokens : List Token) → IsPiece text n token →
    Reads (place + n) (drop n text) tokens → (rest : List Token) × Reads place text rest × (front ++ rest ≡ with_token front token place ++ tokens)
read_on place text n None front tokens piece r = (tokens, passed (piece.whole) (piece.meaning) r, refl)
read_on place text n (Some t) front tokens piece r = (record { kind = t; place = place } ∷ tokens, one_more (piece.whole) (piece.meaning) r, sym (append_assoc front (record { kind = t; place = place } ∷ []) tokens))

pub fault_on : (place : ℕ) (text : List ℕ) (n : ℕ) (token : Option TokenKind) (last : ℕ) → IsPiece text n token →
    Faults (place + n) (drop n text) last → Faults place text last
fault_on place text n None last piece r = behind (piece.whole) (inl (piece.meaning)) r
fault_on place text n (Some t) last piece r = behind (piece.whole) (inr (t, piece.meaning)) r

-- the same with what the loop has
pub reads_on : (bytes : List ℕ) (place : ℕ) (text rest : List ℕ) (n : ℕ) (token : Option TokenKind) (front longer tokens : List Token) → IsPiece text n token →
    rest ≡ drop n text → longer ≡ with_token front token place → ((later : List Token) → Reads place text later → Reads 0 bytes (front ++ later)) →
    Reads (place + n) rest tokens → Reads 0 bytes (longer ++ tokens)
reads_on bytes place text rest n token front longer tokens piece e d kept r =
    let later = read_on place text n token front tokens piece (rw e at r) in
    let P : List Token → Type 0 = λ xs. Reads 0 bytes xs in
    rw d (subst P (later.2) (kept (later.0) (later.1)))

-- no piece begins with any byte of a text that has one
pub none_begins : (place : ℕ) (text : List ℕ) → 0 < length text → ((m : ℕ) → m ≤ length text → IsNoPiece (take m text)) → Faults place text place
none_begins place [] h none = absurd (omega arith)
none_begins place (b ∷ text) h none = begins_none none

no_zero : (n : ℕ) → (suc n == 0) ≡ true → ⊥
no_zero n h = let e : suc n ≡ 0 = eqb-true (suc n) 0 h in omega arith

-- what the loop has at the end of the text
pub read_to_end : (bytes : List ℕ) (place : ℕ) (text : List ℕ) (front : List Token) → true ≡ (length text == 0) → ((later : List Token) → Reads place text later → Reads 0 bytes (front ++ later)) → Reads 0 bytes front
read_to_end bytes place [] front h kept = let P : List Token → Type 0 = λ xs. Reads 0 bytes xs in subst P (append-nil front) (kept [] ended)
read_to_end bytes place (b ∷ text) front h kept = absurd (no_zero (length text) (sym h))
