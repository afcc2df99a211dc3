-- How a text is cut at LF and at blanks.
use Rattle.std.proofs.Common.{◌≡◌, ◌≢◌, ℕ, zero, suc, ◌+◌, ◌<◌, ◌≤◌, List, [], ◌∷◌, ◌++◌, length, get_or, take, drop, sym, ap, ◌∙◌, subst, refl, arith, true, false, eqb, ◌-◌}
use Rattle.std.specs.List.{AllByRecursion}
use Rattle.std.proofs.lemmas.Bool.Decides.{eqb_tells}
use Rattle.std.proofs.lemmas.List.{drop_more, take_rest, take-append-drop}
use Rattle.session_text.specs.Lines.{text_line, lines_of, onto, without_cr}
use mathlib.Core.Logic.{inl, inr}

-- none of the bytes is this one
abbrev pub Lacks : ℕ → List ℕ → Type 0
Lacks byte text = AllByRecursion (λ b. b ≢ byte) text

pub lacks_front : (byte : ℕ) (text : List ℕ) (n : ℕ) → n ≤ length text → ((k : ℕ) → k < n → get_or text k 0 ≡ byte → ⊥) → Lacks byte (take n text)
lacks_front byte [] zero h no_ = tt
lacks_front byte [] (suc n) h no_ = tt
lacks_front byte (b ∷ text) zero h no_ = tt
lacks_front byte (b ∷ text) (suc n) h no_ = (no_ 0 (omega arith), lacks_front byte text n (omega arith) (λ k l. no_ (suc k) (omega arith)))

pub lacks_whole : (byte : ℕ) (text : List ℕ) (n : ℕ) → length text ≤ n → ((k : ℕ) → k < n → get_or text k 0 ≡ byte → ⊥) → Lacks byte text
lacks_whole byte [] n h no_ = tt
lacks_whole byte (b ∷ text) zero h no_ = absurd (omega arith)
lacks_whole byte (b ∷ text) (suc n) h no_ = (no_ 0 (omega arith), lacks_whole byte text n (omega arith) (λ k l. no_ (suc k) (omega arith)))

not_eqb : (b c : ℕ) → b ≢ c → eqb b c ≡ false
not_eqb b c h = elim (eqb_tells b c) [ inl k ↦ absurd (h k.1) | inr k ↦ k.0 ]

-- a line up to its LF
pub lines_ended : (body rest : List ℕ) → Lacks 10 body → lines_of (body ++ 10 ∷ rest) ≡ text_line body true ∷ lines_of rest
lines_ended [] rest h = refl
lines_ended (b ∷ body) rest h =
    let e = not_eqb b 10 h.0 in
    rw e (ap (onto b) (lines_ended body rest h.1))

-- a last line without LF
pub lines_last : (first : ℕ) (body : List ℕ) → Lacks 10 (first ∷ body) → lines_of (first ∷ body) ≡ text_line (first ∷ body) false ∷ []
lines_last first [] h = let e = not_eqb first 10 h.0 in rw e refl
lines_last first (b ∷ body) h =
    let e = not_eqb first 10 h.0 in
    rw e (ap (onto first) (lines_last b body h.1))

pub lines_last_some : (text : List ℕ) → 0 < length text → Lacks 10 text → lines_of text ≡ text_line text false ∷ []
lines_last_some [] some h = absurd (omega arith)
lines_last_some (b ∷ text) some h = lines_last b text h

-- the CR at the end is dropped
pub cr_dropped : (text : List ℕ) (n : ℕ) → length text ≡ n + 1 → get_or text n 0 ≡ 13 → without_cr text ≡ take n text
cr_dropped [] n e h = absurd (omega arith)
cr_dropped (b ∷ []) zero e h = rw h refl
cr_dropped (b ∷ []) (suc n) e h = absurd (omega arith)
cr_dropped (b ∷ c ∷ text) zero e h = absurd (omega arith)
cr_dropped (b ∷ c ∷ text) (suc n) e h = ap (λ r. b ∷ r) (cr_dropped (c ∷ text) n (omega arith) h)

pub cr_kept : (text : List ℕ) (n : ℕ) → length text ≡ n + 1 → (get_or text n 0 ≡ 13 → ⊥) → without_cr text ≡ text
cr_kept [] n e h = refl
cr_kept (b ∷ []) zero e h = let k = not_eqb b 13 h in rw k refl
cr_kept (b ∷ []) (suc n) e h = absurd (omega arith)
cr_kept (b ∷ c ∷ text) zero e h = absurd (omega arith)
cr_kept (b ∷ c ∷ text) (suc n) e h = ap (λ r. b ∷ r) (cr_kept (c ∷ text) n (omega arith) h)

-- a blank ends the first word
pub words_same : (v w a b : List ℕ) → Lacks 32 v → Lacks 32 w → v ++ 32 ∷ a ≡ w ++ 32 ∷ b → (v ≡ w) × (a ≡ b)
words_same [] [] a b h k e = let t : a ≡ b = cc in (refl, t)
words_same [] (d ∷ w) a b h k e = let t : 32 ≡ d = cc in absurd (k.0 (sym t))
words_same (c ∷ v) [] a b h k e = let t : c ≡ 32 = cc in absurd (h.0 t)
words_same (c ∷ v) (d ∷ w) a b h k e =
    let heads : c ≡ d = cc in
    let tails : v ++ 32 ∷ a ≡ w ++ 32 ∷ b = cc in
    let r = words_same v w a b h.1 k.1 tails in
    let r0 = r.0 in
    (cc, r.1)

pub word_alone : (v w a : List ℕ) → Lacks 32 v → v ≡ w ++ 32 ∷ a → ⊥
word_alone v [] a h e = let at : List ℕ → Type 0 = λ r. Lacks 32 r in let k : Lacks 32 (32 ∷ a) = subst at e h in k.0 refl
word_alone [] (d ∷ w) a h e = cc
word_alone (c ∷ v) (d ∷ w) a h e = let tails : v ≡ w ++ 32 ∷ a = cc in word_alone v w a h.1 tails

-- a text is what is before a byte, the byte, and what is behind it
pub cut_at : (byte : ℕ) (text : List ℕ) (i : ℕ) → i < length text → get_or text i 0 ≡ byte → text ≡ take i text ++ byte ∷ take (length text - (i + 1)) (drop (i + 1) text)
cut_at byte text i h e =
    let k : drop i text ≡ get_or text i 0 ∷ drop (i + 1) text = drop_more text i 0 h in
    let rest : drop (i + 1) text ≡ take (length text - (i + 1)) (drop (i + 1) text) = sym (take_rest text (i + 1)) in
    sym (take-append-drop i text) ∙ ap (λ r. take i text ++ r) (k ∙ (ap (λ b. b ∷ drop (i + 1) text) e ∙ ap (λ r. byte ∷ r) rest))

pub next_ended : (text : List ℕ) (i : ℕ) → i < length text → get_or text i 0 ≡ 10 → ((k : ℕ) → k < i → get_or text k 0 ≡ 10 → ⊥) → lines_of text ≡ text_line (take i text) true ∷ lines_of (take (length text - (i + 1)) (drop (i + 1) text))
next_ended text i h e before =
    ap lines_of (cut_at 10 text i h e) ∙ lines_ended (take i text) (take (length text - (i + 1)) (drop (i + 1) text)) (lacks_front 10 text i (omega arith) before)
