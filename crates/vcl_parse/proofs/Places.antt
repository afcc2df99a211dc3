-- Where the reading of single tokens stops, and what it has read till there.
use Rattle.std.proofs.Common.{◌≡◌, ℕ, zero, suc, pred, ◌≤◌, ◌<◌, List, [], ◌∷◌, ◌++◌, length, refl, ap, subst, ◌∙◌, sym}
use Rattle.std.proofs.Common.{arith}
use Rattle.std.specs.Prelude.{Bool, true, false, ◌&&◌, max, nat_le, Option, Some, None, if◌then◌else◌}
use Rattle.std.proofs.lemmas.Bool.{leb-true, leb-false}
use Rattle.vcl_tree.specs.Phrase.{Phrase}
use Rattle.vcl_tree.specs.Nesting.{opens, closes, level, deepest}
use Rattle.vcl_tree.specs.declared.token.Token.{Token}
use Rattle.vcl_parse.specs.Machine.{Want, Take, AnyName, NewName, Number, Read, Go, Join, Config, Outcome, Accepted, Refused, Deep, step, ends, join, moved, watch}
use Rattle.vcl_parse.proofs.Running.{run}
use Rattle.vcl_parse.proofs.Keeping.{Keeps}
use Rattle.vcl_parse.proofs.Kept.{kept}
use Rattle.vcl_parse.proofs.Meaning.{Stack, stack_of, Sem}

abbrev pub Reaches : List Want → List Phrase → List Token → Config → Type 0
Reaches s vs [] c = c ≡ (s, vs)
Reaches s vs (x ∷ xs) c = (d : Config) × (step s vs x ≡ Some d) × Reaches (d.0) (d.1) xs c

pub run_over : (front : List Token) (s : List Want) (vs : List Phrase) (c : Config) (behind : List Token) → Reaches s vs front c → run s vs (front ++ behind) ≡ run (c.0) (c.1) behind
run_over [] s vs c behind h = rw h refl
run_over (x ∷ front) s vs c behind h = ap (λ o. moved (length (x ∷ front ++ behind)) false o (λ d. run (d.0) (d.1) (front ++ behind))) (h.1) ∙ run_over front (h.0.0) (h.0.1) c behind (h.2)

pub means_over : (front : List Token) (s : List Want) (vs : List Phrase) (c : Config) (rest : List Token) (last : Stack) → Reaches s vs front c →
    Sem (c.0) (stack_of (c.1)) rest last → Sem s (stack_of vs) (front ++ rest) last
means_over [] s vs c rest last h m = subst (λ d. Sem (d.0) (stack_of (d.1)) rest last) h m
means_over (x ∷ front) s vs c rest last h m =
    subst (λ o. Keeps (Sem s (stack_of vs) (x ∷ front ++ rest) last) (front ++ rest) last o) (h.1) (kept s vs x (front ++ rest) last) (means_over front (h.0.0) (h.0.1) c rest last (h.2) m)

-- no token goes on from here
abbrev pub IsStuck : Config → List Token → Type 0
IsStuck c [] = (ws : List Phrase) → ends (c.0) (c.1) ≡ Accepted ws → ⊥
IsStuck c (x ∷ behind) = step (c.0) (c.1) x ≡ None

-- what an outcome tells
abbrev pub Explained : Outcome → ℕ → List Want → List Phrase → List Token → Type 0
Explained (Accepted ws) d s vs ts = (c : Config) × Reaches s vs ts c × (ends (c.0) (c.1) ≡ Accepted ws) × (deepest d ts ≤ 64)
Explained (Refused left) d s vs ts =
    (front : List Token) × (behind : List Token) × (c : Config) × (ts ≡ front ++ behind) × (left ≡ length behind) × Reaches s vs front c × IsStuck c behind × (deepest d front ≤ 64)
Explained (Deep left) d s vs ts =
    (front : List Token) × (behind : List Token) × (x : Token) × (c : Config) × (ts ≡ front ++ x ∷ behind) × (left ≡ length (x ∷ behind)) × Reaches s vs (front ++ x ∷ []) c × (deepest d front ≤ 64) × (64 < deepest d (front ++ x ∷ []))

within : (d n : ℕ) → d ≤ 64 → n ≤ 64 → max d n ≤ 64
within d n h k = omega (arith, h, k)

over : (d n : ℕ) → 64 < n → 64 < max d n
over d n h = omega (arith, h)

one_more : (o : Outcome) (d : ℕ) (s : List Want) (vs : List Phrase) (x : Token) (c : Config) (ts : List Token) → step s vs x ≡ Some c → d ≤ 64 →
    Explained o (level d x) (c.0) (c.1) ts → Explained o d s vs (x ∷ ts)
one_more (Accepted ws) d s vs x c ts e le h = (h.0, (c, e, h.1), h.2, within d _ le (h.3))
one_more (Refused left) d s vs x c ts e le h = (x ∷ h.0, h.1, h.2, ap (λ l. x ∷ l) (h.3), h.4, (c, e, h.5), h.6, within d _ le (h.7))
one_more (Deep left) d s vs x c ts e le h = (x ∷ h.0, h.1, h.2, h.3, ap (λ l. x ∷ l) (h.4), h.5, (c, e, h.6), within d _ le (h.7), over d _ (h.8))

deep_level : (a b : Bool) (d : ℕ) → (a && nat_le 64 d) ≡ true → 64 < max d (if a then suc d else (if b then pred d else d))
deep_level true b d e = omega (arith, leb-true 64 d e)
deep_level false b d e = cc

pred_within : (d : ℕ) → d ≤ 64 → pred d ≤ 64
pred_within zero le = le
pred_within (suc d) le = omega (arith, le)

flat_level : (a b : Bool) (d : ℕ) → (a && nat_le 64 d) ≡ false → d ≤ 64 → (if a then suc d else (if b then pred d else d)) ≤ 64
flat_level true b d e le = omega (arith, leb-false 64 d e)
flat_level false true d e le = pred_within d le
flat_level false false d e le = le

at_token : (o : Option Config) (b : Bool) (d : ℕ) (s : List Want) (vs : List Phrase) (x : Token) (ts : List Token) → step s vs x ≡ o → (opens x && nat_le 64 d) ≡ b → d ≤ 64 →
    ((c : Config) → level d x ≤ 64 → Explained (watch (level d x) (c.0) (c.1) ts) (level d x) (c.0) (c.1) ts) →
    Explained (moved (length (x ∷ ts)) b o (λ c. watch (level d x) (c.0) (c.1) ts)) d s vs (x ∷ ts)
at_token None b d s vs x ts e f le k = ([], x ∷ ts, (s, vs), refl, refl, refl, e, le)
at_token (Some c) true d s vs x ts e f le k = ([], ts, x, c, refl, refl, (c, e, refl), le, deep_level (opens x) (closes x) d f)
at_token (Some c) false d s vs x ts e f le k = one_more (watch (level d x) (c.0) (c.1) ts) d s vs x c ts e le (k c (flat_level (opens x) (closes x) d f le))

left_at_end : (s : List Want) (vs : List Phrase) (left : ℕ) → ends s vs ≡ Refused left → left ≡ 0
left_at_end [] vs left e = cc
left_at_end (Take t ∷ s) vs left e = cc
left_at_end (AnyName ∷ s) vs left e = cc
left_at_end (NewName ∷ s) vs left e = cc
left_at_end (Number ∷ s) vs left e = cc
left_at_end (Read part ∷ s) vs left e = cc
left_at_end (Go tail ∷ s) vs left e = left_at_end s vs left e
left_at_end (Join l ∷ s) vs left e = left_at_end s (join l vs) left e

not_deep_at_end : (s : List Want) (vs : List Phrase) (left : ℕ) → ends s vs ≡ Deep left → ⊥
not_deep_at_end [] vs left e = cc
not_deep_at_end (Take t ∷ s) vs left e = cc
not_deep_at_end (AnyName ∷ s) vs left e = cc
not_deep_at_end (NewName ∷ s) vs left e = cc
not_deep_at_end (Number ∷ s) vs left e = cc
not_deep_at_end (Read part ∷ s) vs left e = cc
not_deep_at_end (Go tail ∷ s) vs left e = not_deep_at_end s vs left e
not_deep_at_end (Join l ∷ s) vs left e = not_deep_at_end s (join l vs) left e

at_end : (o : Outcome) (d : ℕ) (s : List Want) (vs : List Phrase) → ends s vs ≡ o → d ≤ 64 → Explained o d s vs []
at_end (Accepted ws) d s vs e le = ((s, vs), refl, e, le)
at_end (Refused left) d s vs e le = ([], [], (s, vs), refl, left_at_end s vs left e, refl, (λ ws f. let g : Refused left ≡ Accepted ws = sym e ∙ f in cc), le)
at_end (Deep left) d s vs e le = absurd (not_deep_at_end s vs left e)

pub explained : (ts : List Token) (d : ℕ) (s : List Want) (vs : List Phrase) → d ≤ 64 → Explained (watch d s vs ts) d s vs ts
explained [] d s vs le = at_end (ends s vs) d s vs refl le
explained (x ∷ ts) d s vs le = at_token (step s vs x) (opens x && nat_le 64 d) d s vs x ts refl refl le (λ c. explained ts (level d x) (c.0) (c.1))
