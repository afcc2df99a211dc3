-- What is read byte by byte up to a mark.
use Rattle.std.proofs.Common.{◌≡◌, ℕ, List, [], ◌∷◌, Bool, true, false, Option, Some, None, refl, sym, ◌∙◌, ap, inl, inr, ◌⊎◌, eqb-true}
use Rattle.std.specs.Prelude.{◌==◌, not, if◌then◌else◌}
use Rattle.std.specs.Option.{option_and_then}
use Rattle.vcl_tokens.specs.declared.spelling.Form.{Form}
use Rattle.vcl_tokens.specs.declared.spelling.Form.TheVariants as form
use Rattle.vcl_tokens.specs.declared.spelling.State.{State}
use Rattle.vcl_tokens.specs.declared.spelling.State.TheVariants as state
use Rattle.vcl_tokens.specs.Marks.{has, has_at_end, without_last}
use Rattle.vcl_tokens.specs.Steps.{form_at, next_state, form_behind}

-- what bytes are that go on to a mark: this form where it stands at their end, unended where it doesn't stand there
abbrev pub by_mark : Form → List ℕ → List ℕ → Option Form
by_mark f mark bytes = if has mark bytes then (if has mark (without_last bytes) then None else Some f) else Some form.Unended

-- a byte that isn't the mark's first
skip : (f : Form) (m b : ℕ) (mark bytes : List ℕ) → (b == m) ≡ false → by_mark f (m ∷ mark) (b ∷ bytes) ≡ by_mark f (m ∷ mark) bytes
skip f m b mark [] e = rw e refl
skip f m b mark (c ∷ bytes) e = rw e refl

-- the mark's first byte, and one that isn't its second
skip_two : (f : Form) (m n b : ℕ) (mark bytes : List ℕ) → (m == m) ≡ true → (b == n) ≡ false → by_mark f (m ∷ n ∷ mark) (m ∷ b ∷ bytes) ≡ by_mark f (m ∷ n ∷ mark) (b ∷ bytes)
skip_two f m n b mark [] same e = rw (same, e) refl
skip_two f m n b mark (c ∷ bytes) same e = rw (same, e) refl

-- a whole piece has no byte more
pub whole_behind : (f : Form) (bytes : List ℕ) (g : Form) → form_behind (state.Whole f) bytes ≡ Some g → (bytes ≡ []) × (g ≡ f)
whole_behind f [] g e = (refl, cc)
whole_behind f (b ∷ bytes) g e = absurd cc

whole_by_mark : (f : Form) (m n : ℕ) (bytes : List ℕ) → (m == m) ≡ true → (n == n) ≡ true → form_behind (state.Whole f) bytes ≡ by_mark f (m ∷ n ∷ []) (m ∷ n ∷ bytes)
whole_by_mark f m n [] same alike = rw (same, alike) refl
whole_by_mark f m n (b ∷ bytes) same alike = rw (same, alike) refl

-- A mark of two bytes that differ: behind no byte of it, and behind its first.
pub record GoesTo (f : Form) (m n : ℕ) (s t : State) : Type 0 where
  pub ends : form_at s ≡ Some form.Unended
  pub ends_behind : form_at t ≡ Some form.Unended
  pub first : (b : ℕ) → next_state s b ≡ (if b == m then Some t else Some s)
  pub second : (b : ℕ) → next_state t b ≡ (if b == n then Some (state.Whole f) else (if b == m then Some t else Some s))
  pub same : (m == m) ≡ true
  pub alike : (n == n) ≡ true

pub two_bytes : (f : Form) (m n : ℕ) (s t : State) → GoesTo f m n s t → (bytes : List ℕ) →
    (form_behind s bytes ≡ by_mark f (m ∷ n ∷ []) bytes) × (form_behind t bytes ≡ by_mark f (m ∷ n ∷ []) (m ∷ bytes))
two_bytes f m n s t g [] = (g.ends, g.ends_behind ∙ rw (g.same) refl)
two_bytes f m n s t g (b ∷ bytes) = let later = two_bytes f m n s t g bytes in (first later (b == m) refl, second later (b == n) refl (b == m) refl)
  where
    goes : (u v : State) → next_state u b ≡ Some v → form_behind u (b ∷ bytes) ≡ form_behind v bytes
    goes u v e = ap (option_and_then (λ w. form_behind w bytes)) e

    at_first : (b == m) ≡ true → by_mark f (m ∷ n ∷ []) (m ∷ bytes) ≡ by_mark f (m ∷ n ∷ []) (b ∷ bytes)
    at_first e = ap (λ x. by_mark f (m ∷ n ∷ []) (x ∷ bytes)) (sym (eqb-true b m e))

    first : (later : (form_behind s bytes ≡ by_mark f (m ∷ n ∷ []) bytes) × (form_behind t bytes ≡ by_mark f (m ∷ n ∷ []) (m ∷ bytes))) (test : Bool) → (b == m) ≡ test → form_behind s (b ∷ bytes) ≡ by_mark f (m ∷ n ∷ []) (b ∷ bytes)
    first later true e = let step : next_state s b ≡ Some t = g.first b ∙ ap (λ x. if x then Some t else Some s) e in goes s t step ∙ later.1 ∙ at_first e
    first later false e = let step : next_state s b ≡ Some s = g.first b ∙ ap (λ x. if x then Some t else Some s) e in goes s s step ∙ later.0 ∙ sym (skip f m b (n ∷ []) bytes e)

    choose : (test other : Bool) → (b == n) ≡ test → (b == m) ≡ other → next_state t b ≡ (if test then Some (state.Whole f) else (if other then Some t else Some s))
    choose test other e d = g.second b ∙ ap (λ x. if x then Some (state.Whole f) else (if b == m then Some t else Some s)) e ∙ ap (λ x. if test then Some (state.Whole f) else (if x then Some t else Some s)) d

    second : (later : (form_behind s bytes ≡ by_mark f (m ∷ n ∷ []) bytes) × (form_behind t bytes ≡ by_mark f (m ∷ n ∷ []) (m ∷ bytes))) (test : Bool) → (b == n) ≡ test → (other : Bool) → (b == m) ≡ other →
        form_behind t (b ∷ bytes) ≡ by_mark f (m ∷ n ∷ []) (m ∷ b ∷ bytes)
    second later true e other d = goes t (state.Whole f) (choose true other e d) ∙ whole_by_mark f m n bytes g.same g.alike ∙ ap (λ x. by_mark f (m ∷ n ∷ []) (m ∷ x ∷ bytes)) (sym (eqb-true b n e))
    second later false e true d = goes t t (choose false true e d) ∙ later.1 ∙ at_first d ∙ sym (skip_two f m n b [] bytes g.same e)
    second later false e false d = goes t s (choose false false e d) ∙ later.0 ∙ sym (skip f m b (n ∷ []) bytes d) ∙ sym (skip_two f m n b [] bytes g.same e)

pub block : (bytes : List ℕ) → form_behind state.BlockComment bytes ≡ by_mark form.Comment (42 ∷ 47 ∷ []) bytes
block bytes = (two_bytes form.Comment 42 47 state.BlockComment state.BlockCommentStar (record { ends = refl; ends_behind = refl; first = λ b. refl; second = λ b. refl; same = refl; alike = refl }) bytes).0

pub long : (bytes : List ℕ) → form_behind state.Long bytes ≡ by_mark form.LongQuoted (34 ∷ 125 ∷ []) bytes
long bytes = (two_bytes form.LongQuoted 34 125 state.Long state.LongQuote (record { ends = refl; ends_behind = refl; first = λ b. refl; second = λ b. refl; same = refl; alike = refl }) bytes).0

abbrev quotes : List ℕ
quotes = 34 ∷ 34 ∷ 34 ∷ []

one_quote : (b : ℕ) (bytes : List ℕ) → (b == 34) ≡ false → by_mark form.TripleQuoted quotes (34 ∷ b ∷ bytes) ≡ by_mark form.TripleQuoted quotes bytes
one_quote b [] e = rw e refl
one_quote b (c ∷ bytes) e = rw e refl

two_quotes : (b : ℕ) (bytes : List ℕ) → (b == 34) ≡ false → by_mark form.TripleQuoted quotes (34 ∷ 34 ∷ b ∷ bytes) ≡ by_mark form.TripleQuoted quotes bytes
two_quotes b [] e = rw e refl
two_quotes b (c ∷ bytes) e = rw e refl

three_quotes : (bytes : List ℕ) → form_behind (state.Whole form.TripleQuoted) bytes ≡ by_mark form.TripleQuoted quotes (34 ∷ 34 ∷ 34 ∷ bytes)
three_quotes [] = refl
three_quotes (b ∷ bytes) = refl

abbrev Triples : List ℕ → Type 0
Triples bytes =
    (form_behind state.Triple bytes ≡ by_mark form.TripleQuoted quotes bytes) × (form_behind state.TripleQuote bytes ≡ by_mark form.TripleQuoted quotes (34 ∷ bytes))
    × (form_behind state.TripleQuotes bytes ≡ by_mark form.TripleQuoted quotes (34 ∷ 34 ∷ bytes))

triples : (bytes : List ℕ) → Triples bytes
triples [] = (refl, refl, refl)
triples (b ∷ bytes) = let later = triples bytes in (first later (b == 34) refl, second later (b == 34) refl, third later (b == 34) refl)
  where
    step : (u v : State) (test : Bool) → (b == 34) ≡ test → ((c : ℕ) → next_state u c ≡ (if c == 34 then Some v else Some state.Triple)) →
        form_behind u (b ∷ bytes) ≡ option_and_then (λ w. form_behind w bytes) (if test then Some v else Some state.Triple)
    step u v test e next = ap (option_and_then (λ w. form_behind w bytes)) (next b ∙ ap (λ x. if x then Some v else Some state.Triple) e)

    at_quote : (front : List ℕ → List ℕ) → (b == 34) ≡ true → by_mark form.TripleQuoted quotes (front (34 ∷ bytes)) ≡ by_mark form.TripleQuoted quotes (front (b ∷ bytes))
    at_quote front e = ap (λ x. by_mark form.TripleQuoted quotes (front (x ∷ bytes))) (sym (eqb-true b 34 e))

    first : (later : Triples bytes) (test : Bool) → (b == 34) ≡ test → form_behind state.Triple (b ∷ bytes) ≡ by_mark form.TripleQuoted quotes (b ∷ bytes)
    first later true e = step state.Triple state.TripleQuote true e (λ c. refl) ∙ later.1 ∙ at_quote (λ x. x) e
    first later false e = step state.Triple state.TripleQuote false e (λ c. refl) ∙ later.0 ∙ sym (skip form.TripleQuoted 34 b (34 ∷ 34 ∷ []) bytes e)

    second : (later : Triples bytes) (test : Bool) → (b == 34) ≡ test → form_behind state.TripleQuote (b ∷ bytes) ≡ by_mark form.TripleQuoted quotes (34 ∷ b ∷ bytes)
    second later true e = step state.TripleQuote state.TripleQuotes true e (λ c. refl) ∙ later.2 ∙ at_quote (λ x. 34 ∷ x) e
    second later false e = step state.TripleQuote state.TripleQuotes false e (λ c. refl) ∙ later.0 ∙ sym (one_quote b bytes e)

    third : (later : Triples bytes) (test : Bool) → (b == 34) ≡ test → form_behind state.TripleQuotes (b ∷ bytes) ≡ by_mark form.TripleQuoted quotes (34 ∷ 34 ∷ b ∷ bytes)
    third later true e = step state.TripleQuotes (state.Whole form.TripleQuoted) true e (λ c. refl) ∙ three_quotes bytes ∙ at_quote (λ x. 34 ∷ 34 ∷ x) e
    third later false e = step state.TripleQuotes (state.Whole form.TripleQuoted) false e (λ c. refl) ∙ later.0 ∙ sym (two_quotes b bytes e)

pub triple : (bytes : List ℕ) → form_behind state.Triple bytes ≡ by_mark form.TripleQuoted quotes bytes
triple bytes = (triples bytes).0

-- what is read up to a mark, from how it stands in the bytes
pub marked : (f : Form) (mark bytes : List ℕ) → has_at_end mark bytes ≡ true → by_mark f mark bytes ≡ Some f
marked f mark bytes h = go (has mark bytes) (has mark (without_last bytes)) refl refl h
  where
    go : (x y : Bool) → has mark bytes ≡ x → has mark (without_last bytes) ≡ y → has_at_end mark bytes ≡ true → by_mark f mark bytes ≡ Some f
    go false y e d h = absurd (bad (rw e at h))
      where
        bad : false ≡ true → ⊥
        bad e = cc
    go true true e d h = absurd (bad (rw (e, d) at h))
      where
        bad : false ≡ true → ⊥
        bad e = cc
    go true false e d h = rw (e, d) refl

pub unmarked : (f : Form) (mark bytes : List ℕ) → not (has mark bytes) ≡ true → by_mark f mark bytes ≡ Some form.Unended
unmarked f mark bytes h = go (has mark bytes) refl h
  where
    go : (x : Bool) → has mark bytes ≡ x → not (has mark bytes) ≡ true → by_mark f mark bytes ≡ Some form.Unended
    go true e h = absurd (bad (rw e at h))
      where
        bad : false ≡ true → ⊥
        bad e = cc
    go false e h = rw e refl

-- and back
pub by_mark-is : (f g : Form) (mark bytes : List ℕ) → by_mark f mark bytes ≡ Some g → ((g ≡ f) × (has_at_end mark bytes ≡ true)) ⊎ ((g ≡ form.Unended) × (not (has mark bytes) ≡ true))
by_mark-is f g mark bytes h = go (has mark bytes) (has mark (without_last bytes)) refl refl h
  where
    go : (x y : Bool) → has mark bytes ≡ x → has mark (without_last bytes) ≡ y → (if x then (if y then None else Some f) else Some form.Unended) ≡ Some g →
        ((g ≡ f) × (has_at_end mark bytes ≡ true)) ⊎ ((g ≡ form.Unended) × (not (has mark bytes) ≡ true))
    go false y e d h = inr (cc, rw e refl)
    go true true e d h = absurd (bad h)
      where
        bad : None ≡ Some g → ⊥
        bad e = cc
    go true false e d h = inl (cc, rw (e, d) refl)
