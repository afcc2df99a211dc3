-- The first clash as a plain function.
use Rattle.std.proofs.Common.{◌≡◌, ℕ, ◌+◌, zero, suc, Bool, true, false, List, [], ◌∷◌, ◌++◌, Option, Some, None, take, length, refl, sym, ◌∙◌, ap, subst, arith, if◌then◌else◌}
use Rattle.std.specs.Bool.{beq}
use Rattle.std.specs.List.{Any, Contains, list_any, slice_get}
use Rattle.std.specs.Cmp.{booleans_Decides}
use Rattle.std.proofs.lemmas.Bool.Decides.{nat_tests}
use Rattle.std.proofs.lemmas.List.{append-nil, append_assoc, length-append}
use Rattle.std.proofs.lemmas.List.Elements.{Contains-append_left, Contains-append_right}
use Rattle.std.proofs.lemmas.List.Folds.{Any-from_list_any, list_any-from_Any}
use Rattle.acl_match.specs.declared.entry.AclEntry.{AclEntry}
use Rattle.acl_match.specs.Acl.{Clash, IsSound, IsFirstClash, clashes, clash_behind, first_clash}

abbrev pub NoClash : List AclEntry → Type 0
NoClash entries = (first second : AclEntry) → Contains entries first → Contains entries second → Clash first second → ⊥

clash-of : (a b : AclEntry) → clashes a b ≡ true → Clash a b
clash-of a b e = record {
  mask = grind (arith, nat_tests, e);
  network = grind (arith, nat_tests, e);
  signs = λ same. let told : beq a.negated b.negated ≡ true = (booleans_Decides a.negated b.negated).1 same in grind (arith, nat_tests, e, told);
}

of-clash : (a b : AclEntry) → Clash a b → clashes a b ≡ true
of-clash a b c =
    let apart : beq a.negated b.negated ≡ true → ⊥ = λ e. c.signs ((booleans_Decides a.negated b.negated).0 e) in
    let mask = c.mask in
    let network = c.network in
    grind (arith, nat_tests, apart, mask, network)

none-behind : (e : AclEntry) (before : List AclEntry) → (Any (Clash e) before → ⊥) → list_any (clashes e) before ≡ false
none-behind e before h =
    elim (list_any (clashes e) before) as (λ b. list_any (clashes e) before ≡ b → b ≡ false) [
      | true ↦ λ found. absurd (let any = Any-from_list_any (clashes e) before found in h (any.0, any.1, any.2, any.3, clash-of e any.1 any.4))
      | false ↦ λ found. refl
    ] refl

some-behind : (e : AclEntry) (before : List AclEntry) → Any (Clash e) before → list_any (clashes e) before ≡ true
some-behind e before any = list_any-from_Any (clashes e) before (any.0, any.1, any.2, any.3, of-clash e any.1 any.4)

step-none : (before : List AclEntry) (e : AclEntry) (es : List AclEntry) → list_any (clashes e) before ≡ false → clash_behind before (e ∷ es) ≡ clash_behind (before ++ e ∷ []) es
step-none before e es h = ap (λ (b : Bool). if b then Some (length before) else clash_behind (before ++ e ∷ []) es) h

step-some : (before : List AclEntry) (e : AclEntry) (es : List AclEntry) → list_any (clashes e) before ≡ true → clash_behind before (e ∷ es) ≡ Some (length before)
step-some before e es h = ap (λ (b : Bool). if b then Some (length before) else clash_behind (before ++ e ∷ []) es) h

listed-at : (before : List AclEntry) (e : AclEntry) (es : List AclEntry) → Contains (before ++ e ∷ es) e
listed-at before e es = Contains-append_right before (e ∷ es) e (0, omega arith, refl)

-- an entry clashes with none before it in a list without a clash
apart-in : (before : List AclEntry) (e : AclEntry) (es : List AclEntry) → NoClash (before ++ e ∷ es) → list_any (clashes e) before ≡ false
apart-in before e es h =
    none-behind e before (λ any. h e any.1 (listed-at before e es) (Contains-append_left before (e ∷ es) any.1 (any.0, any.2, any.3)) any.4)

pushed : (before : List AclEntry) (e : AclEntry) (es : List AclEntry) → before ++ e ∷ es ≡ (before ++ e ∷ []) ++ es
pushed before e es = sym (append_assoc before (e ∷ []) es)

clash-none : (before es : List AclEntry) → NoClash (before ++ es) → clash_behind before es ≡ None
clash-none before [] h = refl
clash-none before (e ∷ es) h = step-none before e es (apart-in before e es h) ∙ clash-none (before ++ e ∷ []) es (subst NoClash (pushed before e es) h)

same-some : (a b : AclEntry) → Some a ≡ Some b → a ≡ b
same-some a b e = cc

clash-at : (before es : List AclEntry) (k : ℕ) (e : AclEntry) → slice_get es k ≡ Some e → NoClash (before ++ take k es) → Any (Clash e) (before ++ take k es)
    → clash_behind before es ≡ Some (length before + k)
clash-at before [] k e here h any = absurd (cc)
clash-at before (f ∷ es) zero e here h any =
    let P : AclEntry → Type 0 = λ x. Any (Clash x) before in
    let Q : List AclEntry → Type 0 = λ l. Any (Clash e) l in
    let L : ℕ → Option ℕ = λ n. Some n in
    step-some before f es (some-behind f before (subst P (sym (same-some f e here)) (subst Q (append-nil before) any))) ∙ ap L (omega arith)
clash-at before (f ∷ es) (suc k) e here h any =
    let Q : List AclEntry → Type 0 = λ l. Any (Clash e) l in
    let L : ℕ → Option ℕ = λ n. Some n in
    let same = pushed before f (take k es) in
    step-none before f es (apart-in before f (take k es) h)
    ∙ (clash-at (before ++ f ∷ []) es k e here (subst NoClash same h) (subst Q same any) ∙ ap L (omega (arith, length-append before (f ∷ []))))

-- sound entries have none, and what `IsFirstClash` says is the first
pub sound-none : (entries : List AclEntry) → IsSound entries → first_clash entries ≡ None
sound-none entries sound = clash-none [] entries sound.signs

pub first-some : (entries : List AclEntry) (place : ℕ) → IsFirstClash entries place → first_clash entries ≡ Some place
first-some entries place first =
    let e = first.here.0 in
    let L : ℕ → Option ℕ = λ n. Some n in
    clash-at [] entries place e first.here.1 first.before.signs first.here.2 ∙ ap L (omega arith)
