-- One view changes, and the log may gain entries of its pass's caller: what stays true of all views.
use Rattle.std.proofs.Common.{◌≡◌, ◌≢◌, ◌⊎◌, ℕ, zero, suc, ◌+◌, ◌-◌, ◌^◌, ◌<◌, ◌≤◌, List, [], ◌∷◌, ◌++◌, length, map, set, get_or, refl, sym, ap, ◌∙◌, subst, arith, append_assoc, inl, inr, ⊎_elim}
use mathlib.Core.Option.{some, some-injective, some-ne-none}
use mathlib.Core.Logic.{dite}
use native.Mathlib.Decide.{ℕ_discrete}
use lib.ListN.{get_elem?}
use Rattle.std.specs.List.{All, Contains, sum_by}
use Rattle.std.proofs.lemmas.List.Elements.{All-weaker, All-append}
use Rattle.std.proofs.lemmas.List.Sums.{sum_by-cons}
use Rattle.std.proofs.lemmas.List.{get_or-map, length-map}
use Rattle.atomic_table.proofs.Lists.{at_set, set_here, set_else}
use Rattle.turnstile.specs.Knowledge.{Owns, Covers, Silent, EndedStay, saw, ended_numbers}
use Rattle.turnstile.specs.Turns.{Sits, IsLive, width, NumbersApart, OwnNumbers, IsOwned, NumbersRooted, NumbersKept, SeenAFront}
use Rattle.turnstile.specs.declared.knowledge.Known.{Known}
use Rattle.turnstile.specs.declared.knowledge.Ended.{Ended}
use Rattle.turnstile.specs.declared.knowledge.View.{View}
use Rattle.turnstile.proofs.Places.{Lacks, places-lacking}

-- a total after a change of one view
pub total_set : {A : Type 0} (f : A → ℕ) (l : List A) (i : ℕ) (v w : A) → get_elem? l i ≡ some v → sum_by f (set l i w) + f v ≡ sum_by f l + f w
total_set f [] i v w e = absurd (some-ne-none v (sym e))
total_set f (x ∷ xs) zero v w e =
    let is : f x ≡ f v = ap f (some-injective x v e) in
    let a = sum_by-cons f x xs in
    let b = sum_by-cons f w xs in
    omega arith
total_set f (x ∷ xs) (suc i) v w e =
    let r = total_set f xs i v w e in
    let a = sum_by-cons f x xs in
    let b = sum_by-cons f x (set xs i w) in
    omega arith

pub within : {A : Type 0} (l : List A) (i : ℕ) (a : A) → get_elem? l i ≡ some a → i < length l
within [] i a e = absurd (some-ne-none a (sym e))
within (x ∷ xs) zero a e = omega arith
within (x ∷ xs) (suc i) a e = let r = within xs i a e in omega arith

Contains-map : {A : Type 0} (f : A → ℕ) (xs : List A) (k : ℕ) (d : A) → k < length xs → Contains (map f xs) (f (get_or xs k d))
Contains-map f xs k d h = (k, (let l = length-map xs f in omega arith), get_or-map f xs k d (f (get_or xs k d)) h)

module _ {E G : Type 0} where
  -- the view has the same numbers, and may have seen more
  pub record Same (v w : View E G) : Type 0 where
    pub known : w.known ≡ saw v.known w.known.seen
    pub lives : IsLive v.stage → IsLive w.stage
    pub lived : IsLive w.stage → IsLive v.stage

  pub same_self : (v : View E G) → Same v v
  same_self v = record { known = refl; lives = λ l. l; lived = λ l. l }

  covers_back : (v w : View E G) (n : ℕ) → Same v w → Covers w.known n → Covers v.known n
  covers_back v w n s c = subst (λ (k : Known E G). Covers k n) s.known c

  owns_back : (v w : View E G) (n : ℕ) → Same v w → Owns w.known n → Owns v.known n
  owns_back v w n s c = subst (λ (k : Known E G). Owns k n) s.known c

  owns_forth : (v w : View E G) (n : ℕ) → Same v w → Owns v.known n → Owns w.known n
  owns_forth v w n s c = subst (λ (k : Known E G). Owns k n) (sym s.known) c

  made_forth : (v w : View E G) (n : ℕ) → Same v w → Contains v.known.made n → Contains w.known.made n
  made_forth v w n s c = subst (λ (k : Known E G). Contains k.made n) (sym s.known) c

  pub owns_covers : (first : ℕ) (setting : G) (k : Known E G) (n : ℕ) → OwnNumbers first setting k → Owns k n → Covers k n
  owns_covers first setting k n own (inl e) = let low : k.number ≤ n = omega arith in let s = own.spans in inl (low, omega arith)
  owns_covers first setting k n own (inr c) = inr c

  numbers_forth : (first : ℕ) (setting : G) (v w : View E G) → Same v w → OwnNumbers first setting v.known → OwnNumbers first setting w.known
  numbers_forth first setting v w s own =
      let there : OwnNumbers first setting (saw v.known w.known.seen) =
      record { first_is = own.first_is; setting_is = own.setting_is; spans = own.spans; ended_outside = own.ended_outside } in
      subst (λ (k : Known E G). OwnNumbers first setting k) (sym s.known) there

  module _ (views : List (View E G)) (i : ℕ) (v w : View E G) (at : Sits views i v) (same : Same v w) where
    pub old : (j : ℕ) (u : View E G) → Sits (set views i w) j u → (x : View E G) × Sits views j x × Same x u
    old j u e = ⊎_elim
        (λ t. (v, subst (λ (k : ℕ). Sits views k v) (sym t.0) at, subst (λ (x : View E G). Same v x) t.1 same))
        (λ t. (u, t.1, same_self u))
        (at_set views i j w u e)

    pub new : (j : ℕ) (x : View E G) → Sits views j x → (u : View E G) × Sits (set views i w) j u × Same x u
    new j x e = dite (ℕ_discrete j i)
        (λ here. let is : v ≡ x = some-injective v x (sym at ∙ (ap (get_elem? views) (sym here) ∙ e)) in (
          w,
          subst (λ (k : ℕ). Sits (set views i w) k w) (sym here) (set_here views i w (within views i v at)),
          subst (λ (y : View E G). Same y w) is same,
        ))
        (λ elsewhere. (x, set_else views i j w elsewhere ∙ e, same_self x))

    pub apart_after : NumbersApart views → NumbersApart (set views i w)
    apart_after r j k u x n a b c d =
        let p = old j u a in let q = old k x b in r j k p.0 q.0 n p.1 q.1 (covers_back p.0 u n p.2 c) (covers_back q.0 x n q.2 d)

    pub owned_after : (n : ℕ) → IsOwned views n → IsOwned (set views i w) n
    owned_after n o = let p = new o.0 o.1 o.2 in (o.0, p.0, p.1, p.2.lives o.3, owns_forth o.1 p.0 n p.2 o.4)

    pub rooted_after : (first : ℕ) → NumbersRooted first views → NumbersRooted first (set views i w)
    rooted_after first r j u n a live own other =
        let p = old j u a in
        let m = r j p.0 n p.1 (p.2.lived live) (owns_back p.0 u n p.2 own) other in
        let q = new m.0 m.1 m.3 in
        (m.0, q.0, m.2, q.1, q.2.lives m.4, owns_forth m.1 q.0 m.2 q.2 m.5, m.6, made_forth m.1 q.0 n q.2 m.7)

    pub own_after : (first : ℕ) (setting : G) → ((j : ℕ) (u : View E G) → Sits views j u → IsLive u.stage → OwnNumbers first setting u.known)
        → (j : ℕ) (u : View E G) → Sits (set views i w) j u → IsLive u.stage → OwnNumbers first setting u.known
    own_after first setting r j u a live = let p = old j u a in numbers_forth first setting p.0 u p.2 (r j p.0 p.1 (p.2.lived live))

    pub width_after : sum_by width views ≤ 2 ^ 32 → sum_by width (set views i w) ≤ 2 ^ 32
    width_after narrow =
        let t = total_set width views i v w at in
        let e : width w ≡ width v = ap (λ (k : Known E G). k.upto - k.number) same.known in
        omega arith

    -- the log gains entries of this pass's caller
    module _ (caller : E → ℕ) (first : ℕ) (setting : G) (log es : List E) (kept : NumbersKept caller views log first setting) (live : IsLive v.stage)
        (by_it : All (λ e. caller e ≡ v.known.number) es) where
      -- nothing that another view covers is the caller of a new entry
      not_another : (j : ℕ) (u : View E G) (n : ℕ) → Sits views j u → j ≢ i → Covers u.known n → Lacks caller n es
      not_another j u n a else' c =
          let own = kept.own i v at live in
          let mine : Covers v.known v.known.number = owns_covers first setting v.known v.known.number own (inl refl) in
          All-weaker (λ e. caller e ≡ v.known.number) (λ e. ¬ (caller e ≡ n))
          (λ e by is. else' (kept.apart j i u v v.known.number a at (subst (λ (m : ℕ). Covers u.known m) (sym is ∙ by) c) mine)) es by_it

      not_ended : (n : ℕ) → Contains (ended_numbers v.known) n → Lacks caller n es
      not_ended n c =
          let own = kept.own i v at live in
          let s = own.spans in
          All-weaker (λ e. caller e ≡ v.known.number) (λ e. ¬ (caller e ≡ n))
          (λ e by is. let same_number : v.known.number ≡ n = sym by ∙ is in own.ended_outside n c (omega arith) (omega arith)) es by_it

      stays : (k : Known E G) → ((n : ℕ) → Contains (ended_numbers k) n → Lacks caller n es) → EndedStay caller k log → EndedStay caller k (log ++ es)
      stays k lacks r j d h =
          let e : Ended = get_or k.ended j d in
          let c : Contains (ended_numbers k) e.number = Contains-map (λ (x : Ended). x.number) k.ended j d h in
          places-lacking caller e.number log es (lacks e.number c) ∙ r j d h

      pub ended_after : (j : ℕ) (u : View E G) → Sits (set views i w) j u → IsLive u.stage → EndedStay caller u.known (log ++ es)
      ended_after j u a alive = ⊎_elim
          (λ t. subst (λ (x : View E G). EndedStay caller x.known (log ++ es)) t.1
          (subst (λ (k : Known E G). EndedStay caller k (log ++ es)) (sym same.known) (stays v.known not_ended (kept.ended i v at live))))
          (λ t. stays u.known (λ n c. not_another j u n t.1 t.0 (inr c)) (kept.ended j u t.1 alive))
          (at_set views i j w u a)

      -- what another view had seen still begins the log
      front_after : (j : ℕ) (u : View E G) → Sits views j u → j ≢ i → IsLive u.stage → SeenAFront caller u log → SeenAFront caller u (log ++ es)
      front_after j u a else' alive f =
          let own = kept.own j u a alive in
          let silent : Silent caller u.known es = λ p d h. λ o. not_another j u (caller (get_or es p d)) a else' (owns_covers first setting u.known _ own o) p d h refl in
          let g = f.grown in
          record {
            grown = (g.0 ++ es, ap (λ (l : List E). l ++ es) g.1 ∙ append_assoc u.known.seen g.0 es, All-append (λ e. ¬ (Owns u.known (caller e))) g.0 es g.2 silent);
            both = f.both;
          }

      pub seen_after : ((j : ℕ) (u : View E G) → Sits views j u → IsLive u.stage → SeenAFront caller u log) → SeenAFront caller w (log ++ es)
          → (j : ℕ) (u : View E G) → Sits (set views i w) j u → IsLive u.stage → SeenAFront caller u (log ++ es)
      seen_after r owed j u a alive = ⊎_elim
          (λ t. subst (λ (x : View E G). SeenAFront caller x (log ++ es)) t.1 owed)
          (λ t. front_after j u t.1 t.0 alive (r j u t.1 alive))
          (at_set views i j w u a)

      pub kept_after : NumbersKept caller (set views i w) (log ++ es) first setting
      kept_after = record {
        apart = apart_after kept.apart;
        own = own_after first setting kept.own;
        ended = ended_after;
        authored = All-append (λ e. IsOwned (set views i w) (caller e)) log es
            (All-weaker (λ e. IsOwned views (caller e)) (λ e. IsOwned (set views i w) (caller e)) (λ e o. owned_after (caller e) o) log kept.authored)
            (All-weaker (λ e. caller e ≡ v.known.number) (λ e. IsOwned (set views i w) (caller e)) (λ e by. owned_after (caller e) (i, v, at, live, inl by)) es by_it);
      }
