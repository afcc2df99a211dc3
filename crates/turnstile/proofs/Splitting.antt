-- The opening of a lock meets the rule, and splitting a pass keeps it.
use Rattle.std.proofs.Common.{◌≡◌, ◌≢◌, ◌⊎◌, ℕ, zero, suc, ◌+◌, ◌-◌, ◌%◌, ◌^◌, ◌<◌, ◌≤◌, List, [], ◌∷◌, ◌++◌, length, set, drop, Option, Some, refl, sym, ap, ◌∙◌, subst, arith, inl, inr, ⊎_elim}
use mathlib.Core.Option.{some, some-injective, some-ne-none}
use native.Mathlib.Decide.{ℕ_discrete}
use lib.ListN.{get_elem?}
use Rattle.std.specs.List.{All, Contains}
use Rattle.std.proofs.lemmas.List.{length-set}
use Rattle.std.proofs.lemmas.List.Elements.{All-nil, All-weaker, All-drop, All-same, Contains-append_left, Contains-push}
use Rattle.std.proofs.lemmas.List.Sums.{sum_by_push}
use Rattle.std.proofs.Math.Seq.{drop-append_seam}
use Rattle.atomic_table.specs.Table.{State, opening, Splits}
use Rattle.atomic_table.proofs.Lists.{at_set, set_here, set_else, at_longer}
use Rattle.turnstile.specs.Knowledge.{Owns, Covers, EndedStay, opened, cut_off, branch, ended_numbers}
use Rattle.turnstile.specs.Turns.{Sits, IsLive, HasTicket, IsInside, queued, width, next_ticket, TicketsInOrder, OwnNumbers, IsOwned, IsMade, NumbersRooted, NumbersKept, SeenAFront}
use Rattle.turnstile.specs.Steps.{idle, cutting, cut_view, branch_view}
use Rattle.turnstile.specs.declared.knowledge.Known.{Known}
use Rattle.turnstile.specs.declared.knowledge.View.{View}
use Rattle.turnstile.proofs.Moves.{total_set, within, owns_covers}
use Rattle.turnstile.proofs.Tickets.{Rule}

-- what stands in a list of which one element was changed, and that got one more
grown_cases : {A : Type 0} (l : List A) (a b : A) (j : ℕ) → get_elem? (l ++ a ∷ []) j ≡ some b → (get_elem? l j ≡ some b) ⊎ ((j ≡ length l) × (a ≡ b))
grown_cases [] a b zero e = inr (refl, some-injective a b e)
grown_cases [] a b (suc j) e = absurd (some-ne-none b (sym e))
grown_cases (x ∷ xs) a b zero e = inl e
grown_cases (x ∷ xs) a b (suc j) e = ⊎_elim (λ h. inl h) (λ h. inr ((let is = h.0 in omega arith), h.1)) (grown_cases xs a b j e)

module _ {E G : Type 0} where
  -- the seats after a split: the one that was split, the new one, or another
  data Seats (views : List (View E G)) (id : ℕ) (l r : View E G) (j : ℕ) (u : View E G) : Type 0 where
    here : j ≡ id → l ≡ u → Seats views id l r j u
    added : j ≡ length views → r ≡ u → Seats views id l r j u
    other : j ≢ id → Sits views j u → Seats views id l r j u

  seats : (views : List (View E G)) (id : ℕ) (l r : View E G) (j : ℕ) (u : View E G) → Sits (set views id l ++ r ∷ []) j u → Seats views id l r j u
  seats views id l r j u e = ⊎_elim
      (λ h. ⊎_elim (λ t. here t.0 t.1) (λ t. other t.0 t.1) (at_set views id j l u h))
      (λ h. added (h.0 ∙ length-set views id l) h.1)
      (grown_cases (set views id l) r u j e)

  covers_cut : (k : Known E G) (c n : ℕ) → c < k.upto → Covers (cut_off k c) n → Covers k n
  covers_cut k c n high (inl h) = let low' = h.0 in let high' = h.1 in inl (low', omega arith)
  covers_cut k c n high (inr h) = inr h

  covers_branch : (k : Known E G) (c n : ℕ) → Covers (branch k c) n → (c ≤ n) × (n < k.upto)
  covers_branch k c n (inl h) = h
  covers_branch k c n (inr h) = let none_there = h.1 in absurd (omega arith)

  -- the two spans and the ended numbers share nothing
  cut_apart : (first : ℕ) (setting : G) (k : Known E G) (c n : ℕ) → OwnNumbers first setting k → k.number < c → Covers (cut_off k c) n → Covers (branch k c) n → ⊥
  cut_apart first setting k c n own low (inl h) b = let t = covers_branch k c n b in let x = t.0 in let y = h.1 in omega arith
  cut_apart first setting k c n own low (inr h) b = let t = covers_branch k c n b in let x = t.0 in let y = t.1 in own.ended_outside n h (omega arith) y

  module _ (caller : E → ℕ) (first : ℕ) (setting : G) (views : List (View E G)) (log : List E) (kept : NumbersKept caller views log first setting)
      (id : ℕ) (k : Known E G) (c : ℕ) (at : Sits views id (cutting k c)) (low : k.number < c) (high : c < k.upto) where
    abbrev l : View E G
    l = idle (cut_off k c)

    abbrev r : View E G
    r = idle (branch k c)

    abbrev after : List (View E G)
    after = set views id l ++ r ∷ []

    stands : (j : ℕ) (u : View E G) → j ≢ id → Sits views j u → Sits after j u
    stands j u ne a = at_longer (set views id l) (r ∷ []) j u (set_else views id j l ne ∙ a)

    stands_here : Sits after id l
    stands_here = at_longer (set views id l) (r ∷ []) id l (set_here views id l (within views id (cutting k c) at))

    own : OwnNumbers first setting k
    own = kept.own id (cutting k c) at tt

    -- another seat covers nothing that this one covered
    clear : (j : ℕ) (u : View E G) (n : ℕ) → j ≢ id → Sits views j u → Covers u.known n → Covers k n → ⊥
    clear j u n ne a h g = ne (kept.apart j id u (cutting k c) n a at h g)

    covered : (n : ℕ) → Covers r.known n → Covers k n
    covered n h = let t = covers_branch k c n h in let x = t.0 in let y = t.1 in inl (omega arith, y)

    pair_apart : (j i : ℕ) (u w : View E G) (n : ℕ) → Seats views id l r j u → Seats views id l r i w → Covers u.known n → Covers w.known n → j ≡ i
    pair_apart j i u w n (here e p) (here f q) h g = e ∙ sym f
    pair_apart j i u w n (here e p) (added f q) h g =
        absurd (cut_apart first setting k c n own low (subst (λ (x : View E G). Covers x.known n) (sym p) h) (subst (λ (x : View E G). Covers x.known n) (sym q) g))
    pair_apart j i u w n (here e p) (other f q) h g = absurd (clear i w n f q g (covers_cut k c n high (subst (λ (x : View E G). Covers x.known n) (sym p) h)))
    pair_apart j i u w n (added e p) (here f q) h g =
        absurd (cut_apart first setting k c n own low (subst (λ (x : View E G). Covers x.known n) (sym q) g) (subst (λ (x : View E G). Covers x.known n) (sym p) h))
    pair_apart j i u w n (added e p) (added f q) h g = e ∙ sym f
    pair_apart j i u w n (added e p) (other f q) h g = absurd (clear i w n f q g (covered n (subst (λ (x : View E G). Covers x.known n) (sym p) h)))
    pair_apart j i u w n (other e p) (here f q) h g = absurd (clear j u n e p h (covers_cut k c n high (subst (λ (x : View E G). Covers x.known n) (sym q) g)))
    pair_apart j i u w n (other e p) (added f q) h g = absurd (clear j u n e p h (covered n (subst (λ (x : View E G). Covers x.known n) (sym q) g)))
    pair_apart j i u w n (other e p) (other f q) h g = kept.apart j i u w n p q h g

    own_cut : OwnNumbers first setting l.known
    own_cut = record { first_is = own.first_is; setting_is = own.setting_is; spans = low; ended_outside = λ n h x y. own.ended_outside n h x (omega arith) }

    own_branch : OwnNumbers first setting r.known
    own_branch = record { first_is = own.first_is; setting_is = own.setting_is; spans = high; ended_outside = λ n h x y. let none_there = h.1 in omega arith }

    each_own : (j : ℕ) (u : View E G) → Seats views id l r j u → IsLive u.stage → OwnNumbers first setting u.known
    each_own j u (here e p) live = subst (λ (x : View E G). OwnNumbers first setting x.known) p own_cut
    each_own j u (added e p) live = subst (λ (x : View E G). OwnNumbers first setting x.known) p own_branch
    each_own j u (other e p) live = kept.own j u p live

    each_ended : (j : ℕ) (u : View E G) → Seats views id l r j u → IsLive u.stage → EndedStay caller u.known log
    each_ended j u (here e p) live = subst (λ (x : View E G). EndedStay caller x.known log) p (kept.ended id (cutting k c) at tt)
    each_ended j u (added e p) live = subst (λ (x : View E G). EndedStay caller x.known log) p (All-nil _)
    each_ended j u (other e p) live = kept.ended j u p live

    owned : (n : ℕ) → IsOwned views n → IsOwned after n
    owned n o = elim (ℕ_discrete o.0 id) [
      | yes e ↦ let it : o.1 ≡ cutting k c = some-injective o.1 (cutting k c) (sym o.2 ∙ (ap (get_elem? views) e ∙ at)) in
          (id, l, stands_here, tt, subst (λ (x : View E G). Owns x.known n) it o.4)
      | no e ↦ (o.0, o.1, stands o.0 o.1 e o.2, o.3, o.4)
    ]

    pub split_kept : NumbersKept caller after log first setting
    split_kept = record {
      apart = λ j i u w n a b h g. pair_apart j i u w n (seats views id l r j u a) (seats views id l r i w b) h g;
      own = λ j u a live. each_own j u (seats views id l r j u a) live;
      ended = λ j u a live. each_ended j u (seats views id l r j u a) live;
      authored = All-weaker (λ e. IsOwned views (caller e)) (λ e. IsOwned after (caller e)) (λ e o. owned (caller e) o) log kept.authored;
    }

    rooted_as : (n : ℕ) → IsMade views n → IsMade after n
    rooted_as n o = elim (ℕ_discrete o.0 id) [
      | yes e ↦ let it : o.1 ≡ cutting k c = some-injective o.1 (cutting k c) (sym o.3 ∙ (ap (get_elem? views) e ∙ at)) in (
        id,
        l,
        o.2,
        stands_here,
        tt,
        subst (λ (x : View E G). Owns x.known o.2) it o.5,
        o.6,
        Contains-append_left k.made (c ∷ []) n (subst (λ (x : View E G). Contains x.known.made n) it o.7),
      )
      | no e ↦ (o.0, o.1, o.2, stands o.0 o.1 e o.3, o.4, o.5, o.6, o.7)
    ]

    each_rooted : NumbersRooted first views → (j : ℕ) (u : View E G) (n : ℕ) → Seats views id l r j u → IsLive u.stage → Owns u.known n → n ≢ first → IsMade after n
    each_rooted rooted j u n (here e p) live h ne = rooted_as n (rooted id (cutting k c) n at tt (subst (λ (x : View E G). Owns x.known n) (sym p) h) ne)
    each_rooted rooted j u n (added e p) live h ne = ⊎_elim
        (λ is. (
          id,
          l,
          k.number,
          stands_here,
          tt,
          inl refl,
          subst (λ (z : ℕ). k.number < z) (sym is) low,
          subst (λ (z : ℕ). Contains (k.made ++ c ∷ []) z) (sym is) (Contains-push k.made c),
        ))
        (λ gone. let none_there = gone.1 in absurd (omega arith))
        (let q : Owns r.known n = subst (λ (x : View E G). Owns x.known n) (sym p) h in q)
    each_rooted rooted j u n (other e p) live h ne = rooted_as n (rooted j u n p live h ne)

    pub split_rooted : NumbersRooted first views → NumbersRooted first after
    split_rooted rooted j u n a live h ne = each_rooted rooted j u n (seats views id l r j u a) live h ne

    -- nothing was entered by the number yet
    unheard : All (λ e. ¬ (caller e ≡ c)) log
    unheard = All-weaker (λ e. IsOwned views (caller e)) (λ e. ¬ (caller e ≡ c))
        (λ e o is.
        let theirs = owns_covers first setting o.1.known (caller e) (kept.own o.0 o.1 o.2 o.3) o.4 in
        let span : Covers k c = inl (omega arith, high) in
        let same = kept.apart o.0 id o.1 (cutting k c) c o.2 at (subst (λ (n : ℕ). Covers o.1.known n) is theirs) span in
        let it : o.1 ≡ cutting k c = some-injective o.1 (cutting k c) (sym o.2 ∙ (ap (get_elem? views) same ∙ at)) in
        ⊎_elim
        (λ mine. let m : c ≡ k.number = sym is ∙ mine in absurd (omega arith))
        (λ gone. own.ended_outside c (subst (λ (n : ℕ). Contains (ended_numbers k) n) is gone) (omega arith) high)
        (let q : Owns k (caller e) = subst (λ (x : View E G). Owns x.known (caller e)) it o.4 in q))
        log kept.authored

    branch_front : SeenAFront caller (cutting k c) log → SeenAFront caller r log
    branch_front f = let g = f.grown in record {
      grown = (
        g.0,
        g.1,
        All-weaker (λ e. ¬ (caller e ≡ c)) (λ e. ¬ (Owns r.known (caller e)))
            (λ e ne o. ⊎_elim (λ is. ne is) (λ gone. let none_there = gone.1 in absurd (omega arith)) o)
            g.0
            (All-same (λ e. ¬ (caller e ≡ c)) g.0 (drop (length k.seen) log) (sym (ap (drop (length k.seen)) g.1 ∙ drop-append_seam k.seen g.0))
            (All-drop (λ e. ¬ (caller e ≡ c)) (length k.seen) log unheard)),
      );
      both = tt;
    }

    each_seen : ((j : ℕ) (u : View E G) → Sits views j u → IsLive u.stage → SeenAFront caller u log)
        → (j : ℕ) (u : View E G) → Seats views id l r j u → IsLive u.stage → SeenAFront caller u log
    each_seen seen j u (here e p) live = let f = seen id (cutting k c) at tt in
        let q : SeenAFront caller l log = record { grown = f.grown; both = tt } in subst (λ (x : View E G). SeenAFront caller x log) p q
    each_seen seen j u (added e p) live = subst (λ (x : View E G). SeenAFront caller x log) p (branch_front (seen id (cutting k c) at tt))
    each_seen seen j u (other e p) live = seen j u p live

    pub split_seen : ((j : ℕ) (u : View E G) → Sits views j u → IsLive u.stage → SeenAFront caller u log)
        → (j : ℕ) (u : View E G) → Sits after j u → IsLive u.stage → SeenAFront caller u log
    split_seen seen j u a live = each_seen seen j u (seats views id l r j u a) live

    -- the tickets are as they were
    ticket_there : (j : ℕ) (u : View E G) (t : ℕ) → Seats views id l r j u → HasTicket u.stage t → Sits views j u
    ticket_there j u t (here e p) h = absurd (let q : ⊥ = subst (λ (x : View E G). HasTicket x.stage t) (sym p) h in q)
    ticket_there j u t (added e p) h = absurd (let q : ⊥ = subst (λ (x : View E G). HasTicket x.stage t) (sym p) h in q)
    ticket_there j u t (other e p) h = p

    pub split_tickets : (words : List ℕ) (turns : ℕ) → TicketsInOrder words views turns → TicketsInOrder words after turns
    split_tickets words turns o =
        let one = total_set queued views id (cutting k c) l at in
        let more = sum_by_push queued (set views id l) r in
        let next : next_ticket turns after ≡ next_ticket turns views = omega arith in
        let wide = total_set width views id (cutting k c) l at in
        let wider = sum_by_push width (set views id l) r in
        let narrow = o.narrow in
        record {
          words_are = o.words_are ∙ ap (λ (n : ℕ). (n % 2 ^ 64) ∷ (turns % 2 ^ 64) ∷ []) (sym next);
          within = λ j u t a h. subst (λ (n : ℕ). (turns ≤ t) × (t < n)) (sym next) (o.within j u t (ticket_there j u t (seats views id l r j u a) h) h);
          differ = λ j i u w t a b h g. o.differ j i u w t (ticket_there j u t (seats views id l r j u a) h) (ticket_there i w t (seats views id l r i w b) g) h g;
          narrow = omega arith;
        }

owns_opened : (E : Type 0) {G : Type 0} (first : ℕ) (setting : G) (n : ℕ) → Owns (opened {E = E} first setting) n → n ≡ first
owns_opened E first setting n (inl e) = e
owns_opened E first setting n (inr c) = let none_there = c.1 in absurd (omega arith)

only_one : {A : Type 0} (a b : A) (j : ℕ) → get_elem? (a ∷ []) j ≡ some b → (j ≡ 0) × (a ≡ b)
only_one a b zero e = (refl, some-injective a b e)
only_one a b (suc j) e = absurd (some-ne-none b (sym e))

module _ {T E G : Type 0} (caller : E → ℕ) (history : T → List E) (setting_of : T → G) (Sound : T → Type 0) (first : ℕ) (setting : G) where
  abbrev St : Type 0
  St = State (Option T) (View E G)

  abbrev R : St → Type 0
  R s = Rule caller history setting_of Sound first setting s

  inside_there : (views : List (View E G)) (id : ℕ) (k : Known E G) (c j : ℕ) (u : View E G) (t : ℕ)
      → Seats views id (idle (cut_off k c)) (idle (branch k c)) j u → IsInside u.stage t → Sits views j u
  inside_there views id k c j u t (here e p) h = absurd (let q : ⊥ = subst (λ (x : View E G). IsInside x.stage t) (sym p) h in q)
  inside_there views id k c j u t (added e p) h = absurd (let q : ⊥ = subst (λ (x : View E G). IsInside x.stage t) (sym p) h in q)
  inside_there views id k c j u t (other e p) h = p

  pub splits : (id : ℕ) (k : Known E G) (c : ℕ) → k.number < c → c < k.upto → Splits R id (cutting k c) (idle (cut_off k c)) (idle (branch k c))
  splits id k c low high s r at =
      let there : (j : ℕ) (u : View E G) (t : ℕ) → Sits (set s.views id (idle (cut_off k c)) ++ idle (branch k c) ∷ []) j u → IsInside u.stage t → Sits s.views j u =
      (λ j u t a h. inside_there s.views id k c j u t (seats s.views id (idle (cut_off k c)) (idle (branch k c)) j u a) h) in
      record {
        turns = r.turns;
        log = r.log;
        tickets = split_tickets caller first setting s.views r.log r.numbers id k c at low high s.words r.turns r.tickets;
        slot = record {
          place = ⊎_elim
              (λ h. inl (h.0, h.1, h.2, h.3, h.4, λ j u t a in'. h.5 j u t (there j u t a in') in'))
              (λ h.
              let elsewhere : h.2 ≢ id = (λ e.
              let it : h.3 ≡ cutting k c = some-injective h.3 (cutting k c) (sym h.4 ∙ (ap (get_elem? s.views) e ∙ at)) in
              subst (λ (x : View E G). IsInside x.stage r.turns) it h.5) in
              inr (h.0, h.1, h.2, h.3, at_longer (set s.views id (idle (cut_off k c))) (idle (branch k c) ∷ []) h.2 h.3 (set_else s.views id h.2 (idle (cut_off k c)) elsewhere ∙ h.4), h.5))
              r.slot.place;
          inside = λ j u t a in'. r.slot.inside j u t (there j u t a in') in';
        };
        seen = split_seen caller first setting s.views r.log r.numbers id k c at low high r.seen;
        numbers = split_kept caller first setting s.views r.log r.numbers id k c at low high;
        rooted = split_rooted caller first setting s.views r.log r.numbers id k c at low high r.rooted;
      }

  -- the lock as it is made
  pub opens : (x : T) → first < 2 ^ 32 → history x ≡ [] → setting_of x ≡ setting → Sound x → R (opening (0 ∷ 0 ∷ []) (Some x ∷ []) (idle (opened first setting)))
  opens x narrow empty set_is sound =
      let v : View E G = idle (opened first setting) in record {
        turns = 0;
        log = [];
        tickets = record {
          words_are = refl;
          within = λ j u t a h. absurd (let q : ⊥ = subst (λ (y : View E G). HasTicket y.stage t) (sym (only_one v u j a).1) h in q);
          differ = λ j i u w t a b h g. (only_one v u j a).0 ∙ sym (only_one v w i b).0;
          narrow = omega arith;
        };
        slot = record {
          place = inl (x, refl, empty, set_is, sound, λ j u t a h. let q : ⊥ = subst (λ (y : View E G). IsInside y.stage t) (sym (only_one v u j a).1) h in q);
          inside = λ j u t a h. absurd (let q : ⊥ = subst (λ (y : View E G). IsInside y.stage t) (sym (only_one v u j a).1) h in q);
        };
        seen = λ j u a live. subst (λ (y : View E G). SeenAFront caller y []) (only_one v u j a).1 (record { grown = ([], refl, All-nil _); both = tt });
        numbers = record {
          apart = λ j i u w n a b h g. (only_one v u j a).0 ∙ sym (only_one v w i b).0;
          own = λ j u a live. subst (λ (y : View E G). OwnNumbers first setting y.known) (only_one v u j a).1
              (record { first_is = refl; setting_is = refl; spans = narrow; ended_outside = λ n h low high. let none_there = h.1 in omega arith });
          ended = λ j u a live. subst (λ (y : View E G). EndedStay caller y.known []) (only_one v u j a).1 (All-nil _);
          authored = All-nil _;
        };
        rooted = λ j u n a live h ne. absurd (ne (owns_opened E first setting n (subst (λ (y : View E G). Owns y.known n) (sym (only_one v u j a).1) h)));
      }

  pub splits_at : (id : ℕ) (v : View E G) (k : Known E G) (c : ℕ) → v ≡ cutting k c → k.number < c → c < k.upto → Splits R id v (cut_view v) (branch_view v)
  splits_at id v k c e low high = subst (λ (x : View E G). Splits R id x (cut_view x) (branch_view x)) (sym e) (splits id k c low high)
