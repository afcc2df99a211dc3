-- Joining two passes keeps the rule.
use Rattle.std.proofs.Common.{◌≡◌, ◌≢◌, ◌⊎◌, ℕ, zero, suc, ◌+◌, ◌-◌, ◌%◌, ◌^◌, ◌<◌, ◌≤◌, Bool, true, false, List, [], ◌∷◌, ◌++◌, length, set, drop, Option, refl, sym, ap, ◌∙◌, subst, arith, append-nil, inl, inr, ⊎_elim}
use mathlib.Core.Option.{some-injective}
use mathlib.Core.Logic.{dite}
use native.Mathlib.Decide.{ℕ_discrete}
use lib.ListN.{get_elem?}
use Rattle.std.proofs.lemmas.Bool.{ltb-true, ltb-false}
use Rattle.std.specs.Prelude.{nat_lt, if◌then◌else◌, slice_index_or}
use Rattle.std.specs.List.{All, Contains}
use Rattle.std.proofs.lemmas.List.{map-append, length-append, get_or_append_left}
use Rattle.std.proofs.Math.Seq.{drop-append_seam}
use Rattle.std.proofs.lemmas.List.Elements.{All-nil, All-cons, All-weaker, All-append, All-drop, All-same, Contains-append_left, Contains-append_right, Contains-append_cases}
use Rattle.atomic_table.specs.Table.{State, Joins}
use Rattle.atomic_table.proofs.Lists.{at_set, set_here, set_else}
use Rattle.turnstile.specs.Knowledge.{Owns, Covers, Silent, Grown, EndedStay, places, mine, merged, nobody, ended_numbers}
use Rattle.turnstile.specs.Turns.{Sits, IsLive, HasTicket, IsInside, queued, width, next_ticket, TicketsInOrder, OwnNumbers, IsOwned, IsMade, NumbersRooted, NumbersKept, SeenAFront}
use Rattle.turnstile.specs.Steps.{idle, joining, joined, spent}
use Rattle.turnstile.specs.declared.knowledge.Known.{Known}
use Rattle.turnstile.specs.declared.knowledge.Ended.{Ended}
use Rattle.turnstile.specs.declared.knowledge.View.{View}
use Rattle.turnstile.proofs.Places.{mine-grown}
use Rattle.turnstile.proofs.Moves.{total_set, within, owns_covers}
use Rattle.turnstile.proofs.Tickets.{Rule}

module _ {A : Type 0} where
  -- of two lists that begin one list, the shorter begins the longer
  shorter_first : (xs r ys q : List A) → xs ++ r ≡ ys ++ q → length xs ≤ length ys → (mid : List A) × (ys ≡ xs ++ mid) × (r ≡ mid ++ q)
  shorter_first [] r ys q e h = (ys, refl, e)
  shorter_first (x ∷ xs) r [] q e h = absurd (omega arith)
  shorter_first (x ∷ xs) r (y ∷ ys) q e h =
      let head : x ≡ y = cc in
      let tail : xs ++ r ≡ ys ++ q = cc in
      let m = shorter_first xs r ys q tail (omega arith) in
      (m.0, (ap (λ (z : A). z ∷ ys) (sym head) ∙ ap (λ (l : List A). x ∷ l) m.1), m.2)

  All-left : (P : A → Type 0) (xs ys zs : List A) → zs ≡ xs ++ ys → All P zs → All P xs
  All-left P xs ys zs e h k d l =
      let n = ap length e in
      let s = length-append xs ys in
      subst (λ (z : A). P z) (ap (λ (m : List A). slice_index_or m k d) e ∙ get_or_append_left xs ys d k l) (h k d (omega arith))

  All-right : (P : A → Type 0) (xs ys zs : List A) → zs ≡ xs ++ ys → All P zs → All P ys
  All-right P xs ys zs e h = All-same P ys (drop (length xs) zs) (sym (ap (drop (length xs)) e ∙ drop-append_seam xs ys)) (All-drop P (length xs) zs h)

contains_one : (x n : ℕ) → Contains (x ∷ []) n → n ≡ x
contains_one x n (zero, l, e) = sym e
contains_one x n (suc i, l, e) = absurd (omega arith)

number_of : Ended → ℕ
number_of e = e.number

module _ {E G : Type 0} (caller : E → ℕ) (k o : Known E G) where
  abbrev both : Known E G
  both = merged caller k o

  ended_both : ended_numbers both ≡ (ended_numbers k ++ ended_numbers o) ++ o.number ∷ []
  ended_both = map-append (λ (e : Ended). e.number) (k.ended ++ o.ended) (record { number = o.number; places = mine caller o } ∷ [])
      ∙ ap (λ (l : List ℕ). l ++ o.number ∷ []) (map-append (λ (e : Ended). e.number) k.ended o.ended)

  ended_cases : (n : ℕ) → Contains (ended_numbers both) n → Contains (ended_numbers k) n ⊎ Owns o n
  ended_cases n c = ⊎_elim
      (λ h. ⊎_elim (λ x. inl x) (λ x. inr (inr x)) (Contains-append_cases (ended_numbers k) (ended_numbers o) n h))
      (λ h. inr (inl (contains_one o.number n h)))
      (Contains-append_cases (ended_numbers k ++ ended_numbers o) (o.number ∷ []) n (subst (λ (l : List ℕ). Contains l n) ended_both c))

  owns_cases : (n : ℕ) → Owns both n → Owns k n ⊎ Owns o n
  owns_cases n (inl e) = inl (inl e)
  owns_cases n (inr c) = ⊎_elim (λ x. inl (inr x)) (λ x. inr x) (ended_cases n c)

  still_ended : (n : ℕ) → Contains (ended_numbers k) n → Contains (ended_numbers both) n
  still_ended n c = subst (λ (l : List ℕ). Contains l n) (sym ended_both)
      (Contains-append_left (ended_numbers k ++ ended_numbers o) (o.number ∷ []) n (Contains-append_left (ended_numbers k) (ended_numbers o) n c))

  owns_left : (n : ℕ) → Owns k n → Owns both n
  owns_left n (inl e) = inl e
  owns_left n (inr c) = inr (still_ended n c)

  owns_right : (n : ℕ) → Owns o n → Owns both n
  owns_right n (inl e) = inr (subst (λ (l : List ℕ). Contains l n) (sym ended_both)
      (Contains-append_right (ended_numbers k ++ ended_numbers o) (o.number ∷ []) n (0, omega arith, sym e)))
  owns_right n (inr c) = inr (subst (λ (l : List ℕ). Contains l n) (sym ended_both)
      (Contains-append_left (ended_numbers k ++ ended_numbers o) (o.number ∷ []) n (Contains-append_right (ended_numbers k) (ended_numbers o) n c)))

  -- what the two had seen, and what the one has seen that they become
  record Fronts (log : List E) (seen : List E) : Type 0 where
    of_both : (rest : List E) × (log ≡ seen ++ rest) × Silent caller k rest × Silent caller o rest
    of_one : Grown caller k seen
    of_other : Grown caller o seen

  fronts_by : (log : List E) (g : Grown caller k log) (h : Grown caller o log) (b : Bool) → nat_lt (length k.seen) (length o.seen) ≡ b
      → Fronts log (if b then o.seen else k.seen)
  fronts_by log g h true is =
      let m = shorter_first k.seen g.0 o.seen h.0 (sym g.1 ∙ h.1) (omega (arith, ltb-true)) in record {
        of_both = (h.0, h.1, All-right (λ e. ¬ (Owns k (caller e))) m.0 h.0 g.0 m.2 g.2, h.2);
        of_one = (m.0, m.1, All-left (λ e. ¬ (Owns k (caller e))) m.0 h.0 g.0 m.2 g.2);
        of_other = ([], sym (append-nil o.seen), All-nil _);
      }
  fronts_by log g h false is =
      let m = shorter_first o.seen h.0 k.seen g.0 (sym h.1 ∙ g.1) (omega (arith, ltb-false)) in record {
        of_both = (g.0, g.1, g.2, All-right (λ e. ¬ (Owns o (caller e))) m.0 g.0 h.0 m.2 h.2);
        of_one = ([], sym (append-nil k.seen), All-nil _);
        of_other = (m.0, m.1, All-left (λ e. ¬ (Owns o (caller e))) m.0 g.0 h.0 m.2 h.2);
      }

  fronts : (log : List E) → Grown caller k log → Grown caller o log → Fronts log both.seen
  fronts log g h = fronts_by log g h (nat_lt (length k.seen) (length o.seen)) refl

  both_front : (log : List E) → Grown caller k log → Grown caller o log → SeenAFront caller (joining k o both) log
  both_front log g h = let f = fronts log g h in record {
    grown = (f.of_both.0, f.of_both.1, λ i d l own. ⊎_elim (λ x. f.of_both.2 i d l x) (λ x. f.of_both.3 i d l x) (owns_cases _ own));
    both = (f.of_one, f.of_other);
  }

module _ {E G : Type 0} where
  -- the seats after a join: the one that took in the other, the spent one, or another
  data Seats (views : List (View E G)) (id gone : ℕ) (b : View E G) (j : ℕ) (u : View E G) : Type 0 where
    here : j ≡ id → b ≡ u → Seats views id gone b j u
    left_over : spent ≡ u → Seats views id gone b j u
    other : j ≢ id → j ≢ gone → Sits views j u → Seats views id gone b j u

  seats : (views : List (View E G)) (id gone : ℕ) (b : View E G) (j : ℕ) (u : View E G) → Sits (set (set views id b) gone spent) j u → Seats views id gone b j u
  seats views id gone b j u e = ⊎_elim
      (λ h. left_over h.1)
      (λ h. ⊎_elim (λ t. here t.0 t.1) (λ t. other t.0 h.0 t.1) (at_set views id j b u h.1))
      (at_set (set views id b) gone j spent u e)

  covers_spent : (u : View E G) (n : ℕ) → spent ≡ u → Covers u.known n → ⊥
  covers_spent u n p h = ⊎_elim
      (λ x. let y = x.1 in omega arith)
      (λ x. let y = x.1 in omega arith)
      (let q : Covers (nobody {E = E} {G = G}) n = subst (λ (y : View E G). Covers y.known n) (sym p) h in q)

  module _ (caller : E → ℕ) (first : ℕ) (setting : G) (views : List (View E G)) (log : List E) (kept : NumbersKept caller views log first setting)
      (id gone : ℕ) (k o : Known E G) (at : Sits views id (idle k)) (at_gone : Sits views gone (idle o)) (differ : gone ≢ id) where
    abbrev b : View E G
    b = joining k o (merged caller k o)

    abbrev after : List (View E G)
    after = set (set views id b) gone spent

    stands : (j : ℕ) (u : View E G) → j ≢ id → j ≢ gone → Sits views j u → Sits after j u
    stands j u ne ne' a = set_else (set views id b) gone j spent ne' ∙ (set_else views id j b ne ∙ a)

    stands_here : Sits after id b
    stands_here = set_else (set views id b) gone id spent (λ e. differ (sym e)) ∙ set_here views id b (within views id (idle k) at)

    own_k : OwnNumbers first setting k
    own_k = kept.own id (idle k) at tt

    own_o : OwnNumbers first setting o
    own_o = kept.own gone (idle o) at_gone tt

    -- another seat covers nothing that the two covered
    clear : (j : ℕ) (u : View E G) (n : ℕ) → j ≢ id → j ≢ gone → Sits views j u → Covers u.known n → Covers b.known n → ⊥
    clear j u n ne ne' a h (inl span) = ne (kept.apart j id u (idle k) n a at h (inl span))
    clear j u n ne ne' a h (inr c) = ⊎_elim
        (λ x. ne (kept.apart j id u (idle k) n a at h (inr x)))
        (λ x. ne' (kept.apart j gone u (idle o) n a at_gone h (owns_covers first setting o n own_o x)))
        (ended_cases caller k o n c)

    pair_apart : (j i : ℕ) (u w : View E G) (n : ℕ) → Seats views id gone b j u → Seats views id gone b i w → Covers u.known n → Covers w.known n → j ≡ i
    pair_apart j i u w n (here e p) (here f q) h g = e ∙ sym f
    pair_apart j i u w n (here e p) (other f f' q) h g = absurd (clear i w n f f' q g (subst (λ (x : View E G). Covers x.known n) (sym p) h))
    pair_apart j i u w n (other e e' p) (here f q) h g = absurd (clear j u n e e' p h (subst (λ (x : View E G). Covers x.known n) (sym q) g))
    pair_apart j i u w n (other e e' p) (other f f' q) h g = kept.apart j i u w n p q h g
    pair_apart j i u w n (left_over p) s h g = absurd (covers_spent u n p h)
    pair_apart j i u w n (here e p) (left_over q) h g = absurd (covers_spent w n q g)
    pair_apart j i u w n (other e e' p) (left_over q) h g = absurd (covers_spent w n q g)

    own_both : OwnNumbers first setting b.known
    own_both = record {
      first_is = own_k.first_is;
      setting_is = own_k.setting_is;
      spans = own_k.spans;
      ended_outside = λ n c low high. ⊎_elim
          (λ x. own_k.ended_outside n x low high)
          (λ x. differ (kept.apart gone id (idle o) (idle k) n at_gone at (owns_covers first setting o n own_o x) (inl (low, high))))
          (ended_cases caller k o n c);
    }

    ended_stay : Grown caller o log → EndedStay caller b.known log
    ended_stay g = let P = λ (e : Ended). places caller e.number log ≡ e.places in
        All-append P (k.ended ++ o.ended) (record { number = o.number; places = mine caller o } ∷ [])
        (All-append P k.ended o.ended (kept.ended id (idle k) at tt) (kept.ended gone (idle o) at_gone tt))
        (All-cons P (record { number = o.number; places = mine caller o }) [] (mine-grown caller o log g) (All-nil _))

    each_own : (j : ℕ) (u : View E G) → Seats views id gone b j u → IsLive u.stage → OwnNumbers first setting u.known
    each_own j u (here e p) live = subst (λ (x : View E G). OwnNumbers first setting x.known) p own_both
    each_own j u (left_over p) live = absurd (let q : ⊥ = subst (λ (x : View E G). IsLive x.stage) (sym p) live in q)
    each_own j u (other e e' p) live = kept.own j u p live

    each_ended : Grown caller o log → (j : ℕ) (u : View E G) → Seats views id gone b j u → IsLive u.stage → EndedStay caller u.known log
    each_ended g j u (here e p) live = subst (λ (x : View E G). EndedStay caller x.known log) p (ended_stay g)
    each_ended g j u (left_over p) live = absurd (let q : ⊥ = subst (λ (x : View E G). IsLive x.stage) (sym p) live in q)
    each_ended g j u (other e e' p) live = kept.ended j u p live

    it_is : (j i : ℕ) (u w : View E G) → j ≡ i → Sits views j u → Sits views i w → u ≡ w
    it_is j i u w e a c = some-injective u w (sym a ∙ (ap (get_elem? views) e ∙ c))

    owned : (n : ℕ) → IsOwned views n → IsOwned after n
    owned n x = dite (ℕ_discrete x.0 id)
        (λ e. let it = it_is x.0 id x.1 (idle k) e x.2 at in (id, b, stands_here, tt, owns_left caller k o n (subst (λ (y : View E G). Owns y.known n) it x.4)))
        (λ ne. dite (ℕ_discrete x.0 gone)
        (λ e. let it = it_is x.0 gone x.1 (idle o) e x.2 at_gone in (id, b, stands_here, tt, owns_right caller k o n (subst (λ (y : View E G). Owns y.known n) it x.4)))
        (λ ne'. (x.0, x.1, stands x.0 x.1 ne ne' x.2, x.3, x.4)))

    rooted_as : (n : ℕ) → IsMade views n → IsMade after n
    rooted_as n x = dite (ℕ_discrete x.0 id)
        (λ e. let it = it_is x.0 id x.1 (idle k) e x.3 at in (
          id,
          b,
          x.2,
          stands_here,
          tt,
          owns_left caller k o x.2 (subst (λ (y : View E G). Owns y.known x.2) it x.5),
          x.6,
          Contains-append_left k.made o.made n (subst (λ (y : View E G). Contains y.known.made n) it x.7),
        ))
        (λ ne. dite (ℕ_discrete x.0 gone)
        (λ e. let it = it_is x.0 gone x.1 (idle o) e x.3 at_gone in (
          id,
          b,
          x.2,
          stands_here,
          tt,
          owns_right caller k o x.2 (subst (λ (y : View E G). Owns y.known x.2) it x.5),
          x.6,
          Contains-append_right k.made o.made n (subst (λ (y : View E G). Contains y.known.made n) it x.7),
        ))
        (λ ne'. (x.0, x.1, x.2, stands x.0 x.1 ne ne' x.3, x.4, x.5, x.6, x.7)))

    pub join_kept : Grown caller o log → NumbersKept caller after log first setting
    join_kept g = record {
      apart = λ j i u w n a c h h'. pair_apart j i u w n (seats views id gone b j u a) (seats views id gone b i w c) h h';
      own = λ j u a live. each_own j u (seats views id gone b j u a) live;
      ended = λ j u a live. each_ended g j u (seats views id gone b j u a) live;
      authored = All-weaker (λ e. IsOwned views (caller e)) (λ e. IsOwned after (caller e)) (λ e x. owned (caller e) x) log kept.authored;
    }

    each_rooted : NumbersRooted first views → (j : ℕ) (u : View E G) (n : ℕ) → Seats views id gone b j u → IsLive u.stage → Owns u.known n → n ≢ first → IsMade after n
    each_rooted rooted j u n (here e p) live h ne = ⊎_elim
        (λ x. rooted_as n (rooted id (idle k) n at tt x ne))
        (λ x. rooted_as n (rooted gone (idle o) n at_gone tt x ne))
        (owns_cases caller k o n (subst (λ (y : View E G). Owns y.known n) (sym p) h))
    each_rooted rooted j u n (left_over p) live h ne = absurd (let q : ⊥ = subst (λ (x : View E G). IsLive x.stage) (sym p) live in q)
    each_rooted rooted j u n (other e e' p) live h ne = rooted_as n (rooted j u n p live h ne)

    pub join_rooted : NumbersRooted first views → NumbersRooted first after
    join_rooted rooted j u n a live h ne = each_rooted rooted j u n (seats views id gone b j u a) live h ne

    each_seen : ((j : ℕ) (u : View E G) → Sits views j u → IsLive u.stage → SeenAFront caller u log)
        → (j : ℕ) (u : View E G) → Seats views id gone b j u → IsLive u.stage → SeenAFront caller u log
    each_seen seen j u (here e p) live = subst (λ (x : View E G). SeenAFront caller x log) p
        (both_front caller k o log (seen id (idle k) at tt).grown (seen gone (idle o) at_gone tt).grown)
    each_seen seen j u (left_over p) live = absurd (let q : ⊥ = subst (λ (x : View E G). IsLive x.stage) (sym p) live in q)
    each_seen seen j u (other e e' p) live = seen j u p live

    pub join_seen : ((j : ℕ) (u : View E G) → Sits views j u → IsLive u.stage → SeenAFront caller u log)
        → (j : ℕ) (u : View E G) → Sits after j u → IsLive u.stage → SeenAFront caller u log
    join_seen seen j u a live = each_seen seen j u (seats views id gone b j u a) live

    ticket_there : (j : ℕ) (u : View E G) (t : ℕ) → Seats views id gone b j u → HasTicket u.stage t → Sits views j u
    ticket_there j u t (here e p) h = absurd (let q : ⊥ = subst (λ (x : View E G). HasTicket x.stage t) (sym p) h in q)
    ticket_there j u t (left_over p) h = absurd (let q : ⊥ = subst (λ (x : View E G). HasTicket x.stage t) (sym p) h in q)
    ticket_there j u t (other e e' p) h = p

    pub join_tickets : (words : List ℕ) (turns : ℕ) → TicketsInOrder words views turns → TicketsInOrder words after turns
    join_tickets words turns x =
        let still : Sits (set views id b) gone (idle o) = set_else views id gone b differ ∙ at_gone in
        let one = total_set queued views id (idle k) b at in
        let two = total_set queued (set views id b) gone (idle o) spent still in
        let next : next_ticket turns after ≡ next_ticket turns views = omega arith in
        let wide = total_set width views id (idle k) b at in
        let wider = total_set width (set views id b) gone (idle o) spent still in
        let narrow = x.narrow in
        record {
          words_are = x.words_are ∙ ap (λ (n : ℕ). (n % 2 ^ 64) ∷ (turns % 2 ^ 64) ∷ []) (sym next);
          within = λ j u t a h. subst (λ (n : ℕ). (turns ≤ t) × (t < n)) (sym next) (x.within j u t (ticket_there j u t (seats views id gone b j u a) h) h);
          differ = λ j i u w t a c h g. x.differ j i u w t (ticket_there j u t (seats views id gone b j u a) h) (ticket_there i w t (seats views id gone b i w c) g) h g;
          narrow = omega arith;
        }

module _ {T E G : Type 0} (caller : E → ℕ) (history : T → List E) (setting_of : T → G) (Sound : T → Type 0) (first : ℕ) (setting : G) where
  abbrev St : Type 0
  St = State (Option T) (View E G)

  abbrev R : St → Type 0
  R s = Rule caller history setting_of Sound first setting s

  inside_there : (views : List (View E G)) (id gone : ℕ) (k o : Known E G) (j : ℕ) (u : View E G) (t : ℕ)
      → Seats views id gone (joining k o (merged caller k o)) j u → IsInside u.stage t → Sits views j u
  inside_there views id gone k o j u t (here e p) h = absurd (let q : ⊥ = subst (λ (x : View E G). IsInside x.stage t) (sym p) h in q)
  inside_there views id gone k o j u t (left_over p) h = absurd (let q : ⊥ = subst (λ (x : View E G). IsInside x.stage t) (sym p) h in q)
  inside_there views id gone k o j u t (other e e' p) h = p

  pub joins : (id gone : ℕ) (k o : Known E G) → Joins R id (idle k) gone (idle o) (joining k o (merged caller k o)) spent
  joins id gone k o s r at ne at_set_gone =
      let b : View E G = joining k o (merged caller k o) in
      let at_gone : Sits s.views gone (idle o) = sym (set_else s.views id gone b ne) ∙ at_set_gone in
      let grown = (r.seen gone (idle o) at_gone tt).grown in
      let there : (j : ℕ) (u : View E G) (t : ℕ) → Sits (set (set s.views id b) gone spent) j u → IsInside u.stage t → Sits s.views j u =
      (λ j u t a h. inside_there s.views id gone k o j u t (seats s.views id gone b j u a) h) in
      let outside : (j i : ℕ) (u : View E G) (z : Known E G) (t : ℕ) → Sits s.views j u → Sits s.views i (idle z) → IsInside u.stage t → j ≢ i =
      (λ j i u z t a c h e.
      let it : u ≡ idle z = some-injective u (idle z) (sym a ∙ (ap (get_elem? s.views) e ∙ c)) in
      subst (λ (x : View E G). IsInside x.stage t) it h) in
      record {
        turns = r.turns;
        log = r.log;
        tickets = join_tickets caller first setting s.views r.log r.numbers id gone k o at at_gone ne s.words r.turns r.tickets;
        slot = record {
          place = ⊎_elim
              (λ h. inl (h.0, h.1, h.2, h.3, h.4, λ j u t a in'. h.5 j u t (there j u t a in') in'))
              (λ h. inr (
                h.0,
                h.1,
                h.2,
                h.3,
                set_else (set s.views id b) gone h.2 spent (outside h.2 gone h.3 o r.turns h.4 at_gone h.5)
                    ∙ (set_else s.views id h.2 b (outside h.2 id h.3 k r.turns h.4 at h.5) ∙ h.4),
                h.5,
              ))
              r.slot.place;
          inside = λ j u t a in'. r.slot.inside j u t (there j u t a in') in';
        };
        seen = join_seen caller first setting s.views r.log r.numbers id gone k o at at_gone ne r.seen;
        numbers = join_kept caller first setting s.views r.log r.numbers id gone k o at at_gone ne grown;
        rooted = join_rooted caller first setting s.views r.log r.numbers id gone k o at at_gone ne r.rooted;
      }

  pub joins_at : (id gone : ℕ) (v w : View E G) → v ≡ idle v.known → w ≡ idle w.known → Joins R id v gone w (joined caller v w) spent
  joins_at id gone v w e f =
      subst (λ (x : View E G). Joins R id x gone w (joined caller x w) spent) (sym e)
      (subst (λ (y : View E G). Joins R id (idle v.known) gone y (joined caller (idle v.known) y) spent) (sym f) (joins id gone v.known w.known))
