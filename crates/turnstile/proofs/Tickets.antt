-- What a step does to the tickets, the slot and the whole rule.
use Rattle.std.proofs.Common.{◌≡◌, ◌≢◌, ◌⊎◌, ℕ, zero, suc, ◌+◌, ◌-◌, ◌%◌, ◌^◌, ◌<◌, ◌≤◌, List, [], ◌∷◌, ◌++◌, set, Option, refl, sym, ap, ◌∙◌, subst, arith, inl, inr, ⊎_elim}
use mathlib.Core.Option.{some, some-injective}
use mathlib.Core.Option as maybe
use mathlib.Core.Logic.{dite}
use native.Mathlib.Decide.{ℕ_discrete}
use lib.ListN.{get_elem?}
use Rattle.std.specs.List.{All, Contains, sum_by}
use Rattle.std.proofs.lemmas.List.Elements.{All-weaker}
use Rattle.std.proofs.lemmas.List.Sums.{sum_by-cons}
use Rattle.atomic_table.specs.Table.{State}
use Rattle.atomic_table.proofs.Lists.{at_set, set_else}
use Rattle.turnstile.specs.Knowledge.{Owns, Meets, ended_numbers}
use Rattle.turnstile.specs.Turns.{Sits, IsLive, HasTicket, IsInside, tickets_of, queued, width, next_ticket, TicketsInOrder, NumbersKept, IsOwned, SeenAFront, SlotInPlace, TakesTurns}
use Rattle.turnstile.specs.declared.knowledge.View.{View}
use Rattle.turnstile.specs.declared.knowledge.Stage.{Stage}
use Rattle.turnstile.specs.declared.knowledge.Stage.TheVariants.{Idle, Cutting, Waiting, Inside, Joining, Spent}
use Rattle.turnstile.proofs.Places.{mine-grown}
use Rattle.turnstile.proofs.Moves.{total_set, within, Same, owns_covers, width_after, seen_after, kept_after, rooted_after}

total_le : {A : Type 0} (f g : A → ℕ) (l : List A) → ((i : ℕ) (a : A) → get_elem? l i ≡ some a → f a ≤ g a) → sum_by f l ≤ sum_by g l
total_le f g [] h = omega arith
total_le f g (x ∷ xs) h =
    let here = h 0 x refl in
    let r = total_le f g xs (λ i a e. h (suc i) a e) in
    let a = sum_by-cons f x xs in
    let b = sum_by-cons g x xs in
    omega arith

module _ {E G : Type 0} where
  pub inside_ticket : (st : Stage E G) (t : ℕ) → IsInside st t → HasTicket st t
  inside_ticket Idle t h = elim h [ ]
  inside_ticket (Cutting _) t h = elim h [ ]
  inside_ticket (Waiting _) t h = elim h [ ]
  inside_ticket (Inside u) t h = h
  inside_ticket (Joining _ _) t h = elim h [ ]
  inside_ticket Spent t h = elim h [ ]

  ticket_live : (st : Stage E G) (t : ℕ) → HasTicket st t → IsLive st
  ticket_live Idle t h = elim h [ ]
  ticket_live (Cutting _) t h = elim h [ ]
  ticket_live (Joining _ _) t h = elim h [ ]
  ticket_live Spent t h = elim h [ ]
  ticket_live (Waiting u) t h = tt
  ticket_live (Inside u) t h = tt

  tickets_le : (st : Stage E G) (n : ℕ) → (IsLive st → 0 < n) → tickets_of st ≤ n
  tickets_le (Waiting t) n h = let k = h tt in omega arith
  tickets_le (Inside t) n h = let k = h tt in omega arith
  tickets_le Idle n h = omega arith
  tickets_le (Cutting c) n h = omega arith
  tickets_le (Joining k o) n h = omega arith
  tickets_le Spent n h = omega arith

  -- fewer tickets are out than the words can tell apart
  pub queue_narrow : (caller : E → ℕ) (views : List (View E G)) (log : List E) (first : ℕ) (setting : G) → NumbersKept caller views log first setting
      → sum_by width views ≤ 2 ^ 32 → sum_by queued views ≤ 2 ^ 32
  queue_narrow caller views log first setting kept narrow =
      let r = total_le queued width views (λ i v e. tickets_le v.stage (width v) (λ live. let s = (kept.own i v e live).spans in omega arith)) in omega arith

  module _ (words : List ℕ) (views : List (View E G)) (turns : ℕ) (r : TicketsInOrder words views turns) (i : ℕ) (v w : View E G) (at : Sits views i v) (same : Same v w) where
    next' : ℕ → ℕ
    next' turns' = next_ticket turns' (set views i w)

    pub tickets_step : (words' : List ℕ) (turns' : ℕ) → words' ≡ (next_ticket turns' (set views i w) % 2 ^ 64) ∷ (turns' % 2 ^ 64) ∷ []
        → ((t : ℕ) → HasTicket w.stage t → (turns' ≤ t) × (t < next_ticket turns' (set views i w)))
        → ((j : ℕ) (u : View E G) (t : ℕ) → Sits views j u → j ≢ i → HasTicket u.stage t → (turns' ≤ t) × (t < next_ticket turns' (set views i w)))
        → ((j : ℕ) (u : View E G) (t : ℕ) → Sits views j u → j ≢ i → HasTicket u.stage t → HasTicket w.stage t → ⊥)
        → TicketsInOrder words' (set views i w) turns'
    tickets_step words' turns' is own others fresh = record {
      words_are = is;
      within = λ j u t a h. ⊎_elim
          (λ here. own t (subst (λ (x : View E G). HasTicket x.stage t) (sym here.1) h))
          (λ there. others j u t there.1 there.0 h)
          (at_set views i j w u a);
      differ = λ j k u x t a b g h. ⊎_elim
          (λ here. ⊎_elim
          (λ here'. here.0 ∙ sym here'.0)
          (λ there'. absurd (fresh k x t there'.1 there'.0 h (subst (λ (y : View E G). HasTicket y.stage t) (sym here.1) g)))
          (at_set views i k w x b))
          (λ there. ⊎_elim
          (λ here'. absurd (fresh j u t there.1 there.0 g (subst (λ (y : View E G). HasTicket y.stage t) (sym here'.1) h)))
          (λ there'. r.differ j k u x t there.1 there'.1 g h)
          (at_set views i k w x b))
          (at_set views i j w u a);
      narrow = width_after views i v w at same r.narrow;
    }

    -- the view keeps its ticket, if it has one
    pub tickets_same : tickets_of w.stage ≡ tickets_of v.stage → ((t : ℕ) → HasTicket w.stage t → HasTicket v.stage t) → TicketsInOrder words (set views i w) turns
    tickets_same count has =
        let sum = total_set queued views i v w at in
        let next : next_ticket turns (set views i w) ≡ next_ticket turns views = omega arith in
        tickets_step words turns
        (r.words_are ∙ ap (λ (n : ℕ). (n % 2 ^ 64) ∷ (turns % 2 ^ 64) ∷ []) (sym next))
        (λ t h. subst (λ (n : ℕ). (turns ≤ t) × (t < n)) (sym next) (r.within i v t at (has t h)))
        (λ j u t a _ h. subst (λ (n : ℕ). (turns ≤ t) × (t < n)) (sym next) (r.within j u t a h))
        (λ j u t a other h h'. other (r.differ j i u v t a at h (has t h')))

module _ {T E G : Type 0} (caller : E → ℕ) (history : T → List E) (setting_of : T → G) (Sound : T → Type 0) (first : ℕ) (setting : G) where
  abbrev pub Rule : State (Option T) (View E G) → Type 0
  Rule s = TakesTurns caller history setting_of Sound first setting s

  abbrev pub Slot : List (maybe.Option (Option T)) → List (View E G) → ℕ → List E → Type 0
  Slot homes views turns log = SlotInPlace history setting_of Sound homes views turns log setting

  -- a view that isn't inside stays outside
  pub slot_same : (homes : List (maybe.Option (Option T))) (views : List (View E G)) (turns : ℕ) (log : List E) → Slot homes views turns log
      → (i : ℕ) (v w : View E G) → Sits views i v → ((t : ℕ) → ¬ (IsInside v.stage t)) → ((t : ℕ) → ¬ (IsInside w.stage t)) → Slot homes (set views i w) turns log
  slot_same homes views turns log r i v w at out still = record {
    place = ⊎_elim
        (λ h. inl (
          h.0,
          h.1,
          h.2,
          h.3,
          h.4,
          λ j u t a in'. ⊎_elim
              (λ here. still t (subst (λ (x : View E G). IsInside x.stage t) (sym here.1) in'))
              (λ there. h.5 j u t there.1 in')
              (at_set views i j w u a),
        ))
        (λ h. inr (
          h.0,
          h.1,
          h.2,
          h.3,
          set_else views i h.2 w (λ here. out turns
              (subst (λ (x : View E G). IsInside x.stage turns) (some-injective h.3 v (sym h.4 ∙ (ap (get_elem? views) here ∙ at))) h.5)) ∙ h.4,
          h.5,
        ))
        r.place;
    inside = λ j u t a in'. ⊎_elim
        (λ here. absurd (still t (subst (λ (x : View E G). IsInside x.stage t) (sym here.1) in')))
        (λ there. r.inside j u t there.1 in')
        (at_set views i j w u a);
  }

  -- one view changes
  pub moved : (s : State (Option T) (View E G)) (r : Rule s) (i : ℕ) (v w : View E G) → Sits s.views i v → Same v w → IsLive v.stage
      → (es log : List E) → All (λ e. caller e ≡ v.known.number) es → r.log ++ es ≡ log → SeenAFront caller w log
      → (words : List ℕ) (homes : List (maybe.Option (Option T))) (turns : ℕ) → TicketsInOrder words (set s.views i w) turns → Slot homes (set s.views i w) turns log
      → Rule (record { words = words; homes = homes; views = set s.views i w })
  moved s r i v w at same live es log by_it is front words homes turns tickets slot = record {
    turns = turns;
    log = log;
    tickets = tickets;
    slot = slot;
    seen = subst (λ (l : List E). (j : ℕ) (u : View E G) → Sits (set s.views i w) j u → IsLive u.stage → SeenAFront caller u l) is
        (seen_after s.views i v w at same caller first setting r.log es r.numbers live by_it r.seen (subst (λ (l : List E). SeenAFront caller w l) (sym is) front));
    numbers = subst (λ (l : List E). NumbersKept caller (set s.views i w) l first setting) is (kept_after s.views i v w at same caller first setting r.log es r.numbers live by_it);
    rooted = rooted_after s.views i v w at same first r.rooted;
  }

  -- where the first pass has taken in all that were split off, each owned number is its own
  owned_by_first : (s : State (Option T) (View E G)) (r : Rule s) (i : ℕ) (v : View E G) → Sits s.views i v → IsLive v.stage → v.known.number ≡ v.known.first
      → ((n : ℕ) → Contains v.known.made n → Contains (ended_numbers v.known) n) → (bound n : ℕ) → n < bound
      → (j : ℕ) (u : View E G) → Sits s.views j u → IsLive u.stage → Owns u.known n → Owns v.known n
  owned_by_first s r i v at live is joined zero n h j u a alive own = absurd (omega arith)
  owned_by_first s r i v at live is joined (suc bound) n h j u a alive own =
      let mine = r.numbers.own i v at live in
      dite (ℕ_discrete n first)
      (λ n_first. inl (n_first ∙ (sym mine.first_is ∙ sym is)))
      (λ other.
      let m = r.rooted j u n a alive own other in
      let lower = owned_by_first s r i v at live is joined bound m.2 (omega arith) m.0 m.1 m.3 m.4 m.5 in
      let root = r.numbers.own m.0 m.1 m.3 m.4 in
      let here = r.numbers.apart m.0 i m.1 v m.2 m.3 at (owns_covers first setting m.1.known m.2 root m.5) (owns_covers first setting v.known m.2 mine lower) in
      let it : m.1 ≡ v = some-injective m.1 v (sym m.3 ∙ (ap (get_elem? s.views) here ∙ at)) in
      inr (joined n (subst (λ (x : View E G). Contains x.known.made n) it m.7)))

  pub meets_log : (s : State (Option T) (View E G)) (r : Rule s) (i : ℕ) (v : View E G) → Sits s.views i v → IsLive v.stage → Meets caller v.known r.log
  meets_log s r i v at live = let g = (r.seen i v at live).grown in record {
    grown = g;
    mine = mine-grown caller v.known r.log g;
    ended = r.numbers.ended i v at live;
    whole = λ is joined. All-weaker (λ e. IsOwned s.views (caller e)) (λ e. Owns v.known (caller e))
        (λ e o. owned_by_first s r i v at live is joined (suc (caller e)) (caller e) (omega arith) o.0 o.1 o.2 o.3 o.4) r.log r.numbers.authored;
  }
