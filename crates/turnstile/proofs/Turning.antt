-- The steps of a turn keep the rule.
use Rattle.std.proofs.Common.{◌≡◌, ◌≢◌, ◌⊎◌, ℕ, ◌+◌, ◌-◌, ◌%◌, ◌^◌, ◌==◌, List, [], ◌∷◌, ◌++◌, set, Option, Some, None, refl, sym, ap, ◌∙◌, subst, arith, append-nil, inl, inr, ⊎_elim}
use mathlib.Core.Option.{some, none, some-injective}
use mathlib.Core.Option as maybe
use mathlib.Core.Logic.{dite}
use native.Mathlib.Decide.{ℕ_discrete}
use prog.Atomic.{either}
use lib.ListN.{get_elem?}
use Rattle.std.specs.List.{All}
use Rattle.std.specs.Prelude.{slice_index, slice_set}
use Rattle.std.proofs.lemmas.List.Elements.{All-nil, All-cons}
use Rattle.atomic_table.specs.Table.{State, Me, step, keeps, takes, gives, stepped, Allows}
use Rattle.atomic_table.proofs.Lists.{at_set, set_here, one_turn, exchanged}
use Rattle.turnstile.specs.Knowledge.{Grown, Meets, Leaves, saw}
use Rattle.turnstile.specs.Turns.{Sits, HasTicket, IsInside, queued, next_ticket, TicketsInOrder}
use Rattle.turnstile.specs.Steps.{idle, cutting, waiting, inside, joining, drawn, looked, Taken, passed, left, noted, told}
use Rattle.turnstile.specs.declared.knowledge.Known.{Known}
use Rattle.turnstile.specs.declared.knowledge.View.{View}
use Rattle.turnstile.proofs.Moves.{total_set, within, Same, same_self}
use Rattle.turnstile.proofs.Tickets.{inside_ticket, queue_narrow, tickets_step, tickets_same, slot_same, moved, meets_log, Rule}

-- two words, of which one is written
first_word : (ws : List ℕ) (a b : ℕ) → ws ≡ a ∷ b ∷ [] → slice_index ws 0 ≡ a
first_word ws a b e = ap (λ (l : List ℕ). slice_index l 0) e

second_word : (ws : List ℕ) (a b : ℕ) → ws ≡ a ∷ b ∷ [] → slice_index ws 1 ≡ b
second_word ws a b e = ap (λ (l : List ℕ). slice_index l 1) e

first_kept : (ws : List ℕ) (a b : ℕ) → ws ≡ a ∷ b ∷ [] → slice_set ws 0 (slice_index ws 0) ≡ ws
first_kept ws a b e = subst (λ (l : List ℕ). slice_set l 0 (slice_index l 0) ≡ l) (sym e) refl

second_kept : (ws : List ℕ) (a b : ℕ) → ws ≡ a ∷ b ∷ [] → slice_set ws 1 (slice_index ws 1) ≡ ws
second_kept ws a b e = subst (λ (l : List ℕ). slice_set l 1 (slice_index l 1) ≡ l) (sym e) refl

carried : {T : Type 0} → List (ℕ × Option T) → Option T
carried [] = None
carried (c ∷ cs) = c.1

abbrev in_hand : {T : Type 0} → T → List (ℕ × Option T)
in_hand x = (0, Some x) ∷ []

one_value : {T : Type 0} (x y : T) → in_hand x ≡ in_hand y → x ≡ y
unfolding carried
one_value x y e = let is : Some x ≡ Some y = ap carried e in cc

module _ {T E G : Type 0} (caller : E → ℕ) (history : T → List E) (setting_of : T → G) (Sound : T → Type 0) (first : ℕ) (setting : G) where
  abbrev St : Type 0
  St = State (Option T) (View E G)

  abbrev R : St → Type 0
  R s = Rule caller history setting_of Sound first setting s

  -- a view that has seen all of the log
  seen_all : (k : Known E G) (h log : List E) → h ≡ log → Grown caller (saw k h) log
  seen_all k h log e = ([], sym e ∙ sym (append-nil h), All-nil _)

  pub draws : (slots id : ℕ) (k : Known E G) → Allows R slots id (idle k, []) 0 (λ x. (x + 1) % 2 ^ 64) (drawn (idle k, []))
  draws slots id k s r wide at small =
      let end = next_ticket r.turns s.views in
      let w : View E G = waiting k end in
      let same : Same (idle k) w = record { known = refl; lives = λ _. tt; lived = λ _. tt } in
      let sum = total_set queued s.views id (idle k) w at in
      let next : next_ticket r.turns (set s.views id w) ≡ end + 1 = omega arith in
      let found = first_word s.words _ _ r.tickets.words_are in
      let more : (slice_index s.words 0 + 1) % 2 ^ 64 ≡ next_ticket r.turns (set s.views id w) % 2 ^ 64 =
      ap (λ (n : ℕ). (n + 1) % 2 ^ 64) found ∙ (let p : (end % 2 ^ 64 + 1) % 2 ^ 64 ≡ (end + 1) % 2 ^ 64 = omega arith in p ∙ ap (λ (n : ℕ). n % 2 ^ 64) (sym next)) in
      let words : slice_set s.words 0 ((slice_index s.words 0 + 1) % 2 ^ 64) ≡ (next_ticket r.turns (set s.views id w) % 2 ^ 64) ∷ (r.turns % 2 ^ 64) ∷ [] =
      ap (λ (l : List ℕ). slice_set l 0 ((slice_index s.words 0 + 1) % 2 ^ 64)) r.tickets.words_are ∙ ap (λ (n : ℕ). n ∷ (r.turns % 2 ^ 64) ∷ []) more in
      let front = r.seen id (idle k) at tt in (
        w,
        keeps,
        tt,
        moved caller history setting_of Sound first setting s r id (idle k) w at same tt [] r.log (All-nil _) (append-nil r.log) (record { grown = front.grown; both = tt })
            _ s.homes r.turns
            (tickets_step s.words s.views r.turns r.tickets id (idle k) w at same _ r.turns words
            (λ t h. let is : end ≡ t = h in (omega arith, omega arith))
            (λ j u t a other h. let b = r.tickets.within j u t a h in (b.0, (let c = b.1 in omega arith)))
            (λ j u t a other h h'. let b = r.tickets.within j u t a h in let is : end ≡ t = h' in let c = b.1 in absurd (omega arith)))
            (slot_same caller history setting_of Sound first setting s.homes s.views r.turns r.log r.slot id (idle k) w at (λ t x. x) (λ t x. x)),
        (end, found, refl),
      )

  -- the ticket that is served is the thread's own: the value is at home, and goes out to it
  takes_turn : (slots id : ℕ) (k : Known E G) (t : ℕ) (s : St) (r : R s) → Sits s.views id (waiting k t) → t ≡ r.turns
      → (x : T) → s.homes ≡ some (Some x) ∷ [] → history x ≡ r.log → setting_of x ≡ setting → Sound x
      → ((seat : ℕ) (v : View E G) (u : ℕ) → Sits s.views seat v → ¬ (IsInside v.stage u))
      → R (stepped s 1 (slice_index s.words 1) id [] (inside (saw k (history x)) t) (takes 0 (Some x)))
      × Taken caller history setting_of Sound k t (inside (saw k (history x)) t, (0, Some x) ∷ [])
  takes_turn slots id k t s r at now x home log_is set_is sound nobody =
      let v : View E G = waiting k t in
      let w : View E G = inside (saw k (history x)) t in
      let same : Same v w = record { known = refl; lives = λ _. tt; lived = λ _. tt } in
      let words = second_kept s.words _ _ r.tickets.words_are in
      let own = r.numbers.own id v at tt in (
        moved caller history setting_of Sound first setting s r id v w at same tt [] r.log (All-nil _) (append-nil r.log)
            (record { grown = seen_all k (history x) r.log log_is; both = tt })
            _ _ r.turns
            (subst (λ (ws : List ℕ). TicketsInOrder ws (set s.views id w) r.turns) (sym words) (tickets_same s.words s.views r.turns r.tickets id v w at same refl (λ u h. h)))
            (record {
              place = inr (none, ap (λ (hs : List (maybe.Option (Option T))). slice_set hs 0 none) home, id, w, set_here s.views id w (within s.views id v at), now);
              inside = λ j u t' a in'. ⊎_elim
                  (λ here. let is = subst (λ (y : View E G). IsInside y.stage t') (sym here.1) in' in
                  (sym is ∙ now, ap (λ (y : View E G). y.known.seen) (sym here.1) ∙ log_is))
                  (λ there. absurd (nobody j u t' there.1 in'))
                  (at_set s.views id j w u a);
            }),
        record {
          value = x;
          now = refl;
          setting_is = own.setting_is ∙ ap Some (sym set_is);
          sound = sound;
          meets = subst (λ (h : List E). Meets caller k h) (sym log_is) (meets_log caller history setting_of Sound first setting s r id v at tt);
        },
      )

  -- another ticket is served: nothing changes
  looks_on : (id : ℕ) (k : Known E G) (t : ℕ) (s : St) (r : R s) → Sits s.views id (waiting k t) → R (stepped s 1 (slice_index s.words 1) id [] (waiting k t) keeps)
  looks_on id k t s r at =
      let v : View E G = waiting k t in
      let words = second_kept s.words _ _ r.tickets.words_are in
      moved caller history setting_of Sound first setting s r id v v at (same_self v) tt [] r.log (All-nil _) (append-nil r.log) (r.seen id v at tt) _ s.homes r.turns
      (subst (λ (ws : List ℕ). TicketsInOrder ws (set s.views id v) r.turns) (sym words) (tickets_same s.words s.views r.turns r.tickets id v v at (same_self v) refl (λ u h. h)))
      (slot_same caller history setting_of Sound first setting s.homes s.views r.turns r.log r.slot id v v at (λ u x. x) (λ u x. x))

  pub looks : (slots id : ℕ) (k : Known E G) (t : ℕ)
      → Allows R slots id (waiting k t, []) 1 (λ x. x) (looked caller history setting_of Sound (waiting k t, []))
  looks slots id k t s r wide at small =
      let v : View E G = waiting k t in
      let n = slice_index s.words 1 in
      let found : n ≡ r.turns % 2 ^ 64 = second_word s.words _ _ r.tickets.words_are in
      let mine = r.tickets.within id v t at refl in
      let narrow = queue_narrow caller s.views r.log first setting r.numbers r.tickets.narrow in
      dite (ℕ_discrete n (t % 2 ^ 64))
      (λ hit.
      let low = mine.0 in
      let high = mine.1 in
      let one : r.turns ≡ t = one_turn r.turns t (2 ^ 64) low (omega arith) (sym found ∙ hit) in
      ⊎_elim
      (λ h.
      let go = takes_turn slots id k t s r at (sym one) h.0 h.1 h.2 h.3 h.4 h.5 in (
        inside (saw k (history h.0)) t,
        takes 0 (Some h.0),
        ap (λ (hs : List (maybe.Option (Option T))). get_elem? hs 0) h.1,
        go.0,
        (λ t' is.
            let same_ticket : t ≡ t' = cc in (
              (λ _. subst (λ (z : ℕ). Taken caller history setting_of Sound k z (inside (saw k (history h.0)) t, (0, Some h.0) ∷ [])) same_ticket go.1),
              λ miss. absurd (miss (hit ∙ ap (λ (z : ℕ). z % 2 ^ 64) same_ticket)),
            )),
      ))
      (λ h.
      let here = r.tickets.differ h.2 id h.3 v r.turns h.4 at (inside_ticket h.3.stage r.turns h.5) (sym one) in
      let it : h.3 ≡ v = some-injective h.3 v (sym h.4 ∙ (ap (get_elem? s.views) here ∙ at)) in
      absurd (subst (λ (y : View E G). IsInside y.stage r.turns) it h.5))
      r.slot.place)
      (λ miss. (
        v,
        keeps,
        tt,
        looks_on id k t s r at,
        (λ t' is.
            let same_ticket : t ≡ t' = cc in ((λ hit. absurd (miss (hit ∙ ap (λ (z : ℕ). z % 2 ^ 64) (sym same_ticket)))), λ _. refl)),
      ))

  -- what was done in the turn is entries of the pass's caller
  entered : (k : Known E G) (h log : List E) → k.seen ≡ log → Leaves caller k h → (es : List E) × All (λ e. caller e ≡ k.number) es × (log ++ es ≡ h)
  entered k h log seen (inl e) = ([], All-nil _, append-nil log ∙ (sym seen ∙ sym e))
  entered k h log seen (inr e) = (e.0 ∷ [], All-cons (λ x. caller x ≡ k.number) e.0 [] e.2 (All-nil _), ap (λ (l : List E). l ++ e.0 ∷ []) (sym seen) ∙ sym e.1)

  pub passes : (slots id : ℕ) (k : Known E G) (t : ℕ) (x : T) → k.setting ≡ Some (setting_of x) → Sound x → Leaves caller k (history x)
      → Allows R slots id (inside k t, (0, Some x) ∷ []) 1 (λ n. (n + 1) % 2 ^ 64) (passed history (inside k t, (0, Some x) ∷ []))
  passes slots id k t x set_is sound does s r wide at small =
      let v : View E G = inside k t in
      let w : View E G = idle (saw k (history x)) in
      let same : Same v w = record { known = refl; lives = λ _. tt; lived = λ _. tt } in
      let in_turn = r.slot.inside id v t at refl in
      let now : t ≡ r.turns = in_turn.0 in
      let more = entered k (history x) r.log in_turn.1 does in
      let own = r.numbers.own id v at tt in
      let set_same : setting_of x ≡ setting = (let e : Some (setting_of x) ≡ Some setting = sym set_is ∙ own.setting_is in cc) in
      let sum = total_set queued s.views id v w at in
      let next : next_ticket (r.turns + 1) (set s.views id w) ≡ next_ticket r.turns s.views = omega arith in
      let found = second_word s.words _ _ r.tickets.words_are in
      let words : slice_set s.words 1 ((slice_index s.words 1 + 1) % 2 ^ 64) ≡ (next_ticket (r.turns + 1) (set s.views id w) % 2 ^ 64) ∷ ((r.turns + 1) % 2 ^ 64) ∷ [] =
      ap (λ (l : List ℕ). slice_set l 1 ((slice_index s.words 1 + 1) % 2 ^ 64)) r.tickets.words_are
      ∙ (ap (λ (n : ℕ). (n % 2 ^ 64) ∷ ((slice_index s.words 1 + 1) % 2 ^ 64) ∷ []) (sym next)
      ∙ ap (λ (n : ℕ). (next_ticket (r.turns + 1) (set s.views id w) % 2 ^ 64) ∷ n ∷ [])
      (ap (λ (n : ℕ). (n + 1) % 2 ^ 64) found ∙ (let p : (r.turns % 2 ^ 64 + 1) % 2 ^ 64 ≡ (r.turns + 1) % 2 ^ 64 = omega arith in p))) in
      let alone : (j : ℕ) (u : View E G) (t' : ℕ) → Sits s.views j u → j ≢ id → HasTicket u.stage t' → t' ≢ r.turns =
      (λ j u t' a other h is. other (r.tickets.differ j id u v t' a at h (now ∙ sym is))) in
      let outside : (j : ℕ) (u : View E G) (t' : ℕ) → Sits (set s.views id w) j u → ¬ (IsInside u.stage t') =
      (λ j u t' a in'. ⊎_elim
      (λ here. subst (λ (y : View E G). IsInside y.stage t') (sym here.1) in')
      (λ there. alone j u t' there.1 there.0 (inside_ticket u.stage t' in') (r.slot.inside j u t' there.1 in').0)
      (at_set s.views id j w u a)) in
      let homes : slice_set s.homes 0 (some (Some x)) ≡ some (Some x) ∷ [] = ⊎_elim
      (λ h. absurd (h.5 id v t at refl))
      (λ h. ap (λ (hs : List (maybe.Option (Option T))). slice_set hs 0 (some (Some x))) h.1)
      r.slot.place in (
        w,
        gives,
        tt,
        moved caller history setting_of Sound first setting s r id v w at same tt more.0 (history x) more.1 more.2
            (record { grown = seen_all k (history x) (history x) refl; both = tt })
            _ _ (r.turns + 1)
            (tickets_step s.words s.views r.turns r.tickets id v w at same _ (r.turns + 1) words
            (λ t' h. absurd h)
            (λ j u t' a other h.
            let b = r.tickets.within j u t' a h in
            let low = b.0 in
            let high = b.1 in
            let ne = alone j u t' a other h in
            dite (ℕ_discrete t' r.turns) (λ is. absurd (ne is)) (λ not. (omega arith, omega arith)))
            (λ j u t' a other h h'. h'))
            (record { place = inl (x, homes, refl, set_same, sound, outside); inside = λ j u t' a in'. absurd (outside j u t' a in') }),
        (λ x' is. ap (λ (y : T). (idle (saw k (history y)), [])) (one_value x x' is)),
      )

  pub leaves : (slots id : ℕ) (k : Known E G) (t : ℕ) → Allows R slots id (inside k t, (0, None) ∷ []) 1 (λ n. n) (left (inside k t, (0, None) ∷ []))
  leaves slots id k t s r wide at small =
      let v : View E G = inside k t in
      let words = second_kept s.words _ _ r.tickets.words_are in
      let homes : slice_set s.homes 0 (some None) ≡ some None ∷ [] = ⊎_elim
      (λ h. ap (λ (hs : List (maybe.Option (Option T))). slice_set hs 0 (some None)) h.1)
      (λ h. ap (λ (hs : List (maybe.Option (Option T))). slice_set hs 0 (some None)) h.1)
      r.slot.place in (
        v,
        gives,
        tt,
        moved caller history setting_of Sound first setting s r id v v at (same_self v) tt [] r.log (All-nil _) (append-nil r.log) (r.seen id v at tt) _ _ r.turns
            (subst (λ (ws : List ℕ). TicketsInOrder ws (set s.views id v) r.turns) (sym words) (tickets_same s.words s.views r.turns r.tickets id v v at (same_self v) refl (λ u h. h)))
            (record {
              place = inr (some None, homes, id, v, set_here s.views id v (within s.views id v at), (r.slot.inside id v t at refl).0);
              inside = λ j u t' a in'. ⊎_elim
                  (λ here. subst (λ (y : View E G). (t' ≡ r.turns) × (y.known.seen ≡ r.log)) here.1
                  (r.slot.inside id v t' at (subst (λ (y : View E G). IsInside y.stage t') (sym here.1) in')))
                  (λ there. r.slot.inside j u t' there.1 in')
                  (at_set s.views id j v u a);
            }),
        refl,
      )

  pub notes : (slots id : ℕ) (k : Known E G) (c : ℕ) → Allows R slots id (idle k, []) 0 (λ n. either (n == c) c n) (noted (step slots 0 c c none) (idle k, []))
  notes slots id k c s r wide at small =
      let v : View E G = idle k in
      let w : View E G = cutting k c in
      let same : Same v w = record { known = refl; lives = λ _. tt; lived = λ _. tt } in
      let n = slice_index s.words 0 in
      let kept = first_kept s.words _ _ r.tickets.words_are in
      let words : slice_set s.words 0 (either (n == c) c n) ≡ s.words =
      exchanged n c c (λ (z : ℕ). slice_set s.words 0 z ≡ s.words) (λ is. ap (λ (z : ℕ). slice_set s.words 0 z) (sym is) ∙ kept) (λ _. kept) in
      let front = r.seen id v at tt in (
        w,
        keeps,
        tt,
        moved caller history setting_of Sound first setting s r id v w at same tt [] r.log (All-nil _) (append-nil r.log) (record { grown = front.grown; both = tt }) _ s.homes r.turns
            (subst (λ (ws : List ℕ). TicketsInOrder ws (set s.views id w) r.turns) (sym words) (tickets_same s.words s.views r.turns r.tickets id v w at same refl (λ u h. h)))
            (slot_same caller history setting_of Sound first setting s.homes s.views r.turns r.log r.slot id v w at (λ u x. x) (λ u x. x)),
        refl,
      )

  pub tells : (slots id : ℕ) (k o both : Known E G) → Allows R slots id (joining k o both, []) 0 (λ n. n) (told caller (joining k o both, []))
  tells slots id k o both s r wide at small =
      let v : View E G = joining k o both in
      let w : View E G = idle both in
      let same : Same v w = record { known = refl; lives = λ _. tt; lived = λ _. tt } in
      let words = first_kept s.words _ _ r.tickets.words_are in
      let front = r.seen id v at tt in (
        w,
        keeps,
        tt,
        moved caller history setting_of Sound first setting s r id v w at same tt [] r.log (All-nil _) (append-nil r.log) (record { grown = front.grown; both = tt }) _ s.homes r.turns
            (subst (λ (ws : List ℕ). TicketsInOrder ws (set s.views id w) r.turns) (sym words) (tickets_same s.words s.views r.turns r.tickets id v w at same refl (λ u h. h)))
            (slot_same caller history setting_of Sound first setting s.homes s.views r.turns r.log r.slot id v w at (λ u x. x) (λ u x. x)),
        (λ k' o' is.
            let one : k ≡ k' = cc in
            let two : o ≡ o' = cc in
            (refl, subst (λ (z : Known E G). Grown caller z both.seen) one front.both.0, subst (λ (z : Known E G). Grown caller z both.seen) two front.both.1)),
      )

  abbrev M : Type 0
  M = Me (Option T) (View E G)

  -- the same at a view that is equal to one of these
  pub draws_at : (slots id : ℕ) (me : M) (k : Known E G) → me ≡ (idle k, []) → Allows R slots id me 0 (λ x. (x + 1) % 2 ^ 64) (drawn me)
  draws_at slots id me k e = subst (λ (m : M). Allows R slots id m 0 (λ x. (x + 1) % 2 ^ 64) (drawn m)) (sym e) (draws slots id k)

  pub looks_at : (slots id : ℕ) (me : M) (k : Known E G) (t : ℕ) → me ≡ (waiting k t, []) → Allows R slots id me 1 (λ x. x) (looked caller history setting_of Sound me)
  looks_at slots id me k t e = subst (λ (m : M). Allows R slots id m 1 (λ x. x) (looked caller history setting_of Sound m)) (sym e) (looks slots id k t)

  pub passes_at : (slots id : ℕ) (me : M) (k : Known E G) (t : ℕ) (x : T) → me ≡ (inside k t, (0, Some x) ∷ []) → k.setting ≡ Some (setting_of x) → Sound x
      → Leaves caller k (history x) → Allows R slots id me 1 (λ n. (n + 1) % 2 ^ 64) (passed history me)
  passes_at slots id me k t x e set_is sound does =
      subst (λ (m : M). Allows R slots id m 1 (λ n. (n + 1) % 2 ^ 64) (passed history m)) (sym e) (passes slots id k t x set_is sound does)

  pub leaves_at : (slots id : ℕ) (me : M) (k : Known E G) (t : ℕ) → me ≡ (inside k t, (0, None) ∷ []) → Allows R slots id me 1 (λ n. n) (left me)
  leaves_at slots id me k t e = subst (λ (m : M). Allows R slots id m 1 (λ n. n) (left m)) (sym e) (leaves slots id k t)

  pub notes_at : (slots id : ℕ) (me : M) (k : Known E G) (c : ℕ) → me ≡ (idle k, []) → Allows R slots id me 0 (λ n. either (n == c) c n) (noted (step slots 0 c c none) me)
  notes_at slots id me k c e = subst (λ (m : M). Allows R slots id m 0 (λ n. either (n == c) c n) (noted (step slots 0 c c none) m)) (sym e) (notes slots id k c)

  pub tells_at : (slots id : ℕ) (me : M) (k o both : Known E G) → me ≡ (joining k o both, []) → Allows R slots id me 0 (λ n. n) (told caller me)
  tells_at slots id me k o both e = subst (λ (m : M). Allows R slots id m 0 (λ n. n) (told caller m)) (sym e) (tells slots id k o both)
