-- A search from one subroutine: what is marked and what waits.
use Rattle.std.proofs.Common.{◌≡◌, ℕ, zero, suc, ◌<◌, ◌⊎◌, ◌↔◌, Bool, List, [], ◌∷◌, ◌++◌, length, get_or, sym, ◌∙◌, subst, refl, inl, inr, arith}
use Rattle.std.proofs.lemmas.List.{get_or_default}
use Rattle.vcl_symbols.specs.declared.call_graph.Call.{Call}
use Rattle.vcl_symbols.specs.Calls.{Calls, Walk, Reaches, AreWithin, Marked}
use Rattle.vcl_symbols.specs.Visits.{callees_of, Among, AreRows, Visited}
use Rattle.vcl_symbols.proofs.RowLemmas.{Among-from_Calls, Calls-from_Among, Calls-within}
use Rattle.vcl_symbols.proofs.VisitLemmas.{Among-last, Among-front, Among-parts, Marked-below}

-- what is marked is reached, what waits is marked, and what is marked and doesn't wait has all that it calls marked
pub record Searched (calls : List Call) (from count : ℕ) (marks : List Bool) (waiting : List ℕ) : Type 0 where
  pub long : length marks ≡ count
  pub start : Marked marks from
  pub sound : (v : ℕ) → Marked marks v → Reaches calls from v
  pub waiters : (v : ℕ) → Among waiting v → Marked marks v
  pub closed : (v : ℕ) → Marked marks v → Among waiting v ⊎ ((w : ℕ) → Calls calls v w → Marked marks w)

Walk-more : (calls : List Call) (n v u w : ℕ) → Walk calls v n u → Calls calls u w → Walk calls v (suc n) w
Walk-more calls zero v u w same call = let P : ℕ → Type 0 = λ x. Calls calls x w in (w, subst P (sym same) call, refl)
Walk-more calls (suc n) v u w walk call = (walk.0, walk.1, Walk-more calls n walk.0 u w walk.2 call)

Walk-marked : (calls : List Call) (marks : List Bool) → ((v w : ℕ) → Marked marks v → Calls calls v w → Marked marks w) → (n v w : ℕ) → Marked marks v → Walk calls v n w → Marked marks w
Walk-marked calls marks closed zero v w marked same = let P : ℕ → Type 0 = λ x. Marked marks x in subst P same marked
Walk-marked calls marks closed (suc n) v w marked walk = Walk-marked calls marks closed n walk.0 w (closed v walk.0 marked walk.1) walk.2

pub Searched-visit : (calls : List Call) (from count : ℕ) (marks marks' : List Bool) (waiting waiting' : List ℕ) (next : ℕ) → Searched calls from count marks (waiting ++ next ∷ []) → Visited (callees_of calls next) marks waiting marks' waiting' → Searched calls from count marks' waiting'
Searched-visit calls from count marks marks' waiting waiting' next so_far visit =
    let reached : Reaches calls from next = so_far.sound next (so_far.waiters next (Among-last waiting next)) in
    record {
      long = visit.long ∙ so_far.long;
      start = visit.keeps from so_far.start;
      sound = λ v h. elim (visit.new_of_row v h) [
        | inl k ↦ so_far.sound v k
        | inr k ↦ (suc reached.0, Walk-more calls reached.0 from next v reached.1 (Calls-from_Among calls next v k))
      ];
      waiters = λ v h. elim (visit.waiters_marked v h) [
        | inl k ↦ visit.keeps v (so_far.waiters v (Among-front waiting next v k))
        | inr k ↦ visit.row_marked v k
      ];
      closed = λ v h. elim (visit.new_wait v h) [
        | inl k ↦ elim (so_far.closed v k) [
          | inl m ↦ elim (Among-parts waiting next v m) [
            | inl o ↦ inl (visit.still_wait v o)
            | inr e ↦ inr (λ w call. let P : ℕ → Type 0 = λ u. Calls calls u w in visit.row_marked w (Among-from_Calls calls next w (subst P (sym e) call)))
          ]
          | inr m ↦ inr (λ w call. visit.keeps w (m w call))
        ]
        | inr k ↦ inl k
      ];
    }

pub Searched-whole : (calls : List Call) (from count : ℕ) (marks : List Bool) (waiting : List ℕ) → length waiting ≡ 0 → Searched calls from count marks waiting → (v : ℕ) → Marked marks v ↔ Reaches calls from v
Searched-whole calls from count marks [] none so_far v =
    let closed : (u w : ℕ) → Marked marks u → Calls calls u w → Marked marks w = λ u w h call. elim (so_far.closed u h) [ inl k ↦ absurd k | inr k ↦ k w call ] in
    (so_far.sound v, λ h. Walk-marked calls marks closed h.0 from v so_far.start h.1)
Searched-whole calls from count marks (w ∷ ws) none so_far v = absurd (omega arith)

-- what is called is within the marks
pub callee-below : (calls : List Call) (count next : ℕ) → AreWithin count calls → (v : ℕ) → Among (callees_of calls next) v → v < count
callee-below calls count next within v h = Calls-within calls count next v within (Calls-from_Among calls next v h)

-- what waits last is one of the subroutines, and its row has what it calls
pub next-below : (calls : List Call) (from count : ℕ) (marks : List Bool) (waiting waiting' : List ℕ) (next : ℕ) → Searched calls from count marks waiting → waiting ≡ waiting' ++ next ∷ [] → next < count
next-below calls from count marks waiting waiting' next so_far is =
    let P : List ℕ → Type 0 = λ ws. Among ws next in
    omega (arith, Marked-below marks next (so_far.waiters next (subst P (sym is) (Among-last waiting' next))), so_far.long)

pub row-next : (rows : List (List ℕ)) (calls : List Call) (count next : ℕ) (row d : List ℕ) → AreRows rows calls count → next < count → row ≡ get_or rows next d → row ≡ callees_of calls next
row-next rows calls count next row d are below is = is ∙ get_or_default rows next d [] (omega (arith, are.long)) ∙ are.each next below
