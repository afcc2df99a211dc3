-- What is found by a shelf's scan is what the law's lookup gives.
use Rattle.std.proofs.Common.{◌≡◌, ℕ, Bool, true, false, List, Option, Some, None, refl, sym, ap, ◌∙◌}
use Rattle.std.proofs.lemmas.Bool.{cond-true, cond-false}
use Rattle.cache_law.specs.declared.object.Object.{Object}
use Rattle.cache_law.specs.declared.object.Object.TheVariants.{Ordinary, HitForMiss, HitForPass}
use Rattle.cache_law.specs.declared.object.ObjectView.{ObjectView}
use Rattle.cache_law.specs.declared.call.Entry.{Entry}
use Rattle.cache_law.specs.declared.call.Query.{Query}
use Rattle.cache_law.specs.Beginning.{Beginning}
use Rattle.cache_law.specs.History.{reached}
use Rattle.cache_law.specs.State.{State, Held, has_round, least_token, those_in_time}
use Rattle.cache_law.specs.Lookup.{Scan, scanned}
use Rattle.cache_law.specs.Law.{found_fresh, found_grace, waited_or_missed, busy, found_other, found, remembered}
use Rattle.cache_frame.specs.declared.finding.Finding.TheVariants.{Miss}
use Rattle.cache_frame.specs.declared.seen.Seen.{Seen}
use Rattle.cache_desk.specs.Desk.{DeskState}
use Rattle.cache_frame.specs.Framed.{StandFor}
use Rattle.cache_frame.specs.Shelves.{IsScan, Tells}
use Rattle.cache_frame.specs.Found.{Finds, given_by, graced_by, fetch_finding, other_finding, finding_by, found_so}

given_so : (state : State) (caller : ℕ) (key : List (List ℕ)) (view : ObjectView) (object : Object) → remembered caller (found_fresh state caller key view object) ≡ found_so state caller key (given_by view object)
given_so state caller key view (Ordinary response) = refl
given_so state caller key view (HitForMiss marker) = refl
given_so state caller key view (HitForPass marker) = refl

graced_so : (state : State) (caller : ℕ) (key : List (List ℕ)) (view : ObjectView) (open_ : Option ℕ) → remembered caller (found_grace state caller key view open_) ≡ found_so state caller key (graced_by view open_)
graced_so state caller key view None = refl
graced_so state caller key view (Some token) = refl

fetched_so : (state : State) (caller : ℕ) (key : List (List ℕ)) (stale : Option ObjectView) (open_ : Option ℕ) → remembered caller (waited_or_missed state caller key stale open_) ≡ found_so state caller key (fetch_finding stale open_)
fetched_so state caller key stale None = refl
fetched_so state caller key stale (Some token) = refl

other_so : (state : State) (caller : ℕ) (query : Query) (grace stale : Option ObjectView) → remembered caller (found_other state caller query grace stale) ≡ found_so state caller query.key (other_finding query (least_token query.key state.fetches) grace stale)
other_so state caller query None stale = fetched_so state caller query.key stale (busy query (least_token query.key state.fetches))
other_so state caller query (Some view) stale = graced_so state caller query.key view (least_token query.key state.fetches)

-- what a lookup answers by what its scan found
scan_so : (state : State) (caller : ℕ) (query : Query) (fresh grace stale : Option ObjectView) → remembered caller (found state caller query fresh grace stale) ≡ found_so state caller query.key (finding_by query (least_token query.key state.fetches) fresh grace stale)
scan_so state caller query None grace stale = other_so state caller query grace stale
scan_so state caller query (Some view) grace stale = given_so state caller query.key view view.object

module _ {S M : Type 0} (Stands : S → Beginning → List Entry → Type 0) (IsMarked : S → ℕ → Query → M → Type 0) (desk : DeskState) (shelf : S) (now caller : ℕ) (query : Query) where
  same_round : (beginning : Beginning) (entries : List Entry) → StandFor Stands desk shelf beginning entries → (b : Bool) → has_round desk.rounds caller ≡ b → has_round (reached beginning entries).rounds caller ≡ b
  same_round beginning entries stands b e = ap (λ (s : State). has_round s.rounds caller) (sym stands.desk) ∙ e

  pub finds_not : has_round desk.rounds caller ≡ false → Finds Stands IsMarked desk shelf now caller query None
  finds_not closed = record { marks = tt; answers = λ beginning entries stands later. cond-false _ _ _ (same_round beginning entries stands false closed) }

  -- a lookup that misses always looks for no object
  pub misses : has_round desk.rounds caller ≡ true → query.options.always_miss ≡ true → Finds Stands IsMarked desk shelf now caller query (Some (record { finding = Miss None; marks = None }))
  misses opened always =
      record {
        marks = always;
        answers = λ beginning entries stands later.
            cond-true _ _ _ (same_round beginning entries stands true opened) ∙ ap (remembered caller) (cond-true _ _ _ always);
      }

  pub finds : (seen : Seen M) → has_round desk.rounds caller ≡ true → query.options.always_miss ≡ false → Tells Stands shelf now (IsScan now query seen) → IsMarked shelf now query seen.marks
      → Finds Stands IsMarked desk shelf now caller query (Some (record { finding = finding_by query (least_token query.key desk.fetches) seen.fresh seen.grace seen.stale; marks = Some seen.marks }))
  finds seen opened looks tells marked =
      record {
        marks = marked;
        answers = λ beginning entries stands later.
            let state : State = reached beginning entries in
            let scan : Scan Held = scanned now query (those_in_time now state.objects) in
            let is_ = tells beginning entries stands.sound stands.shelf later in
            cond-true _ _ _ (same_round beginning entries stands true opened)
            ∙ ap (remembered caller) (cond-false _ _ _ looks)
            ∙ scan_so (record state { moment = now; objects = scan.objects }) caller query scan.fresh scan.grace scan.stale
            ∙ ap (λ (f : Option ObjectView). found_so (record state { moment = now; objects = scan.objects }) caller query.key (finding_by query (least_token query.key state.fetches) f scan.grace scan.stale)) is_.fresh
            ∙ ap (λ (g : Option ObjectView). found_so (record state { moment = now; objects = scan.objects }) caller query.key (finding_by query (least_token query.key state.fetches) seen.fresh g scan.stale)) is_.grace
            ∙ ap (λ (c : Option ObjectView). found_so (record state { moment = now; objects = scan.objects }) caller query.key (finding_by query (least_token query.key state.fetches) seen.fresh seen.grace c)) is_.stale
            ∙ ap (λ (s : State). found_so (record state { moment = now; objects = scan.objects }) caller query.key (finding_by query (least_token query.key s.fetches) seen.fresh seen.grace seen.stale)) (sym stands.desk);
      }
