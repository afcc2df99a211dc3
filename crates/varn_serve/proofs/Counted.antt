-- What keepers counted together is what the connections of all workers count.
use Rattle.std.proofs.Common.{◌≡◌, ℕ, List, [], ◌∷◌, ◌++◌, map, false, refl, sym, ap, ◌∙◌, subst}
use Rattle.std.specs.List.{AllZip}
use Rattle.std.proofs.lemmas.Grind.{flat_map-append}
use Rattle.cache_law.specs.declared.call.Entry.{Entry}
use Rattle.wire.specs.Telling.{LinkTold}
use Rattle.world.specs.declared.kit.Kit.{Kit}
use Rattle.server.specs.declared.keeping.Event.{Event}
use Rattle.server.specs.declared.tally.Tally.{Tally}
use Rattle.server.specs.Keeping.{added, tally_of}
use Rattle.server.proofs.Tallies.{tally_more}
use Rattle.crew.specs.Leaving.{AllWhole}
use Rattle.crew.specs.Parts.{Part, all_came, all_events}

-- the events of the connections of each worker
abbrev events_each : {K N E : Type 0} → List (Part K N E) → List (List E)
events_each parts = map (λ part. all_events part.came) parts

events_joined : {K N E : Type 0} (parts : List (Part K N E)) → all_events (events_each parts) ≡ all_events (all_came parts)
events_joined [] = refl
events_joined {E = E} (part ∷ parts) =
    ap (λ (es : List E). all_events part.came ++ es) (events_joined parts) ∙ sym (flat_map-append (λ (events : List E). events) part.came (all_came parts))

module _ {N E D K : Type 0} (unused : Kit D K → Type 0) (Told : N → List (Event E) → Type 0) (places : List (Event E) → List ℕ) (Tells : ℕ → Kit D K → Kit D K → LinkTold → List (Event E) → Type 0)
    (history : List Entry) where
  told_each : (parts : List (Part (Kit D K) N (Event E))) → AllWhole unused Told places Tells history parts → AllZip Told (map (λ (p : Part (Kit D K) N (Event E)). p.keeper) parts) (events_each parts)
  told_each [] whole = tt
  told_each (part ∷ parts) whole = (whole.0.told, told_each parts whole.1)

  pub counted : (keepers : List N) (parts : List (Part (Kit D K) N (Event E))) (tally : Tally) → keepers ≡ map (λ (p : Part (Kit D K) N (Event E)). p.keeper) parts
      → AllWhole unused Told places Tells history parts → ((lists : List (List (Event E))) → AllZip Told keepers lists → tally ≡ tally_of (all_events lists))
      → tally ≡ tally_of (all_events (all_came parts))
  counted keepers parts tally are whole counts =
      counts (events_each parts) (subst (λ (ks : List N). AllZip Told ks (events_each parts)) (sym are) (told_each parts whole)) ∙ ap tally_of (events_joined parts)

-- ---- one keeper behind another

module _ {N E : Type 0} (Told : N → List (Event E) → Type 0) where
  pub counts_none : (lists : List (List (Event E))) → AllZip Told [] lists → record { rounds = 0; found_full = false } ≡ tally_of (all_events lists)
  counts_none [] told = refl
  counts_none (events ∷ lists) never = absurd never

  pub counts_more : (keeper : N) (keepers : List N) (one rest : Tally) → ((events : List (Event E)) → Told keeper events → one ≡ tally_of events)
      → ((lists : List (List (Event E))) → AllZip Told keepers lists → rest ≡ tally_of (all_events lists)) → (lists : List (List (Event E))) → AllZip Told (keeper ∷ keepers) lists
      → added one rest ≡ tally_of (all_events lists)
  counts_more keeper keepers one rest here others [] never = absurd never
  counts_more keeper keepers one rest here others (events ∷ lists) told =
      ap (λ (t : Tally). added t rest) (here events told.0) ∙ (ap (λ (t : Tally). added (tally_of events) t) (others lists told.1) ∙ sym (tally_more events (all_events lists)))
