-- What callers do in a segment, before what they do in those behind it.
use Rattle.std.proofs.Common.{◌≡◌, ℕ, ◌+◌, List, [], ◌∷◌, ◌++◌, length, refl, sym, ap, ◌∙◌, subst, arith}
use Rattle.std.specs.List.{flat_map}
use Rattle.std.proofs.lemmas.Grind.{flat_map-append}
use Rattle.std.proofs.lemmas.List.{append-nil}
use Rattle.cache_law.specs.declared.call.Entry.{Entry}
use Rattle.cache_law.specs.Beginning.{Beginning}
use Rattle.turnstile.proofs.Places.{places_from-append}
use Rattle.segment_laws.specs.Lives.{Goes, HasLived, HasPart, HaveLived, HaveParts, HoldInEach, Span, Stand, all_of, entries_of, own_places}
use Rattle.segment_laws.proofs.Counting.{alone, put_before}

module _ {E T : Type 0} (Waits : T → T → Type 0) (Steps : T → E → T → Type 0) (waits_then : (before mid after : T) → Waits before mid → Waits mid after → Waits before after)
    (steps_later : (before mid after : T) (event : E) → Waits before mid → Steps mid event after → Steps before event after) where
  goes_later : (before mid after : T) (events : List E) → Waits before mid → Goes Waits Steps mid events after → Goes Waits Steps before events after
  goes_later before mid after [] waits goes = waits_then before mid after waits goes
  goes_later before mid after (event ∷ events) waits goes = (goes.0, steps_later before mid goes.0 event waits goes.1, goes.2)

  goes_then : (before mid after : T) (events others : List E) → Goes Waits Steps before events mid → Goes Waits Steps mid others after → Goes Waits Steps before (events ++ others) after
  goes_then before mid after [] others goes later = goes_later before mid after others goes later
  goes_then before mid after (event ∷ events) others goes later = (goes.0, goes.1, goes_then goes.0 mid after events others goes.2 later)

module _ {N E T : Type 0} (Tells : N → N → List E → Type 0) (places_in : E → List ℕ) (Waits : T → T → Type 0) (Steps : T → E → T → Type 0)
    (Holds : Beginning → List Entry → ℕ → List E → Type 0) where
  lived_one : (span : Span) (old new : Stand N T) (events : List E) → HasPart Tells places_in Waits Steps Holds span old new events
      → HasLived Tells places_in Waits Steps Holds span.beginning.base.entries (span ∷ []) old new (events ∷ [])
  lived_one span old new events part = record {
    same = part.same;
    tells = subst (λ (es : List E). Tells old.keeper new.keeper es) (sym (append-nil events)) part.tells;
    goes = subst (λ (es : List E). Goes Waits Steps old.talk es new.talk) (sym (append-nil events)) part.goes;
    hold = (part.holds, tt);
    places =
        ap (λ (es : List Entry). own_places old.number span.beginning.base.entries es) (append-nil span.entries)
        ∙ (part.places ∙ ap (λ (es : List E). flat_map places_in es) (sym (append-nil events)));
  }

  pub all_lived_one : (span : Span) (olds news : List (Stand N T)) (parts : List (List E)) → HaveParts Tells places_in Waits Steps Holds span olds news parts
      → HaveLived Tells places_in Waits Steps Holds span.beginning.base.entries (span ∷ []) olds news (alone places_in parts)
  all_lived_one span [] [] [] have = tt
  all_lived_one span [] [] (events ∷ parts) have = absurd have
  all_lived_one span [] (new ∷ news) parts have = absurd have
  all_lived_one span (old ∷ olds) [] parts have = absurd have
  all_lived_one span (old ∷ olds) (new ∷ news) [] have = absurd have
  all_lived_one span (old ∷ olds) (new ∷ news) (events ∷ parts) have = (lived_one span old new events have.0, all_lived_one span olds news parts have.1)

module _ {N E T : Type 0} (Tells : N → N → List E → Type 0) (places_in : E → List ℕ) (Waits : T → T → Type 0) (Steps : T → E → T → Type 0)
    (Holds : Beginning → List Entry → ℕ → List E → Type 0)
    (tells_then : (before mid after : N) (events others : List E) → Tells before mid events → Tells mid after others → Tells before after (events ++ others))
    (waits_then : (before mid after : T) → Waits before mid → Waits mid after → Waits before after)
    (steps_later : (before mid after : T) (event : E) → Waits before mid → Steps mid event after → Steps before event after) where
  lived_more : (span : Span) (spans : List Span) (old mid new : Stand N T) (events : List E) (life : List (List E)) → HasPart Tells places_in Waits Steps Holds span old mid events
      → HasLived Tells places_in Waits Steps Holds (span.beginning.base.entries + length span.entries) spans mid new life
      → HasLived Tells places_in Waits Steps Holds span.beginning.base.entries (span ∷ spans) old new (events ∷ life)
  lived_more span spans old mid new events life part later =
      let before = span.beginning.base.entries in
      let behind = before + length span.entries in
      let here : own_places mid.number behind (entries_of spans) ≡ flat_map places_in (all_of life) = later.places in
      let theirs = subst (λ (number : ℕ). own_places number behind (entries_of spans) ≡ flat_map places_in (all_of life)) part.same here in
      record {
        same = later.same ∙ part.same;
        tells = tells_then old.keeper mid.keeper new.keeper events (all_of life) part.tells later.tells;
        goes = goes_then Waits Steps waits_then steps_later old.talk mid.talk new.talk events (all_of life) part.goes later.goes;
        hold = (part.holds, subst (λ (number : ℕ). HoldInEach Tells places_in Waits Steps Holds number spans life) part.same later.hold);
        places =
            places_from-append (λ (entry : Entry). entry.caller) old.number before span.entries (entries_of spans)
            ∙ (ap (λ (own : List ℕ). own ++ own_places old.number behind (entries_of spans)) part.places
            ∙ (ap (λ (others : List ℕ). flat_map places_in events ++ others) theirs ∙ sym (flat_map-append places_in events (all_of life))));
      }

  pub all_lived_more : (span : Span) (spans : List Span) (olds mids : List (Stand N T)) (parts : List (List E)) (news : List (Stand N T)) (lives : List (List (List E)))
      → HaveParts Tells places_in Waits Steps Holds span olds mids parts
      → HaveLived Tells places_in Waits Steps Holds (span.beginning.base.entries + length span.entries) spans mids news lives
      → HaveLived Tells places_in Waits Steps Holds span.beginning.base.entries (span ∷ spans) olds news (put_before places_in parts lives) × (length parts ≡ length lives)
  all_lived_more span spans [] [] [] [] [] have later = (tt, refl)
  all_lived_more span spans [] [] [] [] (life ∷ lives) have later = absurd later
  all_lived_more span spans [] [] [] (new ∷ news) lives have later = absurd later
  all_lived_more span spans [] [] (events ∷ parts) news lives have later = absurd have
  all_lived_more span spans [] (mid ∷ mids) parts news lives have later = absurd have
  all_lived_more span spans (old ∷ olds) [] parts news lives have later = absurd have
  all_lived_more span spans (old ∷ olds) (mid ∷ mids) [] news lives have later = absurd have
  all_lived_more span spans (old ∷ olds) (mid ∷ mids) (events ∷ parts) [] lives have later = absurd later
  all_lived_more span spans (old ∷ olds) (mid ∷ mids) (events ∷ parts) (new ∷ news) [] have later = absurd later
  all_lived_more span spans (old ∷ olds) (mid ∷ mids) (events ∷ parts) (new ∷ news) (life ∷ lives) have later =
      let rest = all_lived_more span spans olds mids parts news lives have.1 later.1 in
      let same = rest.1 in
      ((lived_more span spans old mid new events life have.0 later.0, rest.0), omega (arith, same))
