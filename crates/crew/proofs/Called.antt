-- Calls one behind another, and what is told of the connections for which they were made.
use Rattle.std.proofs.Common.{◌≡◌, ℕ, ◌+◌, List, [], ◌∷◌, ◌++◌, length, Some, sym, ap, ◌∙◌, subst, arith}
use Rattle.std.proofs.lemmas.List.{append-nil, append_assoc, append_cancel_left}
use Rattle.cache_law.specs.declared.call.Entry.{Entry}
use Rattle.cache_law.specs.Beginning.{Beginning}
use Rattle.turnstile.specs.Knowledge.{saw, places_from}
use Rattle.turnstile.proofs.Places.{places_from-append}
use Rattle.shared_cache.specs.Sharing.{CallerKnows, caller_of, made_before, numbers}
use Rattle.shared_cache.proofs.Numbers.{before_is}
use Rattle.wire.specs.Telling.{LinkTold}
use Rattle.workers.specs.Serving.{AllServed}
use Rattle.crew.specs.Calls.{HasCalled}
use Rattle.crew.specs.Parts.{Stand, AllTold, all_places}

pub called_none : (k : CallerKnows) → HasCalled k k []
called_none k = record {
  between = [];
  knows = ap (λ (h : List Entry). saw k h) (sym (append-nil k.seen));
  gained = sym (append-nil (numbers k));
}

pub called_seen : (k after : CallerKnows) (places : List ℕ) → (c : HasCalled k after places) → after.seen ≡ k.seen ++ c.between
called_seen k after places c = ap (λ (z : CallerKnows). z.seen) c.knows

pub called_number : (k after : CallerKnows) (places : List ℕ) → HasCalled k after places → after.number ≡ k.number
called_number k after places c = ap (λ (z : CallerKnows). z.number) c.knows

pub called_setting : (k after : CallerKnows) (places : List ℕ) → HasCalled k after places → after.setting ≡ k.setting
called_setting k after places c = ap (λ (z : CallerKnows). z.setting) c.knows

pub called_then : (k mid after : CallerKnows) (places more : List ℕ) → HasCalled k mid places → HasCalled mid after more → HasCalled k after (places ++ more)
called_then k mid after places more a b =
    let seen : mid.seen ++ b.between ≡ k.seen ++ (a.between ++ b.between) =
    ap (λ (h : List Entry). h ++ b.between) (called_seen k mid places a) ∙ append_assoc k.seen a.between b.between in record {
      between = a.between ++ b.between;
      knows = b.knows ∙ (ap (λ (z : CallerKnows). saw z (mid.seen ++ b.between)) a.knows ∙ ap (λ (h : List Entry). saw k h) seen);
      gained = b.gained ∙ (ap (λ (ps : List ℕ). ps ++ more) a.gained ∙ append_assoc (numbers k) places more);
    }

-- the places that are gained are those of the number in what was seen since, where no entry was made before the history
pub called_places : (k after : CallerKnows) (gained : List ℕ) → (c : HasCalled k after gained) → made_before k ≡ 0
    → gained ≡ places_from caller_of k.number (length k.seen) c.between
called_places k after gained c none =
    let whole : numbers after ≡ places_from caller_of k.number (made_before k) (k.seen ++ c.between) = ap numbers c.knows in
    let split = places_from-append caller_of k.number (made_before k) k.seen c.between in
    let z : made_before k + length k.seen ≡ length k.seen = omega (arith, none) in
    let at : places_from caller_of k.number (made_before k) (k.seen ++ c.between) ≡ numbers k ++ places_from caller_of k.number (length k.seen) c.between =
    split ∙ ap (λ (n : ℕ). numbers k ++ places_from caller_of k.number n c.between) z in
    append_cancel_left (numbers k) gained (places_from caller_of k.number (length k.seen) c.between) (sym c.gained ∙ (whole ∙ at))

-- where a worker stands with this shift
abbrev pub stand_of : {H K : Type 0} → (H → CallerKnows) → (H → K) → H → Stand K
stand_of knows kit_of h = record { kit = kit_of h; seen = (knows h).seen }

module _ {K E : Type 0} (places_of : List E → List ℕ) (Tells Tells' : ℕ → K → K → LinkTold → List E → Type 0)
    (wider : (number : ℕ) (before after : K) (opening : LinkTold) (events : List E) → Tells number before after opening events → Tells' number before after opening events) where
  -- what is told so may be told otherwise
  pub all_wider : (number : ℕ) (before after : Stand K) (came : List (List E)) → AllTold places_of Tells number before after came → AllTold places_of Tells' number before after came
  all_wider number before after [] same = same
  all_wider number before after (events ∷ came) all = (
    all.0,
    record {
      opening = all.1.opening;
      address = all.1.address;
      is_new = all.1.is_new;
      tells = wider number before.kit all.0.kit all.1.opening events all.1.tells;
      between = all.1.between;
      seen = all.1.seen;
      places = all.1.places;
    },
    all_wider number all.0 after came all.2,
  )

-- Below, workers with shifts of this kind serve so, and make their calls by the passes of these.
module _ {H K E : Type 0} (Serves : H → H → LinkTold → List E → Type 0) (knows : H → CallerKnows) (kit_of : H → K)
    (places_of : List E → List ℕ) (Tells : List Entry → ℕ → K → K → LinkTold → List E → Type 0) (beginning : Beginning)
    (calls : (old new : H) (opening : LinkTold) (events : List E) → Serves old new opening events → HasCalled (knows old) (knows new) (places_of events))
    (tells : (old new : H) (opening : LinkTold) (events : List E) → Serves old new opening events → (knows new).setting ≡ Some beginning
    → Tells (knows new).seen (knows old).number (kit_of old) (kit_of new) opening events)
    (longer : (history more : List Entry) (number : ℕ) (before after : K) (opening : LinkTold) (events : List E)
    → Tells history number before after opening events → Tells (history ++ more) number before after opening events) where
  pub all_called : (old new : H) (came : List (List E)) → AllServed Serves old new came → HasCalled (knows old) (knows new) (all_places places_of came)
  all_called old new [] same = subst (λ (h : H). HasCalled (knows old) (knows h) []) (sym same) (called_none (knows old))
  all_called old new (events ∷ came) all =
      called_then (knows old) (knows all.0) (knows new) (places_of events) (all_places places_of came) (calls old all.0 all.1.opening events all.1.serves) (all_called all.0 new came all.2)

  pub all_told : (old new : H) (came : List (List E)) → AllServed Serves old new came → (knows new).setting ≡ Some beginning → beginning.base.entries ≡ 0
      → AllTold places_of (Tells (knows new).seen) (knows old).number (stand_of knows kit_of old) (stand_of knows kit_of new) came
  all_told old new [] same set first = ap (stand_of knows kit_of) same
  all_told old new (events ∷ came) all set first =
      let rest = all_called all.0 new came all.2 in
      let here = calls old all.0 all.1.opening events all.1.serves in
      let begun = sym (called_setting (knows all.0) (knows new) (all_places places_of came) rest) ∙ set in
      let none = before_is (knows old) beginning (sym (called_setting (knows old) (knows all.0) (places_of events) here) ∙ begun) ∙ first in (
        stand_of knows kit_of all.0,
        record {
          opening = all.1.opening;
          address = all.1.address;
          is_new = all.1.is_new;
          tells = subst (λ (h : List Entry). Tells h (knows old).number (kit_of old) (kit_of all.0) all.1.opening events)
              (sym (called_seen (knows all.0) (knows new) (all_places places_of came) rest))
              (longer (knows all.0).seen rest.between (knows old).number (kit_of old) (kit_of all.0) all.1.opening events
              (tells old all.0 all.1.opening events all.1.serves begun));
          between = here.between;
          seen = called_seen (knows old) (knows all.0) (places_of events) here;
          places = called_places (knows old) (knows all.0) (places_of events) here none;
        },
        subst (λ (n : ℕ). AllTold places_of (Tells (knows new).seen) n (stand_of knows kit_of all.0) (stand_of knows kit_of new) came) (called_number (knows old) (knows all.0) (places_of events) here)
            (all_told all.0 new came all.2 set first),
      )
