-- Connections that were served, one behind another.
use Rattle.std.proofs.Common.{◌≡◌, ℕ, ◌+◌, List, [], ◌∷◌, ◌++◌, Option, Some, None, refl, sym, ◌∙◌, subst, arith}
use Rattle.std.specs.Prelude.{IsSomeAnd}
use Rattle.std.specs.List.{flat_map}
use Rattle.std.proofs.lemmas.Grind.{flat_map-append}
use Rattle.std.proofs.lemmas.List.{append-nil, append_assoc, length-append}
use Rattle.entrance.specs.Arriving.{IsNew}
use Rattle.wire.specs.Telling.{LinkTold}
use Rattle.workers.specs.Serving.{IsTold, AllServed, Works}
use Rattle.workers.specs.declared.post.Post.{Post}

pub told_then : {N E : Type 0} (Told : N → List E → Type 0) (first second third : N) (events more : List E) → IsTold Told first second events → IsTold Told second third more
    → IsTold Told first third (events ++ more)
told_then {E = E} Told first second third events more one other before told =
    subst (λ (es : List E). Told third es) (append_assoc before events more) (other (before ++ events) (one before told))

module _ {H N E : Type 0} (Serves : H → H → LinkTold → List E → Type 0) (Told : N → List E → Type 0) where
  pub all_then : (before mid after : H) (came more : List (List E)) → AllServed Serves before mid came → AllServed Serves mid after more → AllServed Serves before after (came ++ more)
  all_then before mid after [] more same rest = subst (λ (h : H). AllServed Serves h after more) same rest
  all_then before mid after (events ∷ came) more first rest = (first.0, first.1, all_then first.0 mid after came more first.2 rest)

  -- no connection came
  pub works_none : (shift shift' : H) (keeper keeper' : N) (amount amount' : ℕ) → shift' ≡ shift → IsTold Told keeper keeper' [] → amount' ≡ amount
      → Works Serves Told (Some (record { shift = shift; keeper = keeper })) (Some (record { shift = shift'; keeper = keeper' })) amount amount'
  works_none shift shift' keeper keeper' amount amount' same told count = record {
    before = record { shift = shift; keeper = keeper };
    after = record { shift = shift'; keeper = keeper' };
    had = refl;
    has = refl;
    came = [];
    served = same;
    told = told;
    counted = omega arith;
  }

  -- one connection came, for which room was made before
  pub works_one : (before : Post H N) (after : Post H N) (keeper : N) (amount amount' : ℕ) (opening : LinkTold) (address : List ℕ) (events : List E) → IsTold Told before.keeper keeper []
      → IsNew opening address → IsTold Told keeper after.keeper events → Serves before.shift after.shift opening events → amount' ≡ amount + 1
      → Works Serves Told (Some before) (Some after) amount amount'
  works_one before after keeper amount amount' opening address events room is_new told serves count = record {
    before = before;
    after = after;
    had = refl;
    has = refl;
    came = events ∷ [];
    served = (after.shift, record { opening = opening; address = address; is_new = is_new; serves = serves }, refl);
    told = subst (λ (es : List E). IsTold Told before.keeper after.keeper es) (sym (append-nil events)) (told_then Told before.keeper keeper after.keeper [] events room told);
    counted = count;
  }

  works_still : (post : Post H N) (amount : ℕ) → Works Serves Told (Some post) (Some post) amount amount
  works_still post amount = record {
    before = post;
    after = post;
    had = refl;
    has = refl;
    came = [];
    served = refl;
    told = λ before told. subst (λ (es : List E). Told post.keeper es) (sym (append-nil before)) told;
    counted = omega arith;
  }

  -- nothing was done yet by one that has a post
  pub works_begun : (Ready : Post H N → Type 0) (post : Option (Post H N)) (amount : ℕ) → IsSomeAnd post Ready → Works Serves Told post post amount amount
  works_begun Ready None amount never = absurd never
  works_begun Ready (Some post) amount ready = works_still post amount

  pub works_then : (post post' post'' : Option (Post H N)) (amount amount' amount'' : ℕ) → Works Serves Told post post' amount amount' → Works Serves Told post' post'' amount' amount''
      → Works Serves Told post post'' amount amount''
  works_then post post' post'' amount amount' amount'' first second =
      let e : Some first.after ≡ Some second.before = sym first.has ∙ second.had in
      let same : first.after ≡ second.before = cc in
      let counts = length-append first.came second.came in
      let one = first.counted in
      let other = second.counted in
      record {
        before = first.before;
        after = second.after;
        had = first.had;
        has = second.has;
        came = first.came ++ second.came;
        served = all_then first.before.shift second.before.shift second.after.shift first.came second.came
            (subst (λ (p : Post H N). AllServed Serves first.before.shift p.shift first.came) same first.served) second.served;
        told = subst (λ (es : List E). IsTold Told first.before.keeper second.after.keeper es) (sym (flat_map-append (λ (events : List E). events) first.came second.came))
            (told_then Told first.before.keeper second.before.keeper second.after.keeper (flat_map (λ (events : List E). events) first.came) (flat_map (λ (events : List E). events) second.came)
            (subst (λ (p : Post H N). IsTold Told first.before.keeper p.keeper (flat_map (λ (events : List E). events) first.came)) same first.told) second.told);
        counted = omega arith;
      }
