use Rattle.std.proofs.Common.{◌≡◌, ◌∙◌, ℕ, ℤ, Bool, true, false, ◌&&◌, List, [], ◌∷◌, Some, refl, sym, subst, rules}
use Rattle.std.specs.Prelude.{nat_eq}
use Rattle.std.specs.Int.{w128}
use Rattle.std.specs.List.{list_any}
use Rattle.std.specs.Map.{lookup}
use Rattle.std.proofs.lemmas.Bool.{or_left, or_right}
use Rattle.std.proofs.lemmas.Int.{to_z-of_z}
use Rattle.room_lru.specs.declared.member.Member.{Member}
use Rattle.room_lru.specs.Members.{Used}
use Rattle.room_lru.specs.Ends.{has_end}
use Rattle.room_lru.proofs.EndLemmas.{has_own}
use Rattle.container_tests.proofs.room.ending.Goals as goal
use mir.Val.{SFits}

-- it has this last use, and the end and the handle of this member
abbrev is_member : ℕ → Member → Used → Bool
is_member used member one = nat_eq used one.0 && has_end (member.end, member.handle) one

there_step : (b : Bool) (used : ℕ) (member : Member) (m : Used) (ms : List Used) → nat_eq used m.0 ≡ b
    → (lookup (nat_eq used) ms ≡ Some member → list_any (is_member used member) ms ≡ true)
    → lookup (nat_eq used) (m ∷ ms) ≡ Some member → list_any (is_member used member) (m ∷ ms) ≡ true
there_step true used member m ms e rest found =
    let here : Some m.1 ≡ Some member = rw e at found in
    let same : m.1 ≡ member = cc in
    or_left (is_member used member m) (list_any (is_member used member) ms)
    (subst (λ (x : Member). is_member used x m ≡ true) same (rw (e, has_own m) refl))
there_step false used member m ms e rest found = or_right (is_member used member m) (list_any (is_member used member) ms) (rest (rw e at found))

-- the member that is found by its last use is there
found_there : (used : ℕ) (member : Member) (members : List Used) → lookup (nat_eq used) members ≡ Some member → list_any (is_member used member) members ≡ true
found_there used member [] found = cc
found_there used member (m ∷ ms) found = there_step (nat_eq used m.0) used member m ms refl (found_there used member ms) found

pub returns : goal.returns
returns c =
    let found : lookup (nat_eq c.args.used) c.args.room.now ≡ Some c.in_ok-member.member = sym c.get.ensures ∙ c.in_ok-member.was in
    let fits : SFits w128 c.in_ok-member.member.end = search rules in
    record {
      there = subst (λ (end : ℤ). list_any (λ (one : Used). nat_eq c.args.used one.0 && has_end (end, c.in_ok-member.member.handle) one) c.args.room.now ≡ true)
          (sym (to_z-of_z w128 c.in_ok-member.member.end fits)) (found_there c.args.used c.in_ok-member.member c.args.room.now found);
      free = c.is_free.ensures.0 c.if-not-is_free.false;
    }
