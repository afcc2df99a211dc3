-- The map, the set and the sum when one member comes or goes.
use Rattle.std.proofs.Common.{◌≡◌, ◌+◌, ◌-◌, ℕ, true, false, cond, [], ◌∷◌, ◌++◌, Some, sym, ◌∙◌, ap, subst, arith}
use Rattle.std.specs.Ordering.{nat_cmp}
use Rattle.std.specs.Map.{lookup, remove_entry}
use Rattle.std.specs.BTreeMap as tree
use Rattle.std.specs.BTreeMap.{BTreeMap, is_at}
use Rattle.std.specs.BTreeSet.{BTreeSet, contains}
use Rattle.room_lru.specs.declared.member.Member.{Member}
use Rattle.room_lru.specs.Members.{total_of}
use Rattle.room_lru.specs.Ends.{End, by_end, IsFree}
use Rattle.room_lru.specs.Kept.{IsIndexOf, AreApart, AreKept}
use Rattle.room_lru.proofs.MemberLemmas.{total_more, total_less}
use Rattle.room_lru.proofs.EndLemmas.{indexed_more, indexed_less, indexed_back, apart_more, apart_less}

pub kept_more : (members new : BTreeMap ℕ Member) (ends more : BTreeSet End) (total used : ℕ) (member : Member) → AreKept members ends total
    → IsFree (member.end, member.handle) members.entries → tree.IsOrdered nat_cmp new → new.entries ≡ members.entries ++ (used, member) ∷ []
    → ((end : End) → contains by_end more end ≡ cond (is_at (by_end (member.end, member.handle)) end) true (contains by_end ends end))
    → AreKept new more (total + member.size)
kept_more members new ends more total used member kept free ordered is adds = record {
  ordered = ordered;
  indexed = subst (λ es. IsIndexOf es more) (sym is) (indexed_more members.entries (used, member) ends more kept.indexed adds);
  apart = subst (λ es. AreApart es) (sym is) (apart_more members.entries (used, member) kept.apart free);
  summed = ap (λ n. n + member.size) kept.summed ∙ sym (total_more used member members.entries) ∙ ap total_of (sym is);
}

pub kept_less : (members new : BTreeMap ℕ Member) (ends less : BTreeSet End) (total used : ℕ) (member : Member) → AreKept members ends total
    → lookup (is_at (nat_cmp used)) members.entries ≡ Some member → tree.IsOrdered nat_cmp new
    → new.entries ≡ remove_entry (is_at (nat_cmp used)) members.entries
    → ((end : End) → contains by_end less end ≡ cond (is_at (by_end (member.end, member.handle)) end) false (contains by_end ends end))
    → AreKept new less (total - member.size)
kept_less members new ends less total used member kept found ordered is removes =
    let sum = total_less (is_at (nat_cmp used)) member members.entries found in
    let all = kept.summed in
    let left : total - member.size ≡ total_of (remove_entry (is_at (nat_cmp used)) members.entries) = omega arith in
    record {
      ordered = ordered;
      indexed = subst (λ es. IsIndexOf es less) (sym is) (indexed_less (is_at (nat_cmp used)) used member members.entries ends less kept.apart found kept.indexed removes);
      apart = subst (λ es. AreApart es) (sym is) (apart_less (is_at (nat_cmp used)) members.entries kept.apart);
      summed = left ∙ ap total_of (sym is);
    }

-- an end that was put into the set and taken from it again
pub kept_back : (members new : BTreeMap ℕ Member) (ends between back : BTreeSet End) (total used : ℕ) (member : Member) → AreKept members ends total
    → IsFree (member.end, member.handle) members.entries → tree.IsOrdered nat_cmp new → new.entries ≡ members.entries
    → ((end : End) → contains by_end between end ≡ cond (is_at (by_end (member.end, member.handle)) end) true (contains by_end ends end))
    → ((end : End) → contains by_end back end ≡ cond (is_at (by_end (member.end, member.handle)) end) false (contains by_end between end))
    → AreKept new back total
kept_back members new ends between back total used member kept free ordered is adds removes = record {
  ordered = ordered;
  indexed = subst (λ es. IsIndexOf es back) (sym is) (indexed_back members.entries (used, member) ends between back kept.indexed free adds removes);
  apart = subst (λ es. AreApart es) (sym is) kept.apart;
  summed = kept.summed ∙ ap total_of (sym is);
}
