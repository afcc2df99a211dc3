-- What becomes of the first pass, by which a job is done beside the workers or nothing is.
use Rattle.std.proofs.Common.{◌≡◌, ℕ, List, [], ◌++◌, Option, Some, None, sym, ap, ◌∙◌}
use Rattle.std.proofs.lemmas.List.{append_assoc}
use Rattle.cache_law.specs.declared.call.Entry.{Entry}
use Rattle.cache_law.specs.Beginning.{Beginning}
use Rattle.turnstile.specs.Knowledge.{mine, places, places_from, saw}
use Rattle.shared_cache.specs.Sharing.{CallerKnows, caller_of, made_before, numbers}
use Rattle.shared_cache.proofs.Numbers.{before_is, numbers_mine}
use Rattle.crew.specs.Besides.{Becomes, BecomesFirst, IsDone, places_beside}
use Rattle.crew.specs.Calls.{HasCalled}
use Rattle.crew.specs.Opening.{IsFirst}

-- a front of a front
pub front_then : (a b c x y : List Entry) → b ≡ a ++ x → c ≡ b ++ y → c ≡ a ++ (x ++ y)
front_then a b c x y first then = then ∙ (ap (λ (h : List Entry). h ++ y) first ∙ append_assoc a x y)

module _ {J D : Type 0} (places_of : D → List ℕ) (Did : J → D → CallerKnows → CallerKnows → Type 0) where
  -- it has seen more, and knows nothing else
  pub only_saw : (job : Option J) (done : Option D) (k after : CallerKnows) → Becomes places_of Did job done k after → after ≡ saw k after.seen
  only_saw None None k after same = same ∙ ap (λ (h : List Entry). saw k h) (sym (ap (λ (z : CallerKnows). z.seen) same))
  only_saw None (Some done) k after becomes = absurd becomes
  only_saw (Some job) None k after becomes = absurd becomes
  only_saw (Some job) (Some done) k after becomes =
      becomes.0.knows ∙ ap (λ (h : List Entry). saw k h) (sym (ap (λ (z : CallerKnows). z.seen) becomes.0.knows))

  module _ (job : Option J) (done : Option D) (before after : CallerKnows) (b : BecomesFirst places_of Did job done before after) where
    pub setting_stays : after.setting ≡ before.setting
    setting_stays = ap (λ (z : CallerKnows). z.setting) (only_saw job done b.hired after b.becomes) ∙ ap (λ (z : CallerKnows). z.setting) b.split

  gained_by : (job : Option J) (done : Option D) (k after : CallerKnows) → Becomes places_of Did job done k after → k.seen ≡ [] → made_before k ≡ 0 → made_before after ≡ 0
      → mine caller_of after ≡ places_beside places_of done
  gained_by None None k after same unseen none none' =
      ap (λ (z : CallerKnows). mine caller_of z) same ∙ ap (λ (h : List Entry). places caller_of k.number h) unseen
  gained_by None (Some done) k after becomes unseen none none' = absurd becomes
  gained_by (Some job) None k after becomes unseen none none' = absurd becomes
  gained_by (Some job) (Some done) k after becomes unseen none none' =
      let nothing : numbers k ≡ [] = ap (λ (h : List Entry). places_from caller_of k.number (made_before k) h) unseen in
      sym (numbers_mine after none') ∙ (becomes.0.gained ∙ ap (λ (ps : List ℕ). ps ++ places_of done) nothing)

  done_by : (job : Option J) (done : Option D) (k after : CallerKnows) (beginning : Beginning) (history rest : List Entry) → Becomes places_of Did job done k after
      → k.number ≡ 0 → k.setting ≡ Some beginning → k.seen ≡ [] → history ≡ after.seen ++ rest → IsDone Did beginning history job done
  done_by None None k after beginning history rest becomes number set unseen front = tt
  done_by None (Some done) k after beginning history rest becomes number set unseen front = absurd becomes
  done_by (Some job) None k after beginning history rest becomes number set unseen front = absurd becomes
  done_by (Some job) (Some done) k after beginning history rest becomes number set unseen front = record {
    first = k;
    last = after;
    number = number;
    begins = set;
    unseen = unseen;
    did = becomes.1;
    front = (rest, front);
  }

  module _ (job : Option J) (done : Option D) (before after : CallerKnows) (first : IsFirst before) (b : BecomesFirst places_of Did job done before after) where
    hired_set : b.hired.setting ≡ Some first.beginning
    hired_set = ap (λ (z : CallerKnows). z.setting) b.split ∙ ap (λ (z : CallerKnows). z.setting) first.knows

    hired_unseen : b.hired.seen ≡ []
    hired_unseen = ap (λ (z : CallerKnows). z.seen) b.split ∙ ap (λ (z : CallerKnows). z.seen) first.knows

    -- its own places are those of the job's calls
    pub mine_beside : mine caller_of after ≡ places_beside places_of done
    mine_beside =
        let set : after.setting ≡ Some first.beginning =
        setting_stays job done before after b ∙ ap (λ (z : CallerKnows). z.setting) first.knows in
        gained_by job done b.hired after b.becomes hired_unseen (before_is b.hired first.beginning hired_set ∙ first.can_begin.first) (before_is after first.beginning set ∙ first.can_begin.first)

    -- the job was done over each history of which it has seen a front
    pub is_done : (beginning : Beginning) (history rest : List Entry) → before.setting ≡ Some beginning → history ≡ after.seen ++ rest → IsDone Did beginning history job done
    is_done beginning history rest set front =
        done_by job done b.hired after beginning history rest b.becomes
        (ap (λ (z : CallerKnows). z.number) b.split ∙ ap (λ (z : CallerKnows). z.number) first.knows)
        (ap (λ (z : CallerKnows). z.setting) b.split ∙ set) hired_unseen front
