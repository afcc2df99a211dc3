-- Workers who were hired may begin, and have left once they have worked.
use Rattle.std.proofs.Common.{◌≡◌, ℕ, List, [], ◌∷◌, ◌++◌, Option, Some, sym, ap, ◌∙◌, subst, arith}
use Rattle.std.specs.Prelude.{All, IsSomeAnd}
use Rattle.std.proofs.lemmas.List.Elements.{All-nil, All-cons}
use Rattle.cache_law.specs.declared.call.Entry.{Entry}
use Rattle.cache_law.specs.Beginning.{Beginning}
use Rattle.turnstile.specs.declared.handles.Pass.{Pass}
use Rattle.turnstile.specs.Handles.{known}
use Rattle.turnstile.specs.Knowledge.{opened, saw}
use Rattle.shared_cache.specs.Sharing.{CallerKnows}
use Rattle.wire.specs.Telling.{LinkTold}
use Rattle.world.specs.declared.kit.Kit.{Kit}
use Rattle.workers.specs.Working.{IsReady}
use Rattle.workers.specs.declared.post.Post.{Post}
use Rattle.workers.specs.declared.worker.Worker.{Worker}
use Rattle.crew.specs.Calls.{HasCalled}
use Rattle.crew.specs.Opening.{CanBegin, IsStart, IsFirst}
use Rattle.crew.specs.Hiring.{IsHired, AllHired, Hires}
use Rattle.crew.specs.Leaving.{HaveLeft, HaveWorked}
use Rattle.crew.proofs.Leaving.{all_left}

module _ {H N E A B D K : Type 0} (IsPass : Pass Entry Beginning → Type 0) (Unused : Kit D K → Type 0) (pass_of : H → Pass Entry Beginning) (kit_of : H → Kit D K)
    (Told : N → List E → Type 0) (Ready : H → Type 0) where
  module _ (setting : Option Beginning) (beginning : Beginning) (set : setting ≡ Some beginning) (can_begin : CanBegin beginning)
      (ready : (shift : H) → IsPass (pass_of shift) → IsStart (known (pass_of shift)) → Ready shift) where
    ready_one : (n : ℕ) (w : Worker H N A B) → IsHired IsPass Unused pass_of kit_of Told setting n w → IsReady Ready w
    ready_one n w hired =
        let start : IsStart (known (pass_of hired.post.shift)) = record {
          beginning = beginning;
          begins = hired.fresh.setting_is ∙ set;
          can_begin = can_begin;
          unseen = hired.fresh.unseen;
        } in
        let parts = hired.accepted.0 in
        let others = hired.left.0 in
        record {
          shift = subst (λ (o : Option (Post H N)). IsSomeAnd o (λ post. Ready post.shift)) (sym hired.has) (ready hired.post.shift hired.pass start);
          accepted = omega arith;
          left = omega arith;
        }

    ready_each : (ns : List ℕ) (ws : List (Worker H N A B)) → AllHired IsPass Unused pass_of kit_of Told setting ns ws → All (IsReady Ready) ws
    ready_each [] [] hired = All-nil (IsReady Ready)
    ready_each [] (w ∷ ws) hired = absurd hired
    ready_each (n ∷ ns) [] hired = absurd hired
    ready_each (n ∷ ns) (w ∷ ws) hired = All-cons (IsReady Ready) w ws (ready_one n w hired.0) (ready_each ns ws hired.1)

  -- each may begin
  pub ready_all : (ready : (shift : H) → IsPass (pass_of shift) → IsStart (known (pass_of shift)) → Ready shift)
      (k after : CallerKnows) (ws : List (Worker H N A B)) → IsFirst k → Hires IsPass Unused pass_of kit_of Told k.setting 0 k after ws → All (IsReady Ready) ws
  ready_all ready k after ws first hires =
      ready_each k.setting first.beginning (ap (λ (z : CallerKnows). z.setting) first.knows) first.can_begin ready hires.numbers ws hires.hired

  module _ (places_of : List E → List ℕ) (Tells : Beginning → List Entry → ℕ → Kit D K → Kit D K → LinkTold → List E → Type 0)
      (Serves : H → H → LinkTold → List E → Type 0) (passes : (shift : H) → Ready shift → IsPass (pass_of shift))
      (calls : (old new : H) (opening : LinkTold) (events : List E) → Serves old new opening events → HasCalled (known (pass_of old)) (known (pass_of new)) (places_of events))
      (tells : (old new : H) (opening : LinkTold) (events : List E) (beginning : Beginning) → Serves old new opening events → (known (pass_of new)).setting ≡ Some beginning
      → Tells beginning (known (pass_of new)).seen (known (pass_of old)).number (kit_of old) (kit_of new) opening events)
      (longer : (beginning : Beginning) (history more : List Entry) (number : ℕ) (before after : Kit D K) (opening : LinkTold) (events : List E)
      → Tells beginning history number before after opening events → Tells beginning (history ++ more) number before after opening events) where
    -- all have left
    pub have_left : (k : CallerKnows) (ws : List (Worker H N A B)) → HaveWorked IsPass Unused pass_of kit_of Told Ready Serves k ws
        → HaveLeft IsPass Unused pass_of kit_of Told places_of Tells k ws
    have_left k ws all =
        let b = all.first.beginning in
        let set : all.before.setting ≡ Some b = ap (λ (z : CallerKnows). z.setting) all.first.knows in
        let hired = subst (λ (s : Option Beginning). AllHired IsPass Unused pass_of kit_of Told s all.hires.numbers all.olds) set all.hires.hired in
        record {
          beginning = b;
          numbers = all.hires.numbers;
          left = all_left IsPass Unused pass_of kit_of Told b places_of (Tells b) Ready Serves passes calls
              (λ old new opening events serves begun. tells old new opening events b serves begun) (longer b) all.first.can_begin.first all.hires.numbers all.olds ws hired all.worked;
          knows = all.knows
              ∙ (ap (λ (z : CallerKnows). saw z k.seen) (all.hires.knows ∙ ap (λ (z : CallerKnows). record z { upto = all.hired.upto; made = z.made ++ all.hires.numbers }) all.first.knows)
              ∙ ap (λ (u : ℕ). record (opened 0 b) { upto = u; seen = k.seen; made = all.hires.numbers }) (sym (ap (λ (z : CallerKnows). z.upto) all.knows)));
          above = all.hires.above;
          once = all.hires.once;
        }
