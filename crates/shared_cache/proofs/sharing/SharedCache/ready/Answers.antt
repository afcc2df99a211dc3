use Rattle.std.proofs.Common.{◌≡◌, List, sym, ap, ◌∙◌}
use Rattle.cache_law.specs.declared.call.Entry.{Entry}
use Rattle.turnstile.specs.Knowledge.{saw, Grown, Meets}
use Rattle.turnstile.specs.Handles.{known}
use Rattle.turnstile.proofs.Places.{meets_later, known_later, grown_later}
use Rattle.shared_cache.specs.Sharing.{CallerKnows, caller_of}
use Rattle.shared_cache.proofs.sharing.SharedCache.ready.Goals as goal

-- over one more turn that was passed by
passed_by : (k now held after : CallerKnows) (history : List Entry)
    → now ≡ saw k now.seen → Grown caller_of k now.seen → held ≡ saw now history → Meets caller_of now history → after ≡ held
    → (after ≡ saw k after.seen) × Grown caller_of k after.seen
passed_by k now held after history knows grown is meets same =
    let back : after ≡ saw held history = same ∙ (is ∙ ap (λ (z : CallerKnows). saw z history) (sym is)) in
    (known_later caller_of k now held after history knows is back, grown_later caller_of k now held after history knows grown meets back)

pub returns-then-is_none-clause-history : goal.returns-then-is_none-clause-history
returns-then-is_none-clause-history g c =
    let now = c.turns.invariant in meets_later caller_of (known c.args.pass.now) _ _ now.knows now.grown c.turn_after-held.ensures.history

pub turns-preserved : goal.turns-preserved
turns-preserved g c =
    let now = c.turns.invariant in
    let held = c.turn_after-held.ensures in
    let later = passed_by (known c.args.pass.now) _ _ _ _ now.knows now.grown held.held.1 held.history c.pass_by.ensures.pass.1 in record {
      pass = c.pass_by.ensures.pass.0;
      number = c.pass_by.ensures.number ∙ (held.number ∙ now.number);
      knows = later.0;
      grown = later.1;
    }
