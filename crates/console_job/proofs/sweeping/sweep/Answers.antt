-- No errand enters anything.
use Rattle.std.proofs.Common.{◌≡◌, List, [], ◌∙◌, sym, ap}
use Rattle.std.proofs.lemmas.List.{append-nil}
use Rattle.cache_law.specs.declared.call.Entry.{Entry}
use Rattle.turnstile.specs.Handles.{known}
use Rattle.turnstile.specs.Knowledge.{Grown, saw}
use Rattle.shared_cache.specs.Sharing.{CallerKnows, caller_of, numbers}
use Rattle.crew.specs.Calls.{HasCalled}
use Rattle.crew.proofs.Called.{called_none, called_then}
use Rattle.console_job.proofs.sweeping.sweep.Goals as goal

called_turned : (k after : CallerKnows) → after ≡ saw k after.seen → Grown caller_of k after.seen → numbers after ≡ numbers k → HasCalled k after []
called_turned k after knows grown same = record {
  between = grown.0;
  knows = knows ∙ ap (λ (h : List Entry). saw k h) grown.1;
  gained = same ∙ sym (append-nil (numbers k));
}

pub errands-init : goal.errands-init
errands-init g c = record {
  pass = c.requires.pass;
  called = called_none (known c.args.pass.now);
}

pub errands-preserved : goal.errands-preserved
errands-preserved g c =
    let before = c.errands.invariant in
    let turned = called_turned (known c.errands.pass) (known c.errand.new.pass) c.errand.ensures.pass.1 c.errand.ensures.grown c.errand.ensures.same in record {
      pass = c.errand.ensures.pass.0;
      called = called_then (known c.args.pass.now) (known c.errands.pass) (known c.errand.new.pass) [] [] before.called turned;
    }
