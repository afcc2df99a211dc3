-- The programs of workers may cross threads, and what they do is what the trees of their texts mean.
use Rattle.std.proofs.Common.{◌≡◌, ◌∙◌, refl, ap, inl, inr}
use Rattle.std.proofs.Crossing.{crosses}
use denote.Param.Send.{sendable}
use Rattle.vcl_library.specs.Functions.{std_functions}
use Rattle.console_job.proofs.Operated.{same_told}
use Rattle.varn_serve.proofs.Carried.{by_vcl}
use Rattle.varn_serve.proofs.Crossing.{compiled_send, compiled_sync, kept_send, kept_sync, library_send, library_sync}
use Rattle.varn_serve.proofs.Ends.{idle_halted, idle_unbooted, unbooted_so}
use Rattle.varn_serve.specs.declared.ending.Served.{Served}
use Rattle.varn_serve.proofs.functions.try_serve.Goals as goal

ruleset crossing = (crosses, sendable, compiled_send, compiled_sync, kept_send, kept_sync, library_send, library_sync)

pub serve_stocked-requires-send-M-Program : goal.serve_stocked-requires-send-M-Program
serve_stocked-requires-send-M-Program g c κs within = search crossing depth 60 fits 20000

pub serve_stocked-requires-sync-M-Program : goal.serve_stocked-requires-sync-M-Program
serve_stocked-requires-sync-M-Program g c κs within = search crossing depth 60 fits 20000

pub serve_stocked-requires-sync-F : goal.serve_stocked-requires-sync-F
serve_stocked-requires-sync-F g c κs within = search crossing depth 60 fits 20000

pub serve_stocked-requires-send-P : goal.serve_stocked-requires-send-P
serve_stocked-requires-send-P g c κs within = search crossing depth 60 fits 20000

pub serve_stocked-requires-sync-P : goal.serve_stocked-requires-sync-P
serve_stocked-requires-sync-P g c κs within = search crossing depth 60 fits 20000

pub returns-in-Err-clause-ends : goal.returns-in-Err-clause-ends
returns-in-Err-clause-ends g c =
    let same : c.in_ok-vmods.vmods.stored ≡ std_functions = rw c.in_ok-vmods.ensures c.in_ok-std_vmods.ensures in
    unbooted_so _ _ _ _ _ _ _ c.args.order.now c.in-Err.error c.unbooted.result c.unbooted.ensures (rw same at c.in-Err.ensures.why)

pub returns-in-Ok-serve_stocked-clause-came : goal.returns-in-Ok-serve_stocked-clause-came
returns-in-Ok-serve_stocked-clause-came g c =
    let same : c.in_ok-vmods.vmods.stored ≡ std_functions = rw c.in_ok-vmods.ensures c.in_ok-std_vmods.ensures in
    let functions : c.in_ok-functions.functions.stored ≡ std_functions = rw c.in_ok-functions.ensures same in
    inr (record {
      boot = c.in-Ok.stocked.0;
      boots = rw same at c.in-Ok.ensures.boot;
      ran = rw (c.finished.ensures.history, c.finished.ensures.keepers, c.finished.ensures.connections, c.finished.ensures.console, ← c.stocked_boot.ensures.kits)
          (by_vcl _ _ _ _ _ _ _ _ _ _ _ _ _ _ _ _ c.finished.result.tally _ c.finished.ensures.tally c.in-Ok-serve_stocked.ensures.ran);
      operated = rw (c.finished.ensures.history, c.finished.ensures.console) (rw functions at c.in-Ok-serve_stocked.ensures.operated);
    })

pub returns-in-Err-clause-came : goal.returns-in-Err-clause-came
returns-in-Err-clause-came g c =
    inl (idle_unbooted _ _ _ _ c.unbooted.result c.stocked_boot.ensures.kits refl c.in-Err.error c.unbooted.ensures)

pub returns-in-Err-serve_stocked-clause-came : goal.returns-in-Err-serve_stocked-clause-came
returns-in-Err-serve_stocked-clause-came g c =
    let nobody = c.in-Err-serve_stocked.ensures.nobody in
    let untouched = c.in-Err-serve_stocked.ensures.unoperated in
    inl (idle_halted _ _ _ _ c.stopped.result (nobody.0 ∙ c.stocked_boot.ensures.kits)
    (same_told _ _ _ _ _ _ _ _ untouched.0 untouched.1 untouched.2 untouched.3) c.in-Err-serve_stocked.status _
    c.stopped.ensures _ c.in-Err-serve_stocked.ensures.halted)

pub returns-in-Ok-serve_stocked-clause-given : goal.returns-in-Ok-serve_stocked-clause-given
returns-in-Ok-serve_stocked-clause-given g c = inl (rw (c.finished.ensures.connections, ← c.stocked_boot.ensures.given) c.in-Ok-serve_stocked.ensures.given)

pub returns-in-Err-clause-given : goal.returns-in-Err-clause-given
returns-in-Err-clause-given g c = inr (ap (λ (s : Served g.row.N.Denot). s.connections) c.unbooted.ensures, c.stocked_boot.ensures.given)

pub returns-in-Err-serve_stocked-clause-given : goal.returns-in-Err-serve_stocked-clause-given
returns-in-Err-serve_stocked-clause-given g c =
    let nobody = c.in-Err-serve_stocked.ensures.nobody in
    inr (ap (λ (s : Served g.row.N.Denot). s.connections) c.stopped.ensures, nobody.1 ∙ c.stocked_boot.ensures.given)
