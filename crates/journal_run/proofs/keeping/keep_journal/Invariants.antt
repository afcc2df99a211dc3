-- What was done so far, and that another stint may be done.
use Rattle.std.proofs.Common.{◌≡◌, ◌≤◌, []}
use Rattle.cache_law.specs.Bases.{IsBase}
use Rattle.cache_law.specs.History.{Legal}
use Rattle.journal_run.proofs.Cut.{HasCut}
use Rattle.journal_run.proofs.keeping.keep_journal.Given as goal

abbrev pub invariant-segments : goal.invariant-segments
invariant-segments g l =
    let began = g.C.CacheCore.beginning l.fn.core in
    record {
      ready : g.W.Stint.Ready l.stint;
      empty : g.C.CacheCore.history l.opened.core ≡ [];
      base : IsBase (g.C.CacheCore.beginning l.opened.core).base;
      legal : Legal (g.C.CacheCore.beginning l.opened.core) [];
      from : l.opened.from ≡ (g.C.CacheCore.beginning l.opened.core).base.entries;
      so_far : HasCut g.W.Stint.Does began.params began.base l.fn.stint l.stint (g.K.Sink.held l.fn.sink) (g.K.Sink.held l.sink) (g.C.CacheCore.beginning l.opened.core);
      later : g.K.Sink.faults l.fn.sink ≤ g.K.Sink.faults l.sink;
    }
