use Rattle.std.proofs.Common.{rules, arith}
use Rattle.journal_run.proofs.Cut.{cut_more, cut_none}
use Rattle.journal_run.proofs.keeping.keep_journal.Goals as goal

pub segments-init : goal.segments-init
segments-init g c =
    let began = g.C.CacheCore.beginning c.args.core in
    record {
      ready = c.requires.ready;
      empty = c.requires.empty;
      base = c.requires.base;
      legal = c.requires.legal;
      from = c.requires.from;
      so_far = cut_none g.W.Stint.Does began c.args.stint.now (g.K.Sink.held c.args.sink.now) (c.segments_go_on.ensures.first began.params began.base);
      later = search rules;
    }

pub segments-preserved : goal.segments-preserved
segments-preserved g c =
    let began = g.C.CacheCore.beginning c.args.core in
    let held = g.K.Sink.held in
    let now = g.C.CacheCore.beginning c.segments.opened.core in
    let cut = c.in-Ok.ensures.cut in
    let before = c.segments.invariant.later in
    let later = c.go_on.ensures.later in
    record {
      ready = c.in-Ok.ensures.ready;
      empty = c.in-Ok.ensures.empty;
      base = c.in-Ok.ensures.base;
      legal = c.in-Ok.ensures.legal;
      from = c.in-Ok.ensures.from;
      so_far = cut_more g.W.Stint.Does began.params began.base c.args.stint.now c.segments.stint c.go_on.new.stint (held c.args.sink.now) (held c.segments.sink) (held c.go_on.new.sink)
          now (g.C.CacheCore.beginning c.in-Ok.further.core) cut.0 c.segments_go_on.ensures.more c.segments.invariant.so_far cut.1 c.in-Ok.ensures.params cut.2;
      later = omega (arith, before, later);
    }
