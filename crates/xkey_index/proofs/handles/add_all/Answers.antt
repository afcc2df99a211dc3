use Rattle.std.proofs.Common.{nat_eq, sym, ◌∙◌}
use Rattle.std.specs.Str.{bytes_eq}
use Rattle.xkey_index.specs.Handles.{Adds, is_under}
use Rattle.xkey_index.proofs.HandleLemmas.{adds_more, not_refused}
use Rattle.xkey_index.proofs.handles.add_all.Goals as goal

pub loop-place-preserved : goal.loop-place-preserved
loop-place-preserved c = λ key other.
    let added = not_refused c.add.result (Adds c.loop-place.handles c.args.handle (bytes_eq c.index-keys-place.result) c.add.new.handles) (sym c.is_err.ensures.value ∙ c.if-is_err.false) c.add.ensures.ok in
    adds_more c.args.keys.now c.loop-place.place c.index-keys-place.result key
    (is_under c.args.handles.now key other) (is_under c.loop-place.handles key other) (is_under c.add.new.handles key other) (nat_eq c.args.handle other)
    c.loop-place-test.true c.index-keys-place.is (c.loop-place.invariant key other) (added key other)
