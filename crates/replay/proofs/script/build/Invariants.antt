use Rattle.std.proofs.Common.{◌≡◌, ◌++◌, length}
use Rattle.std.specs.Vec.Iter.{into_iter_items, into_iter_len}
use Rattle.replay.specs.Build.{IsBuiltAs}
use Rattle.replay.proofs.script.build.Given as goal

-- the lines so far stand for the events so far
abbrev pub invariant-loop-numbered : goal.invariant-loop-numbered
invariant-loop-numbered g l =
    record {
      taken : l.yielded ++ into_iter_items l.numbered-iterator ≡ into_iter_items l.initial.numbered-iterator;
      counted : into_iter_len l.numbered-iterator ≡ length (into_iter_items l.numbered-iterator);
      built : IsBuiltAs l.vmods.stored l.yielded l.events.items;
    }
