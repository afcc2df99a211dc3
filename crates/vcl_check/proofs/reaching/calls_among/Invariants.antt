use Rattle.std.proofs.Common.{◌≡◌, ◌++◌, drop, filter_map, length}
use Rattle.vcl_symbols.specs.Calls.{AreWithin}
use Rattle.vcl_check.specs.Reaching.{call_of}
use Rattle.vcl_check.proofs.reaching.calls_among.Given as goal

abbrev pub invariant-loop-mention : goal.invariant-loop-mention
invariant-loop-mention l =
    (l.calls.items ++ filter_map (call_of l.tables l.numbers) (drop l.mention-index l.mentions) ≡ filter_map (call_of l.tables l.numbers) l.mentions)
    × AreWithin (length l.numbers) l.calls.items
