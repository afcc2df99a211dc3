use Rattle.std.proofs.Common.{◌≡◌, ℕ, ◌++◌, ◌∷◌, [], arith, length-append}
use Rattle.std.specs.Prelude.{◌↔◌}
use Rattle.vcl_symbols.specs.Calls.{Reaches, Marked}
use Rattle.vcl_check.proofs.ReachingLemmas.{reached-push}
use Rattle.vcl_check.proofs.reaching.rows_of.Goals as goal

pub loop-number-preserved : goal.loop-number-preserved
loop-number-preserved c =
    let items : c.push.new.self.items ≡ c.loop-number.rows.items ++ c.from_vec.result ∷ [] = c.in_ok-push.ensures.items in
    let row : (v : ℕ) → Marked c.from_vec.result v ↔ Reaches c.args.graph.now.calls c.loop-number.number v = rw c.from_vec.ensures c.in_ok-reached.ensures.marked in
    rw items (
      reached-push c.args.graph.now.calls 0 c.loop-number.rows.items c.from_vec.result c.loop-number.number (omega arith) c.loop-number.invariant.0 row,
      rw length-append (omega arith),
    )
