-- Each arrow of the client's graph leads to where fewer subroutines may still run.
use Rattle.std.proofs.Common.{◌≡◌, ℕ, ◌+◌, ◌*◌, ◌-◌, ◌<◌, Bool, true, false, Option, Some, None, refl, sym, subst, arith}
use Rattle.vcl_context.specs.declared.context.Context.{Context}
use Rattle.vcl_context.specs.declared.turn.Return.{Return}
use Rattle.vcl_context.specs.declared.turn.Return.TheVariants as word
use Rattle.client_graph.specs.declared.round.Round.{Round}
use Rattle.client_graph.specs.declared.round.HeldFetch.{HeldFetch}
use Rattle.client_graph.specs.declared.round.KeyUse.TheVariants as key_use
use Rattle.client_graph.specs.declared.round.State.{State}
use Rattle.client_graph.specs.declared.round.State.TheVariants as state
use Rattle.client_graph.specs.declared.round.Next.{Next}
use Rattle.client_graph.specs.declared.round.Next.TheVariants.{Enter, Rest}
use Rattle.client_graph.specs.Graph.{enter, leads, common, giving_up, round_again, round_again_if, late_restart, last_restart, may_restart}
use Rattle.client_task.specs.Standing.{weight, weight_of}
use Rattle.std.proofs.lemmas.Bool.{ltb-true}

-- a restart that may happen
restart-lower : (b : Bool) (c : Context) (r : Round) (k : ℕ) → may_restart r ≡ b → 1 < k → weight_of (round_again_if b c r) < 8 * (4 - r.restarts) + k
restart-lower true c r k e h = let few : r.restarts < 4 = ltb-true r.restarts 4 e in omega (arith, few, h)
restart-lower false c r k e h = omega (arith, h)

common-lower : (w : Return) (c : Context) (r : Round) (k : ℕ) → 1 < k → weight_of (common w c r) < 8 * (4 - r.restarts) + k
common-lower word.Restart c r k h = restart-lower (may_restart r) c r k refl h
common-lower w c r k h = omega (arith, h)

-- giving up a fetch rests
giving-lower : (held : Option HeldFetch) (next : Next) (k : ℕ) → weight_of next < k → weight_of (giving_up held next) < k
giving-lower None next k h = h
giving-lower (Some held) (Enter s c r) k h = omega (arith, h)
giving-lower (Some held) (Rest point r) k h = h

late-lower : (b : Bool) (c : Context) (r : Round) → may_restart r ≡ b → weight_of (late_restart b c r) < 8 * (4 - r.restarts) + 2
late-lower true c r e = giving-lower r.background (round_again c (record r { background = None })) (8 * (4 - r.restarts) + 2) (let few : r.restarts < 4 = ltb-true r.restarts 4 e in omega (arith, few))
late-lower false c r e = omega arith

last-lower : (b : Bool) (c : Context) (r : Round) → may_restart r ≡ b → weight_of (last_restart b c r) < 8 * (4 - r.restarts) + 1
last-lower true c r e = giving-lower r.background (round_again c (record r { background = None })) (8 * (4 - r.restarts) + 1) (let few : r.restarts < 4 = ltb-true r.restarts 4 e in omega (arith, few))
last-lower false c r e = omega arith

pub leads-lower : (s : State) (w : Return) (c : Context) (r : Round) → weight_of (leads s w c r) < weight s r
leads-lower state.Recv word.Hash c r = omega arith
leads-lower state.Recv word.Purge c r = omega arith
leads-lower state.Recv word.Pass c r = omega arith
leads-lower state.Recv w c r = common-lower w c r 7 (omega arith)
leads-lower (state.Hash key_use.Lookup) word.Lookup c r = omega arith
leads-lower (state.Hash key_use.Purge) word.Lookup c r = omega arith
leads-lower (state.Hash key_use.Lookup) w c r = common-lower w c r 6 (omega arith)
leads-lower (state.Hash key_use.Purge) w c r = common-lower w c r 6 (omega arith)
leads-lower (state.Hit found) word.Deliver c r = omega arith
leads-lower (state.Hit found) word.Pass c r = giving-lower found.held (enter state.Pass c r) (weight (state.Hit found) r) (omega arith)
leads-lower (state.Hit found) w c r = giving-lower found.held (common w c r) (weight (state.Hit found) r) (common-lower w c r 5 (omega arith))
leads-lower (state.Miss held) word.Fetch c r = omega arith
leads-lower (state.Miss held) word.Pass c r = omega arith
leads-lower (state.Miss held) w c r = giving-lower (Some held) (common w c r) (weight (state.Miss held) r) (common-lower w c r 4 (omega arith))
leads-lower state.Purge w c r = common-lower w c r 4 (omega arith)
leads-lower state.Pass word.Fetch c r = omega arith
leads-lower state.Pass w c r = common-lower w c r 3 (omega arith)
leads-lower (state.Deliver body) word.Deliver c r = omega arith
leads-lower (state.Deliver body) word.Restart c r = late-lower (may_restart r) c r refl
leads-lower (state.Deliver body) w c r = common-lower w c r 2 (omega arith)
leads-lower state.Synth word.Deliver c r = omega arith
leads-lower state.Synth word.Restart c r = last-lower (may_restart r) c r refl
leads-lower state.Synth w c r = omega arith

pub lowers-from : (s first : State) (next : Next) (w : Return) (c : Context) (r : Round) → next ≡ leads s w c r → s ≡ first → weight_of next < weight first r
lowers-from s first next w c r led same =
    subst (λ (from : State). weight_of next < weight from r) same (subst (λ (n : Next). weight_of n < weight s r) (sym led) (leads-lower s w c r))
