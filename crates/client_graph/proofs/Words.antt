-- Where the words lead that a state has no line of its own for.
use Rattle.std.proofs.Common.{◌≡◌, Some, refl}
use Rattle.vcl_context.specs.declared.context.Context.{Context}
use Rattle.vcl_context.specs.declared.turn.Return.{Return}
use Rattle.vcl_context.specs.declared.turn.Return.TheVariants as word
use Rattle.delivery.specs.declared.finishing.ResponseBody.{ResponseBody}
use Rattle.client_graph.specs.declared.round.Round.{Round}
use Rattle.client_graph.specs.declared.round.HeldFetch.{HeldFetch}
use Rattle.client_graph.specs.declared.round.FoundObject.{FoundObject}
use Rattle.client_graph.specs.declared.round.KeyUse.{KeyUse}
use Rattle.client_graph.specs.declared.round.KeyUse.TheVariants as key_use
use Rattle.client_graph.specs.declared.round.State.TheVariants as state
use Rattle.client_graph.specs.declared.round.WaitPoint.TheVariants as point
use Rattle.client_graph.specs.declared.round.Next.TheVariants.{Rest}
use Rattle.client_graph.specs.Graph.{leads, common, giving_up}

pub recv-other : (w : Return) (c : Context) (r : Round) → (w ≡ word.Hash → ⊥) → (w ≡ word.Purge → ⊥) → (w ≡ word.Pass → ⊥)
    → common w c r ≡ leads state.Recv w c r
recv-other word.Hash c r a b d = absurd (a refl)
recv-other word.Purge c r a b d = absurd (b refl)
recv-other word.Pass c r a b d = absurd (d refl)
recv-other w c r a b d = refl

pub hash-other : (x : KeyUse) (w : Return) (c : Context) (r : Round) → (w ≡ word.Lookup → ⊥) → common w c r ≡ leads (state.Hash x) w c r
hash-other key_use.Lookup word.Lookup c r a = absurd (a refl)
hash-other key_use.Purge word.Lookup c r a = absurd (a refl)
hash-other key_use.Lookup w c r a = refl
hash-other key_use.Purge w c r a = refl

pub hit-other : (found : FoundObject) (w : Return) (c : Context) (r : Round) → (w ≡ word.Deliver → ⊥) → (w ≡ word.Pass → ⊥)
    → giving_up found.held (common w c r) ≡ leads (state.Hit found) w c r
hit-other found word.Deliver c r a b = absurd (a refl)
hit-other found word.Pass c r a b = absurd (b refl)
hit-other found w c r a b = refl

pub miss-other : (held : HeldFetch) (w : Return) (c : Context) (r : Round) → (w ≡ word.Fetch → ⊥) → (w ≡ word.Pass → ⊥)
    → giving_up (Some held) (common w c r) ≡ leads (state.Miss held) w c r
miss-other held word.Fetch c r a b = absurd (a refl)
miss-other held word.Pass c r a b = absurd (b refl)
miss-other held w c r a b = refl

pub pass-other : (w : Return) (c : Context) (r : Round) → (w ≡ word.Fetch → ⊥) → common w c r ≡ leads state.Pass w c r
pass-other word.Fetch c r a = absurd (a refl)
pass-other w c r a = refl

pub deliver-other : (body : ResponseBody) (w : Return) (c : Context) (r : Round) → (w ≡ word.Deliver → ⊥) → (w ≡ word.Restart → ⊥)
    → common w c r ≡ leads (state.Deliver body) w c r
deliver-other body word.Deliver c r a b = absurd (a refl)
deliver-other body word.Restart c r a b = absurd (b refl)
deliver-other body w c r a b = refl

pub synth-other : (w : Return) (c : Context) (r : Round) → (w ≡ word.Deliver → ⊥) → (w ≡ word.Restart → ⊥)
    → Rest (point.Fail c) r ≡ leads state.Synth w c r
synth-other word.Deliver c r a b = absurd (a refl)
synth-other word.Restart c r a b = absurd (b refl)
synth-other w c r a b = refl
