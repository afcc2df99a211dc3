-- What doesn't answer what is wanted ends the round.
use Rattle.std.proofs.Common.{◌≡◌, ℕ, Option, refl}
use Rattle.vcl_context.specs.declared.context.Context.{Context}
use Rattle.cache_law.specs.declared.call.Reply.{Reply}
use Rattle.cache_law.specs.declared.call.Reply.TheVariants as reply
use Rattle.cache_law.specs.declared.rounds.Given.{Given}
use Rattle.cache_law.specs.declared.rounds.Given.TheVariants as given
use Rattle.client_graph.specs.declared.round.Round.{Round}
use Rattle.client_graph.specs.declared.round.State.{State}
use Rattle.client_graph.specs.declared.round.WaitPoint.TheVariants as point
use Rattle.cache_law.specs.declared.object.ObjectView.{ObjectView}
use Rattle.cache_law.specs.declared.call.Query.{Query}
use Rattle.client_graph.specs.Answers.{over, after_lookup, after_purge, after_drop, after_draw, takes}

pub purged-other : (c : Context) (x : Reply) (r : Round) → ((n : ℕ) → x ≡ reply.Purged n → ⊥) → over r ≡ after_purge c x r
purged-other c (reply.Purged n) r other = absurd (other n refl)
purged-other c x r other = refl

pub dropped-other : (s : State) (c : Context) (x : Reply) (r : Round) → (x ≡ reply.Dropped → ⊥) → over r ≡ after_drop s c x r
dropped-other s c reply.Dropped r other = absurd (other refl)
dropped-other s c x r other = refl

pub drawn-other : (c : Context) (m : ℕ) (x : Reply) (r : Round) → ((n : ℕ) → x ≡ reply.Drawn n → ⊥) → over r ≡ after_draw c m x r
drawn-other c m (reply.Drawn n) r other = absurd (other n refl)
drawn-other c m x r other = refl

pub sent-other : (c : Context) (g : Given) (r : Round) → (g ≡ given.Sent → ⊥) → over r ≡ takes (point.Fail c) g r
sent-other c given.Sent r other = absurd (other refl)
sent-other c g r other = refl

pub looked-other : (q : Query) (c : Context) (m : ℕ) (x : Reply) (r : Round)
    → ((v : ObjectView) → x ≡ reply.Hit v → ⊥)
    → ((v : ObjectView) (t : Option ℕ) → x ≡ reply.Grace v t → ⊥)
    → ((t : ℕ) (s : Option ObjectView) → x ≡ reply.Miss t s → ⊥)
    → ((t : ℕ) → x ≡ reply.HitMiss t → ⊥)
    → (x ≡ reply.HitPass → ⊥)
    → ((t : ℕ) → x ≡ reply.Wait t → ⊥)
    → over r ≡ after_lookup q c m x r
looked-other q c m (reply.Hit v) r a b d e f g = absurd (a v refl)
looked-other q c m (reply.Grace v t) r a b d e f g = absurd (b v t refl)
looked-other q c m (reply.Miss t s) r a b d e f g = absurd (d t s refl)
looked-other q c m (reply.HitMiss t) r a b d e f g = absurd (e t refl)
looked-other q c m reply.HitPass r a b d e f g = absurd (f refl)
looked-other q c m (reply.Wait t) r a b d e f g = absurd (g t refl)
looked-other q c m x r a b d e f g = refl
