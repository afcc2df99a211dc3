-- What a table has no line of its own for.
use Rattle.std.proofs.Common.{◌≡◌, ℕ, ℤ, List, Option, refl}
use Rattle.cache_law.specs.declared.call.Reply.{Reply}
use Rattle.cache_law.specs.declared.call.Reply.TheVariants as reply
use Rattle.cache_law.specs.declared.cache.Told.{Told}
use Rattle.cache_law.specs.declared.rounds.Given.{Given}
use Rattle.cache_law.specs.declared.rounds.Given.TheVariants as given
use Rattle.http_heads.specs.declared.exchange.Got.{Got}
use Rattle.vcl_context.specs.declared.context.Context.{Context}
use Rattle.vcl_context.specs.declared.turn.Return.{Return}
use Rattle.vcl_context.specs.declared.turn.Return.TheVariants as word
use Rattle.fetch_graph.specs.declared.fetch.Arrived.{Arrived}
use Rattle.fetch_graph.specs.declared.fetch.Fetch.{Fetch}
use Rattle.fetch_graph.specs.declared.fetch.Insertion.{Insertion}
use Rattle.fetch_graph.specs.declared.fetch.WaitPoint.TheVariants as point
use Rattle.fetch_graph.specs.Graph.{without_response, behind_request, behind_response, behind_error}
use Rattle.fetch_graph.specs.Answers.{over, after_pick, after_insertion, takes}

pub picked-other : (c : Context) (m : ℕ) (x : Reply) (f : Fetch) → ((n : Option (List ℕ)) → x ≡ reply.Picked n → ⊥) → over f ≡ after_pick c m x f
picked-other c m (reply.Picked n) f other = absurd (other n refl)
picked-other c m x f other = refl

pub inserted-other : (i : Insertion) (c : Context) (m : ℕ) (x : Reply) (f : Fetch)
    → ((n : ℕ) → x ≡ reply.Stored n → ⊥)
    → (x ≡ reply.NotInTime → ⊥)
    → (x ≡ reply.NoRoom → ⊥)
    → (x ≡ reply.Refused → ⊥)
    → (x ≡ reply.StaleGone → ⊥)
    → over f ≡ after_insertion i c m x f
inserted-other i c m (reply.Stored n) f a b d e g = absurd (a n refl)
inserted-other i c m reply.NotInTime f a b d e g = absurd (b refl)
inserted-other i c m reply.NoRoom f a b d e g = absurd (d refl)
inserted-other i c m reply.Refused f a b d e g = absurd (e refl)
inserted-other i c m reply.StaleGone f a b d e g = absurd (g refl)
inserted-other i c m x f a b d e g = refl

pub request-other : (w : Return) (c : Context) (f : Fetch) → (w ≡ word.Fetch → ⊥) → ((s : ℤ) (r : List ℕ) → w ≡ word.Error s r → ⊥)
    → without_response f ≡ behind_request w c f
request-other word.Fetch c f a b = absurd (a refl)
request-other (word.Error s r) c f a b = absurd (b s r refl)
request-other w c f a b = refl

pub response-other : (x : Arrived) (w : Return) (c : Context) (f : Fetch)
    → (w ≡ word.Deliver → ⊥)
    → ((t : ℤ) → w ≡ word.PassFor t → ⊥)
    → ((s : ℤ) (r : List ℕ) → w ≡ word.Error s r → ⊥)
    → (w ≡ word.Retry → ⊥)
    → without_response f ≡ behind_response x w c f
response-other x word.Deliver c f a b d e = absurd (a refl)
response-other x (word.PassFor t) c f a b d e = absurd (b t refl)
response-other x (word.Error s r) c f a b d e = absurd (d s r refl)
response-other x word.Retry c f a b d e = absurd (e refl)
response-other x w c f a b d e = refl

pub error-other : (origin : ℤ) (w : Return) (c : Context) (f : Fetch) → (w ≡ word.Deliver → ⊥) → (w ≡ word.Retry → ⊥)
    → without_response f ≡ behind_error origin w c f
error-other origin word.Deliver c f a b = absurd (a refl)
error-other origin word.Retry c f a b = absurd (b refl)
error-other origin w c f a b = refl

-- ---- what doesn't answer what is wanted at a place

pub pick-given : (c : Context) (g : Given) (f : Fetch) → ((t : Told) → g ≡ given.Reply t → ⊥) → over f ≡ takes (point.Pick c) g f
pick-given c (given.Reply t) f other = absurd (other t refl)
pick-given c g f other = refl

pub ask-given : (c : Context) (g : Given) (f : Fetch) → ((t : Got) → g ≡ given.Exchange t → ⊥) → over f ≡ takes (point.Ask c) g f
ask-given c (given.Exchange t) f other = absurd (other t refl)
ask-given c g f other = refl

pub insert-given : (i : Insertion) (c : Context) (g : Given) (f : Fetch) → ((t : Told) → g ≡ given.Reply t → ⊥) → over f ≡ takes (point.Insert i c) g f
insert-given i c (given.Reply t) f other = absurd (other t refl)
insert-given i c g f other = refl

pub drop-given : (g : Given) (f : Fetch) → over f ≡ takes point.Drop g f
drop-given given.Start f = refl
drop-given (given.Reply t) f = refl
drop-given (given.Exchange t) f = refl
drop-given (given.Fetched t) f = refl
drop-given given.Sent f = refl
