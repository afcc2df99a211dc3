-- What happened in a round, thing by thing, and what is left of it.
use Rattle.std.specs.Prelude.{◌≢◌, ⊤, ℕ, Bool, false, ◌||◌, List, [], ◌∷◌, codes}
use Rattle.http_heads.specs.declared.exchange.Exchange.TheVariants.{NoMemory}
use Rattle.cache_law.specs.declared.call.Call.{Call}
use Rattle.cache_law.specs.declared.call.Call.TheVariants.{End}
use Rattle.cache_law.specs.declared.cache.Told.{Told}
use Rattle.cache_law.specs.declared.call.Reply.{Reply as Answer}
use Rattle.cache_law.specs.declared.call.Reply.TheVariants.{Began}
use Rattle.cache_law.specs.declared.rounds.Given.{Given}
use Rattle.cache_law.specs.declared.rounds.Given.TheVariants as given
use Rattle.delivery.specs.declared.finishing.Delivery.{Delivery}
use Rattle.http_heads.specs.Lists.{is_listed}
use Rattle.round_task.specs.declared.want.Want.{Want}
use Rattle.round_task.specs.declared.want.Want.TheVariants.{Cache, Exchange, Send}
use Rattle.round_task.specs.Happened.{Happened}

-- What is given is of the kind that was wanted. An exchange for which memory was wanting isn't given.
abbrev pub Suits : Want → Given → Type 0
Suits (Cache call) (given.Reply told) = ⊤
Suits (Exchange number backend request) (given.Exchange got) = got.exchange ≢ NoMemory
Suits (Send delivery) given.Sent = ⊤
Suits want other = ⊥

-- Each of these things was wanted after what was given before it, and given. `wants` is what a round wants after givens.
abbrev pub Runs : (List Given → Want → Type 0) → List Given → List Happened → Type 0
Runs wants givens [] = ⊤
Runs wants givens (one ∷ more) = wants givens one.want × Suits one.want one.given × Runs wants (one.given ∷ givens) more

-- the call and its answer, as a thing
abbrev pub called : Call → Told → Happened
called call told = record { want = Cache call; given = given.Reply told }

-- the end of a round
abbrev pub ended : Told → Happened
ended told = called End told

-- ---- the text of a round's VCL: what its Begin was told

abbrev pub text_told : Answer → List ℕ
text_told (Began number vcl text) = text
text_told other = []

abbrev pub text_given : Given → List ℕ
text_given (given.Reply told) = text_told told.reply
text_given other = []

abbrev pub text_of : List Happened → List ℕ
text_of [] = []
text_of (first ∷ more) = text_given first.given

-- ---- whether the response says that the connection closes behind it

abbrev pub says_close : Delivery → Bool
says_close delivery = is_listed (codes "connection") (codes "close") delivery.head.fields

abbrev pub closes_for : Want → Given → Bool
closes_for (Send delivery) given.Sent = says_close delivery
closes_for want other = false

abbrev pub closes_of : List Happened → Bool
closes_of [] = false
closes_of (one ∷ more) = closes_for one.want one.given || closes_of more
