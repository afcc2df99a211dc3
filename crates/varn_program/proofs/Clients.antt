-- The clients of a session that is read have numbers from 1 to 250.
use Rattle.std.proofs.Common.{◌≡◌, ◌⊎◌, inl, inr, ℕ, Bool, true, false, List, [], ◌∷◌, ◌++◌, cond, nat_lt, sym, subst}
use Rattle.std.specs.List.{AllByRecursion}
use Rattle.std.specs.Option.{is_some}
use Rattle.session_text.specs.declared.session.Line.{Line}
use Rattle.session_text.specs.declared.session.Line.TheVariants.{At, Req, Reply, Fail, Cli, Lurk, Probe}
use Rattle.session_text.specs.declared.session.FaultKind.TheVariants.{After, Moment}
use Rattle.session_text.specs.declared.session.NumberedLine.{NumberedLine}
use Rattle.session_text.specs.declared.session.Session.{Session}
use Rattle.session_text.specs.declared.place.Place.{Place}
use Rattle.session_text.specs.Lines.{TextLine, lines_of, content}
use Rattle.session_text.specs.Readings.{Reading, Passed, End, Says, Bad, IsReading, IsLine}
use Rattle.session_text.specs.Sessions.{IsSession, IsStep, Reads, Step, On, Stop, first_place, moment_after, step_of}
use Rattle.replay.specs.Build.{HasClients, IsOfClient}

abbrev AllOfClients : List NumberedLine → Type 0
AllOfClients lines = AllByRecursion (λ (one : NumberedLine). IsOfClient one.line) lines

-- what a step gives is so
abbrev GivesClients : Step → Type 0
GivesClients (On given place) = AllOfClients given
GivesClients (Stop kind) = Unit {0}

either_step : (b : Bool) (one two : Step) → GivesClients one → GivesClients two → GivesClients (cond b one two)
either_step true one two p q = p
either_step false one two p q = q

of_client : (text : List ℕ) (line : Line) → IsLine text line → IsOfClient line
of_client text (Req client said) is = (is.2.4, is.2.5)
of_client text (At moment) is = tt
of_client text (Reply fetch said) is = tt
of_client text (Fail fetch) is = tt
of_client text (Cli said) is = tt
of_client text (Lurk count) is = tt
of_client text (Probe backend good) is = tt

step_clients : (place : Place) (line : TextLine) (text : List ℕ) (reading : Reading) → IsReading text reading → GivesClients (step_of place line reading)
step_clients place line text Passed is = tt
step_clients place line text End is = either_step (is_some place.end) (Stop After) _ tt tt
step_clients place line text (Says says) is =
    either_step (nat_lt (moment_after place.moment says) place.moment) (Stop Moment) _ tt (either_step (is_some place.end) (Stop After) _ tt (of_client text says is, tt))
step_clients place line text (Bad kind) is = tt

given_clients : (place : Place) (line : TextLine) (given : List NumberedLine) (next : Place) → IsStep place line (On given next) → AllOfClients given
given_clients place line given next (inl past) = let clash = past.1 in absurd (cc)
given_clients place line given next (inr read) = subst GivesClients (sym read.3) (step_clients place line (content line) read.1 read.2)

all_joined : (given more : List NumberedLine) → AllOfClients given → AllOfClients more → AllOfClients (given ++ more)
all_joined [] more p q = q
all_joined (line ∷ given) more p q = (p.0, all_joined given more p.1 q)

read_clients : (rest : List TextLine) (place : Place) (lines : List NumberedLine) (end : ℕ) → Reads rest place lines end → AllOfClients lines
read_clients [] place lines end reads = subst AllOfClients (sym reads.0) tt
read_clients (line ∷ rest) place lines end reads =
    subst AllOfClients (sym reads.4) (all_joined reads.0 reads.1 (given_clients place line reads.0 reads.2 reads.3) (read_clients rest reads.2 reads.1 end reads.5))

pub has_clients : (text : List ℕ) (session : Session) → IsSession text session → HasClients session
has_clients text session is = read_clients (lines_of text) first_place session.lines session.end is
