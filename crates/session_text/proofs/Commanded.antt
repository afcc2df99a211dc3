-- What holds of the line of a command.
use Rattle.std.proofs.Common.{◌≡◌, ◌+◌, ◌-◌, ◌≤◌, ℕ, List, [], ◌∷◌, sym, ap, subst, refl, cond, ltb}
use Rattle.std.specs.Prelude.{Some}
use Rattle.std.specs.Option.{is_some}
use Rattle.session_text.specs.declared.session.FaultKind.{FaultKind}
use Rattle.session_text.specs.declared.session.FaultKind.TheVariants.{Moment, After}
use Rattle.session_text.specs.declared.session.Line.TheVariants.{At}
use Rattle.session_text.specs.declared.command.Command.TheVariants as commands
use Rattle.units.specs.Quoted.{IsQuoted}
use Rattle.session_text.specs.declared.session.Line.{Line}
use Rattle.session_text.specs.declared.command.Command.{Command}
use Rattle.session_text.specs.declared.place.Place.{Place}
use Rattle.session_text.specs.declared.place.Turn.{Turn}
use Rattle.session_text.specs.declared.place.Turn.TheVariants.{Passes, Gives, Stops}
use Rattle.session_text.specs.Lines.{TextLine, size, content}
use Rattle.session_text.specs.Readings.{IsReading, Says, End, Passed, Bad}
use Rattle.session_text.specs.Commands.{IsLineOf, ForLineOf}
use Rattle.session_text.specs.Sessions.{Step, On, Stop, step_of, IsStep, numbered, moment_after}
use Rattle.session_text.specs.Turns.{step_with, IsTurn, SaysNothing, SaysOnly}
use mathlib.Core.Logic.{inr}

pub one_line : (P : Line → Type 0) (line : Line) → P line → ((l : Line) × (l ≡ line)) × ((l : Line) → l ≡ line → P l)
one_line P line p = ((line, refl), λ l e. subst P (sym e) p)

pub text_line_of : (P : Line → Type 0) (make : List ℕ → Line) (quoted values : List ℕ) → IsQuoted values quoted [] → ((text : List ℕ) → IsQuoted text quoted [] → P (make text))
    → ((l : Line) × ((text : List ℕ) × IsQuoted text quoted [] × (l ≡ make text))) × ((l : Line) → ((text : List ℕ) × IsQuoted text quoted [] × (l ≡ make text)) → P l)
text_line_of P make quoted values h p = ((make values, (values, h, refl)), λ l t. subst P (sym t.2) (p t.0 t.1))

-- the moment stays where the line is no `at`
pub moment_kept : (moment : ℕ) (command : Command) (says : Line) → ((m : ℕ) → command ≡ commands.At m → ⊥) → IsLineOf command says → moment ≡ moment_after moment says
moment_kept moment (commands.At m) says other l = absurd (other m refl)
moment_kept moment (commands.Req client quoted) says other l = sym (ap (moment_after moment) l.2)
moment_kept moment (commands.Reply fetch quoted) says other l = sym (ap (moment_after moment) l.2)
moment_kept moment (commands.Fail fetch) says other l = sym (ap (moment_after moment) l)
moment_kept moment (commands.Cli text) says other l = sym (ap (moment_after moment) l)
moment_kept moment (commands.Lurk count) says other l = sym (ap (moment_after moment) l)
moment_kept moment (commands.Probe backend good) says other l = sym (ap (moment_after moment) l)

-- the step of a line that says something, as a turn tells it
abbrev pub step_said : Place → ℕ → ℕ → Line → Step
step_said place room moment says = cond (ltb moment place.moment) (Stop Moment) (cond (is_some place.end) (Stop After) (On (numbered place.number says ∷ []) (record place { number = place.number + 1; room = room; moment = moment })))

pub said_step : (place : Place) (line : TextLine) (room moment : ℕ) (says : Line) (step : Step) → room ≡ place.room - size line → moment ≡ moment_after place.moment says → step ≡ step_said place room moment says → step ≡ step_of place line (Says says)
said_step place line room moment says step r m e =
    let at : ℕ → ℕ → Type 0 = λ x y. step ≡ step_said place x y says in
    subst (λ x. at x (moment_after place.moment says)) r (subst (at room) m e)

-- what a line does that says something
pub turn_says : (place : Place) (line : TextLine) (command : Command) (turn : Turn) (room moment : ℕ) → size line ≤ place.room → room ≡ place.room - size line → ForLineOf command (λ says. IsReading (content line) (Says says))
    → ((says : Line) → step_with says turn ≡ step_said place room moment says) → ((says : Line) → IsLineOf command says → moment ≡ moment_after place.moment says) → SaysOnly command turn → IsTurn place line turn
turn_says place line command (Passes next) room moment fits r h e m given = inr (fits, Says h.0.0, h.1 h.0.0 h.0.1, said_step place line room moment h.0.0 _ r (m h.0.0 h.0.1) (e h.0.0))
turn_says place line command (Gives number other next) room moment fits r h e m given =
    let at : Command → Type 0 = λ k. ForLineOf k (λ says. IsStep place line (On (numbered number says ∷ []) next)) in
    subst at given (h.0, λ says l. inr (fits, Says says, h.1 says l, said_step place line room moment says _ r (m says l) (e says)))
turn_says place line command (Stops kind) room moment fits r h e m given = inr (fits, Says h.0.0, h.1 h.0.0 h.0.1, said_step place line room moment h.0.0 _ r (m h.0.0 h.0.1) (e h.0.0))

-- what `end` does
abbrev pub step_ended : Place → ℕ → Step
step_ended place room = cond (is_some place.end) (Stop After) (On [] (record place { number = place.number + 1; room = room; end = Some place.number }))

ended_step : (place : Place) (line : TextLine) (room : ℕ) (step : Step) → room ≡ place.room - size line → step ≡ step_ended place room → step ≡ step_of place line End
ended_step place line room step r e = let at : ℕ → Type 0 = λ x. step ≡ step_ended place x in subst at r e

pub turn_ends : (place : Place) (line : TextLine) (turn : Turn) (room : ℕ) → size line ≤ place.room → room ≡ place.room - size line → IsReading (content line) End → ((says : Line) → step_with says turn ≡ step_ended place room) → SaysNothing turn → IsTurn place line turn
turn_ends place line (Passes next) room fits r h e nothing = inr (fits, End, h, ended_step place line room _ r (e (At 0)))
turn_ends place line (Gives number command next) room fits r h e nothing = absurd nothing
turn_ends place line (Stops kind) room fits r h e nothing = inr (fits, End, h, ended_step place line room _ r (e (At 0)))

pub turn_passes : (place : Place) (line : TextLine) (room : ℕ) → size line ≤ place.room → room ≡ place.room - size line → IsReading (content line) Passed → IsStep place line (On [] (record place { number = place.number + 1; room = room }))
turn_passes place line room fits r h = let at : ℕ → Type 0 = λ x. IsStep place line (On [] (record place { number = place.number + 1; room = x })) in subst at (sym r) (inr (fits, Passed, h, refl))

pub turn_stops : (place : Place) (line : TextLine) (text : List ℕ) (kind : FaultKind) → size line ≤ place.room → text ≡ content line → IsReading text (Bad kind) → IsStep place line (Stop kind)
turn_stops place line text kind fits is h = inr (fits, Bad kind, subst (λ (t : List ℕ). IsReading t (Bad kind)) is h, refl)
