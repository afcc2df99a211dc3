-- Steps that may be taken are what some lawful journal begins with.
use Rattle.std.proofs.Common.{◌≡◌, ◌≢◌, ℕ, ◌<◌, ◌^◌, List, [], ◌∷◌, ◌++◌, sym, ap, ◌∙◌, subst, refl, append_assoc, lit<}
use Rattle.journal_text.specs.declared.line.First.{First}
use Rattle.journal_text.specs.declared.line.Line.{Line}
use Rattle.journal_text.specs.declared.line.Line.TheVariants as line
use Rattle.journal_text.specs.Journals.{lines_text, text_of}
use Rattle.journal_reader.specs.Histories.{AreLines, IsOwnLine}
use Rattle.journal_reader.proofs.Feeds.{ended-first}
use Rattle.audit_laws.specs.Steps.{Step, Starts, Enters, Cuts, Closes, Place, Before, Within, Closed, MaySteps, AreWritable, line_for, lines_for, place_after, placed, text_for}
use Rattle.audit_laws.specs.Journals.{Journal, IsLawful, lines_in, steps_in, text_in}
use Rattle.audit_laws.specs.Findings.{IsFront}
use Rattle.audit_laws.proofs.Agreeing.{append_none, text_more}
use Rattle.audit_laws.proofs.Wholes.{LeadOut, journal_may, journal_of, lines_same_in}

close_is_own : IsOwnLine line.Close
close_is_own = record { words = (refl, tt); bans = tt; written = refl }

-- a first line
no_first : First
no_first = record { room = 0; history = 0; boot = record { text = []; backends = [] } }

no_first_is_own : IsOwnLine (line.First no_first)
unfolding no_first
no_first_is_own = record { words = (refl, (lit< tt, (lit< tt, (lit< tt, ((λ i. lit< tt), (lit< tt, tt)))))); bans = tt; written = refl }

-- what goes on behind steps to the end
record IsLedOut (place : Place) (steps : List Step) : Type 0 where
  pub more : List Step
  pub out : LeadOut place (steps ++ more)
  pub writable : AreWritable (steps ++ more)

led_out : (place : Place) (steps : List Step) → MaySteps place steps → AreWritable steps → IsLedOut place steps
led_out Before [] m w = record { more = Starts no_first ∷ Closes ∷ []; out = ((tt, (tt, tt)), refl); writable = (no_first_is_own, (close_is_own, tt)) }
led_out (Within params state used) [] m w = record { more = Closes ∷ []; out = ((tt, tt), refl); writable = (close_is_own, tt) }
led_out Closed [] m w = record { more = []; out = (tt, refl); writable = tt }
led_out place (step ∷ steps) m w =
    let later = led_out (place_after place step) steps m.1 w.1 in
    record { more = later.more; out = ((m.0, later.out.0), later.out.1); writable = (w.0, later.writable) }

pub text_joined : (a b : List Step) → text_for (a ++ b) ≡ text_for a ++ text_for b
text_joined [] b = refl
text_joined (step ∷ a) b =
    ended-first (line_for step) (lines_for (a ++ b)) ∙ (ap (λ (text : List ℕ). text_of (line_for step) ++ 10 ∷ text) (text_joined a b) ∙ sym (text_more step a (text_for b)))

-- steps that may be taken, as a front
pub front_of_steps : (steps : List Step) → MaySteps Before steps → AreWritable steps → IsFront (text_for steps)
front_of_steps steps m w =
    let led = led_out Before steps m w in
    let found = journal_of (steps ++ led.more) led.out in
    let lines : lines_for (steps ++ led.more) ≡ lines_in found.0 = sym (ap lines_for found.2) ∙ lines_same_in found.0 in
    record {
      journal = found.0;
      lawful = found.1;
      lines = subst AreLines lines led.writable;
      behind = text_for led.more;
      written = sym (ap lines_text lines) ∙ text_joined steps led.more;
    }

-- a front, as steps
pub record HasSteps (bytes : List ℕ) : Type 0 where
  pub steps : List Step
  pub legal : MaySteps Before steps
  pub ends : placed Before steps ≡ Closed
  pub writable : AreWritable steps
  pub behind : List ℕ
  pub written : text_for steps ≡ bytes ++ behind

pub steps_of_front : (bytes : List ℕ) → IsFront bytes → HasSteps bytes
steps_of_front bytes front =
    let out = journal_may front.journal front.lawful in
    let lines = lines_same_in front.journal in
    record {
      steps = steps_in front.journal;
      legal = out.0;
      ends = out.1;
      writable = subst AreLines (sym lines) front.lines;
      behind = front.behind;
      written = ap lines_text lines ∙ front.written;
    }
