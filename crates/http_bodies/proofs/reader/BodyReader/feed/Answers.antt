-- One more step, and what was taken before it.
use Rattle.std.proofs.Common.{◌≡◌, ◌-◌, ◌≤◌, inr, sym, length, take, drop, ap, arith, ◌∙◌, length-drop}
use Rattle.std.proofs.Math.Seq.{take-add}
use Rattle.std.proofs.lemmas.List.{take_all, length-take}
use Rattle.http_bodies.specs.Reading.{ReaderState, refusal, refusal_at}
use Rattle.http_bodies.proofs.Prefixes.{take_within}
use Rattle.http_bodies.proofs.PlaceFacts.{whole_place, refused_place}
use Rattle.http_bodies.proofs.AnswerFacts.{Follows-trans, refuses_after, takes_all, takes_body}
use Rattle.http_bodies.proofs.reader.BodyReader.feed.Goals as goal

pub loop-at-preserved : goal.loop-at-preserved
loop-at-preserved c =
    let rest = drop c.loop-at.at c.args.piece.now in
    let all : take (length c.args.piece.now - c.loop-at.at) rest ≡ rest = take_all _ rest (omega (arith, length-drop c.loop-at.at c.args.piece.now)) in
    let taken = rw all at c.in-Ok.ensures.taken in
    let more = c.in-Ok.ensures.grows.0 in
    let kept = c.loop-at.invariant.keeps in
    let within : c.len-before.result ≤ length c.loop-at.self.kept =
    omega (arith, ap length c.loop-at.invariant.keeps, length-take c.len-before.result c.loop-at.self.kept, c.len-before.ensures, ap length (ap (λ (s : ReaderState). s.kept) c.self.view_is)) in
    record {
      within = omega (arith, taken.1, length-drop c.loop-at.at c.args.piece.now);
      follows = rw take-add (Follows-trans c.args.self.now c.loop-at.self c.take_step.new.self (take c.loop-at.at c.args.piece.now) (take c.in-Ok.count rest) c.loop-at.invariant.follows taken.2);
      sound = c.in-Ok.ensures.sound.0;
      fits = c.in-Ok.ensures.sound.1;
      keeps = ap (take c.len-before.result) c.in-Ok.ensures.grows.1 ∙ take_within c.len-before.result c.loop-at.self.kept more within ∙ kept;
    }

pub returns-else-eq-clause-refused : goal.returns-else-eq-clause-refused
returns-else-eq-clause-refused c other =
    let rest = drop c.loop-at.at c.args.piece.now in
    let all : take (length c.args.piece.now - c.loop-at.at) rest ≡ rest = take_all _ rest (omega (arith, length-drop c.loop-at.at c.args.piece.now)) in
    let refused = rw all at c.in-Err.ensures.refused in
    (ap refusal_at (refused other).0, inr (refuses_after c.args.self.now c.loop-at.self c.loop-at.at c.args.piece.now c.in-Err.error c.loop-at.invariant.within c.loop-at.invariant.follows (refused other).1))

pub returns-else-eq-clause-again : goal.returns-else-eq-clause-again
returns-else-eq-clause-again c e place = absurd (c.in_default.not-Refused e (refused_place _ e (ap refusal c.self.view_is ∙ place)))

pub returns-else-not-done-clause-taken : goal.returns-else-not-done-clause-taken
returns-else-not-done-clause-taken c =
    let i = c.loop-at.invariant in
    (takes_body c.args.self.now c.loop-at.self c.args.piece.now c.loop-at.at i.within (whole_place c.loop-at.self.place (sym c.done.ensures.whole ∙ c.if-not-done.false)) i.follows i.sound i.fits, i.follows)

pub returns-else-not-done-clause-again : goal.returns-else-not-done-clause-again
returns-else-not-done-clause-again c e place = absurd (c.in_default.not-Refused e (refused_place _ e (ap refusal c.self.view_is ∙ place)))

pub returns-after-loop-at-clause-taken : goal.returns-after-loop-at-clause-taken
returns-after-loop-at-clause-taken c =
    let i = c.loop-at.invariant in
    (takes_all c.args.self.now c.loop-at.self c.args.piece.now c.loop-at.at i.within c.loop-at-test.false i.follows i.sound i.fits, i.follows)

pub returns-after-loop-at-clause-again : goal.returns-after-loop-at-clause-again
returns-after-loop-at-clause-again c e place = absurd (c.in_default.not-Refused e (refused_place _ e (ap refusal c.self.view_is ∙ place)))
