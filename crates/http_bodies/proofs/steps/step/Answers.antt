-- The step at each place.
use Rattle.std.proofs.Common.{◌≡◌, ◌≢◌, ◌-◌, length, get_or, take, sym, subst, arith, IfOk, IfErr}
use Rattle.http_bodies.specs.declared.framing.BodyError.TheVariants.{NoMemory}
use Rattle.http_bodies.specs.declared.place.Place.{Place}
use Rattle.http_bodies.specs.declared.place.Place.TheVariants.{Line}
use Rattle.http_bodies.specs.Reading.{Follows, state}
use Rattle.http_bodies.specs.Places.{IsSound, IsRefusal}
use Rattle.http_bodies.specs.Answers.{Refuses}
use Rattle.http_bodies.proofs.PlaceFacts.{passed_on}
use Rattle.http_bodies.proofs.StepFacts.{open_refused, line_refused_at}
use Rattle.http_bodies.proofs.steps.step.Goals as goal

pub returns-in-Sized-clause-follows : goal.returns-in-Sized-clause-follows
returns-in-Sized-clause-follows c =
    subst (λ (p : Place). IfOk c.sized_step.result (λ r. Follows (state p c.args.kept.now.items c.args.limit) (state r.1 c.sized_step.new.kept.items c.args.limit) (take r.0 c.args.piece.now)))
    (sym c.in-Sized.is) (c.sized_step.ensures.follows c.args.limit)

pub returns-in-Open-clause-refused : goal.returns-in-Open-clause-refused
returns-in-Open-clause-refused c =
    let room : c.args.limit - c.len.result ≡ c.args.limit - length c.args.kept.now.items = omega (arith, c.len.ensures) in
    subst (λ (p : Place). IfErr c.open_step.result (λ e. e ≢ NoMemory → Refuses (state p c.args.kept.now.items c.args.limit) c.args.piece.now e)) (sym c.in-Open.is)
    (open_refused c.open_step.result c.args.piece.now c.args.kept.now.items c.args.limit (c.args.limit - c.len.result) c.requires.fits room c.open_step.ensures.large c.open_step.ensures.kinds)

pub returns-in-Data-clause-follows : goal.returns-in-Data-clause-follows
returns-in-Data-clause-follows c =
    subst (λ (p : Place). IfOk c.data_step.result (λ r. Follows (state p c.args.kept.now.items c.args.limit) (state r.1 c.data_step.new.kept.items c.args.limit) (take r.0 c.args.piece.now)))
    (sym c.in-Data.is) (c.data_step.ensures.follows c.args.limit)

pub returns-in_err-next-in-Line-clause-refused : goal.returns-in_err-next-in-Line-clause-refused
returns-in_err-next-in-Line-clause-refused c =
    let error = c.in_err-next-in-Line.field-0.0 in
    let piece = c.args.piece.now in
    let kept = c.args.kept.now.items in
    let room : c.args.limit - c.len.result ≡ c.args.limit - length c.args.kept.now.items = omega (arith, c.len.ensures) in
    let sound : IsSound (Line c.in-Line.part) (c.args.limit - length c.args.kept.now.items) =
    subst (λ (p : Place). IsSound p (c.args.limit - length c.args.kept.now.items)) c.in-Line.is c.requires.sound in
    let is : IsRefusal c.in-Line.part (get_or c.args.piece.now 0 0) (c.args.limit - length c.args.kept.now.items) c.in_err-next-in-Line.field-0.0 =
    subst (λ n. IsRefusal c.in-Line.part (get_or c.args.piece.now 0 0) n c.in_err-next-in-Line.field-0.0) room c.in_err-next-in-Line.ensures.refused in
    let refuses : Refuses (state c.args.place c.args.kept.now.items c.args.limit) c.args.piece.now c.in_err-next-in-Line.field-0.0 =
    subst (λ (p : Place). Refuses (state p c.args.kept.now.items c.args.limit) c.args.piece.now c.in_err-next-in-Line.field-0.0) (sym c.in-Line.is)
    (line_refused_at c.in-Line.part piece kept c.args.limit error c.requires.some c.requires.fits sound is) in
    passed_on c.from_residual.result error (λ e. e ≢ NoMemory → Refuses (state c.args.place c.args.kept.now.items c.args.limit) c.args.piece.now e)
    c.from_residual.ensures.1 (λ other. refuses)
