use Rattle.std.proofs.Common.{rules, ◌≡◌, ℤ, subst, w64}
use Rattle.std.proofs.lemmas.Int.{to_z-of_z}
use mir.Val.{SFits, to_z, of_z}
use Rattle.vcl_eval.specs.declared.machine.Asked.TheVariants as asked
use Rattle.vcl_eval.specs.RunStates.{counted_on}
use Rattle.vcl_eval.proofs.Sure.{asked-along}
use Rattle.vcl_eval.proofs.Turns.{Follows, begin-answered, ban-answered, purge-answered, purge-suits}
use Rattle.vcl_eval.proofs.run_state.RunState.answered.Goals as goal

pub run-requires : goal.run-requires
run-requires g c = asked-along c.args.program.now.code c.args.functions.now.stored c.args.self.now c.args.asked asked.Begin c.in-Begin.is c.requires.sure

pub run-requires-in-Ban : goal.run-requires-in-Ban
run-requires-in-Ban g c = asked-along c.args.program.now.code c.args.functions.now.stored c.args.self.now c.args.asked asked.Ban c.in-Ban.is c.requires.sure

pub counted-requires : goal.counted-requires
counted-requires g c = asked-along c.args.program.now.code c.args.functions.now.stored c.args.self.now c.args.asked (asked.Purge c.in-Purge.what) c.in-Purge.is c.requires.sure _

pub returns-in-Begin-clause-value : goal.returns-in-Begin-clause-value
returns-in-Begin-clause-value g c =
    λ left at. begin-answered c.args.program.now.code c.args.functions.now.stored left c.args.answer c.args.asked c.args.self.now c.run.new.self c.run.result c.in-Begin.is c.requires.suits at c.run.ensures.value

pub returns-in-Ban-clause-value : goal.returns-in-Ban-clause-value
returns-in-Ban-clause-value g c =
    λ left at. ban-answered c.args.program.now.code c.args.functions.now.stored left c.args.answer c.args.asked c.args.self.now c.run-in-Ban.new.self c.run-in-Ban.result c.in-Ban.is c.requires.suits at
    c.run-in-Ban.ensures.value

pub returns-in-Number-clause-value : goal.returns-in-Number-clause-value
returns-in-Number-clause-value g c =
    let fits : SFits w64 c.in-Number.count = search rules in
    let kept : to_z w64 (of_z w64 c.in-Number.count) ≡ c.in-Number.count = to_z-of_z w64 c.in-Number.count fits in
    let P : ℤ → Type 0 = λ n. Follows c.args.program.now.code c.args.functions.now.stored (counted_on c.args.program.now.code c.args.functions.now.stored c.args.self.now c.in-Purge.what n) c.counted.result c.counted.new.self in
    λ left at. purge-answered c.args.program.now.code c.args.functions.now.stored left c.args.answer c.args.asked c.in-Number.count c.in-Purge.what c.args.self.now c.counted.new.self c.counted.result
    c.in-Purge.is c.in-Number.is at (subst P kept c.counted.ensures.value)

pub unreachable-requires : goal.unreachable-requires
unreachable-requires g c = purge-suits c.args.asked c.args.answer c.in-Purge.what c.in-Purge.is c.requires.suits c.in_default.not-Number
