use Rattle.round_tests.proofs.rounds.play.Goals as goal

pub words-init : goal.words-init
words-init c = c.start-round.ensures.goes_on c.args.script.now
