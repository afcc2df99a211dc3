use Rattle.ban_expr.proofs.Ones.{one_reading, refusal_reads, one_refusal}
use Rattle.ban_expr.proofs.laws.one_ban.Goals as goal

pub returns-clause-one : goal.returns-clause-one
returns-clause-one c = λ some others r s. one_reading c.args.words.now some others r s

pub returns-clause-no_refusal : goal.returns-clause-no_refusal
returns-clause-no_refusal c = λ conditions error r f. refusal_reads c.args.words.now error conditions f r

pub returns-clause-one_refusal : goal.returns-clause-one_refusal
returns-clause-one_refusal c = λ error other f g n m. one_refusal c.args.words.now error other f g n m
