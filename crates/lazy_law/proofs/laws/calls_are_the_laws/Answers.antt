use Rattle.lazy_law.proofs.Answered.{each_stands, refused_stands}
use Rattle.lazy_law.proofs.laws.calls_are_the_laws.Goals as goal

pub returns-clause-answer : goal.returns-clause-answer
returns-clause-answer c = λ room lazy state caller moment call less stands. (each_stands room lazy state moment caller call less stands).answer

pub returns-clause-stands : goal.returns-clause-stands
returns-clause-stands c = λ room lazy state caller moment call less stands. (each_stands room lazy state moment caller call less stands).stands

pub returns-clause-refused : goal.returns-clause-refused
returns-clause-refused c = λ lazy state moment call less stands. refused_stands lazy state moment call less stands
