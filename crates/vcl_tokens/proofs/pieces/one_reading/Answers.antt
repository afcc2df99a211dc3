use Rattle.std.proofs.Common.{refl}
use Rattle.vcl_tokens.proofs.ReadingLemmas.{one, faultless, one_fault}
use Rattle.vcl_tokens.proofs.pieces.one_reading.Goals as goal

pub returns-clause-one : goal.returns-clause-one
returns-clause-one c = λ text a b r s. one r s refl refl

pub returns-clause-faultless : goal.returns-clause-faultless
returns-clause-faultless c = λ text a place r s. faultless r s refl refl

pub returns-clause-one_fault : goal.returns-clause-one_fault
returns-clause-one_fault c = λ text a b r s. one_fault r s refl refl
