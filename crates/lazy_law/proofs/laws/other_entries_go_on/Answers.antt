use Rattle.lazy_law.proofs.Beside.{beside_grows, look_grows}
use Rattle.lazy_law.proofs.laws.other_entries_go_on.Goals as goal

pub returns-clause-beside : goal.returns-clause-beside
returns-clause-beside c = λ beginning entries entry lazy e less at issued those left. beside_grows beginning entries entry lazy e less at issued those left

pub returns-clause-lookup : goal.returns-clause-lookup
returns-clause-lookup c = λ beginning entries entry lazy query place hit marker call less at issued those left. look_grows beginning entries entry lazy query place hit marker call less at issued those left
