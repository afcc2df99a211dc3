-- The words that a line may begin with.
use Rattle.std.specs.Prelude.{ℕ, Bool, true, false, List, codes}
use Rattle.session_text.specs.declared.reading.Keyword.{Keyword}
use Rattle.session_text.specs.declared.reading.Keyword.TheVariants.{At, Req, Reply, Fail, Cli, Lurk, Probe, End}

abbrev pub keyword_text : Keyword → List ℕ
keyword_text At = codes "at"
keyword_text Req = codes "req"
keyword_text Reply = codes "reply"
keyword_text Fail = codes "fail"
keyword_text Cli = codes "cli"
keyword_text Lurk = codes "lurk"
keyword_text Probe = codes "probe"
keyword_text End = codes "end"

-- how a probe was
abbrev pub health_text : Bool → List ℕ
health_text true = codes "good"
health_text false = codes "bad"
