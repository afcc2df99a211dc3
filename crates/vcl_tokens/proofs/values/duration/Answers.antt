use Rattle.vcl_tokens.proofs.values.duration.Goals as goal

pub returns-in-None : goal.returns-in-None
returns-in-None c = λ other h. c.in-None.ensures (h.0) (h.1)
