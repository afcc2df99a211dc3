use Rattle.vcl_tokens.proofs.values.token.Goals as goal

pub returns-in-Duration : goal.returns-in-Duration
returns-in-Duration c = rw c.in-Duration.is c.duration.ensures
