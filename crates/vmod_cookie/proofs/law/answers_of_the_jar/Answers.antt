use Rattle.vmod_cookie.proofs.Operations.{answers_follow}
use Rattle.vmod_cookie.proofs.law.answers_of_the_jar.Goals as goal

pub returns : goal.returns
returns c = answers_follow
