use Rattle.client_graph.proofs.Jars.{jar-lives}
use Rattle.client_graph.proofs.laws.jar_lives.Goals as goal

pub returns : goal.returns
returns c = jar-lives
