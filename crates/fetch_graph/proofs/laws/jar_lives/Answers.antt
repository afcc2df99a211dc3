use Rattle.fetch_graph.proofs.Jars.{jar-lives}
use Rattle.fetch_graph.proofs.laws.jar_lives.Goals as goal

pub returns : goal.returns
returns c = jar-lives
