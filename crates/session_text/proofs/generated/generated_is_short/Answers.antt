use Rattle.session_text.proofs.Shortness.{generated_short}
use Rattle.session_text.proofs.generated.generated_is_short.Goals as goal

pub returns : goal.returns
returns c = generated_short
