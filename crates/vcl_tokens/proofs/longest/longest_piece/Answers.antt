use Rattle.vcl_tokens.specs.declared.spelling.State.TheVariants as state
use Rattle.vcl_tokens.proofs.LongestLemmas.{longest_behind_is, longest_piece_is}
use Rattle.vcl_tokens.proofs.longest.longest_piece.Goals as goal

pub returns : goal.returns
returns c = longest_piece_is c.args.text.now c.scan.result (rw c.scan.ensures (longest_behind_is state.Start c.args.text.now))
