use Rattle.std.proofs.Common.{List, ap, sym, ◌∙◌, slice_get, option_and_then}
use Rattle.vcl_tree.specs.Phrase.{Phrase}
use Rattle.vcl_check.specs.Mentions.{said_string}
use Rattle.vcl_probes.proofs.PartsOfLists.{parts-list}
use Rattle.vcl_check.proofs.mentions.second_in.Goals as goal

pub returns : goal.returns
returns c = c.second_string.ensures ∙ ap (λ (ps : List Phrase). option_and_then said_string (slice_get ps 1)) (sym (parts-list c.args.arguments.now))
