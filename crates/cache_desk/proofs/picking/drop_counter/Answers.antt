use Rattle.std.proofs.Common.{rules, not}
use Rattle.std.proofs.lemmas.Fn.{filter_same}
use Rattle.cache_law.specs.declared.vcl.Counter.{Counter}
use Rattle.cache_law.specs.Targets.{is_counter_of}
use Rattle.cache_desk.proofs.picking.drop_counter.Goals as goal

pub returns-clause-items : goal.returns-clause-items
returns-clause-items c = filter_same _ (λ (counter : Counter). not (is_counter_of c.args.vcl c.args.director.now counter)) _ (λ x b f' k. search rules) _ _ c.retain.ensures.filtered
