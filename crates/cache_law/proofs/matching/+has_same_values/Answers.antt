use Rattle.std.proofs.Common.{sym, ◌∙◌}
use Rattle.cache_law.proofs.Values.{value_later, value_over}
use Rattle.cache_law.proofs.matching.+has_same_values.Goals as goal

pub returns-then-not-is_named : goal.returns-then-not-is_named
returns-then-not-is_named t c = value_later _ _ c.field-item.result _ _ c.in-len1-up.len_at_least c.field-item.is (sym c.is_named.ensures ∙ c.if-not-is_named.true) c.has_same_values.ensures

pub returns-in-empty-values : goal.returns-in-empty-values
returns-in-empty-values t c = value_over _ _ c.field-item.result _ c.in-len1-up.len_at_least c.field-item.is (sym c.is_named.ensures ∙ c.if-not-is_named.false) c.in-empty-values.len_below
