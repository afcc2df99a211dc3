use Rattle.std.proofs.Common.{◌∙◌, sym, None}
use Rattle.object_heads.proofs.HeadLemmas.{same_by}
use Rattle.object_heads.proofs.by_name.remove.Goals as goal

pub returns-then-remove_from : goal.returns-then-remove_from
returns-then-remove_from c = λ key other.
    same_by c.remove_from.new.heads c.remove.new.self c.args.name.now None c.remove.ensures.updates.0
    (λ one. sym (c.remove_from.ensures.empty c.if-remove_from.true one)) key other
    ∙ c.remove_from.ensures.removed key other
