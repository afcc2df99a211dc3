use Rattle.std.proofs.Common.{◌∙◌, sym}
use Rattle.std.proofs.lemmas.Slice.Eq.{bytes_eq-Decides}
use Rattle.history_audit.proofs.Sames.{told_same}
use Rattle.history_audit.proofs.saying.is_same.Goals as goal

pub returns : goal.returns
returns c =
    let decides = bytes_eq-Decides c.as_slice.result.now c.as_slice-2.result.now in
    told_same c.args.one c.args.other c.as_slice.result.now c.as_slice-2.result.now c.eq.result c.in_ok-first.ensures.within c.in_ok-second.ensures.within (c.as_slice.ensures.value ∙ c.in_ok-first.ensures.put)
    (c.as_slice-2.ensures.value ∙ c.in_ok-second.ensures.put) (λ yes_. decides.0 (sym c.eq.ensures ∙ yes_), λ same. c.eq.ensures ∙ decides.1 same)
