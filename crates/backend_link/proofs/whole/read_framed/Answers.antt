use Rattle.std.proofs.Common.{inl, inr, refl}
use Rattle.backend_link.proofs.whole.read_framed.Goals as goal

pub returns-in-Err-Early : goal.returns-in-Err-Early
returns-in-Err-Early c =
    let early = c.in-Err-Early.field-0-is in
    inr (inl (refl, c.in-Err-Early.ensures.early (cc), c.in-Err-Early.ensures.none (λ is. cc)))
