-- What is printed reads as the message.
use Rattle.std.proofs.Common.{ℕ, List, ◌++◌, length, ◌∙◌, sym, subst}
use Rattle.http_heads.specs.Heads.{HasRequest}
use Rattle.http_heads.proofs.PrintFacts.{request_reads, if_ok_at}
use Rattle.http_heads.proofs.print.print_request.Goals as goal

pub returns-clause-reads : goal.returns-clause-reads
returns-clause-reads c is =
    let Reads : List ℕ → Type 0 = λ text. (more : List ℕ) → HasRequest (text ++ more) c.args.head.now (length text) in
    let text = sym (c.as_slice.ensures.value ∙ c.in_ok-bytes.ensures) in
    if_ok_at Reads c.of.result c.as_slice.result.now c.of.ensures (subst Reads text (λ more. request_reads c.args.head.now more is.shape is.limits))
