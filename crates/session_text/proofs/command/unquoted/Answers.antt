use Rattle.std.proofs.Common.{length, subst, List, ℕ, []}
use Rattle.std.proofs.lemmas.Option.{MatchOption-at_none, MatchOption-at_some}
use Rattle.units.specs.Quoted.{IsQuoted}
use Rattle.units.proofs.Pieces.{quoted_same}
use Rattle.session_text.proofs.Words.{quoted_whole}
use Rattle.session_text.proofs.command.unquoted.Goals as goal

pub unreachable-requires : goal.unreachable-requires
unreachable-requires c = MatchOption-at_none _ _ c.in_default.is c.in_ok-found.ensures.ok c.requires.0 (length c.args.bytes.now) (quoted_whole c.requires.0 c.args.bytes.now c.requires.1)

pub returns : goal.returns
returns c =
    let h = MatchOption-at_some _ _ _ c.in-Some.is c.in_ok-found.ensures.ok in
    let same = quoted_same c.in-Some.text c.requires.0 c.args.bytes.now _ [] h.2 c.requires.1 in
    let at : List ℕ → Type 0 = λ r. IsQuoted c.in-Some.text c.args.bytes.now r in
    subst at same.1 h.2
