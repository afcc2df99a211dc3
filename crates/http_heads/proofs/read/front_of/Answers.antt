-- All the bytes, where they are no more.
use Rattle.std.proofs.Common.{◌≡◌, ◌≤◌, ℕ, List, take, true, false, sym, subst, refl}
use Rattle.http_heads.specs.Lines.{full_lines}
use Rattle.http_heads.proofs.Fronts.{take_min}
use Rattle.http_heads.proofs.read.front_of.Goals as goal

pub returns-then-has_too_many_lines : goal.returns-then-has_too_many_lines
returns-then-has_too_many_lines c =
    let is : take c.min.result c.args.bytes.now ≡ take 32768 c.args.bytes.now = rw c.min.ensures (take_min 32768 c.args.bytes.now) in
    subst (λ (l : List ℕ). 66 ≤ full_lines l) is (c.if-has_too_many_lines.ensures.0 refl)

pub returns-else-has_too_many_lines : goal.returns-else-has_too_many_lines
returns-else-has_too_many_lines c =
    let is : take c.min.result c.args.bytes.now ≡ take 32768 c.args.bytes.now = rw c.min.ensures (take_min 32768 c.args.bytes.now) in
    (is, λ many. let never : false ≡ true = c.if-has_too_many_lines.ensures.1 (subst (λ (l : List ℕ). 66 ≤ full_lines l) (sym is) many) in cc)
