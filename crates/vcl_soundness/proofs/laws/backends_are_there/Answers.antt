use Rattle.std.specs.Prelude.{All}
use Rattle.std.proofs.Common.{◌<◌, ℕ, length, sym, subst}
use Rattle.std.proofs.Props.{props}
use Rattle.std.proofs.Math.Logic.{∥∥₁_elim}
use Rattle.vcl_program.specs.declared.code.Code.{Code}
use Rattle.vcl_program.specs.declared.code.Member.{Member}
use Rattle.vcl_program.specs.Codes.{default_of}
use Rattle.vcl_program.specs.Declarations.{backends_of}
use Rattle.vcl_soundness.proofs.Placed.{members-there, default-there}
use Rattle.vcl_soundness.proofs.laws.backends_are_there.Goals as goal

low-prop : (m n : ℕ) → IsProp (m < n)
low-prop m n = hlevel props

pub returns-clause-default : goal.returns-clause-default
returns-clause-default c =
    let program = c.args.program.now.program in
    let backends = backends_of program.tree.items in
    subst (λ (x : Code). x.default_backend < length x.backends) (sym c.args.program.now.numbered)
    (∥∥₁_elim program.sound (low-prop (default_of backends) (length backends)) (λ s. default-there program.tree.items s.backend))

pub returns-clause-members : goal.returns-clause-members
returns-clause-members c =
    let program = c.args.program.now.program in
    subst (λ (x : Code). All (λ (m : Member). m.backend < length x.backends) x.members) (sym c.args.program.now.numbered) (members-there program.tree.items program.stored)
