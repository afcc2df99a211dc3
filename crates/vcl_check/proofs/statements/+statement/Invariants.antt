use Rattle.std.proofs.Common.{◌≡◌, drop}
use Rattle.vcl_check.specs.declared.form.Form.TheVariants.{Apart}
use Rattle.vcl_check.specs.Roles.{Statement, Branch}
use Rattle.vcl_check.proofs.Chains.{chain_told}
use Rattle.vcl_check.proofs.statements.+statement.Given as goal

abbrev pub invariant-block-statements : goal.invariant-block-statements
invariant-block-statements l = chain_told l.tables l.roots Apart Statement l.told (drop l.one-index l.one-items) ≡ chain_told l.tables l.roots Apart Statement l.initial.told l.one-items

abbrev pub invariant-statement-branches : goal.invariant-statement-branches
invariant-statement-branches l = chain_told l.tables l.roots Apart Branch l.told (drop l.other-index l.other-items) ≡ chain_told l.tables l.roots Apart Branch l.initial.told l.other-items
