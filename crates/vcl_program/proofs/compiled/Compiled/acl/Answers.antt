use Rattle.std.proofs.Common.{◌≡◌, ◌<◌, List, length, slice_get, sym, subst, ◌∙◌, ap}
use Rattle.acl_match.specs.declared.entry.AclEntry.{AclEntry as Network}
use Rattle.vcl_program.specs.declared.code.Code.{Code}
use Rattle.vcl_program.proofs.AclLists.{listed-acls}
use Rattle.vcl_program.proofs.compiled.Compiled.acl.Goals as goal

pub acl_at-requires : goal.acl_at-requires
acl_at-requires c =
    let lists : c.args.self.now.code.acls ≡ c.acls.result.now = ap (λ (k : Code). k.acls) c.args.self.now.numbered ∙ listed-acls c.args.self.now.program.tree.items ∙ sym c.acls.ensures in
    let P : List (List Network) → Type 0 = λ l. c.args.number < length l in
    subst P lists c.requires

pub returns : goal.returns
returns c =
    let lists : c.args.self.now.code.acls ≡ c.acls.result.now = ap (λ (k : Code). k.acls) c.args.self.now.numbered ∙ listed-acls c.args.self.now.program.tree.items ∙ sym c.acls.ensures in
    ap (λ (l : List (List Network)). slice_get l c.args.number) lists ∙ c.acl_at.ensures
