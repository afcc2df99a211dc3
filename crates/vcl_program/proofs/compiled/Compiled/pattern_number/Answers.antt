use Rattle.std.proofs.Common.{◌≡◌, length, arith}
use Rattle.vcl_check.specs.Texts.{says, pattern_texts}
use Rattle.vcl_program.proofs.Found.{at-number, numbers-length}
use Rattle.vcl_program.proofs.compiled.Compiled.pattern_number.Goals as goal

pub returns : goal.returns
returns c =
    let texts = pattern_texts (says c.args.self.now.program.tree.items) in
    let sources = c.args.self.now.code.arena.patterns in
    let numbers = c.args.self.now.pattern_numbers.items in
    let same : length numbers ≡ length sources = numbers-length texts sources numbers c.args.self.now.patterned in
    at-number texts sources numbers c.args.number _ c.args.self.now.patterned (omega (arith, same, c.requires)) c.index.ensures
