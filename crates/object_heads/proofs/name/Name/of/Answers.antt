use Rattle.std.proofs.Common.{◌∙◌, ap, ◌++◌, sym}
use Rattle.units.specs.Quoted.{quote_of}
use Rattle.object_heads.proofs.NameLemmas.{joined_more, bytes_more}
use Rattle.object_heads.proofs.name.Name.of.Goals as goal

pub loop-text-preserved : goal.loop-text-preserved
loop-text-preserved c = record {
  joined =
      c.in_ok-push_quoted.ensures.joined ∙ ap (λ bytes. bytes ++ quote_of c.text-item.result) c.loop-text.invariant.joined
      ∙ sym (joined_more c.args.key.now c.loop-text.text-index c.text-item.result c.loop-text-test.true c.text-item.is);
  bytes = bytes_more c.args.key.now c.loop-text.text-index c.text-item.result c.loop-text-test.true c.text-item.is c.push_quoted.ensures.bytes c.loop-text.invariant.bytes;
}
