use Rattle.std.proofs.Common.{arith}
use Rattle.vcl_tokens.proofs.ReadingLemmas.{reads_on, fault_on, read_to_end}
use Rattle.vcl_tokens.proofs.pieces.read_all.Goals as goal

pub loop-rest-preserved : goal.loop-rest-preserved
loop-rest-preserved c = record {
  left = omega arith;
  reads = λ tokens r. reads_on c.args.bytes.now c.loop-rest.place c.loop-rest.rest.now c.split_at.result.1.now c.in_ok-length.field-0.length c.in_ok-length.field-0.kind c.loop-rest.tokens c.add_token.new.tokens tokens c.in_ok-length.ensures.piece c.split_at.ensures.back c.in_ok-add_token.ensures c.loop-rest.invariant.reads r;
  faults = λ last r. c.loop-rest.invariant.faults last (fault_on c.loop-rest.place c.loop-rest.rest.now c.in_ok-length.field-0.length c.in_ok-length.field-0.kind last c.in_ok-length.ensures.piece (rw c.split_at.ensures.back at r));
}

pub returns-clause-read : goal.returns-clause-read
returns-clause-read c = read_to_end c.args.bytes.now c.loop-rest.place c.loop-rest.rest.now c.loop-rest.tokens c.loop-rest-test.ensures c.loop-rest.invariant.reads
