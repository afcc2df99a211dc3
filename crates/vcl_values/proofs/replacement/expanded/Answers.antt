use Rattle.vcl_values.proofs.CutLemmas.{cut_on}
use Rattle.vcl_values.specs.Captured.{captured}
use Rattle.vcl_values.specs.Pieces.{piece_bytes}
use Rattle.vcl_values.specs.Replacements.{written}
use Rattle.vcl_values.proofs.replacement.expanded.Goals as goal

pub pieces-preserved : goal.pieces-preserved
pieces-preserved c =
    let group = captured c.args.captures.now in
    record {
      within = c.in_ok-push_piece.ensures.within;
      so_far = cut_on c.args.room c.pieces.out.items (piece_bytes group c.in-Some.piece) (written group c.in-Some.behind.now) c.push_piece.new.out.items _ c.in_ok-push_piece.ensures.put (rw (c.in-Some.ensures.1 group) at c.pieces.invariant.so_far);
    }
