-- A segment is put, then the line that closes it, and what is kept is written.
use Rattle.std.proofs.Common.{◌++◌, ◌∙◌, [], List, ℕ, ap}
use Rattle.std.proofs.lemmas.List.{append-nil}
use Rattle.journal_text.specs.Journals.{ended}
use Rattle.journal_writer.specs.Segments.{entries_text, line_of}
use Rattle.journal_writer.proofs.Fronts.{front_at, front_from, front_kept, front_more, front_then, on_err, on_err_map, puts_kept, puts_then}
use Rattle.journal_writer.proofs.writing.write_segment.Goals as goal

pub returns-in_err-put_entries-clause-front : goal.returns-in_err-put_entries-clause-front
returns-in_err-put_entries-clause-front g c =
    on_err _ (front_from _ _ _ _ c.new-unwritten.ensures.items (front_more _ _ _ (entries_text c.args.entries.now) (ended (line_of c.args.closing)) c.in_err-put_entries.ensures.front))

pub returns-in_err-extend_from_slice-clause-front : goal.returns-in_err-extend_from_slice-clause-front
returns-in_err-extend_from_slice-clause-front g c =
    on_err _ (front_from _ _ _ _ c.new-unwritten.ensures.items (front_more _ _ _ (entries_text c.args.entries.now) (ended (line_of c.args.closing)) (front_kept _ _ _ _ _ c.in_ok-put_entries.ensures.put)))

pub returns-clause-front : goal.returns-clause-front
returns-clause-front g c =
    let entries = entries_text c.args.entries.now in
    let closing = ended (line_of c.args.closing) in
    let kept = puts_kept (g.K.Sink.held c.put_entries.new.sink) c.put_entries.new.unwritten.items c.extend_from_slice.new.self.items closing
    (c.in_ok-extend_from_slice.ensures.items ∙ ap (λ (t : List ℕ). c.put_entries.new.unwritten.items ++ t) c.text.ensures) in
    let put = puts_then _ _ _ _ _ _ entries closing c.in_ok-put_entries.ensures.put kept in
    on_err_map _ _
    (λ front. front_from _ _ _ _ c.new-unwritten.ensures.items (front_at _ _ _ ((entries ++ closing) ++ []) (entries ++ closing) (append-nil (entries ++ closing)) (front_then _ _ _ _ _ (entries ++ closing) [] put front)))
    c.flush.result c.flush.ensures.front
