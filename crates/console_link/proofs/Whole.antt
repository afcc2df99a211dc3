-- Where nothing hindered a talk, each line in all the bytes was answered.
use Rattle.std.proofs.Common.{◌≡◌, ℕ, List, [], ◌∷◌, ◌++◌, Option, Some, None, refl, sym, ◌∙◌, ap, subst}
use Rattle.std.proofs.lemmas.Grind.{flat_map-append}
use Rattle.std.proofs.lemmas.List.{append-nil, append_assoc}
use Rattle.wire.specs.Causes.{Rose}
use Rattle.wire.specs.Flow.{Flow}
use Rattle.world.specs.declared.file.File.{File}
use Rattle.vmod_host.specs.declared.signature.Stored.{Stored}
use Rattle.console_link.specs.Complete.{IsUnhindered, IsWhole, IsComplete, behind_answers}
use Rattle.console_link.specs.Lines.{BeginsLines, IsBegun}
use Rattle.console_link.specs.Talks.{Stand, Follow, Ends, Talked, texts_of, sent_of}
use Rattle.console_link.specs.declared.talk.ConsoleEnd.{ConsoleEnd}
use Rattle.console_link.specs.declared.talk.ConsoleEnd.TheVariants.{Quit, Closed, TooLong, ReadFault, WriteFault, HistoryFull, NoMemory}
use Rattle.console_link.specs.declared.talk.ConsoleLine.{ConsoleLine}
use Rattle.console_link.proofs.LineFacts.{longer, too_long_longer}

sent_then : (lines others : List ConsoleLine) → sent_of (lines ++ others) ≡ sent_of lines ++ sent_of others
sent_then lines others = flat_map-append (λ (line : ConsoleLine). line.sent) lines others

module _ (stored : List Stored) (files : Option (List File)) where
  -- the lines are those in front, and all were answered
  all_answered : (x y middle : Stand) (lines front tail : List ConsoleLine) → lines ≡ front ++ tail → tail ≡ [] → y ≡ middle → Follow stored files x front middle
      → (lines ≡ front) × Follow stored files x lines y
  all_answered x y middle lines front tail split none last answered =
      let same : lines ≡ front = split ∙ ap (λ (l : List ConsoleLine). front ++ l) none ∙ append-nil front in (
        same,
        subst (λ (s : Stand). Follow stored files x lines s) (sym last) (subst (λ (l : List ConsoleLine). Follow stored files x l middle) (sym same) answered),
      )

  sent_alone : (lines front : List ConsoleLine) (extra more : List ℕ) → lines ≡ front → extra ≡ more → sent_of front ++ extra ≡ sent_of lines ++ more
  sent_alone lines front extra more same is = ap (λ (t : List ℕ). sent_of front ++ t) is ∙ ap (λ (l : List ConsoleLine). sent_of l ++ more) (sym same)

  sent_last : (lines front tail : List ConsoleLine) (last : ConsoleLine) (extra : List ℕ) → lines ≡ front ++ tail → tail ≡ last ∷ [] → extra ≡ last.sent
      → sent_of front ++ extra ≡ sent_of lines ++ []
  sent_last lines front tail last extra split is sent =
      ap (λ (t : List ℕ). sent_of front ++ t) (sent ∙ sym (append-nil last.sent)) ∙ sym (sent_then front (last ∷ []))
      ∙ ap sent_of (sym (split ∙ ap (λ (l : List ConsoleLine). front ++ l) is)) ∙ sym (append-nil (sent_of lines))

  module _ (x y middle : Stand) (after : Flow) (rest left : List ℕ) (lines front tail : List ConsoleLine) (extra : List ℕ) (split : lines ≡ front ++ tail)
      (answered : Follow stored files x front middle) (reads reads' writes writes' : ℕ) where
    by_end : (ended : ConsoleEnd) → Ends stored files ended middle y (Some after) rest left tail extra → IsUnhindered reads reads' writes writes' ended
        → (ended ≡ ReadFault → Rose reads reads') → (ended ≡ WriteFault → Rose writes writes')
        → IsWhole stored files ended x y lines (rest ++ after.left) × (sent_of front ++ extra ≡ sent_of lines ++ behind_answers ended)
    by_end Quit ends free read wrote = (
      record {
        front = front;
        last = ends.0;
        split = split ∙ ap (λ (l : List ConsoleLine). front ++ l) ends.1;
        middle = middle;
        answered = answered;
        quits = ends.2;
      },
      sent_last lines front tail ends.0 extra split ends.1 ends.3,
    )
    by_end Closed ends free read wrote =
        let all = all_answered x y middle lines front tail split ends.0 ends.1 answered in (
          (all.1, subst IsBegun (sym (append-nil rest) ∙ ap (λ (l : List ℕ). rest ++ l) (sym ends.5)) ends.4),
          sent_alone lines front extra [] all.0 ends.2,
        )
    by_end TooLong ends free read wrote =
        let all = all_answered x y middle lines front tail split ends.0 ends.1 answered in
        ((all.1, too_long_longer rest after.left ends.4), sent_alone lines front extra (behind_answers TooLong) all.0 ends.2)
    by_end ReadFault ends free read wrote = absurd (free.no_failed_read (read refl))
    by_end WriteFault ends free read wrote = absurd (free.no_failed_write (wrote refl))
    by_end HistoryFull ends free read wrote = absurd (free.fits refl)
    by_end NoMemory ends free read wrote = absurd (free.memory refl)

  pub is_complete : (x y : Stand) (before after : Option Flow) (held left : List ℕ) (lines : List ConsoleLine) (ended : ConsoleEnd) (reads reads' writes writes' : ℕ)
      → Talked stored files x y before after held left lines ended → (ended ≡ ReadFault → Rose reads reads') → (ended ≡ WriteFault → Rose writes writes')
      → IsUnhindered reads reads' writes writes' ended → IsComplete stored files x y before after held lines ended
  is_complete x y None after held left lines ended reads reads' writes writes' talk read wrote free = tt
  is_complete x y (Some before) None held left lines ended reads reads' writes writes' talk read wrote free = absurd talk.moves
  is_complete x y (Some before) (Some after) held left lines ended reads reads' writes writes' talk read wrote free =
      let whole = by_end x y talk.middle after talk.rest left lines talk.front talk.tail talk.extra talk.split talk.answered reads reads' writes writes' ended talk.ends free read wrote in
      record {
        behind = talk.rest ++ after.left;
        begins = subst (λ (t : List ℕ). BeginsLines t (texts_of lines) (talk.rest ++ after.left))
            (append_assoc held talk.read after.left ∙ ap (λ (l : List ℕ). held ++ l) (sym talk.moves.1)) (longer (held ++ talk.read) after.left (texts_of lines) talk.rest talk.begins);
        whole = whole.0;
        took = talk.moves.2 ∙ ap (λ (t : List ℕ). before.took ++ t) whole.1;
      }
