-- What a console's pass has seen grows behind what it had seen.
use Rattle.std.proofs.Common.{◌≡◌, ◌⊎◌, ℕ, List, [], ◌∷◌, ◌++◌, Option, refl, sym, ap, ◌∙◌, subst, inl, inr}
use Rattle.std.proofs.lemmas.List.{append-nil, append_assoc}
use Rattle.cache_law.specs.declared.call.Call.{Call}
use Rattle.cache_law.specs.declared.call.Entry.{Entry}
use Rattle.cache_law.specs.declared.cache.Told.{Told}
use Rattle.world.specs.declared.file.File.{File}
use Rattle.vmod_host.specs.declared.signature.Stored.{Stored}
use Rattle.shared_cache.specs.Sharing.{CallerKnows}
use Rattle.wire.specs.Flow.{Flow}
use Rattle.console_link.specs.Talks.{Stand, Alone, Enters, Ends, Follow, IsAnswered, Quits, Talked}
use Rattle.console_link.specs.declared.talk.ConsoleEnd.{ConsoleEnd}
use Rattle.console_link.specs.declared.talk.ConsoleEnd.TheVariants.{Quit, Closed, TooLong, ReadFault, WriteFault, HistoryFull, NoMemory}
use Rattle.console_link.specs.declared.talk.ConsoleLine.{ConsoleLine}

abbrev pub Grew : CallerKnows → CallerKnows → Type 0
Grew k after = (rest : List Entry) × (after.seen ≡ k.seen ++ rest)

grew_none : (k after : CallerKnows) → after ≡ k → Grew k after
grew_none k after same = ([], ap (λ (z : CallerKnows). z.seen) same ∙ sym (append-nil k.seen))

pub grew_then : (k mid after : CallerKnows) → Grew k mid → Grew mid after → Grew k after
grew_then k mid after a b = (a.0 ++ b.0, b.1 ∙ (ap (λ (h : List Entry). h ++ b.0) a.1 ∙ append_assoc k.seen a.0 b.0))

module _ (stored : List Stored) (files : Option (List File)) where
  grew_entered : (x y : Stand) (line : ConsoleLine) (call : Call) (told : Told) → Enters stored files x y line call told → Grew x.known y.known
  grew_entered x y line call told enters =
      let called = enters.called in
      (called.between ++ _, called.entered.joined ∙ append_assoc x.known.seen called.between _)

  grew_alone : (x y : Stand) (line : ConsoleLine) → Alone x y line → Grew x.known y.known
  grew_alone x y line alone = grew_none x.known y.known alone.knows

  grew_answered : (x y : Stand) (line : ConsoleLine) → IsAnswered stored files x y line → Grew x.known y.known
  grew_answered x y line (inl entered) = grew_entered x y line entered.0 entered.1 entered.2
  grew_answered x y line (inr alone) = grew_alone x y line alone.0

  grew_same : (x y : Stand) → y ≡ x → Grew x.known y.known
  grew_same x y same = grew_none x.known y.known (ap (λ (z : Stand). z.known) same)

  grew_all : (x y : Stand) (lines : List ConsoleLine) → Follow stored files x lines y → Grew x.known y.known
  grew_all x y [] same = grew_same x y same
  grew_all x y (line ∷ lines) follow = grew_then x.known follow.0.known y.known (grew_answered x follow.0 line follow.1) (grew_all follow.0 y lines follow.2)

  grew_last : (x y : Stand) (line : ConsoleLine) → IsAnswered stored files x y line ⊎ Quits stored files x y line → Grew x.known y.known
  grew_last x y line (inl answered) = grew_answered x y line answered
  grew_last x y line (inr quits) = grew_alone x y line quits.0

  grew_end : (ended : ConsoleEnd) (x y : Stand) (after : Option Flow) (rest left : List ℕ) (tail : List ConsoleLine) (extra : List ℕ)
      → Ends stored files ended x y after rest left tail extra → Grew x.known y.known
  grew_end Quit x y after rest left tail extra ends = grew_alone x y ends.0 ends.2.0
  grew_end Closed x y after rest left tail extra ends = grew_same x y ends.1
  grew_end TooLong x y after rest left tail extra ends = grew_same x y ends.1
  grew_end ReadFault x y after rest left tail extra ends = grew_same x y ends.1
  grew_end WriteFault x y after rest left tail extra (inl ends) = grew_same x y ends.1
  grew_end WriteFault x y after rest left tail extra (inr ends) = grew_last x y ends.0 ends.2
  grew_end HistoryFull x y after rest left tail extra ends = (ends.5.declined.grown.0, ends.5.declined.grown.1)
  grew_end NoMemory x y after rest left tail extra (none, inl turned) = (turned.1.grown.0, turned.1.grown.1)
  grew_end NoMemory x y after rest left tail extra (none, inr entered) = grew_entered x y entered.0 entered.2.0 entered.2.1 entered.2.2

  pub grew_talk : (x y : Stand) (before after : Option Flow) (held left : List ℕ) (lines : List ConsoleLine) (ended : ConsoleEnd)
      → Talked stored files x y before after held left lines ended → Grew x.known y.known
  grew_talk x y before after held left lines ended talked =
      grew_then x.known talked.middle.known y.known (grew_all x talked.middle talked.front talked.answered)
      (grew_end ended talked.middle y after talked.rest left talked.tail talked.extra talked.ends)
