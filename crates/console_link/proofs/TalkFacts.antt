-- Lines of a talk, one behind another, and how it ends behind them.
use Rattle.std.proofs.Common.{◌≡◌, ◌⊎◌, inl, inr, ℕ, ◌<◌, ◌≤◌, List, [], length, ◌∷◌, ◌++◌, take, Option, Some, None, Ok, Err, refl, sym, ◌∙◌, ap, subst, arith}
use Rattle.std.proofs.lemmas.Grind.{flat_map-append}
use Rattle.std.proofs.lemmas.List.{append-nil, append_assoc, map-append}
use Rattle.std.specs.Option.{option_to_list}
use Rattle.message_reader.specs.Inputs.{Hears}
use Rattle.wire.specs.Causes.{Rose}
use Rattle.wire.specs.Flow.{Flow, IsOver, Moves, MovesPart}
use Rattle.wire.proofs.Flowing.{Moves-none, Moves-trans}
use Rattle.world.specs.declared.file.File.{File}
use Rattle.vmod_host.specs.declared.signature.Stored.{Stored}
use Rattle.cache_law.specs.declared.call.Call.{Call}
use Rattle.cache_law.specs.declared.cache.Told.{Told}
use Rattle.shared_cache.specs.Sharing.{numbers}
use Rattle.console_link.specs.Answering.{LineAnswered, NextTold, KeptTold, AnswerTold, SentTold, RefusedTold}
use Rattle.console_link.specs.Lines.{BeginsLine, BeginsLines, LineTold}
use Rattle.console_link.specs.Talks.{Stand, Enters, Alone, IsAnswered, Quits, Follow, Ends, Goes, Talked, TurnTold, texts_of, sent_of, places_of, too_long}
use Rattle.console_link.specs.declared.talk.ConsoleEnd.{ConsoleEnd}
use Rattle.console_link.specs.declared.talk.ConsoleEnd.TheVariants.{Quit, Closed, TooLong, ReadFault, WriteFault, HistoryFull, NoMemory}
use Rattle.console_link.specs.declared.talk.ConsoleLine.{ConsoleLine}
use Rattle.console_link.proofs.Answered.{turned}
use Rattle.console_link.proofs.LineFacts.{longer, joined}

texts_then : (lines others : List ConsoleLine) → texts_of (lines ++ others) ≡ texts_of lines ++ texts_of others
texts_then lines others = map-append (λ (line : ConsoleLine). line.line) lines others

sent_then : (lines others : List ConsoleLine) → sent_of (lines ++ others) ≡ sent_of lines ++ sent_of others
sent_then lines others = flat_map-append (λ (line : ConsoleLine). line.sent) lines others

places_then : (lines others : List ConsoleLine) → places_of (lines ++ others) ≡ places_of lines ++ places_of others
places_then lines others = flat_map-append (λ (line : ConsoleLine). option_to_list line.place) lines others

-- ---- places

gained_same : (x y : Stand) → y.known ≡ x.known → numbers y.known ≡ numbers x.known ++ []
gained_same x y knows = ap numbers knows ∙ sym (append-nil (numbers x.known))

gained_then : (x y z : Stand) (lines others : List ConsoleLine) → numbers y.known ≡ numbers x.known ++ places_of lines → numbers z.known ≡ numbers y.known ++ places_of others
    → numbers z.known ≡ numbers x.known ++ places_of (lines ++ others)
gained_then x y z lines others one two =
    two ∙ ap (λ (l : List ℕ). l ++ places_of others) one ∙ append_assoc (numbers x.known) (places_of lines) (places_of others)
    ∙ ap (λ (l : List ℕ). numbers x.known ++ l) (sym (places_then lines others))

module _ (stored : List Stored) (files : Option (List File)) where
  gained_entered : (x y : Stand) (line : ConsoleLine) (call : Call) (told : Told) → Enters stored files x y line call told → numbers y.known ≡ numbers x.known ++ places_of (line ∷ [])
  gained_entered x y line call told enters =
      enters.called.gained ∙ ap (λ (p : Option ℕ). numbers x.known ++ (option_to_list p ++ [])) (sym enters.place)

  gained_alone : (x y : Stand) (line : ConsoleLine) → Alone x y line → numbers y.known ≡ numbers x.known ++ places_of (line ∷ [])
  gained_alone x y line alone =
      gained_same x y alone.knows ∙ ap (λ (p : Option ℕ). numbers x.known ++ (option_to_list p ++ [])) (sym alone.place)

  gained_answered : (x y : Stand) (line : ConsoleLine) → IsAnswered stored files x y line → numbers y.known ≡ numbers x.known ++ places_of (line ∷ [])
  gained_answered x y line (inl called) = gained_entered x y line called.0 called.1 called.2
  gained_answered x y line (inr alone) = gained_alone x y line alone.0

  gained_tail : (x y : Stand) (tail : List ConsoleLine) (last : ConsoleLine) → tail ≡ last ∷ [] → numbers y.known ≡ numbers x.known ++ places_of (last ∷ [])
      → numbers y.known ≡ numbers x.known ++ places_of tail
  gained_tail x y tail last is gained = gained ∙ ap (λ (l : List ConsoleLine). numbers x.known ++ places_of l) (sym is)

  gained_none : (x y : Stand) (tail : List ConsoleLine) → tail ≡ [] → numbers y.known ≡ numbers x.known → numbers y.known ≡ numbers x.known ++ places_of tail
  gained_none x y tail is same = same ∙ sym (append-nil (numbers x.known)) ∙ ap (λ (l : List ConsoleLine). numbers x.known ++ places_of l) (sym is)

  numbers_same : (x y : Stand) → y ≡ x → numbers y.known ≡ numbers x.known
  numbers_same x y is = ap (λ (s : Stand). numbers s.known) is

  -- the places that the pass gained behind the answered lines
  gained_end : (ended : ConsoleEnd) (x y : Stand) (after : Option Flow) (rest left : List ℕ) (tail : List ConsoleLine) (extra : List ℕ)
      → Ends stored files ended x y after rest left tail extra → numbers y.known ≡ numbers x.known ++ places_of tail
  gained_end Quit x y after rest left tail extra ends = gained_tail x y tail ends.0 ends.1 (gained_alone x y ends.0 ends.2.0)
  gained_end Closed x y after rest left tail extra ends = gained_none x y tail ends.0 (numbers_same x y ends.1)
  gained_end TooLong x y after rest left tail extra ends = gained_none x y tail ends.0 (numbers_same x y ends.1)
  gained_end ReadFault x y after rest left tail extra ends = gained_none x y tail ends.0 (numbers_same x y ends.1)
  gained_end WriteFault x y after rest left tail extra (inl ends) = gained_none x y tail ends.0 (numbers_same x y ends.1)
  gained_end WriteFault x y after rest left tail extra (inr (last, is, inl answered, part)) = gained_tail x y tail last is (gained_answered x y last answered)
  gained_end WriteFault x y after rest left tail extra (inr (last, is, inr quits, part)) = gained_tail x y tail last is (gained_alone x y last quits.0)
  gained_end HistoryFull x y after rest left tail extra ends = gained_none x y tail ends.0 ends.5.declined.same
  gained_end NoMemory x y after rest left tail extra (silent, inl ends) = gained_none x y tail ends.0 ends.1.same
  gained_end NoMemory x y after rest left tail extra (silent, inr (last, is, kept)) = gained_tail x y tail last is (gained_entered x y last kept.0 kept.1 kept.2)

  -- ---- one behind another

  follow_then : (x y z : Stand) (lines others : List ConsoleLine) → Follow stored files x lines y → Follow stored files y others z → Follow stored files x (lines ++ others) z
  follow_then x y z [] others one two = subst (λ (s : Stand). Follow stored files s others z) one two
  follow_then x y z (line ∷ lines) others one two = (one.0, one.1, follow_then one.0 y z lines others one.2 two)

  begins_then : (held read more : List ℕ) (lines others : List ConsoleLine) (now rest : List ℕ) → BeginsLines (held ++ read) (texts_of lines) now
      → BeginsLines (now ++ more) (texts_of others) rest → BeginsLines (held ++ (read ++ more)) (texts_of (lines ++ others)) rest
  begins_then held read more lines others now rest one two =
      subst (λ (l : List (List ℕ)). BeginsLines (held ++ (read ++ more)) l rest) (sym (texts_then lines others))
      (joined (held ++ (read ++ more)) (texts_of lines) (texts_of others) (now ++ more) rest
      (subst (λ (t : List ℕ). BeginsLines t (texts_of lines) (now ++ more)) (append_assoc held read more) (longer (held ++ read) more (texts_of lines) now one)) two)

  pub goes_none : (x : Stand) (flow : Option Flow) (held : List ℕ) → Goes stored files x x flow flow held held []
  goes_none x flow held = record { answered = refl; read = []; moves = Moves-none flow; begins = sym (append-nil held); gained = sym (append-nil (numbers x.known)) }

  pub goes_then : (x y z : Stand) (first second third : Option Flow) (held now left : List ℕ) (lines others : List ConsoleLine)
      → Goes stored files x y first second held now lines → Goes stored files y z second third now left others
      → Goes stored files x z first third held left (lines ++ others)
  goes_then x y z first second third held now left lines others one two = record {
    answered = follow_then x y z lines others one.answered two.answered;
    read = one.read ++ two.read;
    moves = subst (λ (t : List ℕ). Moves first third (one.read ++ two.read) t) (sym (sent_then lines others))
        (Moves-trans first second third one.read two.read (sent_of lines) (sent_of others) one.moves two.moves);
    begins = begins_then held one.read two.read lines others now left one.begins two.begins;
    gained = gained_then x y z lines others one.gained two.gained;
  }

  pub talked_then : (x y z : Stand) (first second third : Option Flow) (held now left : List ℕ) (lines others : List ConsoleLine) (ended : ConsoleEnd)
      → Goes stored files x y first second held now lines → Talked stored files y z second third now left others ended
      → Talked stored files x z first third held left (lines ++ others) ended
  talked_then x y z first second third held now left lines others ended one two = record {
    front = lines ++ two.front;
    tail = two.tail;
    split = ap (λ (l : List ConsoleLine). lines ++ l) two.split ∙ sym (append_assoc lines two.front two.tail);
    middle = two.middle;
    answered = follow_then x y two.middle lines two.front one.answered two.answered;
    read = one.read ++ two.read;
    rest = two.rest;
    extra = two.extra;
    moves = subst (λ (t : List ℕ). Moves first third (one.read ++ two.read) t) sent
        (Moves-trans first second third one.read two.read (sent_of lines) (sent_of two.front ++ two.extra) one.moves two.moves);
    begins = begins_then held one.read two.read lines others now two.rest one.begins two.begins;
    gained = gained_then x y z lines others one.gained two.gained;
    ends = two.ends;
  }
    where
      sent : sent_of lines ++ (sent_of two.front ++ two.extra) ≡ sent_of (lines ++ two.front) ++ two.extra
      sent = sym (append_assoc (sent_of lines) (sent_of two.front) two.extra) ∙ ap (λ (t : List ℕ). t ++ two.extra) (sym (sent_then lines two.front))

  -- ---- one turn

  -- a talk without an answered line
  ends_here : (x y : Stand) (first third : Option Flow) (held left read rest extra : List ℕ) (tail : List ConsoleLine) (ended : ConsoleEnd) → Moves first third read extra
      → BeginsLines (held ++ read) (texts_of tail) rest → Ends stored files ended x y third rest left tail extra → Talked stored files x y first third held left tail ended
  ends_here x y first third held left read rest extra tail ended moves begins ends = record {
    front = [];
    tail = tail;
    split = refl;
    middle = x;
    answered = refl;
    read = read;
    rest = rest;
    extra = extra;
    moves = moves;
    begins = begins;
    gained = gained_end ended x y third rest left tail extra ends;
    ends = ends;
  }

  -- memory was wanting before anything was read, or behind the lines
  pub wanting : (x : Stand) (flow : Option Flow) (held : List ℕ) → Talked stored files x x flow flow held held [] NoMemory
  wanting x flow held = ends_here x x flow flow held held [] held [] [] NoMemory (Moves-none flow) (sym (append-nil held)) (refl, inl (refl, turned x x refl (inl refl)))

  pub wanting_behind : (x y : Stand) (first second : Option Flow) (held now : List ℕ) (lines : List ConsoleLine) → Goes stored files x y first second held now lines
      → Talked stored files x y first second held now lines NoMemory
  wanting_behind x y first second held now lines goes =
      subst (λ (l : List ConsoleLine). Talked stored files x y first second held now l NoMemory) (append-nil lines)
      (talked_then x y y first second second held now now lines [] NoMemory goes (wanting y second now))

  -- what was read, and then written
  over_both : (first second third : Option Flow) (read written : List ℕ) → Moves first second read [] → Moves second third [] written → Moves first third read written
  over_both first second third read written gave took =
      subst (λ (t : List ℕ). Moves first third t written) (append-nil read) (Moves-trans first second third read [] [] written gave took)

  pub turn_of_line : (x y : Stand) (first second third : Option Flow) (held now : List ℕ) (text : List ℕ) (lines lines' : List ConsoleLine) (result : Option ConsoleEnd)
      → Hears first second held (LineTold second now (Ok text)) → LineAnswered stored files x y second third lines lines' text result
      → (more : List ConsoleLine) × (lines' ≡ lines ++ more) × TurnTold stored files x y first third held now more result
  turn_of_line x y first second third held now text lines lines' None heard told = (
    told.0 ∷ [],
    told.1,
    record {
      answered = (y, told.3, refl);
      read = heard.0;
      moves = subst (λ (t : List ℕ). Moves first third heard.0 t) (sym (append-nil told.0.sent)) (over_both first second third heard.0 told.0.sent heard.1 told.4);
      begins = (now, subst (λ (t : List ℕ). BeginsLine (held ++ heard.0) t now) (sym told.2) heard.2, refl);
      gained = gained_answered x y told.0 told.3;
    },
  )
  turn_of_line x y first second third held now text lines lines' (Some ended) heard told =
      let at = told.4 (held ++ heard.0) now heard.2 in (
        told.0,
        told.2,
        ends_here x y first third held now heard.0 at.0 told.1 told.0 ended (over_both first second third heard.0 told.1 heard.1 told.3) at.1 at.2,
      )

  over_later : (before after : Option Flow) (written : List ℕ) → Moves before after [] written → IsOver before → IsOver after
  over_later None None written moves over = tt
  over_later None (Some a) written moves over = absurd moves
  over_later (Some b) None written moves over = absurd moves
  over_later (Some b) (Some a) written moves over = sym moves.1 ∙ over

  stopped : (x : Stand) (first second third : Option Flow) (held left read extra : List ℕ) (ended : ConsoleEnd) → Moves first second read [] → Moves second third [] extra
      → Ends stored files ended x x third (held ++ read) left [] extra → Talked stored files x x first third held left [] ended
  stopped x first second third held left read extra ended gave took ends =
      ends_here x x first third held left read (held ++ read) extra [] ended (over_both first second third read extra gave took) refl ends

  pub turn_of_stop : (x : Stand) (first second third : Option Flow) (held now : List ℕ) (stop ended : ConsoleEnd) → Hears first second held (LineTold second now (Err stop))
      → RefusedTold stop second third ended → Talked stored files x x first third held now [] ended
  turn_of_stop x first second third held now Closed ended heard told =
      subst (λ (e : ConsoleEnd). Talked stored files x x first third held now [] e) (sym told.0)
      (stopped x first second third held now heard.0 [] Closed heard.1 told.1
      (refl, refl, refl, heard.2.0, heard.2.1, over_later second third [] told.1 heard.2.2))
  turn_of_stop x first second third held now TooLong ended heard (inl told) =
      subst (λ (e : ConsoleEnd). Talked stored files x x first third held now [] e) (sym told.0)
      (stopped x first second third held now heard.0 too_long TooLong heard.1 told.1 (refl, refl, refl, heard.2.0, heard.2.1))
  turn_of_stop x first second third held now TooLong ended heard (inr told) =
      let part = told.1 in
      subst (λ (e : ConsoleEnd). Talked stored files x x first third held now [] e) (sym told.0)
      (stopped x first second third held now heard.0 (take part.0 too_long) WriteFault heard.1 part.2 (inl (refl, refl, (part.0, part.1, refl), heard.2.1)))
  turn_of_stop x first second third held now ReadFault ended heard told =
      subst (λ (e : ConsoleEnd). Talked stored files x x first third held now [] e) (sym told.0)
      (stopped x first second third held now heard.0 [] ReadFault heard.1 told.1 (refl, refl, refl))
  turn_of_stop x first second third held now NoMemory ended heard told =
      subst (λ (e : ConsoleEnd). Talked stored files x x first third held now [] e) (sym told.0)
      (stopped x first second third held now heard.0 [] NoMemory heard.1 told.1 (refl, inl (refl, turned x x refl (inl refl))))
  turn_of_stop x first second third held now Quit ended heard told = absurd heard.2
  turn_of_stop x first second third held now WriteFault ended heard told = absurd heard.2
  turn_of_stop x first second third held now HistoryFull ended heard told = absurd heard.2

  -- ---- one line, answered

  -- how a kept line ends a talk, if it does, once its answer was written whole
  ends_kept : (ended : ConsoleEnd) (x y : Stand) (after : Option Flow) (next : List ℕ) (line : ConsoleLine) → KeptTold stored files x y line (Some ended)
      → (extra : List ℕ) → extra ≡ line.sent → Ends stored files ended x y after next next (line ∷ []) extra
  ends_kept Quit x y after next line kept extra is = (line, refl, kept, is, refl)
  ends_kept NoMemory x y after next line kept extra is = (is ∙ kept.3, inr (line, refl, kept))
  ends_kept Closed x y after next line kept extra is = absurd kept
  ends_kept TooLong x y after next line kept extra is = absurd kept
  ends_kept ReadFault x y after next line kept extra is = absurd kept
  ends_kept WriteFault x y after next line kept extra is = absurd kept
  ends_kept HistoryFull x y after next line kept extra is = absurd kept

  begins_one : (input next : List ℕ) (line : ConsoleLine) (text : List ℕ) → line.line ≡ text → BeginsLine input text next → BeginsLines input (texts_of (line ∷ [])) next
  begins_one input next line text is begins = (next, subst (λ (t : List ℕ). BeginsLine input t next) (sym is) begins, refl)

  whole_line : (x y : Stand) (second third : Option Flow) (lines lines' : List ConsoleLine) (text : List ℕ) (line : ConsoleLine) (ended : Option ConsoleEnd)
      → lines' ≡ lines ++ line ∷ [] → line.line ≡ text → KeptTold stored files x y line ended → Moves second third [] line.sent
      → LineAnswered stored files x y second third lines lines' text ended
  whole_line x y second third lines lines' text line None more is kept took = (line, more, is, kept, took)
  whole_line x y second third lines lines' text line (Some ended) more is kept took = (
    line ∷ [],
    line.sent,
    more,
    took,
    λ input next begins. (next, begins_one input next line text is begins, ends_kept ended x y third next line kept line.sent refl),
  )

  nothing_of : (text : List ℕ) → text ≡ [] → (n : ℕ) → n < length text → ⊥
  nothing_of text is n less = omega (arith, ap length is, less)

  -- a front of an answer, which isn't empty then
  cut_kept : (x y : Stand) (line : ConsoleLine) (ended : Option ConsoleEnd) → KeptTold stored files x y line ended → (before after : Option Flow) → MovesPart before after line.sent
      → IsAnswered stored files x y line ⊎ Quits stored files x y line
  cut_kept x y line None kept before after part = inl kept
  cut_kept x y line (Some Quit) kept before after part = inr kept
  cut_kept x y line (Some NoMemory) kept before after part = absurd (nothing_of line.sent kept.3 part.0 part.1)
  cut_kept x y line (Some Closed) kept before after part = absurd kept
  cut_kept x y line (Some TooLong) kept before after part = absurd kept
  cut_kept x y line (Some ReadFault) kept before after part = absurd kept
  cut_kept x y line (Some WriteFault) kept before after part = absurd kept
  cut_kept x y line (Some HistoryFull) kept before after part = absurd kept

  pub line_sent : (x y : Stand) (second third : Option Flow) (lines lines' : List ConsoleLine) (text : List ℕ) (line : ConsoleLine) (ended result : Option ConsoleEnd)
      → lines' ≡ lines ++ line ∷ [] → line.line ≡ text → KeptTold stored files x y line ended → SentTold second third line.sent ended result
      → LineAnswered stored files x y second third lines lines' text result
  line_sent x y second third lines lines' text line ended result more is kept (inl whole) =
      subst (λ (r : Option ConsoleEnd). LineAnswered stored files x y second third lines lines' text r) (sym whole.0)
      (whole_line x y second third lines lines' text line ended more is kept whole.1)
  line_sent x y second third lines lines' text line ended result more is kept (inr cut) =
      subst (λ (r : Option ConsoleEnd). LineAnswered stored files x y second third lines lines' text r) (sym cut.0) (
        line ∷ [],
        take cut.1.0 line.sent,
        more,
        cut.1.2,
        λ input next begins. (
          next,
          begins_one input next line text is begins,
          inr (line, refl, cut_kept x y line ended kept second third cut.1, (cut.1.0, cut.1.1, refl)),
        ),
      )

  pub line_lost : (x y : Stand) (flow : Option Flow) (lines : List ConsoleLine) (text : List ℕ) (ended : ConsoleEnd) → AnswerTold stored files x y text (Err ended)
      → LineAnswered stored files x y flow flow lines lines text (Some ended)
  line_lost x y flow lines text HistoryFull told = (
    [],
    [],
    sym (append-nil lines),
    Moves-none flow,
    λ input next begins. (input, refl, (refl, refl, text, next, begins, told)),
  )
  line_lost x y flow lines text NoMemory told = ([], [], sym (append-nil lines), Moves-none flow, λ input next begins. (input, refl, (refl, inl (refl, told))))
  line_lost x y flow lines text Quit told = absurd told
  line_lost x y flow lines text Closed told = absurd told
  line_lost x y flow lines text TooLong told = absurd told
  line_lost x y flow lines text ReadFault told = absurd told
  line_lost x y flow lines text WriteFault told = absurd told

-- ---- a turn behind others, over a shelf whose files stay

pub next_goes : (stored : List Stored) (files files' : Option (List File)) (x y z : Stand) (first second third : Option Flow) (held now left : List ℕ) (lines lines' : List ConsoleLine)
    → files' ≡ files → Goes stored files x y first second held now lines → NextTold stored files' y z second third now left lines lines' None
    → Goes stored files x z first third held left lines'
next_goes stored files files' x y z first second third held now left lines lines' same goes told =
    let turn = subst (λ (f : Option (List File)). Goes stored f y z second third now left told.0) same told.2 in
    subst (λ (l : List ConsoleLine). Goes stored files x z first third held left l) (sym told.1)
    (goes_then stored files x y z first second third held now left lines told.0 goes turn)

pub next_talked : (stored : List Stored) (files files' : Option (List File)) (x y z : Stand) (first second third : Option Flow) (held now left : List ℕ) (lines lines' : List ConsoleLine)
    (ended : ConsoleEnd) → files' ≡ files → Goes stored files x y first second held now lines → NextTold stored files' y z second third now left lines lines' (Some ended)
    → Talked stored files x z first third held left lines' ended
next_talked stored files files' x y z first second third held now left lines lines' ended same goes told =
    let turn = subst (λ (f : Option (List File)). Talked stored f y z second third now left told.0 ended) same told.2 in
    subst (λ (l : List ConsoleLine). Talked stored files x z first third held left l ended) (sym told.1)
    (talked_then stored files x y z first second third held now left lines told.0 ended goes turn)

-- a count that rose later rose
pub rose_later : (a b c : ℕ) → a ≤ b → Rose b c → Rose a c
rose_later a b c within rose = omega (arith, within, rose)
