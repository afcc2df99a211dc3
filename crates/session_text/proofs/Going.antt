-- Up to a fault's line a text goes on to a session, and behind it to none.
use Rattle.std.proofs.Common.{◌≡◌, ◌≢◌, ℕ, ◌+◌, ◌≤◌, ◌-◌, List, [], ◌∷◌, ◌++◌, length, sym, ap, ◌∙◌, subst, refl, arith, append_assoc, Bool, true, false, cond, eqb, ltb}
use Rattle.std.specs.Prelude.{codes, Option, Some, None}
use Rattle.std.specs.List.{AllByRecursion}
use Rattle.std.specs.Option.{is_some}
use mathlib.Core.Logic.{inl, inr}
use Rattle.std.proofs.lemmas.Bool.{false≢true}
use Rattle.std.proofs.lemmas.Option.{same_Some}
use Rattle.units.proofs.Pieces.{chosen}
use Rattle.session_text.specs.declared.session.FaultKind.{FaultKind}
use Rattle.session_text.specs.declared.session.FaultKind.TheVariants.{Argument, NoEnd, Moment, After}
use Rattle.session_text.specs.declared.session.NumberedLine.{NumberedLine}
use Rattle.session_text.specs.declared.session.Session.{Session}
use Rattle.session_text.specs.Readings.{Reading, Passed, End, Says, Bad}
use Rattle.session_text.specs.declared.place.Place.{Place}
use Rattle.session_text.specs.Lines.{TextLine, text_line, lines_of, onto, size, content}
use Rattle.session_text.specs.Readings.{IsReading}
use Rattle.session_text.specs.Sessions.{On, Stop, step_of, IsStep, Reads, Fails, first_place, behind, moment_after, IsSession, IsFault, session_limit}
use Rattle.session_text.specs.Going.{HasWholeLines, StopsAt}
use Rattle.session_text.proofs.Cuts.{lines_ended}
use Rattle.session_text.proofs.Meanings.{on_same, stop_same, on_stop, step_same, reading_same}

-- how many bytes lines take
abbrev sizes : List TextLine → ℕ
sizes [] = 0
sizes (line ∷ lines) = size line + sizes lines

abbrev AllEnded : List TextLine → Type 0
AllEnded lines = AllByRecursion (λ (line : TextLine). line.ended ≡ true) lines

size_onto : (byte : ℕ) (body : List ℕ) (ended : Bool) → size (text_line (byte ∷ body) ended) ≡ size (text_line body ended) + 1
size_onto byte body true = omega arith
size_onto byte body false = omega arith

sizes_onto : (byte : ℕ) (lines : List TextLine) → sizes (onto byte lines) ≡ sizes lines + 1
sizes_onto byte [] = refl
sizes_onto byte (line ∷ lines) = omega (arith, size_onto byte line.body line.ended)

sizes_by : (t : Bool) (byte : ℕ) (bytes : List ℕ) → sizes (lines_of bytes) ≡ length bytes → sizes (cond t (text_line [] true ∷ lines_of bytes) (onto byte (lines_of bytes))) ≡ length bytes + 1
sizes_by true byte bytes e = omega (arith, e)
sizes_by false byte bytes e = omega (arith, e, sizes_onto byte (lines_of bytes))

sizes_lines : (text : List ℕ) → sizes (lines_of text) ≡ length text
sizes_lines [] = refl
sizes_lines (byte ∷ bytes) = let e = sizes_by (eqb byte 10) byte bytes (sizes_lines bytes) in omega (arith, e)

-- the lines of two texts that are joined at the end of a line
onto_append : (byte : ℕ) (lines all rest : List TextLine) → AllEnded (onto byte lines) → (AllEnded lines → all ≡ lines ++ rest) → onto byte all ≡ onto byte lines ++ rest
onto_append byte [] all rest h ih = absurd (false≢true h.0)
onto_append byte (line ∷ lines) all rest h ih = ap (onto byte) (ih h)

append_by : (t : Bool) (byte : ℕ) (bytes more : List ℕ) → (AllEnded (lines_of bytes) → lines_of (bytes ++ more) ≡ lines_of bytes ++ lines_of more) → AllEnded (cond t (text_line [] true ∷ lines_of bytes) (onto byte (lines_of bytes)))
    → cond t (text_line [] true ∷ lines_of (bytes ++ more)) (onto byte (lines_of (bytes ++ more))) ≡ cond t (text_line [] true ∷ lines_of bytes) (onto byte (lines_of bytes)) ++ lines_of more
append_by true byte bytes more ih h = ap (λ r. text_line [] true ∷ r) (ih h.1)
append_by false byte bytes more ih h = onto_append byte (lines_of bytes) (lines_of (bytes ++ more)) (lines_of more) h ih

lines_append : (text more : List ℕ) → AllEnded (lines_of text) → lines_of (text ++ more) ≡ lines_of text ++ lines_of more
lines_append [] more h = refl
lines_append (byte ∷ bytes) more h = append_by (eqb byte 10) byte bytes more (lines_append bytes more) h

-- a text is cut where its lines are
record Cut (text : List ℕ) (front rest : List TextLine) : Type 0 where
  before : List ℕ
  behind : List ℕ
  joined : text ≡ before ++ behind
  fronts : lines_of before ≡ front
  ended : AllEnded front
  rests : lines_of behind ≡ rest

no_nil : (front : List TextLine) (line : TextLine) (rest : List TextLine) → [] ≡ front ++ line ∷ rest → ⊥
no_nil [] line rest e = cc
no_nil (x ∷ front) line rest e = cc

cut_onto : (lines : List TextLine) (byte : ℕ) (bytes : List ℕ) → lines_of bytes ≡ lines → eqb byte 10 ≡ false → (first : TextLine) (front : List TextLine) (line : TextLine) (rest : List TextLine) → onto byte lines ≡ first ∷ (front ++ line ∷ rest)
    → ((early : List TextLine) → lines_of bytes ≡ early ++ line ∷ rest → Cut bytes early (line ∷ rest)) → Cut (byte ∷ bytes) (first ∷ front) (line ∷ rest)
cut_onto [] byte bytes p k first front line rest e ih = let tails : [] ≡ front ++ line ∷ rest = cc in absurd (no_nil front line rest tails)
cut_onto (l ∷ lines) byte bytes p k first front line rest e ih =
    let heads : text_line (byte ∷ l.body) l.ended ≡ first = cc in
    let tails : lines ≡ front ++ line ∷ rest = cc in
    let cut = ih (l ∷ front) (p ∙ ap (λ r. l ∷ r) tails) in
    record {
      before = byte ∷ cut.before;
      behind = cut.behind;
      joined = ap (λ r. byte ∷ r) cut.joined;
      fronts = ap (λ t. cond t (text_line [] true ∷ lines_of cut.before) (onto byte (lines_of cut.before))) k ∙ (ap (onto byte) cut.fronts ∙ ap (λ h. h ∷ front) heads);
      ended = (sym (ap (λ (x : TextLine). x.ended) heads) ∙ cut.ended.0, cut.ended.1);
      rests = cut.rests;
    }

cut_by : (t : Bool) (byte : ℕ) (bytes : List ℕ) → eqb byte 10 ≡ t → (first : TextLine) (front : List TextLine) (line : TextLine) (rest : List TextLine) → cond t (text_line [] true ∷ lines_of bytes) (onto byte (lines_of bytes)) ≡ first ∷ (front ++ line ∷ rest)
    → ((early : List TextLine) → lines_of bytes ≡ early ++ line ∷ rest → Cut bytes early (line ∷ rest)) → Cut (byte ∷ bytes) (first ∷ front) (line ∷ rest)
cut_by false byte bytes k first front line rest e ih = cut_onto (lines_of bytes) byte bytes refl k first front line rest e ih
cut_by true byte bytes k first front line rest e ih =
    let heads : text_line [] true ≡ first = cc in
    let tails : lines_of bytes ≡ front ++ line ∷ rest = cc in
    let cut = ih front tails in
    record {
      before = byte ∷ cut.before;
      behind = cut.behind;
      joined = ap (λ r. byte ∷ r) cut.joined;
      fronts = ap (λ t. cond t (text_line [] true ∷ lines_of cut.before) (onto byte (lines_of cut.before))) k ∙ (ap (λ r. text_line [] true ∷ r) cut.fronts ∙ ap (λ h. h ∷ front) heads);
      ended = (sym (ap (λ (x : TextLine). x.ended) heads), cut.ended);
      rests = cut.rests;
    }

cut_at_line : (text : List ℕ) (front : List TextLine) (line : TextLine) (rest : List TextLine) → lines_of text ≡ front ++ line ∷ rest → Cut text front (line ∷ rest)
cut_at_line text [] line rest e = record { before = []; behind = text; joined = refl; fronts = refl; ended = tt; rests = e }
cut_at_line [] (first ∷ front) line rest e = absurd (no_nil (first ∷ front) line rest e)
cut_at_line (byte ∷ bytes) (first ∷ front) line rest e = cut_by (eqb byte 10) byte bytes refl first front line rest e (λ early p. cut_at_line bytes early line rest p)

-- a line that is no fault takes its bytes of the room, and the next number
record Moves (place next : Place) (line : TextLine) : Type 0 where
  room : next.room + size line ≡ place.room
  number : next.number ≡ place.number + 1

moves : (place next : Place) (line : TextLine) → size line ≤ place.room → next.room ≡ place.room - size line → next.number ≡ place.number + 1 → Moves place next line
moves place next line fits r n = record { room = omega arith; number = n }

step_moves : (place next : Place) (line : TextLine) (reading : Reading) (given : List NumberedLine) → size line ≤ place.room → On given next ≡ step_of place line reading → Moves place next line
step_moves place next line Passed given fits e =
    let same = (on_same given [] next (behind place line) e).1 in
    moves place next line fits (ap (λ (p : Place). p.room) same) (ap (λ (p : Place). p.number) same)
step_moves place next line End given fits e =
    elim (chosen (is_some place.end) _ _ _ (sym e)) [
      | inl h ↦ absurd (on_stop given next After (sym h.1))
      | inr h ↦
          let same = (on_same _ given _ next h.1).1 in
          moves place next line fits (sym (ap (λ (p : Place). p.room) same)) (sym (ap (λ (p : Place). p.number) same))
    ]
step_moves place next line (Says says) given fits e =
    elim (chosen (ltb (moment_after place.moment says) place.moment) _ _ _ (sym e)) [
      | inl h ↦ absurd (on_stop given next Moment (sym h.1))
      | inr h ↦
          elim (chosen (is_some place.end) _ _ _ h.1) [
            | inl k ↦ absurd (on_stop given next After (sym k.1))
            | inr k ↦
                let same = (on_same _ given _ next k.1).1 in
                moves place next line fits (sym (ap (λ (p : Place). p.room) same)) (sym (ap (λ (p : Place). p.number) same))
          ]
    ]
step_moves place next line (Bad kind) given fits e = absurd (on_stop given next kind e)

line_moves : (place next : Place) (line : TextLine) (given : List NumberedLine) → IsStep place line (On given next) → Moves place next line
line_moves place next line given (inl h) = absurd (on_stop given next Argument h.1)
line_moves place next line given (inr h) = step_moves place next line h.1 given h.0 h.3

-- The lines before a fault's line, and that line.
record Halts (lines : List TextLine) (place : Place) (line : ℕ) : Type 0 where
  front : List TextLine
  bad : TextLine
  rest : List TextLine
  next : Place
  joined : lines ≡ front ++ bad ∷ rest
  count : line ≡ place.number + length front
  room : next.room + sizes front ≡ place.room
  goes_on : (more : List TextLine) (v : List NumberedLine) (x : ℕ) → Reads more next v x → (w : List NumberedLine) × Reads (front ++ more) place w x
  stops : (more : List TextLine) (v : List NumberedLine) (x : ℕ) → Reads (front ++ bad ∷ more) place v x → ⊥

halts : (lines : List TextLine) (place : Place) (line : ℕ) (kind : FaultKind) → (kind ≡ NoEnd → ⊥) → Fails lines place line kind → Halts lines place line
halts [] place line kind other h = absurd (other h.2)
halts (first ∷ rest) place line kind other (inl h) = record {
  front = [];
  bad = first;
  rest = rest;
  next = place;
  joined = refl;
  count = omega (arith, h.1);
  room = omega arith;
  goes_on = λ more v x r. (v, r);
  stops = λ more v x r. on_stop r.0 r.2 kind (step_same place first (On r.0 r.2) (Stop kind) r.3 h.0);
}
halts (first ∷ rest) place line kind other (inr h) =
    let later = halts rest h.1 line kind other h.3 in
    let moved = line_moves place h.1 first h.0 h.2 in
    record {
      front = first ∷ later.front;
      bad = later.bad;
      rest = later.rest;
      next = later.next;
      joined = ap (λ r. first ∷ r) later.joined;
      count = omega (arith, later.count, moved.number);
      room = omega (arith, later.room, moved.room);
      goes_on = λ more v x r. let k = later.goes_on more v x r in (h.0 ++ k.0, (h.0, k.0, h.1, h.2, refl, k.1));
      stops = λ more v x r.
          let same = on_same r.0 h.0 r.2 h.1 (step_same place first (On r.0 r.2) (On h.0 h.1) r.3 h.2) in
          let at : Place → Type 0 = λ p. Reads (later.front ++ later.bad ∷ more) p r.1 x in
          later.stops more r.1 x (subst at same.1 r.5);
    }

abbrev end_line : TextLine
end_line = text_line (codes "end") false

-- `end` may follow where none has come yet
end_follows : (place : Place) → 3 ≤ place.room → place.end ≡ None → Reads (end_line ∷ []) place [] place.number
end_follows place room e =
    let next : Place = record (behind place end_line) { end = Some place.number } in
    let step : On [] next ≡ step_of place end_line End = rw e refl in
    ([], [], next, inr (room, End, refl, step), refl, (refl, refl))

ends_somehow : (place : Place) (o : Option ℕ) → place.end ≡ o → 3 ≤ place.room → (more : List ℕ) × (v : List NumberedLine) × (x : ℕ) × Reads (lines_of more) place v x
ends_somehow place (Some x) e room = ([], [], x, (refl, e))
ends_somehow place None e room = (codes "end", [], place.number, end_follows place room e)

session_of : List NumberedLine → ℕ → Session
session_of lines end = record { lines = lines; end = end }

pub stops_at : (text : List ℕ) (line : ℕ) (kind : FaultKind) → kind ≢ NoEnd → IsFault text line kind → StopsAt text line
stops_at text line kind other fault =
    let halt = halts (lines_of text) first_place line kind other fault in
    let cut = cut_at_line text halt.front halt.bad halt.rest halt.joined in
    let front = cut.fronts in
    let of_front : List TextLine → Type 0 = λ f. AllEnded f in
    let whole = subst of_front (sym front) cut.ended in
    record {
      before = cut.before;
      rest = cut.behind;
      joined = cut.joined;
      whole = whole;
      count = omega (arith, halt.count, ap length front);
      goes_on = λ short.
          let room : 3 ≤ halt.next.room = omega (arith, halt.room, ap sizes front, sizes_lines cut.before) in
          let end = ends_somehow halt.next halt.next.end refl room in
          let all = halt.goes_on (lines_of end.0) end.1 end.2 end.3 in
          let lines : lines_of (cut.before ++ end.0) ≡ halt.front ++ lines_of end.0 = lines_append cut.before end.0 whole ∙ ap (λ f. f ++ lines_of end.0) front in
          let at : List TextLine → Type 0 = λ l. Reads l first_place all.0 end.2 in
          (end.0, record { lines = all.0; end = end.2 }, subst at (sym lines) all.1);
      stops = λ body more lacks e (after, session, h).
          let here : text_line body true ∷ lines_of more ≡ halt.bad ∷ halt.rest = sym (lines_ended body more lacks) ∙ (ap lines_of (sym e) ∙ cut.rests) in
          let bad : text_line body true ≡ halt.bad = cc in
          let lines : lines_of ((cut.before ++ (body ++ 10 ∷ [])) ++ after) ≡ halt.front ++ halt.bad ∷ lines_of after =
          ap lines_of (append_assoc cut.before (body ++ 10 ∷ []) after)
          ∙ (lines_append cut.before ((body ++ 10 ∷ []) ++ after) whole
          ∙ (ap (λ f. f ++ lines_of ((body ++ 10 ∷ []) ++ after)) front
          ∙ ap (λ r. halt.front ++ r) (ap lines_of (append_assoc body (10 ∷ []) after) ∙ (lines_ended body after lacks ∙ ap (λ b. b ∷ lines_of after) bad)))) in
          let at : List TextLine → Type 0 = λ l. Reads l first_place session.lines session.end in
          halt.stops (lines_of after) session.lines session.end (subst at lines h);
    }

-- no line is at fault for want of `end`
step_ends : (place : Place) (line : TextLine) (reading : Reading) → IsReading (content line) reading → Stop NoEnd ≡ step_of place line reading → ⊥
step_ends place line Passed h e = on_stop [] (behind place line) NoEnd (sym e)
step_ends place line End h e =
    elim (chosen (is_some place.end) _ _ _ (sym e)) [
      | inl k ↦ let same = stop_same After NoEnd k.1 in cc
      | inr k ↦ on_stop _ _ NoEnd k.1
    ]
step_ends place line (Says says) h e =
    elim (chosen (ltb (moment_after place.moment says) place.moment) _ _ _ (sym e)) [
      | inl k ↦ let same = stop_same Moment NoEnd k.1 in cc
      | inr k ↦
          elim (chosen (is_some place.end) _ _ _ k.1) [
            | inl m ↦ let same = stop_same After NoEnd m.1 in cc
            | inr m ↦ on_stop _ _ NoEnd m.1
          ]
    ]
step_ends place line (Bad kind) h e =
    let at : FaultKind → Type 0 = λ k. IsReading (content line) (Bad k) in
    subst at (sym (stop_same NoEnd kind e)) h

line_ends : (place : Place) (line : TextLine) → IsStep place line (Stop NoEnd) → ⊥
line_ends place line (inl h) = let same = stop_same NoEnd Argument h.1 in cc
line_ends place line (inr h) = step_ends place line h.1 h.2 h.3

with_end : (lines : List TextLine) (place : Place) (x : ℕ) → Fails lines place x NoEnd → sizes lines + 3 ≤ place.room → (v : List NumberedLine) × Reads (lines ++ end_line ∷ []) place v x
with_end [] place x h room =
    let at : ℕ → Type 0 = λ n. Reads (end_line ∷ []) place [] n in
    ([], subst at (sym h.1) (end_follows place (omega arith) h.0))
with_end (first ∷ rest) place x (inl h) room = absurd (line_ends place first h.0)
with_end (first ∷ rest) place x (inr h) room =
    let moved = line_moves place h.1 first h.0 h.2 in
    let more = with_end rest h.1 x h.3 (omega (arith, moved.room)) in
    (h.0 ++ more.0, (h.0, more.0, h.1, h.2, refl, more.1))

not_some : (o : Option ℕ) → is_some o ≡ false → o ≡ None
not_some None e = refl
not_some (Some x) e = cc

end_ends : (place next : Place) (given : List NumberedLine) (x : ℕ) → IsStep place end_line (On given next) → next.end ≡ Some x → (place.end ≡ None) × (x ≡ place.number)
end_ends place next given x (inl h) e = absurd (on_stop given next Argument h.1)
end_ends place next given x (inr h) e =
    let at : Reading → Type 0 = λ r. On given next ≡ step_of place end_line r in
    let step : On given next ≡ step_of place end_line End = subst at (reading_same (codes "end") h.1 End h.2 refl) h.3 in
    elim (chosen (is_some place.end) _ _ _ (sym step)) [
      | inl k ↦ absurd (on_stop given next After (sym k.1))
      | inr k ↦
          let same = (on_same _ given _ next k.1).1 in
          (not_some place.end k.0, same_Some x place.number (sym e ∙ sym (ap (λ (p : Place). p.end) same)))
    ]

without_end : (lines : List TextLine) (place : Place) (v : List NumberedLine) (x : ℕ) → Reads (lines ++ end_line ∷ []) place v x → Fails lines place x NoEnd
without_end [] place v x h = let end = end_ends place h.2 h.0 x h.3 h.5.1 in (end.0, end.1, refl)
without_end (first ∷ rest) place v x h = inr (h.0, h.2, h.3, without_end rest h.2 h.1 x h.5)

-- `end` is what is wanting exactly where a session stands with it
pub end_makes : (text : List ℕ) (x : ℕ) → HasWholeLines text → length text + 3 ≤ session_limit → IsFault text x NoEnd → (session : Session) × IsSession (text ++ codes "end") session × (session.end ≡ x)
end_makes text x whole room fault =
    let made = with_end (lines_of text) first_place x fault (omega (arith, sizes_lines text)) in
    let at : List TextLine → Type 0 = λ l. Reads l first_place made.0 x in
    (record { lines = made.0; end = x }, subst at (sym (lines_append text (codes "end") whole)) made.1, refl)

pub end_made : (text : List ℕ) (x : ℕ) → HasWholeLines text → (session : Session) × IsSession (text ++ codes "end") session × (session.end ≡ x) → IsFault text x NoEnd
end_made text x whole (session, h, e) =
    let at : List TextLine → Type 0 = λ l. Reads l first_place session.lines session.end in
    let to : ℕ → Type 0 = λ n. IsFault text n NoEnd in
    subst to e (without_end (lines_of text) first_place session.lines session.end (subst at (lines_append text (codes "end") whole) h))
