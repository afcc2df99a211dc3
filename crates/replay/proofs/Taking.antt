-- Texts that are taken, one behind another, and texts that lose their end.
use Rattle.std.proofs.Common.{◌≡◌, ℕ, List, [], ◌++◌, Option, Some, None, Result, Ok, Err, length, take, drop, refl, sym, ◌∙◌, ap, subst, append_assoc, arith}
use Rattle.std.proofs.lemmas.List.{append-nil, take-append-drop, length-drop}
use Rattle.std.specs.Io.KnownBytes.{Appends}
use Rattle.wire.specs.Content.{AppendsPart}
use Rattle.replay.specs.declared.rounds.Break.{Break}
use Rattle.replay.specs.declared.rounds.Break.TheVariants.{WriteFault, HistoryFull, NoMemory}
use Rattle.replay.specs.Pieces.{Pieces, pieces, Takes, LosesEnd, Tells, IsFrontOf, UsesSink}

pub Appends-nil : (held : Option (List ℕ)) → Appends held held []
Appends-nil None = tt
Appends-nil (Some bytes) = sym (append-nil bytes)

pub Appends-then : (one two three : Option (List ℕ)) (xs ys : List ℕ) → Appends one two xs → Appends two three ys → Appends one three (xs ++ ys)
Appends-then None two three xs ys p q = tt
Appends-then (Some a) None three xs ys p q = absurd p
Appends-then (Some a) (Some b) None xs ys p q = absurd q
Appends-then (Some a) (Some b) (Some c) xs ys p q = q ∙ (ap (λ (bytes : List ℕ). bytes ++ ys) p ∙ append_assoc a xs ys)

pub Takes-nil : (old : Pieces) → Takes old old []
Takes-nil old = record { written = []; holds = Appends-nil old.held; whole = append-nil old.unwritten }

pub Takes-then : (one two three : Pieces) (xs ys : List ℕ) → Takes one two xs → Takes two three ys → Takes one three (xs ++ ys)
Takes-then one two three xs ys p q =
    record {
      written = p.written ++ q.written;
      holds = Appends-then one.held two.held three.held p.written q.written p.holds q.holds;
      whole =
          sym (append_assoc one.unwritten xs ys)
          ∙ (ap (λ (t : List ℕ). t ++ ys) p.whole
          ∙ (append_assoc p.written two.unwritten ys
          ∙ (ap (λ (t : List ℕ). p.written ++ t) q.whole ∙ sym (append_assoc p.written q.written three.unwritten))));
    }

pub Takes-at : (old new : Pieces) (xs ys : List ℕ) → xs ≡ ys → Takes old new xs → Takes old new ys
Takes-at old new xs ys e p = subst (λ (bytes : List ℕ). Takes old new bytes) e p

-- what was taken before stays taken where the end is lost
pub LosesEnd-behind : (one two : Pieces) (held : Option (List ℕ)) (xs ys : List ℕ) → Takes one two xs → LosesEnd two held ys → LosesEnd one held (xs ++ ys)
LosesEnd-behind one two held xs ys p q = record { lost = q.lost; some = q.some; takes = Takes-then one two (pieces held q.lost) xs ys p q.takes }

pub LosesEnd-at : (old : Pieces) (held : Option (List ℕ)) (xs ys : List ℕ) → xs ≡ ys → LosesEnd old held xs → LosesEnd old held ys
LosesEnd-at old held xs ys e p = subst (λ (t : List ℕ). LosesEnd old held t) e p

-- what the sink holds where the end of a text is lost is a front of the text
pub lost_end : (held now : Option (List ℕ)) (text : List ℕ) → LosesEnd (pieces held []) now text → (front : List ℕ) × IsFrontOf front text × Appends held now front
lost_end held now text lost = (lost.takes.written, record { lost = lost.lost; some = lost.some; whole = lost.takes.whole }, lost.takes.holds)

-- where nothing is kept any more, the sink holds the text
pub all_taken : (held now : Option (List ℕ)) (text : List ℕ) → Takes (pieces held []) (pieces now []) text → Appends held now text
all_taken held now text takes = subst (λ (t : List ℕ). Appends held now t) (sym (takes.whole ∙ append-nil takes.written)) takes.holds

-- what is kept is written
pub flushed : (held now : Option (List ℕ)) (unwritten kept : List ℕ) → Appends held now unwritten → kept ≡ [] → Takes (pieces held unwritten) (pieces now kept) []
flushed held now unwritten kept holds none = record { written = unwritten; holds = holds; whole = ap (λ (t : List ℕ). unwritten ++ t) (sym none) }

-- or a part of it, and the rest is lost
pub cut_off : (held now : Option (List ℕ)) (unwritten : List ℕ) → AppendsPart held now unwritten → LosesEnd (pieces held unwritten) now []
cut_off held now unwritten part =
    record {
      lost = drop part.0 unwritten;
      some = λ none. let short = part.1 in let len : length (drop part.0 unwritten) ≡ 0 = ap length none in absurd (omega (arith, length-drop part.0 unwritten, len, short));
      takes = record { written = take part.0 unwritten; holds = part.2; whole = append-nil unwritten ∙ sym (take-append-drop part.0 unwritten) };
    }

-- a line is kept
pub kept_line : (held : Option (List ℕ)) (before after line : List ℕ) → after ≡ before ++ line → Takes (pieces held before) (pieces held after) line
kept_line held before after line is = record { written = []; holds = Appends-nil held; whole = sym is }

-- a line is kept, and then what is kept is written
pub kept_and_told : (held now : Option (List ℕ)) (before middle after line : List ℕ) (result : Result (Unit {0}) Break) → middle ≡ before ++ line → Tells (pieces held middle) (pieces now after) [] result → (result ≡ Err NoMemory → ⊥) → Tells (pieces held before) (pieces now after) line result
kept_and_told held now before middle after line (Ok u) is told calm =
    Takes-at _ _ (line ++ []) line (append-nil line) (Takes-then (pieces held before) (pieces held middle) (pieces now after) line [] (kept_line held before middle line is) told)
kept_and_told held now before middle after line (Err WriteFault) is told calm =
    LosesEnd-at _ _ (line ++ []) line (append-nil line) (LosesEnd-behind (pieces held before) (pieces held middle) now line [] (kept_line held before middle line is) told)
kept_and_told held now before middle after line (Err NoMemory) is told calm = absurd (calm refl)
kept_and_told held now before middle after line (Err HistoryFull) is told calm = absurd told

pub UsesSink-then : {K : Type 0} (faults : K → ℕ) (one two three : K) (early late whole : Type 0) → UsesSink faults one two early → UsesSink faults two three late → (whole → late) → UsesSink faults one three whole
UsesSink-then faults one two three early late whole p q cause =
    let first = p.later in
    record { later = omega (arith, p.later, q.later); cause = λ failed. let rose = q.cause (cause failed) in omega (arith, first, rose) }

pub UsesSink-none : {K : Type 0} (faults : K → ℕ) (sink : K) (failed : Type 0) → (failed → ⊥) → UsesSink faults sink sink failed
UsesSink-none faults sink failed none = record { later = omega arith; cause = λ f. absurd (none f) }
