-- Texts that are put one behind another.
use Rattle.std.proofs.Common.{◌≡◌, ℕ, List, [], ◌++◌, Option, Some, None, Result, Ok, Err, take, drop, sym, ◌∙◌, ap, subst, append_assoc}
use Rattle.std.proofs.lemmas.List.{append-nil, take-append-drop}
use Rattle.std.specs.Prelude.{OnErr}
use Rattle.std.specs.Io.KnownBytes.{Appends}
use Rattle.wire.specs.Content.{AppendsPart}
use Rattle.journal_writer.specs.Pieces.{Puts, GainsFront}

pub appends_none : (held : Option (List ℕ)) → Appends held held []
appends_none None = tt
appends_none (Some bytes) = sym (append-nil bytes)

pub appends_then : (one two three : Option (List ℕ)) (xs ys : List ℕ) → Appends one two xs → Appends two three ys → Appends one three (xs ++ ys)
appends_then None two three xs ys p q = tt
appends_then (Some a) None three xs ys p q = absurd p
appends_then (Some a) (Some b) None xs ys p q = absurd q
appends_then (Some a) (Some b) (Some c) xs ys p q = q ∙ (ap (λ (bytes : List ℕ). bytes ++ ys) p ∙ append_assoc a xs ys)

pub puts_none : (held : Option (List ℕ)) (unwritten : List ℕ) → Puts held unwritten held unwritten []
puts_none held unwritten = record { written = []; holds = appends_none held; whole = append-nil unwritten }

-- a text is kept
pub puts_kept : (held : Option (List ℕ)) (before after text : List ℕ) → after ≡ before ++ text → Puts held before held after text
puts_kept held before after text is = record { written = []; holds = appends_none held; whole = sym is }

-- what is kept is written
pub puts_written : (held held' : Option (List ℕ)) (unwritten kept : List ℕ) → Appends held held' unwritten → kept ≡ [] → Puts held unwritten held' kept []
puts_written held held' unwritten kept holds none = record { written = unwritten; holds = holds; whole = ap (λ (t : List ℕ). unwritten ++ t) (sym none) }

-- or a part of it
pub front_written : (held held' : Option (List ℕ)) (unwritten : List ℕ) → AppendsPart held held' unwritten → GainsFront held unwritten held' []
front_written held held' unwritten part = record {
  written = take part.0 unwritten;
  lost = drop part.0 unwritten;
  holds = part.2;
  whole = append-nil unwritten ∙ sym (take-append-drop part.0 unwritten);
}

moved : (u xs ys w v z r : List ℕ) → u ++ xs ≡ w ++ v → v ++ ys ≡ z ++ r → u ++ (xs ++ ys) ≡ (w ++ z) ++ r
moved u xs ys w v z r p q = sym (append_assoc u xs ys) ∙ (ap (λ (t : List ℕ). t ++ ys) p ∙ (append_assoc w v ys ∙ (ap (λ (t : List ℕ). w ++ t) q ∙ sym (append_assoc w z r))))

pub puts_then : (one two three : Option (List ℕ)) (u v w xs ys : List ℕ) → Puts one u two v xs → Puts two v three w ys → Puts one u three w (xs ++ ys)
puts_then one two three u v w xs ys p q = record {
  written = p.written ++ q.written;
  holds = appends_then one two three p.written q.written p.holds q.holds;
  whole = moved u xs ys p.written v q.written w p.whole q.whole;
}

pub front_then : (one two three : Option (List ℕ)) (u v xs ys : List ℕ) → Puts one u two v xs → GainsFront two v three ys → GainsFront one u three (xs ++ ys)
front_then one two three u v xs ys p q = record {
  written = p.written ++ q.written;
  lost = q.lost;
  holds = appends_then one two three p.written q.written p.holds q.holds;
  whole = moved u xs ys p.written v q.written q.lost p.whole q.whole;
}

-- a front of a text is one of each longer text
pub front_more : (held held' : Option (List ℕ)) (u xs ys : List ℕ) → GainsFront held u held' xs → GainsFront held u held' (xs ++ ys)
front_more held held' u xs ys p = record {
  written = p.written;
  lost = p.lost ++ ys;
  holds = p.holds;
  whole = sym (append_assoc u xs ys) ∙ (ap (λ (t : List ℕ). t ++ ys) p.whole ∙ append_assoc p.written p.lost ys);
}

-- nothing of a text was written yet where it was only kept
pub front_kept : (held : Option (List ℕ)) (held' : Option (List ℕ)) (u v xs : List ℕ) → Puts held u held' v xs → GainsFront held u held' xs
front_kept held held' u v xs p = record { written = p.written; lost = v; holds = p.holds; whole = p.whole }

pub puts_at : (held held' : Option (List ℕ)) (u v xs ys : List ℕ) → xs ≡ ys → Puts held u held' v xs → Puts held u held' v ys
puts_at held held' u v xs ys same p = subst (λ (t : List ℕ). Puts held u held' v t) same p

pub front_at : (held held' : Option (List ℕ)) (u xs ys : List ℕ) → xs ≡ ys → GainsFront held u held' xs → GainsFront held u held' ys
front_at held held' u xs ys same p = subst (λ (t : List ℕ). GainsFront held u held' t) same p

-- where nothing is kept before and behind, the sink holds the text
pub all_put : (held held' : Option (List ℕ)) (kept text : List ℕ) → Puts held [] held' kept text → kept ≡ [] → Appends held held' text
all_put held held' kept text p none = subst (λ (t : List ℕ). Appends held held' t) (sym (p.whole ∙ (ap (λ (t : List ℕ). p.written ++ t) none ∙ append-nil p.written))) p.holds

-- the same where nothing was still to be written
pub front_from : (held held' : Option (List ℕ)) (u text : List ℕ) → u ≡ [] → GainsFront held u held' text → GainsFront held [] held' text
front_from held held' u text none p = subst (λ (v : List ℕ). GainsFront held v held' text) none p

pub on_err_map : {T E : Type 0} (P Q : Type 0) → (P → Q) → (result : Result T E) → OnErr result P → OnErr result Q
on_err_map P Q f (Ok value) p = tt
on_err_map P Q f (Err error) p = f p

pub on_err : {T E : Type 0} {P : Type 0} (result : Result T E) → P → OnErr result P
on_err (Ok value) p = tt
on_err (Err error) p = p
