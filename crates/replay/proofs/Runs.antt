-- Runs, one after another.
use Rattle.std.proofs.Common.{◌≡◌, ℕ, List, [], ◌∷◌, ◌++◌, refl, sym, ◌∙◌, ap, subst, append_assoc}
use Rattle.std.proofs.lemmas.List.{append-nil}
use Rattle.std.specs.List.{flat_map}
use Rattle.cache_law.specs.declared.call.Entry.{Entry}
use Rattle.replay.specs.declared.event.Event.{Event}
use Rattle.replay.specs.Plan.{Plan}
use Rattle.replay.specs.Scene.{Scene, Move, events_of, entries_of, text_of, Next, Path, Run}
use Rattle.replay.specs.Went.{Went}

pub flat_map-append : {X A : Type 0} (f : X → List A) (xs ys : List X) → flat_map f (xs ++ ys) ≡ flat_map f xs ++ flat_map f ys
flat_map-append f [] ys = refl
flat_map-append f (x ∷ xs) ys = ap (λ zs. f x ++ zs) (flat_map-append f xs ys) ∙ sym (append_assoc (f x) (flat_map f xs) (flat_map f ys))

module _ (plan : Plan) where
  path-append : (one two three : Scene) (ms ns : List Move) → Path plan one ms two → Path plan two ns three → Path plan one (ms ++ ns) three
  path-append one two three [] ns p q = subst (λ (s : Scene). Path plan s ns three) (sym p) q
  path-append one two three (m ∷ ms) ns p q = (p.0, p.1, path-append p.0 two three ms ns p.2 q)

  pub run-here : (scene : Scene) → Run plan scene scene [] [] []
  run-here scene = record { moves = []; path = refl; reads = refl; enters = refl; writes = refl }

  pub run-one : (old new : Scene) (move : Move) → Next plan old move new → Run plan old new (events_of move) (entries_of move) (text_of move)
  run-one old new move next =
      record {
        moves = move ∷ [];
        path = (new, next, refl);
        reads = append-nil (events_of move);
        enters = append-nil (entries_of move);
        writes = append-nil (text_of move);
      }

  pub run-then : (one two three : Scene) (e1 e2 : List Event) (n1 n2 : List Entry) (x1 x2 : List ℕ) → Run plan one two e1 n1 x1 → Run plan two three e2 n2 x2 → Run plan one three (e1 ++ e2) (n1 ++ n2) (x1 ++ x2)
  run-then one two three e1 e2 n1 n2 x1 x2 r s =
      record {
        moves = r.moves ++ s.moves;
        path = path-append one two three r.moves s.moves r.path s.path;
        reads = flat_map-append events_of r.moves s.moves ∙ (ap (λ (xs : List Event). xs ++ flat_map events_of s.moves) r.reads ∙ ap (λ (ys : List Event). e1 ++ ys) s.reads);
        enters = flat_map-append entries_of r.moves s.moves ∙ (ap (λ (xs : List Entry). xs ++ flat_map entries_of s.moves) r.enters ∙ ap (λ (ys : List Entry). n1 ++ ys) s.enters);
        writes = flat_map-append text_of r.moves s.moves ∙ (ap (λ (xs : List ℕ). xs ++ flat_map text_of s.moves) r.writes ∙ ap (λ (ys : List ℕ). x1 ++ ys) s.writes);
      }

  -- nothing has happened yet
  pub went-here : (scene : Scene) (history : List Entry) (H : Scene → List ℕ → Type 0) → H scene [] → Went plan scene [] history history H
  went-here scene history H h = record { scene = scene; entries = []; text = []; run = run-here scene; history = sym (append-nil history); fact = h }

  -- nothing was entered
  pub went-still : (scene : Scene) (before now : List Entry) (H : Scene → List ℕ → Type 0) → now ≡ before → H scene [] → Went plan scene [] before now H
  went-still scene before now H same h = record { scene = scene; entries = []; text = []; run = run-here scene; history = same ∙ sym (append-nil before); fact = h }

  -- one move
  pub went-one : (old new : Scene) (move : Move) (before now : List Entry) (H : Scene → List ℕ → Type 0) → Next plan old move new → now ≡ before ++ entries_of move → H new (text_of move) → Went plan old (events_of move) before now H
  went-one old new move before now H next joined h =
      record { scene = new; entries = entries_of move; text = text_of move; run = run-one old new move next; history = joined; fact = h }

  -- one part, and another from where it led
  pub went-at : (old : Scene) (e1 e2 : List Event) (before mid now : List Entry) (H H' : Scene → List ℕ → Type 0) (w : Went plan old e1 before mid H) → Went plan w.scene e2 mid now (λ next more. H' next (w.text ++ more)) → Went plan old (e1 ++ e2) before now H'
  went-at old e1 e2 before mid now H H' w n =
      record {
        scene = n.scene;
        entries = w.entries ++ n.entries;
        text = w.text ++ n.text;
        run = run-then old w.scene n.scene e1 e2 w.entries n.entries w.text n.text w.run n.run;
        history = n.history ∙ (ap (λ (es : List Entry). es ++ n.entries) w.history ∙ append_assoc before w.entries n.entries);
        fact = n.fact;
      }

  pub went-then : (old : Scene) (e1 e2 : List Event) (before mid now : List Entry) (H H' : Scene → List ℕ → Type 0) → Went plan old e1 before mid H → ((scene : Scene) (text : List ℕ) → H scene text → Went plan scene e2 mid now (λ next more. H' next (text ++ more))) → Went plan old (e1 ++ e2) before now H'
  went-then old e1 e2 before mid now H H' w f = went-at old e1 e2 before mid now H H' w (f w.scene w.text w.fact)

  -- the same way, of which more is known
  pub went-map : (old : Scene) (read : List Event) (before now : List Entry) (H H' : Scene → List ℕ → Type 0) → ((scene : Scene) (text : List ℕ) → H scene text → H' scene text) → Went plan old read before now H → Went plan old read before now H'
  went-map old read before now H H' f w = record { scene = w.scene; entries = w.entries; text = w.text; run = w.run; history = w.history; fact = f w.scene w.text w.fact }
