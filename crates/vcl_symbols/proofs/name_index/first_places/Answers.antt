use Rattle.std.proofs.Common.{ℕ, List, [], ◌∷◌, ◌++◌, map, take, get_or, subst, sym, ◌∙◌}
use Rattle.std.specs.BTreeMap.{BTreeMap}
use Rattle.vcl_symbols.specs.Names.{FindsFirst}
use Rattle.vcl_symbols.proofs.NameLemmas.{FindsFirst-kept, FindsFirst-added, now_more, now_count}
use Rattle.vcl_symbols.proofs.name_index.first_places.Goals as goal
use Rattle.vcl_symbols.proofs.name_index.first_places.Goals.{then-not-contains_key+in_ok-insert, else-not-contains_key}
use denote.Ref.{Bor}

pub loop-place-preserved : goal.loop-place-preserved
loop-place-preserved c =
    let d : Bor (List ℕ) = record { ref_ptr = (0, 0); now = [] } in
    let more = now_more c.args.names.now c.loop-place.place d c.loop-place-test.true in
    let names : List (List ℕ) = map (λ name. name.now) (take c.loop-place.place c.args.names.now) ++ (get_or c.args.names.now c.loop-place.place d).now ∷ [] in
    let P : BTreeMap (Bor (List ℕ)) ℕ → Type 0 = λ places. FindsFirst places names in
    let found : FindsFirst c.if-not-contains_key.places names =
    elim c.if-not-contains_key.branch [
      | then-not-contains_key+in_ok-insert w ↦ subst P (sym w.places-is) (FindsFirst-added c.loop-place.places w.insert.new.self _ _ c.loop-place.place c.loop-place.invariant (sym c.contains_key.ensures ∙ w.if-not-contains_key.true) w.in_ok-insert.ensures.updates (now_count c.args.names.now c.loop-place.place c.loop-place-test.true))
      | else-not-contains_key w ↦ subst P (sym w.places-is) (FindsFirst-kept c.loop-place.places _ _ c.loop-place.invariant (sym c.contains_key.ensures ∙ w.if-not-contains_key.false))
    ]
    in rw more found
