use Rattle.std.proofs.Common.{rules, ap, ℕ, ◌≡◌, ◌+◌, ◌++◌, ◌∷◌, [], arith, length, refl, ◌∙◌}
use Rattle.std.proofs.lemmas.Bool.{false≢true}
use Rattle.std.specs.Vec.{vec_capacity}
use Rattle.cache_law.specs.Beginning.{Beginning}
use Rattle.cache_law.specs.History.{bytes_of, reached}
use Rattle.cache_frame.specs.Framed.{base_with}
use Rattle.cache_frame.specs.Shelves.{entry_of}
use Rattle.cache_frame.proofs.Results.{same_error}
use Rattle.cache_frame.proofs.Steps.{Made, Done, closing_frees, counted, entered, fits_at, fits_not, issues_left, kept_is_other, kept_too, later, legal_behind, made_stands, room_behind, sound_behind, still_within, tested_if_lost, untested_insertion}
use Rattle.cache_frame.specs.Asked.{is_untested}
use Rattle.cache_frame.proofs.framed.FramedCacheCore.step.Goals as goal

pub answer_within-answered-requires-clause-frees : goal.answer_within-answered-requires-clause-frees
answer_within-answered-requires-clause-frees g c =
    let beginning : Beginning = record { params = c.self.inside.params; base = base_with c.self.inside.base_desk.value (g.S.Shelf.stock c.self.inside.base_shelf.value) } in
    let made : Made g.S.Shelf.Stands = record {
      beginning = beginning;
      entries = c.self.inside.entries.items;
      room = vec_capacity c.self.inside.entries;
      used = c.self.inside.used;
      desk = c.self.inside.desk;
      shelf = c.self.inside.shelf;
      caller = c.args.caller;
      reading = c.args.reading;
      moment = c.max-moment.result;
      call = c.args.call;
      untested = is_untested c.in-Ok.fitted.asked;
      opens = c.in-Ok.fitted.closings;
      sound = c.self.invariant;
      waited = rw (← c.self.view_is) at c.requires.waited;
      at_ = search rules;
      fits = c.in-Ok.ensures.fits;
    } in
    closing_frees g.S.Shelf.Stands made

pub answer_within-answered-requires-clause-issues : goal.answer_within-answered-requires-clause-issues
answer_within-answered-requires-clause-issues g c =
    let beginning : Beginning = record { params = c.self.inside.params; base = base_with c.self.inside.base_desk.value (g.S.Shelf.stock c.self.inside.base_shelf.value) } in
    issues_left g.S.Shelf.Stands beginning c.self.inside.entries.items _ _ _ _ c.self.invariant _ (g.met.S.Shelf.counts c.self.inside.shelf beginning c.self.inside.entries.items c.self.invariant.shelf)

pub returns-in-Err-clause-full : goal.returns-in-Err-clause-full
returns-in-Err-clause-full g c =
    let beginning : Beginning = record { params = c.self.inside.params; base = base_with c.self.inside.base_desk.value (g.S.Shelf.stock c.self.inside.base_shelf.value) } in
    rw (← c.self.view_is) (λ full. fits_not g.S.Shelf.Stands beginning c.self.inside.entries.items _ _ _ _ c.self.invariant c.max-moment.result c.args.reading (search rules) c.args.caller c.args.call (c.in-Err.ensures.full (same_error _ _ _ c.given_up-in-Err.ensures full)))

pub returns-in-Err-clause-kept : goal.returns-in-Err-clause-kept
returns-in-Err-clause-kept g c =
    let beginning : Beginning = record { params = c.self.inside.params; base = base_with c.self.inside.base_desk.value (g.S.Shelf.stock c.self.inside.base_shelf.value) } in
    rw (← c.self.view_is) (λ kept no_memory. c.in-Err.ensures.wanting (kept_is_other (reached beginning c.self.inside.entries.items) c.args.caller c.args.call kept) (same_error _ _ _ c.given_up-in-Err.ensures no_memory))

pub returns-in-Err-clause-wanting : goal.returns-in-Err-clause-wanting
returns-in-Err-clause-wanting g c = rw (← c.self.view_is) (λ other no_memory. absurd (c.in-Err.ensures.wanting other (same_error _ _ _ c.given_up-in-Err.ensures no_memory)))

pub returns-in-Err-answered-clause-kept : goal.returns-in-Err-answered-clause-kept
returns-in-Err-answered-clause-kept g c =
    let beginning : Beginning = record { params = c.self.inside.params; base = base_with c.self.inside.base_desk.value (g.S.Shelf.stock c.self.inside.base_shelf.value) } in
    let made : Made g.S.Shelf.Stands = record {
      beginning = beginning;
      entries = c.self.inside.entries.items;
      room = vec_capacity c.self.inside.entries;
      used = c.self.inside.used;
      desk = c.self.inside.desk;
      shelf = c.self.inside.shelf;
      caller = c.args.caller;
      reading = c.args.reading;
      moment = c.max-moment.result;
      call = c.args.call;
      untested = is_untested c.in-Ok.fitted.asked;
      opens = c.in-Ok.fitted.closings;
      sound = c.self.invariant;
      waited = rw (← c.self.view_is) at c.requires.waited;
      at_ = search rules;
      fits = c.in-Ok.ensures.fits;
    } in
    rw (← c.self.view_is) (λ kept no_memory. false≢true (c.in-Err-answered.ensures.kept (kept_too g.S.Shelf.Stands made kept)))

pub returns-in-Err-answered-clause-wanting : goal.returns-in-Err-answered-clause-wanting
returns-in-Err-answered-clause-wanting g c =
    let beginning : Beginning = record { params = c.self.inside.params; base = base_with c.self.inside.base_desk.value (g.S.Shelf.stock c.self.inside.base_shelf.value) } in
    let made : Made g.S.Shelf.Stands = record {
      beginning = beginning;
      entries = c.self.inside.entries.items;
      room = vec_capacity c.self.inside.entries;
      used = c.self.inside.used;
      desk = c.self.inside.desk;
      shelf = c.self.inside.shelf;
      caller = c.args.caller;
      reading = c.args.reading;
      moment = c.max-moment.result;
      call = c.args.call;
      untested = is_untested c.in-Ok.fitted.asked;
      opens = c.in-Ok.fitted.closings;
      sound = c.self.invariant;
      waited = rw (← c.self.view_is) at c.requires.waited;
      at_ = search rules;
      fits = c.in-Ok.ensures.fits;
    } in
    let tested = tested_if_lost g.S.Shelf.Stands made (λ kept. false≢true (c.in-Err-answered.ensures.kept kept)) (untested_insertion g.S.Shelf.Stands g.S.Shelf.IsMarked made.desk made.shelf made.moment made.caller made.call c.in-Ok.fitted.asked c.in-Ok.ensures.found) in
    rw (← c.self.view_is) (λ other no_memory. fits_at g.S.Shelf.Stands made tested)

pub invariant_of-self : goal.invariant_of-self
invariant_of-self g c =
    rw (c.in-Err-answered.ensures.desk, c.answer_within-answered.ensures.same)
    (still_within g.S.Shelf.Stands _ _ _ _ _ _ _ _ c.self.invariant (c.in-Err-answered.ensures.shelf _ _) c.answer_within-answered.ensures.larger)

pub invariant_of-self-2 : goal.invariant_of-self-2
invariant_of-self-2 g c =
    let beginning : Beginning = record { params = c.self.inside.params; base = base_with c.self.inside.base_desk.value (g.S.Shelf.stock c.self.inside.base_shelf.value) } in
    let made : Made g.S.Shelf.Stands = record {
      beginning = beginning;
      entries = c.self.inside.entries.items;
      room = vec_capacity c.self.inside.entries;
      used = c.self.inside.used;
      desk = c.self.inside.desk;
      shelf = c.self.inside.shelf;
      caller = c.args.caller;
      reading = c.args.reading;
      moment = c.max-moment.result;
      call = c.args.call;
      untested = is_untested c.in-Ok.fitted.asked;
      opens = c.in-Ok.fitted.closings;
      sound = c.self.invariant;
      waited = rw (← c.self.view_is) at c.requires.waited;
      at_ = search rules;
      fits = c.in-Ok.ensures.fits;
    } in
    let done : Done g.S.Shelf.Stands made = record { new = c.answer_within-answered.new.desk; kept = c.answer_within-answered.new.shelf; answer = c.in-Ok-answered.answer; joined = c.in-Ok-answered.ensures.ok beginning c.self.inside.entries.items refl (made_stands g.S.Shelf.Stands made) (later g.S.Shelf.Stands made); refuses = c.in-Ok-answered.ensures.refuses } in
    let bytes : c.entry_bytes.result ≡ bytes_of c.args.call = omega (arith, made.fits.within.0) in
    let items : c.push_within_room.new.entries.items ≡ c.self.inside.entries.items ++ entry_of c.args.caller c.max-moment.result c.args.call c.in-Ok-answered.answer.kept ∷ [] = search rules in
    let room = room_behind g.S.Shelf.Stands made done _ _ (vec_capacity c.answer_within-answered.new.entries) (vec_capacity c.push_within_room.new.entries) c.in-Ok-answered.ensures.left (ap length c.answer_within-answered.ensures.same) refl c.push_within_room.ensures.room c.answer_within-answered.ensures.larger in
    let counts : c.set_entries.new.self ≡ counted g.S.Shelf.Stands made done = c.set_entries.ensures ∙ ap (λ (n : ℕ). record c.answer_within-answered.new.desk { entries = n + 1 }) c.entries-entries.ensures in
    rw (items, bytes, counts) (sound_behind g.S.Shelf.Stands made done (vec_capacity c.push_within_room.new.entries) room)

pub returns-clause-told : goal.returns-clause-told
returns-clause-told g c =
    let beginning : Beginning = record { params = c.self.inside.params; base = base_with c.self.inside.base_desk.value (g.S.Shelf.stock c.self.inside.base_shelf.value) } in
    let made : Made g.S.Shelf.Stands = record {
      beginning = beginning;
      entries = c.self.inside.entries.items;
      room = vec_capacity c.self.inside.entries;
      used = c.self.inside.used;
      desk = c.self.inside.desk;
      shelf = c.self.inside.shelf;
      caller = c.args.caller;
      reading = c.args.reading;
      moment = c.max-moment.result;
      call = c.args.call;
      untested = is_untested c.in-Ok.fitted.asked;
      opens = c.in-Ok.fitted.closings;
      sound = c.self.invariant;
      waited = rw (← c.self.view_is) at c.requires.waited;
      at_ = search rules;
      fits = c.in-Ok.ensures.fits;
    } in
    let done : Done g.S.Shelf.Stands made = record { new = c.answer_within-answered.new.desk; kept = c.answer_within-answered.new.shelf; answer = c.in-Ok-answered.answer; joined = c.in-Ok-answered.ensures.ok beginning c.self.inside.entries.items refl (made_stands g.S.Shelf.Stands made) (later g.S.Shelf.Stands made); refuses = c.in-Ok-answered.ensures.refuses } in
    let bytes : c.entry_bytes.result ≡ bytes_of c.args.call = omega (arith, made.fits.within.0) in
    let items : c.push_within_room.new.entries.items ≡ c.self.inside.entries.items ++ entry_of c.args.caller c.max-moment.result c.args.call c.in-Ok-answered.answer.kept ∷ [] = search rules in
    rw (← c.self.view_is, items) (entered g.S.Shelf.Stands made done c.len-place.result (search rules))

pub returns-clause-legal : goal.returns-clause-legal
returns-clause-legal g c =
    let beginning : Beginning = record { params = c.self.inside.params; base = base_with c.self.inside.base_desk.value (g.S.Shelf.stock c.self.inside.base_shelf.value) } in
    let made : Made g.S.Shelf.Stands = record {
      beginning = beginning;
      entries = c.self.inside.entries.items;
      room = vec_capacity c.self.inside.entries;
      used = c.self.inside.used;
      desk = c.self.inside.desk;
      shelf = c.self.inside.shelf;
      caller = c.args.caller;
      reading = c.args.reading;
      moment = c.max-moment.result;
      call = c.args.call;
      untested = is_untested c.in-Ok.fitted.asked;
      opens = c.in-Ok.fitted.closings;
      sound = c.self.invariant;
      waited = rw (← c.self.view_is) at c.requires.waited;
      at_ = search rules;
      fits = c.in-Ok.ensures.fits;
    } in
    let done : Done g.S.Shelf.Stands made = record { new = c.answer_within-answered.new.desk; kept = c.answer_within-answered.new.shelf; answer = c.in-Ok-answered.answer; joined = c.in-Ok-answered.ensures.ok beginning c.self.inside.entries.items refl (made_stands g.S.Shelf.Stands made) (later g.S.Shelf.Stands made); refuses = c.in-Ok-answered.ensures.refuses } in
    let bytes : c.entry_bytes.result ≡ bytes_of c.args.call = omega (arith, made.fits.within.0) in
    let items : c.push_within_room.new.entries.items ≡ c.self.inside.entries.items ++ entry_of c.args.caller c.max-moment.result c.args.call c.in-Ok-answered.answer.kept ∷ [] = search rules in
    rw (← c.self.view_is, items) (legal_behind _ _ _ _ _ _ _ (entered g.S.Shelf.Stands made done _ refl))
