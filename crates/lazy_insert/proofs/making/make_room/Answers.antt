use Rattle.std.proofs.Common.{◌≡◌, ℕ, true, false, List, Option, Some, None, ap, sym, ◌∙◌, subst}
use Rattle.std.specs.Prelude.{MatchOption}
use Rattle.lazy_law.specs.Insertion.{fits_late, lacks_room, others_late}
use Rattle.lazy_store.specs.Displaced.{AreDisplaced}
use Rattle.lazy_store.specs.Tidying.{swept_whole, with_timely}
use Rattle.lazy_store.proofs.Results.{ok_on}
use Rattle.lazy_insert.specs.Inserted.{IsRoomy, is_full}
use Rattle.lazy_insert.proofs.Roomy.{full_then, roomy_then, roomy_there}
use Rattle.lazy_insert.proofs.making.make_room.Goals as goal

match_on : {T : Type 0} (A B : Type 0) (P Q : T → Type 0) → (A → B) → ((t : T) → P t → Q t) → (o : Option T) → MatchOption o A P → MatchOption o B Q
match_on A B P Q on each None m = on m
match_on A B P Q on each (Some t) m = each t m

pub returns-then-fits-clause-made : goal.returns-then-fits-clause-made
returns-then-fits-clause-made c =
    subst (λ (numbers : List ℕ). IsRoomy c.args.room c.args.size c.args.moment c.args.stale c.args.store.now c.args.store.now numbers) (sym c.new.ensures.items)
    (roomy_there c.args.room c.args.size c.args.moment c.args.stale c.args.store.now (sym c.fits.ensures ∙ c.if-fits.true))

pub returns-clause-made : goal.returns-clause-made
returns-clause-made c =
    let fits : fits_late c.args.room c.args.size (others_late c.args.stale c.args.store.now.objects) ≡ false = sym c.fits.ensures ∙ c.if-fits.false in
    let is : c.sweep_all.new.self ≡ swept_whole (with_timely c.args.moment c.args.store.now) = c.in_ok-sweep_all.ensures.ok ∙ ap swept_whole c.drop_ended.ensures in
    ok_on (λ out. MatchOption out (lacks_room c.args.room c.args.size (others_late c.args.stale c.sweep_all.new.self.objects) ≡ true)
    (λ numbers. AreDisplaced c.args.room c.args.size c.args.stale c.sweep_all.new.self.objects numbers.items))
    (λ out. MatchOption out (is_full c.args.room c.args.size c.args.moment c.args.stale c.args.store.now ≡ true)
    (λ numbers. IsRoomy c.args.room c.args.size c.args.moment c.args.stale c.args.store.now c.sweep_all.new.self numbers.items))
    (λ out m.
    match_on _ _ _ _ (λ lacks. full_then c.args.room c.args.size c.args.moment c.args.stale c.args.store.now c.sweep_all.new.self fits is lacks)
    (λ numbers gone. roomy_then c.args.room c.args.size c.args.moment c.args.stale c.args.store.now c.sweep_all.new.self numbers.items fits is gone) out m) c.least_out.result c.least_out.ensures
