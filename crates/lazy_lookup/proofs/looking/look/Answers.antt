use Rattle.std.proofs.Common.{◌≡◌, ℕ, List, ap, ◌∙◌}
use Rattle.lazy_law.specs.Purging.{is_of_key}
use Rattle.lazy_store.specs.Numbered.{numbers_where}
use Rattle.lazy_store.proofs.Results.{ok_on}
use Rattle.lazy_lookup.specs.Marks.{AreMarksOf, scan_of}
use Rattle.lazy_lookup.specs.Sights.{seen_all}
use Rattle.lazy_lookup.proofs.Scans.{seen_is}
use Rattle.lazy_lookup.proofs.looking.look.Goals as goal

pub returns-clause-fresh : goal.returns-clause-fresh
returns-clause-fresh c =
    ok_on (λ seen. seen ≡ seen_all c.args.moment c.args.query.now c.args.store.now _) (λ seen. seen.fresh ≡ (scan_of c.args.moment c.args.query.now c.args.store.now).fresh)
    (λ seen is.
    (seen_is c.args.moment c.args.query.now c.args.store.now _ seen c.in_ok-numbers.ensures.apart (c.deref.ensures.value ∙ c.in_ok-numbers.ensures.found ∙ ap (λ (key : List (List ℕ)). numbers_where (is_of_key key) c.args.store.now.objects) c.as_slice.ensures) is).fresh) c.look_at_all.result c.look_at_all.ensures

pub returns-clause-grace : goal.returns-clause-grace
returns-clause-grace c =
    ok_on (λ seen. seen ≡ seen_all c.args.moment c.args.query.now c.args.store.now _) (λ seen. seen.grace ≡ (scan_of c.args.moment c.args.query.now c.args.store.now).grace)
    (λ seen is.
    (seen_is c.args.moment c.args.query.now c.args.store.now _ seen c.in_ok-numbers.ensures.apart (c.deref.ensures.value ∙ c.in_ok-numbers.ensures.found ∙ ap (λ (key : List (List ℕ)). numbers_where (is_of_key key) c.args.store.now.objects) c.as_slice.ensures) is).grace) c.look_at_all.result c.look_at_all.ensures

pub returns-clause-stale : goal.returns-clause-stale
returns-clause-stale c =
    ok_on (λ seen. seen ≡ seen_all c.args.moment c.args.query.now c.args.store.now _) (λ seen. seen.stale ≡ (scan_of c.args.moment c.args.query.now c.args.store.now).stale)
    (λ seen is.
    (seen_is c.args.moment c.args.query.now c.args.store.now _ seen c.in_ok-numbers.ensures.apart (c.deref.ensures.value ∙ c.in_ok-numbers.ensures.found ∙ ap (λ (key : List (List ℕ)). numbers_where (is_of_key key) c.args.store.now.objects) c.as_slice.ensures) is).stale) c.look_at_all.result c.look_at_all.ensures

pub returns-clause-marks : goal.returns-clause-marks
returns-clause-marks c =
    ok_on (λ seen. seen ≡ seen_all c.args.moment c.args.query.now c.args.store.now _) (λ seen. AreMarksOf c.args.moment c.args.query.now c.args.store.now seen.marks)
    (λ seen is.
    (seen_is c.args.moment c.args.query.now c.args.store.now _ seen c.in_ok-numbers.ensures.apart (c.deref.ensures.value ∙ c.in_ok-numbers.ensures.found ∙ ap (λ (key : List (List ℕ)). numbers_where (is_of_key key) c.args.store.now.objects) c.as_slice.ensures) is).marks) c.look_at_all.result c.look_at_all.ensures
