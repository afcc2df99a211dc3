use Rattle.std.proofs.Common.{◌≡◌, List, ap, ◌∙◌}
use Rattle.lazy_law.specs.Placed.{Lazy, Placed}
use Rattle.lazy_lookup.specs.Marks.{marked_by, taken, used_in}
use Rattle.lazy_lookup.proofs.Takes.{marked_used}
use Rattle.lazy_lookup.proofs.taking.take.Goals as goal

pub returns : goal.returns
returns c =
    let done : c.apply.new.store ≡ taken c.args.used c.args.used_as c.args.marks.now c.args.store.now =
    c.apply.ensures ∙ ap (λ (lazy : Lazy). record lazy { objects = marked_by c.args.marks.now lazy.issued lazy.objects }) c.in_ok-use_one.ensures.ok
    ∙ ap (λ (objects : List Placed). record c.args.store.now { objects = objects }) (marked_used c.args.used c.args.used_as c.args.marks.now c.args.store.now.issued c.args.store.now.objects) in
    record {
      taken = done;
      looked = λ moment query are. done ∙ ap (λ (objects : List Placed). record c.args.store.now { objects = used_in c.args.used c.args.used_as objects }) are;
      err = tt;
    }
