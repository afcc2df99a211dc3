use Rattle.std.proofs.Common.{rules, refl, arith, ◌≡◌, false}
use Rattle.cache_law.specs.Vcls.{is_taken}
use Rattle.cache_desk.specs.Desk.{bare}
use Rattle.cache_desk.specs.contracts.desk.Desk.{the_view}
use Rattle.cache_desk.proofs.Replies.{name_taken, loads, loads_below}
use Rattle.cache_desk.proofs.desk.Desk.load.Goals as goal

pub returns-then-is_taken-clause-ok : goal.returns-then-is_taken-clause-ok
returns-then-is_taken-clause-ok c = rw (← c.self.view_is) (name_taken (bare (the_view c.self.inside)) _ _ _ (search rules) refl refl)

pub overflow_cast-number : goal.overflow_cast-number
overflow_cast-number c =
    let free : is_taken c.args.source.now.name c.self.inside.vcls.items ≡ false = search rules in
    omega (arith, loads_below (bare (the_view c.self.inside)) c.args.moment c.args.source.now free (rw (← c.self.view_is) at c.requires))

pub returns-clause-ok : goal.returns-clause-ok
returns-clause-ok c = rw (← c.self.view_is) (loads (bare (the_view c.self.inside)) c.args.source.now c.args.moment c.self.inside.next_vcl c.in_ok-vcl.vcl _ _ (search rules) refl (search rules) (search rules) refl refl)
