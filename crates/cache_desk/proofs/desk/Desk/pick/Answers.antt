use Rattle.std.proofs.Common.{rules, ◌≡◌, ℕ, Option, None, subst}
use Rattle.cache_law.specs.declared.call.Call.TheVariants.{Pick}
use Rattle.cache_law.specs.State.{at_moment}
use Rattle.cache_law.specs.Targets.{chosen}
use Rattle.cache_law.specs.Law.{picked_at}
use Rattle.cache_desk.specs.Desk.{bare}
use Rattle.cache_desk.specs.Answers.{Answers}
use Rattle.cache_desk.proofs.desk.Desk.pick.Goals as goal

pub returns-in-None-clause-ok : goal.returns-in-None-clause-ok
returns-in-None-clause-ok c =
    let none : None ≡ chosen c.args.self.now.health c.args.self.now.counters c.args.vcl c.args.target.now c.args.word = search rules in
    subst (λ (place : Option ℕ). Answers (bare c.args.self.now) (bare c.pick_none.new.self) c.args.moment (Pick c.args.vcl c.args.target.now c.args.word) (picked_at (at_moment c.args.moment (bare c.args.self.now)) c.args.vcl c.args.target.now place) c.pick_none.result) none (c.pick_none.ensures c.args.vcl c.args.word c.args.target.now)
