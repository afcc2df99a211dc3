-- A cache that was just opened may begin a run.
use Rattle.std.proofs.Common.{ap}
use Rattle.turnstile.specs.Handles.{known}
use Rattle.shared_cache.specs.Sharing.{CallerKnows}
use Rattle.crew.specs.Opening.{IsFirst}
use Rattle.crew.proofs.running.serve_counted.Goals as goal

pub open_all-requires-clause-whole : goal.open_all-requires-clause-whole
open_all-requires-clause-whole g c = record { legal = c.requires.can_begin.legal; unsegmented = c.requires.can_begin.unsegmented }

pub open_all-requires-clause-first : goal.open_all-requires-clause-first
open_all-requires-clause-first g c = c.requires.can_begin.first

pub run_all-requires-clause-first : goal.run_all-requires-clause-first
run_all-requires-clause-first g c =
    let given : IsFirst (known c.in-Some.all.1) = record {
      beginning = g.C.CacheCore.beginning c.args.core;
      knows = c.in-Some.ensures.first;
      can_begin = c.requires.can_begin;
    } in
    search given

pub returns-clause-ran : goal.returns-clause-ran
returns-clause-ran g c = c.run_all.ensures.ran (g.C.CacheCore.beginning c.args.core) (ap (λ (k : CallerKnows). k.setting) c.in-Some.ensures.first)
