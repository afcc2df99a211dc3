-- A history may begin again in a base that is alike to what a legal history reaches.
use Rattle.std.proofs.Common.{List, [], length, arith, ap}
use Rattle.cache_law.specs.declared.call.Entry.{Entry}
use Rattle.cache_law.specs.declared.setting.Params.{Params}
use Rattle.cache_law.specs.State.{State}
use Rattle.cache_law.specs.History.{Legal, reached}
use Rattle.cache_law.specs.Bases.{AreAlike, IsBase}
use Rattle.cache_law.specs.Segments.{from}
use Rattle.cache_law.proofs.Reserve.{counted}

pub legal_again : (params : Params) (base next : State) (entries : List Entry) → Legal (from params base) entries → IsBase next → AreAlike next (reached (from params base) entries) → Legal (from params next) []
legal_again params base next entries legal is alike =
    let rounds = ap length is.closed.rounds in
    let fetches = ap length is.closed.fetches in
    let same = ap (λ (s : State). s.entries) alike.rest in
    record {
      opens = omega (arith, rounds, fetches);
      counts = omega (arith, rounds, fetches, same, counted (from params base) entries legal);
      follow = tt;
      within = tt;
    }
