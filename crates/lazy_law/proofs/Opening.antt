-- Nothing that is kept stands for a history that begins with nothing.
use Rattle.std.proofs.Common.{◌≡◌, [], refl, ap}
use Rattle.cache_law.specs.Beginning.{Beginning}
use Rattle.ban_lurker.specs.Looks.{held_under}
use Rattle.lazy_law.specs.Placed.{nothing_kept}
use Rattle.lazy_law.specs.Stands.{IsKept}
use Rattle.lazy_law.specs.Standing.{StandsAt}
use Rattle.lazy_law.proofs.Staying.{standing, stands_by}

nothing_is_right : IsKept nothing_kept []
nothing_is_right = record { falling = tt; listed = record { part = tt; completed = tt }; within = tt; agrees = tt }

pub nothing_stands : (beginning : Beginning) → beginning.base.issued ≡ 0 → beginning.base.bans ≡ [] → beginning.base.objects ≡ [] → StandsAt nothing_kept beginning []
nothing_stands beginning issued bans objects =
    record {
      stands = stands_by nothing_kept beginning.base.moment 0 beginning.base.issued [] beginning.base.bans [] beginning.base.objects issued bans objects
          (standing nothing_kept beginning.base.moment 0 [] [] refl nothing_is_right refl);
      looks = tt;
      unborn = λ number unborn mark. ap (held_under number) objects;
    }
