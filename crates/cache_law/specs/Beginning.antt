-- Where a history begins.
use Rattle.std.specs.Prelude.{[], ◌∷◌, false, codes}
use Rattle.cache_law.specs.declared.setting.Params.{Params}
use Rattle.cache_law.specs.declared.setting.Boot.{Boot}
use Rattle.cache_law.specs.declared.vcl.Vcl.{Vcl}
use Rattle.cache_law.specs.State.{State}

-- the limits, and the state before the first entry
pub record Beginning : Type 0 where
  pub params : Params
  pub base : State

-- the opening VCL
abbrev pub boot_vcl : Boot → Vcl
boot_vcl boot = record { number = 1; name = codes "boot"; text = boot.text; backends = boot.backends }

-- a run's first state: nothing is stored or open, and the opening VCL, number 1 and named `boot`, is active
abbrev pub base_of : Boot → State
base_of boot =
    record {
      entries = 0;
      issued = 0;
      moment = 0;
      next = 1;
      next_vcl = 2;
      active = boot_vcl boot;
      vcls = record { vcl = boot_vcl boot; is_discarded = false } ∷ [];
      counters = [];
      health = [];
      bans = [];
      objects = [];
      fetches = [];
      rounds = [];
    }

-- the beginning of a run with these limits and this opening VCL
abbrev pub beginning_of : Params → Boot → Beginning
beginning_of params boot = record { params = params; base = base_of boot }
