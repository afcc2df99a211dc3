-- What a purge leaves.
use Rattle.std.specs.Prelude.{Bool}
use Rattle.lazy_law.specs.Placed.{Lazy, Placed}
use Rattle.lazy_law.specs.Purging.{without_late}

-- the objects that pass the test are gone
abbrev pub purged : (Placed → Bool) → Lazy → Lazy
purged test lazy = record lazy { objects = without_late test lazy.objects }
