-- What becomes of the objects in memory when a ban is issued.
use Rattle.std.specs.Prelude.{ℕ, Bool, List, [], ◌&&◌, nat_lt, None, map, if◌then◌else◌}
use Rattle.std.specs.List.{list_any}
use Rattle.cache_law.specs.declared.ban.Issued.{Issued}
use Rattle.cache_law.specs.declared.ban.Ban.{Ban}
use Rattle.cache_law.specs.Object.{in_time}
use Rattle.cache_law.specs.Bans.{ban_matches, object_only}
use Rattle.flat_core.specs.declared.stored_object.StoredObject.{StoredObject}
use Rattle.flat_core.specs.StoredObject.{is_waiting}
use Rattle.flat_core.specs.declared.stored_object.Fate.{Fate}
use Rattle.flat_core.specs.declared.stored_object.Fate.TheVariants.{Stays, Goes}

-- what becomes of an object when a ban is issued that looks at objects alone
abbrev pub banned_fate : ℕ → Ban → StoredObject → Fate
banned_fate now ban kept = if in_time now kept.view.object && ban_matches ban now kept.view.object None then Goes else Stays

-- any other ban waits
abbrev pub ban_fates : ℕ → Ban → List StoredObject → List Fate
ban_fates now ban objects = if object_only ban then map (banned_fate now ban) objects else []

-- the ban waits for one of the objects
abbrev pub is_needed : List StoredObject → Issued → Bool
is_needed objects ban = is_waiting ban && list_any (λ kept. nat_lt kept.tested ban.number) objects
