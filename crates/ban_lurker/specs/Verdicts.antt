-- What the lurker takes out of a cache, and what it finds (Varnish Users Guide, "Purging and banning", on the ban lurker).
use Rattle.std.specs.Prelude.{◌≡◌, ◌≤◌, ◌<◌, ℕ, Bool, ◌&&◌, nat_le, List, Some, filter, length}
use Rattle.std.specs.List.{list_any}
use Rattle.cache_law.specs.declared.object.Object.{Object}
use Rattle.cache_law.specs.declared.ban.Issued.{Issued}
use Rattle.cache_law.specs.declared.call.Entry.{Entry}
use Rattle.cache_law.specs.Bans.{matches}
use Rattle.cache_law.specs.Beginning.{Beginning}
use Rattle.cache_law.specs.History.{reached}
use Rattle.ban_lurker.specs.declared.chore.Chore.{Chore}
use Rattle.ban_lurker.specs.declared.chore.Verdict.{Verdict}
use Rattle.ban_lurker.specs.Looks.{is_above, look_of}

-- the ban looks at objects alone, and is newer than the mark and no newer than the other number
abbrev pub is_between : ℕ → ℕ → Issued → Bool
is_between mark upto issued = is_above mark issued && nat_le issued.number upto

abbrev pub between : ℕ → ℕ → List Issued → List Issued
between mark upto bans = filter (is_between mark upto) bans

-- The verdict is of the history: it is on bans that were issued, on one at least, and says whether one of them matches the object
-- as it looks at the mark.
pub record IsVerdictOf (beginning : Beginning) (entries : List Entry) (verdict : Verdict) : Type 0 where
  pub issued : verdict.upto ≤ (reached beginning entries).issued
  pub some : 0 < length (between verdict.mark verdict.upto (reached beginning entries).bans)
  pub object : Object
  pub looks : look_of beginning entries verdict.object verdict.mark ≡ Some object
  pub dead : verdict.dead ≡ list_any (matches object) (between verdict.mark verdict.upto (reached beginning entries).bans)

-- The chore is of the history: it has the object as it looks at the mark, and bans of which one matches it exactly where one of
-- those does that were issued behind the mark up to the number.
pub record IsChoreOf (beginning : Beginning) (entries : List Entry) (chore : Chore) : Type 0 where
  pub issued : chore.upto ≤ (reached beginning entries).issued
  pub some : 0 < length (between chore.mark chore.upto (reached beginning entries).bans)
  pub looks : look_of beginning entries chore.object chore.mark ≡ Some chore.view.object
  pub bans : list_any (matches chore.view.object) chore.bans ≡ list_any (matches chore.view.object) (between chore.mark chore.upto (reached beginning entries).bans)

-- what is found of a chore
abbrev pub judged : Chore → Verdict
judged chore =
    record { object = chore.object; mark = chore.mark; upto = chore.upto; dead = list_any (matches chore.view.object) chore.bans }
