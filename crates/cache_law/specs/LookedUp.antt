-- What a history owes of its lookups: each answer of a lookup stands where the law gives it.
use Rattle.std.specs.Prelude.{◌≡◌, Bool, true, false}
use Rattle.cache_law.specs.declared.call.Query.{Query}
use Rattle.cache_law.specs.declared.call.Call.TheVariants.{Lookup}
use Rattle.cache_law.specs.declared.call.Reply.{Reply}
use Rattle.cache_law.specs.declared.call.Reply.TheVariants.{Hit, HitMiss, HitPass, Grace, Wait, Miss}
use Rattle.cache_law.specs.declared.call.Entry.{Entry}
use Rattle.cache_law.specs.State.{State, at_moment}
use Rattle.cache_law.specs.Law.{looked_up}

-- the reply says what a lookup found, or that it found nothing
abbrev pub says_found : Reply → Bool
says_found (Hit view) = true
says_found (HitMiss token) = true
says_found HitPass = true
says_found (Grace view token) = true
says_found (Wait token) = true
says_found (Miss token stale) = true
says_found reply = false

-- the entry is a lookup, and has the reply that a lookup gives in the state at the entry's moment
pub record IsLookedUp (state : State) (entry : Entry) : Type 0 where
  pub query : Query
  pub called : entry.call ≡ Lookup query
  pub looked : entry.reply ≡ (looked_up (at_moment entry.moment state) entry.caller query).reply
