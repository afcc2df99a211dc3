-- What a history owes of its numbers: each is drawn once.
use Rattle.std.specs.Prelude.{ℕ, Option, Some, None}
use Rattle.cache_law.specs.declared.call.Reply.{Reply}
use Rattle.cache_law.specs.declared.call.Reply.TheVariants.{Began, Drawn, HitMiss, Grace, Miss}

-- the number that a reply says was drawn for it
abbrev pub drawn_in : Reply → Option ℕ
drawn_in (Began number vcl text) = Some number
drawn_in (Drawn number) = Some number
drawn_in (HitMiss token) = Some token
drawn_in (Grace view token) = token
drawn_in (Miss token stale) = Some token
drawn_in reply = None
