-- What the words of a line say, and where they say no more.
use Rattle.std.specs.Prelude.{◌≡◌, ⊤, ℕ, ℤ, zero, suc, pos, ◌-◌, ◌==◌, nat_lt, ◌^◌, Bool, true, false, List, [], ◌∷◌, length, drop, Option, Some, None, Result, Ok, Err, codes, if◌then◌else◌}
use Rattle.std.specs.Str.{bytes_eq}
use Rattle.directors.specs.declared.director.DirectorKind.{DirectorKind}
use Rattle.directors.specs.declared.director.DirectorKind.TheVariants.{One, RoundRobin, Fallback, Random, Hash}
use Rattle.directors.specs.declared.target.Member.{Member}
use Rattle.directors.specs.declared.target.Target.{Target}
use Rattle.freshness.specs.declared.times.Timing.{Timing}
use Rattle.http_heads.specs.declared.fields.Field.{Field}
use Rattle.cache_law.specs.declared.ban.Ban.{Ban as BanWords}
use Rattle.cache_law.specs.declared.call.Call.{Call}
use Rattle.cache_law.specs.declared.call.Call.TheVariants.{Begin, Draw, Lookup, Pick, Insert, Ban, BanList, Purge, Xkey, SetHealth, Load, Switch, Discard, VclList, Drop, End}
use Rattle.cache_law.specs.declared.call.Options.{Options}
use Rattle.cache_law.specs.declared.call.Query.{Query}
use Rattle.cache_law.specs.declared.object.Content.{Content}
use Rattle.cache_law.specs.declared.object.Marker.{Marker}
use Rattle.cache_law.specs.declared.object.Object.{Object}
use Rattle.cache_law.specs.declared.object.Object.TheVariants.{Ordinary, HitForMiss, HitForPass}
use Rattle.cache_law.specs.declared.object.VaryItem.{VaryItem}
use Rattle.cache_law.specs.declared.vcl.Health.{Health}
use Rattle.cache_law.specs.declared.vcl.Health.TheVariants.{Auto, Healthy, Sick}
use Rattle.cache_law.specs.declared.vcl.VclLine.{VclLine}
use Rattle.cache_law.specs.declared.vcl.VclSource.{VclSource}
use Rattle.cache_law.specs.declared.vcl.VclState.{VclState}
use Rattle.cache_law.specs.declared.vcl.VclState.TheVariants as vcl
use Rattle.journal_text.specs.declared.line.First.{First}
use Rattle.journal_text.specs.declared.line.Line.{Line}
use Rattle.journal_text.specs.declared.line.Line.TheVariants as line
use Rattle.journal_text.specs.declared.line.Said.{Said}
use Rattle.journal_text.specs.declared.shown.Shown.{Shown}
use Rattle.journal_text.specs.declared.shown.Shown.TheVariants as shown
use Rattle.journal_text.specs.declared.shown.ShownBan.{ShownBan}
use Rattle.journal_text.specs.declared.word.Word.{Word}
use Rattle.journal_text.specs.declared.word.Word.TheVariants.{Key, Long, Signed, Quoted}
use Rattle.journal_reader.specs.declared.fault.Halt.{Halt}
use Rattle.journal_reader.specs.declared.fault.Halt.TheVariants as halt
use Rattle.journal_reader.specs.declared.fault.Stop.{Stop}
use Rattle.journal_reader.specs.declared.fault.Wanted.{Wanted}
use Rattle.journal_reader.specs.declared.fault.Wanted.TheVariants as wanted
use Rattle.journal_reader.specs.declared.keys.ObjectKind.{ObjectKind}
use Rattle.journal_reader.specs.declared.keys.ObjectKind.TheVariants as objects
use Rattle.journal_reader.specs.declared.keys.NumberedReply.{NumberedReply}
use Rattle.journal_reader.specs.declared.keys.NumberedReply.TheVariants as numbered

-- what the first words say, and the words behind; or what is wanted where they say no more
abbrev pub Read : Type 0 → Type 0
Read X = Result (X × List Word) Stop

abbrev pub onward : {A B : Type 0} → (A → Result B Stop) → Result A Stop → Result B Stop
onward f (Ok a) = f a
onward f (Err stop) = Err stop

infixl 10 ◌>>=◌
abbrev pub ◌>>=◌ : {A B : Type 0} → Result A Stop → (A → Result B Stop) → Result B Stop
r >>= f = onward f r

-- something else is wanted here
abbrev pub stop : {X : Type 0} → Wanted → List Word → Read X
stop wanted words = Err (record { wanted = wanted; left = length words })

-- the key that stands first; no key is empty
unfoldable pub key_of : List Word → List ℕ
key_of (Key text ∷ rest) = text
key_of words = []

-- what the key that stands first names
unfoldable pub named : {X : Type 0} → Wanted → Option X → List Word → Read X
named wanted None words = stop wanted words
named wanted (Some x) words = Ok (x, drop 1 words)

unfoldable pub long_at : List Word → Read ℕ
long_at (Long n ∷ rest) = Ok (n, rest)
long_at words = stop wanted.Number words

unfoldable pub middle_at : List Word → Read ℕ
middle_at (Long n ∷ rest) = if nat_lt n (2 ^ 32) then Ok (n, rest) else stop wanted.Middle (Long n ∷ rest)
middle_at words = stop wanted.Middle words

unfoldable pub short_at : List Word → Read ℕ
short_at (Long n ∷ rest) = if nat_lt n (2 ^ 16) then Ok (n, rest) else stop wanted.Short (Long n ∷ rest)
short_at words = stop wanted.Short words

unfoldable pub signed_at : Wanted → List Word → Read ℤ
signed_at wanted (Long n ∷ rest) = if nat_lt n (2 ^ 63) then Ok (pos n, rest) else stop wanted (Long n ∷ rest)
signed_at wanted (Signed z ∷ rest) = Ok (z, rest)
signed_at wanted words = stop wanted words

unfoldable pub text_at : Wanted → List Word → Read (List ℕ)
text_at wanted (Quoted text ∷ rest) = Ok (text, rest)
text_at wanted words = stop wanted words

unfoldable pub truth_of : ℕ → Option Bool
truth_of n = if n == 0 then Some false else (if n == 1 then Some true else None)

unfoldable pub truth_at : List Word → Read Bool
truth_at (Long n ∷ rest) = named wanted.Truth (truth_of n) (Long n ∷ rest)
truth_at words = stop wanted.Truth words

-- `-` stands for what isn't there
unfoldable pub is_absent : List Word → Bool
is_absent words = bytes_eq (key_of words) (codes "-")

unfoldable pub number_or_absent_at : List Word → Read (Option ℕ)
number_or_absent_at (Long n ∷ rest) = Ok (Some n, rest)
number_or_absent_at words = if is_absent words then Ok (None, drop 1 words) else stop wanted.NumberOrNone words

unfoldable pub time_or_absent_at : List Word → Read (Option ℤ)
time_or_absent_at words = if is_absent words then Ok (None, drop 1 words) else signed_at wanted.TimeOrNone words >>= λ x. Ok (Some x.0, x.1)

unfoldable pub text_or_absent_at : List Word → Read (Option (List ℕ))
text_or_absent_at words = if is_absent words then Ok (None, drop 1 words) else text_at wanted.TextOrNone words >>= λ x. Ok (Some x.0, x.1)

unfoldable pub equals_at : List Word → Read (Unit {0})
equals_at words = if bytes_eq (key_of words) (codes "=") then Ok (tt, drop 1 words) else stop wanted.Equals words

-- so many items, one behind another
unfoldable pub items_at : {X : Type 0} → (List Word → Read X) → ℕ → List Word → Read (List X)
items_at one zero words = Ok ([], words)
items_at one (suc n) words = do
  (x, rest) ← one words
  (xs, rest) ← items_at one n rest
  Ok (x ∷ xs, rest)

unfoldable pub quoted_at : List Word → Read (List ℕ)
quoted_at words = text_at wanted.Text words

-- a list is its length, and its items
unfoldable pub list_at : {X : Type 0} → (List Word → Read X) → List Word → Read (List X)
list_at one words = do
  (n, rest) ← long_at words
  items_at one n rest

unfoldable pub texts_at : List Word → Read (List (List ℕ))
texts_at words = list_at quoted_at words

unfoldable pub field_at : List Word → Read Field
field_at words = do
  (name, rest) ← quoted_at words
  (value, rest) ← quoted_at rest
  Ok (record { name = name; value = value }, rest)

unfoldable pub fields_at : List Word → Read (List Field)
fields_at words = list_at field_at words

unfoldable pub item_at : List Word → Read VaryItem
item_at words = do
  (name, rest) ← quoted_at words
  (values, rest) ← texts_at rest
  Ok (record { name = name; values = values }, rest)

-- how many fields a response was chosen by, and whether there is a `*` before them
unfoldable pub star_behind : ℕ → List Word → Read (Bool × ℕ)
star_behind n words = if bytes_eq (key_of words) (codes "*") then Ok ((true, n - 1), drop 1 words) else Ok ((false, n), words)

unfoldable pub count_at : List Word → Read (Bool × ℕ)
count_at words = do
  (n, rest) ← long_at words
  star_behind n rest

unfoldable pub vary_at : List Word → Read (Bool × List VaryItem)
vary_at words = do
  ((always, n), rest) ← count_at words
  (items, rest) ← items_at item_at n rest
  Ok ((always, items), rest)

unfoldable pub member_at : List Word → Read Member
member_at words = do
  (name, rest) ← quoted_at words
  (weight, rest) ← middle_at rest
  Ok (record { name = name; weight = weight }, rest)

unfoldable pub kind_of : List ℕ → Option DirectorKind
kind_of key =
    if bytes_eq key (codes "one") then Some One
    else (if bytes_eq key (codes "round_robin") then Some RoundRobin
    else (if bytes_eq key (codes "fallback") then Some Fallback
    else (if bytes_eq key (codes "random") then Some Random
    else (if bytes_eq key (codes "hash") then Some Hash else None))))

unfoldable pub kind_at : List Word → Read DirectorKind
kind_at words = named wanted.Director (kind_of (key_of words)) words

unfoldable pub target_at : List Word → Read Target
target_at words = do
  (kind, rest) ← kind_at words
  (name, rest) ← quoted_at rest
  (members, rest) ← list_at member_at rest
  Ok (record { kind = kind; name = name; members = members }, rest)

unfoldable pub time_at : List Word → Read ℤ
time_at words = signed_at wanted.Time words

unfoldable pub timing_at : List Word → Read Timing
timing_at words = do
  (origin, rest) ← time_at words
  (ttl, rest) ← time_at rest
  (grace, rest) ← time_at rest
  (keep, rest) ← time_at rest
  Ok (record { origin = origin; ttl = ttl; grace = grace; keep = keep }, rest)

unfoldable pub content_at : List Word → Read Content
content_at words = do
  (key, rest) ← texts_at words
  (chosen, rest) ← vary_at rest
  (status, rest) ← short_at rest
  (reason, rest) ← quoted_at rest
  (fields, rest) ← fields_at rest
  (body, rest) ← quoted_at rest
  Ok (record { key = key; vary = chosen.1; varies_always = chosen.0; status = status; reason = reason; fields = fields; body = body; xkeys = [] }, rest)

-- Of a marker there is less: what else is written has to be as the writer puts it, which is told behind the words.
unfoldable pub marker_of : Content → Timing → Marker
marker_of content timing = record { key = content.key; vary = content.vary; status = content.status; origin = timing.origin; ttl = timing.ttl }

unfoldable pub object_of : ObjectKind → Content → Timing → List (List ℕ) → Object
object_of objects.OfResponse content timing xkeys = Ordinary (record { timing = timing; content = record content { xkeys = xkeys } })
object_of objects.OfMiss content timing xkeys = HitForMiss (marker_of content timing)
object_of objects.OfPass content timing xkeys = HitForPass (marker_of content timing)

unfoldable pub object_kind_of : List ℕ → Option ObjectKind
object_kind_of key =
    if bytes_eq key (codes "o") then Some objects.OfResponse
    else (if bytes_eq key (codes "m") then Some objects.OfMiss
    else (if bytes_eq key (codes "p") then Some objects.OfPass else None))

unfoldable pub object_kind_at : List Word → Read ObjectKind
object_kind_at words = named wanted.Object (object_kind_of (key_of words)) words

unfoldable pub object_at : List Word → Read Object
object_at words = do
  (kind, rest) ← object_kind_at words
  (content, rest) ← content_at rest
  (timing, rest) ← timing_at rest
  (xkeys, rest) ← texts_at rest
  Ok (object_of kind content timing xkeys, rest)

unfoldable pub options_at : List Word → Read Options
options_at words = do
  (always_miss, rest) ← truth_at words
  (ignore_busy, rest) ← truth_at rest
  (ignore_vary, rest) ← truth_at rest
  (ttl, rest) ← time_or_absent_at rest
  (grace, rest) ← time_or_absent_at rest
  Ok (record { always_miss = always_miss; ignore_busy = ignore_busy; ignore_vary = ignore_vary; ttl = ttl; grace = grace }, rest)

unfoldable pub query_at : List Word → Read Query
query_at words = do
  (key, rest) ← texts_at words
  (url, rest) ← quoted_at rest
  (fields, rest) ← fields_at rest
  (options, rest) ← options_at rest
  Ok (record { key = key; request = record { url = url; fields = fields }; options = options }, rest)

unfoldable pub health_of : List ℕ → Option Health
health_of key =
    if bytes_eq key (codes "auto") then Some Auto
    else (if bytes_eq key (codes "healthy") then Some Healthy
    else (if bytes_eq key (codes "sick") then Some Sick else None))

unfoldable pub health_at : List Word → Read Health
health_at words = named wanted.Health (health_of (key_of words)) words

unfoldable pub source_at : List Word → Read VclSource
source_at words = do
  (name, rest) ← quoted_at words
  (text, rest) ← quoted_at rest
  (backends, rest) ← texts_at rest
  Ok (record { name = name; text = text; backends = backends }, rest)

unfoldable pub lookup_at : List Word → Read Call
lookup_at words = do
  (query, rest) ← query_at words
  Ok (Lookup query, rest)

unfoldable pub pick_at : List Word → Read Call
pick_at words = do
  (number, rest) ← middle_at words
  (target, rest) ← target_at rest
  (word, rest) ← long_at rest
  Ok (Pick number target word, rest)

unfoldable pub insert_at : List Word → Read Call
insert_at words = do
  (token, rest) ← long_at words
  (object, rest) ← object_at rest
  (stale, rest) ← number_or_absent_at rest
  Ok (Insert token object stale, rest)

-- a ban of these words, whose conditions are still to be read
unfoldable pub ban_of : List (List ℕ) → BanWords
ban_of words = record { words = words; conditions = [] }

unfoldable pub ban_at : List Word → Read Call
ban_at words = do
  (texts, rest) ← texts_at words
  Ok (Ban (ban_of texts), rest)

unfoldable pub purge_at : List Word → Read Call
purge_at words = do
  (key, rest) ← texts_at words
  Ok (Purge key, rest)

unfoldable pub xkey_at : List Word → Read Call
xkey_at words = do
  (keys, rest) ← texts_at words
  (soft, rest) ← truth_at rest
  Ok (Xkey keys soft, rest)

unfoldable pub set_health_at : List Word → Read Call
set_health_at words = do
  (backend, rest) ← quoted_at words
  (health, rest) ← health_at rest
  Ok (SetHealth backend health, rest)

unfoldable pub load_at : List Word → Read Call
load_at words = do
  (source, rest) ← source_at words
  Ok (Load source, rest)

unfoldable pub switch_at : List Word → Read Call
switch_at words = do
  (name, rest) ← quoted_at words
  Ok (Switch name, rest)

unfoldable pub discard_at : List Word → Read Call
discard_at words = do
  (name, rest) ← quoted_at words
  Ok (Discard name, rest)

unfoldable pub drop_at : List Word → Read Call
drop_at words = do
  (token, rest) ← long_at words
  Ok (Drop token, rest)

-- the calls that say nothing but their names
unfoldable pub plain_call_of : List ℕ → Option Call
plain_call_of key =
    if bytes_eq key (codes "begin") then Some Begin
    else (if bytes_eq key (codes "draw") then Some Draw
    else (if bytes_eq key (codes "banlist") then Some BanList
    else (if bytes_eq key (codes "vcls") then Some VclList
    else (if bytes_eq key (codes "end") then Some End else None))))

unfoldable pub plain_call_at : List Word → Read Call
plain_call_at words = named wanted.Call (plain_call_of (key_of words)) words

-- the calls on VCLs and backends, and those that are plain
unfoldable pub vcl_call_at : List Word → Read Call
vcl_call_at words =
    if bytes_eq (key_of words) (codes "health") then set_health_at (drop 1 words)
    else (if bytes_eq (key_of words) (codes "load") then load_at (drop 1 words)
    else (if bytes_eq (key_of words) (codes "switch") then switch_at (drop 1 words)
    else (if bytes_eq (key_of words) (codes "discard") then discard_at (drop 1 words) else plain_call_at words)))

-- the calls on keys and bans, and those before
unfoldable pub key_call_at : List Word → Read Call
key_call_at words =
    if bytes_eq (key_of words) (codes "ban") then ban_at (drop 1 words)
    else (if bytes_eq (key_of words) (codes "purge") then purge_at (drop 1 words)
    else (if bytes_eq (key_of words) (codes "xkey") then xkey_at (drop 1 words)
    else (if bytes_eq (key_of words) (codes "drop") then drop_at (drop 1 words) else vcl_call_at words)))

unfoldable pub call_at : List Word → Read Call
call_at words =
    if bytes_eq (key_of words) (codes "lookup") then lookup_at (drop 1 words)
    else (if bytes_eq (key_of words) (codes "pick") then pick_at (drop 1 words)
    else (if bytes_eq (key_of words) (codes "insert") then insert_at (drop 1 words) else key_call_at words))

unfoldable pub ban_line_at : List Word → Read ShownBan
ban_line_at words = do
  (number, rest) ← long_at words
  (completed, rest) ← truth_at rest
  Ok (record { number = number; completed = completed }, rest)

unfoldable pub state_of : List ℕ → Option VclState
state_of key =
    if bytes_eq key (codes "active") then Some vcl.Active
    else (if bytes_eq key (codes "available") then Some vcl.Available
    else (if bytes_eq key (codes "discarded") then Some vcl.Discarded else None))

unfoldable pub state_at : List Word → Read VclState
state_at words = named wanted.State (state_of (key_of words)) words

unfoldable pub vcl_line_at : List Word → Read VclLine
vcl_line_at words = do
  (state, rest) ← state_at words
  (references, rest) ← long_at rest
  (name, rest) ← quoted_at rest
  Ok (record { state = state; references = references; name = name }, rest)

-- the replies of one number
unfoldable pub numbered_of : NumberedReply → ℕ → Shown
numbered_of numbered.Drawn n = shown.Drawn n
numbered_of numbered.Hit n = shown.Hit n
numbered_of numbered.HitMiss n = shown.HitMiss n
numbered_of numbered.Wait n = shown.Wait n
numbered_of numbered.Stored n = shown.Stored n
numbered_of numbered.Purged n = shown.Purged n

unfoldable pub numbered_kind_of : List ℕ → Option NumberedReply
numbered_kind_of key =
    if bytes_eq key (codes "drawn") then Some numbered.Drawn
    else (if bytes_eq key (codes "hit") then Some numbered.Hit
    else (if bytes_eq key (codes "hitmiss") then Some numbered.HitMiss
    else (if bytes_eq key (codes "wait") then Some numbered.Wait
    else (if bytes_eq key (codes "stored") then Some numbered.Stored
    else (if bytes_eq key (codes "purged") then Some numbered.Purged else None)))))

unfoldable pub numbered_kind_at : List Word → Read NumberedReply
numbered_kind_at words = named wanted.Reply (numbered_kind_of (key_of words)) words

unfoldable pub numbered_at : List Word → Read Shown
numbered_at words = do
  (kind, rest) ← numbered_kind_at words
  (number, rest) ← long_at rest
  Ok (numbered_of kind number, rest)

unfoldable pub began_at : List Word → Read Shown
began_at words = do
  (number, rest) ← long_at words
  (vcl_number, rest) ← middle_at rest
  Ok (shown.Began number vcl_number, rest)

unfoldable pub grace_at : List Word → Read Shown
grace_at words = do
  (number, rest) ← long_at words
  (token, rest) ← number_or_absent_at rest
  Ok (shown.Grace number token, rest)

unfoldable pub miss_at : List Word → Read Shown
miss_at words = do
  (token, rest) ← long_at words
  (stale, rest) ← number_or_absent_at rest
  Ok (shown.Miss token stale, rest)

unfoldable pub picked_at : List Word → Read Shown
picked_at words = do
  (name, rest) ← text_or_absent_at words
  Ok (shown.Picked name, rest)

unfoldable pub bans_at : List Word → Read Shown
bans_at words = do
  (bans, rest) ← list_at ban_line_at words
  Ok (shown.Bans bans, rest)

unfoldable pub is_set_at : List Word → Read Shown
is_set_at words = do
  (is_set, rest) ← truth_at words
  Ok (shown.HealthSet is_set, rest)

unfoldable pub loaded_at : List Word → Read Shown
loaded_at words = do
  (number, rest) ← middle_at words
  Ok (shown.Loaded number, rest)

unfoldable pub vcls_at : List Word → Read Shown
vcls_at words = do
  (lines, rest) ← list_at vcl_line_at words
  Ok (shown.Vcls lines, rest)

-- the replies that say nothing but their names
unfoldable pub refusal_of : List ℕ → Option Shown
refusal_of key =
    if bytes_eq key (codes "noround") then Some shown.NoRound
    else (if bytes_eq key (codes "notopen") then Some shown.NotOpen
    else (if bytes_eq key (codes "stalegone") then Some shown.StaleGone
    else (if bytes_eq key (codes "notintime") then Some shown.NotInTime
    else (if bytes_eq key (codes "noroom") then Some shown.NoRoom
    else (if bytes_eq key (codes "refused") then Some shown.Refused
    else (if bytes_eq key (codes "nametaken") then Some shown.NameTaken
    else (if bytes_eq key (codes "novcl") then Some shown.NoVcl else None)))))))

unfoldable pub plain_of : List ℕ → Option Shown
plain_of key =
    if bytes_eq key (codes "hitpass") then Some shown.HitPass
    else (if bytes_eq key (codes "banned") then Some shown.Banned
    else (if bytes_eq key (codes "switched") then Some shown.Switched
    else (if bytes_eq key (codes "discarded") then Some shown.Discarded
    else (if bytes_eq key (codes "isactive") then Some shown.IsActive
    else (if bytes_eq key (codes "dropped") then Some shown.Dropped
    else (if bytes_eq key (codes "ended") then Some shown.Ended else refusal_of key))))))

unfoldable pub plain_reply_at : List Word → Read Shown
plain_reply_at words = elim (plain_of (key_of words)) [ None ↦ numbered_at words | Some reply ↦ Ok (reply, drop 1 words) ]

-- the replies of lists and of VCLs, and those before
unfoldable pub vcl_reply_at : List Word → Read Shown
vcl_reply_at words =
    if bytes_eq (key_of words) (codes "bans") then bans_at (drop 1 words)
    else (if bytes_eq (key_of words) (codes "healthset") then is_set_at (drop 1 words)
    else (if bytes_eq (key_of words) (codes "loaded") then loaded_at (drop 1 words)
    else (if bytes_eq (key_of words) (codes "vcls") then vcls_at (drop 1 words) else plain_reply_at words)))

unfoldable pub reply_at : List Word → Read Shown
reply_at words =
    if bytes_eq (key_of words) (codes "began") then began_at (drop 1 words)
    else (if bytes_eq (key_of words) (codes "grace") then grace_at (drop 1 words)
    else (if bytes_eq (key_of words) (codes "miss") then miss_at (drop 1 words)
    else (if bytes_eq (key_of words) (codes "picked") then picked_at (drop 1 words) else vcl_reply_at words)))

unfoldable pub said_at : List Word → Read Said
said_at words = do
  (caller, rest) ← middle_at words
  (moment, rest) ← long_at rest
  (call, rest) ← call_at rest
  (equals, rest) ← equals_at rest
  (reply, rest) ← reply_at rest
  Ok (record { caller = caller; moment = moment; call = call; reply = reply }, rest)

-- The version has to be 1, which is told behind the words.
unfoldable pub first_at : List Word → Read First
first_at words = do
  (version, rest) ← long_at words
  (room, rest) ← long_at rest
  (history, rest) ← long_at rest
  (text, rest) ← quoted_at rest
  (backends, rest) ← texts_at rest
  Ok (record { room = room; history = history; boot = record { text = text; backends = backends } }, rest)

unfoldable pub first_line_at : List Word → Read Line
first_line_at words = do
  (first, rest) ← first_at words
  Ok (line.First first, rest)

unfoldable pub entry_line_at : List Word → Read Line
entry_line_at words = do
  (said, rest) ← said_at words
  Ok (line.Entry said, rest)

unfoldable pub mark_of : List ℕ → Option Line
mark_of key = if bytes_eq key (codes "cut") then Some line.Cut else (if bytes_eq key (codes "close") then Some line.Close else None)

-- the line that words say; what stands behind it is not looked at
unfoldable pub line_at : List Word → Read Line
line_at words =
    if bytes_eq (key_of words) (codes "e") then entry_line_at (drop 1 words)
    else (if bytes_eq (key_of words) (codes "varn") then first_line_at (drop 1 words) else named wanted.Line (mark_of (key_of words)) words)

-- a line without the conditions of its ban
abbrev pub bare_call : Call → Call
bare_call (Ban ban) = Ban (ban_of ban.words)
bare_call call = call

abbrev pub bare : Line → Line
bare (line.Entry said) = line.Entry (record said { call = bare_call said.call })
bare other = other

-- what a reading function gives, of which want of memory alone is free
abbrev pub Gives : {X : Type 0} → Result X Halt → List Word → Read X → Type 0
Gives (Ok x) rest read = read ≡ Ok (x, rest)
Gives (Err (halt.Stopped at)) rest read = read ≡ Err at
Gives (Err halt.NoMemory) rest read = ⊤
