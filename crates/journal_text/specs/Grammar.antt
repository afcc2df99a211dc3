-- What a journal says of the calls and replies of a cache: the words of each line.
use Rattle.std.specs.Prelude.{ℕ, ℤ, pos, ◌+◌, Bool, true, false, List, [], ◌∷◌, ◌++◌, Option, Some, None, map, length, codes}
use Rattle.std.specs.List.{flat_map}
use Rattle.std.specs.Option.{option_map}
use Rattle.directors.specs.declared.director.DirectorKind.{DirectorKind}
use Rattle.directors.specs.declared.director.DirectorKind.TheVariants.{One, RoundRobin, Fallback, Random, Hash}
use Rattle.directors.specs.declared.target.Member.{Member}
use Rattle.directors.specs.declared.target.Target.{Target}
use Rattle.freshness.specs.declared.times.Timing.{Timing}
use Rattle.http_heads.specs.declared.fields.Field.{Field}
use Rattle.cache_law.specs.declared.ban.BanLine.{BanLine}
use Rattle.cache_law.specs.declared.call.Call.{Call}
use Rattle.cache_law.specs.declared.call.Call.TheVariants.{Begin, Draw, Lookup, Pick, Insert, Ban, BanList, Purge, Xkey, SetHealth, Load, Switch, Discard, VclList, Drop, End}
use Rattle.cache_law.specs.declared.call.Entry.{Entry}
use Rattle.cache_law.specs.declared.call.Options.{Options}
use Rattle.cache_law.specs.declared.call.Query.{Query}
use Rattle.cache_law.specs.declared.call.Reply.{Reply}
use Rattle.cache_law.specs.declared.call.Reply.TheVariants as reply
use Rattle.cache_law.specs.declared.object.Content.{Content}
use Rattle.cache_law.specs.declared.object.Marker.{Marker}
use Rattle.cache_law.specs.declared.object.Object.{Object}
use Rattle.cache_law.specs.declared.object.Object.TheVariants.{Ordinary, HitForMiss, HitForPass}
use Rattle.cache_law.specs.declared.object.ObjectView.{ObjectView}
use Rattle.cache_law.specs.declared.object.VaryItem.{VaryItem}
use Rattle.cache_law.specs.declared.vcl.Health.{Health}
use Rattle.cache_law.specs.declared.vcl.Health.TheVariants.{Auto, Healthy, Sick}
use Rattle.cache_law.specs.declared.vcl.VclLine.{VclLine}
use Rattle.cache_law.specs.declared.vcl.VclSource.{VclSource}
use Rattle.cache_law.specs.declared.vcl.VclState.{VclState}
use Rattle.cache_law.specs.declared.vcl.VclState.TheVariants as vcl
use Rattle.cache_law.specs.Object.{timing_of}
use Rattle.journal_text.specs.declared.line.First.{First}
use Rattle.journal_text.specs.declared.line.Line.{Line}
use Rattle.journal_text.specs.declared.line.Line.TheVariants as line
use Rattle.journal_text.specs.declared.line.Said.{Said}
use Rattle.journal_text.specs.declared.shown.Shown.{Shown}
use Rattle.journal_text.specs.declared.shown.Shown.TheVariants as shown
use Rattle.journal_text.specs.declared.shown.ShownBan.{ShownBan}
use Rattle.journal_text.specs.declared.word.Word.{Word}
use Rattle.journal_text.specs.declared.word.Word.TheVariants.{Key, Short, Middle, Long, Signed, Quoted}

-- a truth is 1, and else 0
abbrev pub truth_word : Bool → Word
truth_word true = Long 1
truth_word false = Long 0

-- what isn't there is `-`
abbrev pub absent : Word
absent = Key (codes "-")

abbrev pub number_or_absent : Option ℕ → Word
number_or_absent None = absent
number_or_absent (Some n) = Long n

abbrev pub time_or_absent : Option ℤ → Word
time_or_absent None = absent
time_or_absent (Some z) = Signed z

abbrev pub text_or_absent : Option (List ℕ) → Word
text_or_absent None = absent
text_or_absent (Some text) = Quoted text

-- a list is its length, and its items
abbrev pub texts_words : List (List ℕ) → List Word
texts_words texts = Long (length texts) ∷ map Quoted texts

abbrev pub field_words : Field → List Word
field_words field = Quoted field.name ∷ Quoted field.value ∷ []

abbrev pub fields_words : List Field → List Word
fields_words fields = Long (length fields) ∷ flat_map field_words fields

abbrev pub item_words : VaryItem → List Word
item_words item = Quoted item.name ∷ texts_words item.values

-- how many items there are, of which the first is `*` where there is more that a response was chosen by
abbrev pub count_words : Bool → ℕ → List Word
count_words false count = Long count ∷ []
count_words true count = Long (count + 1) ∷ Key (codes "*") ∷ []

-- the fields that a response was chosen by
abbrev pub vary_words : Bool → List VaryItem → List Word
vary_words always items = count_words always (length items) ++ flat_map item_words items

abbrev pub member_words : Member → List Word
member_words member = Quoted member.name ∷ Middle member.weight ∷ []

abbrev pub members_words : List Member → List Word
members_words members = Long (length members) ∷ flat_map member_words members

abbrev pub timing_words : Timing → List Word
timing_words timing = Signed timing.origin ∷ Signed timing.ttl ∷ Signed timing.grace ∷ Signed timing.keep ∷ []

abbrev pub content_words : Content → List Word
content_words content =
    texts_words content.key
    ++ vary_words content.varies_always content.vary
    ++ Short content.status
    ∷ Quoted content.reason
    ∷ fields_words content.fields
    ++ Quoted content.body
    ∷ []

-- a marker has neither reason, fields and body nor xkeys
abbrev pub marker_words : Marker → List Word
marker_words marker =
    texts_words marker.key ++ vary_words false marker.vary ++ Short marker.status ∷ Quoted [] ∷ Long 0 ∷ Quoted [] ∷ []

abbrev pub xkeys_of : Object → List (List ℕ)
xkeys_of (Ordinary response) = response.content.xkeys
xkeys_of (HitForMiss marker) = []
xkeys_of (HitForPass marker) = []

-- what stands before an object's timing
abbrev pub front_words : Object → List Word
front_words (Ordinary response) = Key (codes "o") ∷ content_words response.content
front_words (HitForMiss marker) = Key (codes "m") ∷ marker_words marker
front_words (HitForPass marker) = Key (codes "p") ∷ marker_words marker

abbrev pub object_words : Object → List Word
object_words object = front_words object ++ timing_words (timing_of object) ++ texts_words (xkeys_of object)

abbrev pub options_words : Options → List Word
options_words options =
    truth_word options.always_miss
    ∷ truth_word options.ignore_busy
    ∷ truth_word options.ignore_vary
    ∷ time_or_absent options.ttl
    ∷ time_or_absent options.grace
    ∷ []

abbrev pub query_words : Query → List Word
query_words query =
    texts_words query.key ++ Quoted query.request.url ∷ fields_words query.request.fields ++ options_words query.options

abbrev pub kind_key : DirectorKind → List ℕ
kind_key One = codes "one"
kind_key RoundRobin = codes "round_robin"
kind_key Fallback = codes "fallback"
kind_key Random = codes "random"
kind_key Hash = codes "hash"

abbrev pub target_words : Target → List Word
target_words target = Key (kind_key target.kind) ∷ Quoted target.name ∷ members_words target.members

abbrev pub health_key : Health → List ℕ
health_key Auto = codes "auto"
health_key Healthy = codes "healthy"
health_key Sick = codes "sick"

abbrev pub source_words : VclSource → List Word
source_words source = Quoted source.name ∷ Quoted source.text ∷ texts_words source.backends

-- a call, of a ban its words alone
abbrev pub call_words : Call → List Word
call_words Begin = Key (codes "begin") ∷ []
call_words Draw = Key (codes "draw") ∷ []
call_words (Lookup query) = Key (codes "lookup") ∷ query_words query
call_words (Pick number target word) = Key (codes "pick") ∷ Middle number ∷ target_words target ++ Long word ∷ []
call_words (Insert token object stale) =
    Key (codes "insert") ∷ Long token ∷ object_words object ++ number_or_absent stale ∷ []
call_words (Ban ban) = Key (codes "ban") ∷ texts_words ban.words
call_words BanList = Key (codes "banlist") ∷ []
call_words (Purge key) = Key (codes "purge") ∷ texts_words key
call_words (Xkey keys soft) = Key (codes "xkey") ∷ texts_words keys ++ truth_word soft ∷ []
call_words (SetHealth backend health) = Key (codes "health") ∷ Quoted backend ∷ Key (health_key health) ∷ []
call_words (Load source) = Key (codes "load") ∷ source_words source
call_words (Switch name) = Key (codes "switch") ∷ Quoted name ∷ []
call_words (Discard name) = Key (codes "discard") ∷ Quoted name ∷ []
call_words VclList = Key (codes "vcls") ∷ []
call_words (Drop token) = Key (codes "drop") ∷ Long token ∷ []
call_words End = Key (codes "end") ∷ []

-- a line of a list of bans: the ban's number, and whether a later one does its work
abbrev pub ban_line_words : ShownBan → List Word
ban_line_words ban = Long ban.number ∷ truth_word ban.completed ∷ []

abbrev pub state_key : VclState → List ℕ
state_key vcl.Active = codes "active"
state_key vcl.Available = codes "available"
state_key vcl.Discarded = codes "discarded"

abbrev pub vcl_line_words : VclLine → List Word
vcl_line_words vcl_line = Key (state_key vcl_line.state) ∷ Long vcl_line.references ∷ Quoted vcl_line.name ∷ []

-- a reply that says nothing but its name, and one with a number
abbrev pub plain : List ℕ → List Word
plain key = Key key ∷ []

abbrev pub numbered : List ℕ → ℕ → List Word
numbered key number = Key key ∷ Long number ∷ []

abbrev pub shown_words : Shown → List Word
shown_words (shown.Began number vcl) = Key (codes "began") ∷ Long number ∷ Middle vcl ∷ []
shown_words shown.NoRound = plain (codes "noround")
shown_words (shown.Drawn number) = numbered (codes "drawn") number
shown_words (shown.Hit number) = numbered (codes "hit") number
shown_words (shown.HitMiss token) = numbered (codes "hitmiss") token
shown_words shown.HitPass = plain (codes "hitpass")
shown_words (shown.Grace number token) = Key (codes "grace") ∷ Long number ∷ number_or_absent token ∷ []
shown_words (shown.Wait token) = numbered (codes "wait") token
shown_words (shown.Miss token stale) = Key (codes "miss") ∷ Long token ∷ number_or_absent stale ∷ []
shown_words (shown.Picked name) = Key (codes "picked") ∷ text_or_absent name ∷ []
shown_words (shown.Stored number) = numbered (codes "stored") number
shown_words shown.NotOpen = plain (codes "notopen")
shown_words shown.StaleGone = plain (codes "stalegone")
shown_words shown.NotInTime = plain (codes "notintime")
shown_words shown.NoRoom = plain (codes "noroom")
shown_words shown.Refused = plain (codes "refused")
shown_words shown.Banned = plain (codes "banned")
shown_words (shown.Bans bans) = Key (codes "bans") ∷ Long (length bans) ∷ flat_map ban_line_words bans
shown_words (shown.Purged count) = numbered (codes "purged") count
shown_words (shown.HealthSet is_set) = Key (codes "healthset") ∷ truth_word is_set ∷ []
shown_words (shown.Loaded number) = Key (codes "loaded") ∷ Middle number ∷ []
shown_words shown.NameTaken = plain (codes "nametaken")
shown_words shown.Switched = plain (codes "switched")
shown_words shown.NoVcl = plain (codes "novcl")
shown_words shown.Discarded = plain (codes "discarded")
shown_words shown.IsActive = plain (codes "isactive")
shown_words (shown.Vcls lines) = Key (codes "vcls") ∷ Long (length lines) ∷ flat_map vcl_line_words lines
shown_words shown.Dropped = plain (codes "dropped")
shown_words shown.Ended = plain (codes "ended")

-- what is shown of a reply: the number of an object and of a ban in place of itself
abbrev pub number_of : Option ObjectView → Option ℕ
number_of view = option_map (λ v. v.number) view

abbrev pub shown_ban : BanLine → ShownBan
shown_ban ban_line = record { number = ban_line.issued.number; completed = ban_line.completed }

abbrev pub shown_of : Reply → Shown
shown_of (reply.Began number vcl text) = shown.Began number vcl
shown_of reply.NoRound = shown.NoRound
shown_of (reply.Drawn number) = shown.Drawn number
shown_of (reply.Hit view) = shown.Hit view.number
shown_of (reply.HitMiss token) = shown.HitMiss token
shown_of reply.HitPass = shown.HitPass
shown_of (reply.Grace view token) = shown.Grace view.number token
shown_of (reply.Wait token) = shown.Wait token
shown_of (reply.Miss token stale) = shown.Miss token (number_of stale)
shown_of (reply.Picked name) = shown.Picked name
shown_of (reply.Stored number) = shown.Stored number
shown_of reply.NotOpen = shown.NotOpen
shown_of reply.StaleGone = shown.StaleGone
shown_of reply.NotInTime = shown.NotInTime
shown_of reply.NoRoom = shown.NoRoom
shown_of reply.Refused = shown.Refused
shown_of reply.Banned = shown.Banned
shown_of (reply.Bans lines) = shown.Bans (map shown_ban lines)
shown_of (reply.Purged count) = shown.Purged count
shown_of (reply.HealthSet is_set) = shown.HealthSet is_set
shown_of (reply.Loaded number) = shown.Loaded number
shown_of reply.NameTaken = shown.NameTaken
shown_of reply.Switched = shown.Switched
shown_of reply.NoVcl = shown.NoVcl
shown_of reply.Discarded = shown.Discarded
shown_of reply.IsActive = shown.IsActive
shown_of (reply.Vcls lines) = shown.Vcls lines
shown_of reply.Dropped = shown.Dropped
shown_of reply.Ended = shown.Ended

-- an entry as its line says it
abbrev pub said_of : Entry → Said
said_of entry = record { caller = entry.caller; moment = entry.moment; call = entry.call; reply = shown_of entry.reply }

abbrev pub said_words : Said → List Word
said_words said =
    Key (codes "e") ∷ Middle said.caller ∷ Long said.moment ∷ call_words said.call ++ Key (codes "=") ∷ shown_words said.reply

-- the limits of the run, and its opening VCL
abbrev pub first_words : First → List Word
first_words first =
    Key (codes "varn")
    ∷ Long 1
    ∷ Long first.room
    ∷ Long first.history
    ∷ Quoted first.boot.text
    ∷ texts_words first.boot.backends

abbrev pub line_words : Line → List Word
line_words (line.First first) = first_words first
line_words (line.Entry said) = said_words said
line_words line.Cut = plain (codes "cut")
line_words line.Close = plain (codes "close")
