-- What is written of a line is read.
use Rattle.std.proofs.Common.{◌≡◌, ℕ, ℤ, pos, negsuc, ◌+◌, ◌-◌, ◌<◌, ◌^◌, Bool, true, false, List, [], ◌∷◌, ◌++◌, length, map, sym, ap, subst, refl, arith, lt-ltb, append_assoc}
use Rattle.std.specs.Prelude.{Option, Some, None, Ok, FitsSigned, codes}
use Rattle.std.specs.Int.{w64}
use Rattle.std.specs.List.{flat_map}
use Rattle.directors.specs.declared.director.DirectorKind.{DirectorKind}
use Rattle.directors.specs.declared.director.DirectorKind.TheVariants.{One, RoundRobin, Fallback, Random, Hash}
use Rattle.directors.specs.declared.target.Member.{Member}
use Rattle.directors.specs.declared.target.Target.{Target}
use Rattle.freshness.specs.declared.times.Timing.{Timing}
use Rattle.http_heads.specs.declared.fields.Field.{Field}
use Rattle.cache_law.specs.declared.call.Call.{Call}
use Rattle.cache_law.specs.declared.call.Call.TheVariants.{Begin, Draw, Lookup, Pick, Insert, Ban, BanList, Purge, Xkey, SetHealth, Load, Switch, Discard, VclList, Drop, End}
use Rattle.cache_law.specs.declared.call.Options.{Options}
use Rattle.cache_law.specs.declared.call.Query.{Query}
use Rattle.cache_law.specs.declared.object.Content.{Content}
use Rattle.cache_law.specs.declared.object.Marker.{Marker}
use Rattle.cache_law.specs.declared.object.Object.{Object}
use Rattle.cache_law.specs.declared.object.Object.TheVariants.{Ordinary, HitForMiss, HitForPass}
use Rattle.cache_law.specs.declared.object.VaryItem.{VaryItem}
use Rattle.cache_law.specs.declared.vcl.Health.{Health}
use Rattle.cache_law.specs.declared.vcl.Health.TheVariants.{Auto, Healthy, Sick}
use Rattle.cache_law.specs.declared.vcl.VclLine.{VclLine}
use Rattle.cache_law.specs.declared.vcl.VclState.{VclState}
use Rattle.cache_law.specs.declared.vcl.VclState.TheVariants as vcl
use Rattle.cache_law.specs.Object.{timing_of}
use Rattle.journal_text.specs.declared.line.Line.{Line}
use Rattle.journal_text.specs.declared.line.Line.TheVariants as line
use Rattle.journal_text.specs.declared.line.Said.{Said}
use Rattle.journal_text.specs.declared.shown.Shown.{Shown}
use Rattle.journal_text.specs.declared.shown.Shown.TheVariants as shown
use Rattle.journal_text.specs.declared.shown.ShownBan.{ShownBan}
use Rattle.journal_text.specs.declared.word.Word.{Word}
use Rattle.journal_text.specs.declared.word.Word.TheVariants.{Key, Short, Middle, Long, Signed, Quoted}
use Rattle.journal_text.specs.Words.{IsWord, AreWords, loose}
use Rattle.journal_text.specs.Grammar.{texts_words, field_words, fields_words, item_words, count_words, vary_words, member_words, members_words, timing_words, content_words, marker_words, front_words, object_words, options_words, query_words, target_words, call_words, ban_line_words, vcl_line_words, shown_words, line_words, truth_word, number_or_absent, time_or_absent, text_or_absent, kind_key, health_key, state_key}
use Rattle.journal_reader.specs.declared.fault.Wanted.{Wanted}
use Rattle.journal_reader.specs.declared.fault.Wanted.TheVariants as wanted
use Rattle.journal_reader.specs.Reading.{long_at, middle_at, short_at, signed_at, key_of, text_at, truth_at, truth_of, named, number_or_absent_at, time_or_absent_at, text_or_absent_at, is_absent, equals_at, items_at, quoted_at, list_at, texts_at, field_at, fields_at, item_at, star_behind, count_at, vary_at, member_at, kind_of, kind_at, target_at, time_at, timing_at, content_at, object_of, object_kind_of, object_kind_at, object_at, options_at, query_at, health_of, health_at, source_at, lookup_at, pick_at, insert_at, ban_at, purge_at, xkey_at, set_health_at, load_at, switch_at, discard_at, drop_at, plain_call_of, plain_call_at, vcl_call_at, key_call_at, call_at, ban_line_at, state_of, state_at, vcl_line_at, numbered_of, numbered_kind_of, numbered_kind_at, numbered_at, began_at, grace_at, miss_at, picked_at, bans_at, is_set_at, loaded_at, vcls_at, refusal_of, plain_of, plain_reply_at, vcl_reply_at, reply_at, said_at, first_at, first_line_at, entry_line_at, mark_of, line_at, ban_of, bare, bare_call, marker_of, Read}

-- words as they look, before others
abbrev pub looks : List Word → List Word → List Word
looks [] rest = rest
looks (word ∷ words) rest = loose word ∷ looks words rest

looks_joined : (a b rest : List Word) → looks (a ++ b) rest ≡ looks a (looks b rest)
looks_joined [] b rest = refl
looks_joined (word ∷ a) b rest = ap (λ r. loose word ∷ r) (looks_joined a b rest)

parts_of : (a b : List Word) → AreWords (a ++ b) → AreWords a × AreWords b
parts_of [] b h = (tt, h)
parts_of (word ∷ a) b h = let r = parts_of a b h.1 in ((h.0, r.0), r.1)

pub middle_back : (n : ℕ) (rest : List Word) → n < 2 ^ 32 → middle_at (Long n ∷ rest) ≡ Ok (n, rest)
unfolding middle_at
middle_back n rest h = let e = lt-ltb n (2 ^ 32) h in rw e refl

pub short_back : (n : ℕ) (rest : List Word) → n < 2 ^ 16 → short_at (Long n ∷ rest) ≡ Ok (n, rest)
unfolding short_at
short_back n rest h = let e = lt-ltb n (2 ^ 16) h in rw e refl

pub signed_back : (wanted : Wanted) (z : ℤ) (rest : List Word) → FitsSigned w64 z → signed_at wanted (loose (Signed z) ∷ rest) ≡ Ok (z, rest)
unfolding signed_at
signed_back wanted (pos n) rest h = let e = lt-ltb n (2 ^ 63) h.sfits in rw e refl
signed_back wanted (negsuc n) rest h = refl

pub truth_back : (truth : Bool) (rest : List Word) → truth_at (loose (truth_word truth) ∷ rest) ≡ Ok (truth, rest)
unfolding truth_at truth_of named
truth_back true rest = refl
truth_back false rest = refl

pub number_or_absent_back : (number : Option ℕ) (rest : List Word) → number_or_absent_at (loose (number_or_absent number) ∷ rest) ≡ Ok (number, rest)
unfolding number_or_absent_at is_absent key_of
number_or_absent_back None rest = refl
number_or_absent_back (Some n) rest = refl

pub text_or_absent_back : (text : Option (List ℕ)) (rest : List Word) → text_or_absent_at (loose (text_or_absent text) ∷ rest) ≡ Ok (text, rest)
unfolding text_or_absent_at text_at is_absent key_of
text_or_absent_back None rest = refl
text_or_absent_back (Some text) rest = refl

pub time_or_absent_back : (time : Option ℤ) (rest : List Word) → IsWord (time_or_absent time) → time_or_absent_at (loose (time_or_absent time) ∷ rest) ≡ Ok (time, rest)
unfolding time_or_absent_at signed_at is_absent key_of
time_or_absent_back None rest h = refl
time_or_absent_back (Some (pos n)) rest h = let e = lt-ltb n (2 ^ 63) h.sfits in rw e refl
time_or_absent_back (Some (negsuc n)) rest h = refl

-- a list of items, each of which is found
pub items_back : {X : Type 0} (one : List Word → Read X) (said : X → List Word) → ((x : X) (rest : List Word) → AreWords (said x) → one (looks (said x) rest) ≡ Ok (x, rest)) → (xs : List X) (rest : List Word) → AreWords (flat_map said xs) → items_at one (length xs) (looks (flat_map said xs) rest) ≡ Ok (xs, rest)
unfolding items_at
items_back one said back [] rest h = refl
items_back one said back (x ∷ xs) rest h =
    let parts = parts_of (said x) (flat_map said xs) h in
    let joined = looks_joined (said x) (flat_map said xs) rest in
    let first = back x (looks (flat_map said xs) rest) parts.0 in
    let more = items_back one said back xs rest parts.1 in
    rw joined (rw first (rw more refl))

text_items : (texts : List (List ℕ)) (rest : List Word) → items_at quoted_at (length texts) (looks (map Quoted texts) rest) ≡ Ok (texts, rest)
unfolding items_at quoted_at text_at
text_items [] rest = refl
text_items (text ∷ texts) rest = let more = text_items texts rest in rw more refl

pub texts_back : (texts : List (List ℕ)) (rest : List Word) → texts_at (looks (texts_words texts) rest) ≡ Ok (texts, rest)
unfolding texts_at list_at long_at
texts_back texts rest = text_items texts rest

pub field_back : (field : Field) (rest : List Word) → AreWords (field_words field) → field_at (looks (field_words field) rest) ≡ Ok (field, rest)
unfolding field_at quoted_at text_at
field_back field rest h = refl

pub fields_back : (fields : List Field) (rest : List Word) → AreWords (fields_words fields) → fields_at (looks (fields_words fields) rest) ≡ Ok (fields, rest)
unfolding fields_at list_at long_at
fields_back fields rest h = items_back field_at field_words field_back fields rest h.1

pub item_back : (item : VaryItem) (rest : List Word) → AreWords (item_words item) → item_at (looks (item_words item) rest) ≡ Ok (item, rest)
unfolding item_at quoted_at text_at
item_back item rest h = let e = texts_back item.values rest in rw e refl

pub member_back : (member : Member) (rest : List Word) → AreWords (member_words member) → member_at (looks (member_words member) rest) ≡ Ok (member, rest)
unfolding member_at quoted_at text_at
member_back member rest h = let e = middle_back member.weight rest h.1.0 in rw e refl

pub members_back : (members : List Member) (rest : List Word) → AreWords (members_words members) → list_at member_at (looks (members_words members) rest) ≡ Ok (members, rest)
unfolding list_at long_at
members_back members rest h = items_back member_at member_words member_back members rest h.1

-- no key stands first
abbrev pub IsNoKey : List Word → Type 0
IsNoKey (Key text ∷ words) = ⊥
IsNoKey words = Unit {0}

no_star : (n : ℕ) (words : List Word) → IsNoKey words → count_at (Long n ∷ words) ≡ Ok ((false, n), words)
unfolding count_at long_at star_behind key_of
no_star n [] h = refl
no_star n (Key text ∷ words) h = absurd h
no_star n (Short m ∷ words) h = refl
no_star n (Middle m ∷ words) h = refl
no_star n (Long m ∷ words) h = refl
no_star n (Signed z ∷ words) h = refl
no_star n (Quoted text ∷ words) h = refl

count_back : (always : Bool) (n : ℕ) (words : List Word) → IsNoKey words → count_at (looks (count_words always n) words) ≡ Ok ((always, n), words)
unfolding count_at long_at star_behind key_of
count_back false n words h = no_star n words h
count_back true n words h = let e : (n + 1) - 1 ≡ n = omega arith in rw e refl

items_no_key : (items : List VaryItem) (rest : List Word) → IsNoKey rest → IsNoKey (looks (flat_map item_words items) rest)
items_no_key [] rest h = h
items_no_key (item ∷ items) rest h = tt

pub vary_back : (always : Bool) (items : List VaryItem) (rest : List Word) → IsNoKey rest → AreWords (vary_words always items) → vary_at (looks (vary_words always items) rest) ≡ Ok ((always, items), rest)
unfolding vary_at
vary_back always items rest free h =
    let parts = parts_of (count_words always (length items)) (flat_map item_words items) h in
    let joined = looks_joined (count_words always (length items)) (flat_map item_words items) rest in
    let first = count_back always (length items) (looks (flat_map item_words items) rest) (items_no_key items rest free) in
    let more = items_back item_at item_words item_back items rest parts.1 in
    rw joined (rw first (rw more refl))

pub timing_back : (timing : Timing) (rest : List Word) → AreWords (timing_words timing) → timing_at (looks (timing_words timing) rest) ≡ Ok (timing, rest)
unfolding timing_at time_at
timing_back timing rest h =
    let keep = signed_back wanted.Time timing.keep rest h.1.1.1.0 in
    let grace = signed_back wanted.Time timing.grace (loose (Signed timing.keep) ∷ rest) h.1.1.0 in
    let ttl = signed_back wanted.Time timing.ttl (loose (Signed timing.grace) ∷ loose (Signed timing.keep) ∷ rest) h.1.0 in
    let origin = signed_back wanted.Time timing.origin (loose (Signed timing.ttl) ∷ loose (Signed timing.grace) ∷ loose (Signed timing.keep) ∷ rest) h.0 in
    rw origin (rw ttl (rw grace (rw keep refl)))

-- what stands behind the fields that a response was chosen by
abbrev status_words : Content → List Word
status_words content = Short content.status ∷ Quoted content.reason ∷ fields_words content.fields

pub content_back : (content : Content) (rest : List Word) → AreWords (content_words content) → content_at (looks (content_words content) rest) ≡ Ok (record content { xkeys = [] }, rest)
unfolding content_at quoted_at text_at
content_back content rest h =
    let chosen = vary_words content.varies_always content.vary in
    let front = texts_words content.key ++ chosen in
    let body = Quoted content.body ∷ [] in
    let all = parts_of (front ++ status_words content) body h in
    let fronts = parts_of front (status_words content) all.0 in
    let keys = parts_of (texts_words content.key) chosen fronts.0 in
    let status = fronts.1 in
    let on = looks (status_words content) (looks body rest) in
    let joined = looks_joined (front ++ status_words content) body rest in
    let joined_front = looks_joined front (status_words content) (looks body rest) in
    let joined_key = looks_joined (texts_words content.key) chosen on in
    let key = texts_back content.key (looks chosen on) in
    let vary = vary_back content.varies_always content.vary on tt keys.1 in
    let short = short_back content.status (Quoted content.reason ∷ looks (fields_words content.fields) (looks body rest)) status.0 in
    let fields = fields_back content.fields (looks body rest) status.1.1 in
    rw joined (rw joined_front (rw joined_key (rw key (rw vary (rw short (rw fields refl))))))

-- a marker as a response without reason, fields, body and xkeys
abbrev as_content : Marker → Content
as_content marker =
    record { key = marker.key; vary = marker.vary; varies_always = false; status = marker.status; reason = []; fields = []; body = []; xkeys = [] }

marker_back : (marker : Marker) (rest : List Word) → AreWords (marker_words marker) → content_at (looks (marker_words marker) rest) ≡ Ok (as_content marker, rest)
marker_back marker rest h =
    let same : content_words (as_content marker) ≡ marker_words marker =
    append_assoc (texts_words marker.key ++ vary_words false marker.vary) (Short marker.status ∷ Quoted [] ∷ Long 0 ∷ []) (Quoted [] ∷ []) in
    let written : List Word → Type 0 = λ words. AreWords words in
    let found : List Word → Type 0 = λ words. content_at (looks words rest) ≡ Ok (as_content marker, rest) in
    subst found same (content_back (as_content marker) rest (subst written (sym same) h))

pub object_back : (object : Object) (rest : List Word) → AreWords (object_words object) → object_at (looks (object_words object) rest) ≡ Ok (object, rest)
unfolding object_at object_kind_at object_kind_of named key_of object_of marker_of
object_back (Ordinary response) rest h =
    let object = Ordinary response in
    let time = response.timing in
    let front = front_words object in
    let xkeys_on = texts_words response.content.xkeys in
    let parts = parts_of (front ++ timing_words time) xkeys_on h in
    let more = parts_of front (timing_words time) parts.0 in
    let joined = looks_joined (content_words response.content ++ timing_words time) xkeys_on rest in
    let joined_front = looks_joined (content_words response.content) (timing_words time) (looks xkeys_on rest) in
    let content = content_back response.content (looks (timing_words time) (looks xkeys_on rest)) more.0.1 in
    let timing = timing_back time (looks xkeys_on rest) more.1 in
    let xkeys = texts_back response.content.xkeys rest in
    rw joined (rw joined_front (rw content (rw timing (rw xkeys refl))))
object_back (HitForMiss marker) rest h =
    let object = HitForMiss marker in
    let time = timing_of (HitForMiss marker) in
    let front = front_words object in
    let xkeys_on = texts_words [] in
    let parts = parts_of (front ++ timing_words time) xkeys_on h in
    let more = parts_of front (timing_words time) parts.0 in
    let joined = looks_joined (marker_words marker ++ timing_words time) xkeys_on rest in
    let joined_front = looks_joined (marker_words marker) (timing_words time) (looks xkeys_on rest) in
    let content = marker_back marker (looks (timing_words time) (looks xkeys_on rest)) more.0.1 in
    let timing = timing_back time (looks xkeys_on rest) more.1 in
    let xkeys = texts_back [] rest in
    rw joined (rw joined_front (rw content (rw timing (rw xkeys refl))))
object_back (HitForPass marker) rest h =
    let object = HitForPass marker in
    let time = timing_of (HitForPass marker) in
    let front = front_words object in
    let xkeys_on = texts_words [] in
    let parts = parts_of (front ++ timing_words time) xkeys_on h in
    let more = parts_of front (timing_words time) parts.0 in
    let joined = looks_joined (marker_words marker ++ timing_words time) xkeys_on rest in
    let joined_front = looks_joined (marker_words marker) (timing_words time) (looks xkeys_on rest) in
    let content = marker_back marker (looks (timing_words time) (looks xkeys_on rest)) more.0.1 in
    let timing = timing_back time (looks xkeys_on rest) more.1 in
    let xkeys = texts_back [] rest in
    rw joined (rw joined_front (rw content (rw timing (rw xkeys refl))))

kind_back : (kind : DirectorKind) (rest : List Word) → kind_at (Key (kind_key kind) ∷ rest) ≡ Ok (kind, rest)
unfolding kind_at named key_of kind_of
kind_back One rest = refl
kind_back RoundRobin rest = refl
kind_back Fallback rest = refl
kind_back Random rest = refl
kind_back Hash rest = refl

pub target_back : (target : Target) (rest : List Word) → AreWords (target_words target) → target_at (looks (target_words target) rest) ≡ Ok (target, rest)
unfolding target_at quoted_at text_at
target_back target rest h =
    let kind = kind_back target.kind (Quoted target.name ∷ looks (members_words target.members) rest) in
    let members = members_back target.members rest h.1.1 in
    rw kind (rw members refl)

pub options_back : (options : Options) (rest : List Word) → AreWords (options_words options) → options_at (looks (options_words options) rest) ≡ Ok (options, rest)
unfolding options_at
options_back options rest h =
    let grace = time_or_absent_back options.grace rest h.1.1.1.1.0 in
    let grace_on = loose (time_or_absent options.grace) ∷ rest in
    let ttl = time_or_absent_back options.ttl grace_on h.1.1.1.0 in
    let ttl_on = loose (time_or_absent options.ttl) ∷ grace_on in
    let vary = truth_back options.ignore_vary ttl_on in
    let vary_on = loose (truth_word options.ignore_vary) ∷ ttl_on in
    let busy = truth_back options.ignore_busy vary_on in
    let miss = truth_back options.always_miss (loose (truth_word options.ignore_busy) ∷ vary_on) in
    rw miss (rw busy (rw vary (rw ttl (rw grace refl))))

pub query_back : (query : Query) (rest : List Word) → AreWords (query_words query) → query_at (looks (query_words query) rest) ≡ Ok (query, rest)
unfolding query_at quoted_at text_at
query_back query rest h =
    let request = Quoted query.request.url ∷ fields_words query.request.fields in
    let options_on = options_words query.options in
    let parts = parts_of (texts_words query.key ++ request) options_on h in
    let more = parts_of (texts_words query.key) request parts.0 in
    let joined = looks_joined (texts_words query.key ++ request) options_on rest in
    let joined_key = looks_joined (texts_words query.key) request (looks options_on rest) in
    let key = texts_back query.key (looks request (looks options_on rest)) in
    let fields = fields_back query.request.fields (looks options_on rest) more.1.1 in
    let options = options_back query.options rest parts.1 in
    rw joined (rw joined_key (rw key (rw fields (rw options refl))))

health_back : (health : Health) (rest : List Word) → health_at (Key (health_key health) ∷ rest) ≡ Ok (health, rest)
unfolding health_at health_of named key_of
health_back Auto rest = refl
health_back Healthy rest = refl
health_back Sick rest = refl

-- a call, its ban without conditions
pub call_back : (call : Call) (rest : List Word) → AreWords (call_words call) → call_at (looks (call_words call) rest) ≡ Ok (bare_call call, rest)
unfolding call_at key_call_at vcl_call_at plain_call_at plain_call_of named key_of quoted_at text_at long_at lookup_at pick_at insert_at ban_at purge_at xkey_at set_health_at load_at source_at switch_at discard_at drop_at ban_of
call_back Begin rest h = refl
call_back Draw rest h = refl
call_back (Lookup query) rest h = let e = query_back query rest h.1 in rw e refl
call_back (Pick number target word) rest h =
    let all = parts_of (target_words target) (Long word ∷ []) h.1.1 in
    let joined = looks_joined (target_words target) (Long word ∷ []) rest in
    let first = middle_back number (looks (target_words target ++ Long word ∷ []) rest) h.1.0 in
    let e = target_back target (Long word ∷ rest) all.0 in
    rw first (rw joined (rw e refl))
call_back (Insert token object stale) rest h =
    let last = number_or_absent stale ∷ [] in
    let all = parts_of (object_words object) last h.1.1 in
    let joined = looks_joined (object_words object) last rest in
    let e = object_back object (looks last rest) all.0 in
    let s = number_or_absent_back stale rest in
    rw joined (rw e (rw s refl))
call_back (Ban ban) rest h = let e = texts_back ban.words rest in rw e refl
call_back BanList rest h = refl
call_back (Purge key) rest h = let e = texts_back key rest in rw e refl
call_back (Xkey keys soft) rest h =
    let last = truth_word soft ∷ [] in
    let joined = looks_joined (texts_words keys) last rest in
    let e = texts_back keys (looks last rest) in
    let s = truth_back soft rest in
    rw joined (rw e (rw s refl))
call_back (SetHealth backend health) rest h = let e = health_back health rest in rw e refl
call_back (Load source) rest h = let e = texts_back source.backends rest in rw e refl
call_back (Switch name) rest h = refl
call_back (Discard name) rest h = refl
call_back VclList rest h = refl
call_back (Drop token) rest h = refl
call_back End rest h = refl

ban_line_back : (ban : ShownBan) (rest : List Word) → AreWords (ban_line_words ban) → ban_line_at (looks (ban_line_words ban) rest) ≡ Ok (ban, rest)
unfolding ban_line_at long_at
ban_line_back ban rest h = let e = truth_back ban.completed rest in rw e refl

state_back : (state : VclState) (rest : List Word) → state_at (Key (state_key state) ∷ rest) ≡ Ok (state, rest)
unfolding state_at state_of named key_of
state_back vcl.Active rest = refl
state_back vcl.Available rest = refl
state_back vcl.Discarded rest = refl

vcl_line_back : (vcl_line : VclLine) (rest : List Word) → AreWords (vcl_line_words vcl_line) → vcl_line_at (looks (vcl_line_words vcl_line) rest) ≡ Ok (vcl_line, rest)
unfolding vcl_line_at long_at quoted_at text_at
vcl_line_back vcl_line rest h = let e = state_back vcl_line.state (Long vcl_line.references ∷ Quoted vcl_line.name ∷ rest) in rw e refl

pub shown_back : (reply : Shown) (rest : List Word) → AreWords (shown_words reply) → reply_at (looks (shown_words reply) rest) ≡ Ok (reply, rest)
unfolding reply_at vcl_reply_at plain_reply_at plain_of refusal_of numbered_at numbered_kind_at numbered_kind_of numbered_of named key_of list_at long_at began_at grace_at miss_at picked_at bans_at is_set_at loaded_at vcls_at
shown_back (shown.Began number vcl_number) rest h = let e = middle_back vcl_number rest h.1.1.0 in rw e refl
shown_back shown.NoRound rest h = refl
shown_back (shown.Drawn number) rest h = refl
shown_back (shown.Hit number) rest h = refl
shown_back (shown.HitMiss token) rest h = refl
shown_back shown.HitPass rest h = refl
shown_back (shown.Grace number token) rest h = let e = number_or_absent_back token rest in rw e refl
shown_back (shown.Wait token) rest h = refl
shown_back (shown.Miss token stale) rest h = let e = number_or_absent_back stale rest in rw e refl
shown_back (shown.Picked name) rest h = let e = text_or_absent_back name rest in rw e refl
shown_back (shown.Stored number) rest h = refl
shown_back shown.NotOpen rest h = refl
shown_back shown.StaleGone rest h = refl
shown_back shown.NotInTime rest h = refl
shown_back shown.NoRoom rest h = refl
shown_back shown.Refused rest h = refl
shown_back shown.Banned rest h = refl
shown_back (shown.Bans bans) rest h = let e = items_back ban_line_at ban_line_words ban_line_back bans rest h.1.1 in rw e refl
shown_back (shown.Purged count) rest h = refl
shown_back (shown.HealthSet is_set) rest h = let e = truth_back is_set rest in rw e refl
shown_back (shown.Loaded number) rest h = let e = middle_back number rest h.1.0 in rw e refl
shown_back shown.NameTaken rest h = refl
shown_back shown.Switched rest h = refl
shown_back shown.NoVcl rest h = refl
shown_back shown.Discarded rest h = refl
shown_back shown.IsActive rest h = refl
shown_back (shown.Vcls lines) rest h = let e = items_back vcl_line_at vcl_line_words vcl_line_back lines rest h.1.1 in rw e refl
shown_back shown.Dropped rest h = refl
shown_back shown.Ended rest h = refl

abbrev bare_said : Said → Said
bare_said said = record said { call = bare_call said.call }

said_back : (said : Said) (rest : List Word) → AreWords (Middle said.caller ∷ Long said.moment ∷ (call_words said.call ++ Key (codes "=") ∷ shown_words said.reply)) → said_at (looks (Middle said.caller ∷ Long said.moment ∷ (call_words said.call ++ Key (codes "=") ∷ shown_words said.reply)) rest) ≡ Ok (bare_said said, rest)
unfolding said_at equals_at key_of long_at
said_back said rest h =
    let end = Key (codes "=") ∷ shown_words said.reply in
    let parts = parts_of (call_words said.call) end h.1.1 in
    let joined = looks_joined (call_words said.call) end rest in
    let caller = middle_back said.caller (Long said.moment ∷ looks (call_words said.call ++ end) rest) h.0 in
    let call = call_back said.call (looks end rest) parts.0 in
    let reply = shown_back said.reply rest parts.1.1 in
    rw caller (rw joined (rw call (rw reply refl)))

pub line_back : (one : Line) → AreWords (line_words one) → line_at (looks (line_words one) []) ≡ Ok (bare one, [])
unfolding line_at mark_of named key_of first_line_at first_at entry_line_at long_at quoted_at text_at
line_back (line.First first) h = let e = texts_back first.boot.backends [] in rw e refl
line_back (line.Entry said) h = let e = said_back said [] h.1 in rw e refl
line_back line.Cut h = refl
line_back line.Close h = refl
