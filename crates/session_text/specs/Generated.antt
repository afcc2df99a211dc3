-- The session that a load plays, made from a number.
use Rattle.std.specs.Prelude.{ℕ, zero, suc, ◌+◌, ◌*◌, ◌/◌, ◌%◌, List, [], ◌∷◌, ◌++◌, Bool, true, false, ◌==◌, codes, get_or, set, replicate, if◌then◌else◌}
use Rattle.std.specs.Fmt.{decimal}
use Rattle.units.specs.Signs.{line_feed}
use Rattle.session_text.specs.declared.generated.Deed.{Deed}
use Rattle.session_text.specs.declared.generated.Deed.TheVariants.{Ban, Lurk, AskTwice, Ask}
use Rattle.session_text.specs.declared.generated.Load.{Load}

-- so many pages, numbered from 0 on, are asked for
abbrev pub pages : ℕ
pages = 64

-- the state behind this one: a linear congruential generator
abbrev pub next_state : ℕ → ℕ
next_state state = (state * 1103515245 + 12345) % 2147483648

-- the word of a state, and the page that the word names
abbrev pub word_of : ℕ → ℕ
word_of state = state / 65536

abbrev pub page_of : ℕ → ℕ
page_of word = word % pages

-- what is done with the page: a number from 0 to 7 says it
abbrev pub deed_numbered : ℕ → Deed
deed_numbered number = if number == 0 then Ban else if number == 1 then Lurk else if number == 2 then AskTwice else Ask

abbrev pub deed_of : ℕ → Deed
deed_of word = deed_numbered (word / pages % 8)

-- the lines that a step writes
abbrev pub line : List ℕ → List ℕ
line says = says ++ line_feed ∷ []

abbrev pub at_line : ℕ → List ℕ
at_line moment = line (codes "at " ++ decimal moment)

abbrev pub ban_line : ℕ → List ℕ
ban_line page = line (codes "cli ban obj.http.j == " ++ decimal page)

abbrev pub lurk_line : List ℕ
lurk_line = line (codes "lurk 64")

abbrev pub request_line : ℕ → ℕ → List ℕ
request_line client page = line (codes "req " ++ decimal client ++ codes " \"GET /" ++ decimal page ++ codes " HTTP/1.1\\r\\nHost: h\\r\\n\\r\\n\"")

abbrev pub reply_line : ℕ → ℕ → List ℕ
reply_line fetch page =
    line (codes "reply " ++ decimal fetch ++ codes " \"HTTP/1.1 200 OK\\r\\nJ: " ++ decimal page ++ codes "\\r\\nContent-Length: 2\\r\\n\\r\\nhi\"")

-- The load before its first step: no page is stored, and the first round is 1.
abbrev pub first_load : ℕ → Load
first_load seed = record { state = seed; next = 1; stored = replicate pages false }

-- A page that isn't stored is fetched by the first round that asks for it: the fetch has the number behind that round's.
abbrev pub fetched : ℕ → Load → List ℕ
fetched page load = if get_or load.stored page false then [] else reply_line (load.next + 1) page

-- so many rounds ask for a page: each takes a number, and the fetch takes one
abbrev pub asked : ℕ → ℕ → Load → Load
asked rounds page load =
    if get_or load.stored page false
    then record load { next = load.next + rounds }
    else record load { next = load.next + rounds + 1; stored = set load.stored page true }

-- what is written for a deed, and what it leaves
abbrev pub deed_text : Deed → ℕ → Load → List ℕ
deed_text Ban page load = ban_line page
deed_text Lurk page load = lurk_line
deed_text AskTwice page load = request_line 1 page ++ request_line 2 page ++ fetched page load
deed_text Ask page load = request_line 1 page ++ fetched page load

abbrev pub done : Deed → ℕ → Load → Load
done Ban page load = record load { stored = set load.stored page false }
done Lurk page load = load
done AskTwice page load = asked 2 page load
done Ask page load = asked 1 page load

-- a step draws a state, and does with the page of its word what the word says
abbrev pub drawn : Load → Load
drawn load = record load { state = next_state load.state }

abbrev pub step_text : ℕ → Load → List ℕ
step_text step load = at_line step ++ deed_text (deed_of (word_of (next_state load.state))) (page_of (word_of (next_state load.state))) load

abbrev pub behind_step : Load → Load
behind_step load = done (deed_of (word_of (next_state load.state))) (page_of (word_of (next_state load.state))) (drawn load)

-- so many steps, the first of them with this number
abbrev pub steps_text : ℕ → ℕ → Load → List ℕ
steps_text zero step load = []
steps_text (suc count) step load = step_text step load ++ steps_text count (step + 1) (behind_step load)

-- the load behind so many steps
abbrev pub behind_steps : ℕ → Load → Load
behind_steps zero load = load
behind_steps (suc count) load = behind_steps count (behind_step load)

-- the session of this number with so many steps
abbrev pub generated : ℕ → ℕ → List ℕ
generated seed steps = steps_text steps 1 (first_load seed) ++ line (codes "end")
