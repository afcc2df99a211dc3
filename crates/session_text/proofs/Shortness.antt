-- How much the steps of a load write.
use Rattle.std.proofs.Common.{◌≡◌, ℕ, zero, suc, ◌+◌, ◌*◌, ◌/◌, ◌%◌, ◌<◌, ◌≤◌, ◌^◌, ◌++◌, Bool, true, false, List, [], ◌∷◌, length, arith, refl, ap}
use Rattle.std.specs.Prelude.{codes, get_or, set, if◌then◌else◌}
use Rattle.units.specs.Signs.{line_feed}
use Rattle.std.specs.Fmt.{decimal}
use Rattle.std.proofs.lemmas.Fmt.{length-decimal-le}
use Rattle.std.proofs.lemmas.List.{length-append}
use Rattle.session_text.specs.declared.generated.Deed.{Deed}
use Rattle.session_text.specs.declared.generated.Deed.TheVariants.{Ban, Lurk, AskTwice, Ask}
use Rattle.session_text.specs.declared.generated.Load.{Load}
use Rattle.session_text.specs.Generated.{steps_text, step_text, behind_step, deed_text, deed_of, done, drawn, asked, fetched, at_line, ban_line, lurk_line, request_line, reply_line, page_of, word_of, next_state, generated, first_load}

two_digits : (n : ℕ) → n < 64 → length (decimal n) ≤ 2
two_digits n h = length-decimal-le 2 n (omega arith) (omega (arith, h)) (omega (arith, h))

six_digits : (n : ℕ) → n < 1000000 → length (decimal n) ≤ 6
six_digits n h = length-decimal-le 6 n (omega arith) (omega (arith, h)) (omega (arith, h))

behind_number : (number rest : List ℕ) → length (number ++ rest) ≡ length number + length rest
behind_number number rest = length-append number rest

at_short : (step : ℕ) → step < 1000000 → length (at_line step) ≤ 10
at_short step h =
    let a : length (decimal step ++ 10 ∷ []) ≡ length (decimal step) + 1 = length-append (decimal step) (10 ∷ []) in
    let d = six_digits step h in
    omega (arith, a, d)

ban_short : (page : ℕ) → page < 64 → length (ban_line page) ≤ 30
ban_short page h =
    let a : length (decimal page ++ 10 ∷ []) ≡ length (decimal page) + 1 = length-append (decimal page) (10 ∷ []) in
    let d = two_digits page h in
    omega (arith, a, d)

-- a line of two numbers
line_length : (first number between other behind end : List ℕ)
    → length (first ++ number ++ between ++ other ++ behind ++ end) ≡ length first + length number + length between + length other + length behind + length end
line_length first number between other behind end =
    let a : length (first ++ number ++ between ++ other ++ behind ++ end) ≡ length (first ++ number ++ between ++ other ++ behind) + length end = length-append (first ++ number ++ between ++ other ++ behind) end in
    let b : length (first ++ number ++ between ++ other ++ behind) ≡ length (first ++ number ++ between ++ other) + length behind = length-append (first ++ number ++ between ++ other) behind in
    let c : length (first ++ number ++ between ++ other) ≡ length (first ++ number ++ between) + length other = length-append (first ++ number ++ between) other in
    let d : length (first ++ number ++ between) ≡ length (first ++ number) + length between = length-append (first ++ number) between in
    let e : length (first ++ number) ≡ length first + length number = length-append first number in
    omega (arith, a, b, c, d, e)

request_short : (client page : ℕ) → client < 64 → page < 64 → length (request_line client page) ≤ 60
request_short client page k h =
    let a : length (request_line client page) ≡ 4 + length (decimal client) + 7 + length (decimal page) + 29 + 1 =
    line_length (codes "req ") (decimal client) (codes " \"GET /") (decimal page) (codes " HTTP/1.1\\r\\nHost: h\\r\\n\\r\\n\"") (line_feed ∷ []) in
    let c = two_digits client k in
    let p = two_digits page h in
    omega (arith, a, c, p)

reply_short : (fetch page : ℕ) → fetch < 1000000 → page < 64 → length (reply_line fetch page) ≤ 90
reply_short fetch page k h =
    let a : length (reply_line fetch page) ≡ 6 + length (decimal fetch) + 24 + length (decimal page) + 32 + 1 =
    line_length (codes "reply ") (decimal fetch) (codes " \"HTTP/1.1 200 OK\\r\\nJ: ") (decimal page) (codes "\\r\\nContent-Length: 2\\r\\n\\r\\nhi\"") (line_feed ∷ []) in
    let f = six_digits fetch k in
    let p = two_digits page h in
    omega (arith, a, f, p)

fetched_short : (page : ℕ) (load : Load) → load.next < 999999 → page < 64 → length (fetched page load) ≤ 90
fetched_short page load n h = by_case (get_or load.stored page false)
  where
    by_case : (b : Bool) → length (if b then [] else reply_line (load.next + 1) page) ≤ 90
    by_case true = omega arith
    by_case false = reply_short (load.next + 1) page (omega (arith, n)) h

deed_short : (deed : Deed) (page : ℕ) (load : Load) → load.next < 999999 → page < 64 → length (deed_text deed page load) ≤ 210
deed_short Ban page load n h = let a = ban_short page h in omega (arith, a)
deed_short Lurk page load n h = omega arith
deed_short AskTwice page load n h =
    let a : length (request_line 1 page ++ request_line 2 page ++ fetched page load) ≡ length (request_line 1 page ++ request_line 2 page) + length (fetched page load) =
    length-append (request_line 1 page ++ request_line 2 page) (fetched page load) in
    let b : length (request_line 1 page ++ request_line 2 page) ≡ length (request_line 1 page) + length (request_line 2 page) = length-append (request_line 1 page) (request_line 2 page) in
    let one = request_short 1 page (omega arith) h in
    let two = request_short 2 page (omega arith) h in
    let f = fetched_short page load n h in
    omega (arith, a, b, one, two, f)
deed_short Ask page load n h =
    let a : length (request_line 1 page ++ fetched page load) ≡ length (request_line 1 page) + length (fetched page load) = length-append (request_line 1 page) (fetched page load) in
    let one = request_short 1 page (omega arith) h in
    let f = fetched_short page load n h in
    omega (arith, a, one, f)

page_within : (word : ℕ) → page_of word < 64
page_within word = omega arith

step_short : (step : ℕ) (load : Load) → step < 1000000 → load.next < 999999 → length (step_text step load) ≤ 220
step_short step load s n =
    let word = word_of (next_state load.state) in
    let a : length (step_text step load) ≡ length (at_line step) + length (deed_text (deed_of word) (page_of word) load) = length-append (at_line step) (deed_text (deed_of word) (page_of word) load) in
    let t = at_short step s in
    let d = deed_short (deed_of word) (page_of word) load n (page_within word) in
    omega (arith, a, t, d)

asked_next : (rounds page : ℕ) (load : Load) → rounds ≤ 2 → (asked rounds page load).next ≤ load.next + 3
asked_next rounds page load r = by_case (get_or load.stored page false)
  where
    by_case : (b : Bool) → (if b then record load { next = load.next + rounds } else record load { next = load.next + rounds + 1; stored = set load.stored page true }).next ≤ load.next + 3
    by_case true = omega (arith, r)
    by_case false = omega (arith, r)

done_next : (deed : Deed) (page : ℕ) (load : Load) → (done deed page load).next ≤ load.next + 3
done_next Ban page load = omega arith
done_next Lurk page load = omega arith
done_next AskTwice page load = asked_next 2 page load (omega arith)
done_next Ask page load = asked_next 1 page load (omega arith)

steps_short : (count step : ℕ) (load : Load) → step + count < 1000000 → load.next + 3 * count < 999999 → length (steps_text count step load) ≤ 220 * count
steps_short zero step load s n = omega arith
steps_short (suc count) step load s n =
    let a : length (steps_text (suc count) step load) ≡ length (step_text step load) + length (steps_text count (step + 1) (behind_step load)) = length-append (step_text step load) (steps_text count (step + 1) (behind_step load)) in
    let word = word_of (next_state load.state) in
    let k : (behind_step load).next ≤ load.next + 3 = done_next (deed_of word) (page_of word) (drawn load) in
    let one = step_short step load (omega (arith, s)) (omega (arith, n)) in
    let rest = steps_short count (step + 1) (behind_step load) (omega (arith, s)) (omega (arith, n, k)) in
    omega (arith, a, one, rest)

pub generated_short : (seed steps : ℕ) → steps ≤ 100000 → length (generated seed steps) ≤ 67108864
generated_short seed steps h =
    let a : length (generated seed steps) ≡ length (steps_text steps 1 (first_load seed)) + 4 = length-append (steps_text steps 1 (first_load seed)) (codes "end" ++ line_feed ∷ []) in
    let s = steps_short steps 1 (first_load seed) (omega (arith, h)) (omega (arith, h)) in
    omega (arith, a, s, h)
