-- How many of the first have to go.
use Rattle.std.proofs.Common.{◌≡◌, ◌<◌, ◌≤◌, ◌+◌, ◌-◌, ℕ, zero, suc, Bool, true, false, not, List, [], ◌∷◌, ◌++◌, length, take, drop, map, filter, sum, cond, Option, None, Some, refl, sym, ◌∙◌, ap, subst, arith, ⊎_elim, append_assoc, length-append}
use Rattle.std.specs.Prelude.{nat_eq}
use Rattle.std.specs.Option.{option_eq}
use Rattle.std.specs.Map.{values_of}
use Rattle.std.proofs.lemmas.Bool.{cases_lt}
use Rattle.std.proofs.lemmas.List.{map-append, length-map, drop-map}
use Rattle.std.proofs.lemmas.List.Sums.{sum_by-cons}
use Rattle.std.proofs.Math.Seq.{take-append_seam, drop-append_seam}
use Rattle.room_lru.specs.Members.{Used, sizes_of, handles_of, total_of}
use Rattle.room_lru.specs.Room.{MakesRoom, AreOut, LackRoom, most_out, others}

-- ---- there is such a number where the new one fits at all
one_more : (room size x : ℕ) (sizes : List ℕ) (count : ℕ) → room < sum (x ∷ sizes) + size → MakesRoom room size sizes count
    → MakesRoom room size (x ∷ sizes) (suc count)
one_more room size x sizes count over made = record {
  within = omega (arith, made.within);
  fits = made.fits;
  least = least;
} where
  least : (fewer : ℕ) → fewer < suc count → room < sum (drop fewer (x ∷ sizes)) + size
  least zero less = over
  least (suc fewer) less = made.least fewer (omega arith)

pub some_count : (room size : ℕ) (sizes : List ℕ) → size ≤ room → (count : ℕ) × MakesRoom room size sizes count
some_count room size [] holds = (0, record { within = omega arith; fits = omega arith; least = λ fewer less. absurd (omega arith) })
some_count room size (x ∷ sizes) holds =
    let rest = some_count room size sizes holds in
    ⊎_elim
    (λ over. (suc rest.0, one_more room size x sizes rest.0 over rest.1))
    (λ fits. (0, record { within = omega arith; fits = fits; least = λ fewer less. absurd (omega arith) }))
    (cases_lt room (sum (x ∷ sizes) + size))

-- ---- the loop over the first of the others
-- those of some members that go first, and those that stay, with their sum
pub record Goes (room size : ℕ) (all rest : List Used) (left : ℕ) (handles : List ℕ) : Type 0 where
  pub gone : List Used
  pub all_are : all ≡ gone ++ rest
  pub handles_are : handles ≡ handles_of gone
  pub few : length handles ≤ most_out
  pub left_is : left ≡ total_of rest
  pub least : (fewer : ℕ) → fewer < length handles → room < sum (drop fewer (sizes_of all)) + size

abbrev pub stays : Option ℕ → Used → Bool
stays but member = not (option_eq nat_eq but (Some member.0))

all_stay : (members : List Used) → members ≡ filter (stays None) members
all_stay [] = refl
all_stay (m ∷ ms) = ap (λ es. m ∷ es) (all_stay ms)

pub others_are : (but : Option ℕ) (members : List Used) → others but members ≡ filter (stays but) members
others_are None members = all_stay members
others_are (Some used) members = refl

pub goes_none : (room size : ℕ) (but : Option ℕ) (members : List Used) (total : ℕ) → total ≡ total_of (others but members)
    → Goes room size (others but members) (filter (stays but) members) total []
goes_none room size but members total is = record {
  gone = [];
  all_are = others_are but members;
  handles_are = refl;
  few = omega arith;
  left_is = is ∙ ap total_of (others_are but members);
  least = λ fewer less. absurd (omega arith);
}

pub next_stays : (but : Option ℕ) (rest : List Used) (member : Used) (more : List Used) → rest ≡ member ∷ more → option_eq nat_eq but (Some member.0) ≡ false
    → filter (stays but) rest ≡ member ∷ filter (stays but) more
next_stays but rest member more is other = ap (filter (stays but)) is ∙ ap (λ b. cond (not b) (member ∷ filter (stays but) more) (filter (stays but) more)) other

pub next_skipped : (but : Option ℕ) (rest : List Used) (member : Used) (more : List Used) → rest ≡ member ∷ more → option_eq nat_eq but (Some member.0) ≡ true
    → filter (stays but) rest ≡ filter (stays but) more
next_skipped but rest member more is same = ap (filter (stays but)) is ∙ ap (λ b. cond (not b) (member ∷ filter (stays but) more) (filter (stays but) more)) same

length_gone : (gone : List Used) (handles : List ℕ) → handles ≡ handles_of gone → length handles ≡ length gone
length_gone gone handles is = ap length is ∙ length-map (values_of gone) (λ m. m.handle) ∙ length-map gone (λ m. m.1)

stay_behind : {room size : ℕ} {all rest : List Used} {left : ℕ} {handles : List ℕ} → Goes room size all rest left handles
    → sum (drop (length handles) (sizes_of all)) ≡ left
stay_behind {room} {size} {all} {rest} {left} {handles} goes =
    ap (λ n. sum (drop n (sizes_of all))) (length_gone goes.gone handles goes.handles_are)
    ∙ ap sum (drop-map (λ m. m.size) (length goes.gone) (values_of all))
    ∙ ap (λ ms. sum (map (λ m. m.size) ms)) (drop-map (λ m. m.1) (length goes.gone) all)
    ∙ ap (λ ms. total_of (drop (length goes.gone) ms)) goes.all_are
    ∙ ap total_of (drop-append_seam goes.gone rest)
    ∙ sym goes.left_is

pub goes_more : (room size : ℕ) (all rest : List Used) (member : Used) (left : ℕ) (handles : List ℕ) → Goes room size all (member ∷ rest) left handles
    → room < left + size → length handles < most_out → Goes room size all rest (left - member.1.size) (handles ++ member.1.handle ∷ [])
goes_more room size all rest member left handles goes over few = record {
  gone = goes.gone ++ member ∷ [];
  all_are = goes.all_are ∙ sym (append_assoc goes.gone (member ∷ []) rest);
  handles_are = ap (λ hs. hs ++ member.1.handle ∷ []) goes.handles_are ∙ sym (ap (map (λ m. m.handle)) (map-append (λ m. m.1) goes.gone (member ∷ [])) ∙ map-append (λ m. m.handle) (values_of goes.gone) (member.1 ∷ []));
  few = let longer = length-append handles (member.1.handle ∷ []) in omega arith;
  left_is = let sum = sum_by-cons (λ n. n) member.1.size (sizes_of rest) in let is = goes.left_is in omega arith;
  least = λ fewer less. let longer = length-append handles (member.1.handle ∷ []) in
      ⊎_elim (λ below. goes.least fewer below)
      (λ above. let here : fewer ≡ length handles = omega arith in subst (λ n. room < sum (drop n (sizes_of all)) + size) (sym here) (rw (stay_behind goes) over))
      (cases_lt fewer (length handles));
}

pub out_where_fits : (room size : ℕ) (all rest : List Used) (left : ℕ) (handles : List ℕ) → Goes room size all rest left handles
    → left + size ≤ room → AreOut room size all handles
out_where_fits room size all rest left handles goes fits =
    let many = length_gone goes.gone handles goes.handles_are in
    let longer = ap length goes.all_are ∙ length-append goes.gone rest in
    let sizes = length-map (values_of all) (λ m. m.size) ∙ length-map all (λ m. m.1) in
    record {
      few = goes.few;
      least = record { within = omega arith; fits = rw (stay_behind goes) fits; least = goes.least };
      first = goes.handles_are ∙ ap handles_of (sym (take-append_seam goes.gone rest) ∙ ap (λ ms. take (length goes.gone) ms) (sym goes.all_are) ∙ ap (λ n. take n all) (sym many));
    }

pub lack_where_many : (room size : ℕ) (all rest : List Used) (left : ℕ) (handles : List ℕ) → Goes room size all rest left handles
    → length handles ≡ most_out → room < left + size → LackRoom room size all
lack_where_many room size all rest left handles goes many over count made =
    ⊎_elim (λ more. more)
    (λ few. ⊎_elim
    (λ below. let short = goes.least count below in absurd (omega (arith, made.fits)))
    (λ above. let here : count ≡ length handles = omega arith in let fits = subst (λ n. sum (drop n (sizes_of all)) + size ≤ room) here made.fits in let stays = stay_behind goes in absurd (omega arith))
    (cases_lt count (length handles)))
    (cases_lt most_out count)

pub lack_where_small : (room size : ℕ) (all : List Used) → room < size → LackRoom room size all
lack_where_small room size all small count made = absurd (omega (arith, made.fits))
