-- Things that happened, one list behind another.
use Rattle.std.proofs.Common.{◌≡◌, ℕ, Bool, true, false, ◌||◌, List, [], ◌∷◌, ◌++◌, refl, sym, ap, ◌∙◌, subst}
use Rattle.std.specs.List.{AllByRecursion}
use Rattle.std.proofs.lemmas.List.{append_assoc}
use Rattle.http_heads.specs.declared.exchange.Backend.{Backend}
use Rattle.http_heads.specs.declared.exchange.Got.{Got}
use Rattle.wire.specs.Telling.{LinkTold}
use Rattle.wire.specs.declared.peer.Talk.{Talk}
use Rattle.cache_law.specs.declared.call.Entry.{Entry}
use Rattle.cache_law.specs.declared.rounds.Given.{Given}
use Rattle.round_task.specs.declared.want.Want.{Want}
use Rattle.round_task.specs.Happened.{Happened, behind, entries_for, entries_of, exchanges_for, exchanges_of, bytes_for, bytes_of}
use Rattle.round_lead.specs.Talks.{TalksOf}
use Rattle.round_lead.specs.Things.{Runs, closes_for, closes_of}

pub entries_of-append : (caller : ℕ) (xs ys : List Happened) → entries_of caller (xs ++ ys) ≡ entries_of caller xs ++ entries_of caller ys
entries_of-append caller [] ys = refl
entries_of-append caller (x ∷ xs) ys =
    ap (λ (es : List Entry). entries_for caller x.want x.given ++ es) (entries_of-append caller xs ys)
    ∙ sym (append_assoc (entries_for caller x.want x.given) (entries_of caller xs) (entries_of caller ys))

pub exchanges_of-append : (xs ys : List Happened) → exchanges_of (xs ++ ys) ≡ exchanges_of xs ++ exchanges_of ys
exchanges_of-append [] ys = refl
exchanges_of-append (x ∷ xs) ys =
    ap (λ (es : List Got). exchanges_for x.want x.given ++ es) (exchanges_of-append xs ys)
    ∙ sym (append_assoc (exchanges_for x.want x.given) (exchanges_of xs) (exchanges_of ys))

pub bytes_of-append : (xs ys : List Happened) → bytes_of (xs ++ ys) ≡ bytes_of xs ++ bytes_of ys
bytes_of-append [] ys = refl
bytes_of-append (x ∷ xs) ys =
    ap (λ (bs : List ℕ). bytes_for x.want x.given ++ bs) (bytes_of-append xs ys) ∙ sym (append_assoc (bytes_for x.want x.given) (bytes_of xs) (bytes_of ys))

or_assoc : (a b c : Bool) → (a || (b || c)) ≡ ((a || b) || c)
or_assoc true b c = refl
or_assoc false b c = refl

pub or_none : (a : Bool) → (a || false) ≡ a
or_none true = refl
or_none false = refl

pub closes_of-append : (xs ys : List Happened) → closes_of (xs ++ ys) ≡ (closes_of xs || closes_of ys)
closes_of-append [] ys = refl
closes_of-append (x ∷ xs) ys =
    ap (λ (b : Bool). closes_for x.want x.given || b) (closes_of-append xs ys) ∙ or_assoc (closes_for x.want x.given) (closes_of xs) (closes_of ys)

pub or_then : (x y z a b : Bool) → y ≡ (x || a) → z ≡ (y || b) → z ≡ (x || (a || b))
or_then x y z a b one two = two ∙ (ap (λ (v : Bool). v || b) one ∙ sym (or_assoc x a b))

pub talks_then : {L : Type 0} → (heard : L → LinkTold) (backends : List ℕ → Backend) (xs ys : List Happened) (talks more : List (Talk L))
    → TalksOf heard backends xs talks → TalksOf heard backends ys more → TalksOf heard backends (xs ++ ys) (talks ++ more)
talks_then {L = L} heard backends [] ys talks more one two = subst (λ (t : List (Talk L)). TalksOf heard backends ys (t ++ more)) (sym one) two
talks_then heard backends (x ∷ xs) ys talks more one two = (
  one.0,
  one.1 ++ more,
  ap (λ (t : List (Talk _)). t ++ more) one.2 ∙ append_assoc one.0 one.1 more,
  one.3,
  talks_then heard backends xs ys one.1 more one.4 two,
)

pub all_then : {X : Type 0} → (P : X → Type 0) (xs ys : List X) → AllByRecursion P xs → AllByRecursion P ys → AllByRecursion P (xs ++ ys)
all_then P [] ys one two = two
all_then P (x ∷ xs) ys one two = (one.0, all_then P xs ys one.1 two)

pub all_wider : {X : Type 0} → (P Q : X → Type 0) (xs : List X) → ((x : X) → P x → Q x) → AllByRecursion P xs → AllByRecursion Q xs
all_wider P Q [] wider all = tt
all_wider P Q (x ∷ xs) wider all = (wider x all.0, all_wider P Q xs wider all.1)

-- ---- runs

pub behind-append : (givens : List Given) (xs ys : List Happened) → behind givens (xs ++ ys) ≡ behind (behind givens xs) ys
behind-append givens [] ys = refl
behind-append givens (x ∷ xs) ys = behind-append (x.given ∷ givens) xs ys

pub runs_then : (wants : List Given → Want → Type 0) (givens : List Given) (xs ys : List Happened) → Runs wants givens xs → Runs wants (behind givens xs) ys → Runs wants givens (xs ++ ys)
runs_then wants givens [] ys one two = two
runs_then wants givens (x ∷ xs) ys one two = (one.0, one.1, runs_then wants (x.given ∷ givens) xs ys one.2 two)

pub runs_wider : (wants others : List Given → Want → Type 0) (givens : List Given) (xs : List Happened) → ((g : List Given) (w : Want) → wants g w → others g w)
    → Runs wants givens xs → Runs others givens xs
runs_wider wants others givens [] wider runs = tt
runs_wider wants others givens (x ∷ xs) wider runs = (wider givens x.want runs.0, runs.1, runs_wider wants others (x.given ∷ givens) xs wider runs.2)
