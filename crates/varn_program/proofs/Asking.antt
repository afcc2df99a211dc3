-- Words ask for one replay at most.
use Rattle.std.proofs.Common.{◌≡◌, Bool, false, ◌<◌, ◌≤◌, get_or, inl, inr, ℕ, List, [], ◌∷◌, length, sym, ◌∙◌, ap, arith}
use Rattle.std.specs.Prelude.{codes}
use Rattle.std.proofs.lemmas.Fmt.{decimal_injective}
use Rattle.units.specs.Numbers.{IsNumber}
use Rattle.cache_law.specs.declared.setting.Params.{Params}
use Rattle.varn_program.specs.Words.{most, IsOption, Gives, AsksReplay}

one_number : (wanted name value : List ℕ) (m n : ℕ) → IsOption wanted name value m → IsOption wanted name value n → m ≡ n
one_number wanted name value m n p q = decimal_injective m n p.value_is.0 q.value_is.0 (sym p.value_is.1 ∙ q.value_is.1)

-- a number over the limit is no option's
pub too_great : (wanted name value bytes : List ℕ) (number other : ℕ) → bytes ≡ value → IsNumber bytes number → most < number → IsOption wanted name value other → ⊥
too_great wanted name value bytes number other is read over p =
    let same : number ≡ other = decimal_injective number other read.0 p.value_is.0 (sym read.1 ∙ (is ∙ p.value_is.1)) in
    omega (arith, p.within, over)

other_name : (name value : List ℕ) (m n : ℕ) → IsOption (codes "--room") name value m → IsOption (codes "--history") name value n → ⊥
other_name name value m n p q = let room = p.name_is in let history = q.name_is in absurd (cc)

same_room : (name value : List ℕ) (room history other held : ℕ) → Gives (name ∷ value ∷ []) room history → Gives (name ∷ value ∷ []) other held → (room ≡ other) × (history ≡ held)
same_room name value room history other held (inl p) (inl q) = (one_number _ name value room other p.0 q.0, p.1 ∙ sym q.1)
same_room name value room history other held (inl p) (inr q) = absurd (other_name name value room held p.0 q.0)
same_room name value room history other held (inr p) (inl q) = absurd (other_name name value other history q.0 p.0)
same_room name value room history other held (inr p) (inr q) = (p.1 ∙ sym q.1, one_number _ name value history held p.0 q.0)

same_both : (name value word number : List ℕ) (room history other held : ℕ) → Gives (name ∷ value ∷ word ∷ number ∷ []) room history → Gives (name ∷ value ∷ word ∷ number ∷ []) other held → (room ≡ other) × (history ≡ held)
same_both name value word number room history other held (inl p) (inl q) = (one_number _ name value room other p.0 q.0, one_number _ word number history held p.1 q.1)
same_both name value word number room history other held (inl p) (inr q) = absurd (other_name name value room held p.0 q.0)
same_both name value word number room history other held (inr p) (inl q) = absurd (other_name name value other history q.0 p.0)
same_both name value word number room history other held (inr p) (inr q) = (one_number _ word number room other p.1 q.1, one_number _ name value history held p.0 q.0)

same_limits : (options : List (List ℕ)) (room history other held : ℕ) → Gives options room history → Gives options other held → (room ≡ other) × (history ≡ held)
same_limits [] room history other held p q = (p.0 ∙ sym q.0, p.1 ∙ sym q.1)
same_limits (name ∷ []) room history other held p q = absurd p
same_limits (name ∷ value ∷ []) room history other held p q = same_room name value room history other held p q
same_limits (name ∷ value ∷ word ∷ []) room history other held p q = absurd p
same_limits (name ∷ value ∷ word ∷ number ∷ []) room history other held p q = same_both name value word number room history other held p q
same_limits (name ∷ value ∷ word ∷ number ∷ more ∷ words) room history other held p q = absurd p

pub one_replay : (words : List (List ℕ)) (one other : Params) → AsksReplay words one → AsksReplay words other → other ≡ one
one_replay [] one other p q = absurd p
one_replay (word ∷ options) one other p q =
    let same = same_limits options one.room one.history other.room other.history p.1 q.1 in
    let limits : ℕ → ℕ → Bool → Params = λ room history segments. record { room = room; history = history; segments = segments } in
    ap (λ room. limits room other.history other.segments) (sym same.0)
    ∙ ap (λ history. limits one.room history other.segments) (sym same.1)
    ∙ ap (λ segments. limits one.room one.history segments) (q.2 ∙ sym p.2)

-- a replay keeps no segments
pub unsegmented_of : (words : List (List ℕ)) (params : Params) → AsksReplay words params → params.segments ≡ false
unsegmented_of [] params asks = absurd asks
unsegmented_of (word ∷ options) params asks = asks.2

-- the words of a list of two
pub two_words : (words : List (List ℕ)) (first second : List ℕ) → 2 ≤ length words → length words < 3 → first ≡ get_or words 0 first → second ≡ get_or words 1 second → first ∷ second ∷ [] ≡ words
two_words [] first second least most one two = absurd (omega arith)
two_words (x ∷ []) first second least most one two = absurd (omega arith)
two_words (x ∷ y ∷ []) first second least most one two = cc
two_words (x ∷ y ∷ z ∷ more) first second least most one two = absurd (omega arith)
