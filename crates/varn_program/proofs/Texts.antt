-- The words of a replay as texts.
use Rattle.std.proofs.Common.{◌≡◌, false, inl, inr, ℕ, List, [], ◌∷◌, Option, Some, None, codes, refl, sym, ◌∙◌, subst, All, IsUtf8, rules}
use Rattle.std.proofs.lemmas.Fmt.{IsAscii-decimal, decimal_injective}
use Rattle.std.proofs.lemmas.Str.{IsUtf8-from_ascii}
use Rattle.std.proofs.lemmas.List.Elements.{All-cons, All-nil}
use Rattle.units.specs.Numbers.{IsNumber}
use Rattle.cache_law.specs.declared.setting.Params.{Params}
use Rattle.varn_program.specs.Texts.{IsValue, AreTexts}
use Rattle.varn_program.specs.Words.{IsOption, Gives, AsksReplay}

-- ---- the texts of options

abbrev Texts : List (List ℕ) → Params → Type 0
Texts words params = (a : Option (List ℕ)) × (b : Option (List ℕ)) × AreTexts words a b params

value_of : (wanted name value : List ℕ) (n : ℕ) → IsOption wanted name value n → IsValue (Some value) n
value_of wanted name value n option = (option.value_is, option.within)

pub texts_of : (words : List (List ℕ)) (params : Params) → AsksReplay words params → Texts words params
texts_of [] params asks = absurd asks
texts_of (word ∷ []) params asks = (None, None, ((refl, refl), asks.1.0, asks.1.1, asks.2))
texts_of (word ∷ name ∷ []) params asks = absurd asks.1
texts_of (word ∷ name ∷ value ∷ []) params (is, inl x, whole) = (Some value, None, (inl ((x.0.name_is, refl), refl), value_of _ name value params.room x.0, x.1, whole))
texts_of (word ∷ name ∷ value ∷ []) params (is, inr x, whole) = (None, Some value, (inr ((x.0.name_is, refl), refl), x.1, value_of _ name value params.history x.0, whole))
texts_of (word ∷ name ∷ value ∷ other ∷ []) params asks = absurd asks.1
texts_of (word ∷ name ∷ value ∷ other ∷ text ∷ []) params (is, inl x, whole) =
    (Some value, Some text, (inl ((x.0.name_is, refl), (x.1.name_is, refl)), value_of _ name value params.room x.0, value_of _ other text params.history x.1, whole))
texts_of (word ∷ name ∷ value ∷ other ∷ text ∷ []) params (is, inr x, whole) =
    (Some text, Some value, (inr ((x.0.name_is, refl), (x.1.name_is, refl)), value_of _ other text params.room x.1, value_of _ name value params.history x.0, whole))
texts_of (word ∷ name ∷ value ∷ other ∷ text ∷ more ∷ words) params asks = absurd asks.1

-- ---- UTF-8

number_utf8 : (value : List ℕ) (n : ℕ) → IsNumber value n → IsUtf8 value
number_utf8 value n is = subst IsUtf8 (sym is.1) (IsUtf8-from_ascii _ (IsAscii-decimal n is.0))

name_utf8 : (wanted name value : List ℕ) (n : ℕ) → IsUtf8 wanted → IsOption wanted name value n → IsUtf8 name
name_utf8 wanted name value n utf8 option = subst IsUtf8 (sym option.name_is) utf8

option_utf8 : (wanted name value : List ℕ) (n : ℕ) (others : List (List ℕ)) → IsUtf8 wanted → IsOption wanted name value n → All IsUtf8 others → All IsUtf8 (name ∷ value ∷ others)
option_utf8 wanted name value n others utf8 option rest =
    All-cons IsUtf8 name (value ∷ others) (name_utf8 wanted name value n utf8 option) (All-cons IsUtf8 value others (number_utf8 value n option.value_is) rest)

replay_utf8 : IsUtf8 (codes "replay")
replay_utf8 = search rules

room_utf8 : IsUtf8 (codes "--room")
room_utf8 = search rules

history_utf8 : IsUtf8 (codes "--history")
history_utf8 = search rules

options_utf8 : (options : List (List ℕ)) (room history : ℕ) → Gives options room history → All IsUtf8 options
options_utf8 [] room history gives = All-nil IsUtf8
options_utf8 (name ∷ []) room history gives = absurd gives
options_utf8 (name ∷ value ∷ []) room history (inl x) = option_utf8 _ name value room [] room_utf8 x.0 (All-nil IsUtf8)
options_utf8 (name ∷ value ∷ []) room history (inr x) = option_utf8 _ name value history [] history_utf8 x.0 (All-nil IsUtf8)
options_utf8 (name ∷ value ∷ other ∷ []) room history gives = absurd gives
options_utf8 (name ∷ value ∷ other ∷ text ∷ []) room history (inl x) =
    option_utf8 _ name value room (other ∷ text ∷ []) room_utf8 x.0 (option_utf8 _ other text history [] history_utf8 x.1 (All-nil IsUtf8))
options_utf8 (name ∷ value ∷ other ∷ text ∷ []) room history (inr x) =
    option_utf8 _ name value history (other ∷ text ∷ []) history_utf8 x.0 (option_utf8 _ other text room [] room_utf8 x.1 (All-nil IsUtf8))
options_utf8 (name ∷ value ∷ other ∷ text ∷ more ∷ words) room history gives = absurd gives

pub all_utf8 : (words : List (List ℕ)) (params : Params) → AsksReplay words params → All IsUtf8 words
all_utf8 [] params asks = absurd asks
all_utf8 (word ∷ options) params asks =
    All-cons IsUtf8 word options (subst IsUtf8 (sym asks.0) replay_utf8) (options_utf8 options params.room params.history asks.1)

-- ---- numbers

pub same_number : (text : List ℕ) (m n : ℕ) → IsNumber text m → IsNumber text n → m ≡ n
same_number text m n x y = decimal_injective m n x.0 y.0 (sym x.1 ∙ y.1)

-- the numbers of the texts, and no segments
pub values_of : (words : List (List ℕ)) (a b : Option (List ℕ)) (params : Params) → AreTexts words a b params → IsValue a params.room × IsValue b params.history × (params.segments ≡ false)
values_of [] a b params t = absurd t
values_of (word ∷ options) a b params t = (t.1, t.2, t.3)
