-- What clap makes of the words of a replay.
use Rattle.std.proofs.Common.{◌≡◌, inl, inr, ℕ, Bool, true, false, List, [], ◌∷◌, Option, Some, None, codes, ◌==◌, ◌<◌, length, refl, sym, ◌∙◌, ap, subst, arith}
use Rattle.std.specs.Prelude.{if◌then◌else◌}
use Rattle.std.specs.Char.{digit_value}
use Rattle.std.specs.Str.{bytes_eq}
use Rattle.std.specs.Str.Parse.{AllDigits}
use Rattle.std.proofs.lemmas.Bool.{cases_eq}
use Rattle.std.proofs.lemmas.Bool.Decides.{nat_tests}
use Rattle.clap.specs.Lexer.{long_of, short_of}
use Rattle.clap.specs.Walk.{Rule, Row, Text, Held, Walk, Step, first_of, used, walk_from, walked, walk, nothing_held, finished, word_met, after_step, long_or_other, short_or_plain, plain_word, option, idle, trailing}
use Rattle.clap.specs.Simple.{App, new_app, new_rule, with_rule, is_simple, built, filled, matches_of}
use Rattle.clap.proofs.OnLiterals.{clap_on_literals}
use Rattle.units.specs.Numbers.{IsNumber}
use Rattle.units.proofs.Numerals.{spelled}
use Rattle.varn_program.specs.Texts.{IsValue, AreTexts}
use Rattle.cache_law.specs.declared.setting.Params.{Params}

abbrev pub room : Rule
room = record (new_rule (codes "room")) { long = Some (codes "room") }

abbrev pub history : Rule
history = record (new_rule (codes "history")) { long = Some (codes "history") }

abbrev pub app : App
app = with_rule (with_rule (new_app (codes "replay")) room) history

pub simple : is_simple app ≡ true
unfolding clap_on_literals
simple = refl

abbrev rules : List Rule
rules = (built app).top.rules

-- an option waits for its value
abbrev waits : Text → List Row → Walk
waits id rows = record {
  held = record { rows = rows; pending = Some (id, []); skip = 0 };
  waiting = option id;
  position = 1;
  is_trailing = false;
  stopped = None;
}

-- the option has its value
abbrev given : Text → List Row → Text → Walk
given id rows value = record {
  held = record { rows = rows; pending = Some (id, value ∷ []); skip = 0 };
  waiting = idle;
  position = 1;
  is_trailing = false;
  stopped = None;
}

-- a word that begins with no hyphen
pub record IsPlain (word : Text) : Type 0 where
  pub marks : bytes_eq word (45 ∷ 45 ∷ []) ≡ false
  pub long : long_of word ≡ None
  pub short : short_of word ≡ None

-- ---- a word

start_room : walked rules [] (walk_from nothing_held) (codes "--room") ≡ waits (codes "room") []
unfolding clap_on_literals
start_room = refl

start_history : walked rules [] (walk_from nothing_held) (codes "--history") ≡ waits (codes "history") []
unfolding clap_on_literals
start_history = refl

abbrev row_of_room : Text → List Row
row_of_room value = used (filled room) (value ∷ []) []

abbrev row_of_history : Text → List Row
row_of_history value = used (filled history) (value ∷ []) []

then_history : (value : Text) → walked rules [] (given (codes "room") [] value) (codes "--history") ≡ waits (codes "history") (row_of_room value)
unfolding clap_on_literals
then_history value = refl

then_room : (value : Text) → walked rules [] (given (codes "history") [] value) (codes "--room") ≡ waits (codes "room") (row_of_history value)
unfolding clap_on_literals
then_room value = refl

met : (id : Text) (word : Text) (h : Held) → IsPlain word → word_met rules [] false (option id) 1 word h ≡ plain_word rules (option id) word h
met id word h plain =
    ap (λ (t : Bool). if t then (h, trailing 1) else long_or_other rules (option id) word (long_of word) h) plain.marks
    ∙ ap (λ (o : Option (Text × Option Text)). long_or_other rules (option id) word o h) plain.long
    ∙ ap (λ (o : Option Text). short_or_plain rules (option id) word o h) plain.short

value_of : (id : Text) (rows : List Row) (word : Text) → IsPlain word → after_step rules word (waits id rows) (plain_word rules (option id) word (waits id rows).held).0 (plain_word rules (option id) word (waits id rows).held).1 ≡ given id rows word
    → walked rules [] (waits id rows) word ≡ given id rows word
unfolding walked
value_of id rows word plain is =
    ap (λ (m : Held × Step). after_step rules word (waits id rows) m.0 m.1) (met id word (waits id rows).held plain) ∙ is

value_room : (rows : List Row) (word : Text) → IsPlain word → walked rules [] (waits (codes "room") rows) word ≡ given (codes "room") rows word
value_room rows word plain = value_of (codes "room") rows word plain refl

value_history : (rows : List Row) (word : Text) → IsPlain word → walked rules [] (waits (codes "history") rows) word ≡ given (codes "history") rows word
value_history rows word plain = value_of (codes "history") rows word plain refl

-- ---- all words

abbrev read : Text → Walk → Option Text
read id w = first_of id (finished rules w.held)

abbrev Reads : Text → List Text → Option Text → Type 0
Reads id words text = first_of id (matches_of app words) ≡ text

none : (word : Text) → Reads (codes "room") (word ∷ []) None × Reads (codes "history") (word ∷ []) None
unfolding clap_on_literals
none word = (refl, refl)

after_room : (word value : Text) → IsPlain value → walk rules [] nothing_held (codes "--room" ∷ value ∷ []) ≡ given (codes "room") [] value
after_room word value plain = ap (λ (w : Walk). walked rules [] w value) start_room ∙ value_room [] value plain

after_history : (word value : Text) → IsPlain value → walk rules [] nothing_held (codes "--history" ∷ value ∷ []) ≡ given (codes "history") [] value
after_history word value plain = ap (λ (w : Walk). walked rules [] w value) start_history ∙ value_history [] value plain

after_both : (value text : Text) → IsPlain value → IsPlain text → walk rules [] nothing_held (codes "--room" ∷ value ∷ codes "--history" ∷ text ∷ []) ≡ given (codes "history") (row_of_room value) text
after_both value text p q =
    ap (λ (w : Walk). walked rules [] (walked rules [] w (codes "--history")) text) (after_room [] value p)
    ∙ ap (λ (w : Walk). walked rules [] w text) (then_history value) ∙ value_history (row_of_room value) text q

after_other : (value text : Text) → IsPlain value → IsPlain text → walk rules [] nothing_held (codes "--history" ∷ value ∷ codes "--room" ∷ text ∷ []) ≡ given (codes "room") (row_of_history value) text
after_other value text p q =
    ap (λ (w : Walk). walked rules [] (walked rules [] w (codes "--room")) text) (after_history [] value p)
    ∙ ap (λ (w : Walk). walked rules [] w text) (then_room value) ∙ value_room (row_of_history value) text q

abbrev Read : Walk → Option Text → Option Text → Type 0
Read w a b = (read (codes "room") w ≡ a) × (read (codes "history") w ≡ b)

of_room : (value : Text) → Read (given (codes "room") [] value) (Some value) None
unfolding clap_on_literals
of_room value = (refl, refl)

of_history : (value : Text) → Read (given (codes "history") [] value) None (Some value)
unfolding clap_on_literals
of_history value = (refl, refl)

of_both : (value text : Text) → Read (given (codes "history") (row_of_room value) text) (Some value) (Some text)
unfolding clap_on_literals
of_both value text = (refl, refl)

of_other : (value text : Text) → Read (given (codes "room") (row_of_history value) text) (Some text) (Some value)
unfolding clap_on_literals
of_other value text = (refl, refl)

-- ---- numbers

plain_digits : (ds : Text) → AllDigits 10 ds → 0 < length ds → IsPlain ds
plain_digits [] digits some = absurd (omega (arith, some))
plain_digits (d ∷ ds) digits some = elim (cases_eq d 45) [
  | inl is ↦ absurd (omega (arith, subst (λ (n : ℕ). digit_value n < 10) is digits.0))
  | inr other ↦
      let differs : (d == 45) ≡ false = grind (arith, nat_tests, other) in
      record { marks = rw differs refl; long = rw differs refl; short = rw differs refl }
]

plain_number : (value : Text) (n : ℕ) → IsNumber value n → IsPlain value
plain_number value n is = let spelled = spelled value n is in plain_digits value spelled.digits spelled.some

plain_value : (text : Option Text) (value : Text) (n : ℕ) → text ≡ Some value → IsValue text n → IsPlain value
plain_value text value n is v = let number : IsValue (Some value) n = subst (λ (t : Option Text). IsValue t n) is v in plain_number value n number.0

-- ---- what the options say

abbrev pub Both : List Text → Option Text → Option Text → Type 0
Both words a b = (first_of (codes "room") (matches_of app words) ≡ a) × (first_of (codes "history") (matches_of app words) ≡ b)

walked_to : (word : Text) (options : List Text) (w : Walk) (a b x y : Option Text) → walk rules [] nothing_held options ≡ w → Read w a b → x ≡ a → y ≡ b → Both (word ∷ options) x y
walked_to word options w a b x y is reads xs ys =
    (ap (λ (v : Walk). read (codes "room") v) is ∙ reads.0 ∙ sym xs, ap (λ (v : Walk). read (codes "history") v) is ∙ reads.1 ∙ sym ys)

renamed : (word : Text) (options others : List Text) (x y : Option Text) → options ≡ others → Both (word ∷ others) x y → Both (word ∷ options) x y
renamed word options others x y is both = subst (λ (o : List Text). Both (word ∷ o) x y) (sym is) both

pub read_all : (words : List Text) (a b : Option Text) (params : Params) → AreTexts words a b params → Both words a b
read_all [] a b params t = absurd t
read_all (word ∷ []) a b params t = let here = none word in (here.0 ∙ sym t.0.0, here.1 ∙ sym t.0.1)
read_all (word ∷ name ∷ []) a b params t = absurd t.0
read_all (word ∷ name ∷ value ∷ []) a b params (inl x, p, q, whole) =
    renamed word (name ∷ value ∷ []) (codes "--room" ∷ value ∷ []) a b (ap (λ (n : Text). n ∷ value ∷ []) x.0.0)
    (walked_to word (codes "--room" ∷ value ∷ []) (given (codes "room") [] value) (Some value) None a b (after_room word value (plain_value a value params.room x.0.1 p)) (of_room value) x.0.1 x.1)
read_all (word ∷ name ∷ value ∷ []) a b params (inr x, p, q, whole) =
    renamed word (name ∷ value ∷ []) (codes "--history" ∷ value ∷ []) a b (ap (λ (n : Text). n ∷ value ∷ []) x.0.0)
    (walked_to word (codes "--history" ∷ value ∷ []) (given (codes "history") [] value) None (Some value) a b (after_history word value (plain_value b value params.history x.0.1 q)) (of_history value) x.1 x.0.1)
read_all (word ∷ name ∷ value ∷ other ∷ []) a b params t = absurd t.0
read_all (word ∷ name ∷ value ∷ other ∷ text ∷ []) a b params (inl x, p, q, whole) =
    renamed word (name ∷ value ∷ other ∷ text ∷ []) (codes "--room" ∷ value ∷ codes "--history" ∷ text ∷ []) a b
    (ap (λ (n : Text). n ∷ value ∷ other ∷ text ∷ []) x.0.0 ∙ ap (λ (n : Text). codes "--room" ∷ value ∷ n ∷ text ∷ []) x.1.0)
    (walked_to word (codes "--room" ∷ value ∷ codes "--history" ∷ text ∷ []) (given (codes "history") (row_of_room value) text) (Some value) (Some text) a b
    (after_both value text (plain_value a value params.room x.0.1 p) (plain_value b text params.history x.1.1 q)) (of_both value text) x.0.1 x.1.1)
read_all (word ∷ name ∷ value ∷ other ∷ text ∷ []) a b params (inr x, p, q, whole) =
    renamed word (name ∷ value ∷ other ∷ text ∷ []) (codes "--history" ∷ value ∷ codes "--room" ∷ text ∷ []) a b
    (ap (λ (n : Text). n ∷ value ∷ other ∷ text ∷ []) x.0.0 ∙ ap (λ (n : Text). codes "--history" ∷ value ∷ n ∷ text ∷ []) x.1.0)
    (walked_to word (codes "--history" ∷ value ∷ codes "--room" ∷ text ∷ []) (given (codes "room") (row_of_history value) text) (Some text) (Some value) a b
    (after_other value text (plain_value b value params.history x.0.1 q) (plain_value a text params.room x.1.1 p)) (of_other value text) x.1.1 x.0.1)
read_all (word ∷ name ∷ value ∷ other ∷ text ∷ more ∷ words) a b params t = absurd t.0
