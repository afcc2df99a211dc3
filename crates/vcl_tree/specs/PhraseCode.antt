-- Phrases as lists of numbers and texts, by which a proof tells them apart: the parts of a phrase in the order in
-- which a reader on a stack puts them together.
use Rattle.std.specs.Prelude.{ℕ, ◌≡◌, ◌==◌, ℤ, pos, List, [], ◌∷◌, refl, if◌then◌else◌}
use Rattle.std.specs.Coded.{Coded, code_by, coded×, coded_ℕ, coded_ℤ, coded_list}
use Rattle.std.proofs.Common.{◌∙◌, ap}
use Rattle.vcl_tree.specs.declared.expression.Comparison.TheVariants as comparison
use Rattle.vcl_tree.specs.Phrase.{Label, Phrase, Nothing, At, Named, String, Weight, Integer, Duration, Node, Compared, More, Either, Both, Added, Subtracted, Not, Group, Called, Bound, Set, Append, Unset, Jump, New, Return, Branch, If, ElseIf, Else, Attribute, Nested, Entry, Masked, Import, NoBackend, Backend, Probe, Acl, Sub}

abbrev pub label_number : Label → ℕ
label_number More = 0
label_number Either = 1
label_number Both = 2
label_number Added = 3
label_number Subtracted = 4
label_number Not = 5
label_number Group = 6
label_number Called = 7
label_number Bound = 8
label_number Set = 9
label_number Append = 10
label_number Unset = 11
label_number Jump = 12
label_number New = 13
label_number Return = 14
label_number Branch = 15
label_number If = 16
label_number ElseIf = 17
label_number Else = 18
label_number Attribute = 19
label_number Nested = 20
label_number Entry = 21
label_number Masked = 22
label_number Import = 23
label_number NoBackend = 24
label_number Backend = 25
label_number Probe = 26
label_number Acl = 27
label_number Sub = 28
label_number (Compared comparison.Equal) = 29
label_number (Compared comparison.NotEqual) = 30
label_number (Compared comparison.Less) = 31
label_number (Compared comparison.LessOrEqual) = 32
label_number (Compared comparison.Greater) = 33
label_number (Compared comparison.GreaterOrEqual) = 34
label_number (Compared comparison.Match) = 35
label_number (Compared comparison.NotMatch) = 36

abbrev pub label_of : ℕ → Label
label_of n =
    if n == 0 then More else (
    if n == 1 then Either else (
    if n == 2 then Both else (
    if n == 3 then Added else (
    if n == 4 then Subtracted else (
    if n == 5 then Not else (
    if n == 6 then Group else (
    if n == 7 then Called else (
    if n == 8 then Bound else (
    if n == 9 then Set else (
    if n == 10 then Append else (
    if n == 11 then Unset else (
    if n == 12 then Jump else (
    if n == 13 then New else (
    if n == 14 then Return else (
    if n == 15 then Branch else (
    if n == 16 then If else (
    if n == 17 then ElseIf else (
    if n == 18 then Else else (
    if n == 19 then Attribute else (
    if n == 20 then Nested else (
    if n == 21 then Entry else (
    if n == 22 then Masked else (
    if n == 23 then Import else (
    if n == 24 then NoBackend else (
    if n == 25 then Backend else (
    if n == 26 then Probe else (
    if n == 27 then Acl else (
    if n == 28 then Sub else (
    if n == 29 then Compared comparison.Equal else (
    if n == 30 then Compared comparison.NotEqual else (
    if n == 31 then Compared comparison.Less else (
    if n == 32 then Compared comparison.LessOrEqual else (
    if n == 33 then Compared comparison.Greater else (
    if n == 34 then Compared comparison.GreaterOrEqual else (
    if n == 35 then Compared comparison.Match else (
    Compared comparison.NotMatch))))))))))))))))))))))))))))))))))))

label_back : (l : Label) → label_of (label_number l) ≡ l
label_back More = refl
label_back Either = refl
label_back Both = refl
label_back Added = refl
label_back Subtracted = refl
label_back Not = refl
label_back Group = refl
label_back Called = refl
label_back Bound = refl
label_back Set = refl
label_back Append = refl
label_back Unset = refl
label_back Jump = refl
label_back New = refl
label_back Return = refl
label_back Branch = refl
label_back If = refl
label_back ElseIf = refl
label_back Else = refl
label_back Attribute = refl
label_back Nested = refl
label_back Entry = refl
label_back Masked = refl
label_back Import = refl
label_back NoBackend = refl
label_back Backend = refl
label_back Probe = refl
label_back Acl = refl
label_back Sub = refl
label_back (Compared comparison.Equal) = refl
label_back (Compared comparison.NotEqual) = refl
label_back (Compared comparison.Less) = refl
label_back (Compared comparison.LessOrEqual) = refl
label_back (Compared comparison.Greater) = refl
label_back (Compared comparison.GreaterOrEqual) = refl
label_back (Compared comparison.Match) = refl
label_back (Compared comparison.NotMatch) = refl

abbrev pub Cell : Type 0
Cell = (ℕ × ℕ) × (List ℕ × ℤ)

abbrev pub cell : ℕ → ℕ → List ℕ → ℤ → Cell
cell kind place text number = ((kind, place), (text, number))

-- the cells of a phrase before others
abbrev pub cells : Phrase → List Cell → List Cell
cells Nothing rest = cell 0 0 [] (pos 0) ∷ rest
cells (At place) rest = cell 1 place [] (pos 0) ∷ rest
cells (Named place text) rest = cell 2 place text (pos 0) ∷ rest
cells (String place text) rest = cell 3 place text (pos 0) ∷ rest
cells (Weight place text) rest = cell 4 place text (pos 0) ∷ rest
cells (Integer place n) rest = cell 5 place [] n ∷ rest
cells (Duration place n) rest = cell 6 place [] n ∷ rest
cells (Node l a b) rest = cells a (cells b (cell 7 (label_number l) [] (pos 0) ∷ rest))

abbrev pub joined : Label → List Phrase → List Phrase
joined l (b ∷ a ∷ stack) = Node l a b ∷ stack
joined l stack = stack

abbrev pub with_cell : ℕ → ℕ → List ℕ → ℤ → List Phrase → List Phrase
with_cell kind place text number stack =
    if kind == 0 then Nothing ∷ stack else (
    if kind == 1 then At place ∷ stack else (
    if kind == 2 then Named place text ∷ stack else (
    if kind == 3 then String place text ∷ stack else (
    if kind == 4 then Weight place text ∷ stack else (
    if kind == 5 then Integer place number ∷ stack else (
    if kind == 6 then Duration place number ∷ stack else joined (label_of place) stack))))))

abbrev pub phrases : List Cell → List Phrase → List Phrase
phrases [] stack = stack
phrases (c ∷ rest) stack = phrases rest (with_cell (c.0.0) (c.0.1) (c.1.0) (c.1.1) stack)

abbrev pub top : List Phrase → Phrase
top [] = Nothing
top (p ∷ stack) = p

back_on : (p : Phrase) (rest : List Cell) (stack : List Phrase) → phrases (cells p rest) stack ≡ phrases rest (p ∷ stack)
back_on Nothing rest stack = refl
back_on (At place) rest stack = refl
back_on (Named place text) rest stack = refl
back_on (String place text) rest stack = refl
back_on (Weight place text) rest stack = refl
back_on (Integer place n) rest stack = refl
back_on (Duration place n) rest stack = refl
back_on (Node l a b) rest stack =
    back_on a (cells b (cell 7 (label_number l) [] (pos 0) ∷ rest)) stack ∙ back_on b (cell 7 (label_number l) [] (pos 0) ∷ rest) (a ∷ stack)
    ∙ ap (λ (k : Label). phrases rest (Node k a b ∷ stack)) (label_back l)

pub phrase_back : (p : Phrase) → top (phrases (cells p []) []) ≡ p
phrase_back p = ap top (back_on p [] [])

abbrev pub phrase_code : Coded Phrase
phrase_code =
    code_by (List Cell) (coded_list (coded× (coded× coded_ℕ coded_ℕ) (coded× (coded_list coded_ℕ) coded_ℤ))) (λ p. cells p []) (λ cs. top (phrases cs [])) phrase_back
