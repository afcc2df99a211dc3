-- What an expression is numbered as: the node of each part before its whole's.
use Rattle.std.specs.Prelude.{ℕ, Bool, true, false, List, Option, Some, None}
use Rattle.vcl_tree.specs.Phrase.{Phrase, Label, Node, String, Integer, Duration, Named, Nothing, More, Either, Both, Not, Group, Compared, Added, Subtracted, Called, chain}
use Rattle.vcl_tree.specs.ExpressionView.{sum_of, sum_label}
use Rattle.vcl_tree.specs.declared.expression.Addend.{Addend}
use Rattle.vcl_tree.specs.declared.expression.Comparison.{Comparison as Asked}
use Rattle.vcl_tree.specs.declared.expression.Comparison.TheVariants as asked
use Rattle.vcl_values.specs.declared.comparisons.Comparison.{Comparison}
use Rattle.vcl_values.specs.declared.comparisons.Comparison.TheVariants as compared
use Rattle.vmod_host.specs.declared.signature.JarUse.{JarUse}
use Rattle.vmod_host.specs.declared.signature.JarUse.TheVariants as jar
use Rattle.vcl_context.specs.declared.variable.Variable.TheVariants.{Jar}
use Rattle.vcl_code.specs.declared.arena.Arena.{Arena}
use Rattle.vcl_code.specs.declared.callees.Builtin.TheVariants as builtin
use Rattle.vcl_code.specs.declared.names.Callee.{Callee}
use Rattle.vcl_code.specs.declared.names.Callee.TheVariants as callee
use Rattle.vcl_code.specs.declared.expressions.Junction.{Junction}
use Rattle.vcl_code.specs.declared.expressions.Junction.TheVariants as junction
use Rattle.vcl_code.specs.declared.node.Node.{Node as Made}
use Rattle.vcl_code.specs.declared.node.Node.TheVariants as node
use Rattle.vcl_tree.specs.declared.expression.Addition.{Addition}
use Rattle.vcl_tree.specs.declared.expression.Addition.TheVariants.{Plus, Minus}
use Rattle.vcl_code.specs.declared.node.Arguments.{Arguments}
use Rattle.vcl_code.specs.declared.node.Arguments.TheVariants.{Zero, One, Two, Three, More as TooMany}
use Rattle.vcl_code.specs.Arenas.{Numbered, with_node, with_text, with_pattern, one, two}
use Rattle.vcl_symbols.specs.Known.{Known}
use Rattle.vcl_code.specs.Names.{Plain, Field, NoTarget, Read, OfTarget, Truth, Backend, NoRead, read_of, acl_of, callee_of}

abbrev pub absent : Arena → Numbered
absent a = with_node node.Absent a

abbrev pub text_node : List ℕ → Arena → Numbered
text_node text a = one node.Text (with_text text a)

-- a name that is read
abbrev pub read_node : Read → Arena → Numbered
read_node (OfTarget (Plain variable)) a = with_node (node.Read variable) a
read_node (OfTarget (Field message name)) a = one (node.ReadField message) (with_text name a)
read_node (OfTarget NoTarget) a = absent a
read_node (Truth truth) a = with_node (node.Truth truth) a
read_node (Backend k) a = with_node (node.Backend k) a
read_node NoRead a = absent a

-- an operand is searched for a pattern, or sought in an ACL
abbrev pub in_acl : Bool → Numbered → Option ℕ → Numbered
in_acl truth operand None = absent operand.arena
in_acl truth operand (Some k) = with_node (node.InAcl operand.number k truth) operand.arena

abbrev pub searched : Bool → Numbered → List ℕ → Numbered
searched truth operand source = let found = with_pattern source operand.arena in with_node (node.Matches operand.number found.number truth) found.arena

abbrev pub matched : Known → Bool → Numbered → Phrase → Numbered
matched known truth operand (String place source) = searched truth operand source
matched known truth operand (Named place name) = in_acl truth operand (acl_of known name)
matched known truth operand _ = absent operand.arena

-- the comparisons of two values; a match is none
abbrev pub ordered_as : Asked → Option Comparison
ordered_as asked.Equal = Some compared.Equal
ordered_as asked.NotEqual = Some compared.NotEqual
ordered_as asked.Less = Some compared.Less
ordered_as asked.LessOrEqual = Some compared.LessOrEqual
ordered_as asked.Greater = Some compared.Greater
ordered_as asked.GreaterOrEqual = Some compared.GreaterOrEqual
ordered_as asked.Match = None
ordered_as asked.NotMatch = None

abbrev pub asks_match : Asked → Bool
asks_match asked.Match = true
asks_match _ = false

abbrev pub compared_with : Known → Bool → Option Comparison → Numbered → Phrase → (Arena → Numbered) → Numbered
compared_with known truth (Some comparison) left right second = two (node.Compare comparison) left second
compared_with known truth None left right second = matched known truth left right

-- the numbers of arguments, and the lists behind them
pub record Given : Type 0 where
  pub arguments : Arguments
  pub arena : Arena

abbrev pub given : Arguments → Arena → Given
given arguments arena = record { arguments = arguments; arena = arena }

abbrev pub with_argument : Arguments → ℕ → Arguments
with_argument Zero x = One x
with_argument (One x) y = Two x y
with_argument (Two x y) z = Three x y z
with_argument (Three x y z) other = TooMany
with_argument TooMany other = TooMany

abbrev pub one_more : Given → (Arena → Numbered) → Given
one_more g next = given (with_argument g.arguments (next g.arena).number) (next g.arena).arena

-- the second of three arguments, where it is one string
abbrev pub string_of : Phrase → Option (List ℕ)
string_of (String place text) = Some text
string_of _ = None

abbrev pub second_string : Phrase → Option (List ℕ)
second_string (Node More (Node More (Node More Nothing x) y) z) = string_of y
second_string _ = None

-- a text with matches of a pattern replaced; the pattern's own text is among the arguments too
abbrev pub substituted : Bool → ℕ → ℕ → Numbered → Numbered
substituted all text by found = with_node (node.Substitute all text found.number by) found.arena

abbrev pub substitution : Bool → Option (List ℕ) → Arguments → Arena → Numbered
substitution all (Some source) (Three text pattern by) a = substituted all text by (with_pattern source a)
substitution all _ _ a = absent a

abbrev pub xkey : Bool → Arguments → Arena → Numbered
xkey soft (One keys) a = with_node (node.Xkey soft keys) a
xkey soft _ a = absent a

abbrev pub director : ℕ → Arguments → Arena → Numbered
director k Zero a = with_node (node.Director k) a
director k (One text) a = with_node (node.DirectorFor k text) a
director k _ a = absent a

-- the jar's text before the arguments of a function that has a jar
abbrev pub in_front : ℕ → Arguments → Arguments
in_front x Zero = One x
in_front x (One y) = Two x y
in_front x (Two y z) = Three x y z
in_front x (Three y z other) = TooMany
in_front x TooMany = TooMany

abbrev pub behind_jar : Given → Given
behind_jar g = let read = with_node (node.Read Jar) g.arena in given (in_front read.number g.arguments) read.arena

abbrev pub passed : JarUse → Given → Given
passed jar.None g = g
passed jar.Asks g = behind_jar g
passed jar.Changes g = behind_jar g

abbrev pub stored : ℕ → Given → Numbered
stored k g = with_node (node.Stored k g.arguments) g.arena

-- what is called with which arguments
abbrev pub called : Callee → Option (List ℕ) → Given → Numbered
called (callee.Builtin (builtin.Substitute all)) second g = substitution all second g.arguments g.arena
called (callee.Builtin (builtin.Xkey soft)) second g = xkey soft g.arguments g.arena
called (callee.Stored k use_of_jar) second g = stored k (passed use_of_jar g)
called (callee.Director k) second g = director k g.arguments g.arena
called _ second g = absent g.arena

-- what ties operands of truth
abbrev pub label_of : Junction → Label
label_of junction.Any = Either
label_of junction.All = Both

abbrev pub operands_of : Junction → Phrase → Phrase → List Phrase → Phrase
operands_of tie first second others = chain (label_of tie) (Node (label_of tie) first second) others

abbrev pub joined : Junction → ℕ → ℕ → Made
joined junction.Any left right = node.Either left right
joined junction.All left right = node.Both left right

-- a sum of two terms and others, and what ties a term of it
abbrev pub terms_of : Phrase → Addend → List Addend → Phrase
terms_of first second others = sum_of (Node (sum_label second.sign) first second.term) others

abbrev pub summed : Addition → ℕ → ℕ → Made
summed Plus left right = node.Sum left right
summed Minus left right = node.Difference left right

unfoldable mutual
  -- an expression
  pub numbered : Known → Phrase → Arena → Numbered
  numbered known (String place text) a = text_node text a
  numbered known (Integer place n) a = with_node (node.Int n) a
  numbered known (Duration place n) a = with_node (node.Duration n) a
  numbered known (Named place name) a = read_node (read_of known name) a
  numbered known (Node Either left right) a = two node.Either (numbered known left a) (numbered known right)
  numbered known (Node Both left right) a = two node.Both (numbered known left a) (numbered known right)
  numbered known (Node Not sign e) a = one node.Not (numbered known e a)
  numbered known (Node Group sign e) a = numbered known e a
  numbered known (Node Added left right) a = two node.Sum (numbered known left a) (numbered known right)
  numbered known (Node Subtracted left right) a = two node.Difference (numbered known left a) (numbered known right)
  numbered known (Node (Compared how) left right) a =
      compared_with known (asks_match how) (ordered_as how) (numbered known left a) right (numbered known right)
  numbered known (Node Called (Named place name) arguments) a = called (callee_of known name) (second_string arguments) (numbered_arguments known arguments a)
  numbered known _ a = absent a

  -- arguments, from the first on
  pub numbered_arguments : Known → Phrase → Arena → Given
  numbered_arguments known (Node More front e) a = one_more (numbered_arguments known front a) (numbered known e)
  numbered_arguments known _ a = given Zero a
