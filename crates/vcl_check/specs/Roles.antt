-- What each part of a text is for, by what it belongs to.
use Rattle.std.specs.Prelude.{Option, Some, None}
use Rattle.vcl_tree.specs.Phrase as phrase
use Rattle.vcl_tree.specs.Phrase.{Label}
use Rattle.vcl_check.specs.declared.form.Use.{Use}
use Rattle.vcl_check.specs.declared.form.Use.TheVariants as use'
use Rattle.vcl_check.specs.declared.form.Form.{Form}
use Rattle.vcl_check.specs.declared.form.Form.TheVariants as form

pub data Role : Type 0 where
  -- a name
  Name : Use → Role
  -- an expression, and arguments of a call
  Value : Role
  Arguments : Role
  -- statements, one of them, a condition with its statements
  Block : Role
  Statement : Role
  Branch : Role
  -- a variable and what it is set to
  Assignment : Use → Role
  -- an object's name with its maker; a maker with its arguments
  Object : Role
  Made : Role
  -- a word of return, maybe with arguments
  Answer : Role
  -- nothing is read there
  Unread : Role

-- what a name is used for in a role
abbrev pub use_in : Role → Option Use
use_in (Name u) = Some u
use_in Value = Some use'.Read
use_in Answer = Some use'.Word
use_in _ = None

abbrev pub left_role : Role → Label → Role
left_role Value phrase.Either = Value
left_role Value phrase.Both = Value
left_role Value (phrase.Compared how) = Value
left_role Value phrase.Added = Value
left_role Value phrase.Subtracted = Value
left_role Value phrase.Called = Name use'.Function
left_role Arguments phrase.More = Arguments
left_role Block phrase.More = Block
left_role Statement phrase.ElseIf = Statement
left_role Statement phrase.Else = Statement
left_role Statement phrase.Called = Name use'.Function
left_role Branch phrase.Branch = Value
left_role (Assignment u) phrase.Bound = Name u
left_role Made phrase.Called = Name use'.Maker
left_role Answer phrase.Called = Name use'.Word
left_role _ _ = Unread

abbrev pub right_role : Role → Label → Role
right_role Value phrase.Either = Value
right_role Value phrase.Both = Value
right_role Value (phrase.Compared how) = Value
right_role Value phrase.Added = Value
right_role Value phrase.Subtracted = Value
right_role Value phrase.Not = Value
right_role Value phrase.Group = Value
right_role Value phrase.Called = Arguments
right_role Arguments phrase.More = Value
right_role Block phrase.More = Statement
right_role Statement phrase.Set = Assignment use'.Set
right_role Statement phrase.Append = Assignment use'.Append
right_role Statement phrase.Unset = Name use'.Unset
right_role Statement phrase.Jump = Name use'.Subroutine
right_role Statement phrase.New = Object
right_role Statement phrase.Return = Answer
right_role Statement phrase.If = Branch
right_role Statement phrase.ElseIf = Branch
right_role Statement phrase.Else = Block
right_role Statement phrase.Called = Arguments
right_role Branch phrase.Branch = Block
right_role (Assignment u) phrase.Bound = Value
right_role Object phrase.Bound = Made
right_role Made phrase.Called = Arguments
right_role Answer phrase.Called = Arguments
right_role _ _ = Unread

-- what ties the two sides
abbrev pub form_of : Role → Label → Form
form_of Value phrase.Either = form.Junction
form_of Value phrase.Both = form.Junction
form_of Value (phrase.Compared how) = form.Compared how
form_of Value phrase.Added = form.Added
form_of Value phrase.Subtracted = form.Subtracted
form_of Value phrase.Not = form.Inverted
form_of Value phrase.Group = form.Grouped
form_of Value phrase.Called = form.Call
form_of Arguments phrase.More = form.Argument
form_of Statement phrase.Set = form.Set
form_of Statement phrase.Append = form.Append
form_of Statement phrase.Unset = form.Ordinary
form_of Statement phrase.Jump = form.Ordinary
form_of Statement phrase.New = form.New
form_of Statement phrase.Return = form.Return
form_of Statement phrase.If = form.Ordinary
form_of Statement phrase.Called = form.Call
form_of Branch phrase.Branch = form.Condition
form_of (Assignment u) phrase.Bound = form.Assignment
form_of Object phrase.Bound = form.Object
form_of Made phrase.Called = form.Applied
form_of Answer phrase.Called = form.Applied
form_of _ _ = form.Apart
