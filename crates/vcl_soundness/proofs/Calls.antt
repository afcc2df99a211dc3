-- A name that is known to the check of a text has a meaning in numbers too.
use Rattle.std.proofs.Common.{◌≡◌, ℕ, Bool, true, false, List, refl, ap, ◌∙◌, codes, Option, Some, None, option_and_then, if◌then◌else◌}
use Rattle.std.proofs.lemmas.Option.{none-some, same_Some}
use Rattle.directors.specs.declared.director.DirectorKind.{DirectorKind}
use Rattle.vcl_tree.specs.Endings.{ends_in}
use Rattle.vcl_language.specs.Functions.{function_named, method_of}
use Rattle.vcl_language.specs.declared.functions.Function.{Function}
use Rattle.vcl_language.specs.declared.functions.Method.{Method}
use Rattle.vcl_language.specs.declared.functions.Method.TheVariants as method
use Rattle.vcl_language.specs.declared.variables.Variable.{Variable as Row}
use Rattle.vmod_host.specs.declared.signature.JarUse.{JarUse}
use Rattle.vcl_symbols.specs.Known.{Known, symbol_named, object_named, stored_of, without}
use Rattle.vcl_symbols.specs.declared.symbol_table.Symbol.{Symbol}
use Rattle.vcl_symbols.specs.declared.symbol_table.Symbol.TheVariants as symbol
use Rattle.vcl_check.specs.declared.form.Use.TheVariants as use'
use Rattle.vcl_check.specs.declared.seen.Meaning.{Meaning}
use Rattle.vcl_check.specs.declared.seen.Meaning.TheVariants as meaning
use Rattle.vcl_check.specs.Known.{is_available, meaning_of, of_variable, of_object, function_at, stored_named, of_stored, of_function, of_called}
use Rattle.vcl_check.specs.Rules.{is_known}
use Rattle.vcl_code.specs.declared.callees.Builtin.{Builtin}
use Rattle.vcl_code.specs.declared.names.Callee.TheVariants as callee
use Rattle.vcl_code.specs.Names.{subroutine_in, subroutine_of, builtin_of, director_in, jar_at, stored_or_director, builtin_or_other, callee_of}
use Rattle.vcl_soundness.proofs.Rows.{false-true, IsRowOf, function-row, no-function-row}

-- each object has a maker that is known
abbrev pub AreMade : Known → Type 0
AreMade known = (name : List ℕ) → symbol_named known name ≡ Some symbol.UnknownObject → ⊥

-- what is set, added to or unset
pub known-variable : (o : Option Row) → is_known (of_variable o) ≡ true → (v : Row) × (o ≡ Some v)
known-variable (Some v) h = (v, refl)
known-variable None h = absurd (false-true h)

-- a subroutine that is called
called-symbol : (o : Option Symbol) → is_known (of_called o) ≡ true → (k : ℕ) × (o ≡ Some (symbol.Subroutine k))
called-symbol (Some (symbol.Subroutine k)) h = (k, refl)
called-symbol (Some (symbol.Backend k)) h = absurd (false-true h)
called-symbol (Some (symbol.Acl k)) h = absurd (false-true h)
called-symbol (Some symbol.Probe) h = absurd (false-true h)
called-symbol (Some (symbol.Director kind k)) h = absurd (false-true h)
called-symbol (Some symbol.UnknownObject) h = absurd (false-true h)
called-symbol (Some symbol.NoObject) h = absurd (false-true h)
called-symbol None h = absurd (false-true h)

pub known-subroutine : (known : Known) (name : List ℕ) → is_known (meaning_of known use'.Subroutine name) ≡ true → (k : ℕ) × (subroutine_of known name ≡ Some k)
unfolding meaning_of subroutine_of
known-subroutine known name h = let b = called-symbol (symbol_named known name) h in (b.0, ap subroutine_in b.1)

subroutine-symbol : (o : Option Symbol) (k : ℕ) → subroutine_in o ≡ Some k → o ≡ Some (symbol.Subroutine k)
subroutine-symbol (Some (symbol.Subroutine j)) k e = ap (λ (i : ℕ). Some (symbol.Subroutine i)) (same_Some j k e)
subroutine-symbol (Some (symbol.Backend j)) k e = absurd (none-some k e)
subroutine-symbol (Some (symbol.Acl j)) k e = absurd (none-some k e)
subroutine-symbol (Some symbol.Probe) k e = absurd (none-some k e)
subroutine-symbol (Some (symbol.Director kind j)) k e = absurd (none-some k e)
subroutine-symbol (Some symbol.UnknownObject) k e = absurd (none-some k e)
subroutine-symbol (Some symbol.NoObject) k e = absurd (none-some k e)
subroutine-symbol None k e = absurd (none-some k e)

pub subroutine-named : (known : Known) (name : List ℕ) (k : ℕ) → subroutine_of known name ≡ Some k → symbol_named known name ≡ Some (symbol.Subroutine k)
unfolding subroutine_of
subroutine-named known name k e = subroutine-symbol (symbol_named known name) k e

-- What a function's name stands for: a function of the language, a stored one, or a method of a director.
pub data Calls (known : Known) (name : List ℕ) (f : Function) : Type 0 where
  of_language : (b : Builtin) → callee_of known name ≡ callee.Builtin b → IsRowOf f b → Calls known name f
  of_table : (k : ℕ) (use_of_jar : JarUse) → callee_of known name ≡ callee.Stored k use_of_jar → Calls known name f
  of_director : (k : ℕ) (kind : DirectorKind) → callee_of known name ≡ callee.Director k → f ≡ method_of kind method.Backend → Calls known name f
  to_director : (kind : DirectorKind) → f ≡ method_of kind method.AddBackend → Calls known name f

abbrev pub KnownCall : Known → List ℕ → Meaning → Type 0
KnownCall known name m = (f : Function) × (m ≡ meaning.Function f) × Calls known name f

stored-row : (known : Known) (name : List ℕ) (f : Function) → stored_named known name ≡ Some f → (k : ℕ) × (stored_of known name ≡ Some k)
stored-row known name f e = by-row (stored_of known name) e
  where
    by-row : (o : Option ℕ) → option_and_then (λ k. function_at known.stored k) o ≡ Some f → (k : ℕ) × (o ≡ Some k)
    by-row (Some k) e = (k, refl)
    by-row None e = absurd (none-some f e)

-- the object of a method is a director
object-made : (known : Known) → AreMade known → (ending name : List ℕ) → object_named known ending name ≡ Some symbol.UnknownObject → ⊥
object-made known made ending name e = by-ending (ends_in ending name) e
  where
    by-ending : (b : Bool) → (if b then symbol_named known (without ending name) else None) ≡ Some symbol.UnknownObject → ⊥
    by-ending true e = made (without ending name) e
    by-ending false e = none-some symbol.UnknownObject e

object-is : (m : Method) (o : Option Symbol) → is_known (of_object m o) ≡ true → (o ≡ Some symbol.UnknownObject → ⊥) → (kind : DirectorKind) × (k : ℕ) × (o ≡ Some (symbol.Director kind k))
object-is m (Some (symbol.Director kind k)) h made = (kind, k, refl)
object-is m (Some symbol.UnknownObject) h made = absurd (made refl)
object-is m (Some symbol.NoObject) h made = absurd (false-true h)
object-is m (Some (symbol.Backend k)) h made = absurd (false-true h)
object-is m (Some (symbol.Acl k)) h made = absurd (false-true h)
object-is m (Some symbol.Probe) h made = absurd (false-true h)
object-is m (Some (symbol.Subroutine k)) h made = absurd (false-true h)
object-is m None h made = absurd (false-true h)

pub function-calls : (known : Known) → AreMade known → (name : List ℕ) → is_known (meaning_of known use'.Function name) ≡ true → KnownCall known name (meaning_of known use'.Function name)
unfolding meaning_of callee_of
function-calls known made name h = by-language (function_named name) refl h
  where
    -- a function that the language doesn't have
    other : builtin_of name ≡ None → builtin_or_other known name (builtin_of name) ≡ stored_or_director known name (stored_of known name)
    other none = ap (λ (o : Option Builtin). builtin_or_other known name o) none

    method-of : (m : Method) (o : Option Symbol) (kind : DirectorKind) (k : ℕ) → o ≡ Some (symbol.Director kind k) → of_object m o ≡ meaning.Function (method_of kind m)
    method-of m o kind k e = ap (of_object m) e

    directed : builtin_of name ≡ None → (kind : DirectorKind) (k : ℕ) → object_named known (codes ".backend") name ≡ Some (symbol.Director kind k)
        → (s : Option ℕ) → stored_of known name ≡ s → Calls known name (method_of kind method.Backend)
    directed none kind k e (Some j) s-is = of_table j (jar_at known.stored j) (other none ∙ ap (λ (o : Option ℕ). stored_or_director known name o) s-is)
    directed none kind k e None s-is =
        let found : stored_or_director known name (stored_of known name) ≡ callee.Director k =
        ap (λ (o : Option ℕ). stored_or_director known name o) s-is ∙ ap director_in e in
        of_director k kind (other none ∙ found) refl

    added-to : is_known (of_object method.AddBackend (object_named known (codes ".add_backend") name)) ≡ true
        → KnownCall known name (of_object method.AddBackend (object_named known (codes ".add_backend") name))
    added-to h =
        let o = object_named known (codes ".add_backend") name in
        let d = object-is method.AddBackend o h (object-made known made (codes ".add_backend") name) in
        (method_of d.0 method.AddBackend, method-of method.AddBackend o d.0 d.1 d.2, to_director d.0 refl)

    asked-of : builtin_of name ≡ None → is_known (of_object method.Backend (object_named known (codes ".backend") name)) ≡ true
        → KnownCall known name (of_object method.Backend (object_named known (codes ".backend") name))
    asked-of none h =
        let o = object_named known (codes ".backend") name in
        let d = object-is method.Backend o h (object-made known made (codes ".backend") name) in
        (method_of d.0 method.Backend, method-of method.Backend o d.0 d.1 d.2, directed none d.0 d.1 d.2 (stored_of known name) refl)

    by-ending : (p : Bool) → builtin_of name ≡ None
        → is_known (if p then of_object method.AddBackend (object_named known (codes ".add_backend") name) else of_object method.Backend (object_named known (codes ".backend") name)) ≡ true
        → KnownCall known name (if p then of_object method.AddBackend (object_named known (codes ".add_backend") name) else of_object method.Backend (object_named known (codes ".backend") name))
    by-ending true none h = added-to h
    by-ending false none h = asked-of none h

    by-stored : (o : Option Function) → stored_named known name ≡ o → builtin_of name ≡ None → is_known (of_stored known name o) ≡ true → KnownCall known name (of_stored known name o)
    by-stored (Some f) e none h =
        let r = stored-row known name f e in
        (f, refl, of_table r.0 (jar_at known.stored r.0) (other none ∙ ap (λ (o : Option ℕ). stored_or_director known name o) r.1))
    by-stored None e none h = by-ending (ends_in (codes ".add_backend") name) none h

    by-import : (b : Bool) (f : Function) → function_named name ≡ Some f → is_known (if b then meaning.Function f else meaning.Unknown) ≡ true
        → KnownCall known name (if b then meaning.Function f else meaning.Unknown)
    by-import true f e h = let r = function-row name f e in (f, refl, of_language r.0 (ap (λ (o : Option Builtin). builtin_or_other known name o) r.1) r.2)
    by-import false f e h = absurd (false-true h)

    by-language : (o : Option Function) → function_named name ≡ o → is_known (of_function known name o) ≡ true → KnownCall known name (of_function known name o)
    by-language (Some f) e h = by-import (is_available known f.«module») f e h
    by-language None e h = by-stored (stored_named known name) refl (no-function-row name e) h
