-- A name that is known to the check of a text stands for what its runs have, of the type that the check sees.
use Rattle.std.proofs.Common.{◌≡◌, ℕ, ◌+◌, ◌-◌, ◌≤◌, ◌==◌, Bool, true, false, not, ◌&&◌, take, drop, length, List, [], ◌∷◌, refl, sym, ap, ◌∙◌, subst, codes, position, Option, Some, None, is_some, option_map, option_and_then, slice_get, if◌then◌else◌, arith}
use Rattle.std.specs.Str.{bytes_eq}
use Rattle.std.proofs.lemmas.List.Quantifiers.{position-Some}
use Rattle.std.proofs.lemmas.Option.{none-some, slice_get-get_or}
use Rattle.directors.specs.declared.director.DirectorKind.{DirectorKind}
use Rattle.acl_match.specs.declared.entry.AclEntry.{AclEntry}
use Rattle.vcl_values.specs.declared.value.Backend.{Backend}
use Rattle.vcl_values.specs.declared.value.Kind.{Kind}
use Rattle.vcl_values.specs.declared.value.Kind.TheVariants as kind
use Rattle.vcl_tree.specs.Endings.{ends_in}
use Rattle.vcl_language.specs.Functions.{function_named, method_of}
use Rattle.vcl_language.specs.Modules.{is_module}
use Rattle.vcl_language.specs.Names.{subroutine_named}
use Rattle.vcl_language.specs.Scopes.{has}
use Rattle.vcl_language.specs.Variables.{variable_named}
use Rattle.vcl_language.specs.declared.scope.Subroutine.{Subroutine}
use Rattle.vcl_language.specs.declared.functions.Function.{Function}
use Rattle.vcl_language.specs.declared.functions.Method.TheVariants as method
use Rattle.vcl_language.specs.declared.variables.Variable.{Variable as Row}
use Rattle.vmod_host.specs.declared.signature.JarUse.{JarUse}
use Rattle.vmod_host.specs.declared.signature.JarUse.TheVariants as jar
use Rattle.vmod_host.specs.declared.signature.Stored.{Stored}
use Rattle.vmod_host.specs.Stored.{is_named}
use Rattle.vcl_symbols.specs.Known.{Known, symbol_named, is_imported, object_named, without, stored_in, stored_of}
use Rattle.vcl_symbols.specs.declared.symbol_table.Symbol.{Symbol}
use Rattle.vcl_symbols.specs.declared.symbol_table.Symbol.TheVariants as symbol
use Rattle.vcl_check.specs.declared.form.Use.TheVariants as use'
use Rattle.vcl_check.specs.declared.seen.Meaning.TheVariants as meaning
use Rattle.vcl_check.specs.declared.seen.Sort.{Sort}
use Rattle.vcl_check.specs.declared.seen.Sort.TheVariants as sort
use Rattle.vcl_check.specs.Known.{is_truth, meaning_of, of_read, of_read_symbol, of_declared, takes_values, takes_behind_jar, written_of, value_given, giving, function_of, function_at, stored_named, of_stored, of_function}
use Rattle.vcl_check.specs.Rules.{is_known, may_use}
use Rattle.vcl_check.specs.Views.{sort_of}
use Rattle.vcl_code.specs.declared.callees.Builtin.{Builtin}
use Rattle.vcl_code.specs.declared.names.Callee.TheVariants as callee
use Rattle.vcl_code.specs.Names.{Target, Plain, Field, NoTarget, Read, Truth, target_of, of_symbol, of_target, read_of, acl_in, acl_of, builtin_of, director_in, jar_in, jar_at, stored_or_director, builtin_or_other, callee_of}
use Rattle.vcl_program.specs.declared.code.Director.{Director}
use Rattle.vcl_operands.specs.Meaning.{Scene, named_value}
use Rattle.vcl_operands.specs.Values.{backend_value, backend_at}
use Rattle.vcl_soundness.proofs.Rows.{false-true, IsRowOf, function-row}
use Rattle.vcl_soundness.proofs.Calls as names
use Rattle.vcl_soundness.proofs.Calls.{AreMade, Calls, function-calls}
use Rattle.vcl_soundness.specs.Laws.{AreMeant, BeginsWithJar}
use Rattle.vcl_soundness.proofs.Holds.{IsOf, Makes}
use Rattle.vcl_soundness.proofs.Tables.{TargetOf, target-is, no-target, reads-as}

-- What the names of a text stand for is there in its runs.
pub record Stands (known : Known) (scene : Scene) : Type 0 where
  pub made : AreMade known
  pub stored : scene.stored ≡ known.stored
  pub meant : AreMeant known.stored
  pub backends : (name : List ℕ) (k : ℕ) → symbol_named known name ≡ Some (symbol.Backend k) → (b : Backend) × (slice_get scene.backends k ≡ Some b)
  pub acls : (name : List ℕ) (k : ℕ) → symbol_named known name ≡ Some (symbol.Acl k) → (entries : List AclEntry) × (slice_get scene.acls k ≡ Some entries)
  pub directors : (name : List ℕ) (kind : DirectorKind) (k : ℕ) → symbol_named known name ≡ Some (symbol.Director kind k) → (d : Director) × (slice_get scene.directors k ≡ Some d)

-- the ACL of a name
abbrev pub AclNamed : Known → Scene → List ℕ → Type 0
AclNamed known scene name = (k : ℕ) × (acl_of known name ≡ Some k) × ((entries : List AclEntry) × (slice_get scene.acls k ≡ Some entries))

-- what is read, with a value of a type
abbrev pub ReadIs : Scene → Kind → Read → Type 0
ReadIs scene k found = Makes (IsOf k) (named_value scene found)

abbrev pub ReadsAs : Known → Scene → List ℕ → Sort → Type 0
ReadsAs known scene name (sort.Value (Some k)) = ReadIs scene k (read_of known name)
ReadsAs known scene name sort.Acl = AclNamed known scene name
ReadsAs known scene name sort.Nothing = Unit {0}
ReadsAs known scene name _ = ⊥

module _ (known : Known) (scene : Scene) (stands : Stands known scene) where
  variable-read : (name : List ℕ) (v : Row) (t : Target) (s : Subroutine) → TargetOf v t → has v.read s ≡ true → ReadIs scene v.kind (of_target known name t)
  variable-read name v (Plain w) s h r = reads-as scene.default w scene.context ∙ h.kind
  variable-read name v (Field message field) s h r = sym h
  variable-read name v NoTarget s h r = absurd h

  -- a name that no variable has
  abbrev NoVariable : List ℕ → Type 0
  NoVariable name = target_of name ≡ NoTarget

  abbrev ReadOf : List ℕ → Read
  ReadOf name = of_target known name NoTarget

  not-variable : (name : List ℕ) (k : Kind) → NoVariable name → ReadIs scene k (ReadOf name) → ReadIs scene k (of_target known name (target_of name))
  not-variable name k n h = subst (λ (t : Target). ReadIs scene k (of_target known name t)) (sym n) h

  truth-read : (name : List ℕ) → is_truth name ≡ true → ReadIs scene kind.Bool (ReadOf name)
  truth-read name h = by-words (bytes_eq name (codes "true")) (bytes_eq name (codes "false")) h
    where
      by-words : (p q : Bool) → (if p then true else q) ≡ true
          → ReadIs scene kind.Bool (if p then Truth true else (if q then Truth false else of_symbol (symbol_named known name)))
      by-words true q h = refl
      by-words false true h = refl
      by-words false false h = absurd (false-true h)

  symbol-read : (name : List ℕ) (k : ℕ) → is_truth name ≡ false → symbol_named known name ≡ Some (symbol.Backend k) → ReadIs scene kind.Backend (ReadOf name)
  symbol-read name k h e = by-words (bytes_eq name (codes "true")) (bytes_eq name (codes "false")) h
    where
      by-symbol : (o : Option Symbol) → o ≡ Some (symbol.Backend k) → ReadIs scene kind.Backend (of_symbol o)
      by-symbol o f =
          let b = stands.backends name k e in
          let there : Makes (IsOf kind.Backend) (backend_at scene.backends k) = subst (λ (x : Option Backend). Makes (IsOf kind.Backend) (option_map (λ y. Some (backend_value y)) x)) (sym b.1) refl in
          subst (λ (x : Option Symbol). ReadIs scene kind.Backend (of_symbol x)) (sym f) there

      by-words : (p q : Bool) → (if p then true else q) ≡ false
          → ReadIs scene kind.Backend (if p then Truth true else (if q then Truth false else of_symbol (symbol_named known name)))
      by-words true q h = absurd (false-true (sym h))
      by-words false true h = absurd (false-true (sym h))
      by-words false false h = by-symbol (symbol_named known name) e

  pub name-reads : (name : List ℕ) (s : Subroutine) → is_known (meaning_of known use'.Read name) ≡ true → may_use use'.Read (meaning_of known use'.Read name) s ≡ true
      → ReadsAs known scene name (sort_of (meaning_of known use'.Read name))
  unfolding meaning_of read_of acl_of
  name-reads name s h u = by-variable (variable_named name) refl h u
    where
      by-symbol : NoVariable name → is_truth name ≡ false → (o : Option Symbol) (z : Bool) → symbol_named known name ≡ o → is_known (of_read_symbol o z) ≡ true
          → ReadsAs known scene name (sort_of (of_read_symbol o z))
      by-symbol n t (Some (symbol.Backend k)) z e h = not-variable name kind.Backend n (symbol-read name k t e)
      by-symbol n t (Some (symbol.Acl k)) z e h = (k, ap acl_in e, stands.acls name k e)
      by-symbol n t (Some symbol.Probe) z e h = tt
      by-symbol n t (Some (symbol.Subroutine k)) z e h = tt
      by-symbol n t (Some (symbol.Director kind k)) z e h = tt
      by-symbol n t (Some symbol.UnknownObject) z e h = tt
      by-symbol n t (Some symbol.NoObject) z e h = tt
      by-symbol n t None true e h = tt
      by-symbol n t None false e h = absurd (false-true h)

      by-truth : NoVariable name → (b : Bool) → is_truth name ≡ b → is_known (if b then meaning.Truth else of_declared known name) ≡ true
          → ReadsAs known scene name (sort_of (if b then meaning.Truth else of_declared known name))
      by-truth n true e h = not-variable name kind.Bool n (truth-read name e)
      by-truth n false e h = by-symbol n e (symbol_named known name) (is_some (subroutine_named name)) refl h

      by-variable : (o : Option Row) → variable_named name ≡ o → is_known (of_read known name o) ≡ true → may_use use'.Read (of_read known name o) s ≡ true
          → ReadsAs known scene name (sort_of (of_read known name o))
      by-variable (Some v) e h u = variable-read name v (target_of name) s (target-is name v e) u
      by-variable None e h u = by-truth (no-target name e) (is_truth name) refl h

  -- What a function's name stands for: a function of the language, a stored one that is there, or a method of a director that is.
  pub data Does (name : List ℕ) (f : Function) : Type 0 where
    of_language : (b : Builtin) → callee_of known name ≡ callee.Builtin b → IsRowOf f b → Does name f
    of_table : (k : ℕ) (entry : Stored) → callee_of known name ≡ callee.Stored k entry.signature.jar → slice_get known.stored k ≡ Some entry → function_of entry.signature ≡ Some f → Does name f
    of_director : (k : ℕ) (d : Director) (kind : DirectorKind) → callee_of known name ≡ callee.Director k → slice_get scene.directors k ≡ Some d → f ≡ method_of kind method.Backend → Does name f
    to_director : (kind : DirectorKind) → f ≡ method_of kind method.AddBackend → Does name f

  -- a stored function takes three values at most, so that the check knows it
  giving-some : (g : Option Kind) (kinds : List Kind) → length kinds ≤ 3 → (f : Function) × (giving g (takes_values kinds) ≡ Some f)
  giving-some g [] h = (_, refl)
  giving-some g (a ∷ []) h = (_, refl)
  giving-some g (a ∷ b ∷ []) h = (_, refl)
  giving-some g (a ∷ b ∷ c ∷ []) h = (_, refl)
  giving-some g (a ∷ b ∷ c ∷ d ∷ more) h = absurd (omega (arith, h))

  -- the same behind the jar's text
  behind-some : (g : Option Kind) (kinds : List Kind) → length kinds ≤ 2 → (f : Function) × (giving g (takes_behind_jar (kind.String ∷ kinds)) ≡ Some f)
  behind-some g [] h = (_, refl)
  behind-some g (a ∷ []) h = (_, refl)
  behind-some g (a ∷ b ∷ []) h = (_, refl)
  behind-some g (a ∷ b ∷ c ∷ more) h = absurd (omega (arith, h))

  jar-some : (g : Option Kind) (kinds more : List Kind) → kinds ≡ kind.String ∷ more → length kinds ≤ 3 → (f : Function) × (giving g (takes_behind_jar kinds) ≡ Some f)
  jar-some g kinds more e h =
      subst (λ (ks : List Kind). (f : Function) × (giving g (takes_behind_jar ks) ≡ Some f)) (sym e) (behind-some g more (omega (arith, ap length e, h)))

  written-some : (u : JarUse) (g : Option Kind) (kinds : List Kind) → length kinds ≤ 3 → BeginsWithJar u kinds → (f : Function) × (giving g (written_of u kinds) ≡ Some f)
  written-some jar.None g kinds h b = giving-some g kinds h
  written-some jar.Asks g kinds h b = jar-some g kinds b.0 b.1 h
  written-some jar.Changes g kinds h b = jar-some g kinds b.0 b.1 h

  abbrev Entered : ℕ → Function → Type 0
  Entered k f = (entry : Stored) × (slice_get known.stored k ≡ Some entry) × (function_of entry.signature ≡ Some f)

  entry-at : (stored : List Stored) (p : Stored → Bool) (k : ℕ) → position p stored ≡ Some k → (entry : Stored) × (slice_get stored k ≡ Some entry)
  entry-at [] p k e = absurd (none-some k e)
  entry-at (x ∷ xs) p k e = let low = position-Some p (x ∷ xs) k x e in (_, slice_get-get_or (x ∷ xs) k x low.0)

  row-entered : (p : Stored → Bool) (k : ℕ) → position p known.stored ≡ Some k → (f : Function) × Entered k f
  row-entered p k e =
      let entry = entry-at known.stored p k e in
      let s = entry.0.signature in
      let m = stands.meant k entry.0 entry.1 in
      let f = written-some s.jar (value_given s.jar s.gives) s.takes m.0 m.2 in
      (f.0, (entry.0, entry.1, f.1))

  at-entered : (k : ℕ) (f : Function) → Entered k f → function_at known.stored k ≡ Some f
  at-entered k f h = ap (option_and_then (λ (entry : Stored). function_of entry.signature)) h.1 ∙ h.2

  named-entered : (name : List ℕ) (k : ℕ) → stored_of known name ≡ Some k → (f : Function) × Entered k f × (stored_named known name ≡ Some f)
  named-entered name k e =
      let f = by-dot (position (λ byte. byte == 46) name) e in
      (f.0, f.1, ap (option_and_then (λ j. function_at known.stored j)) e ∙ at-entered k f.0 f.1)
    where
      by-import : (origin own : List ℕ) (b : Bool) → (if b then position (λ entry. is_named origin own entry.signature) known.stored else None) ≡ Some k → (f : Function) × Entered k f
      by-import origin own true e = row-entered (λ entry. is_named origin own entry.signature) k e
      by-import origin own false e = absurd (none-some k e)

      by-dot : (o : Option ℕ) → option_and_then (λ dot. stored_in known (take dot name) (drop (dot + 1) name)) o ≡ Some k → (f : Function) × Entered k f
      by-dot (Some dot) e = by-import (take dot name) (drop (dot + 1) name) (is_imported known (take dot name) && not (is_module (take dot name))) e
      by-dot None e = absurd (none-some k e)

  -- what stands under a callee
  director-symbol : (o : Option Symbol) (k : ℕ) → director_in o ≡ callee.Director k → (kind : DirectorKind) × (o ≡ Some (symbol.Director kind k))
  director-symbol (Some (symbol.Director kind j)) k e = (kind, ap (λ (i : ℕ). Some (symbol.Director kind i)) (cc))
  director-symbol (Some symbol.Probe) k e = absurd (cc)
  director-symbol (Some symbol.UnknownObject) k e = absurd (cc)
  director-symbol (Some symbol.NoObject) k e = absurd (cc)
  director-symbol (Some (symbol.Acl j)) k e = absurd (cc)
  director-symbol (Some (symbol.Backend j)) k e = absurd (cc)
  director-symbol (Some (symbol.Subroutine j)) k e = absurd (cc)
  director-symbol None k e = absurd (cc)

  director-no-stored : (o : Option Symbol) (k : ℕ) (u : JarUse) → director_in o ≡ callee.Stored k u → ⊥
  director-no-stored (Some (symbol.Director kind j)) k u e = cc
  director-no-stored (Some symbol.Probe) k u e = cc
  director-no-stored (Some symbol.UnknownObject) k u e = cc
  director-no-stored (Some symbol.NoObject) k u e = cc
  director-no-stored (Some (symbol.Acl j)) k u e = cc
  director-no-stored (Some (symbol.Backend j)) k u e = cc
  director-no-stored (Some (symbol.Subroutine j)) k u e = cc
  director-no-stored None k u e = cc

  director-there : (name : List ℕ) (k : ℕ) → callee_of known name ≡ callee.Director k → (d : Director) × (slice_get scene.directors k ≡ Some d)
  unfolding callee_of
  director-there name k e = by-builtin (builtin_of name) e
    where
      by-ending : (kind : DirectorKind) (b : Bool) → (if b then symbol_named known (without (codes ".backend") name) else None) ≡ Some (symbol.Director kind k)
          → (d : Director) × (slice_get scene.directors k ≡ Some d)
      by-ending kind true e = stands.directors (without (codes ".backend") name) kind k e
      by-ending kind false e = absurd (none-some (symbol.Director kind k) e)

      by-stored : (o : Option ℕ) → stored_or_director known name o ≡ callee.Director k → (d : Director) × (slice_get scene.directors k ≡ Some d)
      by-stored (Some j) e = absurd (cc)
      by-stored None e = let d = director-symbol (object_named known (codes ".backend") name) k e in by-ending d.0 (ends_in (codes ".backend") name) d.1

      by-builtin : (o : Option Builtin) → builtin_or_other known name o ≡ callee.Director k → (d : Director) × (slice_get scene.directors k ≡ Some d)
      by-builtin (Some b) e = absurd (cc)
      by-builtin None e = by-stored (stored_of known name) e

  stored-there : (name : List ℕ) (k : ℕ) (u : JarUse) → callee_of known name ≡ callee.Stored k u → (builtin_of name ≡ None) × (stored_of known name ≡ Some k) × (u ≡ jar_at known.stored k)
  unfolding callee_of
  stored-there name k u e = by-builtin (builtin_of name) refl e
    where
      by-place : (j : ℕ) → callee.Stored j (jar_at known.stored j) ≡ callee.Stored k u → (Some j ≡ Some k) × (u ≡ jar_at known.stored k)
      by-place j e =
          let same : j ≡ k = cc in
          let way : jar_at known.stored j ≡ u = cc in
          (ap Some same, sym way ∙ ap (jar_at known.stored) same)

      by-stored : (o : Option ℕ) → stored_or_director known name o ≡ callee.Stored k u → (o ≡ Some k) × (u ≡ jar_at known.stored k)
      by-stored (Some j) e = by-place j e
      by-stored None e = absurd (director-no-stored (object_named known (codes ".backend") name) k u e)

      by-builtin : (o : Option Builtin) → builtin_of name ≡ o → builtin_or_other known name o ≡ callee.Stored k u
          → (builtin_of name ≡ None) × (stored_of known name ≡ Some k) × (u ≡ jar_at known.stored k)
      by-builtin (Some b) f e = absurd (cc)
      by-builtin None f e = let s = by-stored (stored_of known name) e in (f, s.0, s.1)

  no-function : (name : List ℕ) (o : Option Function) → function_named name ≡ o → builtin_of name ≡ None → o ≡ None
  no-function name None e n = refl
  no-function name (Some f) e n = absurd (none-some _ (sym n ∙ (function-row name f e).1))

  of-table : (name : List ℕ) (k : ℕ) (u : JarUse) (f : Function) → meaning_of known use'.Function name ≡ meaning.Function f → callee_of known name ≡ callee.Stored k u → Entered k f
  unfolding meaning_of
  of-table name k u f m e =
      let s = stored-there name k u e in
      let g = named-entered name k s.1 in
      let none = no-function name (function_named name) refl s.0 in
      let is : meaning.Function g.0 ≡ meaning.Function f = sym (ap (of_function known name) none ∙ ap (of_stored known name) g.2) ∙ m in
      let same : g.0 ≡ f = cc in
      subst (λ (x : Function). Entered k x) same g.1

  pub function-does : (name : List ℕ) → is_known (meaning_of known use'.Function name) ≡ true → (f : Function) × (meaning_of known use'.Function name ≡ meaning.Function f) × Does name f
  function-does name h = let c = function-calls known stands.made name h in (c.0, c.1, by-call c.0 c.1 c.2)
    where
      by-call : (f : Function) → meaning_of known use'.Function name ≡ meaning.Function f → Calls known name f → Does name f
      by-call f m (names.of_language b e row) = of_language b e row
      by-call f m (names.of_table k u e) =
          let t = of-table name k u f m e in
          let way : u ≡ t.0.signature.jar = (stored-there name k u e).2 ∙ ap jar_in t.1 in
          of_table k t.0 (e ∙ ap (λ (x : JarUse). callee.Stored k x) way) t.1 t.2
      by-call f m (names.of_director k kind e same) = let d = director-there name k e in of_director k d.0 kind e d.1 same
      by-call f m (names.to_director kind same) = to_director kind same
