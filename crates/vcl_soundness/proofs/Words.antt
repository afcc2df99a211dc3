-- What words of return come to, with the values that they take.
use Rattle.std.proofs.Common.{◌≡◌, refl, sym, ap, ◌∙◌, subst, ℕ, zero, suc, List, [], ◌∷◌, position, Bool, true, false, Option, Some, None, option_and_then, slice_get}
use Rattle.std.specs.Str.{bytes_eq}
use Rattle.std.proofs.lemmas.Option.{none-some, same_Some}
use Rattle.vcl_values.specs.declared.value.Kind.{Kind}
use Rattle.vcl_values.specs.declared.value.Kind.TheVariants as kind
use Rattle.vcl_values.specs.declared.value.Value.{Value}
use Rattle.vcl_values.specs.Values.{kind_of}
use Rattle.vcl_language.specs.Words.{word_named}
use Rattle.vcl_language.specs.declared.functions.Parameter.TheVariants.{Value as Typed}
use Rattle.vcl_language.specs.Functions.{nothing}
use Rattle.vcl_language.specs.declared.functions.Slot.{Slot}
use Rattle.vcl_language.specs.declared.functions.Slot.TheVariants.{Closed, Needed, Optional}
use Rattle.vcl_language.specs.declared.words.TheConstants.{WORDS as LANGUAGE_WORDS}
use Rattle.vcl_language.specs.declared.words.Word.{Word}
use Rattle.vcl_check.specs.Rules.{is_nowhere}
use Rattle.vcl_code.specs.Names.{word_of}
use Rattle.vcl_code.specs.declared.callees.TheConstants.{WORDS, WORD_NAMES}
use Rattle.vcl_code.specs.declared.node.ReturnWord.{ReturnWord}
use Rattle.vcl_code.specs.declared.node.ReturnWord.TheVariants as word
use Rattle.vcl_operands.specs.Meaning.{Operand}
use Rattle.vcl_eval.specs.Returns.{plain, with_one, with_two}
use Rattle.vcl_eval.specs.States.{ends_due}
use Rattle.vcl_meaning.specs.Meaning.{then_with, returned}
use Rattle.vcl_soundness.proofs.Holds.{IsOf, Goes, IsDue, then-goes, return-goes}
use Rattle.vcl_soundness.proofs.Typed.{Worth}
use Rattle.vcl_soundness.proofs.Values.{int-is, duration-is}

-- what a word takes, and whether it is used with a time too
abbrev pub takes_of : ReturnWord → List Slot
takes_of word.Synth = Needed (Typed kind.Int) ∷ Optional (Typed kind.String) ∷ Closed ∷ []
takes_of word.Error = Optional (Typed kind.Int) ∷ Optional (Typed kind.String) ∷ Closed ∷ []
takes_of _ = nothing

abbrev pub is_untimed : ReturnWord → Bool
is_untimed word.Pass = false
is_untimed _ = true

pub record IsWord (w : Word) (r : ReturnWord) : Type 0 where
  pub takes : w.takes ≡ takes_of r
  pub timed : is_nowhere w.timed ≡ is_untimed r

word-is : (w x : Word) (r : ReturnWord) → x.takes ≡ takes_of r → is_nowhere x.timed ≡ is_untimed r → Some x ≡ Some w → IsWord w r
word-is w x r t u e =
    let same : x ≡ w = same_Some x w e in
    record { takes = ap (λ (y : Word). y.takes) (sym same) ∙ t; timed = ap (λ (y : Word). is_nowhere y.timed) (sym same) ∙ u }

abbrev AtWord : Option ℕ → Word → Type 0
AtWord row w = (r : ReturnWord) × (option_and_then (λ k. slice_get WORDS k) row ≡ Some r) × IsWord w r

at-word : (row : Option ℕ) (w : Word) → option_and_then (λ k. slice_get LANGUAGE_WORDS k) row ≡ Some w → AtWord row w
at-word None w e = absurd (none-some w e)
at-word (Some zero) w e = (word.Hash, refl, word-is w _ word.Hash refl refl e)
at-word (Some (suc zero)) w e = (word.Pass, refl, word-is w _ word.Pass refl refl e)
at-word (Some (suc (suc zero))) w e = (word.Purge, refl, word-is w _ word.Purge refl refl e)
at-word (Some (suc (suc (suc zero)))) w e = (word.Synth, refl, word-is w _ word.Synth refl refl e)
at-word (Some (suc (suc (suc (suc zero))))) w e = (word.Restart, refl, word-is w _ word.Restart refl refl e)
at-word (Some (suc (suc (suc (suc (suc zero)))))) w e = (word.Fail, refl, word-is w _ word.Fail refl refl e)
at-word (Some (suc (suc (suc (suc (suc (suc zero))))))) w e = (word.Lookup, refl, word-is w _ word.Lookup refl refl e)
at-word (Some (suc (suc (suc (suc (suc (suc (suc zero)))))))) w e = (word.Deliver, refl, word-is w _ word.Deliver refl refl e)
at-word (Some (suc (suc (suc (suc (suc (suc (suc (suc zero))))))))) w e = (word.Fetch, refl, word-is w _ word.Fetch refl refl e)
at-word (Some (suc (suc (suc (suc (suc (suc (suc (suc (suc zero)))))))))) w e = (word.Error, refl, word-is w _ word.Error refl refl e)
at-word (Some (suc (suc (suc (suc (suc (suc (suc (suc (suc (suc zero))))))))))) w e = (word.Abandon, refl, word-is w _ word.Abandon refl refl e)
at-word (Some (suc (suc (suc (suc (suc (suc (suc (suc (suc (suc (suc zero)))))))))))) w e = (word.Retry, refl, word-is w _ word.Retry refl refl e)
at-word (Some (suc (suc (suc (suc (suc (suc (suc (suc (suc (suc (suc (suc zero))))))))))))) w e = (word.Ok, refl, word-is w _ word.Ok refl refl e)
at-word (Some (suc (suc (suc (suc (suc (suc (suc (suc (suc (suc (suc (suc (suc n)))))))))))))) w e = absurd (none-some w e)

pub word-found : (name : List ℕ) (w : Word) → word_named name ≡ Some w → (r : ReturnWord) × (word_of name ≡ Some r) × IsWord w r
unfolding word_named word_of
word-found name w e = at-word (position (λ known. bytes_eq known.now name) WORD_NAMES) w e

-- the types with which a word ends a run
abbrev pub TakesOne : ReturnWord → Kind → Type 0
TakesOne word.Synth k = k ≡ kind.Int
TakesOne word.Error k = k ≡ kind.Int
TakesOne word.Pass k = k ≡ kind.Duration
TakesOne _ k = ⊥

abbrev pub TakesTwo : ReturnWord → Kind → Type 0
TakesTwo word.Synth k = k ≡ kind.Int
TakesTwo word.Error k = k ≡ kind.Int
TakesTwo _ k = ⊥

-- a word that may stand alone
abbrev pub StandsAlone : ReturnWord → Type 0
StandsAlone word.Synth = ⊥
StandsAlone _ = Unit {0}

plain-due : (r : ReturnWord) → StandsAlone r → IsDue (plain r)
plain-due word.Synth h = h
plain-due word.Hash h = tt
plain-due word.Pass h = tt
plain-due word.Purge h = tt
plain-due word.Restart h = tt
plain-due word.Fail h = tt
plain-due word.Lookup h = tt
plain-due word.Deliver h = tt
plain-due word.Fetch h = tt
plain-due word.Error h = tt
plain-due word.Abandon h = tt
plain-due word.Retry h = tt
plain-due word.Ok h = tt

one-due : (r : ReturnWord) (v : Value) → TakesOne r (kind_of v) → IsDue (with_one r v)
one-due word.Synth v h = let i = int-is v h in subst (λ (x : Value). IsDue (with_one word.Synth x)) (sym i.1) tt
one-due word.Error v h = let i = int-is v h in subst (λ (x : Value). IsDue (with_one word.Error x)) (sym i.1) tt
one-due word.Pass v h = let i = duration-is v h in subst (λ (x : Value). IsDue (with_one word.Pass x)) (sym i.1) tt
one-due _ v h = absurd h

two-due : (r : ReturnWord) (v w : Value) → TakesTwo r (kind_of v) → IsDue (with_two r v w)
two-due word.Synth v w h = let i = int-is v h in subst (λ (x : Value). IsDue (with_two word.Synth x w)) (sym i.1) tt
two-due word.Error v w h = let i = int-is v h in subst (λ (x : Value). IsDue (with_two word.Error x w)) (sym i.1) tt
two-due _ v w h = absurd h

pub returned-alone : (r : ReturnWord) → StandsAlone r → Goes (returned (Some r) [])
returned-alone r h s = return-goes (plain r) (plain-due r h) s

pub returned-one : (r : ReturnWord) (k : Kind) (x : Operand) → TakesOne r k → Worth k x → Goes (returned (Some r) (x ∷ []))
returned-one r k x h a s =
    then-goes (IsOf k) x (λ v. ends_due (with_one r v)) s (a s.answers) (λ v p. return-goes (with_one r v) (one-due r v (subst (λ (l : Kind). TakesOne r l) (sym p) h)))

pub returned-two : (r : ReturnWord) (k l : Kind) (x y : Operand) → TakesTwo r k → Worth k x → Worth l y → Goes (returned (Some r) (x ∷ y ∷ []))
returned-two r k l x y h a b s =
    then-goes (IsOf k) x (λ v. then_with y (λ w. ends_due (with_two r v w))) s (a s.answers)
    (λ v p z.
    then-goes (IsOf l) y (λ w. ends_due (with_two r v w)) z (b z.answers) (λ w q. return-goes (with_two r v w) (two-due r v w (subst (λ (m : Kind). TakesTwo r m) (sym p) h))))
