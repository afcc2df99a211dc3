-- The patterns of the built-in text don't nest too deep.
use Rattle.std.proofs.Common.{◌≡◌, ℕ, zero, suc, ◌<◌, ◌≤◌, Bool, true, false, ◌&&◌, List, [], ◌∷◌, ◌++◌, length, inl, inr, Option, Some, None, refl, subst, slice_index_or, arith}
use Rattle.std.specs.Prelude.{Contains, IsSomeAnd, nat_le}
use Rattle.std.specs.Str.{chars, is_utf8}
use Rattle.std.specs.Char.{encode_utf8}
use Rattle.std.proofs.lemmas.Bool.Decides.{nat_tests}
use Rattle.std.proofs.lemmas.List.Elements.{Contains-append_cases}
use Rattle.regex_syntax.specs.Grammar.{Names, set_flag, set_flags, capture, opening, char_meaning, atom, repetitions, with_repetitions, item, join_parts, items as items_in, branches, read as read_pattern, names_below}
use Rattle.regex_syntax.specs.Reading.{first, skip_from, skip}
use Rattle.regex_syntax.specs.Sets.{verbatim}
use Rattle.regex_syntax.specs.Brackets.{Nested}
use Rattle.regex.specs.Patterns.{Re}
use Rattle.vcl_values.specs.Readings.{NestsTooDeep, options, reading}
use Rattle.vcl_tree.specs.declared.item.Item.{Item}
use Rattle.vcl_language.specs.Functions.{function_named}
use Rattle.vcl_check.specs.declared.mentions.MentionKind.{MentionKind}
use Rattle.vcl_check.specs.declared.mentions.MentionKind.TheVariants as kind
use Rattle.vcl_check.specs.Mentions.{Said}
use Rattle.vcl_check.specs.Texts.{says}
use Rattle.vcl_store.specs.Joined.{built_in_text}
use Rattle.vcl_refusals.specs.Outcomes.{HasNoDeepPattern}
use Rattle.vcl_store.proofs.BuiltIn.{built-in, items, rest, tokens}
use Rattle.vcl_refusals.proofs.Mentioned.{says-both}
use Rattle.vcl_store.proofs.Reader.{first-of, second-of}

abbrev is-low : Option (Nested Re × Names) → Bool
is-low None = false
is-low (Some found) = nat_le found.0.depth 250

low-enough : (n : ℕ) → nat_le n 250 ≡ true → n ≤ 250
low-enough n h = grind (arith, nat_tests)

low-or-deep : (o : Option (Nested Re × Names)) → is-low o ≡ true → IsSomeAnd o (λ r. options.nest_limit < r.0.depth) → ⊥
low-or-deep None low deep = deep
low-or-deep (Some found) low deep = omega (arith, low-enough found.0.depth low, deep)

-- a pattern is read, and doesn't nest too deep
abbrev is-fine : MentionKind → List ℕ → Bool
is-fine kind.Pattern text = is-low (reading text)
is-fine _ text = true

abbrev are-fine : List Said → Bool
are-fine [] = true
are-fine (s ∷ ss) = is-fine s.kind s.name && are-fine ss

fine-at : (ss : List Said) (s : Said) (i : ℕ) → are-fine ss ≡ true → i < length ss → slice_index_or ss i s ≡ s → is-fine s.kind s.name ≡ true
fine-at [] s i fine l e = absurd (omega arith)
fine-at (t ∷ ts) s zero fine l e = subst (λ (u : Said). is-fine u.kind u.name ≡ true) e (first-of (is-fine t.kind t.name) (are-fine ts) fine)
fine-at (t ∷ ts) s (suc i) fine l e = fine-at ts s i (second-of (is-fine t.kind t.name) (are-fine ts) fine) (omega arith) e

fine-or-deep : (s : Said) → is-fine s.kind s.name ≡ true → s.kind ≡ kind.Pattern → NestsTooDeep s.name → ⊥
fine-or-deep s fine pattern deep = low-or-deep (reading s.name) (subst (λ (k : MentionKind). is-fine k s.name ≡ true) pattern fine) deep

built-in-fine : are-fine (says built-in.items) ≡ true
unfolding built-in items rest tokens built_in_text function_named reading chars is_utf8 encode_utf8 set_flag set_flags capture opening char_meaning atom repetitions with_repetitions item join_parts items_in branches read_pattern names_below first skip_from skip verbatim
built-in-fine = refl

built-in-shallow : HasNoDeepPattern built-in.items
built-in-shallow s among = fine-or-deep s (fine-at (says built-in.items) s among.0 built-in-fine among.1 among.2)

-- nor do those of a text with the built-in text behind it, where its own don't
pub joined-shallow : (own : List Item) → HasNoDeepPattern own → HasNoDeepPattern (own ++ built-in.items)
joined-shallow own shallow s among pattern deep =
    let both : Contains (says own ++ says built-in.items) s = subst (λ (ss : List Said). Contains ss s) (says-both own built-in.items) among in
    elim (Contains-append_cases (says own) (says built-in.items) s both) [ inl h ↦ shallow s h pattern deep | inr h ↦ built-in-shallow s h pattern deep ]
