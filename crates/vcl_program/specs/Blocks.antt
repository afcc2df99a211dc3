-- The blocks of subroutines.
use Rattle.std.specs.Prelude.{ℕ, List, [], ◌∷◌, ◌++◌, Option, Some, None, slice_index, slice_set, if◌then◌else◌}
use Rattle.vcl_tree.specs.Phrase.{Phrase}
use Rattle.vcl_tree.specs.declared.item.Item.{Item}
use Rattle.vcl_tree.specs.declared.item.Item.TheVariants as item
use Rattle.vcl_language.specs.Names.{is_reserved, subroutine_named}
use Rattle.vcl_language.specs.Scopes.{subroutine_number}
use Rattle.vcl_language.specs.declared.scope.Subroutine.{Subroutine}
use Rattle.vcl_code.specs.declared.arena.Arena.{Arena}
use Rattle.vcl_code.specs.Arenas.{Numbered}
use Rattle.vcl_symbols.specs.Known.{Known}
use Rattle.vcl_code.specs.Statements.{numbered_block}

-- the numbers of subroutines' blocks, and the lists behind them
pub record Heads : Type 0 where
  pub numbers : List ℕ
  pub arena : Arena

abbrev pub heads : List ℕ → Arena → Heads
heads numbers arena = record { numbers = numbers; arena = arena }

-- the text's own subroutines, in its order
abbrev pub one_head_more : Heads → Numbered → Heads
one_head_more before n = heads (before.numbers ++ n.number ∷ []) n.arena

abbrev pub own_block : Known → List ℕ → Phrase → Heads → Heads
own_block known name block h = if is_reserved name then h else one_head_more h (numbered_block known block 0 h.arena)

abbrev pub with_own : Known → Heads → Item → Heads
with_own known h (item.Sub place name block) = own_block known name.text block h
with_own known h _ = h

abbrev pub all_own : Known → Heads → List Item → Heads
all_own known h [] = h
all_own known h (i ∷ is) = all_own known (with_own known h i) is

-- no built-in subroutine has a statement yet
abbrev pub no_bodies : List ℕ
no_bodies = 0 ∷ 0 ∷ 0 ∷ 0 ∷ 0 ∷ 0 ∷ 0 ∷ 0 ∷ 0 ∷ 0 ∷ 0 ∷ 0 ∷ 0 ∷ []

-- a body of a built-in subroutine has those behind it, from the text's end on
abbrev pub put : ℕ → Heads → Numbered → Heads
put k h n = heads (slice_set h.numbers k n.number) n.arena

abbrev pub in_front : Known → Phrase → ℕ → Heads → Heads
in_front known block k h = put k h (numbered_block known block (slice_index h.numbers k) h.arena)

abbrev pub body : Known → Option Subroutine → Phrase → Heads → Heads
body known None block h = h
body known (Some s) block h = in_front known block (subroutine_number s) h

abbrev pub with_body : Known → Item → Heads → Heads
with_body known (item.Sub place name block) h = body known (subroutine_named name.text) block h
with_body known _ h = h

abbrev pub all_bodies : Known → List Item → Heads → Heads
all_bodies known [] h = h
all_bodies known (i ∷ is) h = with_body known i (all_bodies known is h)
