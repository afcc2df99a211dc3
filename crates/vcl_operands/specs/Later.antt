-- The flat lists of a numbered text as they grow at their ends.
use Rattle.std.specs.Prelude.{◌≡◌, List, ◌++◌}
use Rattle.vcl_code.specs.declared.arena.Arena.{Arena}

-- the second list begins with the first
abbrev pub Begins : {T : Type 0} → List T → List T → Type 0
Begins {T} xs ys = (more : List T) × (ys ≡ xs ++ more)

-- the second lists are the first ones at a later time
pub record Later (before after : Arena) : Type 0 where
  pub nodes : Begins before.nodes after.nodes
  pub texts : Begins before.texts after.texts
  pub patterns : Begins before.patterns after.patterns
  pub blocks : Begins before.blocks after.blocks
  pub branches : Begins before.branches after.branches
