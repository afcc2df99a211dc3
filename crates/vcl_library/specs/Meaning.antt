-- VCL as the language that steers rounds.
use Rattle.std.specs.Prelude.{List}
use Rattle.vcl_tree.specs.declared.item.Item.{Item}
use Rattle.vcl_tree.specs.declared.item.Tree.{Tree}
use Rattle.vmod_host.specs.declared.signature.Stored.{Stored}
use Rattle.vcl_program.specs.Codes.{code_of}
use Rattle.vcl_store.specs.Joined.{IsJoined}
use Rattle.vcl_runner.specs.Standing.{IsTurnOf}
use Rattle.vcl_runner.specs.Targets.{target_named, default_target}
use Rattle.vcl_runs.specs.Evaluators.{Evaluator}
use Rattle.vcl_runs.specs.Languages.{Language}
use Rattle.vcl_library.specs.Functions.{std_functions}
use Rattle.vcl_library.specs.Backends.{server_at}
use Rattle.vcl_library.specs.Programs.{IsProgramOf}

-- What a tree means with these functions: its turns, and what it takes backends for, are those of its numbered form.
abbrev pub meant : List Item → List Stored → Evaluator
meant items stored = record {
  turns = λ ran turn. IsTurnOf items stored ran turn;
  target = λ backend. target_named (code_of items stored) backend.name;
  otherwise = default_target (code_of items stored);
}

-- A text is its tree with the built-in text behind it, and may call the functions of the modules `std` and `cookie`; its
-- backends are where the tree says.
abbrev pub vcl : Language Tree
vcl = record {
  programs = λ text tree. ∥ IsJoined text tree ∥₁;
  evaluator = λ tree. meant tree.items std_functions;
  backends = λ tree name. server_at tree.items name;
}

-- programs by their trees and by the functions that they were made with
abbrev pub by_trees : {P : Type 0} → (P → Tree) → (P → List Stored) → Language P
by_trees tree_of stored_of = record {
  programs = λ text p. IsProgramOf text (tree_of p) (stored_of p);
  evaluator = λ p. meant (tree_of p).items (stored_of p);
  backends = λ p name. server_at (tree_of p).items name;
}
