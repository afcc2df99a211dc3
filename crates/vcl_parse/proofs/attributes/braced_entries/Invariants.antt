use Rattle.std.proofs.Common.{◌≡◌, ◌∷◌, ◌<◌, List, length}
use Rattle.std.specs.Prelude.{map}
use Rattle.vcl_tree.specs.Phrase.{Phrase, list_of}
use Rattle.vcl_tree.specs.TreeView.{entry_of}
use Rattle.vcl_parse.specs.Machine.{Want, Read, Go, Entries, MoreEntries, Take, watch}
use Rattle.vcl_tree.specs.declared.token.Sign.TheVariants as sign
use Rattle.vcl_parse.proofs.attributes.braced_entries.Given as goal

abbrev pub invariant-entries : goal.invariant-entries
invariant-entries l = record {
  shorter : length l.rest < length l.tokens;
  watched : (s : List Want) (vs : List Phrase) → watch l.depth (Read Entries ∷ s) vs l.tokens ≡ watch l.deeper (Go MoreEntries ∷ Take sign.CloseBrace ∷ s) (list_of (map entry_of l.entries.items) ∷ vs) l.rest;
}

abbrev pub decreases-entries : goal.decreases-entries
decreases-entries l = length l.rest
