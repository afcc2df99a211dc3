-- A file of the grammar is passed by the reading of single tokens.
use Rattle.std.proofs.Common.{◌≡◌, ℕ, List, ◌∷◌, refl, ◌∙◌}
use Rattle.vcl_tree.specs.Phrase.{Phrase, Nothing, At, Integer, Node, More, Bound, Attribute, Nested, Entry, Masked, Import, NoBackend, Backend, Probe, Acl, Sub}
use Rattle.vcl_tree.specs.declared.token.Token.{Token}
use Rattle.vcl_tree.specs.declared.token.Sign.TheVariants as sign
use Rattle.vcl_tree.specs.declared.token.Word.TheVariants as word
use Rattle.vcl_tree.specs.Tokens.{a_sign, a_word, IsName, plain_name, word_name, string}
use Rattle.vcl_tree.specs.AttributeGrammar.{IsAttributes, IsAttribute, IsValue, IsBraced, no_attributes, more_attributes, attribute, string_value, integer_value, duration_value, name_value, nested, nested_ended, braced}
use Rattle.vcl_tree.specs.Grammar.{IsAddress, IsEntries, IsItem, IsItems, whole, masked, no_entries, entry, exclusion, imported, no_backend, backend, probe, acl, sub, no_items, more_items}
use Rattle.vcl_parse.specs.Machine.{Want, Take, Read, Go, Join, Value, Attributes, BackendBody, Address, Entries, Block, MoreAttributes, Semicolon, MoreEntries, Mask, MoreItems}
use Rattle.vcl_parse.proofs.Running.{run, EndsAt, join_on}
use Rattle.vcl_parse.proofs.AcceptedStatements.{name_on, new_name_on, block_on}

no_semicolon : {a : Phrase} {ts rest : List Token} → IsAttribute a ts rest → EndsAt Semicolon ts
no_semicolon (attribute n v) s vs = refl

name_value_on : {a : Phrase} {x : Token} (q : ℕ) (rest : List Token) (s : List Want) (vs : List Phrase) → IsName a x → run (Read Value ∷ s) vs (x ∷ a_sign sign.Semicolon q ∷ rest) ≡ run s (a ∷ vs) rest
name_value_on q rest s vs plain_name = refl
name_value_on q rest s vs word_name = refl

mutual
  attributes_on : {l : Phrase} {ts rest : List Token} → IsAttributes l ts rest → EndsAt Semicolon rest → (s : List Want) (vs : List Phrase) →
      run (Go MoreAttributes ∷ s) (Nothing ∷ vs) ts ≡ run (Go MoreAttributes ∷ s) (l ∷ vs) rest
  attributes_on no_attributes k s vs = refl
  attributes_on (more_attributes {l} {a} {ts} {m} {rest} h g) k s vs =
      attributes_on h (no_semicolon g) s vs ∙ attribute_on g k s (l ∷ vs) ∙ join_on More (Go MoreAttributes ∷ s) (a ∷ l ∷ vs) rest

  attribute_on : {a : Phrase} {ts rest : List Token} → IsAttribute a ts rest → EndsAt Semicolon rest → (s : List Want) (vs : List Phrase) →
      run (Go MoreAttributes ∷ s) vs ts ≡ run (Join More ∷ Go MoreAttributes ∷ s) (a ∷ vs) rest
  attribute_on (attribute {a} {v} {x} {ts} {rest} {p} {q} n h) k s vs =
      let below : List Want = Join More ∷ Go MoreAttributes ∷ s in
      name_on (a_sign sign.Assign q ∷ ts) (Take sign.Assign ∷ Read Value ∷ Join Bound ∷ Join Attribute ∷ below) (At p ∷ vs) n
      ∙ value_on h k (Join Bound ∷ Join Attribute ∷ below) (a ∷ At p ∷ vs) ∙ join_on Bound (Join Attribute ∷ below) (v ∷ a ∷ At p ∷ vs) rest
      ∙ join_on Attribute below (Node Bound a v ∷ At p ∷ vs) rest

  value_on : {v : Phrase} {ts rest : List Token} → IsValue v ts rest → EndsAt Semicolon rest → (s : List Want) (vs : List Phrase) → run (Read Value ∷ s) vs ts ≡ run s (v ∷ vs) rest
  value_on string_value k s vs = refl
  value_on integer_value k s vs = refl
  value_on duration_value k s vs = refl
  value_on (name_value {a} {x} {rest} {q} n) k s vs = name_value_on q rest s vs n
  value_on (nested {v} {ts} {rest} h) k s vs = braced_on h s vs ∙ k s (v ∷ vs)
  value_on (nested_ended h) k s vs = braced_on h s vs

  braced_on : {v : Phrase} {ts rest : List Token} → IsBraced v ts rest → (s : List Want) (vs : List Phrase) → run (Read Value ∷ s) vs ts ≡ run (Go Semicolon ∷ s) (v ∷ vs) rest
  braced_on (braced {l} {ts} {rest} {p} {q} h) s vs =
      attributes_on h (λ s vs. refl) (Take sign.CloseBrace ∷ Join Nested ∷ Go Semicolon ∷ s) (At p ∷ vs) ∙ join_on Nested (Go Semicolon ∷ s) (l ∷ At p ∷ vs) rest

-- an address stands with what follows it, so that the end of the mask is seen
address_then : {a : Phrase} {ts rest : List Token} → IsAddress a ts rest → EndsAt Mask rest → (s : List Want) (vs : List Phrase) → run (Read Address ∷ s) vs ts ≡ run (Take sign.Semicolon ∷ s) (a ∷ vs) rest
address_then (whole {a} {x} {rest} string) k s vs = k (Take sign.Semicolon ∷ s) (a ∷ vs)
address_then (masked {a} {x} {rest} {p} {q} {n} string) k s vs = join_on Masked (Take sign.Semicolon ∷ s) (Integer q n ∷ a ∷ vs) rest

string_first : {a : Phrase} {ts rest : List Token} → IsAddress a ts rest → (s : List Want) (vs : List Phrase) →
    run (Go MoreEntries ∷ s) vs ts ≡ run (Read Address ∷ Join Entry ∷ Join More ∷ Go MoreEntries ∷ s) (Nothing ∷ vs) ts
string_first (whole string) s vs = refl
string_first (masked string) s vs = refl

entries_on : {l : Phrase} {ts rest : List Token} → IsEntries l ts rest → (s : List Want) (vs : List Phrase) → run (Go MoreEntries ∷ s) (Nothing ∷ vs) ts ≡ run (Go MoreEntries ∷ s) (l ∷ vs) rest
entries_on no_entries s vs = refl
entries_on (entry {l} {a} {ts} {m} {rest} {p} h g) s vs =
    let below : List Want = Join More ∷ Go MoreEntries ∷ s in
    entries_on h s vs ∙ string_first g s (l ∷ vs) ∙ address_then g (λ s vs. refl) (Join Entry ∷ below) (Nothing ∷ l ∷ vs)
    ∙ join_on Entry below (a ∷ Nothing ∷ l ∷ vs) rest ∙ join_on More (Go MoreEntries ∷ s) (Node Entry Nothing a ∷ l ∷ vs) rest
entries_on (exclusion {l} {a} {ts} {m} {rest} {p} {q} h g) s vs =
    let below : List Want = Join More ∷ Go MoreEntries ∷ s in
    entries_on h s vs ∙ address_then g (λ s vs. refl) (Join Entry ∷ below) (At p ∷ l ∷ vs)
    ∙ join_on Entry below (a ∷ At p ∷ l ∷ vs) rest ∙ join_on More (Go MoreEntries ∷ s) (Node Entry (At p) a ∷ l ∷ vs) rest

item_on : {a : Phrase} {ts rest : List Token} → IsItem a ts rest → (s : List Want) (vs : List Phrase) → run (Go MoreItems ∷ s) vs ts ≡ run (Join More ∷ Go MoreItems ∷ s) (a ∷ vs) rest
item_on (imported {a} {x} {rest} {p} {q} {t} n) s vs =
    let below : List Want = Join More ∷ Go MoreItems ∷ s in
    name_on (a_sign sign.Semicolon q ∷ rest) (Take sign.Semicolon ∷ Join Import ∷ below) (At p ∷ vs) n ∙ join_on Import below (a ∷ At p ∷ vs) rest
item_on (no_backend {a} {x} {rest} {p} {q} {r} {t} {u} n) s vs =
    let below : List Want = Join More ∷ Go MoreItems ∷ s in
    new_name_on (a_word word.None u q ∷ a_sign sign.Semicolon r ∷ rest) (Read BackendBody ∷ below) (At p ∷ vs) n ∙ join_on NoBackend below (a ∷ At p ∷ vs) rest
item_on (backend {a} {l} {x} {ts} {rest} {p} {q} {r} {t} n h) s vs =
    let below : List Want = Join More ∷ Go MoreItems ∷ s in
    new_name_on (a_sign sign.OpenBrace q ∷ ts) (Read BackendBody ∷ below) (At p ∷ vs) n
    ∙ attributes_on h (λ s vs. refl) (Take sign.CloseBrace ∷ Join Bound ∷ Join Backend ∷ below) (a ∷ At p ∷ vs)
    ∙ join_on Bound (Join Backend ∷ below) (l ∷ a ∷ At p ∷ vs) rest ∙ join_on Backend below (Node Bound a l ∷ At p ∷ vs) rest
item_on (probe {a} {l} {x} {ts} {rest} {p} {q} {r} {t} n h) s vs =
    let below : List Want = Join More ∷ Go MoreItems ∷ s in
    new_name_on (a_sign sign.OpenBrace q ∷ ts) (Read Attributes ∷ Join Bound ∷ Join Probe ∷ below) (At p ∷ vs) n
    ∙ attributes_on h (λ s vs. refl) (Take sign.CloseBrace ∷ Join Bound ∷ Join Probe ∷ below) (a ∷ At p ∷ vs)
    ∙ join_on Bound (Join Probe ∷ below) (l ∷ a ∷ At p ∷ vs) rest ∙ join_on Probe below (Node Bound a l ∷ At p ∷ vs) rest
item_on (acl {a} {l} {x} {ts} {rest} {p} {q} {r} {t} n h) s vs =
    let below : List Want = Join More ∷ Go MoreItems ∷ s in
    new_name_on (a_sign sign.OpenBrace q ∷ ts) (Read Entries ∷ Join Bound ∷ Join Acl ∷ below) (At p ∷ vs) n
    ∙ entries_on h (Take sign.CloseBrace ∷ Join Bound ∷ Join Acl ∷ below) (a ∷ At p ∷ vs)
    ∙ join_on Bound (Join Acl ∷ below) (l ∷ a ∷ At p ∷ vs) rest ∙ join_on Acl below (Node Bound a l ∷ At p ∷ vs) rest
item_on (sub {a} {b} {x} {ts} {rest} {p} {t} n h) s vs =
    let below : List Want = Join More ∷ Go MoreItems ∷ s in
    new_name_on ts (Read Block ∷ Join Bound ∷ Join Sub ∷ below) (At p ∷ vs) n ∙ block_on h (Join Bound ∷ Join Sub ∷ below) (a ∷ At p ∷ vs)
    ∙ join_on Bound (Join Sub ∷ below) (b ∷ a ∷ At p ∷ vs) rest ∙ join_on Sub below (Node Bound a b ∷ At p ∷ vs) rest

pub items_on : {l : Phrase} {ts rest : List Token} → IsItems l ts rest → (s : List Want) (vs : List Phrase) → run (Go MoreItems ∷ s) (Nothing ∷ vs) ts ≡ run (Go MoreItems ∷ s) (l ∷ vs) rest
items_on no_items s vs = refl
items_on (more_items {l} {a} {ts} {m} {rest} h g) s vs = items_on h s vs ∙ item_on g s (l ∷ vs) ∙ join_on More (Go MoreItems ∷ s) (a ∷ l ∷ vs) rest
