-- The grammar of VCL, from a whole text's tokens down.
use Rattle.std.specs.Prelude.{ℕ, ◌≡◌, ℤ, List, [], ◌∷◌, Option, Some, None, codes, if◌then◌else◌}
use Rattle.std.specs.Str.{bytes_eq}
use Rattle.vcl_tree.specs.Phrase.{Phrase, Nothing, At, Integer, Node, More, Bound, Entry, Masked, Import, NoBackend, Backend, Probe, Acl, Sub}
use Rattle.vcl_tree.specs.declared.token.Token.{Token}
use Rattle.vcl_tree.specs.declared.token.Sign.TheVariants as sign
use Rattle.vcl_tree.specs.declared.token.Word.TheVariants as word
use Rattle.vcl_tree.specs.declared.item.Version.{Version}
use Rattle.vcl_tree.specs.declared.item.Version.TheVariants.{Four, FourOne}
use Rattle.vcl_tree.specs.Tokens.{a_sign, a_word, a_decimal, an_integer, IsName, IsNewName, IsString}
use Rattle.vcl_tree.specs.AttributeGrammar.{IsAttributes}
use Rattle.vcl_tree.specs.StatementGrammar.{IsBlock}

-- address = string | string "/" integer
pub data IsAddress : Phrase → List Token → List Token → Type 0 where
  whole : {a : Phrase} {x : Token} {rest : List Token} → IsString a x → IsAddress a (x ∷ rest) rest
  masked : {a : Phrase} {x : Token} {rest : List Token} {p q : ℕ} {n : ℤ} →
      IsString a x → IsAddress (Node Masked a (Integer q n)) (x ∷ a_sign sign.Slash p ∷ an_integer n q ∷ rest) rest

-- entries = | entries address ";" | entries "!" address ";"
pub data IsEntries : Phrase → List Token → List Token → Type 0 where
  no_entries : {ts : List Token} → IsEntries Nothing ts ts
  entry : {l a : Phrase} {ts m rest : List Token} {p : ℕ} →
      IsEntries l ts m → IsAddress a m (a_sign sign.Semicolon p ∷ rest) → IsEntries (Node More l (Node Entry Nothing a)) ts rest
  exclusion : {l a : Phrase} {ts m rest : List Token} {p q : ℕ} →
      IsEntries l ts (a_sign sign.Not p ∷ m) → IsAddress a m (a_sign sign.Semicolon q ∷ rest) → IsEntries (Node More l (Node Entry (At p) a)) ts rest

-- item = "import" name ";" | "backend" new-name "none" ";" | "backend" new-name "{" attributes "}"
--     | "probe" new-name "{" attributes "}" | "acl" new-name "{" entries "}" | "sub" new-name block
pub data IsItem : Phrase → List Token → List Token → Type 0 where
  imported : {a : Phrase} {x : Token} {rest : List Token} {p q : ℕ} {t : List ℕ} →
      IsName a x → IsItem (Node Import (At p) a) (a_word word.Import t p ∷ x ∷ a_sign sign.Semicolon q ∷ rest) rest
  no_backend : {a : Phrase} {x : Token} {rest : List Token} {p q r : ℕ} {t u : List ℕ} →
      IsNewName a x →
      IsItem (Node NoBackend (At p) a) (a_word word.Backend t p ∷ x ∷ a_word word.None u q ∷ a_sign sign.Semicolon r ∷ rest) rest
  backend : {a l : Phrase} {x : Token} {ts rest : List Token} {p q r : ℕ} {t : List ℕ} →
      IsNewName a x → IsAttributes l ts (a_sign sign.CloseBrace r ∷ rest) →
      IsItem (Node Backend (At p) (Node Bound a l)) (a_word word.Backend t p ∷ x ∷ a_sign sign.OpenBrace q ∷ ts) rest
  probe : {a l : Phrase} {x : Token} {ts rest : List Token} {p q r : ℕ} {t : List ℕ} →
      IsNewName a x → IsAttributes l ts (a_sign sign.CloseBrace r ∷ rest) →
      IsItem (Node Probe (At p) (Node Bound a l)) (a_word word.Probe t p ∷ x ∷ a_sign sign.OpenBrace q ∷ ts) rest
  acl : {a l : Phrase} {x : Token} {ts rest : List Token} {p q r : ℕ} {t : List ℕ} →
      IsNewName a x → IsEntries l ts (a_sign sign.CloseBrace r ∷ rest) →
      IsItem (Node Acl (At p) (Node Bound a l)) (a_word word.Acl t p ∷ x ∷ a_sign sign.OpenBrace q ∷ ts) rest
  sub : {a b : Phrase} {x : Token} {ts rest : List Token} {p : ℕ} {t : List ℕ} →
      IsNewName a x → IsBlock b ts rest → IsItem (Node Sub (At p) (Node Bound a b)) (a_word word.Sub t p ∷ x ∷ ts) rest

-- items = | items item
pub data IsItems : Phrase → List Token → List Token → Type 0 where
  no_items : {ts : List Token} → IsItems Nothing ts ts
  more_items : {l a : Phrase} {ts m rest : List Token} → IsItems l ts m → IsItem a m rest → IsItems (Node More l a) ts rest

-- the version is compared as it is written
abbrev pub version_written : List ℕ → Option Version
version_written digits = if bytes_eq digits (codes "4.0") then Some Four else (if bytes_eq digits (codes "4.1") then Some FourOne else None)

-- file = "vcl" version ";" items
pub data IsFile : Version → Phrase → List Token → Type 0 where
  file : {v : Version} {l : Phrase} {ts : List Token} {p q r : ℕ} {t digits : List ℕ} →
      version_written digits ≡ Some v → IsItems l ts [] → IsFile v l (a_word word.Vcl t p ∷ a_decimal digits q ∷ a_sign sign.Semicolon r ∷ ts)
