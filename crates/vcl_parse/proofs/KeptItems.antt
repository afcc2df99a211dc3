-- A token that begins or carries on an item, an attribute or an entry keeps the meaning of what is wanted.
use Rattle.std.proofs.Common.{ℕ, List, [], ◌∷◌, refl}
use Rattle.std.specs.Prelude.{Option}
use Rattle.vcl_tree.specs.Phrase.{Phrase, Nothing, At, Named, String, Integer, Duration, Node, More, Bound, Attribute, Masked, Import, NoBackend, Backend, Probe, Acl, Sub}
use Rattle.vcl_tree.specs.declared.token.Token.{Token}
use Rattle.vcl_tree.specs.declared.token.TokenKind.{TokenKind}
use Rattle.vcl_tree.specs.declared.token.TokenKind.TheVariants as kind
use Rattle.vcl_tree.specs.declared.token.Sign.{Sign}
use Rattle.vcl_tree.specs.declared.token.Sign.TheVariants as sign
use Rattle.vcl_tree.specs.declared.token.Word.{Word}
use Rattle.vcl_tree.specs.declared.token.Word.TheVariants as word
use Rattle.vcl_tree.specs.Tokens.{a_sign, a_word, plain_name, word_name, string}
use Rattle.vcl_tree.specs.AttributeGrammar.{no_attributes, more_attributes, attribute, string_value, integer_value, duration_value, name_value, nested, nested_ended, braced}
use Rattle.vcl_tree.specs.Grammar.{IsItem, whole, masked, no_entries, entry, exclusion, imported, no_backend, backend, probe, acl, sub, more_items}
use Rattle.vcl_parse.specs.Machine.{Want, Config, Take, AnyName, Number, Read, Go, Join, Value, Attributes, BackendBody, Address, Entries, MoreAttributes, Semicolon, MoreEntries, Mask, MoreItems, go, or_on, value_move, address_move, entry_move, backend_move, item_move, word_item, carry, read}
use Rattle.vcl_parse.specs.Starts.{item_word_of}
use Rattle.vcl_parse.proofs.Meaning.{Stack, push, stack_of, Sem}
use Rattle.vcl_parse.proofs.Keeping.{at, Keeps, by, or_sign, at_one, same_stack}

value_sign : (u : Sign) (p : ℕ) (s : List Want) (vs : List Phrase) (ts : List Token) (last : Stack) →
    Keeps (Sem (Read Value ∷ s) (stack_of vs) (a_sign u p ∷ ts) last) ts last (go (value_move (kind.Sign u) p) s vs)
value_sign sign.OpenBrace p s vs ts last = λ h. let ended = h.3.3 in (ended.0, ended.1, ended.2 _ (braced (rw (h.3.2) at (h.2 ts no_attributes))), ended.3)
value_sign _ p s vs ts last = tt

value_kind : (k : TokenKind) (p : ℕ) (s : List Want) (vs : List Phrase) (ts : List Token) (last : Stack) →
    Keeps (Sem (Read Value ∷ s) (stack_of vs) (at p k ∷ ts) last) ts last (go (value_move k p) s vs)
value_kind (kind.Name t) p s vs ts last = λ h. (Named p t, h.1, rw (h.2) (name_value plain_name), h.3)
value_kind (kind.Word w t) p s vs ts last = λ h. (Named p t, h.1, rw (h.2) (name_value word_name), h.3)
value_kind (kind.Integer n) p s vs ts last = λ h. (Integer p n, h.1, rw (h.2) integer_value, h.3)
value_kind (kind.Decimal t) p s vs ts last = tt
value_kind (kind.Duration n) p s vs ts last = λ h. (Duration p n, h.1, rw (h.2) duration_value, h.3)
value_kind (kind.String t) p s vs ts last = λ h. (String p t, h.1, rw (h.2) string_value, h.3)
value_kind (kind.Sign u) p s vs ts last = value_sign u p s vs ts last

pub value_kept : (x : Token) (s : List Want) (vs : List Phrase) (ts : List Token) (last : Stack) → Keeps (Sem (Read Value ∷ s) (stack_of vs) (x ∷ ts) last) ts last (read Value x s vs)
value_kept x s vs ts last = value_kind x.kind x.place s vs ts last

pub attributes_kept : (x : Token) (s : List Want) (vs : List Phrase) (ts : List Token) (last : Stack) → Keeps (Sem (Read Attributes ∷ s) (stack_of vs) (x ∷ ts) last) ts last (read Attributes x s vs)
attributes_kept x s vs ts last = at_one (λ y. Sem (Read Attributes ∷ s) (stack_of vs) (y ∷ ts) last) sign.OpenBrace x (Nothing ∷ []) (Go MoreAttributes ∷ Take sign.CloseBrace ∷ []) s vs ts last
    (λ h. (h.0, h.3.1, (λ a y t p n. probe n (rw (h.3.2) at (h.2 ts no_attributes))), h.3.3))

pub entries_kept : (x : Token) (s : List Want) (vs : List Phrase) (ts : List Token) (last : Stack) → Keeps (Sem (Read Entries ∷ s) (stack_of vs) (x ∷ ts) last) ts last (read Entries x s vs)
entries_kept x s vs ts last = at_one (λ y. Sem (Read Entries ∷ s) (stack_of vs) (y ∷ ts) last) sign.OpenBrace x (Nothing ∷ []) (Go MoreEntries ∷ Take sign.CloseBrace ∷ []) s vs ts last
    (λ h. (h.0, h.3.1, (λ a y t p n. acl n (rw (h.3.2) at (h.2 ts no_entries))), h.3.3))

backend_sign : (u : Sign) (p : ℕ) (s : List Want) (vs : List Phrase) (ts : List Token) (last : Stack) →
    Keeps (Sem (Read BackendBody ∷ s) (stack_of vs) (a_sign u p ∷ ts) last) ts last (go (backend_move (kind.Sign u)) s vs)
backend_sign sign.OpenBrace p s vs ts last = λ h.
    (Node Backend (stack_of vs 1) (Node Bound (stack_of vs 0) (h.0)), h.3.1, (λ y t q n e. rw e (backend n (rw (h.3.2) at (h.2 ts no_attributes)))), h.3.3)
backend_sign _ p s vs ts last = tt

backend_word : (w : Word) (u : List ℕ) (p : ℕ) (s : List Want) (vs : List Phrase) (ts : List Token) (last : Stack) →
    Keeps (Sem (Read BackendBody ∷ s) (stack_of vs) (a_word w u p ∷ ts) last) ts last (go (backend_move (kind.Word w u)) s vs)
backend_word word.None u p s vs ts last = λ h. (Node NoBackend (stack_of vs 1) (stack_of vs 0), h.1, (λ y t q n e. rw (h.2) (rw e (no_backend n))), h.3)
backend_word _ u p s vs ts last = tt

backend_kind : (k : TokenKind) (p : ℕ) (s : List Want) (vs : List Phrase) (ts : List Token) (last : Stack) →
    Keeps (Sem (Read BackendBody ∷ s) (stack_of vs) (at p k ∷ ts) last) ts last (go (backend_move k) s vs)
backend_kind (kind.Word w u) p s vs ts last = backend_word w u p s vs ts last
backend_kind (kind.Sign u) p s vs ts last = backend_sign u p s vs ts last
backend_kind _ p s vs ts last = tt

pub backend_kept : (x : Token) (s : List Want) (vs : List Phrase) (ts : List Token) (last : Stack) → Keeps (Sem (Read BackendBody ∷ s) (stack_of vs) (x ∷ ts) last) ts last (read BackendBody x s vs)
backend_kept x s vs ts last = backend_kind x.kind x.place s vs ts last

address_kind : (k : TokenKind) (p : ℕ) (s : List Want) (vs : List Phrase) (ts : List Token) (last : Stack) →
    Keeps (Sem (Read Address ∷ s) (stack_of vs) (at p k ∷ ts) last) ts last (go (address_move k p) s vs)
address_kind (kind.String t) p s vs ts last = λ h. (h.0, h.3.1, (h.3.0, rw (h.3.2) at (h.2 _ string)), h.3.3)
address_kind _ p s vs ts last = tt

pub address_kept : (x : Token) (s : List Want) (vs : List Phrase) (ts : List Token) (last : Stack) → Keeps (Sem (Read Address ∷ s) (stack_of vs) (x ∷ ts) last) ts last (read Address x s vs)
address_kept x s vs ts last = address_kind x.kind x.place s vs ts last

entry_sign : (u : Sign) (p : ℕ) (s : List Want) (vs : List Phrase) (ts : List Token) (last : Stack) (on : Option Config) →
    Keeps (Sem (Go MoreEntries ∷ s) (stack_of vs) (a_sign u p ∷ ts) last) ts last on →
    Keeps (Sem (Go MoreEntries ∷ s) (stack_of vs) (a_sign u p ∷ ts) last) ts last (or_on (entry_move (kind.Sign u) p) s vs on)
entry_sign sign.Not p s vs ts last on k = λ h. (h.3.0, h.3.1, (λ start before. h.3.2 start (exclusion before (h.2.1))), h.3.3)
entry_sign _ p s vs ts last on k = k

entry_kind : (k : TokenKind) (p : ℕ) (s : List Want) (vs : List Phrase) (ts : List Token) (last : Stack) (on : Option Config) →
    Keeps (Sem (Go MoreEntries ∷ s) (stack_of vs) (at p k ∷ ts) last) ts last on →
    Keeps (Sem (Go MoreEntries ∷ s) (stack_of vs) (at p k ∷ ts) last) ts last (or_on (entry_move k p) s vs on)
entry_kind (kind.String t) p s vs ts last on k = λ h.
    let others = h.3.3 in
    (others.0, others.1, (λ start before. others.2 start (entry before (rw (h.3.2) at (h.2 _ string)))), others.3)
entry_kind (kind.Sign u) p s vs ts last on k = entry_sign u p s vs ts last on k
entry_kind _ p s vs ts last on k = k

pub more_entries_kept : (x : Token) (s : List Want) (vs : List Phrase) (ts : List Token) (last : Stack) (on : Option Config) → Keeps (Sem s (stack_of vs) (x ∷ ts) last) ts last on →
    Keeps (Sem (Go MoreEntries ∷ s) (stack_of vs) (x ∷ ts) last) ts last (carry MoreEntries x s vs on)
more_entries_kept x s vs ts last on k = entry_kind x.kind x.place s vs ts last on
    (by _ _ ts last on (λ m. (stack_of vs 0, x ∷ ts, (λ start before. before), same_stack s (stack_of vs) (x ∷ ts) last m)) k)

pub more_attributes_kept : (x : Token) (s : List Want) (vs : List Phrase) (ts : List Token) (last : Stack) (on : Option Config) → Keeps (Sem s (stack_of vs) (x ∷ ts) last) ts last on →
    Keeps (Sem (Go MoreAttributes ∷ s) (stack_of vs) (x ∷ ts) last) ts last (carry MoreAttributes x s vs on)
more_attributes_kept x s vs ts last on k = or_sign (λ y. Sem (Go MoreAttributes ∷ s) (stack_of vs) (y ∷ ts) last) sign.Dot x (At x.place ∷ [])
    (AnyName ∷ Take sign.Assign ∷ Read Value ∷ Join Bound ∷ Join Attribute ∷ Join More ∷ Go MoreAttributes ∷ []) s vs ts last on
    (λ h.
    let v = h.5.3 in
    let others = v.3 in
    (others.0, others.1, (λ start before. others.2 start (more_attributes before (rw (h.3) (rw (h.5.2) (attribute (h.4) (v.2)))))), others.3))
    (λ e. by _ _ ts last on (λ m. (stack_of vs 0, x ∷ ts, (λ start before. before), same_stack s (stack_of vs) (x ∷ ts) last m)) k)

pub semicolon_kept : (x : Token) (s : List Want) (vs : List Phrase) (ts : List Token) (last : Stack) (on : Option Config) → Keeps (Sem s (stack_of vs) (x ∷ ts) last) ts last on →
    Keeps (Sem (Go Semicolon ∷ s) (stack_of vs) (x ∷ ts) last) ts last (carry Semicolon x s vs on)
semicolon_kept x s vs ts last on k = or_sign (λ y. Sem (Go Semicolon ∷ s) (stack_of vs) (y ∷ ts) last) sign.Semicolon x [] [] s vs ts last on
    (λ h. (stack_of vs 0, ts, (λ start before. nested_ended before), same_stack s (stack_of vs) ts last h))
    (λ e. by _ _ ts last on (λ m. (stack_of vs 0, x ∷ ts, (λ start before. nested before), same_stack s (stack_of vs) (x ∷ ts) last m)) k)

pub mask_kept : (x : Token) (s : List Want) (vs : List Phrase) (ts : List Token) (last : Stack) (on : Option Config) → Keeps (Sem s (stack_of vs) (x ∷ ts) last) ts last on →
    Keeps (Sem (Go Mask ∷ s) (stack_of vs) (x ∷ ts) last) ts last (carry Mask x s vs on)
mask_kept x s vs ts last on k = or_sign (λ y. Sem (Go Mask ∷ s) (stack_of vs) (y ∷ ts) last) sign.Slash x [] (Number ∷ Join Masked ∷ []) s vs ts last on
    (λ h. (Node Masked (stack_of vs 0) (Integer (h.0) (h.1)), h.2, (λ y n. rw (h.3) (masked n)), h.4))
    (λ e. by _ _ ts last on (λ m. (stack_of vs 0, x ∷ ts, (λ y n. whole n), same_stack s (stack_of vs) (x ∷ ts) last m)) k)

one_item : (e : Phrase) (s : List Want) (v : Stack) (ts m : List Token) (last : Stack) → IsItem e ts m →
    Sem (Join More ∷ Go MoreItems ∷ s) (push e v) m last → Sem (Go MoreItems ∷ s) v ts last
one_item e s v ts m last h k = (k.0, k.1, (λ start before. k.2 start (more_items before h)), k.3)

item_word : (w : Word) (t : List ℕ) (p : ℕ) (s : List Want) (vs : List Phrase) (ts : List Token) (last : Stack) (on : Option Config) →
    Keeps (Sem (Go MoreItems ∷ s) (stack_of vs) (a_word w t p ∷ ts) last) ts last on →
    Keeps (Sem (Go MoreItems ∷ s) (stack_of vs) (a_word w t p ∷ ts) last) ts last (or_on (word_item (item_word_of w) p) s vs on)
item_word word.Import t p s vs ts last on k = λ h. one_item (Node Import (At p) (h.0)) s (stack_of vs) _ (h.5.1) last (rw (h.3) (rw (h.5.2) (imported (h.4)))) (h.5.3)
item_word word.Backend t p s vs ts last on k = λ h. one_item (h.5.0) s (stack_of vs) _ (h.5.1) last (rw (h.3) (h.5.2 _ t p (h.4) refl)) (h.5.3)
item_word word.Acl t p s vs ts last on k = λ h. one_item (Node Acl (At p) (Node Bound (h.0) (h.5.0))) s (stack_of vs) _ (h.5.1) last (rw (h.3) (h.5.2 (h.0) _ t p (h.4))) (h.5.3)
item_word word.Probe t p s vs ts last on k = λ h. one_item (Node Probe (At p) (Node Bound (h.0) (h.5.0))) s (stack_of vs) _ (h.5.1) last (rw (h.3) (h.5.2 (h.0) _ t p (h.4))) (h.5.3)
item_word word.Sub t p s vs ts last on k = λ h. one_item (Node Sub (At p) (Node Bound (h.0) (h.5.0))) s (stack_of vs) _ (h.5.1) last (rw (h.3) (sub (h.4) (h.5.2))) (h.5.3)
item_word _ t p s vs ts last on k = k

item_kind : (k : TokenKind) (p : ℕ) (s : List Want) (vs : List Phrase) (ts : List Token) (last : Stack) (on : Option Config) →
    Keeps (Sem (Go MoreItems ∷ s) (stack_of vs) (at p k ∷ ts) last) ts last on →
    Keeps (Sem (Go MoreItems ∷ s) (stack_of vs) (at p k ∷ ts) last) ts last (or_on (item_move k p) s vs on)
item_kind (kind.Word w t) p s vs ts last on k = item_word w t p s vs ts last on k
item_kind _ p s vs ts last on k = k

pub items_kept : (x : Token) (s : List Want) (vs : List Phrase) (ts : List Token) (last : Stack) (on : Option Config) → Keeps (Sem s (stack_of vs) (x ∷ ts) last) ts last on →
    Keeps (Sem (Go MoreItems ∷ s) (stack_of vs) (x ∷ ts) last) ts last (carry MoreItems x s vs on)
items_kept x s vs ts last on k = item_kind x.kind x.place s vs ts last on
    (by _ _ ts last on (λ m. (stack_of vs 0, x ∷ ts, (λ start before. before), same_stack s (stack_of vs) (x ∷ ts) last m)) k)
