-- Whole texts: the reading of single tokens accepts the texts of the grammar and no others, and stops where none goes on.
use Rattle.std.proofs.Common.{◌≡◌, ℕ, ◌≤◌, ◌<◌, ◌-◌, List, [], ◌∷◌, ◌++◌, length, drop, refl, ap, subst, ◌∙◌, sym, append_assoc, append-nil, inr}
use Rattle.std.proofs.Common.{arith}
use Rattle.std.specs.Prelude.{max, false, Option, Some, None, map}
use Rattle.std.proofs.lemmas.List.{length-append}
use Rattle.std.proofs.Math.Seq.{drop-append_seam}
use Rattle.vcl_tree.specs.Phrase.{Phrase, Nothing, list_of}
use Rattle.vcl_tree.specs.TreeView.{items_of, item_of}
use Rattle.vcl_tree.specs.Nesting.{deepest}
use Rattle.vcl_tree.specs.declared.token.Token.{Token}
use Rattle.vcl_tree.specs.declared.token.TokenKind.{TokenKind}
use Rattle.vcl_tree.specs.declared.token.TokenKind.TheVariants as kind
use Rattle.vcl_tree.specs.declared.token.Sign.TheVariants as sign
use Rattle.vcl_tree.specs.declared.token.Word.{Word}
use Rattle.vcl_tree.specs.declared.token.Word.TheVariants as word
use Rattle.vcl_tree.specs.declared.item.Version.{Version}
use Rattle.vcl_tree.specs.declared.item.Item.{Item}
use Rattle.vcl_tree.specs.Tokens.{a_sign, a_word, a_decimal}
use Rattle.vcl_tree.specs.ExpressionGrammar.{sum, variable}
use Rattle.vcl_tree.specs.StatementGrammar.{conditional}
use Rattle.vcl_tree.specs.AttributeGrammar.{nested}
use Rattle.vcl_tree.specs.Grammar as grammar
use Rattle.vcl_tree.specs.Grammar.{version_written, IsItems, no_items, IsFile, file}
use Rattle.vcl_tokens.specs.Reading.{Reads, text_limit}
use Rattle.vcl_parse.specs.declared.stop.Stop.{Stop}
use Rattle.vcl_parse.specs.declared.stop.Stop.TheVariants as stop
use Rattle.vcl_parse.specs.Machine.{Tail, Want, Take, AnyName, NewName, Number, Read, Go, Join, MoreAny, MoreAll, Compares, MoreSum, Calls, FirstArgument, MoreArguments, MoreStatements, MoreElse, MoreAttributes, Semicolon, MoreEntries, Mask, MoreItems, Config, Accepted, Refused, Deep, ends, join, moved}
use Rattle.vcl_parse.specs.Parsing.{Good, head_of, behind_vcl, with_version, first_place, Continues, EndsHere, IsSyntaxFault, IsNestingFault, IsFault}
use Rattle.vcl_parse.specs.Telling.{reading, place_at, told}
use Rattle.vcl_parse.specs.Steps.{Stops}
use Rattle.vcl_parse.proofs.Running.{run}
use Rattle.vcl_parse.proofs.Meaning.{Stack, stack_of, Carries, Sem}
use Rattle.vcl_parse.proofs.Keeping.{same_stack}
use Rattle.vcl_parse.proofs.Alive.{alive}
use Rattle.vcl_parse.proofs.AcceptedItems.{items_on}
use Rattle.vcl_parse.proofs.Places.{Reaches, run_over, means_over, IsStuck, Explained, explained}

-- what is wanted behind the version
abbrev pub wants : List Want
wants = Take sign.Semicolon ∷ Go MoreItems ∷ []

abbrev pub nothing_yet : List Phrase
nothing_yet = Nothing ∷ []

-- the tokens begin with the word and this version
abbrev pub HasHead : List Token → Version → List Token → Type 0
HasHead tokens v rest = (p : ℕ) × (q : ℕ) × (t : List ℕ) × (digits : List ℕ) × (tokens ≡ a_word word.Vcl t p ∷ a_decimal digits q ∷ rest) × (version_written digits ≡ Some v)

by_version : (p q : ℕ) (t digits : List ℕ) (o : Option Version) (ts : List Token) (v : Version) (rest : List Token) → version_written digits ≡ o → with_version o q ts ≡ Good v rest →
    HasHead (a_word word.Vcl t p ∷ a_decimal digits q ∷ ts) v rest
by_version p q t digits (Some u) ts v rest e f =
    let same : u ≡ v = cc in
    let behind : ts ≡ rest = cc in
    (p, q, t, digits, ap (λ l. a_word word.Vcl t p ∷ a_decimal digits q ∷ l) behind, e ∙ ap Some same)
by_version p q t digits None ts v rest e f = cc

by_second : (p : ℕ) (t : List ℕ) (k : TokenKind) (q : ℕ) (ts : List Token) (end : ℕ) (v : Version) (rest : List Token) → behind_vcl end (record { kind = k; place = q } ∷ ts) ≡ Good v rest →
    HasHead (a_word word.Vcl t p ∷ record { kind = k; place = q } ∷ ts) v rest
by_second p t (kind.Decimal digits) q ts end v rest e = by_version p q t digits (version_written digits) ts v rest refl e
by_second p t (kind.Name x) q ts end v rest e = cc
by_second p t (kind.Word w x) q ts end v rest e = cc
by_second p t (kind.Integer n) q ts end v rest e = cc
by_second p t (kind.Duration n) q ts end v rest e = cc
by_second p t (kind.String x) q ts end v rest e = cc
by_second p t (kind.Sign u) q ts end v rest e = cc

behind_word : (p : ℕ) (t : List ℕ) (ts : List Token) (end : ℕ) (v : Version) (rest : List Token) → behind_vcl end ts ≡ Good v rest → HasHead (a_word word.Vcl t p ∷ ts) v rest
behind_word p t [] end v rest e = cc
behind_word p t (x ∷ ts) end v rest e = by_second p t x.kind x.place ts end v rest e

by_word : (w : Word) (p : ℕ) (t : List ℕ) (ts : List Token) (end : ℕ) (v : Version) (rest : List Token) → head_of end (a_word w t p ∷ ts) ≡ Good v rest → HasHead (a_word w t p ∷ ts) v rest
by_word word.Vcl p t ts end v rest e = behind_word p t ts end v rest e
by_word _ p t ts end v rest e = cc

by_first : (k : TokenKind) (p : ℕ) (ts : List Token) (end : ℕ) (v : Version) (rest : List Token) → head_of end (record { kind = k; place = p } ∷ ts) ≡ Good v rest → HasHead (record { kind = k; place = p } ∷ ts) v rest
by_first (kind.Word w t) p ts end v rest e = by_word w p t ts end v rest e
by_first (kind.Name x) p ts end v rest e = cc
by_first (kind.Integer n) p ts end v rest e = cc
by_first (kind.Decimal x) p ts end v rest e = cc
by_first (kind.Duration n) p ts end v rest e = cc
by_first (kind.String x) p ts end v rest e = cc
by_first (kind.Sign u) p ts end v rest e = cc

has_head : (tokens : List Token) (end : ℕ) (v : Version) (rest : List Token) → head_of end tokens ≡ Good v rest → HasHead tokens v rest
has_head [] end v rest e = cc
has_head (x ∷ ts) end v rest e = by_first x.kind x.place ts end v rest e

good_head : (p q : ℕ) (t digits : List ℕ) (v : Version) (rest : List Token) (end : ℕ) → version_written digits ≡ Some v → head_of end (a_word word.Vcl t p ∷ a_decimal digits q ∷ rest) ≡ Good v rest
good_head p q t digits v rest end e = ap (λ o. with_version o q rest) e

-- a text of the grammar is accepted
pub accepted : {v : Version} {l : Phrase} {tokens : List Token} (end : ℕ) → IsFile v l tokens → (rest : List Token) × (head_of end tokens ≡ Good v rest) × (run wants nothing_yet rest ≡ Accepted (l ∷ []))
accepted end (file {v} {l} {ts} {p} {q} {r} {t} {digits} e h) = (a_sign sign.Semicolon r ∷ ts, good_head p q t digits v (a_sign sign.Semicolon r ∷ ts) end e, items_on h [] [])

-- what is wanted may end with the tokens
closing : (tail : Tail) (a : Phrase) → Carries tail a a [] []
closing MoreAny a = λ start before. before
closing MoreAll a = λ start before. before
closing Compares a = λ start before. sum before
closing MoreSum a = λ start before. before
closing Calls a = λ x n. variable n refl
closing (FirstArgument w) a = λ n p q later e. cc
closing (MoreArguments w) a = λ start before. before
closing MoreStatements a = λ start before. before
closing MoreElse a = λ start before. conditional before
closing MoreAttributes a = λ start before. before
closing Semicolon a = λ start before. nested before
closing MoreEntries a = λ start before. before
closing Mask a = λ x n. grammar.whole n
closing MoreItems a = λ start before. before

means_nothing : (s : List Want) (vs ws : List Phrase) → ends s vs ≡ Accepted ws → Sem s (stack_of vs) [] (stack_of ws)
means_nothing [] vs ws e = let same : ws ≡ vs = cc in (refl, ap stack_of same)
means_nothing (Take t ∷ s) vs ws e = cc
means_nothing (AnyName ∷ s) vs ws e = cc
means_nothing (NewName ∷ s) vs ws e = cc
means_nothing (Number ∷ s) vs ws e = cc
means_nothing (Read part ∷ s) vs ws e = cc
means_nothing (Go tail ∷ s) vs ws e = (stack_of vs 0, [], closing tail (stack_of vs 0), same_stack s (stack_of vs) [] (stack_of ws) (means_nothing s vs ws e))
means_nothing (Join l ∷ s) [] ws e = means_nothing s (join l []) ws e
means_nothing (Join l ∷ s) (b ∷ []) ws e = means_nothing s (join l (b ∷ [])) ws e
means_nothing (Join l ∷ s) (b ∷ a ∷ vs) ws e = means_nothing s (join l (b ∷ a ∷ vs)) ws e

-- what is wanted behind the version makes a text of the grammar
is_file : (p q : ℕ) (t digits : List ℕ) (v : Version) (rest : List Token) (last : Stack) → version_written digits ≡ Some v → Sem wants (stack_of nothing_yet) rest last →
    IsFile v (last 0) (a_word word.Vcl t p ∷ a_decimal digits q ∷ rest)
is_file p q t digits v rest last e h =
    let others = h.3 in
    let items : IsItems (others.0) (h.1) [] = rw (others.3.0) at (others.2 (h.1) no_items) in
    let same : last 0 ≡ others.0 = ap (λ w. w 0) (others.3.1) in
    rw (h.2) (rw same (file e items))

continues : (p q : ℕ) (t digits : List ℕ) (v : Version) (front : List Token) (c : Config) → version_written digits ≡ Some v → Reaches wants nothing_yet front c →
    Continues (a_word word.Vcl t p ∷ a_decimal digits q ∷ front)
continues p q t digits v front c e h =
    let k = alive (c.0) (stack_of (c.1)) in
    (v, k.1 0, k.0, is_file p q t digits v (front ++ k.0) (k.1) e (means_over front wants nothing_yet c (k.0) (k.1) h (k.2)))

-- a text of the grammar behind the word and the version
accepts_behind : (p q : ℕ) (t digits : List ℕ) (v u : Version) (l : Phrase) (rest : List Token) → version_written digits ≡ Some v → IsFile u l (a_word word.Vcl t p ∷ a_decimal digits q ∷ rest) →
    run wants nothing_yet rest ≡ Accepted (l ∷ [])
accepts_behind p q t digits v u l rest e h =
    let k = accepted 0 h in
    let same : Good u (k.0) ≡ Good v rest = sym (k.1) ∙ good_head p q t digits v rest 0 e in
    let behind : k.0 ≡ rest = cc in
    subst (λ r. run wants nothing_yet r ≡ Accepted (l ∷ [])) behind (k.2)

ends_here : (p q : ℕ) (t digits : List ℕ) (v : Version) (front behind : List Token) (c : Config) → version_written digits ≡ Some v → Reaches wants nothing_yet front c → IsStuck c behind →
    EndsHere (a_word word.Vcl t p ∷ a_decimal digits q ∷ front) behind
ends_here p q t digits v front [] c e h k = λ u l f.
    k (l ∷ []) (sym (run_over front wants nothing_yet c [] h) ∙ ap (λ r. run wants nothing_yet r) (append-nil front) ∙ accepts_behind p q t digits v u l front e f)
ends_here p q t digits v front (x ∷ behind) c e h k = λ m.
    let more : List Token = m.2 in
    let taken : run wants nothing_yet (front ++ x ∷ [] ++ more) ≡ Accepted (m.1 ∷ []) = accepts_behind p q t digits v (m.0) (m.1) (front ++ x ∷ [] ++ more) e (m.3) in
    let apart : run wants nothing_yet (front ++ (x ∷ more)) ≡ Accepted (m.1 ∷ []) = ap (λ r. run wants nothing_yet r) (sym (append_assoc front (x ∷ []) more)) ∙ taken in
    let stopped : run (c.0) (c.1) (x ∷ more) ≡ Refused (length (x ∷ more)) = ap (λ o. moved (length (x ∷ more)) false o (λ d. run (d.0) (d.1) more)) k in
    let clash : Refused (length (x ∷ more)) ≡ Accepted (m.1 ∷ []) = sym stopped ∙ sym (run_over front wants nothing_yet c (x ∷ more) h) ∙ apart in
    cc

place_seen : (end : ℕ) (front behind rest : List Token) (left : ℕ) → rest ≡ front ++ behind → left ≡ length behind → place_at end rest left ≡ first_place end behind
place_seen end front behind rest left e f =
    let n : length rest - left ≡ length front = omega (arith, ap length e, length-append front behind, f) in
    ap (λ i. first_place end (drop i rest)) n ∙ ap (λ r. first_place end (drop (length front) r)) e ∙ ap (first_place end) (drop-append_seam front behind)

in_front : (n : ℕ) → n ≤ 64 → max 0 (max 0 n) ≤ 64
in_front n h = omega (arith, h)

far_over : (n : ℕ) → 64 < n → 64 < max 0 (max 0 n)
far_over n h = omega (arith, h)

-- what is read is the tree of the tokens
pub tree_read : (end : ℕ) (tokens rest : List Token) (v : Version) (l : Phrase) → head_of end tokens ≡ Good v rest → reading rest ≡ Accepted (l ∷ []) → IsFile v l tokens × (deepest 0 tokens ≤ 64)
tree_read end tokens rest v l e f =
    let h = has_head tokens end v rest e in
    let x : Explained (Accepted (l ∷ [])) 0 wants nothing_yet rest = subst (λ o. Explained o 0 wants nothing_yet rest) f (explained rest 0 wants nothing_yet (omega arith)) in
    let c : Config = x.0 in
    let last : Stack = stack_of (l ∷ []) in
    let m : Sem wants (stack_of nothing_yet) (rest ++ []) last = means_over rest wants nothing_yet c [] last (x.1) (means_nothing (c.0) (c.1) (l ∷ []) (x.2)) in
    let t : IsFile v l (a_word word.Vcl (h.2) (h.0) ∷ a_decimal (h.3) (h.1) ∷ (rest ++ [])) = is_file (h.0) (h.1) (h.2) (h.3) v (rest ++ []) last (h.5) m in
    let u : IsFile v l (a_word word.Vcl (h.2) (h.0) ∷ a_decimal (h.3) (h.1) ∷ rest) = subst (λ r. IsFile v l (a_word word.Vcl (h.2) (h.0) ∷ a_decimal (h.3) (h.1) ∷ r)) (append-nil rest) t in
    (subst (λ r. IsFile v l r) (sym (h.4)) u, subst (λ r. deepest 0 r ≤ 64) (sym (h.4)) (in_front (deepest 0 rest) (x.3)))

pub syntax_fault : (end : ℕ) (tokens rest : List Token) (v : Version) (left : ℕ) → head_of end tokens ≡ Good v rest → reading rest ≡ Refused left → IsSyntaxFault end tokens (place_at end rest left)
syntax_fault end tokens rest v left e f =
    let h = has_head tokens end v rest e in
    let x : Explained (Refused left) 0 wants nothing_yet rest = subst (λ o. Explained o 0 wants nothing_yet rest) f (explained rest 0 wants nothing_yet (omega arith)) in
    record {
      front = a_word word.Vcl (h.2) (h.0) ∷ a_decimal (h.3) (h.1) ∷ x.0;
      behind = x.1;
      parts = h.4 ∙ ap (λ r. a_word word.Vcl (h.2) (h.0) ∷ a_decimal (h.3) (h.1) ∷ r) (x.3);
      continued = continues (h.0) (h.1) (h.2) (h.3) v (x.0) (x.2) (h.5) (x.5);
      ended = ends_here (h.0) (h.1) (h.2) (h.3) v (x.0) (x.1) (x.2) (h.5) (x.5) (x.6);
      within = in_front (deepest 0 (x.0)) (x.7);
      placed = place_seen end (x.0) (x.1) rest left (x.3) (x.4);
    }

pub nesting_fault : (end : ℕ) (tokens rest : List Token) (v : Version) (left : ℕ) → head_of end tokens ≡ Good v rest → reading rest ≡ Deep left → IsNestingFault tokens (place_at end rest left)
nesting_fault end tokens rest v left e f =
    let h = has_head tokens end v rest e in
    let x : Explained (Deep left) 0 wants nothing_yet rest = subst (λ o. Explained o 0 wants nothing_yet rest) f (explained rest 0 wants nothing_yet (omega arith)) in
    record {
      front = a_word word.Vcl (h.2) (h.0) ∷ a_decimal (h.3) (h.1) ∷ x.0;
      token = x.2;
      behind = x.1;
      parts = h.4 ∙ ap (λ r. a_word word.Vcl (h.2) (h.0) ∷ a_decimal (h.3) (h.1) ∷ r) (x.4);
      continued = continues (h.0) (h.1) (h.2) (h.3) v (x.0 ++ x.2 ∷ []) (x.3) (h.5) (x.6);
      within = in_front (deepest 0 (x.0)) (x.7);
      deeper = far_over (deepest 0 (x.0 ++ x.2 ∷ [])) (x.8);
      placed = place_seen end (x.0) (x.2 ∷ x.1) rest left (x.4) (x.5);
    }

-- why reading stops is a fault of the text
pub fault_told : (text : List ℕ) (tokens rest : List Token) (v : Version) (why : Stop) → Reads 0 text tokens → length text ≤ text_limit → head_of (length text) tokens ≡ Good v rest → Stops why (reading rest) →
    IsFault text (told (length text) rest why)
fault_told text tokens rest v stop.NoMemory r short e f = tt
fault_told text tokens rest v (stop.Syntax left) r short e f = inr (tokens, r, ((v, rest, e), syntax_fault (length text) tokens rest v left e f), short)
fault_told text tokens rest v (stop.TooDeep left) r short e f = inr (tokens, r, ((v, rest, e), nesting_fault (length text) tokens rest v left e f), short)

-- the same of tokens and items that equal those
pub tree_found : (end : ℕ) (tokens seen rest : List Token) (v : Version) (items found : List Item) → seen ≡ tokens → found ≡ items → head_of end seen ≡ Good v rest →
    reading rest ≡ Accepted (list_of (map item_of items) ∷ []) → IsFile v (items_of found) tokens × (deepest 0 tokens ≤ 64)
tree_found end tokens seen rest v items found e f g h =
    let k : IsFile v (items_of items) seen × (deepest 0 seen ≤ 64) = tree_read end seen rest v (list_of (map item_of items)) g h in
    let l : IsFile v (items_of found) seen × (deepest 0 seen ≤ 64) = subst (λ i. IsFile v (items_of i) seen × (deepest 0 seen ≤ 64)) (sym f) k in
    subst (λ t. IsFile v (items_of found) t × (deepest 0 t ≤ 64)) e l
