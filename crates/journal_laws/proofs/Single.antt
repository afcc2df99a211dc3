-- A text is refused for one fault at one column.
use Rattle.std.proofs.Common.{◌≡◌, ℕ, List, [], ◌∷◌, sym, ap, ◌∙◌, subst, refl, arith}
use Rattle.std.specs.Prelude.{Ok, Err}
use Rattle.ban_expr.specs.declared.error.BanError.{BanError}
use Rattle.ban_expr.proofs.Ones.{one_refusal}
use Rattle.cache_law.specs.declared.call.Call.{Call}
use Rattle.cache_law.specs.declared.call.Call.TheVariants.{Begin, Draw, Lookup, Pick, Insert, Ban, BanList, Purge, Xkey, SetHealth, Load, Switch, Discard, VclList, Drop, End}
use Rattle.journal_text.specs.declared.line.Line.{Line}
use Rattle.journal_text.specs.declared.line.Line.TheVariants as line
use Rattle.journal_text.specs.declared.word.Word.{Word}
use Rattle.journal_text.specs.Journals.{IsReadBan, text_of}
use Rattle.journal_text.proofs.Spelling.{word_same}
use Rattle.journal_reader.proofs.Unique.{whole_same}
use Rattle.journal_reader.specs.declared.fault.Fault.{Fault}
use Rattle.journal_reader.specs.declared.fault.Fault.TheVariants.{Expected, NoBan, Otherwise, Longer}
use Rattle.journal_reader.specs.declared.fault.Refusal.{Refusal}
use Rattle.journal_reader.specs.Fronts.{StandFirst, columns, padded}
use Rattle.journal_reader.specs.Reading.{Read, ban_of, bare_call, line_at}
use Rattle.journal_reader.proofs.Only.{ban_reads}
use Rattle.journal_reader.specs.Refusals.{IsFault, IsNoBan, IsNoBanCall, IsReadAs, IsRefusal, Parts}

-- a text has one list of words
front_same : (bytes : List ℕ) (words others : List Word) → StandFirst bytes words → StandFirst bytes others → words ≡ others
front_same bytes [] [] s k = refl
front_same bytes [] (w ∷ others) s k = absurd (s w k.0 k.1.within k.1.written)
front_same bytes (v ∷ words) [] s k = absurd (k v s.0 s.1.within s.1.written)
front_same bytes (v ∷ words) (w ∷ others) s k =
    let one = s.1 in
    let two = k.1 in
    let r = word_same v w (32 ∷ s.0) (32 ∷ k.0) one.within two.within refl refl (sym one.written ∙ two.written) in
    let tails : s.0 ≡ k.0 = cc in
    let at : List ℕ → Type 0 = λ rest. StandFirst rest words in
    let more = front_same k.0 words others (subst at tails s.2) k.2 in
    let first : v ≡ w = sym one.looks ∙ (r.0 ∙ two.looks) in
    cc

-- the call of a line whose ban was read
said_of : Line → Call
said_of (line.Entry said) = said.call
said_of other = End

call_reads : (found read : Call) (error : BanError) → IsReadBan read → bare_call read ≡ bare_call found → IsNoBanCall found error → ⊥
unfolding ban_of
call_reads (Ban ban) read error r e n =
    let bare_fault : IsNoBanCall (bare_call (Ban ban)) error = n in
    ban_reads read error r (subst (λ call. IsNoBanCall call error) (sym e) bare_fault)
call_reads Begin read error r e n = n
call_reads Draw read error r e n = n
call_reads (Lookup query) read error r e n = n
call_reads (Pick number target word) read error r e n = n
call_reads (Insert token object stale) read error r e n = n
call_reads BanList read error r e n = n
call_reads (Purge key) read error r e n = n
call_reads (Xkey keys soft) read error r e n = n
call_reads (SetHealth backend given) read error r e n = n
call_reads (Load source) read error r e n = n
call_reads (Switch name) read error r e n = n
call_reads (Discard name) read error r e n = n
call_reads VclList read error r e n = n
call_reads (Drop token) read error r e n = n
call_reads End read error r e n = n

-- a line that reads as one whose ban is none has a ban that is none
line_reads : (found read : Line) (error : BanError) → IsReadAs found read → IsNoBan found error → ⊥
unfolding said_of
line_reads (line.Entry said) (line.Entry read) error r n =
    let call : bare_call read.call ≡ bare_call said.call = ap said_of r.same in
    call_reads said.call read.call error r.bans call n
line_reads (line.Entry said) (line.First read) error r n = let e = r.same in cc
line_reads (line.Entry said) line.Cut error r n = let e = r.same in cc
line_reads (line.Entry said) line.Close error r n = let e = r.same in cc
line_reads (line.First first) read error r n = n
line_reads line.Cut read error r n = n
line_reads line.Close read error r n = n

call_refused : (call : Call) (error other : BanError) → IsNoBanCall call error → IsNoBanCall call other → error ≡ other
call_refused (Ban ban) error other n m = one_refusal ban.words error other n.0 m.0 n.1 m.1
call_refused Begin error other n m = absurd n
call_refused Draw error other n m = absurd n
call_refused (Lookup query) error other n m = absurd n
call_refused (Pick number target word) error other n m = absurd n
call_refused (Insert token object stale) error other n m = absurd n
call_refused BanList error other n m = absurd n
call_refused (Purge key) error other n m = absurd n
call_refused (Xkey keys soft) error other n m = absurd n
call_refused (SetHealth backend given) error other n m = absurd n
call_refused (Load source) error other n m = absurd n
call_refused (Switch name) error other n m = absurd n
call_refused (Discard name) error other n m = absurd n
call_refused VclList error other n m = absurd n
call_refused (Drop token) error other n m = absurd n
call_refused End error other n m = absurd n

line_refused : (found : Line) (error other : BanError) → IsNoBan found error → IsNoBan found other → error ≡ other
line_refused (line.Entry said) error other n m = call_refused said.call error other n m
line_refused (line.First first) error other n m = absurd n
line_refused line.Cut error other n m = absurd n
line_refused line.Close error other n m = absurd n

parts_same : (text written : List ℕ) (fault other : Fault) (column place : ℕ) → Parts text written fault column → Parts text written other place → (fault ≡ other) × (column ≡ place)
parts_same text written Otherwise Otherwise column place p q = (refl, p.1 ∙ sym q.1)
parts_same text written Longer Longer column place p q = (refl, p.2 ∙ sym q.2)
parts_same text written Otherwise Longer column place p q = let less = p.0 in let same = q.0 in absurd (omega (arith, less, same))
parts_same text written Longer Otherwise column place p q = let less = q.0 in let same = p.0 in absurd (omega (arith, less, same))
parts_same text written (Expected wanted) other column place p q = absurd p
parts_same text written (NoBan error) other column place p q = absurd p
parts_same text written Otherwise (Expected wanted) column place p q = absurd q
parts_same text written Otherwise (NoBan error) column place p q = absurd q
parts_same text written Longer (Expected wanted) column place p q = absurd q
parts_same text written Longer (NoBan error) column place p q = absurd q

-- what is written otherwise of words that say a line
abbrev Other : List ℕ → Line → Fault → ℕ → Type 0
Other text found fault column = (read : Line) × IsReadAs found read × Parts text (text_of read) fault column

other_same : (text : List ℕ) (found : Line) (fault other : Fault) (column place : ℕ) → Other text found fault column → Other text found other place → (fault ≡ other) × (column ≡ place)
other_same text found fault other column place p q =
    let same = whole_same p.0 q.0 (p.1.same ∙ sym q.1.same) p.1.bans q.1.bans in
    let at : Line → Type 0 = λ read. Parts text (text_of read) fault column in
    parts_same text (text_of q.0) fault other column place (subst at same p.2) q.2

found_same : (text : List ℕ) (words : List Word) (places : List ℕ) (found : Line × List Word) (fault other : Fault) (column place : ℕ) → IsFault text words places (Ok found) fault column → IsFault text words places (Ok found) other place → (fault ≡ other) × (column ≡ place)
found_same text words places found (NoBan error) (NoBan other) column place f g = (ap NoBan (line_refused found.0 error other f.0 g.0), f.1 ∙ sym g.1)
found_same text words places found (NoBan error) (Expected wanted) column place f g = absurd (line_reads found.0 g.0 error g.1 f.0)
found_same text words places found (NoBan error) Otherwise column place f g = absurd (line_reads found.0 g.0 error g.1 f.0)
found_same text words places found (NoBan error) Longer column place f g = absurd (line_reads found.0 g.0 error g.1 f.0)
found_same text words places found (Expected wanted) (NoBan error) column place f g = absurd (line_reads found.0 f.0 error f.1 g.0)
found_same text words places found Otherwise (NoBan error) column place f g = absurd (line_reads found.0 f.0 error f.1 g.0)
found_same text words places found Longer (NoBan error) column place f g = absurd (line_reads found.0 f.0 error f.1 g.0)
found_same text words places found (Expected wanted) (Expected other) column place f g = other_same text found.0 (Expected wanted) (Expected other) column place f g
found_same text words places found (Expected wanted) Otherwise column place f g = other_same text found.0 (Expected wanted) Otherwise column place f g
found_same text words places found (Expected wanted) Longer column place f g = other_same text found.0 (Expected wanted) Longer column place f g
found_same text words places found Otherwise (Expected other) column place f g = other_same text found.0 Otherwise (Expected other) column place f g
found_same text words places found Otherwise Otherwise column place f g = other_same text found.0 Otherwise Otherwise column place f g
found_same text words places found Otherwise Longer column place f g = other_same text found.0 Otherwise Longer column place f g
found_same text words places found Longer (Expected other) column place f g = other_same text found.0 Longer (Expected other) column place f g
found_same text words places found Longer Otherwise column place f g = other_same text found.0 Longer Otherwise column place f g
found_same text words places found Longer Longer column place f g = other_same text found.0 Longer Longer column place f g

fault_same : (text : List ℕ) (words : List Word) (places : List ℕ) (read : Read Line) (fault other : Fault) (column place : ℕ) → IsFault text words places read fault column → IsFault text words places read other place → (fault ≡ other) × (column ≡ place)
fault_same text words places (Ok found) fault other column place f g = found_same text words places found fault other column place f g
fault_same text words places (Err stop) (Expected wanted) (Expected other) column place f g = (ap Expected (f.0 ∙ sym g.0), f.1 ∙ sym g.1)
fault_same text words places (Err stop) (Expected wanted) (NoBan other) column place f g = absurd g
fault_same text words places (Err stop) (Expected wanted) Otherwise column place f g = absurd g
fault_same text words places (Err stop) (Expected wanted) Longer column place f g = absurd g
fault_same text words places (Err stop) (NoBan error) other column place f g = absurd f
fault_same text words places (Err stop) Otherwise other column place f g = absurd f
fault_same text words places (Err stop) Longer other column place f g = absurd f

pub refusal_same : (text : List ℕ) (refusal other : Refusal) → IsRefusal text refusal → IsRefusal text other → refusal ≡ other
refusal_same text refusal other r q =
    let words = front_same (padded text) r.words q.words r.front.stand q.front.stand in
    let places : r.places ≡ q.places = r.front.placed ∙ (ap (columns 1) words ∙ sym q.front.placed) in
    let by_words : List Word → Type 0 = λ w. IsFault text w r.places (line_at w) refusal.fault refusal.column in
    let by_places : List ℕ → Type 0 = λ p. IsFault text q.words p (line_at q.words) refusal.fault refusal.column in
    let same = fault_same text q.words q.places (line_at q.words) refusal.fault other.fault refusal.column other.column (subst by_places places (subst by_words words r.fault)) q.fault in
    ap (λ fault. record { column = refusal.column; fault = fault }) same.0 ∙ ap (λ column. record { column = column; fault = other.fault }) same.1
