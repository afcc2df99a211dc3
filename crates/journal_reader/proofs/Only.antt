-- A text that is a line is not refused.
use Rattle.std.proofs.Common.{◌≡◌, ℕ, List, [], ◌∷◌, ◌++◌, length, sym, ap, ◌∙◌, subst, refl, arith, append_assoc}
use Rattle.std.specs.Prelude.{Result, Ok, Err, MatchResult}
use Rattle.std.proofs.lemmas.Bool.Decides.{nat_tests}
use Rattle.ban_expr.specs.declared.error.BanError.{BanError}
use Rattle.ban_expr.proofs.Ones.{refusal_reads}
use Rattle.cache_law.specs.declared.call.Call.{Call}
use Rattle.cache_law.specs.declared.call.Call.TheVariants.{Begin, Draw, Lookup, Pick, Insert, Ban, BanList, Purge, Xkey, SetHealth, Load, Switch, Discard, VclList, Drop, End}
use Rattle.journal_text.specs.declared.line.Line.{Line}
use Rattle.journal_text.specs.declared.line.Line.TheVariants as line
use Rattle.journal_text.specs.declared.word.Word.{Word}
use Rattle.journal_text.specs.Words.{AreWords, behind, line_text, loose, word_text}
use Rattle.journal_text.specs.Grammar.{line_words}
use Rattle.journal_text.specs.Journals.{HasReadBan, IsLine, IsReadBan, text_of}
use Rattle.journal_text.proofs.Spelling.{word_same}
use Rattle.journal_reader.specs.declared.fault.Fault.{Fault}
use Rattle.journal_reader.specs.declared.fault.Fault.TheVariants.{Expected, NoBan, Otherwise, Longer}
use Rattle.journal_reader.specs.declared.fault.ReadError.{ReadError}
use Rattle.journal_reader.specs.declared.fault.ReadError.TheVariants as errors
use Rattle.journal_reader.specs.declared.fault.Refusal.{Refusal}
use Rattle.journal_reader.specs.Fronts.{AreFront, StandFirst, padded}
use Rattle.journal_reader.specs.Reading.{Read, ban_of, bare, bare_call, line_at}
use Rattle.journal_reader.specs.Refusals.{IsErrorOf, IsFault, IsNoBan, IsNoBanCall, IsReadAs, IsRefusal, Parts, agreed}
use Rattle.journal_reader.proofs.Back.{line_back, looks}
use Rattle.journal_reader.proofs.Unique.{HasWords, line_same, whole_same, words_in}

-- words, each with a blank behind it
spaced : List Word → List ℕ
spaced [] = []
spaced (word ∷ words) = word_text word ++ 32 ∷ spaced words

spaced_behind : (words : List Word) → behind words ++ 32 ∷ [] ≡ 32 ∷ spaced words
unfolding spaced
spaced_behind [] = refl
spaced_behind (word ∷ words) =
    append_assoc (32 ∷ word_text word) (behind words) (32 ∷ []) ∙ ap (λ r. 32 ∷ (word_text word ++ r)) (spaced_behind words)

padded_line : (word : Word) (words : List Word) → padded (line_text (word ∷ words)) ≡ spaced (word ∷ words)
unfolding spaced
padded_line word words =
    append_assoc (word_text word) (behind words) (32 ∷ []) ∙ ap (λ r. word_text word ++ r) (spaced_behind words)

not_empty : (front rest : List ℕ) → [] ≡ front ++ 32 ∷ rest → ⊥
not_empty [] rest e = cc
not_empty (byte ∷ front) rest e = cc

-- the words that stand first are those that were put together, as they look
same_front : (bytes : List ℕ) (words all : List Word) → StandFirst bytes words → AreWords all → bytes ≡ spaced all → words ≡ looks all []
unfolding spaced
same_front bytes [] [] s h e = refl
same_front bytes [] (w ∷ all) s h e = absurd (s w (spaced all) h.0 e)
same_front bytes (v ∷ words) [] s h e = absurd (not_empty (word_text v) s.0 (sym e ∙ s.1.written))
same_front bytes (v ∷ words) (w ∷ all) s h e =
    let first = s.1 in
    let r = word_same v w (32 ∷ s.0) (32 ∷ spaced all) first.within h.0 refl refl (sym first.written ∙ e) in
    let tails : s.0 ≡ spaced all = cc in
    let more = same_front s.0 words all s.2 h.1 tails in
    let one : v ≡ loose w = sym first.looks ∙ r.0 in
    cc

-- what the words of a line's text say
said_by : (text : List ℕ) (one : Line) (words : List Word) (places : List ℕ) → IsLine text one → AreFront (padded text) words places → line_at words ≡ Ok (bare one, [])
said_by text one words places l f =
    let has = words_in one in
    let written : text ≡ line_text (has.first ∷ has.rest) = l.written ∙ ap line_text has.joined in
    let bytes : padded text ≡ spaced (line_words one) = ap padded written ∙ (padded_line has.first has.rest ∙ ap spaced (sym has.joined)) in
    let same = same_front (padded text) words (line_words one) f.stand l.words bytes in
    ap line_at same ∙ line_back one l.words

agreed_all : (text : List ℕ) → agreed text text ≡ length text
agreed_all [] = refl
agreed_all (byte ∷ text) =
    let more = agreed_all text in
    grind (arith, nat_tests, more)

bare_twice_call : (call : Call) → bare_call (bare_call call) ≡ bare_call call
unfolding ban_of
bare_twice_call Begin = refl
bare_twice_call Draw = refl
bare_twice_call (Lookup query) = refl
bare_twice_call (Pick number target word) = refl
bare_twice_call (Insert token object stale) = refl
bare_twice_call (Ban ban) = refl
bare_twice_call BanList = refl
bare_twice_call (Purge key) = refl
bare_twice_call (Xkey keys soft) = refl
bare_twice_call (SetHealth backend health) = refl
bare_twice_call (Load source) = refl
bare_twice_call (Switch name) = refl
bare_twice_call (Discard name) = refl
bare_twice_call VclList = refl
bare_twice_call (Drop token) = refl
bare_twice_call End = refl

bare_twice : (one : Line) → bare (bare one) ≡ bare one
bare_twice (line.Entry said) = ap (λ call. line.Entry (record said { call = call })) (bare_twice_call said.call)
bare_twice (line.First first) = refl
bare_twice line.Cut = refl
bare_twice line.Close = refl

-- a ban that was read is no refused one
pub ban_reads : (call : Call) (error : BanError) → IsReadBan call → IsNoBanCall (bare_call call) error → ⊥
unfolding ban_of
ban_reads (Ban ban) error r n = n.1 (refusal_reads ban.words error ban.conditions n.0 r)
ban_reads Begin error r n = n
ban_reads Draw error r n = n
ban_reads (Lookup query) error r n = n
ban_reads (Pick number target word) error r n = n
ban_reads (Insert token object stale) error r n = n
ban_reads BanList error r n = n
ban_reads (Purge key) error r n = n
ban_reads (Xkey keys soft) error r n = n
ban_reads (SetHealth backend health) error r n = n
ban_reads (Load source) error r n = n
ban_reads (Switch name) error r n = n
ban_reads (Discard name) error r n = n
ban_reads VclList error r n = n
ban_reads (Drop token) error r n = n
ban_reads End error r n = n

no_ban_fault : (one : Line) (error : BanError) → HasReadBan one → IsNoBan (bare one) error → ⊥
no_ban_fault (line.Entry said) error r n = ban_reads said.call error r n
no_ban_fault (line.First first) error r n = n
no_ban_fault line.Cut error r n = n
no_ban_fault line.Close error r n = n

no_parting : (text : List ℕ) (fault : Fault) (column : ℕ) → Parts text text fault column → ⊥
no_parting text Otherwise column p = let same = agreed_all text in let less = p.0 in omega (arith, same, less)
no_parting text Longer column p = let less = p.1 in omega (arith, less)
no_parting text (Expected wanted) column p = p
no_parting text (NoBan error) column p = p

no_other : (text : List ℕ) (one read : Line) (fault : Fault) (column : ℕ) → IsLine text one → IsReadAs (bare one) read → Parts text (text_of read) fault column → ⊥
no_other text one read fault column l r p =
    let same = whole_same read one (r.same ∙ bare_twice one) r.bans l.bans in
    let written : text_of read ≡ text = ap text_of same ∙ sym l.written in
    let at : List ℕ → Type 0 = λ w. Parts text w fault column in
    no_parting text fault column (subst at written p)

no_fault : (text : List ℕ) (one : Line) (words : List Word) (places : List ℕ) (fault : Fault) (column : ℕ) → IsLine text one → IsFault text words places (Ok (bare one, [])) fault column → ⊥
no_fault text one words places (Expected wanted) column l f = no_other text one f.0 (Expected wanted) column l f.1 f.2
no_fault text one words places (NoBan error) column l f = no_ban_fault one error l.bans f.0
no_fault text one words places Otherwise column l f = no_other text one f.0 Otherwise column l f.1 f.2
no_fault text one words places Longer column l f = no_other text one f.0 Longer column l f.1 f.2

pub line_is_read : (text : List ℕ) (one : Line) (refusal : Refusal) → IsLine text one → IsRefusal text refusal → ⊥
line_is_read text one refusal l r =
    let said = said_by text one r.words r.places l r.front in
    let at : Read Line → Type 0 = λ read. IsFault text r.words r.places read refusal.fault refusal.column in
    no_fault text one r.words r.places refusal.fault refusal.column l (subst at said r.fault)

pub only_line : (text : List ℕ) (result : Result Line ReadError) (one : Line) → MatchResult result (λ read. IsLine text read) (λ error. IsErrorOf text error) → IsLine text one → MatchResult result (λ read. read ≡ one) (λ error. error ≡ errors.NoMemory)
only_line text (Ok read) one r l = line_same text read one r l
only_line text (Err errors.NoMemory) one r l = refl
only_line text (Err (errors.Refused refusal)) one r l = absurd (line_is_read text one refusal l r)
