-- A text is one line.
use Rattle.std.proofs.Common.{◌≡◌, ◌⊎◌, inl, inr, ℕ, List, [], ◌∷◌, map, sym, ap, ◌∙◌, subst, refl}
use Rattle.std.specs.Prelude.{Ok, Err}
use Rattle.ban_expr.specs.Reading.{Reads}
use Rattle.ban_expr.proofs.Ones.{one_reading}
use Rattle.cache_law.specs.declared.ban.Ban.{Ban as BanWords}
use Rattle.cache_law.specs.declared.call.Call.{Call}
use Rattle.cache_law.specs.declared.call.Call.TheVariants.{Begin, Draw, Lookup, Pick, Insert, Ban, BanList, Purge, Xkey, SetHealth, Load, Switch, Discard, VclList, Drop, End}
use Rattle.journal_text.specs.declared.line.Line.{Line}
use Rattle.journal_text.specs.declared.line.Line.TheVariants as line
use Rattle.journal_text.specs.declared.line.Said.{Said}
use Rattle.journal_text.specs.declared.shown.Shown.{Shown}
use Rattle.journal_text.specs.declared.word.Word.{Word}
use Rattle.journal_text.specs.Words.{AreWords, line_text, loose}
use Rattle.journal_text.specs.Grammar.{line_words}
use Rattle.journal_text.specs.Journals.{IsLine, HasReadBan, IsReadBan, text_of}
use Rattle.journal_text.proofs.Spelling.{words_same}
use Rattle.journal_reader.specs.Reading.{Read, ban_of, bare, bare_call, line_at}
use Rattle.journal_reader.proofs.Back.{looks, line_back}

looks_map : (words : List Word) → looks words [] ≡ map loose words
looks_map [] = refl
looks_map (word ∷ words) = ap (λ r. loose word ∷ r) (looks_map words)

-- the words of a line, of which there is at least one
pub record HasWords (one : Line) : Type 0 where
  pub first : Word
  pub rest : List Word
  pub joined : line_words one ≡ first ∷ rest

pub words_in : (one : Line) → HasWords one
words_in (line.First first) = record { first = _; rest = _; joined = refl }
words_in (line.Entry said) = record { first = _; rest = _; joined = refl }
words_in line.Cut = record { first = _; rest = _; joined = refl }
words_in line.Close = record { first = _; rest = _; joined = refl }

loose_same : (a b : List Word) → (f g : Word) (p q : List Word) → a ≡ f ∷ p → b ≡ g ∷ q → AreWords a → AreWords b → line_text a ≡ line_text b → map loose a ≡ map loose b
loose_same a b f g p q d e h k t =
    let at : List Word → Type 0 = λ words. AreWords words in
    let r = words_same f g p q (subst at d h) (subst at e k) (sym (ap line_text d) ∙ (t ∙ ap line_text e)) in
    ap (map loose) d ∙ (r ∙ sym (ap (map loose) e))

-- a call is as it is without the conditions of its ban, or it is a ban
abbrev Seen : Call → Type 0
Seen call = (bare_call call ≡ call) ⊎ ((ban : BanWords) × (call ≡ Ban ban))

seen : (call : Call) → Seen call
seen Begin = inl refl
seen Draw = inl refl
seen (Lookup query) = inl refl
seen (Pick number target word) = inl refl
seen (Insert token object stale) = inl refl
seen (Ban ban) = inr (ban, refl)
seen BanList = inl refl
seen (Purge key) = inl refl
seen (Xkey keys soft) = inl refl
seen (SetHealth backend health) = inl refl
seen (Load source) = inl refl
seen (Switch name) = inl refl
seen (Discard name) = inl refl
seen VclList = inl refl
seen (Drop token) = inl refl
seen End = inl refl

-- words say one ban
ban_same : (some other : BanWords) → some.words ≡ other.words → Reads some.words some.conditions → Reads other.words other.conditions → some ≡ other
ban_same some other e h k =
    let at : List (List ℕ) → Type 0 = λ words. Reads words some.conditions in
    let c = one_reading other.words some.conditions other.conditions (subst at e h) k in
    ap (λ words. record { words = words; conditions = some.conditions }) e ∙ ap (λ conditions. record { words = other.words; conditions = conditions }) c

words_of : Call → List (List ℕ)
words_of (Ban ban) = ban.words
words_of call = []

one_ban_only : (call : Call) (ban : BanWords) → call ≡ bare_call (Ban ban) → IsReadBan call → IsReadBan (Ban ban) → call ≡ Ban ban
unfolding ban_of
one_ban_only call ban e h k =
    let read = subst IsReadBan e h in
    e ∙ ap Ban (ban_same (ban_of ban.words) ban refl read k)

call_same : (some other : Call) → bare_call some ≡ bare_call other → IsReadBan some → IsReadBan other → some ≡ other
unfolding ban_of words_of
call_same some other e h k =
    elim (seen some) [
      | inl p ↦ elim (seen other) [
        | inl q ↦ sym p ∙ (e ∙ q)
        | inr q ↦ one_ban_only some q.0 (sym p ∙ (e ∙ ap bare_call q.1)) h (subst IsReadBan q.1 k) ∙ sym q.1
      ]
      | inr p ↦ elim (seen other) [
        | inl q ↦ p.1 ∙ sym (one_ban_only other p.0 (sym q ∙ (sym e ∙ ap bare_call p.1)) k (subst IsReadBan p.1 h))
        | inr q ↦
            let words = ap words_of (sym (ap bare_call p.1) ∙ (e ∙ ap bare_call q.1)) in
            p.1 ∙ (ap Ban (ban_same p.0 q.0 words (subst IsReadBan p.1 h) (subst IsReadBan q.1 k)) ∙ sym q.1)
      ]
    ]

said_of_parts : ℕ → ℕ → Call → Shown → Said
said_of_parts caller moment call reply = record { caller = caller; moment = moment; call = call; reply = reply }

said_same : (some other : Said) → some.caller ≡ other.caller → some.moment ≡ other.moment → some.call ≡ other.call → some.reply ≡ other.reply → some ≡ other
unfolding said_of_parts
said_same some other p q r s =
    ap (λ x. said_of_parts x some.moment some.call some.reply) p
    ∙ (ap (λ x. said_of_parts other.caller x some.call some.reply) q
    ∙ (ap (λ x. said_of_parts other.caller other.moment x some.reply) r ∙ ap (λ x. said_of_parts other.caller other.moment other.call x) s))

pub whole_same : (some other : Line) → bare some ≡ bare other → HasReadBan some → HasReadBan other → some ≡ other
whole_same (line.Entry some) (line.Entry other) e h k =
    let said : record some { call = bare_call some.call } ≡ record other { call = bare_call other.call } = cc in
    let call = call_same some.call other.call (ap (λ x. x.call) said) h k in
    ap line.Entry (said_same some other (ap (λ x. x.caller) said) (ap (λ x. x.moment) said) call (ap (λ x. x.reply) said))
whole_same (line.Entry some) (line.First other) e h k = cc
whole_same (line.Entry some) line.Cut e h k = cc
whole_same (line.Entry some) line.Close e h k = cc
whole_same (line.First some) (line.Entry other) e h k = cc
whole_same line.Cut (line.Entry other) e h k = cc
whole_same line.Close (line.Entry other) e h k = cc
whole_same (line.First some) (line.First other) e h k = e
whole_same (line.First some) line.Cut e h k = e
whole_same (line.First some) line.Close e h k = e
whole_same line.Cut (line.First other) e h k = e
whole_same line.Cut line.Cut e h k = e
whole_same line.Cut line.Close e h k = e
whole_same line.Close (line.First other) e h k = e
whole_same line.Close line.Cut e h k = e
whole_same line.Close line.Close e h k = e

found_of : Read Line → Line
found_of (Ok found) = found.0
found_of (Err stop) = line.Close

pub line_same : (text : List ℕ) (some other : Line) → IsLine text some → IsLine text other → some ≡ other
unfolding found_of
line_same text some other h k =
    let a = words_in some in
    let b = words_in other in
    let looks_same : map loose (line_words some) ≡ map loose (line_words other) =
    loose_same (line_words some) (line_words other) a.first b.first a.rest b.rest a.joined b.joined h.words k.words (sym h.written ∙ k.written) in
    let words = looks_map (line_words some) ∙ (looks_same ∙ sym (looks_map (line_words other))) in
    let one : Read Line = Ok (bare some, []) in
    let two : Read Line = Ok (bare other, []) in
    let found : one ≡ two = sym (line_back some h.words) ∙ (ap line_at words ∙ line_back other k.words) in
    whole_same some other (ap found_of found) h.bans k.bans
