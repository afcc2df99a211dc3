-- The front of the bytes and a head at it, of either kind.
use Rattle.std.proofs.Common.{◌≡◌, ℕ, ◌+◌, ◌-◌, ◌<◌, ◌≤◌, List, [], ◌∷◌, ◌++◌, length, take, drop, Result, Ok, Err, None, refl, sym, ◌∙◌, ap, subst, arith, append_assoc, append-nil}
use Rattle.std.specs.Result.{IsErrAnd}
use Rattle.std.proofs.lemmas.List.{length-take, append_cancel_right}
use Rattle.httparse.specs.Grammar.{print_end}
use Rattle.http_heads.specs.declared.message.HeadError.{HeadError}
use Rattle.http_heads.specs.declared.message.HeadError.TheVariants.{TooLong}
use Rattle.http_heads.specs.Heads.{HeadKind, HasHead, LacksHead, AnswersHead}
use Rattle.http_heads.specs.Lines.{full_lines, HasTooManyLines}
use Rattle.http_heads.proofs.Fronts.{take_front, split_front, all_of, full_of}
use Rattle.http_heads.proofs.HeadLines.{before_feed, print_end-feed, HasLines, last_line}

-- a head that the parser found in the front
pub found : {Tree Message : Type 0} → (kind : HeadKind Tree Message) (bytes front : List ℕ) (tree : Tree) (message : Message) (count : ℕ)
    → front ≡ take 32768 bytes → kind.IsTree tree × (front ≡ kind.print tree ++ drop count front) → count ≡ length (kind.print tree) → count ≤ length front
    → length (kind.lines tree) ≤ 64 → message ≡ kind.message_of tree → HasHead kind bytes message count
found kind bytes front tree message count is reads counted fits few shown =
    let behind = drop count front in
    let joined : bytes ≡ kind.print tree ++ (drop count front ++ drop 32768 bytes) =
    split_front 32768 bytes front is ∙ ap (λ (l : List ℕ). l ++ drop 32768 bytes) reads.1 ∙ append_assoc (kind.print tree) (drop count front) (drop 32768 bytes) in
    record {
      tree = tree;
      rest = behind ++ drop 32768 bytes;
      reads = (reads.0, joined);
      counted = counted;
      short = omega (arith, fits, ap length is, length-take 32768 bytes);
      few = few;
      is = shown;
    }

-- a head stands in the front
pub stands : {Tree Message : Type 0} → (kind : HeadKind Tree Message) (bytes front : List ℕ) (message : Message) (count : ℕ)
    (has : HasHead kind bytes message count) → front ≡ take 32768 bytes → (rest : List ℕ) × (kind.IsTree has.tree × (front ≡ kind.print has.tree ++ rest))
stands kind bytes front message count has is =
    let printed = kind.print has.tree in (
      take (32768 - length printed) has.rest,
      (has.reads.0, is ∙ ap (λ (l : List ℕ). take 32768 l) has.reads.1 ∙ take_front 32768 printed has.rest (omega (arith, has.counted, has.short))),
    )

-- no head is in the front, so none is there
pub lacks : {Tree Message : Type 0} → (kind : HeadKind Tree Message) (bytes front : List ℕ) → front ≡ take 32768 bytes
    → ((tree : Tree) (rest : List ℕ) → ¬ (kind.IsTree tree × (front ≡ kind.print tree ++ rest))) → LacksHead kind bytes
lacks kind bytes front is none message count has =
    let there = stands kind bytes front message count has is in
    none has.tree there.0 there.1

pub never_lacks : {Tree Message : Type 0} → (kind : HeadKind Tree Message) (bytes front : List ℕ) → front ≡ take 32768 bytes
    → ((more : List ℕ) (tree : Tree) (rest : List ℕ) → ¬ (kind.IsTree tree × (front ++ more ≡ kind.print tree ++ rest))) → LacksHead kind bytes
never_lacks kind bytes front is never =
    lacks kind bytes front is (λ tree rest reads. never [] tree rest (reads.0, append-nil front ∙ reads.1))

-- the lines of a head within the limits aren't too many
pub few_lines : {Tree Message : Type 0} → (kind : HeadKind Tree Message) (lined : HasLines kind) (bytes : List ℕ) (message : Message) (count : ℕ)
    → HasHead kind bytes message count → ¬ (HasTooManyLines bytes)
few_lines kind lined bytes message count has many =
    let there = stands kind bytes (take 32768 bytes) message count has refl in
    let tree = has.tree in
    let rest = print_end (lined.last has.tree) ++ there.0 in
    let text : take 32768 bytes ≡ lined.front has.tree (print_end (lined.last has.tree) ++ there.0) = there.1.1 ∙ lined.printed tree there.0 in
    omega (arith, many, ap full_lines text, lined.lines tree rest has.reads.0, last_line (lined.last tree) there.0, has.few)

-- a head with more fields than the room has too many lines
pub many_lines : {Tree Message : Type 0} → (kind : HeadKind Tree Message) (lined : HasLines kind) (front start rest : List ℕ) (tree : Tree)
    → front ≡ start ++ rest → kind.IsTree tree × (start ++ 10 ∷ [] ≡ kind.print tree ++ []) → 64 < length (kind.lines tree) → 66 ≤ full_lines front
many_lines kind lined front start rest tree split reads more =
    let last = lined.last tree in
    let printed : start ++ 10 ∷ [] ≡ lined.front tree (print_end (lined.last tree)) =
    reads.1 ∙ lined.printed tree [] ∙ ap (lined.front tree) (append-nil (print_end last)) in
    let parted : lined.front tree (print_end (lined.last tree)) ≡ lined.front tree (before_feed (lined.last tree)) ++ 10 ∷ [] =
    ap (lined.front tree) (print_end-feed last) ∙ lined.joined tree (before_feed last) (10 ∷ []) in
    let begun : start ≡ lined.front tree (before_feed (lined.last tree)) = append_cancel_right start _ (10 ∷ []) (printed ∙ parted) in
    let text : front ≡ lined.front tree (before_feed (lined.last tree) ++ rest) =
    split ∙ ap (λ (l : List ℕ). l ++ rest) begun ∙ sym (lined.joined tree (before_feed last) rest) in
    omega (arith, ap full_lines text, lined.lines tree (before_feed last ++ rest) reads.0, more)

-- ---- what is told where no head stands there

pub told_none : {Tree Message : Type 0} → (kind : HeadKind Tree Message) (Never MayBecome : List ℕ → Type 0) (bytes front : List ℕ) → front ≡ take 32768 bytes
    → ¬ (HasTooManyLines bytes) → ((tree : Tree) (rest : List ℕ) → ¬ (kind.IsTree tree × (front ≡ kind.print tree ++ rest))) → MayBecome front
    → length front < 32768 → AnswersHead kind Never MayBecome bytes (Ok None)
told_none kind Never MayBecome bytes front is few none open_end short =
    let all = all_of bytes front is short in
    (all.0, lacks kind bytes front is none, subst MayBecome all.1 open_end, few)

pub told_long : {Tree Message : Type 0} → (kind : HeadKind Tree Message) (Never MayBecome : List ℕ → Type 0) (bytes front : List ℕ) → front ≡ take 32768 bytes
    → ¬ (HasTooManyLines bytes) → ((tree : Tree) (rest : List ℕ) → ¬ (kind.IsTree tree × (front ≡ kind.print tree ++ rest))) → MayBecome front
    → 32768 ≤ length front → AnswersHead kind Never MayBecome bytes (Err TooLong)
told_long kind Never MayBecome bytes front is few none open_end full =
    (full_of bytes front is full, lacks kind bytes front is none, subst MayBecome is open_end, few)

-- an error that is passed on is that error
pub passed_on : {T : Type 0} (result : Result T HeadError) (error : HeadError) → IsErrAnd result (λ e. e ≡ error) → result ≡ Err error
passed_on (Ok x) error is = absurd is
passed_on (Err e) error is = ap Err is
