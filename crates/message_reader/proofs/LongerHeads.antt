-- Heads at the front of longer and longer bytes, of either kind.
use Rattle.std.proofs.Common.{◌≡◌, ◌⊎◌, inl, inr, ℕ, suc, ◌+◌, ◌-◌, ◌≤◌, Bool, true, false, ◌==◌, List, [], ◌∷◌, ◌++◌, length, take, drop, Err, refl, sym, ◌∙◌, ap, arith}
use Rattle.std.specs.Prelude.{if◌then◌else◌}
use Rattle.std.specs.List.{prefix_len}
use Rattle.std.proofs.lemmas.Bool.{cases_lt}
use Rattle.std.proofs.lemmas.List.{append-nil, append_assoc, take-append-drop, take-append-le, take_all}
use Rattle.std.proofs.Math.Seq.{take-append-add, take-append_seam}
use Rattle.http_heads.specs.Limits.{head_limit}
use Rattle.http_heads.specs.Lines.{grow, ended_lines, is_empty_line, is_full_line, from_full, full_lines, HasTooManyLines}
use Rattle.http_heads.specs.Heads.{HeadKind, HasHead, LacksHead, AnswersHead}
use Rattle.http_heads.specs.declared.message.HeadError.{HeadError}
use Rattle.http_heads.specs.declared.message.HeadError.TheVariants as heads
use Rattle.http_heads.proofs.HeadFacts.{few_lines}
use Rattle.http_heads.proofs.HeadLines.{HasLines}
use Rattle.message_reader.specs.Causes.{head_stop}
use Rattle.message_reader.specs.declared.stop.Stop.TheVariants.{BadHead}

-- ---- lines

grown : (byte : ℕ) (lines more all : List (List ℕ)) → all ≡ lines ++ more → (others : List (List ℕ)) × (grow byte all ≡ grow byte lines ++ others)
grown byte [] more all is = (grow byte more, ap (grow byte) is)
grown byte (line ∷ lines) more all is = (more, ap (grow byte) is)

-- the lines of a longer text begin with those of a shorter one
lines_more : (xs ys : List ℕ) → (more : List (List ℕ)) × (ended_lines (xs ++ ys) ≡ ended_lines xs ++ more)
unfolding ended_lines
lines_more [] ys = (ended_lines ys, refl)
lines_more (b ∷ xs) ys =
    let rest = lines_more xs ys in
    elim (b == 10) as (λ (t : Bool). (more : List (List ℕ)) × ((if t then [] ∷ ended_lines (xs ++ ys) else grow b (ended_lines (xs ++ ys)))
    ≡ (if t then [] ∷ ended_lines xs else grow b (ended_lines xs)) ++ more)) [
      | true ↦ (rest.0, ap (λ (l : List (List ℕ)). [] ∷ l) rest.1)
      | false ↦ grown b (ended_lines xs) rest.0 (ended_lines (xs ++ ys)) rest.1
    ]

by_bit : (b : Bool) → (b ≡ true) ⊎ (b ≡ false)
by_bit true = inl refl
by_bit false = inr refl

one_and : (n : ℕ) → 1 + n ≡ suc n
one_and n = omega arith

from_empty : (line : List ℕ) (lines : List (List ℕ)) → is_empty_line line ≡ true → from_full (line ∷ lines) ≡ from_full lines
from_empty line lines empty = rw (empty, one_and) refl

from_first : (line : List ℕ) (lines : List (List ℕ)) → is_empty_line line ≡ false → from_full (line ∷ lines) ≡ line ∷ lines
from_first line lines full = rw full refl

prefix_more : (p : List ℕ → Bool) (xs ys : List (List ℕ)) → prefix_len p xs ≤ prefix_len p (xs ++ ys)
prefix_more p [] ys = omega arith
prefix_more p (x ∷ xs) ys =
    let rest = prefix_more p xs ys in
    elim (p x) as (λ (t : Bool). (if t then 1 + prefix_len p xs else 0) ≤ (if t then 1 + prefix_len p (xs ++ ys) else 0)) [
      | true ↦ omega (arith, rest)
      | false ↦ omega arith
    ]

full_more : (lines more : List (List ℕ)) → prefix_len is_full_line (from_full lines) ≤ prefix_len is_full_line (from_full (lines ++ more))
full_more [] more = omega arith
full_more (line ∷ lines) more = elim (by_bit (is_empty_line line)) [
  | inl empty ↦
      omega (arith, ap (prefix_len is_full_line) (from_empty line lines empty), ap (prefix_len is_full_line) (from_empty line (lines ++ more) empty), full_more lines more)
  | inr full ↦
      omega (
        arith,
        ap (prefix_len is_full_line) (from_first line lines full),
        ap (prefix_len is_full_line) (from_first line (lines ++ more) full),
        prefix_more is_full_line (line ∷ lines) more,
      )
]

take_more : (n : ℕ) (xs ys : List ℕ) → (more : List ℕ) × (take n (xs ++ ys) ≡ take n xs ++ more)
take_more n xs ys = elim (cases_lt n (length xs)) [
  | inl less ↦ ([], take-append-le n xs ys (omega (arith, less)) ∙ sym (append-nil (take n xs)))
  | inr past ↦
      let split : n ≡ length xs + (n - length xs) = omega (arith, past) in
      let all : take n xs ≡ xs = take_all n xs (omega (arith, past)) in (
        take (n - length xs) ys,
        ap (λ (k : ℕ). take k (xs ++ ys)) split ∙ take-append-add xs ys (n - length xs)
            ∙ ap (λ (l : List ℕ). l ++ take (n - length xs) ys) (sym all),
      )
]

pub many_longer : (text more : List ℕ) → HasTooManyLines text → HasTooManyLines (text ++ more)
many_longer text more many =
    let t = take_more head_limit text more in
    let l = lines_more (take head_limit text) t.0 in
    omega (
      arith,
      many,
      ap full_lines t.1,
      ap (λ (ls : List (List ℕ)). prefix_len is_full_line (from_full ls)) l.1,
      full_more (ended_lines (take head_limit text)) l.0,
    )

-- ---- heads

-- a head that stands in the shorter bytes whole
pub shorter_head : {Tree Message : Type 0} → (kind : HeadKind Tree Message) (text more : List ℕ) (message : Message) (count : ℕ)
    → HasHead kind (text ++ more) message count → count ≤ length text → HasHead kind text message count
shorter_head kind text more message count has short =
    let front : take count text ≡ take count (text ++ more) = sym (take-append-le count text more short) in
    let read = ap (take count) has.reads.1 in
    record {
      tree = has.tree;
      rest = drop count text;
      reads = (
        has.reads.0,
        sym (take-append-drop count text)
            ∙ ap (λ (l : List ℕ). l ++ drop count text) (front ∙ read ∙ (rw has.counted (take-append_seam (kind.print has.tree) has.rest))),
      );
      counted = has.counted;
      short = has.short;
      few = has.few;
      is = has.is;
    }

-- the whole bytes, parted at the limit of heads
parted : (text further : List ℕ) → take head_limit text ++ (drop head_limit text ++ further) ≡ text ++ further
parted text further = sym (append_assoc (take head_limit text) (drop head_limit text) further) ∙ ap (λ (l : List ℕ). l ++ further) (take-append-drop head_limit text)

-- no tree of this kind begins these bytes, whatever follows
abbrev pub NeverHas : {Tree Message : Type 0} → HeadKind Tree Message → List ℕ → Type 0
NeverHas {Tree} {Message} kind front = (more : List ℕ) (tree : Tree) (rest : List ℕ) → ¬ (kind.IsTree tree × (front ++ more ≡ kind.print tree ++ rest))

-- bytes whose head is refused begin with none, whatever follows
pub never_longer : {Tree Message : Type 0} → (kind : HeadKind Tree Message) (lined : HasLines kind) (Never MayBecome : List ℕ → Type 0)
    → ((front : List ℕ) → Never front → NeverHas kind front) → (text more : List ℕ) (error : HeadError) → AnswersHead kind Never MayBecome text (Err error)
    → head_stop error ≡ BadHead → LacksHead kind (text ++ more)
never_longer kind lined Never MayBecome never text more heads.Bad told is =
    λ message count has. never (take head_limit text) told.0 (drop head_limit text ++ more) has.tree has.rest (has.reads.0, parted text more ∙ has.reads.1)
never_longer kind lined Never MayBecome never text more heads.TooLong told is =
    λ message count has. told.1 message count (shorter_head kind text more message count has (omega (arith, has.short, told.0)))
never_longer kind lined Never MayBecome never text more heads.TooMany told is =
    λ message count has. few_lines kind lined (text ++ more) message count has (many_longer text more told)
never_longer kind lined Never MayBecome never text more heads.NoMemory told is = absurd (cc)
