-- The head of a message (RFC 9112, sections 2 to 5): the grammar of `httparse` in its default setting, within 32,768
-- bytes and 64 fields.
use Rattle.std.specs.Prelude.{◌≡◌, ℕ, ◌+◌, ◌≤◌, ◌<◌, List, ◌++◌, length, map, Result, Ok, Err, Option, Some, None, take}
use Rattle.httparse.specs.Grammar.{RequestHead as RequestTree, ResponseHead as ResponseTree, Field as FieldTree, print_request, print_response, IsRequestHead, IsResponseHead, NeverHasRequest, NeverHasResponse, MayBecomeRequest, MayBecomeResponse, field_value, status_code, reason_phrase}
use Rattle.http_heads.specs.declared.fields.Field.{Field}
use Rattle.http_heads.specs.declared.message.RequestHead.{RequestHead}
use Rattle.http_heads.specs.declared.message.ResponseHead.{ResponseHead}
use Rattle.http_heads.specs.declared.message.HeadError.{HeadError}
use Rattle.http_heads.specs.declared.message.HeadError.TheVariants.{Bad, TooLong, TooMany, NoMemory}
use Rattle.http_heads.specs.Limits.{head_limit, field_limit}
use Rattle.http_heads.specs.Lines.{HasTooManyLines}

-- a field line as a message has it: the white space round the value is no part of it
abbrev pub field_of : FieldTree → Field
field_of line = record { name = line.name; value = field_value line }

-- the message of a request's head
abbrev pub request_of : RequestTree → RequestHead
request_of tree = record {
  method = tree.method;
  url = tree.target;
  version = 10 + tree.minor;
  fields = map field_of tree.fields;
}

-- the message of a response's head; a phrase that is missing is empty
abbrev pub response_of : ResponseTree → ResponseHead
response_of tree = record {
  version = 10 + tree.minor;
  status = status_code tree;
  reason = reason_phrase tree.reason;
  fields = map field_of tree.fields;
}

-- a kind of head: its trees, how they are printed, their field lines and their messages
pub record HeadKind (Tree Message : Type 0) : Type 1 where
  pub IsTree : Tree → Type 0
  pub print : Tree → List ℕ
  pub lines : Tree → List FieldTree
  pub message_of : Tree → Message

abbrev pub requests : HeadKind RequestTree RequestHead
requests = record { IsTree = IsRequestHead; print = print_request; lines = λ tree. tree.fields; message_of = request_of }

abbrev pub responses : HeadKind ResponseTree ResponseHead
responses = record { IsTree = IsResponseHead; print = print_response; lines = λ tree. tree.fields; message_of = response_of }

-- the first `count` bytes are a head within the limits, and this is its message
pub record HasHead {Tree Message : Type 0} (kind : HeadKind Tree Message) (bytes : List ℕ) (message : Message) (count : ℕ) : Type 0 where
  pub tree : Tree
  pub rest : List ℕ
  pub reads : kind.IsTree tree × (bytes ≡ kind.print tree ++ rest)
  pub counted : count ≡ length (kind.print tree)
  pub short : count ≤ head_limit
  pub few : length (kind.lines tree) ≤ field_limit
  pub is : message ≡ kind.message_of tree

abbrev pub HasRequest : List ℕ → RequestHead → ℕ → Type 0
HasRequest bytes message count = HasHead requests bytes message count

abbrev pub HasResponse : List ℕ → ResponseHead → ℕ → Type 0
HasResponse bytes message count = HasHead responses bytes message count

-- the bytes begin with no head within the limits
abbrev pub LacksHead : {Tree Message : Type 0} → HeadKind Tree Message → List ℕ → Type 0
LacksHead {Tree} {Message} kind bytes = (message : Message) (count : ℕ) → ¬ (HasHead kind bytes message count)

abbrev pub LacksRequest : List ℕ → Type 0
LacksRequest bytes = LacksHead requests bytes

abbrev pub LacksResponse : List ℕ → Type 0
LacksResponse bytes = LacksHead responses bytes

-- What an answer tells of the bytes, where `Never` says of bytes that whatever follows they begin no head, and `MayBecome`
-- that more bytes can make them one. A head stands at their front; none does yet, and more bytes can make one; whatever
-- follows the first 32,768 bytes, they begin no head; these bytes could become a head, but one that is too long; the
-- rule on lines; or a head stands there, and memory is wanting.
abbrev pub AnswersHead : {Tree Message : Type 0} → HeadKind Tree Message → (List ℕ → Type 0) → (List ℕ → Type 0) → List ℕ
    → Result (Option (Message × ℕ)) HeadError → Type 0
AnswersHead kind Never MayBecome bytes (Ok (Some found)) = HasHead kind bytes found.0 found.1 × ¬ (HasTooManyLines bytes)
AnswersHead kind Never MayBecome bytes (Ok None) =
    (length bytes < head_limit) × LacksHead kind bytes × MayBecome bytes × ¬ (HasTooManyLines bytes)
AnswersHead kind Never MayBecome bytes (Err Bad) = Never (take head_limit bytes) × ¬ (HasTooManyLines bytes)
AnswersHead kind Never MayBecome bytes (Err TooLong) =
    (head_limit ≤ length bytes) × LacksHead kind bytes × MayBecome (take head_limit bytes) × ¬ (HasTooManyLines bytes)
AnswersHead kind Never MayBecome bytes (Err TooMany) = HasTooManyLines bytes
AnswersHead {Tree} {Message} kind Never MayBecome bytes (Err NoMemory) =
    (message : Message) × (count : ℕ) × HasHead kind bytes message count × ¬ (HasTooManyLines bytes)

abbrev pub AnswersRequest : List ℕ → Result (Option (RequestHead × ℕ)) HeadError → Type 0
AnswersRequest bytes result = AnswersHead requests NeverHasRequest MayBecomeRequest bytes result

abbrev pub AnswersResponse : List ℕ → Result (Option (ResponseHead × ℕ)) HeadError → Type 0
AnswersResponse bytes result = AnswersHead responses NeverHasResponse MayBecomeResponse bytes result
