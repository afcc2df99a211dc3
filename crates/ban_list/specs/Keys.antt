-- Keys of bans: equal bans have the same key, and others have not.
use Rattle.std.specs.Prelude.{ℕ, Bool, false, List, [], ◌∷◌, ◌++◌, codes, Option, None, Some, if◌then◌else◌}
use Rattle.std.specs.List.{flat_map}
use Rattle.std.specs.Str.{bytes_eq}
use Rattle.cache_law.specs.declared.ban.TextField.{TextField}
use Rattle.cache_law.specs.declared.ban.TextField.TheVariants.{RequestUrl, RequestHeader, ObjectStatus, ObjectHeader}
use Rattle.cache_law.specs.declared.ban.TextOperator.{TextOperator}
use Rattle.cache_law.specs.declared.ban.TextOperator.TheVariants.{Equal, NotEqual, Matches, MatchesNot}
use Rattle.cache_law.specs.declared.ban.Condition.{Condition}
use Rattle.cache_law.specs.declared.ban.Condition.TheVariants.{OnText, OnTime}
use Rattle.cache_law.specs.declared.ban.Ban.{Ban}
use Rattle.cache_law.specs.Bans.{lasting}

-- the word of a field without the name of a header, and this name
abbrev pub field_word : TextField → List ℕ
field_word RequestUrl = codes "req.url"
field_word (RequestHeader name) = codes "req.http"
field_word ObjectStatus = codes "obj.status"
field_word (ObjectHeader name) = codes "obj.http"

abbrev pub name_in : TextField → List ℕ
name_in RequestUrl = []
name_in (RequestHeader name) = name
name_in ObjectStatus = []
name_in (ObjectHeader name) = name

abbrev pub operator_word : TextOperator → List ℕ
operator_word Equal = codes "=="
operator_word NotEqual = codes "!="
operator_word Matches = codes "~"
operator_word MatchesNot = codes "!~"

-- a part of a key, whose end shows itself: a 1 before each byte, and a 0 at the end
abbrev pub marked_byte : ℕ → List ℕ
marked_byte byte = 1 ∷ byte ∷ []

abbrev pub part_of : List ℕ → List ℕ
part_of text = flat_map marked_byte text ++ 0 ∷ []

abbrev pub condition_key : Condition → List ℕ
condition_key (OnText field operator argument) =
    part_of (field_word field) ++ (part_of (name_in field) ++ (part_of (operator_word operator) ++ part_of argument))
condition_key (OnTime field comparison milliseconds) = []

-- a ban on a time equals none, and has no key
unfoldable pub equal_key : Ban → Option (List ℕ)
equal_key ban = if lasting ban then None else Some (flat_map condition_key ban.conditions)

abbrev pub same_key : Option (List ℕ) → Option (List ℕ) → Bool
same_key None other = false
same_key (Some key) None = false
same_key (Some key) (Some other) = bytes_eq key other
