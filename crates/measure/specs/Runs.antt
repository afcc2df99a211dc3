-- How a run ends.
use Rattle.std.specs.Prelude.{◌≡◌, ℕ, ◌≤◌, List, ◌∷◌, [], ◌++◌, length, Option}
use Rattle.std.specs.Fmt.{decimal}
use Rattle.std.specs.Io.KnownBytes.{Appends}
use Rattle.wire.specs.Content.{AppendsPart, ReadsUpTo}
use Rattle.measure.specs.declared.task.Task.{Task}
use Rattle.measure.specs.declared.run.Status.{Status}
use Rattle.measure.specs.declared.run.Status.TheVariants.{Done, Words, Refused, ReadFault, WriteFault, NoMemory}
use Rattle.measure.specs.Tasks.{Says, IsCount}

-- the line that is written
abbrev pub line_of : ℕ → List ℕ
line_of n = decimal n ++ 10 ∷ []

-- the most bytes of the input: 64 MiB
abbrev pub input_limit : ℕ
input_limit = 67108864

-- the task of the words, and the input: all that the source had, or one byte more than the limit
pub record Asked (words : List (List ℕ)) (left0 left1 : Option (List ℕ)) : Type 0 where
  pub task : Task
  pub says : Says words task
  pub input : List ℕ
  pub reads : ReadsUpTo input_limit left0 left1 input

-- the input is within the limit, and has this count
pub record Counted (words : List (List ℕ)) (left0 left1 : Option (List ℕ)) : Type 0 where
  pub asked : Asked words left0 left1
  pub short : length asked.input ≤ input_limit
  pub number : ℕ
  pub is : IsCount asked.task asked.input number

-- no input within the limit that has a count is refused
pub record Uncounted (words : List (List ℕ)) (left0 left1 : Option (List ℕ)) : Type 0 where
  pub asked : Asked words left0 left1
  pub none : length asked.input ≤ input_limit → (n : ℕ) → ¬ (IsCount asked.task asked.input n)

-- Words exactly where the words name no task, with nothing read; what is written by each status
abbrev pub Ends : List (List ℕ) → Option (List ℕ) → Option (List ℕ) → Option (List ℕ) → Option (List ℕ) → Status → Type 0
Ends words left0 left1 held0 held1 Done = (c : Counted words left0 left1) × Appends held0 held1 (line_of c.number)
Ends words left0 left1 held0 held1 Words = ((task : Task) → ¬ (Says words task)) × (left1 ≡ left0) × (held1 ≡ held0)
Ends words left0 left1 held0 held1 Refused = Uncounted words left0 left1 × (held1 ≡ held0)
Ends words left0 left1 held0 held1 ReadFault = ((task : Task) × Says words task) × (held1 ≡ held0)
Ends words left0 left1 held0 held1 WriteFault = (c : Counted words left0 left1) × AppendsPart held0 held1 (line_of c.number)
Ends words left0 left1 held0 held1 NoMemory = ((task : Task) × Says words task) × (held1 ≡ held0)

abbrev pub code_of : Status → ℕ
code_of Done = 0
code_of Words = 2
code_of Refused = 3
code_of ReadFault = 4
code_of WriteFault = 5
code_of NoMemory = 6
