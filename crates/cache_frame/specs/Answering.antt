-- The entry that a call makes where it is answered so.
use Rattle.std.specs.Prelude.{ℕ}
use Rattle.cache_law.specs.declared.call.Call.{Call}
use Rattle.cache_law.specs.declared.call.Entry.{Entry}
use Rattle.cache_law.specs.declared.call.Reply.TheVariants as replies
use Rattle.cache_law.specs.declared.setting.Params.{Params}
use Rattle.cache_law.specs.History.{lawful_entry}
use Rattle.cache_law.specs.State.{State}
use Rattle.cache_frame.specs.declared.framed.Answering.{Answering}
use Rattle.cache_frame.specs.declared.framed.Answering.TheVariants.{ByLaw, Refused}
use Rattle.cache_frame.specs.Shelves.{entry_of}

abbrev pub entry_answered : Answering → Params → State → ℕ → ℕ → Call → Entry
entry_answered ByLaw params state caller moment call = lawful_entry params state caller moment call
entry_answered Refused params state caller moment call = entry_of caller moment call replies.Refused
