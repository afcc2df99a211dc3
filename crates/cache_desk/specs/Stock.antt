-- What a shelf has of the law's state: bans and objects.
use Rattle.std.specs.Prelude.{ℕ, List, []}
use Rattle.cache_law.specs.declared.ban.Issued.{Issued}
use Rattle.cache_law.specs.State.{State, Held, those_in_time}

-- how many bans were issued, the bans, and the objects
pub record Stock : Type 0 where
  pub issued : ℕ
  pub bans : List Issued
  pub objects : List Held

abbrev pub no_stock : Stock
no_stock = record { issued = 0; bans = []; objects = [] }

abbrev pub stock_of : State → Stock
stock_of state = record { issued = state.issued; bans = state.bans; objects = state.objects }

-- the same at a moment: what isn't in time any more is gone
abbrev pub stock_at : ℕ → State → Stock
stock_at moment state = record { issued = state.issued; bans = state.bans; objects = those_in_time moment state.objects }

abbrev pub with_stock : Stock → State → State
with_stock stock state = record state { issued = stock.issued; bans = stock.bans; objects = stock.objects }

-- the state with nothing on its shelf
abbrev pub without_stock : State → State
without_stock state = with_stock no_stock state
