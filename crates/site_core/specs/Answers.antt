-- When a call that adds an entry refuses.
use Rattle.std.specs.Prelude.{◌≡◌, ℕ, ◌<◌, length, Result, Ok, Err}
use Rattle.site_core.specs.Core.{Core}
use Rattle.site_core.specs.declared.done_stop.DoneStop.{DoneStop}
use Rattle.site_core.specs.declared.done_stop.DoneStop.TheVariants.{Full, Memory}

-- `Full` exactly where the history has as many entries as it may, with their number; else the new entry's number, or
-- `Memory`
abbrev pub Stops : {S : Type 0} → Core S → Result ℕ DoneStop → Type 0
Stops core (Ok entry) = (length core.history < core.limit) × (entry ≡ length core.history)
Stops core (Err (Full length_)) = (length core.history ≡ core.limit) × (length_ ≡ length core.history)
Stops core (Err Memory) = length core.history < core.limit
