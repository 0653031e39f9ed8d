-- Texts of failing calls that several machines share.
use Rattle.std.specs.Prelude.{◌≡◌, ℕ, List, [], Option, None, Some}
use Rattle.std.specs.Arc.{arc_value}
use Rattle.std.specs.declared.alloc.Global.{Global}
use Rattle.std.specs.declared.sync.Arc.{Arc}
use Rattle.pp_values.specs.Rising.{sorted}
use Rattle.agent_machine.specs.declared.failing_texts.Listed.{Listed}

abbrev pub texts_in : List (List ℕ) → Option (Arc Listed Global) → List (List ℕ)
texts_in none None = none
texts_in none (Some listed) = (arc_value listed).texts

-- the texts that are shared are in order beside
abbrev pub IsListed : List (List ℕ) → Option (Arc Listed Global) → Type 0
IsListed none None = none ≡ []
IsListed none (Some listed) = (arc_value listed).in_order.keys ≡ sorted (arc_value listed).texts
