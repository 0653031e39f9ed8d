-- The facts in requests.
use Rattle.std.specs.Prelude.{Bool, true, List, Option, Some, None}
use Rattle.std.specs.List.{list_all}
use Rattle.pp_values.specs.Datum.{Datum}
use Rattle.pp_values.specs.Facts.{are_facts}
use Rattle.res_core.specs.Asked.{Asked, compile, deactivate}

abbrev pub has_facts : Option Datum → Bool
has_facts None = true
has_facts (Some d) = are_facts d

abbrev pub asks_with_facts : Asked → Bool
asks_with_facts (compile w) = has_facts w.facts
asks_with_facts (deactivate node) = true

-- the facts in the requests are facts
abbrev pub give_facts : List Asked → Bool
give_facts asked = list_all asks_with_facts asked
