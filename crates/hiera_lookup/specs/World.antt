-- What a look-up stands on.
use Rattle.std.specs.Prelude.{ℕ, List, Option}
use Rattle.hiera_config.specs.Documents.{File}
use Rattle.hiera_config.specs.Meant.{Meant}
use Rattle.hiera_config.specs.Seen.{seen as seen_variables}
use Rattle.hiera_config.specs.Sources.{Source, sources}
use Rattle.hiera_config.specs.Variables.{Variables, variable}
use Rattle.pp_values.specs.Datum.{Datum}
use Rattle.hiera_lookup.specs.declared.world.World.{World as Held}

pub record World : Type 0 where
  -- the value of a variable, or of a part of it
  pub reads : List ℕ → Option Datum
  -- what the layers have for a root key, the highest first: those of the module too, where one is given
  pub had : Option (List ℕ) → List ℕ → Meant (List Source)

-- that of these files and variables
abbrev pub world_of : List File → Variables → World
world_of files variables = record { reads = variable variables; had = sources files variables }

abbrev pub seen : Held → World
seen w = world_of w.data.now (seen_variables w.variables)
