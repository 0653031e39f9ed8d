-- What the code of sources has found.
use Rattle.std.specs.Prelude.{List, map, Option, None, Some}
use denote.Ref.{Bor}
use Rattle.pp_values.specs.Views.{view}
use Rattle.hiera_config.specs.declared.config.Config.{Config}
use Rattle.hiera_config.specs.declared.searching.Source as declared
use Rattle.hiera_config.specs.Sources.{Source, no_levels}

abbrev pub source_view : declared.Source → Source
source_view s = (view s.value, s.path)

abbrev pub source_views : List declared.Source → List Source
source_views = map source_view

abbrev pub shown_config : Option (Bor Config) → Config
shown_config None = no_levels
shown_config (Some c) = c.now
