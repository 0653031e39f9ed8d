-- What the code has of the files that levels come to.
use Rattle.std.specs.Prelude.{◌≡◌, ⊤, List, [], ◌∷◌, ◌++◌, map, option_map}
use Rattle.std.specs.List.{All}
use Rattle.serde_json.specs.View.{view as json_view}
use Rattle.hiera_config.specs.declared.reaching.Reached as declared
use Rattle.hiera_config.specs.declared.reaching.Reached.TheVariants as v
use Rattle.hiera_config.specs.declared.refused.Refused.{Refused}
use Rattle.hiera_config.specs.declared.refused.Refused.TheVariants as refused
use Rattle.hiera_config.specs.Keeping.{IsKept}
use Rattle.hiera_config.specs.Reached.{Reached, file, broken}

abbrev pub reached_view : declared.Reached → Reached
reached_view (v.File path f) = file path (option_map json_view f.now.json)
reached_view (v.Broken w) = broken w

abbrev pub reached_views : List declared.Reached → List Reached
reached_views = map reached_view

-- what is kept of a file is what its text means
abbrev pub IsKeptAt : declared.Reached → Type 0
IsKeptAt (v.File path f) = IsKept path f.now
IsKeptAt (v.Broken w) = ⊤

abbrev pub AreKeptAt : List declared.Reached → Type 0
AreKeptAt rs = All IsKeptAt rs

-- this is what was come to
abbrev pub Comes : List Reached → List declared.Reached → Type 0
Comes rs vs = (reached_views vs ≡ rs) × AreKeptAt vs

-- behind what is there
abbrev pub Adds : List Reached → List declared.Reached → List declared.Reached → Type 0
Adds rs old new = (reached_views new ≡ reached_views old ++ rs) × (AreKeptAt old → AreKeptAt new)

-- a refusal in the place of a path or of levels
abbrev pub AddsBroken : Refused → List declared.Reached → List declared.Reached → Type 0
AddsBroken (refused.Fault w) old new = Adds (broken w ∷ []) old new
AddsBroken refused.Memory old new = ⊥
