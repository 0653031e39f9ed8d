-- Configurations of some texts.
use Rattle.std.proofs.Common.{◌≡◌, ℕ, true, false, List, [], ◌∷◌, ◌++◌, Option, Some, None, Ok, Err, codes, refl}
use Rattle.serde_json.proofs.OnLiterals.{serde_json_on_literals}
use Rattle.pp_values.specs.Faults.{fault}
use Rattle.pp_values.specs.declared.fault.What.TheVariants as what
use Rattle.pp_values.specs.declared.place.Place.{Place}
use Rattle.hiera_config.specs.declared.config.Config.{Config}
use Rattle.hiera_config.specs.declared.config.Level.{Level}
use Rattle.hiera_config.specs.declared.config.Layer.TheVariants as layer
use Rattle.hiera_config.specs.declared.config.LevelPaths.TheVariants as paths
use Rattle.hiera_config.specs.Config.{level_of, config_from, config_read, config_or_fault}

-- a level `a` with one path, in this folder
abbrev plain : List ℕ → Level
plain folder = level_of (codes "a") folder (paths.Templates (codes "x.json" ∷ []))

abbrev levels : List Level → Option Config
levels ls = Some (config_from ls [])

-- without a hierarchy there are no levels; `defaults` give the folder, and a level's own wins
folders : (config_read false (codes "{\"version\":5}") ≡ levels [])
    × (config_read false (codes "{\"version\":5,\"hierarchy\":[]}") ≡ levels [])
    × (config_read false (codes "{\"version\":5,\"hierarchy\":[{\"name\":\"a\",\"path\":\"x.json\"}]}")
    ≡ levels (plain (codes "data") ∷ []))
    × (config_read false (codes "{\"version\":5,\"defaults\":{},\"hierarchy\":[{\"name\":\"a\",\"path\":\"x.json\"}]}")
    ≡ levels (plain (codes "data") ∷ []))
    × (config_read false (codes "{\"version\":5,\"defaults\":{\"datadir\":\"d\",\"data_hash\":\"json_data\"},\"hierarchy\":[{\"name\":\"a\",\"path\":\"x.json\"}]}") ≡ levels (plain (codes "d") ∷ []))
    × (config_read false (codes "{\"version\":5,\"defaults\":{\"datadir\":\"d\"},\"hierarchy\":[{\"name\":\"a\",\"datadir\":\"e\",\"path\":\"x.json\"}]}") ≡ levels (plain (codes "e") ∷ []))
unfolding serde_json_on_literals
folders = (refl, refl, refl, refl, refl, refl)

-- each form of a level's paths, and levels in their order
forms : (config_read false (codes
    "{\"version\":5,\"hierarchy\":[{\"name\":\"a\",\"paths\":[\"x\",\"y\"]},{\"name\":\"b\",\"paths\":[]}]}")
    ≡ levels (level_of (codes "a") (codes "data") (paths.Templates (codes "x" ∷ codes "y" ∷ []))
    ∷ level_of (codes "b") (codes "data") (paths.Templates []) ∷ []))
    × (config_read false (codes "{\"version\":5,\"hierarchy\":[{\"name\":\"a\",\"data_hash\":\"json_data\",\"mapped_paths\":[\"v\",\"n\",\"%{n}\"]}]}")
    ≡ levels (level_of (codes "a") (codes "data") (paths.Mapped (codes "v") (codes "n") (codes "%{n}")) ∷ []))
unfolding serde_json_on_literals
forms = (refl, refl)

-- a module alone has default levels
of_module : (config_read true (codes "{\"version\":5,\"default_hierarchy\":[{\"name\":\"a\",\"path\":\"x.json\"}]}")
    ≡ Some (config_from [] (plain (codes "data") ∷ [])))
    × (config_read false (codes "{\"version\":5,\"default_hierarchy\":[]}") ≡ None)
unfolding serde_json_on_literals
of_module = (refl, refl)

-- no JSON, no object, another version, a member of another name, a part of another kind
refused : (config_read false (codes "{") ≡ None)
    × (config_read false (codes "[]") ≡ None)
    × (config_read false (codes "{}") ≡ None)
    × (config_read false (codes "{\"version\":4}") ≡ None)
    × (config_read false (codes "{\"version\":\"5\"}") ≡ None)
    × (config_read false (codes "{\"version\":5,\"x\":1}") ≡ None)
    × (config_read false (codes "{\"version\":5,\"hierarchy\":{}}") ≡ None)
    × (config_read false (codes "{\"version\":5,\"hierarchy\":null}") ≡ None)
    × (config_read false (codes "{\"version\":5,\"hierarchy\":[1]}") ≡ None)
    × (config_read true (codes "{\"version\":5,\"default_hierarchy\":[{}]}") ≡ None)
unfolding serde_json_on_literals
refused = (refl, refl, refl, refl, refl, refl, refl, refl, refl, refl)

refused_defaults : (config_read false (codes "{\"version\":5,\"defaults\":[]}") ≡ None)
    × (config_read false (codes "{\"version\":5,\"defaults\":{\"path\":\"x\"}}") ≡ None)
    × (config_read false (codes "{\"version\":5,\"defaults\":{\"datadir\":1}}") ≡ None)
    × (config_read false (codes "{\"version\":5,\"defaults\":{\"data_hash\":\"yaml_data\"}}") ≡ None)
unfolding serde_json_on_literals
refused_defaults = (refl, refl, refl, refl)

-- this level alone
abbrev read_level : List ℕ → Option Config
read_level text = config_read false (codes "{\"version\":5,\"hierarchy\":[" ++ text ++ codes "]}")

-- a level has a name, and exactly one of three kinds of paths
refused_levels : (read_level (codes "{\"path\":\"x\"}") ≡ None)
    × (read_level (codes "{\"name\":1,\"path\":\"x\"}") ≡ None)
    × (read_level (codes "{\"name\":\"a\"}") ≡ None)
    × (read_level (codes "{\"name\":\"a\",\"path\":\"x\",\"paths\":[]}") ≡ None)
    × (read_level (codes "{\"name\":\"a\",\"path\":\"x\",\"mapped_paths\":[\"v\",\"n\",\"t\"]}") ≡ None)
    × (read_level (codes "{\"name\":\"a\",\"path\":\"x\",\"data_hash\":\"x\"}") ≡ None)
    × (read_level (codes "{\"name\":\"a\",\"path\":\"x\",\"data_hash\":1}") ≡ None)
    × (read_level (codes "{\"name\":\"a\",\"path\":\"x\",\"datadir\":null}") ≡ None)
    × (read_level (codes "{\"name\":\"a\",\"path\":\"x\",\"options\":{}}") ≡ None)
    × (read_level (codes "{\"name\":\"a\",\"path\":[\"x\"]}") ≡ None)
    × (read_level (codes "{\"name\":\"a\",\"paths\":\"x\"}") ≡ None)
    × (read_level (codes "{\"name\":\"a\",\"paths\":[\"x\",1]}") ≡ None)
    × (read_level (codes "{\"name\":\"a\",\"mapped_paths\":[\"v\",\"n\"]}") ≡ None)
    × (read_level (codes "{\"name\":\"a\",\"mapped_paths\":[\"v\",\"n\",1]}") ≡ None)
unfolding serde_json_on_literals
refused_levels = (refl, refl, refl, refl, refl, refl, refl, refl, refl, refl, refl, refl, refl, refl)

-- the fault names the file; whose it is decides over `default_hierarchy`
faults : (at : Place) → (config_or_fault (codes "hiera.yaml") (codes "{") layer.Environment at
    ≡ Err (fault at (what.BadData (codes "hiera.yaml"))))
    × (config_or_fault (codes "g") (codes "{\"version\":5,\"default_hierarchy\":[]}") layer.Global at
    ≡ Err (fault at (what.BadData (codes "g"))))
    × (config_or_fault (codes "m") (codes "{\"version\":5,\"default_hierarchy\":[]}") (layer.Module (codes "m")) at
    ≡ Ok (config_from [] []))
unfolding serde_json_on_literals
faults at = (refl, refl, refl)
