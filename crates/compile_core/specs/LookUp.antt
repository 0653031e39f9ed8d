-- What the data of a site have for a key, asked from outside of any manifest.
use Rattle.std.specs.Prelude.{ℕ, List, Option, Some, None, Result, Ok, Err, codes}
use Rattle.class_eval.specs.TopNames.{with_top_names}
use Rattle.eval_world.specs.Data.{placed}
use Rattle.hiera_config.specs.Meant.{Meant}
use Rattle.hiera_config.specs.Variables.{in_scope}
use Rattle.hiera_lookup.specs.Look.{looked_up}
use Rattle.hiera_lookup.specs.World.{world_of}
use Rattle.hiera_merge.specs.declared.merge.Merge.{Merge}
use Rattle.pp_values.specs.Answers.{and_then}
use Rattle.pp_values.specs.Datum.{Datum, hash, no_entries}
use Rattle.pp_values.specs.Faults.{fault}
use Rattle.pp_values.specs.declared.fault.Fault.{Fault}
use Rattle.pp_values.specs.declared.fault.What.TheVariants as what
use Rattle.pp_values.specs.declared.place.Place.{Place}
use Rattle.scope_core.specs.Scopes.{Scopes, top_alone}
use Rattle.site_bundle.specs.SiteView.{Filed, SiteView, facts_for}

-- where each fault stands: in no file of the site
abbrev pub lookup_place : Place
lookup_place = record { file = codes "lookup"; line = 1 }

-- a node that the site does not list has empty facts
abbrev pub facts_or_none : Option Datum → Datum
facts_or_none (Some facts) = facts
facts_or_none None = hash no_entries

-- the top scope of a node before evaluation
abbrev pub node_scopes : SiteView → List ℕ → Scopes
node_scopes site node = with_top_names node (facts_or_none (facts_for site node)) top_alone

-- no source has the key
abbrev pub or_missing : Place → List ℕ → Option Datum → Result Datum Fault
or_missing at key (Some d) = Ok d
or_missing at key None = Err (fault at (what.LookupMissing key))

-- what a look-up means, with its faults at this place
abbrev pub found_or_missing : Place → List ℕ → Meant (Option Datum) → Result Datum Fault
found_or_missing at key meant = and_then (placed at meant) (or_missing at key)

-- looked up with the variables of top scope
abbrev pub found : List Filed → Scopes → List ℕ → Option Merge → Place → Result Datum Fault
found files scopes key merge at = found_or_missing at key (looked_up (world_of files (in_scope 0 scopes)) key merge)

-- it depends on the site's data, and on the node and its facts, and on no manifest
unfoldable pub look_up : SiteView → List ℕ → List ℕ → Option Merge → Result Datum Fault
look_up site node key merge = found site.data (node_scopes site node) key merge lookup_place
