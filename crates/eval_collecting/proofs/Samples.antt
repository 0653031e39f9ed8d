-- Resources, collectors, a world and small sites, for the examples.
use Rattle.std.proofs.Common.{ℕ, Bool, false, List, [], ◌∷◌, None, Some, Result, Ok, Err, codes}
use Rattle.pp_tree.specs.Building.{name_at, define_of, param}
use Rattle.pp_tree.specs.Tables.{Entries}
use Rattle.pp_tree.specs.declared.definition.Definition.TheVariants as definition
use Rattle.pp_tree.specs.declared.table.DefinitionName.TheVariants.{Code}
use Rattle.pp_values.specs.Datum as d
use Rattle.pp_values.specs.Faults as faults
use Rattle.pp_values.specs.Settings.{Setting}
use Rattle.pp_values.specs.declared.fault.Fault.{Fault}
use Rattle.pp_values.specs.declared.fault.What.{What}
use Rattle.pp_values.specs.declared.place.Place.{Place}
use Rattle.pp_values.specs.declared.reference.Reference.{Reference}
use Rattle.res_book.specs.Rows.{new_row}
use Rattle.res_book.specs.declared.collector.Collector.{Collector}
use Rattle.res_book.specs.declared.mode.Mode.{Mode}
use Rattle.res_book.specs.declared.mode.Mode.TheVariants as mode
use Rattle.res_book.specs.declared.row.Row.{Row}
use Rattle.res_core.specs.Criteria.{Criterion, all}
use Rattle.res_core.specs.declared.declared.Declared.{Declared}
use Rattle.res_core.specs.declared.exported.Exported.{Exported}
use Rattle.res_core.specs.declared.resource.Resource.{Resource}
use Rattle.eval_world.specs.Environment.{Environment}
use Rattle.eval_world.specs.Outcomes.{Outcome}
use Rattle.eval_world.specs.Worlds.{empty}
use Rattle.eval_world.specs.declared.world.World.{World}

-- ---- what is declared

abbrev pub place : ℕ → Place
place line = record { file = codes "manifests/site.pp"; line = line }

abbrev pub resource : List ℕ → List ℕ → List Setting → Resource
resource kind title set = record { kind = kind; title = title; attributes = set; tags = codes "t" ∷ kind ∷ [] }

abbrev pub of : Resource → ℕ → Declared
of r line = record {
  item = r;
  at = place line;
  scope = 0;
  container = None;
  class = codes "class main";
  known = codes "message" ∷ [];
}

abbrev pub message : List Setting
message = (codes "message", d.text (codes "m")) ∷ []

-- `notify { 'a': message => 'm' }`
abbrev pub a : Resource
a = resource (codes "notify") (codes "a") message

abbrev pub a_named : Reference
a_named = record { kind = codes "notify"; title = codes "a" }

-- declared at line 3
abbrev pub row : Mode → Row
row m = new_row (of a 3) m

-- what was imported from the third place of the set of `web1`
abbrev pub import_mode : Mode
import_mode = mode.Imported (codes "web1") 2

-- ---- collectors

-- of this form, with this query
abbrev pub collector : Bool → Criterion → Collector
collector exported query = record {
  kind = codes "notify";
  query = query;
  at = place 7;
  owner = 0;
  exported = exported;
  lines = [];
  realized = None;
}

abbrev pub realizing : List ℕ → Collector
realizing title = record (collector false all) { realized = Some (record { kind = codes "notify"; title = title }) }

-- ---- what another node exports, at line 9 of its set's manifest

abbrev pub export : Resource → Exported
export r = record { node_place = place 9; item = r }

-- ---- sites

abbrev pub site_of : Entries → Environment
site_of es = record { main = record { statements = []; definitions = es }; files = []; site_data = [] }

-- one that defines nothing
abbrev pub nothing : Environment
nothing = site_of []

-- one with `define vhost($port) { }`
abbrev pub vhost : Environment
vhost = site_of
    ((
      Code (codes "vhost"),
      definition.Define (define_of (name_at (codes "vhost") 1) (param None (codes "port") None 1 ∷ []) [] 1),
    ) ∷ [])

-- ---- worlds

abbrev pub with_rows : List Row → List Collector → Environment → World
with_rows rows cs m =
    record (empty m) {
      book = rows;
      relations = record { lines = []; containments = []; collectors = cs; applied = [] };
    }

-- the answer, and which declarations are marked after it
abbrev pub marks : List Row → List Bool
marks [] = []
marks (r ∷ rs) = r.marked ∷ marks rs

abbrev pub shown : Outcome Bool → Result (Bool × List Bool) Fault
shown (Ok p) = Ok (p.0, marks p.1.book)
shown (Err f) = Err f

-- a fault at the place in the set
abbrev pub refuses : What → Result (Bool × List Bool) Fault
refuses details = Err (faults.fault (place 9) details)
