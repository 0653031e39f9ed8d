-- A small site, a file that one of its classes declares, and what a statement makes of it.
use Rattle.std.proofs.Common.{◌≡◌, ℕ, false, List, [], ◌∷◌, Option, None, Some, Result, Ok, Err, map, codes}
use Rattle.pp_tree.specs.Building.{class_of, defaults, name_at, override, reference}
use Rattle.pp_tree.specs.declared.definition.Definition.{Definition}
use Rattle.pp_tree.specs.declared.definition.Definition.TheVariants as definition
use Rattle.pp_tree.specs.declared.definition.Name.{Name}
use Rattle.pp_tree.specs.declared.expr.Expr.{Expr}
use Rattle.pp_tree.specs.declared.resource.Attribute.{Attribute}
use Rattle.pp_tree.specs.declared.table.DefinitionName.{DefinitionName}
use Rattle.pp_tree.specs.declared.table.DefinitionName.TheVariants.{Code}
use Rattle.pp_values.specs.Datum as d
use Rattle.pp_values.specs.Datum.{Datum}
use Rattle.pp_values.specs.Faults as faults
use Rattle.pp_values.specs.Settings.{Setting}
use Rattle.pp_values.specs.declared.fault.Fault.{Fault}
use Rattle.pp_values.specs.declared.fault.Subject.TheVariants as subject
use Rattle.pp_values.specs.declared.fault.What.{What}
use Rattle.pp_values.specs.declared.fault.What.TheVariants as what
use Rattle.pp_values.specs.declared.reference.Reference as values
use Rattle.override_rules.specs.Defaults.{with_scope}
use Rattle.override_rules.specs.Meaning.{attribute_at, stands}
use Rattle.res_book.specs.Rows.{new_row}
use Rattle.res_book.specs.declared.mode.Mode.TheVariants as mode
use Rattle.res_book.specs.declared.row.Row.{Row}
use Rattle.attribute_lines.proofs.Samples.{place, sample, word}
use Rattle.eval_overrides.specs.DefaultStatements.{defaults_rule}
use Rattle.eval_overrides.specs.OverrideStatements.{override_rule}
use Rattle.eval_world.specs.Environment.{Environment}
use Rattle.eval_world.specs.Inner.{Inner}
use Rattle.eval_world.specs.Outcomes.{Outcome, Step, ◌>>◌, pure}
use Rattle.eval_world.specs.Owners.{main_owner}
use Rattle.eval_world.specs.Worlds.{empty, write_log}
use Rattle.eval_world.specs.declared.here.Here.{Here}
use Rattle.eval_world.specs.declared.owner.Owner.{Owner}
use Rattle.eval_world.specs.declared.world.World.{World}

abbrev pub mode_name : List ℕ
mode_name = codes "mode"

-- ---- the site: class `b` inherits from `a`, and `c` from none

abbrev entry : List ℕ → Option Name → DefinitionName × Definition
entry name parent = (Code name, definition.Class (class_of (name_at name 1) [] parent [] 1))

abbrev site : Environment
site = record {
  main = record {
    statements = [];
    definitions = entry (codes "a") None
        ∷ entry (codes "b") (Some (name_at (codes "a") 1))
        ∷ entry (codes "c") None
        ∷ [];
  };
  files = [];
  site_data = [];
}

-- ---- where a statement stands; the scope of each class has the number of its owner

abbrev at_owner : ℕ → Here
at_owner owner = record { scope = record { number = owner }; owner = owner; typed = false }

abbrev pub in_main : Here
in_main = at_owner 0

abbrev pub in_a : Here
in_a = at_owner 1

abbrev pub in_b : Here
in_b = at_owner 2

abbrev pub in_c : Here
in_c = at_owner 3

-- in a lambda of class `b`, which has a scope of its own
abbrev pub in_lambda_of_b : Here
in_lambda_of_b = record { scope = record { number = 9 }; owner = 2; typed = false }

-- ---- the world: class `b`, and as its parent `a`, which declares the file; class `c` stands aside

abbrev owner : List ℕ → ℕ → Owner
owner source number =
    record { file = codes "manifests/site.pp"; source = source; resource = number; scope = number }

abbrev pub file_with : List Setting → Row
file_with set = new_row (record {
  item = record { kind = codes "file"; title = codes "x"; attributes = set; tags = [] };
  at = place 1;
  scope = 1;
  container = None;
  class = codes "class a";
  known = mode_name ∷ [];
}) mode.Plain

abbrev world : List Row → World
world rows = record (empty site) {
  owners = record {
    main = main_owner;
    others = owner (codes "class a") 1 ∷ owner (codes "class b") 2 ∷ owner (codes "class c") 3 ∷ [];
    files = [];
    inlines = [];
  };
  book = rows;
  overrides = record {
    lines = [];
    scopes = with_scope (with_scope (with_scope (with_scope [] 0 None) 2 (Some 0)) 1 (Some 2)) 3 (Some 0);
    defaults = [];
  };
}

-- the file with its `mode` set to this value, and one that does not set it
abbrev pub with_mode : Datum → World
with_mode value = world (file_with ((mode_name, value) ∷ []) ∷ [])

abbrev pub bare : World
bare = world (file_with [] ∷ [])

-- before the file is declared
abbrev pub undeclared : World
undeclared = world []

-- ---- statements at line 4; the target of an override is told in the log, and is this value

abbrev file_x : values.Reference
file_x = record { kind = codes "file"; title = codes "x" }

abbrev inner : Datum → Inner
inner value = record sample { target = λ r here. write_log [] (codes "target") >> pure value }

abbrev pub overrides : Datum → List (Attribute Expr) → Here → Step (Unit {0})
overrides value attributes here =
    override_rule (inner value) (override (reference (codes "File") (word (codes "x") ∷ []) 4) attributes 4) here

-- `File['x'] { .. }`
abbrev pub file_overrides : List (Attribute Expr) → Here → Step (Unit {0})
file_overrides attributes here = overrides (d.reference file_x) attributes here

-- `File { .. }`
abbrev pub file_defaults : List (Attribute Expr) → Here → Step (Unit {0})
file_defaults attributes here = defaults_rule (inner d.undef) (defaults (codes "File") attributes 4) here

-- ---- what they make of the file

abbrev mode_in : World → Option Datum
mode_in w = attribute_at w.overrides w.book 0 mode_name

abbrev mode_by : Outcome (Unit {0}) → Result (Option Datum) Fault
mode_by (Ok p) = Ok (mode_in p.1)
mode_by (Err f) = Err f

-- the file's mode after a statement is this
abbrev pub Makes : Step (Unit {0}) → World → Option Datum → Type 0
Makes step w value = mode_by (step w) ≡ Ok value

-- it is refused at this line
abbrev pub Refuses : Step (Unit {0}) → World → ℕ → What → Type 0
Refuses step w at details = mode_by (step w) ≡ Err (faults.fault (place at) details)

abbrev texts_by : Outcome (Unit {0}) → Result (List (List ℕ)) Fault
texts_by (Ok p) = Ok (map (λ l. l.text) p.1.log)
texts_by (Err f) = Err f

-- it leaves these texts in the log, in their order
abbrev pub Logs : Step (Unit {0}) → World → List (List ℕ) → Type 0
Logs step w texts = texts_by (step w) ≡ Ok texts

-- the mode of the file is set already
abbrev pub mode_set : What
mode_set = what.AlreadySet (subject.Reference file_x) mode_name

-- there is a default of the mode of files already
abbrev pub mode_default : What
mode_default = what.AlreadySet (subject.Kind (codes "file")) mode_name

-- the file without a mode is declared after a statement, and the lines on it are tested
abbrev declared_by : Outcome (Unit {0}) → Result (Unit {0}) Fault
declared_by (Ok p) = stands p.1.overrides (file_with [] ∷ []) 0
declared_by (Err f) = Err f

abbrev pub declared_after : Step (Unit {0}) → Result (Unit {0}) Fault
declared_after step = declared_by (step undeclared)
