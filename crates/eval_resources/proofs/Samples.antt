-- Bodies, a world in which `Class[main]` is declared, and what is declared behind it, for the examples.
use Rattle.std.proofs.Common.{◌≡◌, ℕ, false, List, [], ◌∷◌, None, Result, Ok, Err, codes}
use Rattle.pp_tree.specs.Building.{body}
use Rattle.pp_tree.specs.declared.expr.Expr.{Expr}
use Rattle.pp_tree.specs.declared.resource.Attribute.{Attribute}
use Rattle.pp_tree.specs.declared.resource.Body as tree
use Rattle.pp_values.specs.Datum as d
use Rattle.pp_values.specs.Faults as faults
use Rattle.pp_values.specs.declared.fault.Fault.{Fault}
use Rattle.pp_values.specs.declared.fault.What.{What}
use Rattle.res_book.specs.Rows.{new_row}
use Rattle.res_book.specs.declared.mode.Mode.{Mode}
use Rattle.res_book.specs.declared.mode.Mode.TheVariants as mode
use Rattle.res_book.specs.declared.row.Row.{Row}
use Rattle.res_core.specs.declared.declared.Declared.{Declared}
use Rattle.eval_world.specs.Environment.{Environment}
use Rattle.eval_world.specs.Outcomes.{Outcome, Step}
use Rattle.eval_world.specs.Worlds.{empty}
use Rattle.eval_world.specs.declared.owner.Owner.{Owner}
use Rattle.eval_world.specs.declared.world.World.{World}
use Rattle.override_rules.specs.declared.override_line.Right.TheVariants as right
use Rattle.attribute_lines.proofs.Samples.{place}

-- a title and attributes at a line
abbrev pub titled_by : Expr → List (Attribute Expr) → ℕ → tree.Body Expr
titled_by title attributes at = body title attributes at

-- ---- the world: `Class[main]`, which has the tags `class` and `main`, is declared

abbrev pub main : Declared
main = record {
  item = record {
    kind = codes "class";
    title = codes "main";
    attributes = [];
    tags = codes "class" ∷ codes "main" ∷ [];
  };
  at = place 1;
  scope = 0;
  container = None;
  class = codes "class main";
  known = [];
}

abbrev pub world : Environment → World
world environment = record (empty environment) { book = new_row main mode.Plain ∷ [] }

-- the same with an override line on `Notify[a]`, which came before it: at line 9
abbrev pub overridden : Environment → World
overridden environment = record (world environment) {
  overrides = record {
    lines = record {
      target = record { kind = codes "notify"; title = codes "a" };
      name = codes "mesage";
      append = false;
      value = d.text (codes "b");
      at = place 9;
      right = right.From (codes "class main") [];
    } ∷ [];
    scopes = [];
    defaults = [];
  };
}

-- where a class `a` is evaluated: what it declares stands in declaration 1
abbrev pub owner : Owner
owner = record { file = codes "modules/a/manifests/init.pp"; source = codes "class a"; resource = 1; scope = 3 }

-- `Class[a]`, which has a tag of its own
abbrev pub class_a : Mode → Row
class_a m = new_row (record main {
  item = record main.item { title = codes "a"; tags = codes "a" ∷ codes "class" ∷ codes "own" ∷ [] };
}) m

-- ---- what is declared behind `Class[main]`

abbrev pub book_by : {A : Type 0} → Outcome A → Result (List Row) Fault
book_by (Ok p) = Ok p.1.book
book_by (Err f) = Err f

abbrev pub Declares : Step (Unit {0}) → List Row → Type 0
Declares step rows = (environment : Environment)
    → book_by (step (world environment)) ≡ Ok (new_row main mode.Plain ∷ rows)

abbrev pub Fails : Step (Unit {0}) → ℕ → What → Type 0
Fails step at details = (environment : Environment)
    → book_by (step (world environment)) ≡ Err (faults.fault (place at) details)
