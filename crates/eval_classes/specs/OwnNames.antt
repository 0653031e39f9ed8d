-- The variables that the body of a class or of an instance has by itself.
use Rattle.std.specs.Prelude.{ℕ, List, codes}
use Rattle.pp_values.specs.Datum as d
use Rattle.eval_world.specs.Outcomes.{Step, ◌>>=◌, ◌>>◌}
use Rattle.eval_world.specs.Worlds.{assign}
use Rattle.eval_world.specs.declared.here.Here.{Here}

abbrev pub name_rule : List ℕ → List ℕ → ℕ → Here → Step (Unit {0})
name_rule name text line own = assign own name (d.text text) line

-- `title`, `name` and `module_name`
unfoldable pub names_rule : List ℕ → List ℕ → ℕ → Here → Step (Unit {0})
names_rule title home line own = do
  name_rule (codes "title") title line own
  name_rule (codes "name") title line own
  name_rule (codes "module_name") home line own
