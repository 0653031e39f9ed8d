-- Default statements: `File { mode => '0644' }`.
use Rattle.std.specs.Prelude.{ℕ, List, [], ◌∷◌, Option, None, Some}
use Rattle.pp_tree.specs.Names.{normal}
use Rattle.pp_tree.specs.declared.expr.Expr.{Expr}
use Rattle.pp_tree.specs.declared.resource.Attribute.{Attribute}
use Rattle.pp_tree.specs.declared.resource.Defaults.{Defaults}
use Rattle.pp_values.specs.Kinds.{kind_of}
use Rattle.pp_values.specs.declared.fault.What.TheVariants as what
use Rattle.override_rules.specs.Meaning.{default_added}
use Rattle.res_core.specs.Lines.{Line}
use Rattle.attribute_lines.specs.Reading.{lines_from}
use Rattle.eval_world.specs.Inner.{Inner}
use Rattle.eval_world.specs.Outcomes.{Step, ◌>>=◌, ◌>>◌, pure}
use Rattle.eval_world.specs.Owners.{owner_at}
use Rattle.eval_world.specs.Worlds.{fault, with_overrides}
use Rattle.eval_world.specs.declared.here.Here.{Here}

-- A default of the scope of the owner whose code this is: that of a lambda counts as the one that the lambda is within.
-- F15, at the line, where that scope has a default of this kind and name. Undef is kept, and hides what is further out.
abbrev pub default_put : List ℕ → Line → Here → Step (Unit {0})
default_put kind l here = λ w.
    with_overrides (default_added kind (owner_at here.owner w.owners).scope l.name l.value l.at w.overrides) w

-- line by line, in order
unfoldable pub defaults_put : List ℕ → List Line → Here → Step (Unit {0})
defaults_put kind [] here = pure tt
defaults_put kind (l ∷ ls) here = do
  default_put kind l here
  defaults_put kind ls here

-- all lines are evaluated before any is a default
unfoldable pub lines_put : Inner → List ℕ → List (Attribute Expr) → Here → Step (Unit {0})
lines_put inner kind attributes here = do
  lines ← lines_from inner [] attributes here
  defaults_put kind lines here

abbrev pub kind_put : Inner → Option (List ℕ) → Defaults Expr → Here → Step (Unit {0})
kind_put inner None d here = fault here d.at what.Syntax
kind_put inner (Some kind) d here = lines_put inner kind d.attributes here

-- The kind is that of the name in lower case, without a leading `::`, whether or not there is one. No text of the
-- grammar has a name here that is none of a kind.
unfoldable pub defaults_rule : Inner → Defaults Expr → Here → Step (Unit {0})
defaults_rule inner d here = kind_put inner (kind_of (normal d.kind)) d here
