-- Overrides: `File['/a'] { mode => '0600' }`.
use Rattle.std.specs.Prelude.{ℕ, List, [], ◌∷◌, codes}
use Rattle.pp_tree.specs.declared.expr.Expr.{Expr}
use Rattle.pp_tree.specs.declared.resource.Override.{Override}
use Rattle.pp_tree.specs.declared.resource.Reference as tree
use Rattle.pp_values.specs.Datum as d
use Rattle.pp_values.specs.Datum.{Datum}
use Rattle.pp_values.specs.declared.fault.What.TheVariants as what
use Rattle.pp_values.specs.declared.reference.Reference.{Reference}
use Rattle.override_rules.specs.Lines as overriding
use Rattle.override_rules.specs.Meaning.{line_added}
use Rattle.override_rules.specs.declared.override_line.Right.{Right}
use Rattle.res_core.specs.Lines.{Line}
use Rattle.attribute_lines.specs.Reading.{lines_from}
use Rattle.eval_classes.specs.Above.{right_of}
use Rattle.eval_forms.specs.Accesses.{accessed_rule}
use Rattle.eval_forms.specs.Types.{type_rule}
use Rattle.eval_world.specs.Inner.{Inner}
use Rattle.eval_world.specs.Outcomes.{Step, ◌>>=◌, ◌>>◌, pure}
use Rattle.eval_world.specs.Owners.{owner_at}
use Rattle.eval_world.specs.Worlds.{fault, with_overrides}
use Rattle.eval_world.specs.declared.here.Here.{Here}

-- ---- the target

-- `File['/a']`: access to the type, as in an expression
unfoldable pub target_rule : Inner → tree.Reference Expr → Here → Step Datum
target_rule inner r here = do
  kind ← type_rule r.kind r.at here
  accessed_rule inner kind r.args r.at here

-- ---- the lines

-- a line on this resource, that may do this
abbrev pub line_on : Reference → Line → Right → overriding.Line
line_on target l right =
    record { target = target; name = l.name; append = l.append; value = l.value; at = l.at; right = right }

-- It may do what the source of the code that it stands in may do. Where the target is declared already the line is
-- tested: F10, F15.
abbrev pub line_put : Reference → Line → Here → Step (Unit {0})
line_put target l here = λ w.
    with_overrides
    (line_added w.book (line_on target l (right_of w.environment (owner_at here.owner w.owners))) w.overrides) w

-- line by line, in order
unfoldable pub lines_put : Reference → List Line → Here → Step (Unit {0})
lines_put target [] here = pure tt
lines_put target (l ∷ ls) here = do
  line_put target l here
  lines_put target ls here

-- F11 where the target is no reference
abbrev pub put_on : Datum → List Line → ℕ → Here → Step (Unit {0})
put_on (d.reference r) ls at here = lines_put r ls here
put_on _ ls at here = fault here at (what.BadOperand (codes "[]"))

-- ---- the statement

-- The target, whose arguments stand one level further in than the lines; then all lines are evaluated before any of
-- them is put on the resource.
unfoldable pub override_rule : Inner → Override Expr → Here → Step (Unit {0})
override_rule inner o here = do
  target ← inner.target o.target here
  lines ← lines_from inner [] o.attributes here
  put_on target lines o.at here
