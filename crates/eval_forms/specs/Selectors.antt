-- Selectors: the value of the first option that takes the control value.
use Rattle.std.specs.Prelude.{ℕ, Bool, false, if◌then◌else◌, Option, None, Some, find, List, [], ◌∷◌, codes}
use Rattle.expr_eval.specs.Testing.{option_takes}
use Rattle.pp_tree.specs.declared.expr.Expr.{Expr}
use Rattle.pp_tree.specs.declared.expr.Pair.{Pair}
use Rattle.pp_values.specs.Datum.{Datum}
use Rattle.eval_world.specs.Inner.{Inner}
use Rattle.eval_world.specs.Outcomes.{Step, ◌>>=◌, pure}
use Rattle.eval_world.specs.Shapes.{is_default}
use Rattle.eval_world.specs.declared.here.Here.{Here}
use Rattle.eval_forms.specs.Answering.{bad_operand}

-- the key of an option of a selector takes the control value
unfoldable pub key_rule : Inner → Datum → Expr → Here → Step Bool
key_rule inner control e here = if is_default e then pure false else (do
  option ← inner.value e here
  pure (option_takes option control))

-- the pair for what no option takes: its key is the word `default`, wherever it stands; of several the first
unfoldable pub default_pair : List (Pair Expr) → Option (Pair Expr)
default_pair = find (λ p. is_default p.key)

unfoldable pub unselected_rule : Inner → Option (Pair Expr) → ℕ → Here → Step Datum
unselected_rule inner None line here = bad_operand (codes "?") line here
unselected_rule inner (Some p) line here = inner.value p.value here

unfoldable pub selected_from : Inner → Datum → Option (Pair Expr) → List (Pair Expr) → ℕ → Here → Step Datum
selected_from inner control default [] line here = unselected_rule inner default line here
selected_from inner control default (p ∷ ps) line here = do
  takes ← key_rule inner control p.key here
  if takes then inner.value p.value here else selected_from inner control default ps line here

-- `? { 1 => 'a', default => 'b' }` behind a value; of the values that of the option taken is evaluated alone
unfoldable pub selected_rule : Inner → Datum → List (Pair Expr) → ℕ → Here → Step Datum
selected_rule inner control ps line here = selected_from inner control (default_pair ps) ps line here
