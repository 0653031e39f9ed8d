-- Templates at worked examples: how deep their parts stand, and what statements emit. Each line holds by computing.
use Rattle.std.proofs.Common.{◌≡◌, List, [], ◌∷◌, None, Some, Ok, Err, refl, codes}
use Rattle.pp_tree.specs.Building.{expr_at, param}
use Rattle.pp_tree.specs.declared.expr.Expr.{Expr}
use Rattle.pp_tree.specs.declared.expr.Form as forms
use Rattle.pp_tree.specs.declared.expr.Form.TheVariants as f
use Rattle.pp_tree.specs.declared.param.Param.{Param}
use Rattle.pp_tree.specs.declared.statement.Statement as statements
use Rattle.pp_tree.specs.declared.statement.Statement.TheVariants as statement
use Rattle.pp_tree.specs.declared.template.Template.{Template}
use Rattle.pp_values.specs.Datum as d
use Rattle.pp_values.specs.Faults as faults
use Rattle.pp_values.specs.declared.fault.What.TheVariants as what
use Rattle.pp_values.specs.declared.place.Place.{Place}
use Rattle.class_eval.specs.Evaluating.{at_depth}
use Rattle.class_eval.specs.Meaning.{within, value_rule}
use Rattle.class_eval.specs.Statements.{emitted_rule, statement_rule, statements_from}
use Rattle.eval_calls.specs.Functions.{bind_rule, default_rule, defaults_from}
use Rattle.eval_calls.specs.Renderings.{Rendering}
use Rattle.eval_calls.specs.Templates.{are_given, are_params, has_param, param_rule, params_from, rendered_rule}
use Rattle.eval_calls.specs.Templates.{written_rule}
use Rattle.eval_world.specs.Inner.{Inner}
use Rattle.eval_world.specs.Outcomes.{Step, ◌>>◌, pure}
use Rattle.eval_world.specs.Worlds.{assign, emit, place_at, top}
use Rattle.eval_world.specs.declared.world.World.{World}

-- ---- depth

abbrev pure_nothing : Step (Unit {0})
pure_nothing = pure tt

-- `| $x = 'v' |`, where the default is on line 2, and nothing behind it
abbrev x : Param Expr
x = param None (codes "x") (Some (expr_at 2 (f.Text (codes "v")))) 1

abbrev template : Template
template = record { params = Some (x ∷ []); block = [] }

abbrev at : Place
at = record { file = codes "manifests/site.pp"; line = 3 }

abbrev call : Rendering
call = record { file = codes "t"; text = []; given = None; function = codes "epp"; at = at }

-- What a call at depth 1,000 has within it stands too deep: the default, as one of a function does, and else the block.
default_too_deep : (w : World) → written_rule (at_depth 1001) template call top w
    ≡ Err (faults.fault (place_at w top 2) what.DepthLimit)
unfolding written_rule are_given are_params params_from param_rule within
default_too_deep w = refl

function_default_too_deep : (w : World) → defaults_from (at_depth 1001) (x ∷ []) at top w
    ≡ Err (faults.fault (place_at w top 2) what.DepthLimit)
unfolding defaults_from default_rule within
function_default_too_deep w = refl

block_too_deep : (w : World) → rendered_rule (at_depth 1001) [] top w
    ≡ Err (faults.fault (place_at w top 1) what.DepthLimit)
unfolding rendered_rule within
block_too_deep w = refl

-- A call at depth 999 has both at depth 1,000, and what is emitted between the statements of the block.
default_at_last_depth : (w : World) → params_from (at_depth 1000) (x ∷ []) [] at top w
    ≡ (assign top (codes "x") (d.text (codes "v")) 1 >> pure_nothing) w
unfolding params_from param_rule bind_rule within value_rule forms.out-Form denote.Hole.Carrier.out
default_at_last_depth w = refl

block_at_last_depth : (w : World) → rendered_rule (at_depth 1000) (statement.Emit (codes "a") ∷ []) top w
    ≡ Ok (d.text (codes "a"), w)
unfolding rendered_rule within statements_from statement_rule emit statements.out-Statement denote.Hole.Carrier.out
block_at_last_depth w = refl

-- ---- what statements emit

-- each expression has the value `v`
abbrev says_v : Inner
says_v = record {
  value = λ e here. pure (d.text (codes "v"));
  block = λ b line here. pure d.undef;
  words = λ x here. pure d.undef;
  target = λ r here. pure d.undef;
  class = λ n line here. pure d.undef;
  instance = λ n line here. pure d.undef;
}

abbrev one : Expr
one = expr_at 2 f.Undef

-- what was emitted before stays as it was
text : (w : World) → emitted_rule says_v
    (statement.Emit (codes "a") ∷ statement.EmitValue one ∷ statement.Emit (codes "b") ∷ []) top w
    ≡ Ok (d.text (codes "avb"), w)
unfolding emitted_rule statements_from statement_rule emit statements.out-Statement denote.Hole.Carrier.out
text w = refl

no_text : (w : World) → emitted_rule (at_depth 1000) [] top w ≡ Ok (d.text [], w)
unfolding emitted_rule statements_from
no_text w = refl
