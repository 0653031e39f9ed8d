-- Parameters with types at worked examples. Each line with `refl` holds by computing.
use Rattle.std.proofs.Common.{◌≡◌, ℕ, Bool, true, false, List, [], ◌∷◌, Option, None, Some, Result, Ok, Err, pos, refl, codes}
use Rattle.expr_eval.specs.TypeValues.{bare_type}
use Rattle.pp_tree.specs.Building.{expr_at, form_of, line_of, param}
use Rattle.pp_tree.specs.Layers.{FormLayer}
use Rattle.pp_tree.specs.declared.collector.Test.TheOpen.{Form-F}
use Rattle.pp_tree.specs.declared.expr.Expr.{Expr}
use Rattle.pp_tree.specs.declared.expr.Form.{out-Form}
use Rattle.pp_tree.specs.declared.expr.Form.TheVariants as f
use Rattle.pp_types.specs.Names.{data_type_named}
use Rattle.pp_values.specs.Datum as d
use Rattle.pp_values.specs.Datum.{Datum}
use Rattle.pp_values.specs.Settings.{Setting}
use Rattle.pp_values.specs.declared.fault.Fault.{Fault}
use Rattle.pp_values.specs.declared.fault.What.TheVariants as what
use Rattle.pp_values.specs.declared.reference.Reference.{Reference}
use Rattle.scope_core.specs.Scopes as scopes
use Rattle.eval_world.specs.Inner.{Inner}
use Rattle.eval_world.specs.Outcomes.{Outcome, Step, ◌>>=◌, ◌>>◌, pure}
use Rattle.eval_world.specs.Owners.{owner_at}
use Rattle.eval_world.specs.Worlds.{assign, fault}
use Rattle.eval_world.specs.declared.here.Here.{Here}
use Rattle.eval_classes.specs.ParameterTypes.{has_type}
use Rattle.eval_classes.specs.Parameters.{bind_rule, data_or_default, value_rule}
use Rattle.eval_classes.proofs.Samples.{a, b, place, refuses, sample, site_of, top, world}

-- the name of a type is that type within the type of a parameter, and is refused elsewhere; a text is itself
abbrev named : Bool → List ℕ → ℕ → Here → Step Datum
named true t line here = pure (bare_type t)
named false t line here = fault here line (what.Failed t)

abbrev meant : FormLayer → ℕ → Here → Step Datum
meant (Form-F.Type t) line here = named here.typed t line here
meant (Form-F.Text t) line here = pure (d.text t)
meant _ line here = pure d.undef

abbrev typing : Inner
typing = record sample { value = λ e here. meant (out-Form (form_of e)) (line_of e) here }

abbrev one : Datum
one = d.int (pos 1)

-- the parameters that an instance has then
abbrev seen : Outcome (List Setting) → Result (List Setting) Fault
seen (Ok p) = Ok p.0
seen (Err x) = Err x

abbrev instance : Reference
instance = record { kind = a; title = b }

-- the parameter `x` at line 3 of the instance that was declared at line 7, with the type at line 4
abbrev bound : Expr → Option Datum → Option Expr → Result (List Setting) Fault
bound kind given default =
    seen (bind_rule typing (λ _. given) [] (param (Some kind) (codes "x") default 3) instance (place 7) top
    (world (site_of [] [])))

abbrev of_type : List ℕ → Expr
of_type name = expr_at 4 (f.Type name)

-- the value that was given, or the default, is of the type, else F8 where the instance was declared
tested : (bound (of_type (codes "Integer")) (Some one) None ≡ Ok ((codes "x", one) ∷ []))
    × (bound (of_type (codes "Integer")) (Some (d.text b)) None ≡ refuses 7 (what.TypeMismatch (codes "x")))
    × (bound (of_type (codes "NotUndef")) None (Some (expr_at 5 (f.Text b))) ≡ Ok ((codes "x", d.text b) ∷ []))
    × (bound (of_type (codes "Integer")) None (Some (expr_at 5 (f.Text b)))
    ≡ refuses 7 (what.TypeMismatch (codes "x")))
    × (bound (of_type (codes "Undef")) None (Some (expr_at 5 f.Undef)) ≡ Ok ((codes "x", d.undef) ∷ []))
unfolding bind_rule value_rule data_or_default has_type assign scopes.assign data_type_named owner_at out-Form
    denote.Hole.Carrier.out
tested = (refl, refl, refl, refl, refl)

-- a value that lacks comes before the type, and F11 stands at the type's line
refused : (bound (expr_at 4 (f.Text a)) None None ≡ refuses 7 (what.MissingParameter instance (codes "x")))
    × (bound (expr_at 4 (f.Text a)) (Some one) None ≡ refuses 4 (what.BadOperand (codes "=~")))
unfolding bind_rule value_rule data_or_default has_type owner_at out-Form denote.Hole.Carrier.out
refused = (refl, refl)

-- the type stands within the type of a parameter, the default does not
places : bound (of_type (codes "Integer")) None (Some (expr_at 5 (f.Type a))) ≡ refuses 5 (what.Failed a)
unfolding bind_rule value_rule data_or_default owner_at out-Form denote.Hole.Carrier.out
places = refl
