-- What shows in how an expression is written, before anything is evaluated.
use Rattle.std.specs.Prelude.{Bool, true, false, Option, Some, None, List, [], ◌∷◌}
use Rattle.pp_tree.specs.Building.{form_of}
use Rattle.pp_tree.specs.Layers.{FormLayer}
use Rattle.pp_tree.specs.declared.collector.Test.TheOpen.{Form-F}
use Rattle.pp_tree.specs.declared.expr.Expr.{Expr}
use Rattle.pp_tree.specs.declared.expr.Form.{out-Form}
use Rattle.pp_tree.specs.declared.operators.PrefixOperator.{PrefixOperator}
use Rattle.pp_tree.specs.declared.operators.PrefixOperator.TheVariants as prefix

abbrev pub splices : PrefixOperator → Bool
splices prefix.Splat = true
splices _ = false

abbrev pub is_splat_by : FormLayer → Bool
is_splat_by (Form-F.Prefix o e) = splices o
is_splat_by _ = false

-- it is written with `*`
abbrev pub is_splat : Expr → Bool
is_splat e = is_splat_by (out-Form (form_of e))

abbrev pub is_default_by : FormLayer → Bool
is_default_by Form-F.Default = true
is_default_by _ = false

-- it is the word `default`, and not one in parentheses or a value that is `default`
abbrev pub is_default : Expr → Bool
is_default e = is_default_by (out-Form (form_of e))

-- the one of a list of one
abbrev pub only : {T : Type 0} → List T → Option T
only [] = None
only (x ∷ []) = Some x
only (x ∷ y ∷ more) = None
