-- What a resource expression stands for in a chain with arrows: all that it declares.
use Rattle.std.specs.Prelude.{ℕ, if◌then◌else◌, List, [], ◌∷◌, ◌++◌, codes}
use Rattle.std.specs.Str.{bytes_eq}
use Rattle.pp_tree.specs.Names.{normal}
use Rattle.pp_tree.specs.declared.expr.Expr.{Expr}
use Rattle.pp_tree.specs.declared.resource.Resource.{Resource}
use Rattle.pp_values.specs.Datum as d
use Rattle.pp_values.specs.Datum.{Datum}
use Rattle.pp_values.specs.Kinds.{is_kind}
use Rattle.pp_values.specs.declared.reference.Reference.{Reference}
use Rattle.res_core.specs.declared.body.Body.{Body}
use Rattle.res_core.specs.declared.operand.Operand.{Operand}
use Rattle.res_core.specs.declared.operand.Operand.TheVariants as operand
use Rattle.eval_world.specs.Inner.{Inner}
use Rattle.eval_world.specs.Outcomes.{Step, ◌>>=◌, ◌>>◌, pure}
use Rattle.eval_world.specs.declared.here.Here.{Here}
use Rattle.eval_resources.specs.Bodies.{bodies_rule}
use Rattle.eval_resources.specs.Resources.{declare_bodies, form_of}

-- a class is called by its normal name
abbrev pub title_as : List ℕ → List ℕ → List ℕ
title_as kind title = if bytes_eq kind (codes "class") then normal title else title

abbrev pub referred : List ℕ → List ℕ → Reference
referred kind title = record { kind = kind; title = title_as kind title }

-- Only a text of a kind is declared.
abbrev pub title_operands : List ℕ → Datum → List Operand
title_operands kind (d.text title) =
    if is_kind kind then operand.One (referred kind title) ∷ [] else []
title_operands kind _ = []

unfoldable pub body_operands : List ℕ → List Operand → List Datum → List Operand
body_operands kind done [] = done
body_operands kind done (t ∷ ts) = body_operands kind (done ++ title_operands kind t) ts

-- what these bodies declare, behind what was declared before
unfoldable pub declared_operands : List ℕ → List Operand → List Body → List Operand
declared_operands kind done [] = done
declared_operands kind done (b ∷ bs) = declared_operands kind (body_operands kind done b.titles) bs

-- the resources are declared, and then they are what stands at this end of an arrow
unfoldable pub operands_rule : Inner → Resource Expr → Here → Step (List Operand)
operands_rule inner r here = do
  bodies ← bodies_rule inner r.bodies here
  declare_bodies inner (form_of r.form) (normal r.kind) bodies here
  pure (declared_operands (normal r.kind) [] bodies)
