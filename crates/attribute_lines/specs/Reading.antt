-- What the lines within braces say: `mode => '0644', * => $more`.
use Rattle.std.specs.Prelude.{ℕ, Bool, false, List, [], ◌∷◌, ◌++◌, codes}
use Rattle.pp_tree.specs.declared.expr.Expr.{Expr}
use Rattle.pp_tree.specs.declared.resource.Attribute.{Attribute}
use Rattle.pp_tree.specs.declared.resource.Attribute.TheVariants as attribute
use Rattle.pp_tree.specs.declared.resource.Setting.{Setting}
use Rattle.pp_tree.specs.declared.resource.Splat.{Splat}
use Rattle.pp_values.specs.Datum as d
use Rattle.pp_values.specs.Datum.{Datum, Pair, pairs_of}
use Rattle.pp_values.specs.TextOf.{text_of}
use Rattle.pp_values.specs.declared.fault.What.TheVariants as what
use Rattle.pp_values.specs.declared.place.Place.{Place}
use Rattle.res_core.specs.Lines.{Line}
use Rattle.eval_world.specs.Inner.{Inner}
use Rattle.eval_world.specs.Outcomes.{Step, ◌>>=◌, pure}
use Rattle.eval_world.specs.Worlds.{fault, place_at}
use Rattle.eval_world.specs.declared.here.Here.{Here}

abbrev pub line : List ℕ → Bool → Datum → Place → Line
line name append value at = record { name = name; append = append; value = value; at = at }

-- `mode => '0644'`: one line more
unfoldable pub setting_rule : Inner → List Line → Setting Expr → Here → Step (List Line)
setting_rule inner done s here = do
  value ← inner.value s.value here
  (λ w. pure (done ++ line s.name s.append value (place_at w here s.at) ∷ []) w)

-- a line for a pair: a key that is an integer becomes its text
abbrev pub with_pair : List Line → Datum → Datum → Place → List Line
with_pair done key value at = done ++ line (text_of key) false value at ∷ []

-- a line for each pair of a splat, at the splat's place
unfoldable pub splatted : List Line → List Pair → Place → List Line
splatted done [] at = done
splatted done (p ∷ ps) at = splatted (with_pair done p.0 p.1 at) ps at

-- `* => $more`: F11 where it is no hash
abbrev pub splat_by : List Line → Datum → ℕ → Here → Step (List Line)
splat_by done (d.hash es) at here = λ w. pure (splatted done (pairs_of es) (place_at w here at)) w
splat_by done _ at here = fault here at (what.BadOperand (codes "*"))

unfoldable pub splat_rule : Inner → List Line → Splat Expr → Here → Step (List Line)
splat_rule inner done s here = do
  value ← inner.value s.value here
  splat_by done value s.at here

unfoldable pub attribute_rule : Inner → List Line → Attribute Expr → Here → Step (List Line)
attribute_rule inner done (attribute.Set s) here = setting_rule inner done s here
attribute_rule inner done (attribute.Splat s) here = splat_rule inner done s here

-- the lines in order, behind those that are there; those of a splat stand in its place
unfoldable pub lines_from : Inner → List Line → List (Attribute Expr) → Here → Step (List Line)
lines_from inner done [] here = pure done
lines_from inner done (a ∷ more) here = do
  next ← attribute_rule inner done a here
  lines_from inner next more here
