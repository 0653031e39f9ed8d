-- What a resource expression does once its values are there, and the whole of it.
use Rattle.std.specs.Prelude.{ℕ, if◌then◌else◌, List, [], ◌∷◌, codes}
use Rattle.std.specs.Str.{bytes_eq}
use Rattle.pp_tree.specs.Names.{normal}
use Rattle.pp_tree.specs.declared.expr.Expr.{Expr}
use Rattle.pp_tree.specs.declared.resource.Resource.{Resource}
use Rattle.pp_tree.specs.declared.resource.ResourceForm.{ResourceForm}
use Rattle.pp_tree.specs.declared.resource.ResourceForm.TheVariants as mark
use Rattle.pp_values.specs.Datum.{Datum}
use Rattle.override_rules.specs.Meaning.{stands}
use Rattle.res_core.specs.declared.form.Form.{Form}
use Rattle.res_core.specs.declared.form.Form.TheVariants as form
use Rattle.eval_world.specs.Inner.{Inner}
use Rattle.eval_world.specs.Outcomes.{Step, ◌>>=◌, ◌>>◌, pure, answered}
use Rattle.eval_world.specs.declared.here.Here.{Here}
use Rattle.eval_resources.specs.Bodies.{bodies_rule}
use Rattle.eval_classes.specs.Listing.{class_declared}
use Rattle.eval_resources.specs.Checks.{class_tested, tested}
use Rattle.eval_resources.specs.Declaring.{declare_rule, set_from}
use Rattle.res_core.specs.declared.body.Body.{Body}

-- ---- one title

-- The tests, the declaration, the override lines that came before it. An instance of a define is not evaluated here.
unfoldable pub declared_rule : Form → List ℕ → Datum → Body → Here → Step (Unit {0})
declared_rule written kind title b here = do
  named ← (λ w. answered (tested w.environment kind title b) w)
  number ← declare_rule written named b here
  (λ w. answered (stands w.overrides w.book number) w)

-- A class: the tests, then it is declared with what the body gives, and evaluated at once.
unfoldable pub class_title_rule : Inner → Form → Datum → Body → Here → Step (Unit {0})
class_title_rule inner written title b here = do
  c ← (λ w. answered (class_tested w.environment written title b) w)
  class_declared inner c (set_from [] b.lines) b.at here.owner

unfoldable pub title_rule : Inner → Form → List ℕ → Datum → Body → Here → Step (Unit {0})
title_rule inner written kind title b here =
    if bytes_eq kind (codes "class") then class_title_rule inner written title b here
    else declared_rule written kind title b here

-- ---- all titles of all bodies, one after another

unfoldable pub titles_rule : Inner → Form → List ℕ → List Datum → Body → Here → Step (Unit {0})
titles_rule inner written kind [] b here = pure tt
titles_rule inner written kind (t ∷ ts) b here = do
  title_rule inner written kind t b here
  titles_rule inner written kind ts b here

unfoldable pub declare_bodies : Inner → Form → List ℕ → List Body → Here → Step (Unit {0})
declare_bodies inner written kind [] here = pure tt
declare_bodies inner written kind (b ∷ bs) here = do
  titles_rule inner written kind b.titles b here
  declare_bodies inner written kind bs here

-- ---- the expression

abbrev pub form_of : ResourceForm → Form
form_of mark.Plain = form.Plain
form_of mark.Virtual = form.Virtual
form_of mark.Exported = form.Exported

-- All bodies are evaluated before any test is made.
unfoldable pub resource_rule : Inner → Resource Expr → Here → Step (Unit {0})
resource_rule inner r here = do
  bodies ← bodies_rule inner r.bodies here
  declare_bodies inner (form_of r.form) (normal r.kind) bodies here
