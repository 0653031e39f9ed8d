-- Templates: what is given to one, and its text.
use Rattle.std.specs.Prelude.{ℕ, Bool, true, false, ◌&&◌, ◌||◌, is_some, List, [], ◌∷◌, Option, None, Some, Ok, Err}
use Rattle.std.specs.Str.{bytes_eq}
use Rattle.epp_text.specs.Parsing.{template_of}
use Rattle.pp_tree.specs.declared.expr.Expr.{Expr}
use Rattle.pp_tree.specs.declared.param.Param.{Param}
use Rattle.pp_tree.specs.declared.statement.Statement.{Statement}
use Rattle.pp_tree.specs.declared.template.Template.{Template}
use Rattle.pp_values.specs.Datum as d
use Rattle.pp_values.specs.Datum.{Datum, Pair, pairs_of}
use Rattle.pp_values.specs.Faults as faults
use Rattle.pp_values.specs.Keys.{value_at}
use Rattle.pp_values.specs.declared.fault.What.TheVariants as what
use Rattle.pp_values.specs.declared.place.Place.{Place}
use Rattle.eval_calls.specs.Functions.{bind_rule, default_value}
use Rattle.eval_calls.specs.Renderings.{Rendering}
use Rattle.eval_calls.specs.VariableNames.{is_variable}
use Rattle.eval_world.specs.Inner.{Inner}
use Rattle.eval_world.specs.Outcomes.{Step, ◌>>=◌, ◌>>◌, pure, answered}
use Rattle.eval_world.specs.Worlds.{assign_at, with_rendered}
use Rattle.eval_world.specs.declared.here.Here.{Here}

-- ---- what is given

abbrev pub pairs_within : Datum → List Pair
pairs_within (d.hash es) = pairs_of es
pairs_within _ = []

-- the pairs of the hash, where one is given
abbrev pub pairs_given : Option Datum → List Pair
pairs_given None = []
pairs_given (Some v) = pairs_within v

-- a parameter has this name
unfoldable pub has_param : List (Param Expr) → List ℕ → Bool
has_param [] x = false
has_param (p ∷ ps) x = bytes_eq p.name x || has_param ps x

abbrev pub is_param : List (Param Expr) → Datum → Bool
is_param ps (d.text x) = has_param ps x
is_param ps _ = false

-- each key is the name of a parameter
unfoldable pub are_params : List (Param Expr) → List Pair → Bool
are_params ps [] = true
are_params ps (g ∷ gs) = is_param ps g.0 && are_params ps gs

-- the value of this name
abbrev pub given_for : List ℕ → List Pair → Option Datum
given_for x gs = value_at (d.text x) gs

abbrev pub has_value : Option Datum → Option Expr → Bool
has_value None default = is_some default
has_value (Some v) default = true

-- each parameter has a value or a default
unfoldable pub are_given : List Pair → List (Param Expr) → Bool
are_given gs [] = true
are_given gs (p ∷ ps) = has_value (given_for p.name gs) p.default && are_given gs ps

abbrev pub are_taken : List (Param Expr) → List Pair → Bool
are_taken ps gs = are_params ps gs && are_given gs ps

-- ---- parameters

-- Undef that is given counts as not given. A default is evaluated one level deeper than the call, as one of a function.
abbrev pub unless_undef : Inner → Datum → Option Expr → Here → Step Datum
unless_undef inner d.undef default own = default_value inner default own
unless_undef inner v default own = pure v

-- what is given, and else the default; Undef where there is neither
abbrev pub value_or_default : Inner → Option Datum → Option Expr → Here → Step Datum
value_or_default inner None default own = default_value inner default own
value_or_default inner (Some v) default own = unless_undef inner v default own

unfoldable pub param_rule : Inner → Param Expr → List Pair → Place → Here → Step (Unit {0})
param_rule inner p gs at own = do
  v ← value_or_default inner (given_for p.name gs) p.default own
  bind_rule inner p v at own

-- the parameters in order, each with its type, F8 at the call, and then its name
unfoldable pub params_from : Inner → List (Param Expr) → List Pair → Place → Here → Step (Unit {0})
params_from inner [] gs at own = pure tt
params_from inner (p ∷ ps) gs at own = do
  param_rule inner p gs at own
  params_from inner ps gs at own

-- F7 comes before anything is set
abbrev pub params_or_wrong : Bool → Inner → List (Param Expr) → List Pair → Rendering → Here → Step (Unit {0})
params_or_wrong true inner ps gs r own = params_from inner ps gs r.at own
params_or_wrong false inner ps gs r own = λ w. Err (faults.fault r.at (what.WrongArguments r.function))

-- ---- without parameters

abbrev pub set_where : Bool → List ℕ → Datum → Place → Here → Step (Unit {0})
set_where false x v at own = pure tt
set_where true x v at own = assign_at own x v at

-- a key that is the name of a variable
abbrev pub name_by : Datum → Datum → Place → Here → Step (Unit {0})
name_by (d.text x) v at own = set_where (is_variable x) x v at own
name_by _ v at own = pure tt

unfoldable pub names_from : List Pair → Place → Here → Step (Unit {0})
names_from [] at own = pure tt
names_from (g ∷ gs) at own = do
  name_by g.0 g.1 at own
  names_from gs at own

-- what a template is given in its scope
abbrev pub given_by : Inner → Option (List (Param Expr)) → List Pair → Rendering → Here → Step (Unit {0})
given_by inner None gs r own = names_from gs r.at own
given_by inner (Some ps) gs r own = params_or_wrong (are_taken ps gs) inner ps gs r own

-- ---- the text

-- what was emitted so far is put apart
abbrev pub begin : Step (List ℕ)
begin = λ w. Ok (w.rendered, with_rendered [] w)

-- it is back, and the value is what was emitted since
abbrev pub finish : List ℕ → Step Datum
finish before = λ w. Ok (d.text w.rendered, with_rendered before w)

-- The text that the statements of a template emit, which stand in a block one level deeper than the call: a template that
-- is too deep is refused at its first line. The block's value is nobody's.
unfoldable pub rendered_rule : Inner → List Statement → Here → Step Datum
rendered_rule inner b own = do
  before ← begin
  inner.block b 1 own
  finish before

-- the text by the template's tree
unfoldable pub written_rule : Inner → Template → Rendering → Here → Step Datum
written_rule inner t r own = do
  given_by inner t.params (pairs_given r.given) r own
  rendered_rule inner t.block own

-- A fault of the template's text is told when it is used, and comes behind those of the call's arguments.
unfoldable pub template_rule : Inner → Rendering → Here → Step Datum
template_rule inner r own = do
  t ← answered (template_of r.file r.text)
  written_rule inner t r own
