-- What the bodies of classes and instances mean. Both have parameters and a block. The names of a class were set when
-- it was listed, those of an instance are set here.
use Rattle.std.specs.Prelude.{ℕ, List, [], ◌++◌, Option, None, Some, option_map, unwrap_or, slice_get, Ok, codes}
use Rattle.pp_tree.specs.declared.expr.Expr.{Expr}
use Rattle.pp_tree.specs.declared.param.Param.{Param}
use Rattle.pp_tree.specs.declared.statement.Statement.{Statement}
use Rattle.pp_values.specs.Datum as d
use Rattle.pp_values.specs.Datum.{Datum}
use Rattle.pp_values.specs.Settings.{Setting}
use Rattle.pp_values.specs.declared.place.Place.{Place}
use Rattle.pp_values.specs.declared.reference.Reference.{Reference}
use Rattle.override_rules.specs.Names.{attributes_of}
use Rattle.res_book.specs.Rows.{item_at, reference_of, with_bound}
use Rattle.res_core.specs.AttributeViews.{set_in}
use Rattle.res_core.specs.declared.declared.Declared.{Declared}
use Rattle.scope_core.specs.declared.scope_kind.ScopeKind.TheVariants as kind
use Rattle.eval_world.specs.Inner.{Inner}
use Rattle.eval_world.specs.Outcomes.{Step, ◌>>=◌, ◌>>◌, pure, answered}
use Rattle.eval_world.specs.declared.here.Here.{Here}
use Rattle.eval_world.specs.Environment.{Environment}
use Rattle.eval_world.specs.declared.world.World.{World}
use Rattle.eval_classes.specs.declared.body_owner.BodyOwner.{BodyOwner}
use Rattle.eval_classes.specs.Definitions.{class_found, define_found, file_of, module_of}
use Rattle.eval_classes.specs.Entering.{enter_rule}
use Rattle.eval_classes.specs.OwnNames.{names_rule}
use Rattle.eval_classes.specs.Parameters.{Given, bind_from}

-- ---- what both have

-- the values of the parameters are kept
abbrev pub kept : ℕ → List Setting → World → World
kept number bound w = record w { book = with_bound number bound w.book }

abbrev pub keep : ℕ → List Setting → Step (Unit {0})
keep number bound = λ w. Ok (tt, kept number bound w)

-- The parameters, and then the block, one level further in. A block that is too deep is refused at the line of the
-- definition.
unfoldable pub body_rule : Inner → Given → Reference → Place → List (Param Expr) → List Statement → ℕ → ℕ → Here →
    Step Datum
body_rule inner given of at params block number line own = do
  bound ← bind_from inner given [] params of at own
  keep number bound
  inner.block block line own

-- ---- classes

-- the body of a class, of which this was declared here, and this was given for it
unfoldable pub class_body : Inner → List Setting → Reference → Place → ℕ → ℕ → Here → Step Datum
class_body inner given of at number line own = do
  c ← (λ w. answered (class_found w.environment of.title at) w)
  body_rule inner (set_in given) of at c.params c.block number line own

abbrev pub class_by : Inner → Option Declared → ℕ → ℕ → Here → Step Datum
class_by inner None number line own = pure d.undef
class_by inner (Some item) number line own =
    class_body inner item.item.attributes (reference_of item) item.at number line own

-- the class of this declaration
unfoldable pub class_rule : Inner → ℕ → ℕ → Here → Step Datum
class_rule inner number line own = λ w. class_by inner (item_at w.book number) number line own w

-- ---- instances

-- the same of an instance, whose names are set first
unfoldable pub instance_body : Inner → List Setting → Reference → Place → ℕ → ℕ → Here → Step Datum
instance_body inner given of at number line own = do
  f ← (λ w. answered (define_found w.environment of.kind at) w)
  (λ w. names_rule of.title (module_of w.environment of.kind) line own w)
  body_rule inner (set_in given) of at f.params f.block number line own

-- its attributes are given, overrides and default statements included
abbrev pub attributes_at : World → ℕ → List Setting
attributes_at w number = unwrap_or (option_map (attributes_of w.overrides) (slice_get w.book number)) []

abbrev pub instance_by : Inner → Option Declared → ℕ → ℕ → Here → Step Datum
instance_by inner None number line own = pure d.undef
instance_by inner (Some item) number line own =
    λ w. instance_body inner (attributes_at w number) (reference_of item) item.at number line own w

-- the instance of this declaration
unfoldable pub instance_rule : Inner → ℕ → ℕ → Here → Step Datum
instance_rule inner number line own = λ w. instance_by inner (item_at w.book number) number line own w

-- what the code of the instance belongs to
abbrev pub instance_owner : Environment → Declared → ℕ → BodyOwner
instance_owner m item number = record {
  file = file_of m item.item.kind;
  source = codes "define " ++ item.item.kind;
  resource = number;
}

-- .. in a scope and with an owner of its own; the scope of the declaration is its dynamic parent
unfoldable pub run_item : Inner → Declared → ℕ → Step (Unit {0})
run_item inner item number = do
  f ← (λ w. answered (define_found w.environment item.item.kind item.at) w)
  own ← (λ w. enter_rule kind.Instance 0 item.scope (instance_owner w.environment item number) w)
  inner.instance number f.at own
  pure tt

abbrev pub run_by : Inner → Option Declared → ℕ → Step (Unit {0})
run_by inner None number = pure tt
run_by inner (Some item) number = run_item inner item number

-- one instance is evaluated
unfoldable pub run_rule : Inner → ℕ → Step (Unit {0})
run_rule inner number = λ w. run_by inner (item_at w.book number) number w
