-- What the examples of calls are made of: values, arguments, blocks and lambdas.
use Rattle.std.proofs.Common.{ℕ, false, pos, List, [], ◌∷◌, map, Option, None}
use Rattle.std.proofs.Common.{Result, Ok, Err, codes}
use Rattle.pp_tree.specs.Building as tree
use Rattle.pp_tree.specs.Building.{form_of, line_of}
use Rattle.pp_tree.specs.Layers.{FormLayer}
use Rattle.pp_tree.specs.declared.collector.Test.TheOpen.{Form-F}
use Rattle.pp_tree.specs.declared.expr.Expr.{Expr}
use Rattle.pp_tree.specs.declared.expr.Form.{out-Form}
use Rattle.pp_tree.specs.declared.expr.Form.TheVariants as form
use Rattle.pp_tree.specs.declared.operators.PrefixOperator.TheVariants as prefix
use Rattle.pp_tree.specs.declared.param.Param.{Param}
use Rattle.pp_values.specs.Datum as d
use Rattle.pp_values.specs.Datum.{Datum, Pair, data_of, entries_of}
use Rattle.pp_values.specs.Faults as faults
use Rattle.pp_values.specs.TextOf.{text_of}
use Rattle.pp_values.specs.declared.fault.Fault.{Fault}
use Rattle.pp_values.specs.declared.fault.What.{What}
use Rattle.pp_values.specs.declared.fault.What.TheVariants as what
use Rattle.pp_values.specs.declared.place.Place.{Place}
use Rattle.eval_world.specs.Inner.{Inner}
use Rattle.eval_world.specs.Outcomes.{Outcome, Step, ◌>>=◌, ◌>>◌, pure}
use Rattle.eval_world.specs.Worlds.{empty, fault, read, write_log}
use Rattle.eval_world.specs.declared.here.Here.{Here}
use Rattle.eval_world.specs.Environment.{Environment}
use Rattle.eval_calls.specs.Calls.{invoked}
use Rattle.eval_calls.specs.Lambdas.{Opened}

abbrev pub text : List ℕ → Datum
text t = d.text t

abbrev pub list : List Datum → Datum
list ds = d.list (data_of ds)

abbrev pub hash : List Pair → Datum
hash ps = d.hash (entries_of ps)

abbrev pub one : Datum
one = d.int (pos 1)

abbrev pub x : List ℕ
x = codes "x"

abbrev pub y : List ℕ
y = codes "y"

-- the main manifest's statements
abbrev pub top : Here
top = record { scope = record { number = 0 }; owner = 0; typed = false }

abbrev pub at : ℕ → Place
at line = record { file = codes "manifests/site.pp"; line = line }

abbrev pub refuses : {A : Type 0} → ℕ → What → Result A Fault
refuses line w = Err (faults.fault (at line) w)

-- A text as an argument writes itself into the log, so that order shows; `default` gives the value that an example is
-- about, as does what stands behind `*`; what else stands there is refused.
abbrev pub value_by : Datum → FormLayer → ℕ → Here → Step Datum
value_by given (Form-F.Text t) line here = do
  write_log (codes "argument") t
  pure (text t)
value_by given Form-F.Default line here = pure given
value_by given (Form-F.Prefix o e) line here = pure given
value_by given _ line here = fault here line (what.BadOperand (codes "argument"))

abbrev pub inner : Datum → (ℕ → Here → Step Datum) → Inner
inner given block = record {
  value = λ e here. value_by given (out-Form (form_of e)) (line_of e) here;
  block = λ b line here. block line here;
  words = λ e here. pure d.undef;
  target = λ r here. pure d.undef;
  class = λ n line here. pure d.undef;
  instance = λ n line here. pure d.undef;
}

-- blocks: `notice $x` with the value of `$x`, `$y` alone, and one that fails
abbrev pub notice_x : ℕ → Here → Step Datum
notice_x line here = do
  v ← read here x line
  write_log (codes "block") (text_of v)
  pure v

abbrev pub notice_x_give_y : ℕ → Here → Step Datum
notice_x_give_y line here = do
  v ← read here x line
  write_log (codes "block") (text_of v)
  read here y line

abbrev pub fails : ℕ → Here → Step Datum
fails line here = fault here line (what.Failed (codes "block"))

-- an outcome's value, and the texts that stand in the log after it
abbrev pub shown : Outcome Datum → Result (Datum × List (List ℕ)) Fault
shown (Ok p) = Ok (p.0, map (λ l. l.text) p.1.log)
shown (Err f) = Err f

-- a site without definitions, files and data
abbrev pub nothing_defined : Environment
nothing_defined = record { main = record { statements = []; definitions = [] }; files = []; site_data = [] }

abbrev pub run : Step Datum → Environment → Result (Datum × List (List ℕ)) Fault
run p m = shown (p (empty m))

abbrev pub written : List ℕ → Expr
written t = tree.expr_at 5 (form.Text t)

abbrev pub given : Expr
given = tree.expr_at 5 form.Default

abbrev pub refused : Expr
refused = tree.expr_at 6 form.Undef

abbrev pub spliced : Expr
spliced = tree.expr_at 5 (form.Prefix prefix.Splat given)

abbrev pub plain : List ℕ → ℕ → Param Expr
plain name line = tree.param None name None line

abbrev pub takes : List (Param Expr) → Opened
takes params = record { params = params; block = [] }

abbrev pub takes_x : Opened
takes_x = takes (plain x 7 ∷ [])

abbrev pub takes_xy : Opened
takes_xy = takes (plain x 7 ∷ plain y 8 ∷ [])

-- a call at line 3 of these arguments
abbrev pub calls : Datum → (ℕ → Here → Step Datum) → List ℕ → List Expr → Option Opened → Step Datum
calls value block f arguments l = invoked (inner value block) f arguments l 3 top
