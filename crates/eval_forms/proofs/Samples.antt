-- Small trees, and what they mean one level further in, for the examples.
use Rattle.std.specs.Prelude.{◌≡◌, ℕ, Bool, List, [], ◌∷◌, ◌++◌, length, Ok, Err, pos, codes}
use Rattle.pp_tree.specs.Building.{Block, expr_at, form_of, line_of, words}
use Rattle.pp_tree.specs.Layers.{FormLayer}
use Rattle.pp_tree.specs.declared.collector.Test.TheOpen.{Form-F}
use Rattle.pp_tree.specs.declared.expr.Expr.{Expr}
use Rattle.pp_tree.specs.declared.expr.Form.{out-Form}
use Rattle.pp_tree.specs.declared.expr.Form.TheVariants as f
use Rattle.pp_tree.specs.declared.operators.PrefixOperator.TheVariants as prefix
use Rattle.pp_tree.specs.declared.statement.Statement.{Statement}
use Rattle.pp_tree.specs.declared.statement.Statement.TheVariants as s
use Rattle.pp_values.specs.Datum as d
use Rattle.pp_values.specs.Datum.{Datum, Pair, data_of, entries_of}
use Rattle.pp_values.specs.Faults as faults
use Rattle.pp_values.specs.Sort as n
use Rattle.pp_values.specs.declared.fault.What.{What}
use Rattle.pp_values.specs.declared.fault.What.TheVariants as what
use Rattle.eval_world.specs.Inner.{Inner}
use Rattle.eval_world.specs.Outcomes.{Step, ◌>>◌, pure}
use Rattle.eval_world.specs.Worlds.{fault, place_at, write_log}
use Rattle.eval_world.specs.declared.here.Here.{Here}
use Rattle.eval_world.specs.declared.world.World.{World}

-- ---- values

abbrev pub text : List ℕ → Datum
text t = d.text t

abbrev pub int : ℕ → Datum
int k = d.int (pos k)

abbrev pub list : List Datum → Datum
list ds = d.list (data_of ds)

abbrev pub hash : List Pair → Datum
hash ps = d.hash (entries_of ps)

-- the type `Any`
abbrev pub any : Datum
any = d.kind (n.of n.any n.none)

-- the type `Undef`
abbrev pub undef_type : Datum
undef_type = d.kind (n.of n.undef n.none)

-- ---- expressions

abbrev pub undef : Expr
undef = expr_at 1 f.Undef

abbrev pub flag : Bool → Expr
flag b = expr_at 1 (f.Flag b)

abbrev pub default : Expr
default = expr_at 1 f.Default

abbrev pub num : ℕ → Expr
num k = expr_at 1 (f.Number (pos k))

abbrev pub word : List ℕ → Expr
word t = expr_at 1 (f.Name t)

-- it leaves a line in the log, which shows when it is evaluated
abbrev pub told : List ℕ → Expr
told t = expr_at 1 (f.Text t)

-- `$x` and `$y`, which have no value: at lines 8 and 9
abbrev pub x : Expr
x = expr_at 8 (f.Variable (codes "x"))

abbrev pub y : Expr
y = expr_at 9 (f.Variable (codes "y"))

-- `[1, 2]`
abbrev pub one_two : Expr
one_two = expr_at 1 (f.List (num 1 ∷ num 2 ∷ []))

-- `{ a => 1 }`, of whose pairs the samples look at none
abbrev pub a_hash : Expr
a_hash = expr_at 1 (f.Hash [])

-- `*[1, 2]`
abbrev pub spliced : Expr
spliced = expr_at 1 (f.Prefix prefix.Splat one_two)

-- `(default)`
abbrev pub in_parentheses : Expr
in_parentheses = expr_at 1 (f.Parentheses default)

-- `Any`
abbrev pub any_name : Expr
any_name = expr_at 1 (f.Type (codes "Any"))

-- ---- blocks: of so many statements, which is what they are told apart by

abbrev pub statement : Statement
statement = s.Words (words (codes "notice") [] 1)

abbrev pub first : Block
first = statement ∷ []

abbrev pub second : Block
second = statement ∷ statement ∷ []

abbrev pub third : Block
third = statement ∷ statement ∷ statement ∷ []

-- what a block gives: its size, and the line that it belongs to
abbrev pub ran : Block → ℕ → Datum
ran b line = list (int (length b) ∷ int line ∷ [])

-- ---- what stands further in

abbrev pub meant : FormLayer → ℕ → Here → Step Datum
meant Form-F.Undef line here = pure d.undef
meant (Form-F.Flag b) line here = pure (d.flag b)
meant Form-F.Default line here = pure d.default
meant (Form-F.Number z) line here = pure (d.int z)
meant (Form-F.Name t) line here = pure (text t)
meant (Form-F.Text t) line here = write_log [] t >> pure (text t)
meant (Form-F.Variable name) line here = fault here line (what.UnknownVariable name)
meant (Form-F.Type t) line here = pure any
meant (Form-F.Hash es) line here = pure (hash ((text (codes "a"), int 1) ∷ []))
meant (Form-F.Parentheses e) line here = pure d.default
meant _ line here = pure (list (int 1 ∷ int 2 ∷ []))

abbrev pub sample : Inner
sample = record {
  value = λ e here. meant (out-Form (form_of e)) (line_of e) here;
  block = λ b line here. pure (ran b line);
  words = λ said here. pure d.undef;
  target = λ r here. pure d.undef;
  class = λ n line here. pure d.undef;
  instance = λ n line here. pure d.undef;
}

-- ---- what the examples say of a form; each is evaluated at line 7

-- the world with these lines at the end of the log
abbrev pub logged : List (List ℕ) → World → World
logged [] w = w
logged (t ∷ ts) w = logged ts (record w { log = w.log ++ record { level = []; text = t } ∷ [] })

-- it gives this value, and evaluates texts in this order
abbrev pub Tells : (Here → Step Datum) → Datum → List (List ℕ) → Type 0
Tells step d texts = (here : Here) (w : World) → step here w ≡ Ok (d, logged texts w)

-- it gives this value, and changes nothing
abbrev pub Makes : (Here → Step Datum) → Datum → Type 0
Makes step d = Tells step d []

-- it is refused, with this fault at this line
abbrev pub Refuses : (Here → Step Datum) → ℕ → What → Type 0
Refuses step line details = (here : Here) (w : World) → step here w ≡ Err (faults.fault (place_at w here line) details)

-- `$x` is asked for and has no value
abbrev pub RefusesX : (Here → Step Datum) → Type 0
RefusesX step = Refuses step 8 (what.UnknownVariable (codes "x"))

abbrev pub RefusesY : (Here → Step Datum) → Type 0
RefusesY step = Refuses step 9 (what.UnknownVariable (codes "y"))

-- an operator does not take what it is given
abbrev pub RefusesOperand : (Here → Step Datum) → List ℕ → Type 0
RefusesOperand step operator = Refuses step 7 (what.BadOperand operator)
