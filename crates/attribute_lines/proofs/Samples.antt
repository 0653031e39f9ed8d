-- Small trees, what they mean one level further in, and a world, for the examples here and in the crates above.
use Rattle.std.proofs.Common.{◌≡◌, ℕ, false, List, [], ◌∷◌, Result}
use Rattle.std.proofs.Common.{Ok, Err, map, codes}
use Rattle.std.specs.Prelude.{pos}
use Rattle.pp_tree.specs.Building.{expr_at, form_of, line_of, setting, splat}
use Rattle.pp_tree.specs.Layers.{FormLayer}
use Rattle.pp_tree.specs.declared.collector.Test.TheOpen.{Form-F}
use Rattle.pp_tree.specs.declared.expr.Expr.{Expr}
use Rattle.pp_tree.specs.declared.expr.Form.{out-Form}
use Rattle.pp_tree.specs.declared.expr.Form.TheVariants as f
use Rattle.pp_tree.specs.declared.resource.Attribute.{Attribute}
use Rattle.pp_tree.specs.declared.resource.Attribute.TheVariants as attribute
use Rattle.pp_values.specs.Datum as d
use Rattle.pp_values.specs.Datum.{Datum, Pair, data_of, entries_of}
use Rattle.pp_values.specs.Faults as faults
use Rattle.pp_values.specs.declared.fault.Fault.{Fault}
use Rattle.pp_values.specs.declared.fault.What.{What}
use Rattle.pp_values.specs.declared.fault.What.TheVariants as what
use Rattle.pp_values.specs.declared.place.Place.{Place}
use Rattle.res_core.specs.Lines.{Line}
use Rattle.eval_world.specs.Environment.{Environment}
use Rattle.eval_world.specs.Inner.{Inner}
use Rattle.eval_world.specs.Outcomes.{Outcome, Step, ◌>>◌, pure}
use Rattle.eval_world.specs.Worlds.{empty, fault, write_log}
use Rattle.eval_world.specs.declared.here.Here.{Here}
use Rattle.eval_world.specs.declared.world.World.{World}
use Rattle.attribute_lines.specs.Reading.{line}

-- ---- values

abbrev pub text : List ℕ → Datum
text t = d.text t

abbrev pub int : ℕ → Datum
int k = d.int (pos k)

abbrev pub list : List Datum → Datum
list ds = d.list (data_of ds)

abbrev pub hash : List Pair → Datum
hash ps = d.hash (entries_of ps)

-- `{ owner => root, 3 => c }`
abbrev pub more : Datum
more = hash ((text (codes "owner"), text (codes "root")) ∷ (int 3, text (codes "c")) ∷ [])

-- `[a, [b, [], 4]]`
abbrev pub nested : Datum
nested = list (text (codes "a") ∷ list (text (codes "b") ∷ list [] ∷ int 4 ∷ []) ∷ [])

-- ---- expressions; a text leaves a line in the log, which shows when it is evaluated

abbrev pub told : List ℕ → Expr
told t = expr_at 1 (f.Text t)

abbrev pub word : List ℕ → Expr
word t = expr_at 1 (f.Name t)

abbrev pub undef : Expr
undef = expr_at 1 f.Undef

abbrev pub default : Expr
default = expr_at 1 f.Default

-- it gives `more`
abbrev pub a_hash : Expr
a_hash = expr_at 1 (f.Hash [])

-- it gives `nested`
abbrev pub a_list : Expr
a_list = expr_at 1 (f.List [])

-- it has no value: F2 at this line
abbrev pub fails : ℕ → Expr
fails at = expr_at at (f.Variable (codes "x"))

abbrev pub meant : FormLayer → ℕ → Here → Step Datum
meant (Form-F.Text t) at here = write_log [] t >> pure (text t)
meant (Form-F.Name t) at here = pure (text t)
meant Form-F.Default at here = pure d.default
meant (Form-F.Hash ps) at here = pure more
meant (Form-F.List es) at here = pure nested
meant (Form-F.Variable x) at here = fault here at (what.UnknownVariable x)
meant _ at here = pure d.undef

abbrev pub sample : Inner
sample = record {
  value = λ e here. meant (out-Form (form_of e)) (line_of e) here;
  block = λ b at here. pure d.undef;
  words = λ x here. pure d.undef;
  target = λ r here. pure d.undef;
  class = λ n at here. pure d.undef;
  instance = λ n at here. pure d.undef;
}

-- ---- attributes

-- `name => value` at a line
abbrev pub sets : List ℕ → Expr → ℕ → Attribute Expr
sets name value at = attribute.Set (setting name false value at)

-- `* => value`
abbrev pub adds : Expr → ℕ → Attribute Expr
adds value at = attribute.Splat (splat value at)

-- ---- what the examples say of a step in the empty world

abbrev pub here : Here
here = record { scope = record { number = 0 }; owner = 0; typed = false }

abbrev pub place : ℕ → Place
place at = record { file = codes "manifests/site.pp"; line = at }

-- a line with a text
abbrev pub said : List ℕ → List ℕ → ℕ → Line
said name value at = line name false (text value) (place at)

abbrev pub texts : World → List (List ℕ)
texts w = map (λ l. l.text) w.log

-- its answer and the texts that were evaluated, in their order
abbrev pub seen_by : {A : Type 0} → Outcome A → Result (A × List (List ℕ)) Fault
seen_by (Ok p) = Ok (p.0, texts p.1)
seen_by (Err f) = Err f

abbrev pub seen : {A : Type 0} → Step A → Environment → Result (A × List (List ℕ)) Fault
seen step environment = seen_by (step (empty environment))

-- it gives this, and evaluates these texts
abbrev pub Tells : {A : Type 0} → Step A → A → List (List ℕ) → Type 0
Tells step a ts = (environment : Environment) → seen step environment ≡ Ok (a, ts)

-- it is refused at this line
abbrev pub Refuses : {A : Type 0} → Step A → ℕ → What → Type 0
Refuses step at details =
    (environment : Environment) → seen step environment ≡ Err (faults.fault (place at) details)
