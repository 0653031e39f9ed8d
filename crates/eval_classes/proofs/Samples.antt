-- Small sites, what their parts mean one level further in, and a world, for the examples.
use Rattle.std.proofs.Common.{◌≡◌, ℕ, false, List, [], ◌∷◌, Option, None, Some, Result, Ok, Err, map, codes}
use Rattle.std.specs.Prelude.{option_map}
use Rattle.pp_tree.specs.Building.{expr_at, form_of, line_of, name_at, class_of, define_of, param}
use Rattle.pp_tree.specs.Layers.{FormLayer}
use Rattle.pp_tree.specs.Tables.{Entries}
use Rattle.pp_tree.specs.declared.collector.Test.TheOpen.{Form-F}
use Rattle.pp_tree.specs.declared.definition.Class.{Class}
use Rattle.pp_tree.specs.declared.definition.Define.{Define}
use Rattle.pp_tree.specs.declared.definition.Definition.{Definition}
use Rattle.pp_tree.specs.declared.definition.Definition.TheVariants as definition
use Rattle.pp_tree.specs.declared.definition.Name.{Name}
use Rattle.pp_tree.specs.declared.expr.Expr.{Expr}
use Rattle.pp_tree.specs.declared.expr.Form.{out-Form}
use Rattle.pp_tree.specs.declared.expr.Form.TheVariants as f
use Rattle.pp_tree.specs.declared.file.File.{File}
use Rattle.pp_tree.specs.declared.manifest_file.ManifestFile.{ManifestFile}
use Rattle.pp_tree.specs.declared.param.Param.{Param}
use Rattle.pp_tree.specs.declared.table.DefinitionName.{DefinitionName}
use Rattle.pp_tree.specs.declared.table.DefinitionName.TheVariants.{Code}
use Rattle.pp_values.specs.Datum as d
use Rattle.pp_values.specs.Datum.{Datum}
use Rattle.pp_values.specs.Faults as faults
use Rattle.pp_values.specs.declared.fault.Fault.{Fault}
use Rattle.pp_values.specs.declared.fault.What.{What}
use Rattle.pp_values.specs.declared.fault.What.TheVariants as what
use Rattle.pp_values.specs.declared.place.Place.{Place}
use Rattle.res_book.specs.Rows.{new_row}
use Rattle.res_book.specs.declared.mode.Mode.TheVariants as mode
use Rattle.res_book.specs.declared.row.Row.{Row}
use Rattle.res_core.specs.declared.declared.Declared.{Declared}
use Rattle.eval_world.specs.Inner.{Inner}
use Rattle.eval_world.specs.Environment.{Environment}
use Rattle.eval_world.specs.Outcomes.{Outcome, Step, ◌>>=◌, ◌>>◌, pure}
use Rattle.eval_world.specs.Worlds.{empty, fault, read, write_log}
use Rattle.eval_world.specs.declared.here.Here.{Here}
use Rattle.eval_world.specs.declared.world.World.{World}

-- ---- definitions

abbrev pub a : List ℕ
a = codes "a"

abbrev pub b : List ℕ
b = codes "b"

abbrev pub c : List ℕ
c = codes "c"

-- a class of this name at a line, with parameters and a parent
abbrev pub class : List ℕ → List (Param Expr) → Option (List ℕ) → ℕ → Class
class name params parent at =
    class_of (name_at name at) params (option_map (λ p. name_at p at) parent) [] at

abbrev pub entry : List ℕ → Class → DefinitionName × Definition
entry name x = (Code name, definition.Class x)

abbrev pub define_entry : List ℕ → List (Param Expr) → DefinitionName × Definition
define_entry name params = (Code name, definition.Define (define_of (name_at name 1) params [] 9))

abbrev pub file_with : Entries → File
file_with es = record { statements = []; definitions = es }

-- a site of a main manifest with these definitions, and one more file
abbrev pub site_of : Entries → List (List ℕ × ManifestFile) → Environment
site_of es files = record { main = file_with es; files = files; site_data = [] }

abbrev pub read_file : List ℕ → Entries → List ℕ × ManifestFile
read_file path es = (path, record { text = []; read = Ok (file_with es) })

abbrev pub faulty_file : List ℕ → Fault → List ℕ × ManifestFile
faulty_file path of = (path, record { text = []; read = Err of })

-- ---- expressions

-- a text leaves a line in the log with the number of its scope
abbrev pub told : List ℕ → Expr
told t = expr_at 5 (f.Text t)

-- it has the value of `$title`
abbrev pub its_title : Expr
its_title = expr_at 5 (f.Variable (codes "title"))

-- it is refused, at line 6
abbrev pub refused : Expr
refused = expr_at 6 f.Default

abbrev pub meant : FormLayer → ℕ → Here → Step Datum
meant (Form-F.Text t) at here = write_log (codes "value") t >> pure (d.text t)
meant (Form-F.Variable x) at here = read here x at
meant Form-F.Default at here = fault here at (what.Failed [])
meant _ at here = pure d.undef

abbrev log_text : Datum → Step Datum
log_text (d.text t) = write_log (codes "value") t >> pure (d.text t)
log_text value = pure value

-- the value of a variable, which is left in the log where it is a text
abbrev pub logged : Here → List ℕ → Step Datum
logged here x = read here x 1 >>= log_text

-- a class body leaves its title in the log, and a block the text `block`
abbrev pub sample : Inner
sample = record {
  value = λ e here. meant (out-Form (form_of e)) (line_of e) here;
  block = λ b line here. write_log (codes "block") [] >> pure d.undef;
  words = λ x here. pure d.undef;
  target = λ r here. pure d.undef;
  class = λ n line here. write_log (codes "class") (n ∷ line ∷ here.scope.number ∷ here.owner ∷ []) >> pure d.undef;
  instance = λ n line here. write_log (codes "instance") (n ∷ line ∷ here.scope.number ∷ here.owner ∷ []) >> pure d.undef;
}

-- ---- the world: `Class[main]` is declared

abbrev pub top : Here
top = record { scope = record { number = 0 }; owner = 0; typed = false }

abbrev pub place : ℕ → Place
place at = record { file = codes "manifests/site.pp"; line = at }

abbrev pub main : Row
main = new_row (record {
  item = record {
    kind = codes "class";
    title = codes "main";
    attributes = [];
    tags = codes "class" ∷ codes "main" ∷ [];
  };
  at = place 1;
  scope = 0;
  container = None;
  class = codes "class main";
  known = [];
}) mode.Plain

abbrev pub world : Environment → World
world m = record (empty m) { book = main ∷ [] }

-- ---- what is seen of a step

abbrev pub refuses : {A : Type 0} → ℕ → What → Result A Fault
refuses at details = Err (faults.fault (place at) details)

-- the titles of the declarations behind `Class[main]`, with their tags
abbrev pub rows_seen : List Row → List (List ℕ × List (List ℕ))
rows_seen [] = []
rows_seen (r ∷ rs) = map (λ r. (r.declared.item.title, r.declared.item.tags)) rs

-- they, and the texts of the log
abbrev pub seen : {A : Type 0} → Outcome A → Result (List (List ℕ × List (List ℕ)) × List (List ℕ)) Fault
seen (Ok p) = Ok (rows_seen p.1.book, map (λ l. l.text) p.1.log)
seen (Err x) = Err x
