-- Values of parameters over the data of small sites. Each line with `refl` holds by computing.
use Rattle.std.proofs.Common.{◌≡◌, ℕ, List, [], ◌∷◌, Option, None, Some, Result, Ok, Err, map, pos, refl, codes}
use Rattle.std.specs.Fmt.{digits}
use Rattle.serde_json.proofs.OnLiterals.{serde_json_on_literals}
use Rattle.hiera_config.specs.Cuts.{cut_at, trimmed_start, trimmed_end}
use Rattle.hiera_config.specs.Documents.{File}
use Rattle.hiera_config.specs.Meant.{go_on, in_turn}
use Rattle.hiera_config.specs.Pieces.{pieces_from, path_form, form_of, method_of, whole_alias}
use Rattle.hiera_config.specs.Sources.{in_template, in_level, in_layer, in_module}
use Rattle.hiera_lookup.specs.Found.{found, found_in}
use Rattle.hiera_lookup.specs.Look.{answers, interpolated, option_for, merge_for, look_within, look}
use Rattle.hiera_lookup.specs.Options.{option_in}
use Rattle.pp_tree.specs.Building.{expr_at, param}
use Rattle.pp_tree.specs.declared.expr.Expr.{Expr}
use Rattle.pp_tree.specs.declared.expr.Form.{out-Form}
use Rattle.pp_tree.specs.declared.expr.Form.TheVariants as f
use Rattle.pp_values.specs.Datum as d
use Rattle.pp_values.specs.Datum.{Datum}
use Rattle.pp_values.specs.declared.fault.Fault.{Fault}
use Rattle.pp_values.specs.declared.fault.What.TheVariants as what
use Rattle.pp_values.specs.declared.reference.Reference.{Reference}
use Rattle.scope_core.specs.Names.{last_cut}
use Rattle.scope_core.specs.Scopes as scopes
use Rattle.eval_world.specs.Data.{look_up}
use Rattle.eval_world.specs.Outcomes.{Outcome, Step, ◌>>=◌, ◌>>◌}
use Rattle.eval_world.specs.Worlds.{assign, enter_lambda, read, write_log}
use Rattle.eval_world.specs.declared.world.World.{World}
use Rattle.eval_classes.specs.Listing.{class_reference}
use Rattle.eval_classes.specs.Parameters.{value_rule, data_or_default}
use Rattle.eval_classes.proofs.Samples.{a, b, place, refuses, sample, site_of, told, top, world}

abbrev n : ℕ → Datum
n k = d.int (pos k)

abbrev config : List ℕ
config = codes "{\"version\":5,\"hierarchy\":[{\"name\":\"a\",\"path\":\"c.json\"}]}"

-- no manifest, and this file of data
abbrev over : List ℕ → World
over text = world (record (site_of [] []) {
  site_data = (codes "data/c.json", text) ∷ (codes "hiera.yaml", config) ∷ [];
})

-- the value of a step, and the texts that it left in the log
abbrev seen : Outcome Datum → Result (Datum × List (List ℕ)) Fault
seen (Ok p) = Ok (p.0, map (λ l. l.text) p.1.log)
seen (Err x) = Err x

-- the parameter `x` of what was declared at line 7, where this was given for it, and this is its default
abbrev bound : List ℕ → Reference → Option Datum → Option Expr → Result (Datum × List (List ℕ)) Fault
bound text of given default =
    seen (value_rule sample (λ _. given) (param None (codes "x") default 3) of (place 7) top (over text))

-- a default that leaves a line in the log
abbrev default : Option Expr
default = Some (told (codes "default"))

abbrev by_default : Result (Datum × List (List ℕ)) Fault
by_default = Ok (d.text (codes "default"), codes "default" ∷ [])

abbrev with_seven : List ℕ
with_seven = codes "{\"a::x\":7,\"b::x\":8,\"c::x\":null}"

abbrev class_c : Reference
class_c = class_reference (codes "c")

-- what is given goes before the data, but for Undef; the data go before the default, but for their `null`; each class
-- has keys of its own
data_between : (bound with_seven (class_reference a) (Some (n 1)) default ≡ Ok (n 1, []))
    × (bound with_seven (class_reference a) (Some d.undef) default ≡ Ok (n 7, []))
    × (bound with_seven (class_reference a) None default ≡ Ok (n 7, []))
    × (bound with_seven (class_reference a) None None ≡ Ok (n 7, []))
    × (bound with_seven (class_reference b) None default ≡ Ok (n 8, []))
    × (bound with_seven class_c None default ≡ by_default)
    × (bound with_seven class_c None None ≡ refuses 7 (what.MissingParameter class_c (codes "x")))
unfolding value_rule data_or_default look_up look look_within merge_for option_for option_in found found_in interpolated
    answers go_on in_turn in_template in_level in_layer in_module pieces_from path_form form_of method_of whole_alias cut_at
    trimmed_start trimmed_end write_log digits serde_json_on_literals out-Form denote.Hole.Carrier.out
data_between = (refl, refl, refl, refl, refl, refl, refl)

abbrev broken : Result (Datum × List (List ℕ)) Fault
broken = refuses 7 (what.BadData (codes "data/c.json"))

-- the data's fault stands where the class was declared, also where there is a default; what is given is not looked up
data_refused : (bound (codes "{") (class_reference a) None default ≡ broken)
    × (bound (codes "{") (class_reference a) (Some d.undef) None ≡ broken)
    × (bound (codes "{") (class_reference a) (Some (n 1)) None ≡ Ok (n 1, []))
unfolding value_rule data_or_default look_up look look_within merge_for option_for option_in found found_in interpolated
    answers go_on in_turn in_template in_level in_layer in_module pieces_from path_form form_of method_of whole_alias cut_at
    trimmed_start trimmed_end write_log digits serde_json_on_literals out-Form denote.Hole.Carrier.out
data_refused = (refl, refl, refl)

-- an instance
abbrev instance : Reference
instance = record { kind = a; title = codes "c" }

-- nothing is looked up for it
instances : (bound (codes "{") instance None default ≡ by_default)
    × (bound (codes "{\"a::x\":7,\"c::x\":8}") instance None None
    ≡ refuses 7 (what.MissingParameter instance (codes "x")))
unfolding value_rule data_or_default write_log out-Form denote.Hole.Carrier.out
instances = (refl, refl)

-- `$y` is 1 in top scope and 2 in the scope of the class
abbrev between_scopes : List ℕ → Option Expr → Step Datum
between_scopes name default = do
  assign top (codes "y") (n 1) 1
  own ← enter_lambda top
  assign own (codes "y") (n 2) 2
  value_rule sample (λ _. None) (param None name default 3) (class_reference a) (place 7) own

-- the data read `$y` in top scope, a default in the new one
scopes_of_values : (seen (between_scopes (codes "x") None (over (codes "{\"a::x\":\"%{y}\"}"))) ≡ Ok (d.text (codes "1"), []))
    × (seen (between_scopes (codes "z") (Some (expr_at 5 (f.Variable (codes "y")))) (over (codes "{}"))) ≡ Ok (n 2, []))
unfolding value_rule data_or_default look_up look look_within merge_for option_for option_in found found_in interpolated
    answers go_on in_turn in_template in_level in_layer in_module pieces_from path_form form_of method_of whole_alias cut_at
    trimmed_start trimmed_end assign enter_lambda read scopes.assign scopes.read scopes.found last_cut scopes.seen_from digits
    serde_json_on_literals out-Form denote.Hole.Carrier.out
scopes_of_values = (refl, refl)
