-- The statements at worked examples. Each line with `refl` holds by computing.
use Rattle.std.proofs.Common.{◌≡◌, ℕ, true, List, [], ◌∷◌, None, Some, Ok, Err, refl, codes}
use Rattle.override_rules.specs.Defaults.{nearest_within}
use Rattle.override_rules.specs.Fold.{after_lines}
use Rattle.override_rules.specs.Rights.{line_tests}
use Rattle.pp_tree.specs.Building.{defaults, reference, setting}
use Rattle.pp_tree.specs.Names.{normal, without_front_colons}
use Rattle.pp_tree.specs.declared.expr.Expr.{Expr}
use Rattle.pp_tree.specs.declared.expr.Form.{out-Form}
use Rattle.pp_tree.specs.declared.resource.Attribute.{Attribute}
use Rattle.pp_tree.specs.declared.resource.Attribute.TheVariants as attribute
use Rattle.pp_types.specs.Names.{data_type_named}
use Rattle.pp_values.specs.Datum as d
use Rattle.pp_values.specs.Faults.{fault}
use Rattle.pp_values.specs.declared.fault.What.TheVariants as what
use Rattle.res_core.specs.Metaparameters.{is_metaparameter}
use Rattle.attribute_lines.specs.Reading.{lines_from, attribute_rule, setting_rule}
use Rattle.attribute_lines.proofs.Samples.{fails, list, place, sample, sets, text, told, undef, word}
use Rattle.eval_classes.specs.Above.{sources_above, sources_from}
use Rattle.eval_classes.specs.Definitions.{comes_to, definition_of, parent_of}
use Rattle.eval_forms.specs.Accesses.{accessed_rule}
use Rattle.eval_forms.specs.Answering.{combined}
use Rattle.eval_forms.specs.Types.{type_rule}
use Rattle.eval_overrides.specs.DefaultStatements.{defaults_put, defaults_rule}
use Rattle.eval_overrides.specs.DefaultStatements as default
use Rattle.eval_overrides.specs.OverrideStatements.{lines_put, override_rule, target_rule}
use Rattle.eval_overrides.proofs.Samples.{in_main, in_a, in_b, in_c, in_lambda_of_b, with_mode, bare, mode_name}
use Rattle.eval_overrides.proofs.Samples.{overrides, file_overrides, file_defaults, Makes, Refuses}
use Rattle.eval_overrides.proofs.Samples.{Logs, declared_after, mode_set, mode_default}
use Rattle.eval_world.specs.Arguments.{values_from, argument_rule}
use Rattle.eval_world.specs.Outcomes.{◌>>◌}
use Rattle.eval_world.specs.Owners.{owner_at}
use Rattle.eval_world.specs.Worlds.{place_at, write_log}
use Rattle.eval_world.specs.declared.world.World.{World}

abbrev a : List ℕ
a = codes "a"

abbrev b : List ℕ
b = codes "b"

-- `mode => b` at line 5
abbrev sets_b : List (Attribute Expr)
sets_b = sets mode_name (word b) 5 ∷ []

-- `mode +> b` at line 5
abbrev adds_b : List (Attribute Expr)
adds_b = attribute.Set (setting mode_name true (word b) 5) ∷ []

-- ---- which line may set and change what: the file is declared in class `a`

-- in the same class it sets what is not set, and changes nothing
own_source : Makes (file_overrides sets_b in_a) bare (Some (text b))
    × Refuses (file_overrides sets_b in_a) (with_mode (text a)) 5 mode_set
unfolding override_rule lines_from attribute_rule setting_rule lines_put write_log out-Form denote.Hole.Carrier.out owner_at sources_above sources_from parent_of comes_to definition_of normal without_front_colons after_lines nearest_within is_metaparameter
own_source = (refl, refl)

-- in a class that inherits from it, it does both
inheriting_source : Makes (file_overrides sets_b in_b) bare (Some (text b))
    × Makes (file_overrides sets_b in_b) (with_mode (text a)) (Some (text b))
unfolding override_rule lines_from attribute_rule setting_rule lines_put write_log out-Form denote.Hole.Carrier.out owner_at sources_above sources_from parent_of comes_to definition_of normal without_front_colons after_lines nearest_within is_metaparameter
inheriting_source = (refl, refl)

-- in another class, and outside of classes, neither
other_source : Refuses (file_overrides sets_b in_c) bare 5 mode_set
    × Refuses (file_overrides sets_b in_c) (with_mode (text a)) 5 mode_set
    × Refuses (file_overrides sets_b in_main) bare 5 mode_set
unfolding override_rule lines_from attribute_rule setting_rule lines_put write_log out-Form denote.Hole.Carrier.out owner_at sources_above sources_from parent_of comes_to definition_of normal without_front_colons after_lines nearest_within is_metaparameter
other_source = (refl, refl, refl)

-- what stands in a lambda counts as what the lambda is within
in_a_lambda : Makes (file_overrides sets_b in_lambda_of_b) (with_mode (text a)) (Some (text b))
unfolding override_rule lines_from attribute_rule setting_rule lines_put write_log out-Form denote.Hole.Carrier.out owner_at sources_above sources_from parent_of comes_to definition_of normal without_front_colons after_lines nearest_within is_metaparameter
in_a_lambda = refl

-- a line that comes before the declaration is tested with it
before_declaration : (declared_after (file_overrides sets_b in_a) ≡ Ok tt)
    × declared_after (file_overrides sets_b in_c) ≡ Err (fault (place 5) mode_set)
unfolding override_rule lines_from attribute_rule setting_rule lines_put write_log out-Form denote.Hole.Carrier.out owner_at sources_above sources_from parent_of comes_to definition_of normal without_front_colons after_lines line_tests is_metaparameter
before_declaration = (refl, refl)

-- ---- what a line makes of the value

unset : Makes (file_overrides (sets mode_name undef 5 ∷ []) in_b) (with_mode (text a)) None
unfolding override_rule lines_from attribute_rule setting_rule lines_put out-Form denote.Hole.Carrier.out owner_at sources_above sources_from parent_of comes_to definition_of normal without_front_colons after_lines nearest_within is_metaparameter write_log
unset = refl

-- `+>` makes a list of a value, adds to a list, and sets what is not set
added : Makes (file_overrides adds_b in_b) (with_mode (text a)) (Some (list (text a ∷ text b ∷ [])))
    × Makes (file_overrides adds_b in_b) (with_mode (list (text b ∷ text a ∷ [])))
    (Some (list (text b ∷ text a ∷ text b ∷ [])))
    × Makes (file_overrides adds_b in_b) bare (Some (text b))
unfolding override_rule lines_from attribute_rule setting_rule lines_put out-Form denote.Hole.Carrier.out owner_at sources_above sources_from parent_of comes_to definition_of normal without_front_colons after_lines nearest_within is_metaparameter write_log
added = (refl, refl, refl)

-- the second line meets what the first one set
twice : Refuses (file_overrides (sets mode_name (word a) 5 ∷ sets mode_name (word b) 6 ∷ []) in_a) bare 6 mode_set
    × Makes (file_overrides (sets mode_name (word a) 5 ∷ sets mode_name (word b) 6 ∷ []) in_b) bare (Some (text b))
unfolding override_rule lines_from attribute_rule setting_rule lines_put out-Form denote.Hole.Carrier.out owner_at sources_above sources_from parent_of comes_to definition_of normal without_front_colons after_lines nearest_within is_metaparameter write_log
twice = (refl, refl)

-- F10 comes before F15
unknown_name : Refuses (file_overrides (sets (codes "size") (word b) 5 ∷ []) in_c) bare 5
    (what.UnknownParameter (record { kind = codes "file"; title = codes "x" }) (codes "size"))
unfolding override_rule lines_from attribute_rule setting_rule lines_put out-Form denote.Hole.Carrier.out owner_at sources_above sources_from parent_of comes_to definition_of normal without_front_colons after_lines nearest_within is_metaparameter write_log
unknown_name = refl

-- ---- the target

-- it is evaluated before the lines, and F11 at the statement comes after them
no_reference : Refuses (overrides (text a) (sets mode_name (word b) 5 ∷ []) in_b) bare 4 (what.BadOperand (codes "[]"))
    × Refuses (overrides (text a) (sets mode_name (fails 6) 5 ∷ []) in_b) bare 6 (what.UnknownVariable (codes "x"))
unfolding override_rule lines_from attribute_rule setting_rule lines_put out-Form denote.Hole.Carrier.out owner_at write_log
no_reference = (refl, refl)

in_order : Logs (file_overrides (sets mode_name (told b) 5 ∷ []) in_b) bare (codes "target" ∷ b ∷ [])
unfolding override_rule lines_from attribute_rule setting_rule lines_put out-Form denote.Hole.Carrier.out owner_at sources_above sources_from parent_of comes_to definition_of normal without_front_colons after_lines is_metaparameter write_log
in_order = refl

-- `File['x']` and `File['x', 'y']`
target : (w : World) → target_rule sample (reference (codes "File") (word a ∷ []) 4) in_b w
    ≡ Ok (d.reference (record { kind = codes "file"; title = a }), w)
unfolding target_rule type_rule data_type_named accessed_rule combined values_from argument_rule out-Form denote.Hole.Carrier.out
target w = refl

two_titles : (w : World) → target_rule sample (reference (codes "File") (word a ∷ word b ∷ []) 4) in_b w
    ≡ Err (fault (place_at w in_b 4) (what.WrongArguments (codes "File")))
unfolding target_rule type_rule data_type_named accessed_rule combined values_from argument_rule out-Form denote.Hole.Carrier.out
two_titles w = refl

-- ---- default statements: the file is declared in class `a`, whose scope was first entered from that of class `b`

-- in its own scope and further out, and in none that stands aside; a value that is set is not touched
reached : Makes (file_defaults sets_b in_a) bare (Some (text b))
    × Makes (file_defaults sets_b in_b) bare (Some (text b))
    × Makes (file_defaults sets_b in_main) bare (Some (text b))
    × Makes (file_defaults sets_b in_c) bare None
    × Makes (file_defaults sets_b in_a) (with_mode (text a)) (Some (text a))
unfolding defaults_rule default.lines_put lines_from attribute_rule setting_rule defaults_put out-Form denote.Hole.Carrier.out owner_at normal without_front_colons after_lines nearest_within
reached = (refl, refl, refl, refl, refl)

-- those of a lambda are of what the lambda is within
default_in_lambda : Makes (file_defaults sets_b in_lambda_of_b) bare (Some (text b))
unfolding defaults_rule default.lines_put lines_from attribute_rule setting_rule defaults_put out-Form denote.Hole.Carrier.out owner_at normal without_front_colons after_lines nearest_within
default_in_lambda = refl

-- the nearest counts, and Undef hides what is further out
nearest : Makes (file_defaults sets_b in_b >> file_defaults (sets mode_name (word a) 6 ∷ []) in_a) bare (Some (text a))
    × Makes (file_defaults sets_b in_b >> file_defaults (sets mode_name undef 6 ∷ []) in_a) bare None
unfolding defaults_rule default.lines_put lines_from attribute_rule setting_rule defaults_put out-Form denote.Hole.Carrier.out owner_at normal without_front_colons after_lines nearest_within
nearest = (refl, refl)

-- twice in one scope, also within one statement and where the first one is Undef
default_twice : Refuses (file_defaults sets_b in_b >> file_defaults (sets mode_name (word a) 6 ∷ []) in_lambda_of_b) bare
    6 mode_default
    × Refuses (file_defaults (sets mode_name undef 5 ∷ sets mode_name (word a) 6 ∷ []) in_b) bare 6 mode_default
unfolding defaults_rule default.lines_put lines_from attribute_rule setting_rule defaults_put out-Form denote.Hole.Carrier.out owner_at normal without_front_colons
default_twice = (refl, refl)

-- all lines are evaluated before one is a default
evaluated_first : Refuses
    (file_defaults (sets mode_name (word a) 5 ∷ sets mode_name (word b) 6 ∷ sets mode_name (fails 7) 7 ∷ []) in_b) bare
    7 (what.UnknownVariable (codes "x"))
unfolding defaults_rule default.lines_put lines_from attribute_rule setting_rule out-Form denote.Hole.Carrier.out owner_at normal without_front_colons
evaluated_first = refl

-- `Unknown { size => b }`: neither the kind nor what it takes is looked at
unknown_kind : Makes (defaults_rule sample (defaults (codes "Unknown") (sets (codes "size") (word b) 5 ∷ []) 4) in_b) bare
    None
unfolding defaults_rule default.lines_put lines_from attribute_rule setting_rule defaults_put out-Form denote.Hole.Carrier.out owner_at normal without_front_colons after_lines nearest_within
unknown_kind = refl
