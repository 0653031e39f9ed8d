-- Arguments, and calls without a lambda, at worked examples. Each line holds by computing.
use Rattle.std.proofs.Common.{◌≡◌, ℕ, pos, negsuc, List, [], ◌∷◌, map, None, Some}
use Rattle.std.proofs.Common.{Result, Ok, Err, refl, codes}
use Rattle.std.specs.Fmt.{digits}
use Rattle.pp_funcs.specs.Names.{function_of, needs_evaluator}
use Rattle.pp_tree.specs.Building as tree
use Rattle.pp_tree.specs.declared.expr.Form.{out-Form}
use Rattle.pp_values.specs.Datum as d
use Rattle.pp_values.specs.Datum.{Datum}
use Rattle.pp_values.specs.declared.fault.Fault.{Fault}
use Rattle.pp_values.specs.declared.fault.What.TheVariants as what
use Rattle.res_core.specs.TagNames.{segments}
use Rattle.scope_core.specs.Names.{last_cut}
use Rattle.scope_core.specs.Scopes as scopes
use Rattle.expr_eval.specs.Names.{lambda_function}
use Rattle.eval_world.specs.Arguments.{values_from, argument_rule}
use Rattle.eval_world.specs.Outcomes.{Outcome, Step, ◌>>◌}
use Rattle.eval_world.specs.Owners.{owner_at}
use Rattle.eval_world.specs.Worlds.{empty, read, assign, enter_lambda, write_log}
use Rattle.eval_world.specs.Environment.{Environment}
use Rattle.eval_calls.specs.Calls.{invoked, invoked_on, words_rule}
use Rattle.eval_calls.specs.Calls.{plain_rule, other_rule, evaluated_rule, site_rule, log_rule, with_lambda_rule}
use Rattle.eval_calls.specs.Calls.{data_rule, stray_lambda_rule, template_or_data}
use Rattle.eval_classes.specs.Functions.{function_found}
use Rattle.eval_classes.specs.Included.{included, names_from}
use Rattle.eval_calls.specs.Functions.{defined_rule, lambda_refused}
use Rattle.eval_calls.specs.Iterating.{turns_from, over_rule, iterate_rule}
use Rattle.eval_calls.specs.Iterating.{lambda_function_rule}
use Rattle.eval_calls.specs.Lambdas.{bind_rule, bind_from, lambda_rule}
use Rattle.eval_calls.specs.LookUps.{lookup_rule}
use Rattle.eval_calls.specs.Realizing.{arguments_from, references_from, realized}
use Rattle.eval_calls.proofs.Samples.{text, list, nothing_defined, one, top, refuses, inner, notice_x, fails, run, written, given, refused, spliced, takes_x, calls}

-- ---- arguments

left_to_right : (m : Environment)
    → run (calls d.undef fails (codes "notice") (written (codes "a") ∷ written (codes "b") ∷ []) None) m
    ≡ Ok (d.undef, codes "a" ∷ codes "b" ∷ codes "a b" ∷ [])
unfolding invoked values_from argument_rule plain_rule evaluated_rule log_rule write_log needs_evaluator out-Form
    denote.Hole.Carrier.out
left_to_right m = refl

spliced_arguments : (m : Environment)
    → run (calls (list (one ∷ d.undef ∷ one ∷ [])) fails (codes "notice") (spliced ∷ written
    (codes "b") ∷ []) None) m
    ≡ Ok (d.undef, codes "b" ∷ codes "1  1 b" ∷ [])
unfolding invoked values_from argument_rule plain_rule evaluated_rule log_rule write_log needs_evaluator out-Form
    denote.Hole.Carrier.out digits
spliced_arguments m = refl

unknown : run (calls d.undef fails (codes "nope") (given ∷ []) None) nothing_defined
    ≡ refuses 3 (what.UnknownFunction (codes "nope"))
unfolding invoked values_from argument_rule plain_rule other_rule defined_rule function_found
    segments needs_evaluator function_of out-Form denote.Hole.Carrier.out owner_at
unknown = refl

arguments_before_unknown : (m : Environment)
    → run (calls d.undef fails (codes "nope") (given ∷ refused ∷ []) None) m
    ≡ refuses 6 (what.BadOperand (codes "argument"))
unfolding invoked values_from argument_rule out-Form denote.Hole.Carrier.out owner_at
arguments_before_unknown m = refl

unknown_as_written : run (calls d.undef fails (codes "Notice") [] None) nothing_defined
    ≡ refuses 3 (what.UnknownFunction (codes "Notice"))
unfolding invoked values_from plain_rule other_rule defined_rule function_found segments
    needs_evaluator function_of owner_at
unknown_as_written = refl

receiver_first : (m : Environment)
    → run (invoked_on (inner d.undef fails) one (codes "notice") (written (codes "a") ∷ []) None 3 top) m
    ≡ Ok (d.undef, codes "a" ∷ codes "1 a" ∷ [])
unfolding invoked_on values_from argument_rule plain_rule evaluated_rule log_rule write_log needs_evaluator out-Form
    denote.Hole.Carrier.out digits
receiver_first m = refl

method_with_lambda : (m : Environment)
    → run (invoked_on (inner d.undef notice_x) (list (one ∷ [])) (codes "map") [] (Some takes_x) 3 top) m
    ≡ Ok (list (one ∷ []), codes "1" ∷ [])
unfolding invoked_on values_from with_lambda_rule lambda_function lambda_function_rule iterate_rule over_rule
    turns_from lambda_rule enter_lambda bind_from bind_rule assign read write_log scopes.assign scopes.read
    scopes.found last_cut scopes.seen_from digits
method_with_lambda m = refl

without_parentheses : (m : Environment)
    → run (words_rule (inner d.undef fails) (tree.words (codes "warning") (written (codes "a") ∷ []) 4) top) m
    ≡ Ok (d.undef, codes "a" ∷ codes "a" ∷ [])
unfolding words_rule invoked values_from argument_rule plain_rule evaluated_rule log_rule write_log needs_evaluator
    out-Form denote.Hole.Carrier.out
without_parentheses m = refl

fault_of_words : (m : Environment)
    → run (words_rule (inner d.undef fails) (tree.words (codes "fail") (written (codes "a") ∷ []) 4) top) m
    ≡ refuses 4 (what.Failed (codes "a"))
unfolding words_rule invoked values_from argument_rule plain_rule other_rule write_log needs_evaluator function_of out-Form
    denote.Hole.Carrier.out owner_at
fault_of_words m = refl

-- ---- functions without a lambda

-- once the arguments have their values
abbrev plainly : List ℕ → List Datum → Step Datum
plainly f arguments = plain_rule (inner d.undef fails) f arguments 3 top

-- the levels of the log are the functions' names
abbrev levels : Outcome Datum → Result (List (List ℕ × List ℕ)) Fault
levels (Ok p) = Ok (map (λ l. (l.level, l.text)) p.1.log)
levels (Err f) = Err f

all_levels : (m : Environment)
    → levels ((plainly (codes "debug") (one ∷ one ∷ []) >> (plainly (codes "info") []
    >> (plainly (codes "notice") (one ∷ []) >> (plainly (codes "warning") (one ∷ [])
    >> plainly (codes "err") (one ∷ []))))) (empty m))
    ≡ Ok ((codes "debug", codes "1 1") ∷ (codes "info", []) ∷ (codes "notice", codes "1") ∷ (codes "warning", codes "1")
    ∷ (codes "err", codes "1") ∷ [])
unfolding plain_rule evaluated_rule log_rule write_log needs_evaluator digits
all_levels m = refl

failure : (m : Environment)
    → run (plainly (codes "fail") (text (codes "a") ∷ one ∷ [])) m ≡ refuses 3 (what.Failed (codes "a 1"))
unfolding plain_rule other_rule needs_evaluator function_of owner_at digits
failure m = refl

pure_value : (m : Environment)
    → run (plainly (codes "length") (list (one ∷ one ∷ one ∷ []) ∷ [])) m ≡ Ok (d.int (pos 3), [])
unfolding plain_rule other_rule needs_evaluator function_of
pure_value m = refl

pure_wrong : (m : Environment)
    → run (plainly (codes "length") (one ∷ [])) m ≡ refuses 3 (what.WrongArguments (codes "length"))
unfolding plain_rule other_rule needs_evaluator function_of owner_at
pure_wrong m = refl

pure_range : (m : Environment)
    → run (plainly (codes "abs") (d.int (negsuc 9223372036854775807) ∷ [])) m ≡ refuses 3
    (what.NumberRange (codes "abs"))
unfolding plain_rule other_rule needs_evaluator function_of owner_at
pure_range m = refl

-- a function that takes a lambda, without one
abbrev wants_lambda : List ℕ → Type 0
wants_lambda f = (m : Environment)
    → run (plainly f (list [] ∷ [])) m ≡ refuses 3 (what.WrongArguments f)

each_alone : wants_lambda (codes "each")
unfolding plain_rule evaluated_rule needs_evaluator lambda_function owner_at
each_alone m = refl

map_alone : wants_lambda (codes "map")
unfolding plain_rule evaluated_rule needs_evaluator lambda_function owner_at
map_alone m = refl

filter_alone : wants_lambda (codes "filter")
unfolding plain_rule evaluated_rule needs_evaluator lambda_function owner_at
filter_alone m = refl

reduce_alone : wants_lambda (codes "reduce")
unfolding plain_rule evaluated_rule needs_evaluator lambda_function owner_at
reduce_alone m = refl

any_alone : wants_lambda (codes "any")
unfolding plain_rule evaluated_rule needs_evaluator lambda_function owner_at
any_alone m = refl

all_alone : wants_lambda (codes "all")
unfolding plain_rule evaluated_rule needs_evaluator lambda_function owner_at
all_alone m = refl

with_alone : wants_lambda (codes "with")
unfolding plain_rule evaluated_rule needs_evaluator lambda_function owner_at
with_alone m = refl

-- classes are declared, and what names none is refused
no_class : (m : Environment) → run (plainly (codes "include") (one ∷ [])) m ≡ refuses 3 (what.WrongArguments (codes "include"))
unfolding plain_rule evaluated_rule site_rule included names_from needs_evaluator lambda_function owner_at
no_class m = refl

contains_no_class : (m : Environment) → run (plainly (codes "contain") []) m ≡ refuses 3 (what.WrongArguments (codes "contain"))
unfolding plain_rule evaluated_rule site_rule included needs_evaluator lambda_function owner_at
contains_no_class m = refl

requires_no_class : (m : Environment)
    → run (plainly (codes "require") (one ∷ [])) m ≡ refuses 3 (what.WrongArguments (codes "require"))
unfolding plain_rule evaluated_rule site_rule included names_from needs_evaluator lambda_function owner_at
requires_no_class m = refl

-- resources are brought to life: `proofs/RealizeExamples.antt`
no_reference : (m : Environment) → run (plainly (codes "realize") (one ∷ [])) m ≡ refuses 3 (what.WrongArguments (codes "realize"))
unfolding plain_rule evaluated_rule site_rule template_or_data data_rule realized arguments_from references_from needs_evaluator lambda_function owner_at
no_reference m = refl

-- data are looked up: `proofs/LookUpExamples.antt`
no_key : (m : Environment) → run (plainly (codes "lookup") (one ∷ [])) m ≡ refuses 3 (what.WrongArguments (codes "lookup"))
unfolding plain_rule evaluated_rule site_rule template_or_data data_rule lookup_rule needs_evaluator lambda_function owner_at
no_key m = refl

arguments_before_classes : (m : Environment)
    → run (calls d.undef fails (codes "include") (refused ∷ []) None) m
    ≡ refuses 6 (what.BadOperand (codes "argument"))
unfolding invoked values_from argument_rule out-Form denote.Hole.Carrier.out owner_at
arguments_before_classes m = refl

-- ---- a lambda for a function that takes none

abbrev takes_none : List ℕ → Type 0
takes_none f = (m : Environment)
    → run (with_lambda_rule (inner d.undef fails) f takes_x (one ∷ []) 3 top) m ≡ refuses 3
    (what.WrongArguments f)

length_takes_none : takes_none (codes "length")
unfolding with_lambda_rule lambda_function stray_lambda_rule needs_evaluator function_of owner_at
length_takes_none m = refl

fail_takes_none : takes_none (codes "fail")
unfolding with_lambda_rule lambda_function stray_lambda_rule needs_evaluator function_of owner_at
fail_takes_none m = refl

notice_takes_none : takes_none (codes "notice")
unfolding with_lambda_rule lambda_function stray_lambda_rule needs_evaluator function_of owner_at
notice_takes_none m = refl

include_takes_none : takes_none (codes "include")
unfolding with_lambda_rule lambda_function stray_lambda_rule needs_evaluator function_of owner_at
include_takes_none m = refl

lookup_takes_none : takes_none (codes "lookup")
unfolding with_lambda_rule lambda_function stray_lambda_rule needs_evaluator function_of owner_at
lookup_takes_none m = refl

unknown_with_lambda : run (calls d.undef fails (codes "nope") (given ∷ []) (Some takes_x)) nothing_defined
    ≡ refuses 3 (what.UnknownFunction (codes "nope"))
unfolding invoked values_from argument_rule with_lambda_rule lambda_function stray_lambda_rule lambda_refused
    function_found segments needs_evaluator function_of out-Form denote.Hole.Carrier.out owner_at
unknown_with_lambda = refl

arguments_before_lambda : (m : Environment)
    → run (calls d.undef fails (codes "length") (refused ∷ []) (Some takes_x)) m
    ≡ refuses 6 (what.BadOperand (codes "argument"))
unfolding invoked values_from argument_rule out-Form denote.Hole.Carrier.out owner_at
arguments_before_lambda m = refl
