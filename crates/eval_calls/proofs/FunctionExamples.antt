-- Calls of functions that the site defines, at worked examples. Each line holds by computing.
use Rattle.std.proofs.Common.{◌≡◌, ℕ, List, [], ◌∷◌, Option, None, Some}
use Rattle.std.proofs.Common.{Result, Ok, Err, refl, codes}
use Rattle.std.specs.Fmt.{digits}
use Rattle.pp_funcs.specs.Names.{function_of, needs_evaluator}
use Rattle.pp_tree.specs.Building as tree
use Rattle.pp_tree.specs.Names.{without_front_colons}
use Rattle.pp_tree.specs.declared.definition.Definition.TheVariants as definition
use Rattle.pp_tree.specs.declared.definition.Function.{Function}
use Rattle.pp_tree.specs.declared.expr.Expr.{Expr}
use Rattle.pp_tree.specs.declared.expr.Form.{out-Form}
use Rattle.pp_tree.specs.declared.param.Param.{Param}
use Rattle.pp_tree.specs.declared.table.DefinitionName.TheVariants as names
use Rattle.pp_values.specs.Datum as d
use Rattle.pp_values.specs.Datum.{Datum}
use Rattle.pp_values.specs.Faults as faults
use Rattle.pp_values.specs.Sort as sort
use Rattle.pp_values.specs.Sort.{of, none}
use Rattle.pp_values.specs.declared.fault.Fault.{Fault}
use Rattle.pp_values.specs.declared.fault.What.{What}
use Rattle.pp_values.specs.declared.fault.What.TheVariants as what
use Rattle.res_core.specs.TagNames.{segments}
use Rattle.scope_core.specs.Names.{last_cut}
use Rattle.scope_core.specs.Scopes as scopes
use Rattle.expr_eval.specs.Names.{lambda_function}
use Rattle.eval_world.specs.Arguments.{values_from, argument_rule}
use Rattle.eval_world.specs.Environment.{Environment}
use Rattle.eval_world.specs.Outcomes.{Step, ◌>>=◌, ◌>>◌}
use Rattle.eval_world.specs.Owners.{owner_at, owner_in}
use Rattle.eval_world.specs.Worlds.{read, assign, enter_function, enter_lambda, write_log}
use Rattle.eval_world.specs.declared.here.Here.{Here}
use Rattle.eval_classes.specs.Functions.{FunctionIn, function_found}
use Rattle.eval_classes.specs.ParameterTypes.{has_type}
use Rattle.eval_calls.specs.Calls.{invoked, other_rule, plain_rule, stray_lambda_rule, with_lambda_rule}
use Rattle.eval_calls.specs.Functions.{bind_from, bind_rule, default_rule, defaults_from, defined_rule, function_rule}
use Rattle.eval_calls.specs.Functions.{have_defaults, is_result, lambda_refused, run_function, taken_by}
use Rattle.eval_calls.proofs.Samples.{text, one, x, y, top, at, refuses, inner, notice_x, notice_x_give_y, fails, run, given, refused, plain, takes_x, calls}

-- the function `m::f` at line 7 of its module file, with these parameters, and this type of what it gives
abbrev path : List ℕ
path = codes "modules/m/functions/f.pp"

abbrev function_f : List (Param Expr) → Option Expr → Function
function_f params type = tree.function_of (tree.name_at (codes "m::f") 7) params type [] 7

abbrev f_of : List (Param Expr) → Option Expr → FunctionIn
f_of params type = (function_f params type, path)

-- a call at line 3 of the main manifest; `default` in a parameter's type, in a default and behind `>>` is this value
abbrev called : Datum → (ℕ → Here → Step Datum) → FunctionIn → List Datum → Step Datum
called value block f arguments = function_rule (inner value block) f (codes "m::f") arguments (at 3)

-- a fault in the function's file
abbrev refuses_there : {A : Type 0} → ℕ → What → Result A Fault
refuses_there line w = Err (faults.fault (record { file = path; line = line }) w)

-- ---- parameters

by_position : (m : Environment)
    → run (called d.undef notice_x_give_y (f_of (plain x 7 ∷ plain y 8 ∷ []) None) (one ∷ text (codes "a") ∷ [])) m
    ≡ Ok (text (codes "a"), codes "1" ∷ [])
unfolding function_rule taken_by have_defaults run_function enter_function owner_in bind_from bind_rule assign read
    write_log scopes.assign scopes.read scopes.found last_cut scopes.seen_from digits
by_position m = refl

-- too many values, or one missing without default, before anything is set; a default in the middle helps no later one
another_number : (m : Environment)
    → (run (called d.undef fails (f_of [] None) (one ∷ [])) m ≡ refuses 3 (what.WrongArguments (codes "m::f")))
    × (run (called d.undef fails (f_of (plain x 7 ∷ []) None) []) m ≡ refuses 3 (what.WrongArguments (codes "m::f")))
    × (run (called d.undef fails (f_of (tree.param None x (Some refused) 7 ∷ plain y 8 ∷ []) None) []) m
    ≡ refuses 3 (what.WrongArguments (codes "m::f")))
unfolding function_rule taken_by have_defaults
another_number m = (refl, refl, refl)

-- a default where no value is given; it is tested by the type too, and Undef that is given is a value
defaults : (m : Environment)
    → (run (called one notice_x (f_of (tree.param None x (Some given) 7 ∷ []) None) []) m ≡ Ok (one, codes "1" ∷ []))
    × (run (called one notice_x (f_of (tree.param None x (Some refused) 7 ∷ []) None) (d.undef ∷ [])) m
    ≡ Ok (d.undef, [] ∷ []))
    × (run (called one notice_x (f_of (tree.param None x (Some refused) 7 ∷ []) None) []) m
    ≡ refuses_there 6 (what.BadOperand (codes "argument")))
unfolding function_rule taken_by have_defaults run_function enter_function owner_in owner_at bind_from defaults_from
    default_rule bind_rule assign read write_log scopes.assign scopes.read scopes.found last_cut scopes.seen_from
    digits out-Form denote.Hole.Carrier.out
defaults m = (refl, refl, refl)

abbrev integers : Datum
integers = d.kind (of sort.integer none)

abbrev typed_x : Param Expr
typed_x = tree.param (Some given) x None 7

-- F8 at the call names the parameter; F11 of what is no type stands in the function's file
types : (m : Environment)
    → (run (called integers notice_x (f_of (typed_x ∷ []) None) (one ∷ [])) m ≡ Ok (one, codes "1" ∷ []))
    × (run (called integers notice_x (f_of (typed_x ∷ []) None) (d.undef ∷ [])) m ≡ refuses 3 (what.TypeMismatch x))
    × (run (called one notice_x (f_of (typed_x ∷ []) None) (one ∷ [])) m
    ≡ refuses_there 5 (what.BadOperand (codes "=~")))
unfolding function_rule taken_by have_defaults run_function enter_function owner_in owner_at bind_from bind_rule has_type
    assign read write_log scopes.assign scopes.read scopes.found last_cut scopes.seen_from digits out-Form
    denote.Hole.Carrier.out
types m = (refl, refl, refl)

-- a name that comes twice is refused at its line
twice : (m : Environment)
    → run (called d.undef notice_x (f_of (plain x 7 ∷ plain x 8 ∷ []) None) (one ∷ one ∷ [])) m
    ≡ refuses_there 8 (what.Reassigned x)
unfolding function_rule taken_by have_defaults run_function enter_function owner_in owner_at bind_from bind_rule assign
    scopes.assign
twice m = refl

-- ---- what it gives

result : (m : Environment)
    → (run (called integers notice_x (f_of (plain x 7 ∷ []) (Some given)) (one ∷ [])) m ≡ Ok (one, codes "1" ∷ []))
    × (run (called integers notice_x (f_of (plain x 7 ∷ []) (Some given)) (d.undef ∷ [])) m
    ≡ refuses 3 (what.TypeMismatch (codes "m::f")))
    × (run (called one notice_x (f_of (plain x 7 ∷ []) (Some given)) (one ∷ [])) m
    ≡ refuses_there 5 (what.BadOperand (codes "=~")))
unfolding function_rule taken_by have_defaults run_function enter_function owner_in owner_at bind_from bind_rule is_result
    assign read write_log scopes.assign scopes.read scopes.found last_cut scopes.seen_from digits out-Form
    denote.Hole.Carrier.out
result m = (refl, refl, refl)

-- the body belongs to the definition, in its file
line_of_body : (m : Environment)
    → run (called d.undef fails (f_of [] None) []) m ≡ refuses_there 7 (what.Failed (codes "block"))
unfolding function_rule taken_by have_defaults run_function enter_function owner_in owner_at bind_from
line_of_body m = refl

-- ---- names

-- it reads top scope, and no scope that the call stands in
reads_top : (m : Environment)
    → run (assign top x (text (codes "outer")) 1 >> called d.undef notice_x (f_of [] None) []) m
    ≡ Ok (text (codes "outer"), codes "outer" ∷ [])
unfolding function_rule taken_by have_defaults run_function enter_function owner_in bind_from assign read write_log
    scopes.assign scopes.read scopes.found last_cut scopes.seen_from
reads_top m = refl

reads_no_caller : (m : Environment)
    → run (enter_lambda top >>= (λ own. assign own x one 1 >> called d.undef notice_x (f_of [] None) [])) m
    ≡ refuses_there 7 (what.UnknownVariable x)
unfolding function_rule taken_by have_defaults run_function enter_function enter_lambda owner_in owner_at bind_from assign
    read scopes.assign scopes.read scopes.found last_cut scopes.seen_from
reads_no_caller m = refl

-- after the call its parameters are no variables
parameter_ends : (m : Environment)
    → run (called d.undef notice_x (f_of (plain x 7 ∷ []) None) (one ∷ []) >> read top x 9) m
    ≡ refuses 9 (what.UnknownVariable x)
unfolding function_rule taken_by have_defaults run_function enter_function owner_in owner_at bind_from bind_rule assign
    read write_log scopes.assign scopes.read scopes.found last_cut scopes.seen_from
parameter_ends m = refl

-- ---- by its name

-- a main manifest that defines `f`, which takes `$x`, and `size`
abbrev site : Environment
site = record {
  main = record {
    statements = [];
    definitions =
        (names.Function (codes "f"), definition.Function (function_f (plain x 7 ∷ []) None))
        ∷ (names.Function (codes "size"), definition.Function (function_f (plain x 7 ∷ []) None))
        ∷ [];
  };
  files = [];
  site_data = [];
}

-- a call of the function of this name, as it is written
abbrev written : List ℕ → Result (Datum × List (List ℕ)) Fault
written f = run (calls one notice_x (without_front_colons f) (given ∷ []) None) site

-- A leading `::` is dropped, and a listed function stays what it is. Faults name the function without it, also one that
-- is listed nowhere.
by_name : (written (codes "f") ≡ Ok (one, codes "1" ∷ []))
    × (written (codes "::f") ≡ Ok (one, codes "1" ∷ []))
    × (written (codes "size") ≡ refuses 3 (what.WrongArguments (codes "size")))
    × (written (codes "::size") ≡ refuses 3 (what.WrongArguments (codes "size")))
    × (written (codes "::g") ≡ refuses 3 (what.UnknownFunction (codes "g")))
unfolding invoked values_from argument_rule plain_rule other_rule defined_rule function_found without_front_colons
    needs_evaluator function_of function_rule taken_by have_defaults run_function enter_function owner_in owner_at
    bind_from bind_rule assign read write_log scopes.assign scopes.read scopes.found last_cut scopes.seen_from digits
    segments out-Form denote.Hole.Carrier.out
by_name = (refl, refl, refl, refl, refl)

-- it takes no lambda
no_lambda : run (calls one notice_x (codes "f") (given ∷ []) (Some takes_x)) site
    ≡ refuses 3 (what.WrongArguments (codes "f"))
unfolding invoked values_from argument_rule with_lambda_rule lambda_function stray_lambda_rule lambda_refused
    function_found needs_evaluator function_of owner_at out-Form denote.Hole.Carrier.out
no_lambda = refl
