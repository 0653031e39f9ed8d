-- Calls of a lambda, and the functions that take one, at worked examples. Each line holds by computing.
use Rattle.std.proofs.Common.{◌≡◌, ℕ, true, false, List, [], ◌∷◌, map, None, Some}
use Rattle.std.proofs.Common.{Ok, refl, codes}
use Rattle.std.specs.Fmt.{digits}
use Rattle.pp_tree.specs.Building as tree
use Rattle.pp_tree.specs.declared.expr.Expr.{Expr}
use Rattle.pp_tree.specs.declared.expr.Form.{out-Form}
use Rattle.pp_tree.specs.declared.param.Param.{Param}
use Rattle.pp_values.specs.Datum as d
use Rattle.pp_values.specs.Datum.{Datum}
use Rattle.pp_values.specs.Sort as sort
use Rattle.pp_values.specs.Sort.{of, none}
use Rattle.pp_values.specs.declared.fault.What.TheVariants as what
use Rattle.scope_core.specs.Names.{last_cut}
use Rattle.scope_core.specs.Scopes as scopes
use Rattle.expr_eval.specs.Names.{lambda_function}
use Rattle.eval_world.specs.Outcomes.{Step, ◌>>◌}
use Rattle.eval_world.specs.Owners.{owner_at}
use Rattle.eval_world.specs.Worlds.{read, assign, enter_lambda, write_log}
use Rattle.eval_world.specs.declared.here.Here.{Here}
use Rattle.eval_classes.specs.ParameterTypes.{has_type}
use Rattle.eval_world.specs.Environment.{Environment}
use Rattle.eval_calls.specs.Calls.{with_lambda_rule}
use Rattle.eval_calls.specs.Iterating.{turns_from, over_rule, iterate_rule, reduce_from, reduced, reduce_rule}
use Rattle.eval_calls.specs.Iterating.{with_rule, lambda_function_rule}
use Rattle.eval_calls.specs.Lambdas.{Opened, bind_rule, bind_from, lambda_rule}
use Rattle.eval_calls.proofs.Samples.{text, list, hash, one, x, y, top, refuses, inner, notice_x, notice_x_give_y, fails, run, given, refused, plain, takes, takes_x, takes_xy}

-- ---- a call of a lambda

abbrev lambda_of : (ℕ → Here → Step Datum) → List (Param Expr) → List Datum → Step Datum
lambda_of block params arguments = lambda_rule (inner d.undef block) (takes params) arguments 3 top

undef_is_a_value : (m : Environment)
    → run (lambda_of notice_x (plain x 7 ∷ []) (d.undef ∷ [])) m ≡ Ok (d.undef, [] ∷ [])
unfolding lambda_rule enter_lambda bind_from bind_rule assign read write_log scopes.assign scopes.read scopes.found
    last_cut scopes.seen_from
undef_is_a_value m = refl

default_not_taken : (m : Environment)
    → run (lambda_of notice_x (tree.param None x (Some refused) 7 ∷ []) (d.undef ∷ [])) m ≡ Ok (d.undef, [] ∷ [])
unfolding lambda_rule enter_lambda bind_from bind_rule assign read write_log scopes.assign scopes.read scopes.found
    last_cut scopes.seen_from
default_not_taken m = refl

-- in the order of the parameters
twice : (m : Environment)
    → run (lambda_of notice_x (plain x 7 ∷ plain x 8 ∷ []) (one ∷ one ∷ [])) m ≡ refuses 8 (what.Reassigned x)
unfolding lambda_rule enter_lambda bind_from bind_rule assign scopes.assign owner_at
twice m = refl

-- one call of a lambda whose parameter has this type, at line 5
abbrev typed_by : Datum → Param Expr → List Datum → Step Datum
typed_by value p arguments = lambda_rule (inner value notice_x) (takes (p ∷ [])) arguments 3 top

abbrev typed_x : Param Expr
typed_x = tree.param (Some given) x None 7

abbrev integers : Datum
integers = d.kind (of sort.integer none)

-- the argument is of the parameter's type, else F8 at the call; F11 stands at the type
typed : (m : Environment)
    → (run (typed_by integers typed_x (one ∷ [])) m ≡ Ok (one, codes "1" ∷ []))
    × (run (typed_by integers typed_x (d.undef ∷ [])) m ≡ refuses 3 (what.TypeMismatch x))
    × (run (typed_by one typed_x (one ∷ [])) m ≡ refuses 5 (what.BadOperand (codes "=~")))
unfolding lambda_rule enter_lambda bind_from bind_rule has_type assign read write_log scopes.assign scopes.read
    scopes.found last_cut scopes.seen_from owner_at digits out-Form denote.Hole.Carrier.out
typed m = (refl, refl, refl)

typed_after_twice : (m : Environment)
    → run (lambda_of notice_x (plain x 7 ∷ plain x 8 ∷ tree.param (Some given) y None 9 ∷ [])
    (one ∷ one ∷ one ∷ [])) m
    ≡ refuses 8 (what.Reassigned x)
unfolding lambda_rule enter_lambda bind_from bind_rule assign scopes.assign owner_at
typed_after_twice m = refl

-- the block belongs to the call, which begins at line 3
line_of_block : (m : Environment)
    → run (lambda_of fails [] []) m ≡ refuses 3 (what.Failed (codes "block"))
unfolding lambda_rule enter_lambda bind_from owner_at
line_of_block m = refl

-- after the call its parameters are no variables
parameter_ends : (m : Environment)
    → run (lambda_of notice_x (plain x 7 ∷ []) (one ∷ []) >> read top x 9) m ≡ refuses 9 (what.UnknownVariable x)
unfolding lambda_rule enter_lambda bind_from bind_rule assign read write_log scopes.assign scopes.read scopes.found
    last_cut scopes.seen_from owner_at
parameter_ends m = refl

-- nor in the next call of a lambda that stands beside it
parameter_ends_beside : (m : Environment)
    → run (lambda_of notice_x (plain x 7 ∷ []) (one ∷ []) >> lambda_of notice_x [] []) m
    ≡ refuses 3 (what.UnknownVariable x)
unfolding lambda_rule enter_lambda bind_from bind_rule assign read write_log scopes.assign scopes.read scopes.found
    last_cut scopes.seen_from owner_at
parameter_ends_beside m = refl

-- a parameter hides a variable of the scope around it, which stays as it is
hides : (m : Environment)
    → run (assign top x (text (codes "outer")) 1 >> (lambda_of notice_x (plain x 7 ∷ [])
    (one ∷ []) >> read top x 9)) m
    ≡ Ok (text (codes "outer"), codes "1" ∷ [])
unfolding lambda_rule enter_lambda bind_from bind_rule assign read write_log scopes.assign scopes.read scopes.found
    last_cut scopes.seen_from digits
hides m = refl

-- the block reads the scope that the lambda stands in
reads_around : (m : Environment)
    → run (assign top x (text (codes "outer")) 1 >> lambda_of notice_x (plain y 7 ∷ []) (one ∷ [])) m
    ≡ Ok (text (codes "outer"), codes "outer" ∷ [])
unfolding lambda_rule enter_lambda bind_from bind_rule assign read write_log scopes.assign scopes.read scopes.found
    last_cut scopes.seen_from
reads_around m = refl

-- a lambda within the block of another one, which takes `$y`, reads what that one has, and top scope has no such name
abbrev within_block : ℕ → Here → Step Datum
within_block line here = lambda_rule (inner d.undef notice_x) (takes (plain y 8 ∷ [])) (d.undef ∷ []) line here

reads_lambda_around : (m : Environment)
    → run (lambda_of within_block (plain x 7 ∷ []) (one ∷ [])) m ≡ Ok (one, codes "1" ∷ [])
unfolding lambda_rule enter_lambda bind_from bind_rule assign read write_log scopes.assign scopes.read scopes.found
    last_cut scopes.seen_from digits
reads_lambda_around m = refl

-- a lambda that stands in top scope does not read a scope that was entered for another call and still stands
abbrev stands_in_top : ℕ → Here → Step Datum
stands_in_top line here = lambda_rule (inner d.undef notice_x) (takes (plain y 8 ∷ [])) (d.undef ∷ []) line top

reads_no_caller : (m : Environment)
    → run (lambda_of stands_in_top (plain x 7 ∷ []) (one ∷ [])) m ≡ refuses 3 (what.UnknownVariable x)
unfolding lambda_rule enter_lambda bind_from bind_rule assign read scopes.assign scopes.read scopes.found last_cut
    scopes.seen_from owner_at
reads_no_caller m = refl

-- ---- the functions that take a lambda

abbrev with_lambda : (ℕ → Here → Step Datum) → List ℕ → Opened → List Datum → Step Datum
with_lambda block f l arguments = with_lambda_rule (inner d.undef block) f l arguments 3 top

abbrev untrue : Datum
untrue = d.flag false

-- each member in order, Undef and what is false too
each_member : (m : Environment)
    → run (with_lambda notice_x (codes "each") takes_x (list (one ∷ d.undef ∷ untrue ∷ text
    (codes "a") ∷ []) ∷ [])) m
    ≡ Ok (list (one ∷ d.undef ∷ untrue ∷ text (codes "a") ∷ []), codes "1" ∷ [] ∷ codes "false" ∷ codes "a" ∷ [])
unfolding with_lambda_rule lambda_function lambda_function_rule iterate_rule over_rule turns_from lambda_rule
    enter_lambda bind_from bind_rule assign read write_log scopes.assign scopes.read scopes.found last_cut
    scopes.seen_from digits
each_member m = refl

each_of_none : (m : Environment)
    → run (with_lambda fails (codes "each") takes_x (list [] ∷ [])) m ≡ Ok (list [], [])
unfolding with_lambda_rule lambda_function lambda_function_rule iterate_rule over_rule turns_from
each_of_none m = refl

-- the first fault is that of the call
each_fails : (m : Environment)
    → run (with_lambda fails (codes "each") takes_x (list (one ∷ one ∷ []) ∷ [])) m
    ≡ refuses 3 (what.Failed (codes "block"))
unfolding with_lambda_rule lambda_function lambda_function_rule iterate_rule over_rule turns_from lambda_rule
    enter_lambda bind_from bind_rule assign scopes.assign owner_at
each_fails m = refl

places_and_members : (m : Environment)
    → run (with_lambda notice_x_give_y (codes "map") takes_xy (list (text (codes "a") ∷ d.undef ∷ []) ∷ [])) m
    ≡ Ok (list (text (codes "a") ∷ d.undef ∷ []), codes "0" ∷ codes "1" ∷ [])
unfolding with_lambda_rule lambda_function lambda_function_rule iterate_rule over_rule turns_from lambda_rule
    enter_lambda bind_from bind_rule assign read write_log scopes.assign scopes.read scopes.found last_cut
    scopes.seen_from digits
places_and_members m = refl

keys_and_values : (m : Environment)
    → run (with_lambda notice_x_give_y (codes "map") takes_xy (hash ((text (codes "a"), one) ∷ (
      text
          (codes "b"),
      untrue,
    ) ∷ []) ∷ [])) m
    ≡ Ok (list (one ∷ untrue ∷ []), codes "a" ∷ codes "b" ∷ [])
unfolding with_lambda_rule lambda_function lambda_function_rule iterate_rule over_rule turns_from lambda_rule
    enter_lambda bind_from bind_rule assign read write_log scopes.assign scopes.read scopes.found last_cut
    scopes.seen_from
keys_and_values m = refl

pairs_alone : (m : Environment)
    → run (with_lambda notice_x (codes "map") takes_x (hash ((text (codes "a"), one) ∷ []) ∷ [])) m
    ≡ Ok (list (list (text (codes "a") ∷ one ∷ []) ∷ []), codes "[a, 1]" ∷ [])
unfolding with_lambda_rule lambda_function lambda_function_rule iterate_rule over_rule turns_from lambda_rule
    enter_lambda bind_from bind_rule assign read write_log scopes.assign scopes.read scopes.found last_cut
    scopes.seen_from digits
pairs_alone m = refl

filters : (m : Environment)
    → run (with_lambda notice_x (codes "filter") takes_x (list (one ∷ d.undef ∷ untrue ∷ text [] ∷ []) ∷ [])) m
    ≡ Ok (list (one ∷ text [] ∷ []), codes "1" ∷ [] ∷ codes "false" ∷ [] ∷ [])
unfolding with_lambda_rule lambda_function lambda_function_rule iterate_rule over_rule turns_from lambda_rule
    enter_lambda bind_from bind_rule assign read write_log scopes.assign scopes.read scopes.found last_cut
    scopes.seen_from digits
filters m = refl

-- the first that is true decides `any`, and the first that is not `all`: no further turn is taken
any_stops : (m : Environment)
    → run (with_lambda notice_x (codes "any") takes_x (list (untrue ∷ one ∷ text (codes "never") ∷ []) ∷ [])) m
    ≡ Ok (d.flag true, codes "false" ∷ codes "1" ∷ [])
unfolding with_lambda_rule lambda_function lambda_function_rule iterate_rule over_rule turns_from lambda_rule
    enter_lambda bind_from bind_rule assign read write_log scopes.assign scopes.read scopes.found last_cut
    scopes.seen_from digits
any_stops m = refl

any_of_none : (m : Environment)
    → run (with_lambda notice_x (codes "any") takes_x (list (untrue ∷ d.undef ∷ []) ∷ [])) m
    ≡ Ok (d.flag false, codes "false" ∷ [] ∷ [])
unfolding with_lambda_rule lambda_function lambda_function_rule iterate_rule over_rule turns_from lambda_rule
    enter_lambda bind_from bind_rule assign read write_log scopes.assign scopes.read scopes.found last_cut
    scopes.seen_from
any_of_none m = refl

all_stops : (m : Environment)
    → run (with_lambda notice_x (codes "all") takes_x (list (one ∷ d.undef ∷ text (codes "never") ∷ []) ∷ [])) m
    ≡ Ok (d.flag false, codes "1" ∷ [] ∷ [])
unfolding with_lambda_rule lambda_function lambda_function_rule iterate_rule over_rule turns_from lambda_rule
    enter_lambda bind_from bind_rule assign read write_log scopes.assign scopes.read scopes.found last_cut
    scopes.seen_from digits
all_stops m = refl

all_of_all : (m : Environment)
    → run (with_lambda notice_x (codes "all") takes_x (list (one ∷ one ∷ []) ∷ [])) m
    ≡ Ok (d.flag true, codes "1" ∷ codes "1" ∷ [])
unfolding with_lambda_rule lambda_function lambda_function_rule iterate_rule over_rule turns_from lambda_rule
    enter_lambda bind_from bind_rule assign read write_log scopes.assign scopes.read scopes.found last_cut
    scopes.seen_from digits
all_of_all m = refl

-- with a start value, each member is a turn
reduces_from_start : (m : Environment)
    → run (with_lambda notice_x_give_y (codes "reduce") takes_xy (list (one ∷ untrue ∷ []) ∷ text
    (codes "start") ∷ [])) m
    ≡ Ok (untrue, codes "start" ∷ codes "1" ∷ [])
unfolding with_lambda_rule lambda_function lambda_function_rule reduce_rule reduced reduce_from lambda_rule
    enter_lambda bind_from bind_rule assign read write_log scopes.assign scopes.read scopes.found last_cut
    scopes.seen_from digits
reduces_from_start m = refl

-- without one, the first member is the first memo
reduces : (m : Environment)
    → run (with_lambda notice_x_give_y (codes "reduce") takes_xy (list (text
    (codes "a") ∷ d.undef ∷ one ∷ []) ∷ [])) m
    ≡ Ok (one, codes "a" ∷ [] ∷ [])
unfolding with_lambda_rule lambda_function lambda_function_rule reduce_rule reduced reduce_from lambda_rule
    enter_lambda bind_from bind_rule assign read write_log scopes.assign scopes.read scopes.found last_cut
    scopes.seen_from
reduces m = refl

reduces_one : (m : Environment)
    → run (with_lambda fails (codes "reduce") takes_xy (list (one ∷ []) ∷ [])) m ≡ Ok (one, [])
unfolding with_lambda_rule lambda_function lambda_function_rule reduce_rule reduced reduce_from
reduces_one m = refl

reduces_none : (m : Environment)
    → run (with_lambda fails (codes "reduce") takes_xy (list [] ∷ [])) m ≡ Ok (d.undef, [])
unfolding with_lambda_rule lambda_function lambda_function_rule reduce_rule reduced
reduces_none m = refl

takes_arguments : (m : Environment)
    → run (with_lambda notice_x_give_y (codes "with") takes_xy (one ∷ untrue ∷ [])) m ≡ Ok
    (untrue, codes "1" ∷ [])
unfolding with_lambda_rule lambda_function lambda_function_rule with_rule lambda_rule enter_lambda bind_from bind_rule
    assign read write_log scopes.assign scopes.read scopes.found last_cut scopes.seen_from digits
takes_arguments m = refl

takes_no_arguments : (m : Environment)
    → run (with_lambda fails (codes "with") (takes []) []) m ≡ refuses 3 (what.Failed (codes "block"))
unfolding with_lambda_rule lambda_function lambda_function_rule with_rule lambda_rule enter_lambda bind_from owner_at
takes_no_arguments m = refl

-- ---- what they do not take: the block, which fails, is never evaluated

abbrev is_wrong : List ℕ → Opened → List Datum → Type 0
is_wrong f l arguments = (m : Environment)
    → run (with_lambda fails f l arguments) m ≡ refuses 3 (what.WrongArguments f)

-- another number of parameters, also where there is nothing to go through
each_params : is_wrong (codes "each") (takes []) (list [] ∷ [])
unfolding with_lambda_rule lambda_function lambda_function_rule iterate_rule over_rule owner_at
each_params m = refl

map_params : is_wrong (codes "map") (takes (plain x 7 ∷ plain x 7 ∷ plain x 7 ∷ [])) (list [] ∷ [])
unfolding with_lambda_rule lambda_function lambda_function_rule iterate_rule over_rule owner_at
map_params m = refl

reduce_params : is_wrong (codes "reduce") takes_x (list [] ∷ [])
unfolding with_lambda_rule lambda_function lambda_function_rule reduce_rule owner_at
reduce_params m = refl

with_params : is_wrong (codes "with") takes_xy (one ∷ [])
unfolding with_lambda_rule lambda_function lambda_function_rule with_rule owner_at
with_params m = refl

-- another number of arguments
filter_of_two : is_wrong (codes "filter") takes_x (list [] ∷ list [] ∷ [])
unfolding with_lambda_rule lambda_function lambda_function_rule iterate_rule owner_at
filter_of_two m = refl

any_of_no_argument : is_wrong (codes "any") takes_x []
unfolding with_lambda_rule lambda_function lambda_function_rule iterate_rule owner_at
any_of_no_argument m = refl

reduce_of_three : is_wrong (codes "reduce") takes_xy (list [] ∷ one ∷ one ∷ [])
unfolding with_lambda_rule lambda_function lambda_function_rule reduce_rule owner_at
reduce_of_three m = refl

-- neither a list nor a hash
all_of_text : is_wrong (codes "all") takes_x (text (codes "a") ∷ [])
unfolding with_lambda_rule lambda_function lambda_function_rule iterate_rule over_rule owner_at
all_of_text m = refl

reduce_of_number : is_wrong (codes "reduce") takes_xy (one ∷ [])
unfolding with_lambda_rule lambda_function lambda_function_rule reduce_rule owner_at
reduce_of_number m = refl
