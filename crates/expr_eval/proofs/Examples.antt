-- The definitions at worked examples. Each line holds by computing.
use Rattle.std.proofs.Common.{◌≡◌, ℕ, Bool, true, false, Option, None, Some, List, [], ◌∷◌, map, pos, negsuc, refl, codes, Result, Ok, Err}
use Rattle.std.specs.Fmt.{digits}
use Rattle.std.specs.Str.{chars}
use Rattle.pp_values.specs.declared.bounds.Bound.TheVariants.{Number}
use Rattle.pp_values.specs.declared.fault.Fault.{Fault}
use Rattle.pp_values.specs.declared.fault.What.TheVariants as what
use Rattle.pp_values.specs.declared.place.Place.{Place}
use Rattle.pp_values.specs.Datum as d
use Rattle.pp_values.specs.Datum.{Datum, Pair, data_of, entries_of}
use Rattle.pp_values.specs.Faults.{fault}
use Rattle.pp_values.specs.Sort as n
use Rattle.pp_values.specs.Sort.{Name, Sort, of, none, kind, bound}
use Rattle.pp_ops.specs.declared.op.Op.{Op}
use Rattle.pp_ops.specs.declared.op.Op.TheVariants as op
use Rattle.pp_types.specs.Includes.{includes_within, includes}
use Rattle.pp_types.specs.Names.{data_type_named}
use Rattle.expr_eval.specs.declared.functions.Iteration.{Iteration}
use Rattle.expr_eval.specs.declared.functions.Iteration.TheVariants as iteration
use Rattle.expr_eval.specs.declared.functions.LambdaFunction.{LambdaFunction}
use Rattle.expr_eval.specs.declared.functions.LambdaFunction.TheVariants as f
use Rattle.expr_eval.specs.Combining.{combined}
use Rattle.expr_eval.specs.Gathering.{gathered, decides}
use Rattle.expr_eval.specs.Names.{lambda_function, name}
use Rattle.expr_eval.specs.Spreading.{spliced, spread}
use Rattle.expr_eval.specs.Testing.{is_of, option_takes}
use Rattle.pp_funcs.specs.Texts.{joined}
use Rattle.expr_eval.specs.Truth.{is_true}
use Rattle.expr_eval.specs.Turns.{Turn, turns_of, reduced_over, turn_of_with}
use Rattle.expr_eval.specs.TypeValues.{bare_type}

abbrev at : Place
at = record { file = codes "manifests/site.pp"; line = 3 }

abbrev text : List ℕ → Datum
text t = d.text t

abbrev list : List Datum → Datum
list ds = d.list (data_of ds)

abbrev hash : List Pair → Datum
hash ps = d.hash (entries_of ps)

abbrev a : Datum
a = text (codes "a")

abbrev b : Datum
b = text (codes "b")

abbrev big_a : Datum
big_a = text (codes "A")

abbrev zero : Datum
zero = d.int (pos 0)

abbrev one : Datum
one = d.int (pos 1)

abbrev two : Datum
two = d.int (pos 2)

abbrev three : Datum
three = d.int (pos 3)

abbrev yes : Datum
yes = d.flag true

abbrev no : Datum
no = d.flag false

abbrev ref : List ℕ → List ℕ → Datum
ref k t = d.reference (record { kind = k; title = t })

-- a data type without arguments, and `Integer` from a least one on
abbrev bare : Name → Sort
bare m = of m none

abbrev from : ℕ → Sort
from k = of n.integer (bound (Number (pos k)) none)

abbrev notify : Name
notify = n.kind_of_resource (codes "notify")

-- one value of each kind: Undef, true, 2, `a`, a list, a hash, a reference, a type, `default`
abbrev samples : List Datum
samples = d.undef ∷ yes ∷ two ∷ a ∷ list (one ∷ two ∷ []) ∷ hash ((a, one) ∷ []) ∷
    ref (codes "file") (codes "/a") ∷ d.kind (bare n.integer) ∷ d.default ∷ []

-- only `false` and Undef are false: not 0, and nothing that is empty
truths : map is_true samples ≡ false ∷ true ∷ true ∷ true ∷ true ∷ true ∷ true ∷ true ∷ true ∷ []
truths = refl

truths_of_empty : map is_true (no ∷ zero ∷ text [] ∷ list [] ∷ hash [] ∷ []) ≡ false ∷ true ∷ true ∷ true ∷ true ∷ []
truths_of_empty = refl

-- what types' names give: a data type, also behind `::`; any other name, such as one in other letters, is a kind of resource
names : map bare_type (codes "Integer" ∷ codes "::Integer" ∷ codes "INTEGER" ∷ codes "Notify" ∷ codes "Ntp::Server" ∷ codes "Class" ∷ [])
    ≡ d.kind (bare n.integer) ∷ d.kind (bare n.integer) ∷ d.kind (bare (n.kind_of_resource (codes "integer"))) ∷
    d.kind (bare notify) ∷ d.kind (bare (n.kind_of_resource (codes "ntp::server"))) ∷ d.kind (bare n.class) ∷ []
unfolding data_type_named
names = refl

-- access to a type
abbrev access : Sort → List Datum → Result Datum Fault
access s arguments = combined op.Access (d.kind s) (list arguments) at

abbrev wrong : List ℕ → Result Datum Fault
wrong t = Err (fault at (what.WrongArguments t))

abbrev bad : List ℕ → Result Datum Fault
bad t = Err (fault at (what.BadOperand t))

access_integer : access (bare n.integer) (one ∷ two ∷ [])
    ≡ Ok (d.kind (of n.integer (bound (Number (pos 1)) (bound (Number (pos 2)) none))))
access_integer = refl

-- `Integer[1][2]` is `Integer[2]`
access_again : access (from 1) (two ∷ []) ≡ Ok (d.kind (from 2))
access_again = refl

access_nothing : access (from 1) [] ≡ Ok (d.kind (bare n.integer))
access_nothing = refl

access_wrong : access (bare n.integer) (a ∷ []) ≡ wrong (codes "Integer")
access_wrong = refl

access_too_many : access (bare n.string) (one ∷ two ∷ three ∷ []) ≡ wrong (codes "String")
access_too_many = refl

access_any : access (bare n.any) (one ∷ []) ≡ wrong (codes "Any")
access_any = refl

-- `Array[Notify['a']]`: a reference as an argument is the type of its kind and title
access_reference : access (bare n.array) (ref (codes "notify") (codes "a") ∷ [])
    ≡ Ok (d.kind (of n.array (kind (of notify (n.text (codes "a") none)) none)))
access_reference = refl

-- `Notify['a']`, `Notify['']`, `Notify[]`, `Notify['a', 'b']`, `Notify[1]`
access_kind : map (access (bare notify)) ((a ∷ []) ∷ (text [] ∷ []) ∷ [] ∷ (a ∷ b ∷ []) ∷ (one ∷ []) ∷ [])
    ≡ Ok (ref (codes "notify") (codes "a")) ∷ Ok (ref (codes "notify") []) ∷ Ok (d.kind (bare notify)) ∷
    wrong (codes "Notify") ∷ wrong (codes "Notify") ∷ []
access_kind = refl

access_long_kind : access (bare (n.kind_of_resource (codes "ntp::server"))) (one ∷ []) ≡ wrong (codes "Ntp::Server")
access_long_kind = refl

-- `Class['::Foo']`, `Class[]`, `Class[1]`
access_class : map (access (bare n.class)) ((text (codes "::Foo") ∷ []) ∷ [] ∷ (one ∷ []) ∷ [])
    ≡ Ok (ref (codes "class") (codes "foo")) ∷ Ok (d.kind (bare n.class)) ∷ wrong (codes "Class") ∷ []
access_class = refl

-- `Notify['a']['b']`, and access without a list of arguments
access_of_reference : combined op.Access (ref (codes "notify") (codes "a")) (list (b ∷ [])) at ≡ bad (codes "[]")
access_of_reference = refl

access_without_list : combined op.Access (d.kind (bare n.integer)) one at ≡ bad (codes "[]")
access_without_list = refl

-- access to a list, as the operators have it
access_of_list : combined op.Access (list (a ∷ b ∷ [])) (list (d.int (negsuc 0) ∷ [])) at ≡ Ok b
access_of_list = refl

-- `in` with a type on the left: some member of a list, or some key of a hash; else not
abbrev within : Sort → Datum → Result Datum Fault
within s whole = combined op.Member (d.kind s) whole at

types_in : map (within (bare n.integer)) (list (a ∷ one ∷ []) ∷ hash ((a, one) ∷ (two, a) ∷ []) ∷ [])
    ≡ Ok yes ∷ Ok yes ∷ []
types_in = refl

types_not_in : map (within (bare n.integer))
    (list [] ∷ list (a ∷ list (one ∷ []) ∷ []) ∷ hash ((a, one) ∷ []) ∷ text (codes "1") ∷ one ∷ d.undef ∷
    d.kind (bare n.integer) ∷ [])
    ≡ Ok no ∷ Ok no ∷ Ok no ∷ Ok no ∷ Ok no ∷ Ok no ∷ Ok no ∷ []
types_not_in = refl

-- a value on the left, and a reference, are asked for by `==`
values_in : map (λ x. combined op.Member x (list (big_a ∷ ref (codes "notify") (codes "a") ∷ [])) at)
    (a ∷ ref (codes "notify") (codes "a") ∷ ref (codes "notify") (codes "A") ∷ b ∷ [])
    ≡ Ok yes ∷ Ok yes ∷ Ok no ∷ Ok no ∷ []
values_in = refl

-- the other operators, and their faults
operators : combined op.Add one two at ∷ combined op.Divide one zero at ∷ combined op.Add a one at ∷
    combined op.Equal (d.kind (from 1)) (d.kind (from 1)) at ∷ combined op.Negate (d.kind (from 1)) d.undef at ∷ []
    ≡ Ok three ∷ Err (fault at (what.ZeroDivisor (codes "/"))) ∷ bad (codes "+") ∷ Ok yes ∷ bad (codes "-") ∷ []
operators = refl

-- `value =~ type`
of_types : is_of one (d.kind (bare n.integer)) at ∷ is_of a (d.kind (bare n.integer)) at ∷
    is_of d.undef (d.kind (bare n.undef)) at ∷ is_of (list (one ∷ [])) (d.kind (of n.array (kind (bare n.integer) none))) at ∷
    is_of zero (d.kind (from 1)) at ∷ []
    ≡ Ok true ∷ Ok false ∷ Ok true ∷ Ok true ∷ Ok false ∷ []
of_types = refl

-- a reference on the right is the type of its kind and title, which accepts nothing; on the left it counts as that type
of_references : is_of (ref (codes "notify") (codes "a")) (ref (codes "notify") (codes "a")) at ∷
    is_of a (ref (codes "class") (codes "a")) at ∷
    is_of (ref (codes "notify") (codes "a")) (d.kind (of n.type_ (kind (bare notify) none))) at ∷
    is_of (ref (codes "notify") (codes "a")) (d.kind (bare notify)) at ∷ []
    ≡ Ok false ∷ Ok false ∷ Ok true ∷ Ok false ∷ []
unfolding includes includes_within
of_references = refl

-- anything else on the right
of_others : map (λ x. is_of one x at) (d.undef ∷ one ∷ a ∷ list (d.kind (bare n.integer) ∷ []) ∷ d.default ∷ [])
    ≡ map (λ x. Err (fault at (what.BadOperand (codes "=~")))) (d.undef ∷ one ∷ a ∷ list [] ∷ d.default ∷ [])
of_others = refl

-- options of `case` and selectors: equal with letters folded, or a type that accepts the control value
options : map (λ o. option_takes o a) (big_a ∷ b ∷ d.kind (bare n.string) ∷ d.kind (bare n.integer) ∷ d.default ∷ d.undef ∷ list (a ∷ []) ∷ [])
    ≡ true ∷ false ∷ true ∷ false ∷ false ∷ false ∷ false ∷ []
unfolding chars
options = refl

-- a type takes itself, and a reference itself alone
options_of_types : option_takes (d.kind (bare n.integer)) (d.kind (bare n.integer)) ∷
    option_takes (d.kind (bare n.integer)) (d.kind (from 1)) ∷
    option_takes (ref (codes "notify") (codes "a")) (ref (codes "notify") (codes "a")) ∷
    option_takes (ref (codes "notify") (codes "a")) (ref (codes "notify") (codes "b")) ∷
    option_takes (d.kind (bare notify)) (ref (codes "notify") (codes "a")) ∷ []
    ≡ true ∷ false ∷ true ∷ false ∷ false ∷ []
options_of_types = refl

-- the splat of each kind of value
splices : map spliced samples
    ≡ (d.undef ∷ []) ∷ (yes ∷ []) ∷ (two ∷ []) ∷ (a ∷ []) ∷ (one ∷ two ∷ []) ∷ (list (a ∷ one ∷ []) ∷ []) ∷
    (ref (codes "file") (codes "/a") ∷ []) ∷ (d.kind (bare n.integer) ∷ []) ∷ (d.default ∷ []) ∷ []
splices = refl

splices_in_order : map spliced (list [] ∷ hash [] ∷ list (list (one ∷ []) ∷ []) ∷ hash ((b, one) ∷ (a, two) ∷ []) ∷ [])
    ≡ [] ∷ [] ∷ (list (one ∷ []) ∷ []) ∷ (list (b ∷ one ∷ []) ∷ list (a ∷ two ∷ []) ∷ []) ∷ []
splices_in_order = refl

spreads : map spread (one ∷ d.undef ∷ list (one ∷ two ∷ []) ∷ hash ((b, one) ∷ (a, two) ∷ []) ∷ [])
    ≡ one ∷ d.undef ∷ list (one ∷ two ∷ []) ∷ list (list (b ∷ one ∷ []) ∷ list (a ∷ two ∷ []) ∷ []) ∷ []
spreads = refl

-- the names of the functions that take a lambda, letter by letter
functions : map lambda_function (codes "each" ∷ codes "map" ∷ codes "filter" ∷ codes "reduce" ∷ codes "any" ∷ codes "all" ∷ codes "with" ∷ codes "Each" ∷ codes "eac" ∷ [])
    ≡ Some (f.Iterate iteration.Each) ∷ Some (f.Iterate iteration.Map) ∷ Some (f.Iterate iteration.Filter) ∷ Some f.Reduce ∷
    Some (f.Iterate iteration.Any) ∷ Some (f.Iterate iteration.All) ∷ Some f.With ∷ None ∷ None ∷ []
unfolding lambda_function
functions = refl

abbrev every : List Iteration
every = iteration.Each ∷ iteration.Map ∷ iteration.Filter ∷ iteration.Any ∷ iteration.All ∷ []

abbrev letters : Datum
letters = list (a ∷ b ∷ [])

abbrev pairs : Datum
pairs = hash ((b, one) ∷ (a, two) ∷ [])

-- the turns of each function are the same
turns_of_list : map (λ i. turns_of i letters 1 at) every
    ≡ map (λ i. Ok ((a ∷ []) ∷ (b ∷ []) ∷ [])) every
turns_of_list = refl

turns_of_list_by_two : map (λ i. turns_of i letters 2 at) every
    ≡ map (λ i. Ok ((zero ∷ a ∷ []) ∷ (one ∷ b ∷ []) ∷ [])) every
turns_of_list_by_two = refl

turns_of_hash : turns_of iteration.Each pairs 1 at ≡ Ok ((list (b ∷ one ∷ []) ∷ []) ∷ (list (a ∷ two ∷ []) ∷ []) ∷ [])
turns_of_hash = refl

turns_of_hash_by_two : turns_of iteration.Map pairs 2 at ≡ Ok ((b ∷ one ∷ []) ∷ (a ∷ two ∷ []) ∷ [])
turns_of_hash_by_two = refl

turns_of_nothing : turns_of iteration.Any (list []) 1 at ∷ turns_of iteration.All (list []) 2 at ∷
    turns_of iteration.Filter (hash []) 1 at ∷ turns_of iteration.Each (hash []) 2 at ∷ []
    ≡ Ok [] ∷ Ok [] ∷ Ok [] ∷ Ok [] ∷ []
turns_of_nothing = refl

-- another number of parameters, of an empty list too, and other values
no_turns : turns_of iteration.Filter letters 0 at ∷ turns_of iteration.Filter letters 3 at ∷ []
    ≡ Err (fault at (what.WrongArguments (codes "filter"))) ∷ Err (fault at (what.WrongArguments (codes "filter"))) ∷ []
no_turns = refl

no_turns_of_nothing : map (λ i. turns_of i (list []) 0 at) every
    ≡ map (λ i. Err (fault at (what.WrongArguments (name i)))) every
no_turns_of_nothing = refl

abbrev others : List Datum
others = d.undef ∷ yes ∷ two ∷ a ∷ ref (codes "file") (codes "/a") ∷ d.kind (bare n.integer) ∷ d.default ∷ []

no_turns_of_others : map (λ x. turns_of iteration.Map x 1 at) others
    ≡ map (λ x. Err (fault at (what.WrongArguments (codes "map")))) others
no_turns_of_others = refl

no_turns_of_others_by_two : map (λ x. turns_of iteration.Each x 2 at) others
    ≡ map (λ x. Err (fault at (what.WrongArguments (codes "each")))) others
no_turns_of_others_by_two = refl

-- `reduce`, with and without a start value, of a list and a hash
reduces : map (λ arguments. reduced_over arguments 2 at)
    ((letters ∷ []) ∷ (letters ∷ three ∷ []) ∷ (pairs ∷ []) ∷ (pairs ∷ d.undef ∷ []) ∷ (list [] ∷ []) ∷ (list [] ∷ three ∷ []) ∷ [])
    ≡ Ok (a ∷ b ∷ []) ∷ Ok (three ∷ a ∷ b ∷ []) ∷ Ok (list (b ∷ one ∷ []) ∷ list (a ∷ two ∷ []) ∷ []) ∷
    Ok (d.undef ∷ list (b ∷ one ∷ []) ∷ list (a ∷ two ∷ []) ∷ []) ∷ Ok [] ∷ Ok (three ∷ []) ∷ []
reduces = refl

abbrev not_by_reduce : Result (List Datum) Fault
not_by_reduce = Err (fault at (what.WrongArguments (codes "reduce")))

not_reduced : reduced_over (letters ∷ []) 1 at ∷ reduced_over (list [] ∷ []) 3 at ∷ reduced_over [] 2 at ∷
    reduced_over (letters ∷ one ∷ two ∷ []) 2 at ∷ reduced_over (a ∷ []) 2 at ∷ reduced_over (d.undef ∷ one ∷ []) 2 at ∷ []
    ≡ not_by_reduce ∷ not_by_reduce ∷ not_by_reduce ∷ not_by_reduce ∷ not_by_reduce ∷ not_by_reduce ∷ []
not_reduced = refl

-- `with`
withs : turn_of_with [] 0 at ∷ turn_of_with (a ∷ []) 1 at ∷ turn_of_with (a ∷ b ∷ one ∷ []) 3 at ∷
    turn_of_with (a ∷ []) 2 at ∷ turn_of_with (a ∷ b ∷ []) 1 at ∷ turn_of_with [] 1 at ∷ []
    ≡ Ok [] ∷ Ok (a ∷ []) ∷ Ok (a ∷ b ∷ one ∷ []) ∷ Err (fault at (what.WrongArguments (codes "with"))) ∷
    Err (fault at (what.WrongArguments (codes "with"))) ∷ Err (fault at (what.WrongArguments (codes "with"))) ∷ []
withs = refl

-- what the functions make of the results: `each` its value; `map` the results, of a hash too
abbrev results : List Datum
results = d.undef ∷ zero ∷ []

gathers_each : map (λ x. gathered iteration.Each x results) (letters ∷ pairs ∷ []) ≡ letters ∷ pairs ∷ []
gathers_each = refl

gathers_map : map (λ x. gathered iteration.Map x results) (letters ∷ pairs ∷ []) ≡ list results ∷ list results ∷ []
gathers_map = refl

-- `filter` keeps the members, and the pairs, whose results are true
gathers_filter : map (λ x. gathered iteration.Filter x results) (letters ∷ pairs ∷ []) ≡ list (b ∷ []) ∷ hash ((a, two) ∷ []) ∷ []
gathers_filter = refl

gathers_filter_all : map (λ x. gathered iteration.Filter x (yes ∷ a ∷ [])) (letters ∷ pairs ∷ []) ≡ letters ∷ pairs ∷ []
gathers_filter_all = refl

-- `any` and `all`, of no results too
gathers_any : map (gathered iteration.Any letters) ([] ∷ (no ∷ d.undef ∷ []) ∷ (no ∷ a ∷ []) ∷ []) ≡ no ∷ no ∷ yes ∷ []
gathers_any = refl

gathers_all : map (gathered iteration.All letters) ([] ∷ (yes ∷ a ∷ []) ∷ (yes ∷ d.undef ∷ []) ∷ []) ≡ yes ∷ yes ∷ no ∷ []
gathers_all = refl

gathers_nothing : map (λ i. gathered i (list []) []) every ≡ list [] ∷ list [] ∷ list [] ∷ no ∷ yes ∷ []
gathers_nothing = refl

gathers_no_pairs : map (λ i. gathered i (hash []) []) every ≡ hash [] ∷ list [] ∷ hash [] ∷ no ∷ yes ∷ []
gathers_no_pairs = refl

-- the result at which no further turn is taken
decided_by_true : map (λ i. decides i zero) every ≡ false ∷ false ∷ false ∷ true ∷ false ∷ []
decided_by_true = refl

decided_by_undef : map (λ i. decides i d.undef) every ≡ false ∷ false ∷ false ∷ false ∷ true ∷ []
decided_by_undef = refl

-- the text of a log line
lines : map joined ([] ∷ (a ∷ []) ∷ (a ∷ one ∷ d.undef ∷ yes ∷ list (a ∷ b ∷ []) ∷ []) ∷ [])
    ≡ [] ∷ codes "a" ∷ codes "a 1  true [a, b]" ∷ []
unfolding digits
lines = refl
