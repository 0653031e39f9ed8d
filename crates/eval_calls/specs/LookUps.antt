-- The function `lookup`.
use denote.Ref.{Bor}
use Rattle.std.specs.Prelude.{ℕ, Bool, true, false, ◌||◌, if◌then◌else◌, List, [], ◌∷◌, ◌++◌}
use Rattle.std.specs.Prelude.{Option, None, Some, option_map, option_and_then, codes}
use Rattle.std.specs.List.{list_all}
use Rattle.std.specs.Str.{bytes_eq}
use Rattle.expr_eval.specs.Testing.{is_of}
use Rattle.hiera_merge.specs.Digging.{member}
use Rattle.hiera_merge.specs.Options.{merge_in}
use Rattle.hiera_merge.specs.declared.merge.Merge.{Merge}
use Rattle.pp_values.specs.Datum as d
use Rattle.pp_values.specs.Datum.{Datum, Pair, members_of, pairs_of}
use Rattle.pp_values.specs.Views.{view}
use Rattle.pp_values.specs.declared.fault.What.TheVariants as what
use Rattle.pp_values.specs.declared.place.Place.{Place}
use Rattle.pp_values.specs.declared.value.Value.{Value}
use Rattle.eval_world.specs.Data.{look_up}
use Rattle.eval_world.specs.Outcomes.{Step, ◌>>=◌, pure, answered}
use Rattle.eval_world.specs.Worlds.{fault, place_at, wrong}
use Rattle.eval_world.specs.declared.here.Here.{Here}
use Rattle.eval_calls.specs.declared.request.Options as held_options
use Rattle.eval_calls.specs.declared.request.Request as held_request

-- ---- what is given beside the keys

pub record Options : Type 0 where
  pub of_type : Option Datum
  pub merge : Option Merge
  pub default : Option Datum

-- in the place of the type: none or Undef, or a data type, which a reference counts as
abbrev pub type_given : Option Datum → Option (Option Datum)
type_given None = Some None
type_given (Some d.undef) = Some None
type_given (Some (d.kind t)) = Some (Some (d.kind t))
type_given (Some (d.reference r)) = Some (Some (d.reference r))
type_given (Some _) = None

-- in the place of the merge: none or Undef, or its name, or a hash that has its name as `strategy` and nothing else
abbrev pub merge_given : Option Datum → Option (Option Merge)
merge_given None = Some None
merge_given (Some d.undef) = Some None
merge_given (Some value) = option_map Some (merge_in value)

abbrev pub options_by : Option (Option Datum) → Option (Option Merge) → Option Datum → Option Options
options_by None merge default = None
options_by (Some of_type) None default = None
options_by (Some of_type) (Some merge) default =
    Some (record { of_type = of_type; merge = merge; default = default })

-- any value that is given as the default is one, Undef too
abbrev pub options_of : Option Datum → Option Datum → Option Datum → Option Options
options_of of_type merge default = options_by (type_given of_type) (merge_given merge) default

-- the members that a hash of options may have
abbrev pub is_option : Datum → Bool
is_option (d.text name) =
    bytes_eq name (codes "value_type") || bytes_eq name (codes "merge") || bytes_eq name (codes "default_value")
is_option _ = false

abbrev pub are_options : List Pair → Bool
are_options ps = list_all (λ p. is_option p.0) ps

abbrev pub named_options : Datum → Option Options
named_options options =
    options_of (member (codes "value_type") options) (member (codes "merge") options)
    (member (codes "default_value") options)

-- one value alone: a hash of options, or else it is in the place of the type
abbrev pub options_in_one : Datum → Option Options
options_in_one (d.hash es) = if are_options (pairs_of es) then named_options (d.hash es) else None
options_in_one one = options_of (Some one) None None

-- what stands behind the key
abbrev pub options_in : List Datum → Option Options
options_in [] = options_of None None None
options_in (one ∷ []) = options_in_one one
options_in (of_type ∷ merge ∷ []) = options_of (Some of_type) (Some merge) None
options_in (of_type ∷ merge ∷ otherwise ∷ []) = options_of (Some of_type) (Some merge) (Some otherwise)
options_in (of_type ∷ merge ∷ otherwise ∷ more ∷ rest) = None

-- ---- what is asked for

pub record Request : Type 0 where
  pub keys : List (List ℕ)
  pub options : Options

abbrev pub key_in : Datum → Option (List ℕ)
key_in (d.text key) = Some key
key_in _ = None

-- the texts among these values, behind those that are there; none where one is no text
unfoldable pub keys_from : List (List ℕ) → List Datum → Option (List (List ℕ))
keys_from done [] = Some done
keys_from done (x ∷ xs) = option_and_then (λ key. keys_from (done ++ key ∷ []) xs) (key_in x)

-- a text or a list of texts
abbrev pub keys_in : Datum → Option (List (List ℕ))
keys_in (d.text key) = Some (key ∷ [])
keys_in (d.list ds) = keys_from [] (members_of ds)
keys_in _ = None

abbrev pub request_by : Option (List (List ℕ)) → Option Options → Option Request
request_by None options = None
request_by (Some keys) None = None
request_by (Some keys) (Some options) = Some (record { keys = keys; options = options })

-- None where the function does not take these arguments
abbrev pub request_of : List Datum → Option Request
request_of [] = None
request_of (key ∷ rest) = request_by (keys_in key) (options_in rest)

-- ---- what the code holds says this

abbrev pub value_seen : Bor Value → Datum
value_seen v = view v.now

abbrev pub options_seen : held_options.Options → Options
options_seen o = record {
  of_type = option_map value_seen o.of_type;
  merge = o.merge;
  default = option_map value_seen o.default;
}

abbrev pub request_seen : held_request.Request → Request
request_seen r = record { keys = r.keys; options = options_seen r.options }

-- ---- what it gives

-- what was found ends the search
abbrev pub or_next : Option Datum → Step (Option Datum) → Step (Option Datum)
or_next (Some value) next = pure (Some value)
or_next None next = next

-- the keys in order, with the variables of this scope: the first that has a value, or the first fault before it
unfoldable pub first_found : ℕ → List (List ℕ) → Option Merge → Place → Step (Option Datum)
first_found scope [] merge at = pure None
first_found scope (key ∷ keys) merge at = do
  found ← look_up scope key merge at
  or_next found (first_found scope keys merge at)

-- F20 names the first key, and nothing where there is none
abbrev pub first_key : List (List ℕ) → List ℕ
first_key [] = []
first_key (key ∷ keys) = key

abbrev pub default_or_fault : Option Datum → List (List ℕ) → ℕ → Here → Step Datum
default_or_fault (Some value) keys line here = pure value
default_or_fault None keys line here = fault here line (what.LookupMissing (first_key keys))

-- the value that was found, else the default, else F20
abbrev pub found_or : Option Datum → Request → ℕ → Here → Step Datum
found_or (Some value) r line here = pure value
found_or None r line here = default_or_fault r.options.default r.keys line here

-- the value, also one that is a default, is of the type that is asked for, else F8
abbrev pub fitting : Bool → Datum → ℕ → Here → Step Datum
fitting true value line here = pure value
fitting false value line here = fault here line (what.TypeMismatch (codes "lookup"))

abbrev pub of_type : Option Datum → Datum → ℕ → Here → Step Datum
of_type None value line here = pure value
of_type (Some wanted) value line here = do
  fits ← (λ w. answered (is_of value wanted (place_at w here line)) w)
  fitting fits value line here

-- in the scope that the call stands in, at its place
unfoldable pub found_rule : Request → ℕ → Here → Step Datum
found_rule r line here = do
  found ← (λ w. first_found here.scope.number r.keys r.options.merge (place_at w here line) w)
  value ← found_or found r line here
  of_type r.options.of_type value line here

abbrev pub lookup_by : Option Request → List ℕ → ℕ → Here → Step Datum
lookup_by None f line here = wrong f line here
lookup_by (Some r) f line here = found_rule r line here

-- what the arguments ask for, or F7, before any key is looked up
unfoldable pub lookup_rule : List ℕ → List Datum → ℕ → Here → Step Datum
lookup_rule f arguments line here = lookup_by (request_of arguments) f line here
