-- The function `lookup` at worked examples. Each line holds by computing.
use Rattle.std.proofs.Common.{◌≡◌, ℕ, false, pos, List, [], ◌∷◌, Option, None, Some}
use Rattle.std.proofs.Common.{Result, Ok, Err, refl, codes}
use Rattle.serde_json.proofs.OnLiterals.{serde_json_on_literals}
use Rattle.pp_tree.specs.declared.file.File.{File}
use Rattle.pp_tree.specs.declared.manifest_file.ManifestFile.{ManifestFile}
use Rattle.pp_values.specs.Datum as d
use Rattle.pp_values.specs.Datum.{Datum, Pair, data_of, entries_of}
use Rattle.pp_values.specs.Faults as faults
use Rattle.pp_values.specs.Sort as sort
use Rattle.pp_values.specs.Sort.{Sort, of, none}
use Rattle.pp_values.specs.declared.fault.Fault.{Fault}
use Rattle.pp_values.specs.declared.fault.What.{What}
use Rattle.pp_values.specs.declared.fault.What.TheVariants as what
use Rattle.pp_values.specs.declared.reference.Reference.{Reference}
use Rattle.scope_core.specs.Names.{last_cut}
use Rattle.scope_core.specs.Scopes as scopes
use Rattle.hiera_config.specs.Cuts.{cut_at, trimmed_start, trimmed_end}
use Rattle.hiera_config.specs.Meant.{go_on, in_turn}
use Rattle.hiera_config.specs.Pieces.{pieces_from, path_form, form_of, method_of, whole_alias}
use Rattle.hiera_config.specs.Sources.{in_template, in_level, in_layer, in_module}
use Rattle.hiera_lookup.specs.Found.{found, found_in}
use Rattle.hiera_lookup.specs.Look.{answer, answers, interpolated, option_for, merge_for, look_within, look}
use Rattle.hiera_lookup.specs.Options.{option_in, bad_options}
use Rattle.hiera_merge.specs.declared.merge.Merge.{Merge}
use Rattle.hiera_merge.specs.declared.merge.Merge.TheVariants as by
use Rattle.eval_world.specs.Data.{look_up}
use Rattle.eval_world.specs.Environment.{Environment}
use Rattle.eval_world.specs.Outcomes.{Outcome, Step, ◌>>=◌, ◌>>◌}
use Rattle.eval_world.specs.Owners.{owner_at}
use Rattle.eval_world.specs.Worlds.{empty, top, assign, enter_lambda}
use Rattle.eval_world.specs.declared.here.Here.{Here}
use Rattle.eval_calls.specs.LookUps.{Options, Request, options_in, keys_from, request_of}
use Rattle.eval_calls.specs.LookUps.{first_found, found_rule, lookup_rule}

-- ---- what the examples are made of

abbrev n : ℕ → Datum
n i = d.int (pos i)

abbrev t : List ℕ → Datum
t letters = d.text letters

abbrev list : List Datum → Datum
list ds = d.list (data_of ds)

abbrev hash : List Pair → Datum
hash ps = d.hash (entries_of ps)

abbrev at : List ℕ → Datum → Pair
at name value = (t name, value)

-- ---- keys

abbrev asks : List (List ℕ) → Option Request
asks keys = Some (record { keys = keys; options = record { of_type = None; merge = None; default = None } })

-- a text, or a list of texts, which may be empty
keys : (request_of (t (codes "k") ∷ []) ≡ asks (codes "k" ∷ [])) × (request_of (t [] ∷ []) ≡ asks ([] ∷ []))
    × (request_of (list (t (codes "k") ∷ t (codes "j") ∷ []) ∷ []) ≡ asks (codes "k" ∷ codes "j" ∷ []))
    × (request_of (list [] ∷ []) ≡ asks [])
unfolding keys_from
keys = (refl, refl, refl, refl)

no_keys : (request_of [] ≡ None) × (request_of (n 1 ∷ []) ≡ None) × (request_of (d.undef ∷ []) ≡ None)
    × (request_of (hash [] ∷ []) ≡ None) × (request_of (list (t (codes "k") ∷ n 1 ∷ []) ∷ []) ≡ None)
    × (request_of (list (list (t (codes "k") ∷ []) ∷ []) ∷ []) ≡ None)
unfolding keys_from
no_keys = (refl, refl, refl, refl, refl, refl)

-- ---- behind the key

abbrev gives : Option Datum → Option Merge → Option Datum → Option Options
gives of_type merge default = Some (record { of_type = of_type; merge = merge; default = default })

-- a type, whatever it is, or a reference
types : (s : Sort) (r : Reference) → (options_in [] ≡ gives None None None) × (options_in (d.undef ∷ []) ≡ gives None None None)
    × (options_in (d.kind s ∷ []) ≡ gives (Some (d.kind s)) None None)
    × (options_in (d.kind s ∷ t (codes "deep") ∷ []) ≡ gives (Some (d.kind s)) (Some by.Deep) None)
    × (options_in (d.kind s ∷ d.undef ∷ n 1 ∷ []) ≡ gives (Some (d.kind s)) None (Some (n 1)))
    × (options_in (d.reference r ∷ []) ≡ gives (Some (d.reference r)) None None)
types s r = (refl, refl, refl, refl, refl, refl)

no_types : (options_in (n 1 ∷ []) ≡ None) × (options_in (t (codes "hash") ∷ []) ≡ None)
    × (options_in (list [] ∷ []) ≡ None) × (options_in (d.default ∷ []) ≡ None) × (options_in (d.flag false ∷ []) ≡ None)
    × (options_in (hash [] ∷ d.undef ∷ []) ≡ None)
    × (options_in (hash [] ∷ d.undef ∷ d.undef ∷ []) ≡ None)
no_types = (refl, refl, refl, refl, refl, refl, refl)

abbrev with_merge : Datum → Option Options
with_merge m = options_in (d.undef ∷ m ∷ [])

abbrev strategy : Datum → Datum
strategy name = hash (at (codes "strategy") name ∷ [])

merges : (with_merge d.undef ≡ gives None None None)
    × (with_merge (t (codes "first")) ≡ gives None (Some by.First) None)
    × (with_merge (t (codes "unique")) ≡ gives None (Some by.Unique) None)
    × (with_merge (t (codes "hash")) ≡ gives None (Some by.Hash) None)
    × (with_merge (t (codes "deep")) ≡ gives None (Some by.Deep) None)
    × (with_merge (strategy (t (codes "hash"))) ≡ gives None (Some by.Hash) None)
merges = (refl, refl, refl, refl, refl, refl)

no_merges : (s : Sort) → (with_merge (t (codes "some")) ≡ None) × (with_merge (t (codes "First")) ≡ None)
    × (with_merge (n 1) ≡ None) × (with_merge (d.kind s) ≡ None) × (with_merge (hash []) ≡ None)
    × (with_merge (strategy (t (codes "some"))) ≡ None) × (with_merge (strategy d.undef) ≡ None)
    × (with_merge (hash (at (codes "merge") (t (codes "deep")) ∷ [])) ≡ None)
    × (with_merge (hash (at (codes "strategy") (t (codes "deep")) ∷ at (codes "other") (n 1) ∷ [])) ≡ None)
no_merges s = (refl, refl, refl, refl, refl, refl, refl, refl, refl)

-- any value, Undef too
defaults : (options_in (d.undef ∷ d.undef ∷ n 1 ∷ []) ≡ gives None None (Some (n 1)))
    × (options_in (d.undef ∷ d.undef ∷ d.undef ∷ []) ≡ gives None None (Some d.undef))
    × (options_in (d.undef ∷ t (codes "deep") ∷ hash [] ∷ []) ≡ gives None (Some by.Deep) (Some (hash [])))
    × (options_in (d.undef ∷ d.undef ∷ n 1 ∷ n 2 ∷ []) ≡ None)
defaults = (refl, refl, refl, refl)

-- ---- a hash of options

abbrev named : List Pair → Option Options
named ps = options_in (hash ps ∷ [])

options : (s : Sort) → (named [] ≡ gives None None None)
    × (named (at (codes "value_type") (d.kind s) ∷ []) ≡ gives (Some (d.kind s)) None None)
    × (named (at (codes "value_type") d.undef ∷ []) ≡ gives None None None)
    × (named (at (codes "merge") (t (codes "unique")) ∷ []) ≡ gives None (Some by.Unique) None)
    × (named (at (codes "merge") (strategy (t (codes "deep"))) ∷ []) ≡ gives None (Some by.Deep) None)
    × (named (at (codes "merge") d.undef ∷ []) ≡ gives None None None)
    × (named (at (codes "default_value") (n 1) ∷ []) ≡ gives None None (Some (n 1)))
    × (named (at (codes "default_value") d.undef ∷ []) ≡ gives None None (Some d.undef))
    × (named (at (codes "default_value") (n 1) ∷ at (codes "value_type") (d.kind s)
    ∷ at (codes "merge") (t (codes "hash")) ∷ []) ≡ gives (Some (d.kind s)) (Some by.Hash) (Some (n 1)))
options s = (refl, refl, refl, refl, refl, refl, refl, refl, refl)

no_options : (named (at (codes "value_type") (t (codes "String")) ∷ []) ≡ None)
    × (named (at (codes "merge") (t (codes "some")) ∷ []) ≡ None) × (named (at (codes "merge") (hash []) ∷ []) ≡ None)
    × (named (at (codes "other") (n 1) ∷ []) ≡ None) × (named ((n 1, n 1) ∷ []) ≡ None)
    × (named (at (codes "Merge") (t (codes "deep")) ∷ []) ≡ None)
    × (named (at (codes "default_value") (n 1) ∷ at (codes "default_values_hash") (hash []) ∷ []) ≡ None)
no_options = (refl, refl, refl, refl, refl, refl, refl)

-- ---- what it gives

abbrev shown : Outcome Datum → Result Datum Fault
shown (Ok p) = Ok p.0
shown (Err f) = Err f

abbrev refuses : What → Result Datum Fault
refuses w = Err (faults.fault (record { file = codes "manifests/site.pp"; line = 3 }) w)

-- a call at line 3 of the main manifest
abbrev lookup : List Datum → Here → Step Datum
lookup arguments here = lookup_rule (codes "lookup") arguments 3 here

abbrev given : Environment → List Datum → Result Datum Fault
given e arguments = shown (lookup arguments top (empty e))

-- F7 comes before any key is looked up: it doesn't depend on the data
refused_first : (e : Environment) (s : Sort)
    → (given e [] ≡ refuses (what.WrongArguments (codes "lookup")))
    × (given e (t (codes "k") ∷ n 1 ∷ []) ≡ refuses (what.WrongArguments (codes "lookup")))
    × (given e (t (codes "k") ∷ d.kind s ∷ t (codes "some") ∷ [])
    ≡ refuses (what.WrongArguments (codes "lookup")))
    × (given e (t (codes "k") ∷ hash (at (codes "value_type") (d.kind s) ∷ at (codes "other") (n 1) ∷ []) ∷ [])
    ≡ refuses (what.WrongArguments (codes "lookup")))
unfolding lookup_rule keys_from owner_at
refused_first e s = (refl, refl, refl, refl)

-- no key: whatever the data
without_keys : (e : Environment)
    → (given e (list [] ∷ []) ≡ refuses (what.LookupMissing []))
    × (given e (list [] ∷ d.undef ∷ d.undef ∷ n 1 ∷ []) ≡ Ok (n 1))
    × (given e (list [] ∷ hash (at (codes "default_value") d.undef ∷ []) ∷ []) ≡ Ok d.undef)
unfolding lookup_rule found_rule first_found keys_from owner_at
without_keys e = (refl, refl, refl)

-- a site of one data file: `k` is 1, `l` a list, `u` Undef, `x` the text of the variable `x`, `b` no 64-bit integer
abbrev site : File → List (List ℕ × ManifestFile) → Environment
site main files = record {
  main = main;
  files = files;
  site_data =
      (codes "data/c.json", codes "{\"k\":1,\"l\":[1,1],\"u\":null,\"x\":\"%{x}\",\"b\":0.5}")
      ∷ (codes "hiera.yaml", codes "{\"version\":5,\"hierarchy\":[{\"name\":\"a\",\"path\":\"c.json\"}]}") ∷ [];
}

-- a value that is there is given, and no default; Undef is such a value
found_values : (f : File) (fs : List (List ℕ × ManifestFile))
    → (given (site f fs) (t (codes "k") ∷ []) ≡ Ok (n 1))
    × (given (site f fs) (t (codes "l.0") ∷ d.undef ∷ d.undef ∷ n 2 ∷ []) ≡ Ok (n 1))
    × (given (site f fs) (t (codes "u") ∷ d.undef ∷ d.undef ∷ n 2 ∷ []) ≡ Ok d.undef)
    × (given (site f fs) (t (codes "l") ∷ []) ≡ Ok (list (n 1 ∷ n 1 ∷ [])))
    × (given (site f fs) (t (codes "l") ∷ d.undef ∷ t (codes "unique") ∷ []) ≡ Ok (list (n 1 ∷ [])))
    × (given (site f fs) (t (codes "l") ∷ hash (at (codes "merge") (t (codes "unique")) ∷ []) ∷ [])
    ≡ Ok (list (n 1 ∷ [])))
unfolding lookup_rule found_rule first_found keys_from owner_at look_up go_on in_turn in_template in_level in_layer
    in_module pieces_from path_form form_of method_of whole_alias cut_at trimmed_start trimmed_end look look_within
    interpolated answers answer option_for merge_for option_in bad_options found found_in serde_json_on_literals
found_values f fs = (refl, refl, refl, refl, refl, refl)

-- without a value the default, where there is one; F20 names the first key
missing : (f : File) (fs : List (List ℕ × ManifestFile))
    → (given (site f fs) (t (codes "none") ∷ []) ≡ refuses (what.LookupMissing (codes "none")))
    × (given (site f fs) (t (codes "none") ∷ d.undef ∷ d.undef ∷ n 2 ∷ []) ≡ Ok (n 2))
    × (given (site f fs) (t (codes "none") ∷ hash (at (codes "default_value") d.undef ∷ []) ∷ []) ≡ Ok d.undef)
    × (given (site f fs) (list (t (codes "none") ∷ t (codes "gone") ∷ []) ∷ [])
    ≡ refuses (what.LookupMissing (codes "none")))
unfolding lookup_rule found_rule first_found keys_from owner_at look_up go_on in_turn in_template in_level in_layer
    in_module pieces_from path_form form_of method_of whole_alias cut_at trimmed_start trimmed_end look look_within
    interpolated answers answer option_for merge_for option_in bad_options found found_in serde_json_on_literals
missing f fs = (refl, refl, refl, refl)

abbrev integers : Datum
integers = d.kind (of sort.integer none)

-- what is found, or the default, is of the type, else F8
typed : (f : File) (fs : List (List ℕ × ManifestFile))
    → (given (site f fs) (t (codes "k") ∷ integers ∷ []) ≡ Ok (n 1))
    × (given (site f fs) (t (codes "l") ∷ integers ∷ []) ≡ refuses (what.TypeMismatch (codes "lookup")))
    × (given (site f fs) (t (codes "none") ∷ integers ∷ d.undef ∷ n 2 ∷ []) ≡ Ok (n 2))
    × (given (site f fs) (t (codes "none") ∷ hash (at (codes "value_type") integers
    ∷ at (codes "default_value") d.undef ∷ []) ∷ []) ≡ refuses (what.TypeMismatch (codes "lookup")))
    × (given (site f fs) (t (codes "none") ∷ integers ∷ []) ≡ refuses (what.LookupMissing (codes "none")))
unfolding lookup_rule found_rule first_found keys_from owner_at look_up go_on in_turn in_template in_level in_layer
    in_module pieces_from path_form form_of method_of whole_alias cut_at trimmed_start trimmed_end look look_within
    interpolated answers answer option_for merge_for option_in bad_options found found_in serde_json_on_literals
typed f fs = (refl, refl, refl, refl, refl)

-- The first key that has a value gives the result, and no later one is looked up. A fault is the call's, also where a
-- later key has a value or a default is given; the call's merge is that of each key.
several_keys : (f : File) (fs : List (List ℕ × ManifestFile))
    → (given (site f fs) (list (t (codes "none") ∷ t (codes "k") ∷ []) ∷ []) ≡ Ok (n 1))
    × (given (site f fs) (list (t (codes "k") ∷ t (codes "b") ∷ []) ∷ []) ≡ Ok (n 1))
    × (given (site f fs) (list (t (codes "none") ∷ t (codes "b") ∷ t (codes "k") ∷ []) ∷ d.undef ∷ d.undef ∷ n 2 ∷ [])
    ≡ refuses (what.BadData (codes "data/c.json")))
    × (given (site f fs) (list (t (codes "none") ∷ t (codes "k") ∷ []) ∷ d.undef ∷ t (codes "hash") ∷ [])
    ≡ refuses (what.MergeMismatch (codes "k")))
unfolding lookup_rule found_rule first_found keys_from owner_at look_up go_on in_turn in_template in_level in_layer
    in_module pieces_from path_form form_of method_of whole_alias cut_at trimmed_start trimmed_end look look_within
    interpolated answers answer option_for merge_for option_in bad_options found found_in serde_json_on_literals
several_keys f fs = (refl, refl, refl, refl)

-- ---- variables are those of the scope that the call stands in

abbrev x : List ℕ
x = codes "x"

abbrev inside : Step Datum
inside = do
  own ← enter_lambda top
  assign own x (t (codes "inner")) 2
  lookup (t x ∷ []) own

-- `x` is set in top scope, and in that of a lambda's call
scoped : (f : File) (fs : List (List ℕ × ManifestFile))
    → (shown ((assign top x (t (codes "outer")) 1 >> inside) (empty (site f fs))) ≡ Ok (t (codes "inner")))
    × (shown ((assign top x (t (codes "outer")) 1 >> (inside >> lookup (t x ∷ []) top)) (empty (site f fs)))
    ≡ Ok (t (codes "outer")))
    × (given (site f fs) (t x ∷ []) ≡ Ok (t []))
unfolding lookup_rule found_rule first_found keys_from owner_at look_up go_on in_turn in_template in_level in_layer
    in_module pieces_from path_form form_of method_of whole_alias cut_at trimmed_start trimmed_end look look_within
    interpolated answers answer option_for merge_for option_in bad_options found found_in serde_json_on_literals
    assign enter_lambda scopes.assign scopes.found scopes.seen_from last_cut
scoped f fs = (refl, refl, refl)
