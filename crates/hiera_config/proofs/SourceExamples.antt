-- The sources of some keys, in some files.
use Rattle.std.proofs.Common.{◌≡◌, ℕ, List, [], ◌∷◌, Some, None, Ok, Err, if◌then◌else◌, pos, codes, refl}
use Rattle.std.specs.Fmt.{digits}
use Rattle.std.specs.Str.{bytes_eq}
use Rattle.serde_json.proofs.OnLiterals.{serde_json_on_literals}
use Rattle.pp_values.specs.Datum as d
use Rattle.pp_values.specs.Datum.{Datum, data_of, entries_of}
use Rattle.pp_values.specs.declared.fault.What.TheVariants as what
use Rattle.hiera_config.specs.declared.config.LevelPaths.{LevelPaths}
use Rattle.hiera_config.specs.declared.config.LevelPaths.TheVariants as paths
use Rattle.hiera_config.specs.Config.{level_of}
use Rattle.hiera_config.specs.Cuts.{cut_at, trimmed_start, trimmed_end}
use Rattle.hiera_config.specs.Documents.{File, put_in}
use Rattle.hiera_config.specs.Meant.{Meant, go_on, in_turn}
use Rattle.hiera_config.specs.Pieces.{pieces_from, path_form}
use Rattle.hiera_config.specs.Sources.{Source, in_file, in_template, in_mapped, in_level, in_levels, in_layer, in_module, sources, module_of}
use Rattle.hiera_config.specs.Variables.{Variables, variable, path_text, mapped_values}

abbrev n : ℕ → Datum
n k = d.int (pos k)

abbrev t : List ℕ → Datum
t letters = d.text letters

abbrev list : List Datum → Datum
list xs = d.list (data_of xs)

-- one variable
abbrev one : List ℕ → Datum → Variables
one name value = λ x. if bytes_eq name x then Some value else None

abbrev facts : Variables
facts = one (codes "f")
    (d.hash (entries_of ((t (codes "a"), t (codes "x")) ∷ (t (codes "odd"), t (codes "%{f.a}"))
    ∷ (t (codes "l"), list (t (codes "x") ∷ n 7 ∷ [])) ∷ (t (codes "up"), t (codes "../x")) ∷ [])))

-- ---- variables and the texts of paths

variables : (variable facts (codes "f.a") ≡ Some (t (codes "x"))) × (variable facts (codes "f.l.1") ≡ Some (n 7))
    × (variable facts (codes "f.l.2") ≡ None)
    × (variable facts (codes "f.none") ≡ None) × (variable facts (codes "g") ≡ None) × (variable facts [] ≡ None)
variables = (refl, refl, refl, refl, refl, refl)

-- a missing variable is the empty text, a value is not interpolated again, and the first faulty interpolation counts
texts : (path_text facts (codes "n/%{f.a}.json") ≡ Ok (codes "n/x.json"))
    × (path_text facts (codes "%{ f.l.1 }%{f.none}%{g}") ≡ Ok (codes "7"))
    × (path_text facts (codes "%{f.odd}") ≡ Ok (codes "%{f.a}"))
    × (path_text facts (codes "%{f.l}") ≡ Ok (codes "[x, 7]"))
    × (path_text facts (codes "a%{scope('f.a')}%{") ≡ Err (what.BadInterpolation (codes "%{scope('f.a')}%{")))
    × (path_text facts (codes "%{f.a}/%{f.a") ≡ Err (what.BadInterpolation (codes "%{f.a")))
unfolding go_on in_turn pieces_from path_form cut_at trimmed_start trimmed_end digits
texts = (refl, refl, refl, refl, refl, refl)

-- ---- one document

abbrev at_x : List ℕ → List File
at_x text = (codes "x", text) ∷ []

-- an absent file and an absent key give nothing; `null` is a value; the source stands behind those so far
documents : (in_file [] (codes "k") [] (codes "x") ≡ Ok [])
    × (in_file (at_x (codes "{\"j\":1}")) (codes "k") [] (codes "x") ≡ Ok [])
    × (in_file (at_x (codes "{\"j\":0.5,\"k\":null}")) (codes "k") [] (codes "x") ≡ Ok ((d.undef, codes "x") ∷ []))
    × (in_file (at_x (codes "{\"k\":[1]}")) (codes "k") ((n 2, codes "y") ∷ []) (codes "x")
    ≡ Ok ((n 2, codes "y") ∷ (list (n 1 ∷ []), codes "x") ∷ []))
    × (in_file (at_x (codes "{\"k\":1,\"k\":2}")) (codes "k") [] (codes "x") ≡ Ok ((n 2, codes "x") ∷ []))
unfolding serde_json_on_literals
documents = (refl, refl, refl, refl, refl)

-- no JSON, no object, and a number of this key that is no 64-bit integer, however deep
faulty_documents : (in_file (at_x (codes "{\"k\":1")) (codes "k") [] (codes "x") ≡ Err (what.BadData (codes "x")))
    × (in_file (at_x (codes "[]")) (codes "k") [] (codes "x") ≡ Err (what.BadData (codes "x")))
    × (in_file (at_x (codes "{\"k\":0.5}")) (codes "k") [] (codes "x") ≡ Err (what.BadData (codes "x")))
    × (in_file (at_x (codes "{\"k\":{\"a\":[1e1]}}")) (codes "k") [] (codes "x") ≡ Err (what.BadData (codes "x")))
    × (in_file (at_x (codes "{\"k\":9223372036854775808}")) (codes "k") [] (codes "x")
    ≡ Err (what.BadData (codes "x")))
unfolding serde_json_on_literals
faulty_documents = (refl, refl, refl, refl, refl)

-- ---- levels

abbrev files : List File
files =
    (codes "d/bad.json", codes "[]") ∷ (codes "d/x.json", codes "{\"k\":1}") ∷ (codes "d/y.json", codes "{\"k\":2}")
    ∷ []

abbrev found_by : LevelPaths → Meant (List Source)
found_by ps = in_levels files (codes "k") [] facts [] (level_of (codes "a") (codes "d") ps ∷ [])

abbrev x_has : Source
x_has = (n 1, codes "d/x.json")

abbrev y_has : Source
y_has = (n 2, codes "d/y.json")

-- paths in their order, absent ones passed over; one that leads out of its folder is no file's
templates : (found_by (paths.Templates []) ≡ Ok [])
    × (found_by (paths.Templates (codes "y.json" ∷ codes "z.json" ∷ codes "%{f.a}.json" ∷ []))
    ≡ Ok (y_has ∷ x_has ∷ []))
    × (found_by (paths.Templates (codes "x.json" ∷ codes "x.json" ∷ [])) ≡ Ok (x_has ∷ x_has ∷ []))
    × (found_by (paths.Templates (codes "%{f.up}.json" ∷ [])) ≡ Ok [])
    × (in_levels files (codes "k") [] facts []
    (level_of (codes "a") (codes "d") (paths.Templates (codes "x.json" ∷ []))
    ∷ level_of (codes "b") (codes "%{f.up}") (paths.Templates (codes "y.json" ∷ []))
    ∷ level_of (codes "c") (codes "d") (paths.Templates (codes "y.json" ∷ [])) ∷ []) ≡ Ok (x_has ∷ y_has ∷ []))
unfolding go_on in_turn in_template in_level pieces_from path_form cut_at trimmed_start trimmed_end digits
    serde_json_on_literals
templates = (refl, refl, refl, refl, refl)

-- each fault at its path's turn; the folder is filled in before the path
faults : (found_by (paths.Templates (codes "x.json" ∷ codes "bad.json" ∷ codes "%{" ∷ []))
    ≡ Err (what.BadData (codes "d/bad.json")))
    × (found_by (paths.Templates (codes "%{" ∷ codes "bad.json" ∷ [])) ≡ Err (what.BadInterpolation (codes "%{")))
    × (in_levels files (codes "k") [] facts []
    (level_of (codes "a") (codes "%{f(") (paths.Templates (codes "%{" ∷ [])) ∷ [])
    ≡ Err (what.BadInterpolation (codes "%{f(")))
    × (in_levels files (codes "k") [] facts [] (level_of (codes "a") (codes "%{f(") (paths.Templates []) ∷ []) ≡ Ok [])
unfolding go_on in_turn in_template in_level pieces_from path_form cut_at trimmed_start trimmed_end digits
    serde_json_on_literals
faults = (refl, refl, refl, refl)

-- ---- mapped paths

-- a list's members, a hash's pairs, another value, and nothing for none
values : (mapped_values (Some (list (n 1 ∷ list [] ∷ []))) ≡ n 1 ∷ list [] ∷ [])
    × (mapped_values (Some (d.hash (entries_of ((t (codes "a"), n 1) ∷ (n 2, n 3) ∷ []))))
    ≡ list (t (codes "a") ∷ n 1 ∷ []) ∷ list (n 2 ∷ n 3 ∷ []) ∷ [])
    × (mapped_values (Some (t (codes "x"))) ≡ t (codes "x") ∷ []) × (mapped_values (Some (t [])) ≡ t [] ∷ [])
    × (mapped_values (Some d.undef) ≡ []) × (mapped_values None ≡ [])
values = (refl, refl, refl, refl, refl, refl)

-- the name stands for each value, also where it hides a variable; without a value nothing is filled in
mapped : (found_by (paths.Mapped (codes "f.l") (codes "p") (codes "%{p}.json")) ≡ Ok (x_has ∷ []))
    × (found_by (paths.Mapped (codes "f.a") (codes "f") (codes "%{f}.json")) ≡ Ok (x_has ∷ []))
    × (found_by (paths.Mapped (codes "f") (codes "p") (codes "%{p.1}.json")) ≡ Ok (x_has ∷ []))
    × (found_by (paths.Mapped (codes "f.none") (codes "p") (codes "%{")) ≡ Ok [])
    × (found_by (paths.Mapped (codes "f(") (codes "p") (codes "x.json")) ≡ Ok [])
    × (found_by (paths.Mapped (codes "f.a") (codes "p") (codes "%{p('x')}"))
    ≡ Err (what.BadInterpolation (codes "%{p('x')}")))
unfolding go_on in_turn in_template in_mapped in_level pieces_from path_form cut_at trimmed_start trimmed_end digits
    serde_json_on_literals
mapped = (refl, refl, refl, refl, refl, refl)

-- in the folder too
mapped_folder : in_levels files (codes "k") [] facts []
    (level_of (codes "a") (codes "%{p}") (paths.Mapped (codes "dir") (codes "p") (codes "x.json")) ∷ []) ≡ Ok []
unfolding go_on in_turn in_template in_mapped in_level pieces_from path_form cut_at trimmed_start trimmed_end digits
    serde_json_on_literals
mapped_folder = refl

mapped_folder_there : in_levels files (codes "k") [] (one (codes "dir") (t (codes "d"))) []
    (level_of (codes "a") (codes "%{p}") (paths.Mapped (codes "dir") (codes "p") (codes "x.json")) ∷ [])
    ≡ Ok (x_has ∷ [])
unfolding go_on in_turn in_template in_mapped in_level pieces_from path_form cut_at trimmed_start trimmed_end digits
    serde_json_on_literals
mapped_folder_there = refl

-- ---- layers

abbrev config : List ℕ
config = codes "{\"version\":5,\"hierarchy\":[{\"name\":\"a\",\"path\":\"c.json\"}]}"

abbrev layers : List File
layers =
    (codes "data/c.json", codes "{\"k\":1,\"m::k\":2}") ∷ (codes "global/data/c.json", codes "{\"k\":3,\"g\":4}")
    ∷ (codes "global/hiera.yaml", config) ∷ (codes "hiera.yaml", config)
    ∷ (codes "modules/m/data/c.json", codes "{\"m::k\":5,\"k\":6}")
    ∷ (codes "modules/m/data/d.json", codes "{\"m::k\":7,\"m::d\":8}")
    ∷ (
      codes "modules/m/hiera.yaml",
      codes
          "{\"version\":5,\"hierarchy\":[{\"name\":\"a\",\"path\":\"c.json\"}],\"default_hierarchy\":[{\"name\":\"b\",\"path\":\"d.json\"}]}",
    ) ∷ []

abbrev of_key : List ℕ → Meant (List Source)
of_key key = sources layers facts (module_of key) key

-- the global layer, the environment, the module of the key; the module's default levels where none of these has it
in_layers : (of_key (codes "k") ≡ Ok ((n 3, codes "global/data/c.json") ∷ (n 1, codes "data/c.json") ∷ []))
    × (of_key (codes "g") ≡ Ok ((n 4, codes "global/data/c.json") ∷ []))
    × (of_key (codes "m::k") ≡ Ok ((n 2, codes "data/c.json") ∷ (n 5, codes "modules/m/data/c.json") ∷ []))
    × (of_key (codes "m::d") ≡ Ok ((n 8, codes "modules/m/data/d.json") ∷ []))
    × (of_key (codes "::m::d") ≡ Ok [])
    × (of_key (codes "other::k") ≡ Ok [])
    × (sources layers facts (Some (codes "m")) (codes "k")
    ≡ Ok ((n 3, codes "global/data/c.json") ∷ (n 1, codes "data/c.json") ∷ (n 6, codes "modules/m/data/c.json")
    ∷ []))
unfolding go_on in_turn in_template in_level in_layer in_module pieces_from path_form cut_at trimmed_start trimmed_end
    digits serde_json_on_literals
in_layers = (refl, refl, refl, refl, refl, refl, refl)

-- a faulty configuration is a fault of its file for each key that its layer may have, and the first layer's counts
faulty_layers : (sources ((codes "global/hiera.yaml", codes "{}") ∷ (codes "hiera.yaml", codes "{") ∷ []) facts None
    (codes "k") ≡ Err (what.BadData (codes "global/hiera.yaml")))
    × (sources ((codes "hiera.yaml", codes "{\"version\":5,\"default_hierarchy\":[]}") ∷ []) facts None (codes "k")
    ≡ Err (what.BadData (codes "hiera.yaml")))
    × (sources ((codes "modules/m/hiera.yaml", codes "{}") ∷ []) facts (Some (codes "m")) (codes "m::k")
    ≡ Err (what.BadData (codes "modules/m/hiera.yaml")))
    × (sources ((codes "modules/m/hiera.yaml", codes "{}") ∷ []) facts None (codes "k") ≡ Ok [])
    × (sources [] facts (Some (codes "m")) (codes "m::k") ≡ Ok [])
unfolding go_on in_turn in_template in_level in_layer in_module pieces_from path_form cut_at trimmed_start trimmed_end
    digits serde_json_on_literals
faulty_layers = (refl, refl, refl, refl, refl)

-- ---- the module of a key, and the files

-- a segment of a name that begins in lower case or with `_`
modules : (module_of (codes "a::b") ≡ Some (codes "a")) × (module_of (codes "_a1::b::c") ≡ Some (codes "_a1"))
    × (module_of (codes "a-b::c") ≡ Some (codes "a-b"))
    × (module_of (codes "aB::c") ≡ Some (codes "aB"))
    × (module_of (codes "a") ≡ None) × (module_of (codes "::a::b") ≡ None) × (module_of (codes "a/b::c") ≡ None)
    × (module_of (codes "A::b") ≡ None)
    × (module_of (codes "1a::b") ≡ None) × (module_of (codes "a-::b") ≡ None) × (module_of (codes "a--b::c") ≡ None)
    × (module_of (codes "-a::b") ≡ None)
    × (module_of (codes "a.b::c") ≡ None) × (module_of (codes "a:b") ≡ None)
unfolding cut_at
modules = (refl, refl, refl, refl, refl, refl, refl, refl, refl, refl, refl, refl, refl, refl)

-- by path in byte order, whatever the order of the pairs
kept : put_in [] ((codes "b", codes "1") ∷ (codes "a", codes "2") ∷ [])
    ≡ (codes "a", codes "2") ∷ (codes "b", codes "1") ∷ []
unfolding put_in
kept = refl
