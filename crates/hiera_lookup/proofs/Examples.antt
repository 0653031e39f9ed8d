-- Look-ups in small worlds: what a value asks for, what is filled in, merges, options, loops and depth.
use Rattle.std.proofs.Common.{◌≡◌, ℕ, true, false, List, [], ◌∷◌, Option, Some, None, Ok, Err, if◌then◌else◌, pos, codes, refl}
use Rattle.std.specs.Fmt.{digits}
use Rattle.std.specs.Str.{bytes_eq}
use Rattle.pp_values.specs.Datum as d
use Rattle.pp_values.specs.Datum.{Datum, Pair, data_of, entries_of}
use Rattle.pp_values.specs.Keys.{value_at}
use Rattle.pp_values.specs.declared.fault.What.TheVariants as what
use Rattle.hiera_config.specs.Cuts.{cut_at, trimmed_start, trimmed_end}
use Rattle.hiera_config.specs.Literals.{is_literal}
use Rattle.hiera_config.specs.Meant.{Meant, go_on}
use Rattle.hiera_config.specs.FileOptions.{is_table}
use Rattle.hiera_config.specs.OptionTables.{are_tables, first_options}
use Rattle.hiera_config.specs.Pieces.{pieces_from, form_of, method_of, whole_alias}
use Rattle.hiera_config.specs.Sources.{Source}
use Rattle.hiera_merge.specs.declared.merge.Merge.{Merge}
use Rattle.hiera_merge.specs.declared.merge.Merge.TheVariants as by
use Rattle.hiera_lookup.specs.declared.asking.Ask.TheVariants as ask
use Rattle.hiera_lookup.specs.Asks.{asks}
use Rattle.hiera_lookup.specs.AnswerPlaces.{place_for}
use Rattle.hiera_lookup.specs.Filled.{Answer, Gives, answer_to, filled}
use Rattle.hiera_lookup.specs.Found.{found, found_in}
use Rattle.hiera_lookup.specs.Look.{answer, answers, interpolated, option_for, merge_for, look_within, look, looked_up}
use Rattle.hiera_lookup.specs.Plain.{joined_tables, merge_by}
use Rattle.hiera_lookup.specs.Options.{options_key, option_in, bad_options}
use Rattle.hiera_lookup.specs.World.{World}

abbrev n : ℕ → Datum
n k = d.int (pos k)

abbrev t : List ℕ → Datum
t letters = d.text letters

abbrev list : List Datum → Datum
list xs = d.list (data_of xs)

abbrev hash : List Pair → Datum
hash ps = d.hash (entries_of ps)

abbrev at : List ℕ → Datum → Pair
at k v = (t k, v)

-- `v` is 7, and nothing else has a value
abbrev reads : Gives
reads name = if bytes_eq (codes "v") name then Some (n 7) else None

abbrev Layers : Type 0
Layers = List (List ℕ × List Source)

abbrev sources_of : Layers → List ℕ → Meant (List Source)
sources_of [] key = Ok []
sources_of (p ∷ ps) key = if bytes_eq p.0 key then Ok p.1 else sources_of ps key

-- what the layers have, whatever the module
abbrev world : Layers → World
world layers = record { reads = reads; had = λ of_module root. sources_of layers root }

-- a key with its values, the highest first, in the files `x`, `y`, `z`
abbrev one : List ℕ → Datum → List ℕ × List Source
one key x = (key, (x, codes "x") ∷ [])

abbrev two : List ℕ → Datum → Datum → List ℕ × List Source
two key x y = (key, (x, codes "x") ∷ (y, codes "y") ∷ [])

abbrev three : List ℕ → Datum → Datum → Datum → List ℕ × List Source
three key x y z = (key, (x, codes "x") ∷ (y, codes "y") ∷ (z, codes "z") ∷ [])

-- ---- what a value asks for, in the order of its texts

asked : (asks (t (codes "a%{lookup('b')}%{v}%{hiera('c')}")) ≡ ask.Key (codes "b") ∷ ask.Key (codes "c") ∷ [])
    × (asks (t (codes "%{alias('a')}")) ≡ ask.Key (codes "a") ∷ [])
    × (asks (list (t (codes "%{lookup('a')}") ∷ n 1 ∷ list (t (codes "%{lookup('b')}") ∷ []) ∷ []))
    ≡ ask.Key (codes "a") ∷ ask.Key (codes "b") ∷ [])
    × (asks (hash (at (codes "%{lookup('k')}") (t (codes "%{lookup('v')}")) ∷ []))
    ≡ ask.Key (codes "k") ∷ ask.Key (codes "v") ∷ [])
    × (asks (t (codes "%{lookup('a')}%{f(}%{lookup('b')}"))
    ≡ ask.Key (codes "a") ∷ ask.Broken (codes "%{f(}%{lookup('b')}") ∷ [])
    × (asks (t (codes "%{literal('%')}{lookup('a')}")) ≡ [])
unfolding pieces_from form_of method_of whole_alias cut_at trimmed_start trimmed_end
asked = (refl, refl, refl, refl, refl, refl)

-- ---- values in which nothing is interpolated, keys and members too

literals : (is_literal (t (codes "100% {v}")) ≡ true) × (is_literal (n 1) ≡ true)
    × (is_literal (hash (at (codes "a") (list (t [] ∷ n 1 ∷ [])) ∷ at (codes "b") d.undef ∷ [])) ≡ true)
    × (is_literal (t (codes "a%{v}")) ≡ false) × (is_literal (list (n 1 ∷ t (codes "%{") ∷ [])) ≡ false)
    × (is_literal (hash (at (codes "%{v}") (n 1) ∷ [])) ≡ false)
    × (is_literal (hash (at (codes "a") (hash (at (codes "b") (t (codes "%{v}")) ∷ [])) ∷ [])) ≡ false)
unfolding cut_at
literals = (refl, refl, refl, refl, refl, refl, refl)

-- ---- what is filled in

-- `l` is a list, `i` a text that looks like an interpolation
abbrev looks : Gives
looks key =
    if bytes_eq (codes "l") key then Some (list (n 1 ∷ []))
    else (if bytes_eq (codes "i") key then Some (t (codes "%{v}")) else None)

abbrev fill : List ℕ → Datum
fill text = filled reads looks (t text)

-- a missing variable or key is the empty text; a value is not interpolated again; an alias is the value itself
texts : (fill (codes "x%{nope}y") ≡ t (codes "xy")) × (fill (codes "%{v}%{scope('v')}") ≡ t (codes "77"))
    × (fill (codes "%{lookup('l')}-%{lookup('nope')}") ≡ t (codes "[1]-"))
    × (fill (codes "%{lookup('i')}") ≡ t (codes "%{v}"))
    × (fill (codes "%{alias('l')}") ≡ list (n 1 ∷ [])) × (fill (codes "%{alias('nope')}") ≡ t [])
    × (fill (codes "%{literal('%')}{v}") ≡ t (codes "%{v}"))
unfolding pieces_from form_of method_of whole_alias cut_at trimmed_start trimmed_end digits
texts = (refl, refl, refl, refl, refl, refl, refl)

-- of keys that are the same then, the first one's place and the last one's value; a key is an integer or a text
keys : (filled reads looks (hash (at (codes "%{v}") (n 1) ∷ at (codes "a") (n 2) ∷ at (codes "7") (n 3) ∷ []))
    ≡ hash (at (codes "7") (n 3) ∷ at (codes "a") (n 2) ∷ []))
    × (filled reads looks (hash ((n 7, n 1) ∷ at (codes "%{v}") (n 2) ∷ []))
    ≡ hash ((n 7, n 1) ∷ at (codes "7") (n 2) ∷ []))
    × (filled reads looks (hash (at (codes "%{alias('l')}") (t (codes "%{v}")) ∷ []))
    ≡ hash (at (codes "[1]") (t (codes "7")) ∷ []))
    × (filled reads (λ k. Some (n 9)) (hash (at (codes "%{alias('k')}") (n 1) ∷ [])) ≡ hash ((n 9, n 1) ∷ []))
    × (filled reads looks (list (t (codes "%{v}") ∷ n 1 ∷ [])) ≡ list (t (codes "7") ∷ n 1 ∷ []))
unfolding pieces_from form_of method_of whole_alias cut_at trimmed_start trimmed_end digits
keys = (refl, refl, refl, refl, refl)

-- ---- merged and dug

abbrev merging : World
merging = world (
    three (codes "k") (hash (at (codes "a") (n 1) ∷ []))
    (hash (at (codes "a") (n 2) ∷ at (codes "c") (hash (at (codes "x") (n 1) ∷ [])) ∷ []))
    (hash (at (codes "c") (hash (at (codes "y") (n 2) ∷ [])) ∷ []))
    ∷ two (codes "l") (list (n 1 ∷ list (n 2 ∷ []) ∷ [])) (n 2) ∷ one (codes "s") (t (codes "a")) ∷ [])

merges : (found merging None (codes "k") by.First ≡ Ok (Some (hash (at (codes "a") (n 1) ∷ []))))
    × (found merging None (codes "k") by.Hash
    ≡ Ok (Some (hash (at (codes "c") (hash (at (codes "x") (n 1) ∷ [])) ∷ at (codes "a") (n 1) ∷ []))))
    × (found merging None (codes "k") by.Deep
    ≡ Ok (Some (hash (at (codes "c") (hash (at (codes "y") (n 2) ∷ at (codes "x") (n 1) ∷ []))
    ∷ at (codes "a") (n 1) ∷ []))))
    × (found merging None (codes "l") by.Unique ≡ Ok (Some (list (n 1 ∷ n 2 ∷ []))))
    × (found merging None (codes "none") by.Deep ≡ Ok None)
unfolding go_on found found_in
merges = (refl, refl, refl, refl, refl)

-- the root is merged first, and dug then; a fault names the whole key
dug : (found merging None (codes "k.c.x") by.Hash ≡ Ok (Some (n 1)))
    × (found merging None (codes "k.c.y") by.Hash ≡ Ok None)
    × (found merging None (codes "k.c.y") by.Deep ≡ Ok (Some (n 2)))
    × (found merging None (codes "l.1.0") by.First ≡ Ok (Some (n 2)))
    × (found merging None (codes "l.9") by.First ≡ Ok None) × (found merging None (codes "s.x") by.First ≡ Ok None)
    × (found merging None (codes "k.a") by.Unique ≡ Err (what.MergeMismatch (codes "k.a")))
    × (found merging None (codes "l.0") by.Hash ≡ Err (what.MergeMismatch (codes "l.0")))
    × (found merging None (codes "s") by.Deep ≡ Err (what.MergeMismatch (codes "s")))
unfolding go_on found found_in
dug = (refl, refl, refl, refl, refl, refl, refl, refl, refl)

-- a fault of the sources is the look-up's
faulty_sources : found (record { reads = reads; had = λ of_module root. Err (what.BadData root) }) None
    (codes "a.b") by.First ≡ Err (what.BadData (codes "a"))
unfolding go_on found
faulty_sources = refl

-- ---- the merge: the call's, or that of the options, or `first`

abbrev lists : Datum → Layers
lists options = two (codes "k") (list (n 1 ∷ [])) (list (n 1 ∷ n 2 ∷ [])) ∷ one options_key options ∷ []

abbrev by_options : Datum → List ℕ → Option Merge → Meant (Option Datum)
by_options options key merge = looked_up (world (lists options)) key merge

abbrev unique_options : Datum
unique_options = hash (at (codes "k") (hash (at (codes "merge") (t (codes "unique")) ∷ [])) ∷ [])

opted : (by_options unique_options (codes "k") None ≡ Ok (Some (list (n 1 ∷ n 2 ∷ []))))
    × (by_options unique_options (codes "k") (Some by.First) ≡ Ok (Some (list (n 1 ∷ []))))
    × (by_options unique_options (codes "k.1") None ≡ Ok (Some (n 2)))
    × (by_options (hash (at (codes "k") (hash []) ∷ [])) (codes "k") None ≡ Ok (Some (list (n 1 ∷ []))))
    × (by_options (hash (at (codes "k.1") (hash (at (codes "merge") (t (codes "unique")) ∷ [])) ∷ []))
    (codes "k.1") None ≡ Ok None)
    × (looked_up (world (two (codes "k") (n 1) (n 2) ∷ [])) (codes "k") None ≡ Ok (Some (n 1)))
    × (looked_up (world []) (codes "k") None ≡ Ok None)
unfolding go_on look look_within interpolated answers answer option_for merge_for option_in bad_options found found_in
    pieces_from form_of method_of whole_alias cut_at trimmed_start trimmed_end
opted = (refl, refl, refl, refl, refl, refl, refl)

abbrev bad : Datum
bad = hash (at (codes "merge") (t (codes "x")) ∷ [])

-- options are those of all layers, merged by `hash`, and their faults come before the key's sources, also where the
-- key is nowhere; bad ones name the highest file that has some for the key
options_first : (by_options (n 1) (codes "none") None ≡ Err (what.MergeMismatch options_key))
    × (by_options (hash (at (codes "none") bad ∷ [])) (codes "none") None ≡ Err (what.BadData (codes "x")))
    × (by_options (hash (at (codes "k") bad ∷ [])) (codes "k") (Some by.First) ≡ Ok (Some (list (n 1 ∷ []))))
    × (looked_up (world (two options_key (hash (at (codes "j") bad ∷ [])) (hash (at (codes "k") bad ∷ [])) ∷ []))
    (codes "k") None ≡ Err (what.BadData (codes "y")))
    × (looked_up (world (two options_key (hash (at (codes "k") bad ∷ [])) (hash (at (codes "k") (hash []) ∷ [])) ∷ []))
    (codes "k.a") None ≡ Err (what.BadData (codes "x")))
    × (looked_up (world (two options_key (hash []) (list []) ∷ [])) options_key None
    ≡ Err (what.MergeMismatch options_key))
    × (looked_up (world (two options_key (hash (at (codes "%{v}") bad ∷ [])) (hash (at (codes "7") bad ∷ [])) ∷ []))
    (codes "7") None ≡ Err (what.BadData (codes "x")))
unfolding go_on look look_within interpolated answers answer option_for merge_for option_in bad_options found found_in
    pieces_from form_of method_of whole_alias cut_at trimmed_start trimmed_end digits
options_first = (refl, refl, refl, refl, refl, refl, refl)

-- options that interpolate nothing: by a key of several tables the highest one's count, whole
abbrev options_of : List ℕ → List ℕ → Pair
options_of key name = at key (hash (at (codes "merge") (t name) ∷ []))

abbrev tables : List Source
tables =
    (hash (options_of (codes "k") (codes "deep") ∷ at (codes "m") (hash []) ∷ []), codes "x")
    ∷ (
      hash (options_of (codes "k") (codes "x") ∷ options_of (codes "l") (codes "unique")
          ∷ options_of (codes "m") (codes "deep") ∷ []),
      codes "y",
    ) ∷ []

abbrev by_tables : List ℕ → Option Merge
by_tables root = merge_by (value_at (t root) (joined_tables tables))

tabled : (by_tables (codes "k") ≡ Some by.Deep) × (by_tables (codes "l") ≡ Some by.Unique)
    × (by_tables (codes "m") ≡ Some by.First) × (by_tables (codes "none") ≡ Some by.First)
    × (merge_by (Some bad) ≡ None) × (merge_by (Some (n 1)) ≡ None)
    × (first_options (codes "l") tables ≡ Some (hash (at (codes "merge") (t (codes "unique")) ∷ [])))
    × (first_options (codes "none") tables ≡ None)
    × (are_tables tables ≡ true) × (are_tables [] ≡ true) × (are_tables ((list [], codes "x") ∷ []) ≡ false)
    × (is_table (hash (options_of (codes "k") (codes "%{v}") ∷ [])) ≡ false)
unfolding cut_at
tabled = (refl, refl, refl, refl, refl, refl, refl, refl, refl, refl, refl, refl)

-- ---- where answers stand: a key's first answer counts, also one without a value

abbrev asked_twice : List Answer
asked_twice = (codes "a", None) ∷ (codes "b", Some (n 1)) ∷ (codes "a", Some (n 2)) ∷ []

placed : (place_for asked_twice (codes "a") ≡ Some 0) × (place_for asked_twice (codes "b") ≡ Some 1)
    × (place_for asked_twice (codes "c") ≡ None) × (answer_to asked_twice (codes "a") ≡ None)
placed = (refl, refl, refl, refl)

-- ---- look-ups within look-ups

abbrev texts_world : World
texts_world = world (
    one (codes "a") (t (codes "%{lookup('a')}")) ∷ one (codes "b") (t (codes "%{lookup('c')}!"))
    ∷ one (codes "c") (t (codes "%{v}"))
    ∷ one (codes "d") (list (t (codes "%{lookup('d.00')}") ∷ [])) ∷ one (codes "e") (t (codes "%{alias('f')}"))
    ∷ one (codes "f") (list (t (codes "%{v}") ∷ []))
    ∷ one (codes "g") (t (codes "%{lookup('h')}")) ∷ one (codes "h") (t (codes "%{lookup('g')}"))
    ∷ one (codes "i") (list (t (codes "%{f(") ∷ t (codes "%{lookup('i')}") ∷ []))
    ∷ one (codes "j") (list (t (codes "%{lookup('j')}") ∷ t (codes "%{f(") ∷ [])) ∷ [])

abbrev in_texts : List ℕ → Meant (Option Datum)
in_texts key = looked_up texts_world key None

-- interpolated after merging and digging, each look-up within by its own rules
within : (in_texts (codes "b") ≡ Ok (Some (t (codes "7!"))))
    × (in_texts (codes "e") ≡ Ok (Some (list (t (codes "7") ∷ []))))
    × (in_texts (codes "e.0") ≡ Ok None) × (in_texts (codes "j.1") ≡ Err (what.BadInterpolation (codes "%{f(")))
unfolding go_on look look_within interpolated answers answer option_for merge_for option_in bad_options found found_in
    pieces_from form_of method_of whole_alias cut_at trimmed_start trimmed_end digits
within = (refl, refl, refl, refl)

abbrev hiding : World
hiding = world (
    two (codes "h") (hash (at (codes "a") (t (codes "%{v}")) ∷ [])) (hash (at (codes "a") (t (codes "%{f(")) ∷ []))
    ∷ two (codes "u") (list (t (codes "%{v}") ∷ [])) (list (t (codes "7") ∷ []))
    ∷ one (codes "d") (hash (at (codes "a") (n 1) ∷ at (codes "b") (t (codes "%{f(")) ∷ [])) ∷ [])

-- what a merge hides, and what stands beside the part that is wanted, is not looked into; members are compared before
after_merging : (looked_up hiding (codes "h") (Some by.Hash) ≡ Ok (Some (hash (at (codes "a") (t (codes "7")) ∷ []))))
    × (looked_up hiding (codes "u") (Some by.Unique) ≡ Ok (Some (list (t (codes "7") ∷ t (codes "7") ∷ []))))
    × (looked_up hiding (codes "d.a") (Some by.First) ≡ Ok (Some (n 1)))
    × (looked_up hiding (codes "d") (Some by.First) ≡ Err (what.BadInterpolation (codes "%{f(")))
unfolding go_on look look_within interpolated answers answer option_for merge_for option_in bad_options found found_in
    pieces_from form_of method_of whole_alias cut_at trimmed_start trimmed_end digits
after_merging = (refl, refl, refl, refl)

-- a key within its own look-up, also one step further and by another spelling; the first fault of a value counts
loops : (in_texts (codes "a") ≡ Err (what.LookupLoop (codes "a")))
    × (in_texts (codes "g") ≡ Err (what.LookupLoop (codes "g")))
    × (in_texts (codes "d.0") ≡ Err (what.LookupLoop (codes "d.00")))
    × (in_texts (codes "i") ≡ Err (what.BadInterpolation (codes "%{f(")))
    × (in_texts (codes "j") ≡ Err (what.LookupLoop (codes "j")))
unfolding go_on look look_within interpolated answers answer option_for merge_for option_in bad_options found found_in
    pieces_from form_of method_of whole_alias cut_at trimmed_start trimmed_end digits
loops = (refl, refl, refl, refl, refl)

abbrev option_text : List ℕ → Layers
option_text text =
    two (codes "k") (list (n 1 ∷ [])) (list (n 2 ∷ [])) ∷ one (codes "z") (t (codes "unique"))
    ∷ one options_key (hash (at (codes "k") (hash (at (codes "merge") (t text) ∷ [])) ∷ at (codes "z") (hash []) ∷ []))
    ∷ []

-- `lookup_options` is being looked up while it is merged and interpolated, with the key that asks for it; a part of
-- it is another key
options_busy : (looked_up (world (option_text (codes "%{lookup('x')}"))) (codes "k") None
    ≡ Err (what.LookupLoop options_key))
    × (looked_up (world (option_text (codes "%{lookup('k')}"))) (codes "k") None ≡ Err (what.LookupLoop (codes "k")))
    × (looked_up (world (option_text (codes "%{lookup('lookup_options')}"))) (codes "k") None
    ≡ Err (what.LookupLoop options_key))
    × (looked_up (world (option_text (codes "%{lookup('lookup_options.none')}"))) (codes "k") None
    ≡ Err (what.BadData (codes "x")))
    × (looked_up (world (option_text (codes "%{v}"))) (codes "k") None ≡ Err (what.BadData (codes "x")))
unfolding go_on look look_within interpolated answers answer option_for merge_for option_in bad_options found found_in
    pieces_from form_of method_of whole_alias cut_at trimmed_start trimmed_end digits
options_busy = (refl, refl, refl, refl, refl)

-- ---- depth

-- each key but the last looks up the next one
abbrev chain : World
chain =
    world (one (codes "a") (t (codes "%{lookup('b')}")) ∷ one (codes "b") (t (codes "%{lookup('c')}"))
    ∷ one (codes "c") (t (codes "end")) ∷ [])

abbrev deep : ℕ → List ℕ → Option Merge → Meant (Option Datum)
deep left key merge = go_on (look chain left [] None key merge) (λ found. Ok found.0)

-- each key counts one, and so does `lookup_options`, also where there is none; a loop comes before the limit
depth : (deep 4 (codes "a") None ≡ Ok (Some (t (codes "end")))) × (deep 3 (codes "a") None ≡ Err what.DepthLimit)
    × (deep 1 (codes "c") None ≡ Err what.DepthLimit)
    × (deep 1 (codes "c") (Some by.First) ≡ Ok (Some (t (codes "end"))))
    × (deep 1 options_key None ≡ Ok None) × (deep 0 (codes "c") (Some by.First) ≡ Err what.DepthLimit)
    × (look chain 0 (codes "c" ∷ []) None (codes "c") None ≡ Err (what.LookupLoop (codes "c")))
unfolding go_on look look_within interpolated answers answer option_for merge_for option_in bad_options found found_in
    pieces_from form_of method_of whole_alias cut_at trimmed_start trimmed_end
depth = (refl, refl, refl, refl, refl, refl, refl)
