-- The definitions at worked examples. Each line holds by computing.
use Rattle.std.proofs.Common.{◌≡◌, ℕ, Bool, true, false, List, [], ◌∷◌, None, Some, Ok, Err, refl, codes}
use Rattle.pp_values.specs.Answers.{in_turn}
use Rattle.pp_values.specs.Datum as d
use Rattle.pp_values.specs.Faults.{fault}
use Rattle.pp_values.specs.declared.fault.What.TheVariants as what
use Rattle.rel_graph.specs.FirstCycles.{first_below, least_way, way_to, first_cycle}
use Rattle.res_book.specs.declared.mode.Mode.TheVariants as mode
use Rattle.res_book.specs.declared.row.Row.{Row}
use Rattle.res_core.specs.Criteria.{by_attribute}
use Rattle.res_core.specs.declared.operand.Operand.{Operand}
use Rattle.res_core.specs.declared.operand.Operand.TheVariants as operand
use Rattle.res_book.specs.declared.collector.Collector.{Collector}
use Rattle.res_book.specs.declared.relation_line.RelationLine.{RelationLine}
use Rattle.pp_values.specs.Datum.{Datum}
use Rattle.pp_values.specs.Settings.{Setting}
use Rattle.res_core.specs.Metaparameters.{is_relation_name}
use Rattle.res_core.specs.NativeTypes.{native_of}
use Rattle.override_rules.specs.Defaults.{nearest_within}
use Rattle.override_rules.specs.Fold.{after_lines}
use Rattle.override_rules.specs.Names.{attributes_of, names_within}
use Rattle.catalog_finish.specs.Attributes.{catalog_attributes, exported_attributes}
use Rattle.catalog_finish.specs.Catalogs.{resources, resource_with}
use Rattle.catalog_finish.specs.Containing.{order_checked}
use Rattle.catalog_finish.specs.Exporting.{exports, export_with}
use Rattle.catalog_finish.specs.Finishing.{finished, lines_checked, realized_checked, sources}
use Rattle.catalog_finish.specs.EdgeTables.{edges_from, joined}
use Rattle.catalog_finish.specs.Relating.{target, taken, lines_related, related_pairs}
use Rattle.catalog_finish.specs.Sources.{Sources}
use Rattle.catalog_finish.specs.Layouts.{indexes, indexes_at, inside, layout_of}
use Rattle.catalog_finish.specs.Naming.{names_checked}
use Rattle.catalog_finish.specs.PlainForms.{plain_of}
use Rattle.catalog_finish.proofs.Samples.{text, list, hash, a_type, place, named, imported, row, marked, bound_to, class, notify, contains, untouched, line_on, overridden, realize, collect, related}

-- ---- plain forms

plain_default : plain_of d.default ≡ text (codes "default")
plain_default = refl

plain_type : plain_of a_type ≡ text (codes "Integer[default]")
plain_type = refl

-- at any depth, and each other value as it is
plain_within : plain_of (list (d.undef ∷ hash ((text (codes "k"), list (d.default ∷ [])) ∷ []) ∷ []))
    ≡ list (d.undef ∷ hash ((text (codes "k"), list (text (codes "default") ∷ [])) ∷ []) ∷ [])
plain_within = refl

-- ---- indexes

-- `Class[main]`, a class, what is virtual, realized, exported and imported, and an instance
abbrev mixed : List Row
mixed =
    class (codes "main") 0
    ∷ notify (codes "v") 1 [] mode.Virtual
    ∷ class (codes "web") 2
    ∷ marked (notify (codes "r") 3 [] mode.Virtual)
    ∷ notify (codes "e") 4 [] mode.Exported
    ∷ notify (codes "i") 5 [] imported
    ∷ row (codes "vhost") (codes "x") 6 (Some 2) [] mode.Plain
    ∷ []

live_ones : indexes mixed ≡ Some 0 ∷ None ∷ Some 1 ∷ Some 2 ∷ None ∷ Some 3 ∷ Some 4 ∷ []
live_ones = refl

-- what is not live has no index, and no number of no declaration has one
no_index : indexes_at (indexes mixed) (1 ∷ 6 ∷ 7 ∷ []) ≡ 4 ∷ []
no_index = refl

-- ---- containers

-- a native resource or an instance is in what declares it, by its index
in_container : inside (layout_of mixed []) 6 (row (codes "vhost") (codes "x") 6 (Some 2) [] mode.Plain) ≡ 1 ∷ []
in_container = refl

-- whatever `contain` says of it
by_container_alone : inside (layout_of mixed (contains 0 6 ∷ []))
    6 (row (codes "vhost") (codes "x") 6 (Some 2) [] mode.Plain) ≡ 1 ∷ []
by_container_alone = refl

-- a class is in what contains it, in rising order and each once, and what is not live or no declaration contains nothing
in_several : inside (layout_of mixed (contains 6 2 ∷ contains 3 2 ∷ contains 6 2 ∷ contains 1 2 ∷ contains 0 0
    ∷ contains 99 2 ∷ [])) 2 (class (codes "web") 2) ≡ 2 ∷ 4 ∷ []
in_several = refl

in_nothing : inside (layout_of mixed []) 2 (class (codes "web") 2) ≡ []
in_nothing = refl

-- ---- cycles

abbrev two_classes : List Row
two_classes =
    class (codes "main") 0 ∷ notify (codes "v") 1 [] mode.Virtual ∷ class (codes "a") 2 ∷ class (codes "b") 3 ∷ []

-- the place is that of the first
contained_twice : order_checked two_classes (resources untouched
    (layout_of two_classes (contains 2 3 ∷ contains 3 2 ∷ [])) two_classes) []
    ≡ Err (fault (place 2) (what.Cycle (named (codes "class") (codes "a") ∷ named (codes "class") (codes "b") ∷ [])))
unfolding first_below least_way way_to first_cycle native_of attributes_of names_within nearest_within after_lines
contained_twice = refl

contained_once : order_checked two_classes (resources untouched
    (layout_of two_classes (contains 0 2 ∷ contains 2 3 ∷ [])) two_classes) [] ≡ Ok tt
unfolding first_below least_way way_to first_cycle native_of attributes_of names_within nearest_within after_lines
contained_once = refl

-- ---- attributes

abbrev full : Row
full =
    notify (codes "f") 1 ((codes "before", text (codes "x")) ∷ (codes "message", list (d.default ∷ []))
    ∷ (codes "name", d.undef) ∷ (codes "noop", a_type) ∷ (codes "tag", text (codes "t")) ∷ []) mode.Exported

-- no relation, no tag, nothing unset, and all plain
of_native : catalog_attributes untouched full
    ≡ (codes "message", list (text (codes "default") ∷ [])) ∷ (codes "noop", text (codes "Integer[default]")) ∷ []
unfolding is_relation_name native_of attributes_of names_within nearest_within after_lines
of_native = refl

-- an override line counts
of_overridden : catalog_attributes (overridden (line_on (codes "notify") (codes "f") 9 ∷ [])) full
    ≡ (codes "message", text (codes "x")) ∷ (codes "noop", text (codes "Integer[default]")) ∷ []
unfolding is_relation_name native_of attributes_of names_within nearest_within after_lines
of_overridden = refl

abbrev instance : Row
instance =
    bound_to ((codes "notify", text (codes "y")) ∷ (codes "owner", d.undef) ∷ (codes "port", d.default) ∷ [])
    (row (codes "vhost") (codes "x") 6 (Some 0) ((codes "port", text (codes "80")) ∷ []) mode.Exported)

-- an instance has its parameters, without those that are Undef
of_instance : catalog_attributes untouched instance ≡ (codes "port", text (codes "default")) ∷ []
unfolding is_relation_name native_of attributes_of names_within nearest_within after_lines
of_instance = refl

of_class : catalog_attributes untouched (bound_to ((codes "a", d.flag false) ∷ []) (class (codes "a") 1))
    ≡ (codes "a", d.flag false) ∷ []
unfolding is_relation_name native_of attributes_of names_within nearest_within after_lines
of_class = refl

never_bound : catalog_attributes untouched (class (codes "a") 1) ≡ []
unfolding is_relation_name native_of attributes_of names_within nearest_within after_lines
never_bound = refl

-- ---- exports

-- relations stay, tags go, and an instance exports what it is set to
of_export : exported_attributes untouched full
    ≡ (codes "before", text (codes "x")) ∷ (codes "message", list (d.default ∷ [])) ∷ (codes "noop", a_type) ∷ []
unfolding attributes_of names_within nearest_within after_lines
of_export = refl

of_exported_instance : exported_attributes untouched instance ≡ (codes "port", text (codes "80")) ∷ []
unfolding attributes_of names_within nearest_within after_lines
of_exported_instance = refl

-- live or not, and nothing that was imported, or is virtual alone
exported_ones : exports untouched (class (codes "main") 0 ∷ notify (codes "a") 1 [] mode.Exported
    ∷ notify (codes "b") 2 [] imported ∷ notify (codes "c") 3 [] mode.Virtual
    ∷ marked (notify (codes "d") 4 [] mode.Exported) ∷ [])
    ≡ Ok (export_with (notify (codes "a") 1 [] mode.Exported) []
    ∷ export_with (notify (codes "d") 4 [] mode.Exported) [] ∷ [])
unfolding in_turn attributes_of names_within nearest_within after_lines
exported_ones = refl

-- the first attribute of the first resource that has one
mismatch_first : exports untouched (notify (codes "a") 1 [] mode.Exported ∷ full
    ∷ notify (codes "z") 3 ((codes "before", d.default) ∷ []) mode.Exported ∷ [])
    ≡ Err (fault (place 1) (what.TypeMismatch (codes "message")))
unfolding in_turn attributes_of names_within nearest_within after_lines
mismatch_first = refl

-- a tag is not exported, so it may be anything; and so may what is not exported
mismatch_in_tag : exports untouched (notify (codes "a") 1 ((codes "tag", d.default) ∷ []) mode.Exported
    ∷ notify (codes "b") 2 ((codes "message", d.default) ∷ []) mode.Plain ∷ [])
    ≡ Ok (export_with (notify (codes "a") 1 [] mode.Exported) [] ∷ [])
unfolding in_turn attributes_of names_within nearest_within after_lines
mismatch_in_tag = refl

-- ---- the tests in their order

line_first : lines_checked two_classes (overridden (line_on (codes "notify") (codes "v") 7
    ∷ line_on (codes "notify") (codes "w") 8 ∷ line_on (codes "class") (codes "a") 9 ∷ []))
    ≡ Err (fault (place 8) (what.NoOverrideTarget (named (codes "notify") (codes "w"))))
line_first = refl

line_on_class : lines_checked two_classes (overridden (line_on (codes "class") (codes "a") 9 ∷ []))
    ≡ Err (fault (place 9) (what.NoOverrideTarget (named (codes "class") (codes "a"))))
line_on_class = refl

realize_first : realized_checked two_classes (collect 5 ∷ realize (codes "v") 6 ∷ realize (codes "w") 7
    ∷ realize (codes "x") 8 ∷ []) ≡ Err (fault (place 7) (what.NoOverrideTarget (named (codes "notify") (codes "w"))))
realize_first = refl

realize_none : realized_checked two_classes (collect 5 ∷ realize (codes "v") 6 ∷ []) ≡ Ok tt
realize_none = refl

abbrev cyclic : List Row
cyclic = class (codes "main") 0 ∷ class (codes "a") 1 ∷ notify (codes "n") 2 ((codes "message", d.default) ∷ [])
    mode.Exported ∷ []

-- a line comes before `realize`, that before a cycle, that before what is exported
line_before_realize : finished (overridden (line_on (codes "notify") (codes "w") 8 ∷ [])) cyclic
    (related (contains 1 1 ∷ []) (realize (codes "x") 7 ∷ [])) (codes "node")
    ≡ Err (fault (place 8) (what.NoOverrideTarget (named (codes "notify") (codes "w"))))
line_before_realize = refl

realize_before_cycle : finished untouched cyclic (related (contains 1 1 ∷ []) (realize (codes "x") 7 ∷ []))
    (codes "node") ≡ Err (fault (place 7) (what.NoOverrideTarget (named (codes "notify") (codes "x"))))
realize_before_cycle = refl

cycle_before_export : finished untouched cyclic (related (contains 1 1 ∷ []) []) (codes "node")
    ≡ Err (fault (place 1) (what.Cycle (named (codes "class") (codes "a") ∷ [])))
unfolding first_below least_way way_to first_cycle native_of attributes_of names_within nearest_within after_lines is_relation_name in_turn edges_from joined
cycle_before_export = refl

export_last : finished untouched cyclic (related [] []) (codes "node")
    ≡ Err (fault (place 2) (what.TypeMismatch (codes "message")))
unfolding first_below least_way way_to first_cycle native_of attributes_of names_within nearest_within after_lines is_relation_name in_turn edges_from joined
export_last = refl

-- ---- relations

-- `Class[main]`, three notifies of which the second is virtual, an exported one and an imported one
abbrev notifies : List Row
notifies =
    class (codes "main") 0
    ∷ notify (codes "a") 1 ((codes "message", text (codes "x")) ∷ []) mode.Plain
    ∷ notify (codes "v") 2 [] mode.Virtual
    ∷ notify (codes "b") 3 [] mode.Plain
    ∷ marked (notify (codes "e") 4 [] mode.Exported)
    ∷ notify (codes "i") 5 ((codes "message", text (codes "x")) ∷ []) imported
    ∷ []

abbrev of_notifies : List Collector → Sources
of_notifies cs = sources untouched notifies (related [] cs)

one_resource : target (of_notifies []) (place 9) (named (codes "notify") (codes "b")) ≡ Ok 2
one_resource = refl

-- what is virtual is no target, and what was never declared is none either
not_live : target (of_notifies []) (place 9) (named (codes "notify") (codes "v"))
    ≡ Err (fault (place 9) (what.NoRelationTarget (named (codes "notify") (codes "v"))))
not_live = refl

not_declared : target (of_notifies []) (place 9) (named (codes "file") (codes "a"))
    ≡ Err (fault (place 9) (what.NoRelationTarget (named (codes "file") (codes "a"))))
not_declared = refl

-- `Notify <| |>` takes what is live and was not imported
taken_local : taken (of_notifies []) (collect 5) ≡ 1 ∷ 2 ∷ 3 ∷ []
unfolding attributes_of names_within nearest_within after_lines
taken_local = refl

-- `Notify <<| |>>` takes what is exported, and what was imported
taken_exported : taken (of_notifies []) (record (collect 5) { exported = true }) ≡ 3 ∷ 4 ∷ []
unfolding attributes_of names_within nearest_within after_lines
taken_exported = refl

taken_of_kind : taken (of_notifies []) (record (collect 5) { kind = codes "file" }) ≡ []
unfolding attributes_of names_within nearest_within after_lines
taken_of_kind = refl

taken_by_query : taken (of_notifies []) (record (collect 5) { query = by_attribute (codes "message") (text (codes "x")) })
    ≡ 1 ∷ []
unfolding attributes_of names_within nearest_within after_lines
taken_by_query = refl

-- of what is local the attributes as they are at the end
taken_by_override : taken (sources (overridden (line_on (codes "notify") (codes "b") 9 ∷ [])) notifies (related [] []))
    (record (collect 5) { query = by_attribute (codes "message") (text (codes "x")) }) ≡ 1 ∷ 2 ∷ []
unfolding attributes_of names_within nearest_within after_lines
taken_by_override = refl

-- of what was imported those that were published
taken_as_published : taken (sources (overridden (line_on (codes "notify") (codes "e") 9
    ∷ line_on (codes "notify") (codes "i") 9 ∷ [])) notifies (related [] []))
    (record (collect 5) { exported = true; query = by_attribute (codes "message") (text (codes "x")) }) ≡ 3 ∷ 4 ∷ []
unfolding attributes_of names_within nearest_within after_lines
taken_as_published = refl

abbrev one : List ℕ → Operand
one title = operand.One (named (codes "notify") title)

abbrev line : List Operand → List Operand → Bool → RelationLine
line left right signal = record { left = left; right = right; signal = signal; at = place 9 }

-- each of the left before each of the right; a pair that is there twice signals where one of them does
joined_lines : lines_related (of_notifies (collect 5 ∷ [])) (line (one (codes "b") ∷ []) (one (codes "a") ∷ []) false
    ∷ line (operand.All 0 ∷ []) (one (codes "a") ∷ []) true ∷ line (one (codes "b") ∷ []) (one (codes "a") ∷ []) false
    ∷ line (one (codes "i") ∷ operand.All 7 ∷ []) (one (codes "a") ∷ one (codes "b") ∷ []) false ∷ [])
    ≡ Ok (((1, 1), true) ∷ ((2, 1), true) ∷ ((3, 1), true) ∷ ((4, 1), false) ∷ ((4, 2), false) ∷ [])
unfolding in_turn edges_from joined attributes_of names_within nearest_within after_lines
joined_lines = refl

-- the side that goes before is tested first, and within it in order
left_first : lines_related (of_notifies []) (line (one (codes "a") ∷ one (codes "x") ∷ one (codes "y") ∷ [])
    (one (codes "z") ∷ []) false ∷ [])
    ≡ Err (fault (place 9) (what.NoRelationTarget (named (codes "notify") (codes "x"))))
unfolding in_turn
left_first = refl

then_right : lines_related (of_notifies []) (line (one (codes "a") ∷ []) (one (codes "b") ∷ one (codes "z") ∷ []) false ∷ [])
    ≡ Err (fault (place 9) (what.NoRelationTarget (named (codes "notify") (codes "z"))))
unfolding in_turn
then_right = refl

-- the four metaparameters, in this order
abbrev ref : List ℕ → Datum
ref title = d.reference (named (codes "notify") title)

abbrev with : List Setting → List Row
with ss = class (codes "main") 0 ∷ notify (codes "a") 1 [] mode.Plain ∷ notify (codes "b") 2 ss mode.Plain ∷ []

by_metaparameters : related_pairs (sources untouched (with ((codes "before", list (ref (codes "a") ∷ list [] ∷ []))
    ∷ (codes "require", d.reference (named (codes "class") (codes "main"))) ∷ (codes "subscribe", ref (codes "a")) ∷ []))
    (related [] [])) [] ≡ Ok (((0, 2), false) ∷ ((1, 2), true) ∷ ((2, 1), false) ∷ [])
unfolding in_turn edges_from joined attributes_of names_within nearest_within after_lines
by_metaparameters = refl

by_notify : related_pairs (sources untouched (with ((codes "notify", ref (codes "a")) ∷ [])) (related [] [])) []
    ≡ Ok (((2, 1), true) ∷ [])
unfolding in_turn edges_from joined attributes_of names_within nearest_within after_lines
by_notify = refl

-- F8 of a value that is no reference, also within a list, and Undef within one
no_reference : related_pairs (sources untouched (with ((codes "notify", list (ref (codes "a") ∷ d.undef ∷ [])) ∷ []))
    (related [] [])) [] ≡ Err (fault (place 2) (what.TypeMismatch (codes "notify")))
unfolding in_turn edges_from joined attributes_of names_within nearest_within after_lines
no_reference = refl

-- members in order
missing_member : related_pairs (sources untouched (with ((codes "notify", list (ref (codes "x") ∷ d.undef ∷ [])) ∷ []))
    (related [] [])) [] ≡ Err (fault (place 2) (what.NoRelationTarget (named (codes "notify") (codes "x"))))
unfolding in_turn edges_from joined attributes_of names_within nearest_within after_lines
missing_member = refl

-- `before` is tested before `require`, whatever their order by name
in_their_order : related_pairs (sources untouched (with ((codes "notify", d.default) ∷ (codes "require", ref (codes "x"))
    ∷ (codes "subscribe", d.default) ∷ [])) (related [] [])) []
    ≡ Err (fault (place 2) (what.NoRelationTarget (named (codes "notify") (codes "x"))))
unfolding in_turn edges_from joined attributes_of names_within nearest_within after_lines
in_their_order = refl

-- lines come before metaparameters
lines_first : related_pairs (sources untouched (with ((codes "before", d.default) ∷ [])) (related [] []))
    (line (one (codes "z") ∷ []) [] false ∷ [])
    ≡ Err (fault (place 9) (what.NoRelationTarget (named (codes "notify") (codes "z"))))
unfolding in_turn edges_from joined attributes_of names_within nearest_within after_lines
lines_first = refl

-- what is not live has no relations
dead_metaparameter : related_pairs (sources untouched (notify (codes "a") 1 ((codes "before", d.default) ∷ [])
    mode.Virtual ∷ []) (related [] [])) [] ≡ Ok []
unfolding in_turn edges_from joined attributes_of names_within nearest_within after_lines
dead_metaparameter = refl

-- ---- names

abbrev path : List ℕ → List Setting
path t = (codes "path", text t) ∷ []

abbrev file : List ℕ → ℕ → List Setting → Row
file title n ss = row (codes "file") title n (Some 0) ss mode.Plain

-- the title stands in where the name attribute is not set; the later one is told
same_path : names_checked untouched (file (codes "a") 1 (path (codes "c")) ∷ file (codes "b") 2 []
    ∷ file (codes "c") 3 [] ∷ file (codes "d") 4 (path (codes "b")) ∷ [])
    ≡ Err (fault (place 3) (what.SameNamevar (named (codes "file") (codes "c")) (named (codes "file") (codes "a"))))
unfolding in_turn native_of attributes_of names_within nearest_within after_lines
same_path = refl

-- letter by letter, within a kind, and of what is live
other_names : names_checked untouched (file (codes "a") 1 [] ∷ file (codes "A") 2 []
    ∷ row (codes "user") (codes "a") 3 (Some 0) [] mode.Plain
    ∷ row (codes "file") (codes "b") 4 (Some 0) (path (codes "a")) mode.Virtual
    ∷ row (codes "vhost") (codes "x") 5 (Some 0) [] mode.Plain ∷ row (codes "vhost") (codes "y") 6 (Some 0)
    ((codes "name", text (codes "x")) ∷ []) mode.Plain ∷ []) ≡ Ok tt
unfolding in_turn native_of attributes_of names_within nearest_within after_lines
other_names = refl

abbrev a_package : List ℕ → ℕ → List Setting → Row
a_package title n ss = row (codes "package") title n (Some 0) ss mode.Plain

-- packages by their provider too
same_package : names_checked untouched (a_package (codes "a") 1 ((codes "provider", text (codes "pip")) ∷ [])
    ∷ a_package (codes "b") 2 ((codes "name", text (codes "a")) ∷ [])
    ∷ a_package (codes "c") 3 ((codes "name", text (codes "a")) ∷ (codes "provider", text (codes "pip")) ∷ []) ∷ [])
    ≡ Err (fault (place 3) (what.SameNamevar (named (codes "package") (codes "c")) (named (codes "package") (codes "a"))))
unfolding in_turn native_of attributes_of names_within nearest_within after_lines
same_package = refl

-- no `exec` and no `notify` is told apart
same_command : names_checked untouched (row (codes "exec") (codes "a") 1 (Some 0)
    ((codes "command", text (codes "b")) ∷ []) mode.Plain ∷ row (codes "exec") (codes "b") 2 (Some 0) [] mode.Plain
    ∷ notify (codes "n") 3 ((codes "name", text (codes "m")) ∷ []) mode.Plain ∷ notify (codes "m") 4 [] mode.Plain ∷ [])
    ≡ Ok tt
unfolding in_turn native_of attributes_of names_within nearest_within after_lines
same_command = refl

-- relations come before names, and names before containment
relation_before_names : finished untouched (class (codes "main") 0 ∷ file (codes "a") 1 (path (codes "b"))
    ∷ file (codes "b") 2 [] ∷ notify (codes "n") 3 ((codes "require", d.default) ∷ []) mode.Plain ∷ [])
    (related [] []) (codes "node") ≡ Err (fault (place 3) (what.TypeMismatch (codes "require")))
unfolding in_turn native_of attributes_of names_within nearest_within after_lines edges_from joined
relation_before_names = refl

names_before_cycle : finished untouched (class (codes "main") 0 ∷ file (codes "a") 1 (path (codes "b"))
    ∷ file (codes "b") 2 [] ∷ []) (related (contains 0 0 ∷ []) []) (codes "node")
    ≡ Err (fault (place 2) (what.SameNamevar (named (codes "file") (codes "b")) (named (codes "file") (codes "a"))))
unfolding in_turn native_of attributes_of names_within nearest_within after_lines edges_from joined
names_before_cycle = refl

-- ---- all together

-- what main declares may not require main, since it is within it
in_its_own_way : finished untouched (class (codes "main") 0 ∷ notify (codes "n") 2
    ((codes "require", d.reference (named (codes "class") (codes "main"))) ∷ []) mode.Plain ∷ [])
    (related [] []) (codes "node") ≡ Err (fault (place 2) (what.Cycle (named (codes "notify") (codes "n") ∷ [])))
unfolding first_below least_way way_to first_cycle native_of attributes_of names_within nearest_within after_lines is_relation_name in_turn edges_from joined
in_its_own_way = refl

abbrev small : List Row
small = class (codes "main") 0 ∷ notify (codes "v") 1 [] mode.Exported
    ∷ notify (codes "n") 2 ((codes "message", d.default)
    ∷ (codes "require", d.reference (named (codes "class") (codes "b"))) ∷ []) mode.Plain
    ∷ class (codes "b") 3 ∷ []

whole : finished untouched small (related [] []) (codes "node") ≡ Ok (
  record {
    node = codes "node";
    resources =
        record { item = resource_with (class (codes "main") 0).declared []; inside = [] }
        ∷ record {
          item = resource_with (notify (codes "n") 2 [] mode.Plain).declared ((codes "message", text (codes "default")) ∷ []);
          inside = 0 ∷ [];
        }
        ∷ record { item = resource_with (class (codes "b") 3).declared []; inside = [] }
        ∷ [];
    edges = record { from = 2; to = 1; signal = false } ∷ [];
    log = [];
  },
  record { items = export_with (notify (codes "v") 1 [] mode.Exported) [] ∷ [] },
)
unfolding first_below least_way way_to first_cycle native_of attributes_of names_within nearest_within after_lines is_relation_name in_turn edges_from joined
whole = refl
