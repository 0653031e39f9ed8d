-- The definitions at worked examples. Each line with `refl` holds by computing.
use Rattle.std.proofs.Common.{◌≡◌, ℕ, true, false, List, [], ◌∷◌, None, Some, Ok, Err, refl, codes}
use Rattle.pp_tree.specs.Building.{param}
use Rattle.pp_tree.specs.Names.{normal, without_front_colons}
use Rattle.pp_tree.specs.declared.definition.Definition.TheVariants as definition
use Rattle.pp_tree.specs.declared.expr.Form.{out-Form}
use Rattle.pp_values.specs.Datum as d
use Rattle.pp_values.specs.Datum.{data_of}
use Rattle.pp_values.specs.Faults.{fault}
use Rattle.pp_values.specs.declared.fault.Fault.{Fault}
use Rattle.pp_values.specs.declared.fault.What.TheVariants as what
use Rattle.res_core.specs.TagNames.{segments, is_word_byte, is_tag_byte}
use Rattle.scope_core.specs.Names.{last_cut}
use Rattle.scope_core.specs.Scopes as scopes
use Rattle.eval_world.specs.Environment.{Environment}
use Rattle.eval_world.specs.Owners.{owner_at}
use Rattle.eval_world.specs.Inner.{Inner}
use Rattle.eval_world.specs.Outcomes.{◌>>=◌, ◌>>◌}
use Rattle.eval_world.specs.Worlds.{assign, read, write_log}
use Rattle.eval_classes.specs.Definitions.{below, class_found, comes_to, define_found, definition_of, file_of}
use Rattle.eval_classes.specs.Definitions.{module_of, module_path, parent_of}
use Rattle.eval_classes.specs.Included.{declared_once, include_from, include_names, include_rule, included, names_asked}
use Rattle.eval_classes.specs.Included.{relate_rule, names_from}
use Rattle.eval_classes.specs.Listing.{chain_declared, chain_from, class_declared, class_reference, declare_rule}
use Rattle.eval_classes.specs.Listing.{class_names, enter_all, enter_chain, enter_scope, list_all, list_rule, own_rule}
use Rattle.eval_classes.specs.Listing.{run_all}
use Rattle.eval_classes.specs.OwnNames.{names_rule}
use Rattle.eval_classes.specs.declared.including.Including.TheVariants as including
use Rattle.eval_classes.proofs.Samples.{a, b, c, class, entry, define_entry, site_of, read_file, faulty_file}
use Rattle.eval_classes.proofs.Samples.{logged, place, refuses, sample, seen, top, world}

-- ---- files

of_module : module_path (codes "ntp") ≡ codes "modules/ntp/manifests/init.pp"
unfolding segments
of_module = refl

within_module : module_path (codes "ntp::server::config") ≡ codes "modules/ntp/manifests/server/config.pp"
unfolding segments below
within_module = refl

-- ---- definitions

abbrev m : List ℕ
m = codes "m"

abbrev init : List ℕ
init = codes "modules/m/manifests/init.pp"

-- class `m` of its module file
abbrev with_module : Environment
with_module = site_of [] (read_file init (entry m (class m [] None 3) ∷ []) ∷ [])

in_file : class_found with_module m (place 1) ≡ Ok (class m [] None 3)
unfolding class_found definition_of segments
in_file = refl

home_of_file : (file_of with_module m ≡ init) × module_of with_module m ≡ m
unfolding segments
home_of_file = (refl, refl)

-- what the main manifest defines settles the name: a define there hides the class of the file
hidden : class_found (site_of (define_entry m [] ∷ []) with_module.files) m (place 1)
    ≡ refuses 1 (what.UnknownClass m)
unfolding class_found definition_of
hidden = refl

home_of_main : (file_of (site_of (define_entry m [] ∷ []) with_module.files) m ≡ codes "manifests/site.pp")
    × module_of (site_of (define_entry m [] ∷ []) with_module.files) m ≡ []
home_of_main = (refl, refl)

-- a file that defines something else, and one that is not there
not_in_file : class_found with_module (codes "m::a") (place 1) ≡ refuses 1 (what.UnknownClass (codes "m::a"))
unfolding class_found definition_of segments below
not_in_file = refl

class_as_define : define_found with_module m (place 1) ≡ refuses 1 (what.UnknownType m)
unfolding define_found definition_of segments
class_as_define = refl

-- the fault of a file that is used
abbrev broken : Fault
broken = fault (record { file = init; line = 2 }) what.Syntax

faulty : class_found (site_of [] (faulty_file init broken ∷ [])) m (place 1) ≡ Err broken
unfolding class_found definition_of segments
faulty = refl

-- ---- parents

-- `b` inherits from `a`, whose name is written otherwise
abbrev family : Environment
family = site_of (entry a (class a [] None 2) ∷ entry b (class b [] (Some (codes "::A")) 3) ∷ []) []

parent : parent_of family b (class b [] (Some (codes "::A")) 3) ≡ Some a
unfolding parent_of comes_to definition_of normal without_front_colons
parent = refl

-- `a` inherits from `b` and the other way round: on the way from each one comes to it again
abbrev round : Environment
round = site_of (entry a (class a [] (Some b) 2) ∷ entry b (class b [] (Some a) 3) ∷ []) []

comes_back : comes_to 2 round a (Some b) ≡ true
unfolding comes_to definition_of normal without_front_colons
comes_back = refl

-- `c` inherits from `b`, and does not come to itself
comes_not_back : comes_to 4 round c (Some b) ≡ false
unfolding comes_to definition_of normal without_front_colons
comes_not_back = refl

-- ---- declaring

-- the class is listed first and takes the tags of `Class[main]`; its parent takes its tags; the parent is evaluated first,
-- each with the number of its declaration, the line of its definition, its scope and its owner
child_and_parent : seen (include_rule sample including.Include b (place 7) top (world family))
    ≡ Ok (
      (b, b ∷ codes "class" ∷ codes "main" ∷ []) ∷ (a, a ∷ b ∷ codes "class" ∷ codes "main" ∷ []) ∷ [],
      (2 ∷ 2 ∷ 1 ∷ 2 ∷ []) ∷ (1 ∷ 3 ∷ 2 ∷ 1 ∷ []) ∷ [],
    )
unfolding include_rule declared_once class_declared chain_declared chain_from enter_chain enter_all enter_scope list_all
    list_rule declare_rule own_rule class_names names_rule assign scopes.assign run_all relate_rule class_found parent_of comes_to
    definition_of segments is_word_byte is_tag_byte normal without_front_colons write_log owner_at
child_and_parent = refl

-- a class that is declared already is not declared again
once : seen (include_from sample including.Include (a ∷ a ∷ []) (place 7) top (world family))
    ≡ Ok ((a, a ∷ codes "class" ∷ codes "main" ∷ []) ∷ [], (1 ∷ 2 ∷ 1 ∷ 1 ∷ []) ∷ [])
unfolding include_from include_rule declared_once class_declared chain_declared chain_from enter_chain enter_all enter_scope
    list_all list_rule declare_rule own_rule class_names names_rule assign scopes.assign run_all relate_rule class_found parent_of comes_to
    definition_of segments is_word_byte is_tag_byte normal without_front_colons write_log owner_at
once = refl

-- a parent that is declared already stays, and the child is entered from its scope
parent_before : seen (include_from sample including.Include (a ∷ b ∷ []) (place 7) top (world family))
    ≡ Ok (
      (a, a ∷ codes "class" ∷ codes "main" ∷ []) ∷ (b, b ∷ codes "class" ∷ codes "main" ∷ []) ∷ [],
      (1 ∷ 2 ∷ 1 ∷ 1 ∷ []) ∷ (2 ∷ 3 ∷ 2 ∷ 2 ∷ []) ∷ [],
    )
unfolding include_from include_rule declared_once class_declared chain_declared chain_from enter_chain enter_all enter_scope
    list_all list_rule declare_rule own_rule class_names names_rule assign scopes.assign run_all relate_rule class_found parent_of comes_to
    definition_of segments is_word_byte is_tag_byte normal without_front_colons write_log owner_at
parent_before = refl

-- a class body that leaves in the log what it reads of these names
abbrev reading : Inner
reading = record sample {
  class = λ n line here. logged here (codes "b::title") >> logged here (codes "b::module_name") >> logged here (codes "name");
}

-- the names of a class are there when its parent is evaluated: the first three lines are those of the parent's body
names_first : seen (include_rule reading including.Include b (place 7) top
    (world (site_of (entry a (class a [] None 2) ∷ []) (read_file (codes "modules/b/manifests/init.pp")
    (entry b (class b [] (Some a) 3) ∷ []) ∷ []))))
    ≡ Ok (
      (b, b ∷ codes "class" ∷ codes "main" ∷ []) ∷ (a, a ∷ b ∷ codes "class" ∷ codes "main" ∷ []) ∷ [],
      b ∷ b ∷ a ∷ b ∷ b ∷ b ∷ [],
    )
unfolding include_rule declared_once class_declared chain_declared chain_from enter_chain enter_all enter_scope list_all
    list_rule declare_rule own_rule class_names names_rule assign scopes.assign run_all relate_rule class_found
    parent_of comes_to definition_of segments is_word_byte is_tag_byte normal without_front_colons write_log owner_at read
    scopes.read scopes.found last_cut scopes.seen_from
names_first = refl

-- a parent that is no class of the site is F4 at the place of the child
no_parent : seen (include_rule sample including.Include c (place 7) top
    (world (site_of (entry c (class c [] (Some m) 3) ∷ []) [])))
    ≡ refuses 7 (what.UnknownClass m)
unfolding include_rule declared_once class_declared chain_declared chain_from enter_chain enter_all enter_scope list_all
    list_rule declare_rule own_rule class_names names_rule assign scopes.assign run_all relate_rule class_found parent_of comes_to
    definition_of segments is_word_byte is_tag_byte normal without_front_colons write_log owner_at
no_parent = refl

-- `class { }` of a class that is declared is F14
twice : seen (class_declared sample (class (codes "main") [] None 4) [] (place 7) 0 (world family))
    ≡ refuses 7 (what.Duplicate (class_reference (codes "main")) (place 1))
unfolding class_declared chain_declared chain_from enter_chain enter_all enter_scope list_all list_rule declare_rule own_rule
    parent_of comes_to definition_of segments is_word_byte is_tag_byte normal without_front_colons owner_at
twice = refl

-- ---- arguments

-- texts and references to classes, in lists too
names : names_asked (d.text (codes "::A") ∷ d.list (data_of (d.reference (class_reference b) ∷ [])) ∷ []) ≡ Some (a ∷ b ∷ [])
unfolding names_from normal without_front_colons
names = refl

no_argument : names_asked [] ≡ None
no_argument = refl

empty_list : names_asked (d.list (data_of []) ∷ []) ≡ Some []
unfolding names_from
empty_list = refl

-- all arguments are looked at before the first class is declared
all_arguments : seen (included sample including.Include (codes "include") (d.text a ∷ d.undef ∷ []) 7 top (world family))
    ≡ refuses 7 (what.WrongArguments (codes "include"))
unfolding included names_from normal without_front_colons owner_at
all_arguments = refl

unknown : seen (included sample including.Contain (codes "contain") (d.text m ∷ []) 7 top (world family))
    ≡ refuses 7 (what.UnknownClass m)
unfolding included names_from include_names include_from include_rule class_found definition_of segments normal
    without_front_colons owner_at
unknown = refl
