-- The sources from which a source inherits: those of the parents of a class. A line that changes what is set has to
-- come from a source that inherits from the resource's.
use Rattle.std.specs.Prelude.{ℕ, zero, suc, if◌then◌else◌, List, [], ◌∷◌, drop, length, nat_eq}
use Rattle.std.specs.Prelude.{Option, None, Some, option_and_then, codes}
use Rattle.std.specs.List.{starts_with}
use Rattle.override_rules.specs.declared.override_line.Right.{Right}
use Rattle.override_rules.specs.declared.override_line.Right.TheVariants as right
use Rattle.eval_world.specs.Environment.{Environment}
use Rattle.eval_world.specs.declared.owner.Owner.{Owner}
use Rattle.eval_classes.specs.Definitions.{class_source, class_told, definition_of, longest_way, parent_of}

-- the class that a source names, where it is one of a class
abbrev pub class_in : List ℕ → Option (List ℕ)
class_in source =
    if starts_with nat_eq source (codes "class ") then Some (drop (length (codes "class ")) source) else None

-- the parent of the class of a name
abbrev pub parent_named : Environment → List ℕ → Option (List ℕ)
parent_named m name = option_and_then (parent_of m name) (class_told (definition_of m name))

-- the sources of a class and of its parents, from it on, so many at most
unfoldable pub sources_from : ℕ → Environment → Option (List ℕ) → List (List ℕ)
sources_from zero m at = []
sources_from (suc left) m None = []
sources_from (suc left) m (Some name) = class_source name ∷ sources_from left m (parent_named m name)

-- those above a class: the parent's, that of the parent's parent, and so on
abbrev pub above_class : Environment → Option (List ℕ) → List (List ℕ)
above_class m None = []
above_class m (Some name) = sources_from (longest_way m) m (parent_named m name)

-- Those above the source of an owner: none but for a class. What stands outside of classes, defines and nodes has the
-- source `class main`, so the parents of a class `main` of the site are above it too.
unfoldable pub sources_above : Environment → Owner → List (List ℕ)
sources_above m o = above_class m (class_in o.source)

-- what a line of an override may do that stands in the code of this owner
abbrev pub right_of : Environment → Owner → Right
right_of m o = right.From o.source (sources_above m o)
