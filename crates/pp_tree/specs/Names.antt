-- The names of a table.
use Rattle.std.specs.Prelude.{ℕ, Bool, true, false, List, [], ◌∷◌, ◌&&◌, ◌==◌, if◌then◌else◌, None, Some, map, nat_eq}
use Rattle.std.specs.Char.{to_ascii_lowercase}
use Rattle.std.specs.Cmp.Lexicographic.{pointwise, slice_cmp}
use Rattle.std.specs.Ordering.{nat_cmp}
use Rattle.std.specs.declared.cmp.Ordering.{Ordering}
use Rattle.std.specs.declared.cmp.Ordering.TheVariants.{Less, Equal, Greater}
use Rattle.pp_tree.specs.declared.table.DefinitionName.{DefinitionName}
use Rattle.pp_tree.specs.declared.table.DefinitionName.TheVariants.{Code, Function, Node}

-- a text without a `::` at its front, of which one is dropped
unfoldable pub without_front_colons : List ℕ → List ℕ
without_front_colons [] = []
without_front_colons (a ∷ []) = a ∷ []
without_front_colons (a ∷ b ∷ rest) = if (a == 58) && (b == 58) then rest else a ∷ b ∷ rest

-- how a class or a define is looked up: without a `::` at its front, with its ASCII letters in lower case
unfoldable pub normal : List ℕ → List ℕ
normal text = map to_ascii_lowercase (without_front_colons text)

-- two names are the same, letter by letter; classes and defines share one sort of names, nodes and functions have
-- theirs
abbrev pub same_name : DefinitionName → DefinitionName → Bool
same_name (Code a) (Code b) = pointwise nat_eq a b
same_name (Node None) (Node None) = true
same_name (Node (Some a)) (Node (Some b)) = pointwise nat_eq a b
same_name (Function a) (Function b) = pointwise nat_eq a b
same_name _ _ = false

-- the order of names: classes and defines, then `default`, then the nodes' names, then functions, each by their bytes
abbrev pub name_cmp : DefinitionName → DefinitionName → Ordering
name_cmp (Code a) (Code b) = slice_cmp nat_cmp a b
name_cmp (Code a) (Node b) = Less
name_cmp (Node a) (Code b) = Greater
name_cmp (Node None) (Node None) = Equal
name_cmp (Node None) (Node (Some b)) = Less
name_cmp (Node (Some a)) (Node None) = Greater
name_cmp (Node (Some a)) (Node (Some b)) = slice_cmp nat_cmp a b
name_cmp (Code a) (Function b) = Less
name_cmp (Node a) (Function b) = Less
name_cmp (Function a) (Code b) = Greater
name_cmp (Function a) (Node b) = Greater
name_cmp (Function a) (Function b) = slice_cmp nat_cmp a b
