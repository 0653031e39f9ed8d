-- The sources above a source at worked examples. Each line with `refl` holds by computing.
use Rattle.std.proofs.Common.{◌≡◌, ℕ, List, [], ◌∷◌, None, Some, refl, codes}
use Rattle.override_rules.specs.declared.override_line.Right.TheVariants as right
use Rattle.pp_tree.specs.Names.{normal, without_front_colons}
use Rattle.res_core.specs.TagNames.{segments}
use Rattle.eval_world.specs.Environment.{Environment}
use Rattle.eval_world.specs.Owners.{main_owner}
use Rattle.eval_world.specs.declared.owner.Owner.{Owner}
use Rattle.eval_classes.specs.Above.{right_of, sources_above, sources_from}
use Rattle.eval_classes.specs.Definitions.{comes_to, definition_of, parent_of}
use Rattle.eval_classes.proofs.Samples.{a, b, c, class, entry, define_entry, read_file, site_of}

-- `c` inherits from `b`, which stands in a module, and `b` from `a`; `main` from `a` too
abbrev family : Environment
family = site_of
    (entry a (class a [] None 2) ∷ entry c (class c [] (Some b) 4) ∷ define_entry (codes "d") []
    ∷ entry (codes "main") (class (codes "main") [] (Some a) 5) ∷ [])
    (read_file (codes "modules/b/manifests/init.pp") (entry b (class b [] (Some a) 3) ∷ []) ∷ [])

-- what belongs to this source, and stands in a declaration of this number
abbrev owner : List ℕ → ℕ → Owner
owner source resource = record { file = []; source = source; resource = resource; scope = resource }

-- the nearest parent comes first
above_class : sources_above family (owner (codes "class c") 3) ≡ codes "class b" ∷ codes "class a" ∷ []
unfolding sources_above sources_from parent_of comes_to definition_of segments normal without_front_colons
above_class = refl

no_parent : sources_above family (owner (codes "class a") 1) ≡ []
unfolding sources_above sources_from parent_of comes_to definition_of segments normal without_front_colons
no_parent = refl

-- `class main` is the source of the main manifest, and that of a class `main` too, whose parents count for both
above_main : sources_above family main_owner ≡ codes "class a" ∷ []
unfolding sources_above sources_from parent_of comes_to definition_of segments normal without_front_colons
above_main = refl

above_others : (sources_above family (owner (codes "node") 0) ≡ [])
    × sources_above family (owner (codes "define d") 4) ≡ []
unfolding sources_above sources_from parent_of comes_to definition_of segments normal without_front_colons
above_others = (refl, refl)

right_of_class : right_of family (owner (codes "class b") 2) ≡ right.From (codes "class b") (codes "class a" ∷ [])
unfolding sources_above sources_from parent_of comes_to definition_of segments normal without_front_colons
right_of_class = refl
