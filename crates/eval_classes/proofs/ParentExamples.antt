-- The scope of a parent that was declared behind functions and templates. Each line with `refl` holds by computing.
use Rattle.std.proofs.Common.{◌≡◌, ℕ, ◌==◌, if◌then◌else◌, List, [], ◌∷◌, Some, None, Ok, refl, codes}
use Rattle.pp_tree.specs.Names.{normal, without_front_colons}
use Rattle.pp_values.specs.Datum as d
use Rattle.res_core.specs.TagNames.{segments, is_word_byte, is_tag_byte}
use Rattle.scope_core.specs.Names.{last_cut}
use Rattle.scope_core.specs.Scopes as scopes
use Rattle.eval_world.specs.Environment.{Environment}
use Rattle.eval_world.specs.Inner.{Inner}
use Rattle.eval_world.specs.Outcomes.{Step, ◌>>=◌, ◌>>◌}
use Rattle.eval_world.specs.Owners.{main_alone, owner_at, with_file, with_inline}
use Rattle.eval_world.specs.Worlds.{assign, read, write_log}
use Rattle.eval_world.specs.declared.world.World.{World}
use Rattle.eval_classes.specs.Definitions.{class_found, comes_to, definition_of, parent_of}
use Rattle.eval_classes.specs.Included.{declared_once, include_from, include_rule, relate_rule}
use Rattle.eval_classes.specs.Listing.{chain_declared, chain_from, class_declared, declare_rule, class_names, enter_all}
use Rattle.eval_classes.specs.Listing.{enter_chain, enter_scope, list_all, list_rule, own_rule, run_all}
use Rattle.eval_classes.specs.OwnNames.{names_rule}
use Rattle.eval_classes.specs.declared.including.Including.TheVariants as including
use Rattle.eval_classes.proofs.Samples.{a, b, c, class, entry, logged, place, sample, seen, site_of, top, world}

abbrev v : List ℕ
v = codes "v"

-- `b` inherits from `a`, and `c` from `b`
abbrev family : Environment
family = site_of (entry a (class a [] None 2) ∷ entry b (class b [] (Some a) 3) ∷ entry c (class c [] (Some b) 4) ∷ []) []

-- the body of the class that is declared first sets `$v`; each other one leaves in the log what it reads of it
abbrev bodies : Inner
bodies = record sample {
  class = λ n line here. if n == 1 then assign here v (d.text a) line >> logged here v else logged here v;
}

-- `$v` has another value in top scope. A function, a template and a text that is rendered were evaluated there, each in
-- a file of its own, which has an owner.
abbrev behind_files : World
behind_files = record (world family) {
  scopes = scopes.with_name 0 v (d.text c) scopes.top_alone;
  owners = with_inline 2 (with_file (codes "modules/m/templates/t.epp")
      (with_file (codes "modules/m/functions/f.pp") main_alone));
}

abbrev declared : List (List ℕ) → Step (Unit {0})
declared names = include_from bodies including.Include names (place 7) top

-- the child reads its parent's `$v`, where the parent was declared by itself
by_itself : seen (declared (a ∷ b ∷ []) behind_files)
    ≡ Ok ((a, a ∷ codes "class" ∷ codes "main" ∷ []) ∷ (b, b ∷ codes "class" ∷ codes "main" ∷ []) ∷ [], a ∷ a ∷ [])
unfolding include_from include_rule declared_once class_declared chain_declared chain_from enter_chain enter_all
    enter_scope list_all list_rule declare_rule own_rule class_names names_rule assign scopes.assign run_all relate_rule
    class_found parent_of comes_to definition_of segments is_word_byte is_tag_byte normal without_front_colons write_log
    owner_at read scopes.read scopes.found last_cut scopes.seen_from
by_itself = refl

-- .. and so does the child of that child
by_a_chain : seen (declared (a ∷ c ∷ []) behind_files)
    ≡ Ok (
      (a, a ∷ codes "class" ∷ codes "main" ∷ []) ∷ (c, c ∷ codes "class" ∷ codes "main" ∷ [])
          ∷ (b, b ∷ c ∷ codes "class" ∷ codes "main" ∷ []) ∷ [],
      a ∷ a ∷ a ∷ [],
    )
unfolding include_from include_rule declared_once class_declared chain_declared chain_from enter_chain enter_all
    enter_scope list_all list_rule declare_rule own_rule class_names names_rule assign scopes.assign run_all relate_rule
    class_found parent_of comes_to definition_of segments is_word_byte is_tag_byte normal without_front_colons write_log
    owner_at read scopes.read scopes.found last_cut scopes.seen_from
by_a_chain = refl
