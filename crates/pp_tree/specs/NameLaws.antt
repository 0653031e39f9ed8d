-- That `same_name` tells names apart, and `name_cmp` puts them in order, so that a map may have them as its keys.
use Rattle.std.specs.Prelude.{◌≡◌, ℕ, List, ◌∷◌, [], None, Some, nat_eq, refl}
use Rattle.std.proofs.Common.{ap, subst, sym, ◌∙◌}
use Rattle.std.specs.Cmp.{IsEquivalence, IsTotalOrder, IsPartialOrder, on_equiv, on_total, po}
use Rattle.std.specs.Ordering.{nat_cmp, eq_by_cmp, is_eq}
use Rattle.std.specs.Cmp.Lexicographic.{pointwise, slice_cmp, nat_list_eq_equiv, nat_list_cmp_total, texts_ties}
use Rattle.pp_tree.specs.declared.table.DefinitionName.{DefinitionName}
use Rattle.pp_tree.specs.declared.table.DefinitionName.TheVariants.{Code, Function, Node}
use Rattle.pp_tree.specs.Names.{same_name, name_cmp}

-- a name as one text, which tells it apart
abbrev key : DefinitionName → List ℕ
key (Code a) = 0 ∷ a
key (Node None) = 1 ∷ []
key (Node (Some a)) = 2 ∷ a
key (Function a) = 3 ∷ a

same_key : (x y : DefinitionName) → pointwise nat_eq (key x) (key y) ≡ same_name x y
same_key (Code a) (Code b) = refl
same_key (Code a) (Node None) = refl
same_key (Code a) (Node (Some b)) = refl
same_key (Node None) (Code b) = refl
same_key (Node None) (Node None) = refl
same_key (Node None) (Node (Some b)) = refl
same_key (Node (Some a)) (Code b) = refl
same_key (Node (Some a)) (Node None) = refl
same_key (Node (Some a)) (Node (Some b)) = refl
same_key (Code a) (Function b) = refl
same_key (Node None) (Function b) = refl
same_key (Node (Some a)) (Function b) = refl
same_key (Function a) (Code b) = refl
same_key (Function a) (Node None) = refl
same_key (Function a) (Node (Some b)) = refl
same_key (Function a) (Function b) = refl

pub same_name_equiv : IsEquivalence same_name
same_name_equiv = subst IsEquivalence (λ i x y. same_key x y i) (on_equiv key nat_list_eq_equiv)

-- ---- their order

same_order : (x y : DefinitionName) → slice_cmp nat_cmp (key x) (key y) ≡ name_cmp x y
same_order (Code a) (Code b) = refl
same_order (Code a) (Node None) = refl
same_order (Code a) (Node (Some b)) = refl
same_order (Node None) (Code b) = refl
same_order (Node None) (Node None) = refl
same_order (Node None) (Node (Some b)) = refl
same_order (Node (Some a)) (Code b) = refl
same_order (Node (Some a)) (Node None) = refl
same_order (Node (Some a)) (Node (Some b)) = refl
same_order (Code a) (Function b) = refl
same_order (Node None) (Function b) = refl
same_order (Node (Some a)) (Function b) = refl
same_order (Function a) (Code b) = refl
same_order (Function a) (Node None) = refl
same_order (Function a) (Node (Some b)) = refl
same_order (Function a) (Function b) = refl

pub name_cmp_total : IsTotalOrder name_cmp
name_cmp_total = subst IsTotalOrder (λ i x y. same_order x y i) (on_total key nat_list_cmp_total)

-- names are level where they are the same
pub name_cmp_ties : (x y : DefinitionName) → same_name x y ≡ eq_by_cmp name_cmp x y
name_cmp_ties x y = sym (same_key x y) ∙ texts_ties (key x) (key y) ∙ ap is_eq (same_order x y)

pub name_cmp_partial : IsPartialOrder same_name (λ x y. Some (name_cmp x y))
name_cmp_partial = po name_cmp_total name_cmp_ties
