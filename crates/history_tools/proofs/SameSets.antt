-- Nodes that export the same have one set, or none, and each node exports the same as itself.
use Rattle.std.proofs.Common.{◌≡◌, true, false, Option, None, Some, refl, sym, ap, ◌∙◌, true≢false}
use Rattle.res_core.specs.declared.export_set.ExportSet.{ExportSet}
use Rattle.export_store.proofs.SameSets.{set_Decides}
use Rattle.history_tools.specs.SameSets.{same_choice}

pub choice_is : (a b : Option ExportSet) → same_choice a b ≡ true → a ≡ b
choice_is None None so = refl
choice_is (Some a) (Some b) so = ap Some ((set_Decides a b).0 so)
choice_is None (Some b) so = absurd (true≢false (sym so))
choice_is (Some a) None so = absurd (true≢false (sym so))

choice_itself : (a : Option ExportSet) → same_choice a a ≡ true
choice_itself None = refl
choice_itself (Some a) = (set_Decides a a).1 refl

-- sets that are found apart are so
pub choice_apart : (a b : Option ExportSet) → same_choice a b ≡ false → a ≡ b → ⊥
choice_apart a b apart is = true≢false (sym (choice_itself a) ∙ ap (same_choice a) is ∙ apart)
