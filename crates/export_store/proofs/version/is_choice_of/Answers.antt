-- Sets that are found the same are one set.
use Rattle.std.proofs.Common.{Some, sym, ap, ◌∙◌}
use Rattle.std.specs.Prelude.{option_copied}
use Rattle.export_store.proofs.SameSets.{set_Decides}
use Rattle.export_store.proofs.version.is_choice_of.Goals as goal

pub returns-in-Some : goal.returns-in-Some
returns-in-Some c =
    λ so. ap option_copied c.in-Some.is ∙ ap Some ((set_Decides _ _).0 (sym c.is_same_set.ensures ∙ so))
