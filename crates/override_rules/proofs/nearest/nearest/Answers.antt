use Rattle.std.proofs.Common.{Some, length, sym, ◌∙◌}
use Rattle.std.proofs.lemmas.Bool.{eqb-true}
use Rattle.override_rules.proofs.NoDefaults.{no_nearest}
use Rattle.override_rules.proofs.nearest.nearest.Goals as goal

pub returns-then-has_none : goal.returns-then-has_none
returns-then-has_none c =
    sym (no_nearest (length c.args.scopes.now) c.args.scopes.now c.args.defaults.now c.args.kind.now c.args.name.now
    (Some c.args.scope) (eqb-true _ _ (sym c.has_none.ensures ∙ c.if-has_none.true)))
