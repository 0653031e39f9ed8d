use Rattle.override_rules.proofs.Alone.{copied}
use Rattle.override_rules.proofs.overrides.Overrides.row_attributes.Goals as goal

pub returns-then-is_untouched : goal.returns-then-is_untouched
returns-then-is_untouched c =
    copied c.args.self.now c.args.row.now c.is_untouched.result c.is_untouched.ensures c.if-is_untouched.true
    c.copy_set.result c.copy_set.ensures.set c.copy_set.ensures.rising
