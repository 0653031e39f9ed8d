-- The attributes copied so far are those before the index.
use Rattle.std.proofs.Common.{◌≡◌, take}
use Rattle.res_core.specs.AttributeViews.{settings}
use Rattle.res_core.proofs.copying.copy_attributes.Given as goal

abbrev pub invariant-loop-attribute : goal.invariant-loop-attribute
invariant-loop-attribute l = settings l.items.items ≡ settings (take l.attribute-index l.attribute-items)
