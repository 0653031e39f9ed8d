-- What the map finds is what stands there by name.
use Rattle.std.proofs.Common.{◌∙◌, ap}
use Rattle.scope_core.specs.Names.{value_of}
use Rattle.scope_core.proofs.Keys.{found_by_key}
use Rattle.scope_core.proofs.named.Named.get.Goals as goal

pub returns : goal.returns
returns g c =
    c.get.ensures.value
    ∙ found_by_key c.args.name.now c.self.inside.map.entries
    ∙ ap (value_of c.args.name.now) c.self.view_is
