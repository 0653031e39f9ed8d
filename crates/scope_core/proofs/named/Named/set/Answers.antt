-- What the map puts in is what is put in by name.
use Rattle.std.proofs.Common.{◌∙◌, ap}
use Rattle.scope_core.specs.Keyed.{keyed}
use Rattle.scope_core.specs.Names.{with_value}
use Rattle.scope_core.proofs.Keys.{put_by_key}
use Rattle.scope_core.proofs.named.Named.set.Goals as goal

pub returns : goal.returns
returns g c =
    ap keyed c.in_ok-insert.ensures.entries
    ∙ put_by_key c.self.inside.map.entries c.into_bytes.result c.args.value
    ∙ ap (λ x. with_value x c.args.value (keyed c.self.inside.map.entries))
    (ap (λ v. v.items) c.into_bytes.ensures.value ∙ c.in_ok-name.ensures)
    ∙ ap (with_value c.args.name c.args.value) c.self.view_is
