use Rattle.std.proofs.Common.{ap, ◌∙◌}
use Rattle.pp_values.proofs.RisingLemmas.{is_rising-insert_key}
use Rattle.pp_values.specs.Rising.{is_rising}
use Rattle.res_core.specs.TagPlaces.{place_in}
use Rattle.res_core.proofs.PlaceLemmas.{put_between}
use Rattle.res_core.proofs.tags.Tags.add.Goals as goal

pub invariant_of-self-in-Err : goal.invariant_of-self-in-Err
invariant_of-self-in-Err c =
    ap is_rising
    (c.in_ok-insert-in-Err.ensures.items
    ∙ put_between c.args.text c.self.inside.items.items c.in-Err.place
    (c.in-Err.ensures ∙ ap (place_in c.args.text) c.deref.ensures.value))
    ∙ is_rising-insert_key c.self.inside.items.items c.args.text c.self.invariant
