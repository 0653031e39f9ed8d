use Rattle.hiera_config.proofs.AddLemmas.{adds_then, comes_of}
use Rattle.hiera_config.proofs.reaching.files_reached.Goals as goal

pub returns : goal.returns
returns c =
    comes_of _ _ _ c.new-found.ensures.items
    (adds_then _ _ _ _ _ c.in_ok-add_layer.ensures
    (adds_then _ _ _ _ _ c.in_ok-add_layer-2.ensures c.in_ok-add_module.ensures))
