-- What is evaluated behind a call that only computed.
use Rattle.std.proofs.Common.{◌≡◌, ℕ, List}
use Rattle.pp_tree.specs.declared.statement.Statement.{Statement}
use Rattle.eval_world.specs.declared.here.Here.{Here}
use Rattle.eval_world.specs.declared.world.World.{World}
use Rattle.class_eval.specs.Meaning.{within}
use Rattle.independence_laws.specs.Alike.{IsSameHere}
use Rattle.independence_laws.specs.Computing.{Computes, IsSound, behind}
use Rattle.independence_laws.specs.Steps.{Comes, Equal, Two}
use Rattle.independence_laws.proofs.Leaving.{leaves_alike}
use Rattle.independence_laws.proofs.OfEvaluator.{within_same}
use Rattle.independence_laws.proofs.Owning.{owners_stay}

pub block_later : (w u : World) → IsSound w → Computes w u → (levels : ℕ) (b : List Statement) (line : ℕ) (here : Here)
    → IsSameHere w.owners w.owners here here
    → Comes Equal w.log u.log w (behind w u) ((within levels).block b line here w)
    ((within levels).block b line here (behind w u))
block_later w u sound is levels b line here same =
    let two : Two = record { left = here; right = here; first = w.owners; second = w.owners; same = same } in
    ((within_same levels).block b line two).comes w.log u.log w (behind w u) (leaves_alike w u sound is)
    (owners_stay w.owners) is.goes
