-- Where a collector asks for no attribute, what it takes is the same whatever they are.
use Rattle.std.proofs.Common.{◌≡◌, false, List, Option, None, Some, refl}
use Rattle.collector_query.proofs.Unread.{matches_same}
use Rattle.pp_values.specs.Settings.{Setting}
use Rattle.pp_values.specs.declared.reference.Reference.{Reference}
use Rattle.res_core.specs.Criteria.{Criterion}
use Rattle.res_core.specs.declared.resource.Resource.{Resource}
use Rattle.eval_collecting.specs.Matching.{asks, reads_attributes}

pub asks_same : (realized : Option Reference) (query : Criterion) (r : Resource) (set other : List Setting) →
    reads_attributes realized query ≡ false → asks realized query r set ≡ asks realized query r other
asks_same (Some wanted) query r set other unread = refl
asks_same None query r set other unread = matches_same r.title r.tags set other query unread
