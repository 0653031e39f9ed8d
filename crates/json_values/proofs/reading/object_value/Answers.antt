use Rattle.std.proofs.Common.{sym, ap, ◌∙◌}
use Rattle.pp_values.specs.Datum.{entries_of}
use Rattle.pp_values.specs.Views.{pair_views}
use Rattle.json_values.specs.ValueForm.{is_plain}
use Rattle.json_values.proofs.RisingKeys.{plain_distinct}
use Rattle.json_values.proofs.reading.object_value.Goals as goal

pub from_vec-requires : goal.from_vec-requires
from_vec-requires c =
    plain_distinct (pair_views c.args.members.items)
    (ap (λ ps. is_plain (entries_of (pair_views ps))) (sym c.as_slice.ensures.value) ∙ sym c.is_plain.ensures ∙ c.if-is_plain.true)
