use Rattle.std.proofs.Common.{ap}
use Rattle.site_bundle.specs.Bundles.{list_or}
use Rattle.site_bundle.proofs.Lists.{no_list}
use Rattle.site_bundle.proofs.reading.parse_list.Goals as goal

pub returns-in-Ok : goal.returns-in-Ok
returns-in-Ok c = ap list_or c.in-Ok.ensures

pub returns-in-Err-NotJson : goal.returns-in-Err-NotJson
returns-in-Err-NotJson c = no_list _ c.in-Err-NotJson.field-0 _ c.in-Err-NotJson.field-0-is c.in-Err-NotJson.ensures
    c.bad_shape.ensures
