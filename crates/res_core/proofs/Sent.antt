-- For callers: what resources, exports, catalogs and requests are made of may go to another thread and be shared by
-- threads.
use denote.Param.Send.{IsSend, IsSync, sendable}
use denote.Struct.Declared as declared
use Rattle.std.proofs.Crossing.{crosses}
use Rattle.std.proofs.option.Option.TheSendSync as option
use Rattle.std.proofs.boxed.Box.TheSendSync as boxed
use Rattle.std.proofs.string.String.TheSendSync as string
use Rattle.std.proofs.vec.Vec.TheSendSync as vec
use Rattle.std.proofs.alloc.Global.TheSendSync as global
use Rattle.std.proofs.rt.Memory.TheSendSync as memory
use Rattle.pp_values.proofs.pairs.Pairs.TheLaws.TheKnot as pairs
use Rattle.pp_values.proofs.ptype.TypeBox.TheLaws.TheKnot as types
use Rattle.pp_values.proofs.bounds.Bound.TheSendSync as bound
use Rattle.pp_values.proofs.bounds.Bounds.TheSendSync as bounds
use Rattle.pp_values.proofs.reference.Reference.TheSendSync as reference
use Rattle.pp_values.proofs.Items.TheSendSync as items
use Rattle.pp_values.proofs.text.Text.TheSendSync as text
use Rattle.pp_values.proofs.kind.Kind.TheSendSync as kind
use Rattle.pp_values.proofs.place.Place.TheSendSync as place
use Rattle.res_core.proofs.edge.Edge.TheSendSync as edge_are
use Rattle.res_core.proofs.log_line.LogLine.TheSendSync as log_line_are
use Rattle.res_core.proofs.tags.Tags.TheSendSync as tags
use Rattle.res_core.specs.contracts.attribute.Attribute as attribute
use Rattle.res_core.specs.contracts.attributes.Attributes as attributes
use Rattle.res_core.specs.contracts.catalog.Catalog as catalog
use Rattle.res_core.specs.contracts.exported.Exported as exported
use Rattle.res_core.specs.contracts.export_set.ExportSet as set
use Rattle.res_core.specs.contracts.held.Held as held
use Rattle.res_core.specs.contracts.requests.Requests as requests
use Rattle.res_core.specs.contracts.resource.Resource as resource

-- the values, texts and lists that types hold
pub ruleset parts = (
  sendable,
  crosses,
  option.the_send,
  option.the_sync,
  boxed.the_send,
  boxed.the_sync,
  string.the_send,
  string.the_sync,
  vec.the_send,
  vec.the_sync,
  global.the_send,
  global.the_sync,
  memory.the_send,
  memory.the_sync,
  pairs.send-Value,
  pairs.send-Values,
  pairs.send-Pairs,
  pairs.sync-Value,
  pairs.sync-Values,
  pairs.sync-Pairs,
  types.send-TypeBox,
  types.sync-TypeBox,
  bound.the_send,
  bound.the_sync,
  bounds.the_send,
  bounds.the_sync,
  reference.the_send,
  reference.the_sync,
  items.the_send,
  items.the_sync,
  text.the_send,
  text.the_sync,
  kind.the_send,
  kind.the_sync,
  place.the_send,
  place.the_sync,
  tags.the_send,
  tags.the_sync,
  option.the_field_send,
  option.the_field_sync,
  string.the_field_send,
  string.the_field_sync,
  bound.the_field_send,
  bound.the_field_sync,
  bounds.the_field_send,
  bounds.the_field_sync,
  place.the_field_send,
  place.the_field_sync,
  reference.the_field_send,
  reference.the_field_sync,
)

pub attribute_send : IsSend (declared.row attribute.the_type)
attribute_send = search parts depth 60

pub attributes_send : IsSend attributes.the_row
attributes_send = search parts depth 60

pub attributes_sync : IsSync attributes.the_row
attributes_sync = search parts depth 60

pub resource_send : IsSend (declared.row resource.the_type)
resource_send = search (parts, attributes_send) depth 60

pub resource_sync : IsSync (declared.row resource.the_type)
resource_sync = search (parts, attributes_sync) depth 60

pub exported_send : IsSend (declared.row exported.the_type)
exported_send = search parts depth 60

pub exported_sync : IsSync (declared.row exported.the_type)
exported_sync = search parts depth 60

pub set_send : IsSend (declared.row set.the_type)
set_send = search (parts, exported_send) depth 60

pub set_sync : IsSync (declared.row set.the_type)
set_sync = search (parts, exported_sync) depth 60

pub held_send : IsSend (declared.row held.the_type)
held_send = search parts depth 60 fits 40000

pub held_sync : IsSync (declared.row held.the_type)
held_sync = search parts depth 60 fits 40000

pub catalog_send : IsSend catalog.the_row
catalog_send = search (parts, held_send, edge_are.the_send, log_line_are.the_send) depth 60 fits 40000

pub catalog_sync : IsSync catalog.the_row
catalog_sync = search (parts, held_sync, edge_are.the_sync, log_line_are.the_sync) depth 60 fits 40000

pub requests_send : IsSend requests.the_row
requests_send = search parts depth 60

pub requests_sync : IsSync requests.the_row
requests_sync = search parts depth 60
