-- For callers: a version may go to another thread and be shared by threads.
use denote.Param.Send.{IsSend, IsSync, sendable}
use denote.RattleType.{RattleType}
use denote.Struct.Declared as declared
use Rattle.std.proofs.Crossing.{crosses}
use Rattle.std.proofs.option.Option.TheSendSync as option
use Rattle.std.proofs.boxed.Box.TheSendSync as boxed
use Rattle.std.proofs.string.String.TheSendSync as string
use Rattle.std.proofs.vec.Vec.TheSendSync as vec
use Rattle.std.proofs.alloc.Global.TheSendSync as global
use Rattle.std.proofs.rt.Memory.TheSendSync as memory
use Rattle.pp_values.proofs.pairs.Pairs.TheLaws.TheKnot as pairs
use Rattle.pp_values.proofs.ptype.TypeBox.TheLaws.TheKnot as types
use Rattle.pp_values.proofs.bounds.Bound.TheSendSync as bound
use Rattle.pp_values.proofs.bounds.Bounds.TheSendSync as bounds
use Rattle.pp_values.proofs.reference.Reference.TheSendSync as reference
use Rattle.pp_values.proofs.Items.TheSendSync as items
use Rattle.pp_values.proofs.text.Text.TheSendSync as text
use Rattle.pp_values.proofs.kind.Kind.TheSendSync as kind
use Rattle.pp_values.proofs.place.Place.TheSendSync as place
use Rattle.res_core.proofs.tags.Tags.TheSendSync as tags
use Rattle.res_core.specs.contracts.attribute.Attribute as attribute
use Rattle.res_core.specs.contracts.attributes.Attributes as attributes
use Rattle.res_core.specs.contracts.resource.Resource as resource
use Rattle.res_core.specs.contracts.exported.Exported as exported
use Rattle.res_core.specs.contracts.export_set.ExportSet as set
use Rattle.export_store.specs.contracts.row.Row as row
use Rattle.export_store.specs.contracts.leaf.Leaf as leaf
use Rattle.export_store.specs.contracts.run.Run as run
use Rattle.export_store.specs.contracts.root.Root as root
use Rattle.export_store.specs.contracts.table.Table as table
use Rattle.export_store.specs.contracts.version.Version as version

pub ruleset parts = (
  sendable,
  crosses,
  option.the_send,
  option.the_sync,
  boxed.the_send,
  boxed.the_sync,
  string.the_send,
  string.the_sync,
  vec.the_send,
  vec.the_sync,
  global.the_send,
  global.the_sync,
  memory.the_send,
  memory.the_sync,
  pairs.send-Value,
  pairs.send-Values,
  pairs.send-Pairs,
  pairs.sync-Value,
  pairs.sync-Values,
  pairs.sync-Pairs,
  types.send-TypeBox,
  types.sync-TypeBox,
  bound.the_send,
  bound.the_sync,
  bounds.the_send,
  bounds.the_sync,
  reference.the_send,
  reference.the_sync,
  items.the_send,
  items.the_sync,
  text.the_send,
  text.the_sync,
  kind.the_send,
  kind.the_sync,
  place.the_send,
  place.the_sync,
  tags.the_send,
  tags.the_sync,
  option.the_field_send,
  option.the_field_sync,
  string.the_field_send,
  string.the_field_sync,
  bound.the_field_send,
  bound.the_field_sync,
  bounds.the_field_send,
  bounds.the_field_sync,
  place.the_field_send,
  place.the_field_sync,
  reference.the_field_send,
  reference.the_field_sync,
)

pub attribute_send : IsSend (declared.row attribute.the_type)
attribute_send = search parts depth 60

pub attributes_send : IsSend attributes.the_row
attributes_send = search parts depth 60

pub attributes_sync : IsSync attributes.the_row
attributes_sync = search parts depth 60

pub resource_send : IsSend (declared.row resource.the_type)
resource_send = search (parts, attributes_send) depth 60

pub resource_sync : IsSync (declared.row resource.the_type)
resource_sync = search (parts, attributes_sync) depth 60

pub exported_send : IsSend (declared.row exported.the_type)
exported_send = search parts depth 60

pub exported_sync : IsSync (declared.row exported.the_type)
exported_sync = search parts depth 60

pub set_send : IsSend (declared.row set.the_type)
set_send = search (parts, exported_send) depth 60

pub set_sync : IsSync (declared.row set.the_type)
set_sync = search (parts, exported_sync) depth 60

pub row_send : (V : RattleType) → IsSend V → IsSync V → IsSend (row.the_row V)
row_send V send sync = search parts depth 60

pub row_sync : (V : RattleType) → IsSend V → IsSync V → IsSync (row.the_row V)
row_sync V send sync = search parts depth 60

pub leaf_send : (V : RattleType) → IsSend V → IsSync V → IsSend (leaf.the_row V)
leaf_send V send sync = search (parts, row_send, row_sync) depth 60

pub leaf_sync : (V : RattleType) → IsSend V → IsSync V → IsSync (leaf.the_row V)
leaf_sync V send sync = search (parts, row_send, row_sync) depth 60

pub run_send : (V : RattleType) → IsSend V → IsSync V → IsSend (run.the_row V)
run_send V send sync = search (parts, leaf_send, leaf_sync) depth 60

pub run_sync : (V : RattleType) → IsSend V → IsSync V → IsSync (run.the_row V)
run_sync V send sync = search (parts, leaf_send, leaf_sync) depth 60

pub root_send : (V : RattleType) → IsSend V → IsSync V → IsSend (root.the_row V)
root_send V send sync = search (parts, run_send, run_sync) depth 60

pub root_sync : (V : RattleType) → IsSend V → IsSync V → IsSync (root.the_row V)
root_sync V send sync = search (parts, run_send, run_sync) depth 60

pub table_send : (V : RattleType) → IsSend V → IsSync V → IsSend (table.the_row V)
table_send V send sync = search (parts, root_send, root_sync) depth 60

pub table_sync : (V : RattleType) → IsSend V → IsSync V → IsSync (table.the_row V)
table_sync V send sync = search (parts, root_send, root_sync) depth 60

pub version_send : IsSend version.the_row
version_send = search (parts, set_send, set_sync, table_send, table_sync) depth 60

pub version_sync : IsSync version.the_row
version_sync = search (parts, set_send, set_sync, table_send, table_sync) depth 60
