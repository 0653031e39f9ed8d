-- For callers: what a turn needs may go to another thread.
use denote.Enum.Declared as declared_enum
use denote.Param.Send.{IsSend, sendable}
use denote.Struct.Declared as declared
use Rattle.std.proofs.Crossing.{crosses}
use Rattle.std.proofs.option.Option.TheSendSync as option
use Rattle.std.proofs.boxed.Box.TheSendSync as boxed
use Rattle.std.proofs.string.String.TheSendSync as string
use Rattle.std.proofs.vec.Vec.TheSendSync as vec
use Rattle.std.proofs.alloc.Global.TheSendSync as global
use Rattle.std.proofs.rt.Memory.TheSendSync as memory
use Rattle.pp_values.proofs.pairs.Pairs.TheLaws.TheKnot as pairs
use Rattle.pp_values.proofs.ptype.TypeBox.TheLaws.TheKnot as types
use Rattle.pp_values.proofs.bounds.Bound.TheSendSync as bound
use Rattle.pp_values.proofs.bounds.Bounds.TheSendSync as bounds
use Rattle.pp_values.proofs.reference.Reference.TheSendSync as reference
use Rattle.pp_values.proofs.Items.TheSendSync as items
use Rattle.pp_values.proofs.text.Text.TheSendSync as text
use Rattle.pp_values.proofs.kind.Kind.TheSendSync as kind
use Rattle.pp_values.proofs.place.Place.TheSendSync as place
use Rattle.agent_transaction.specs.contracts.ready.Ready as ready
use Rattle.agent_transaction.specs.contracts.task.Task as task
use Rattle.agent_transaction.specs.contracts.want.Want as want
use Rattle.agent_transaction.specs.contracts.wants.Wants as wants
use Rattle.agent_transaction.specs.contracts.work.Work as work

pub ruleset parts = (
  sendable,
  crosses,
  option.the_send,
  option.the_sync,
  boxed.the_send,
  boxed.the_sync,
  string.the_send,
  string.the_sync,
  vec.the_send,
  vec.the_sync,
  global.the_send,
  global.the_sync,
  memory.the_send,
  memory.the_sync,
  pairs.send-Value,
  pairs.send-Values,
  pairs.send-Pairs,
  pairs.sync-Value,
  pairs.sync-Values,
  pairs.sync-Pairs,
  types.send-TypeBox,
  types.sync-TypeBox,
  bound.the_send,
  bound.the_sync,
  bounds.the_send,
  bounds.the_sync,
  reference.the_send,
  reference.the_sync,
  items.the_send,
  items.the_sync,
  text.the_send,
  text.the_sync,
  kind.the_send,
  kind.the_sync,
  place.the_send,
  place.the_sync,
  option.the_field_send,
  option.the_field_sync,
  string.the_field_send,
  string.the_field_sync,
  bound.the_field_send,
  bound.the_field_sync,
  bounds.the_field_send,
  bounds.the_field_sync,
  place.the_field_send,
  place.the_field_sync,
  reference.the_field_send,
  reference.the_field_sync,
)

pub want_send : IsSend want.the_row
want_send = search parts depth 60

pub wants_send : IsSend wants.the_row
wants_send = search (parts, want_send) depth 60

pub work_send : IsSend (declared_enum.row work.the_type)
work_send = search (parts, want_send, wants_send) depth 60

pub task_send : IsSend (declared.row task.the_type)
task_send = search (parts, work_send) depth 60 fits 40000

pub ready_send : IsSend ready.the_row
ready_send = search (parts, task_send) depth 60 fits 40000
