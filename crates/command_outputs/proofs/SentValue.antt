-- A value may go to another thread and be shared by threads.
use denote.Param.Send.{IsSend, IsSync, sendable}
use denote.Struct.Declared as declared
use Rattle.std.proofs.Crossing.{crosses}
use Rattle.std.proofs.option.Option.TheSendSync as option
use Rattle.std.proofs.vec.Vec.TheSendSync as vec
use Rattle.pp_values.proofs.Boxed.TheSendSync as pointer
use Rattle.pp_values.proofs.Items.TheSendSync as items
use Rattle.pp_values.proofs.bounds.Bounds.TheSendSync as bounds
use Rattle.pp_values.proofs.kind.Kind.TheSendSync as kind
use Rattle.pp_values.proofs.pairs.Pairs.TheLaws.TheKnot as values
use Rattle.pp_values.proofs.ptype.TypeBox.TheLaws.TheKnot as types
use Rattle.pp_values.proofs.reference.Reference.TheSendSync as reference_laws
use Rattle.pp_values.proofs.text.Text.TheSendSync as text
use Rattle.pp_values.specs.contracts.ptype.TypeBox as type_box
use Rattle.pp_values.specs.contracts.reference.Reference as reference
use Rattle.pp_values.specs.contracts.value.Value as value

type_send : IsSend type_box.the_row
type_send =
    search (
      sendable,
      crosses,
      types.send-TypeBox,
      items.the_send,
      option.the_send,
      option.the_field_send,
      text.the_send,
      kind.the_send,
      bounds.the_send,
    )
    depth 40 fits 40000

reference_send : IsSend (declared.row reference.the_type)
reference_send = search (sendable, crosses, reference_laws.the_send) depth 40 fits 40000

pub value_send : IsSend value.the_row
value_send =
    search (
      sendable,
      crosses,
      values.send-Value,
      values.send-Values,
      values.send-Pairs,
      text.the_send,
      type_send,
      pointer.the_send,
      reference_send,
      vec.the_send,
    )
    depth 40 fits 40000

type_sync : IsSync type_box.the_row
type_sync =
    search (
      sendable,
      crosses,
      types.sync-TypeBox,
      items.the_sync,
      option.the_sync,
      option.the_field_sync,
      text.the_sync,
      kind.the_sync,
      bounds.the_sync,
    )
    depth 40 fits 40000

reference_sync : IsSync (declared.row reference.the_type)
reference_sync = search (sendable, crosses, reference_laws.the_sync) depth 40 fits 40000

pub value_sync : IsSync value.the_row
value_sync =
    search (
      sendable,
      crosses,
      values.sync-Value,
      values.sync-Values,
      values.sync-Pairs,
      text.the_sync,
      type_sync,
      pointer.the_sync,
      reference_sync,
      vec.the_sync,
    )
    depth 40 fits 40000
