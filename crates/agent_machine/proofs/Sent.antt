-- For callers: a machine that is its document may go to another thread, and so may its parts.
use denote.Param.Send.{IsSend, IsSync, struct_send, sendable}
use denote.Struct.Declared as declared
use Rattle.std.proofs.Crossing.{crosses}
use Rattle.std.proofs.alloc.Global.TheSendSync as global
use Rattle.std.proofs.collections.BTreeMap.TheSendSync as map
use Rattle.std.proofs.collections.BTreeSet.TheSendSync as set
use Rattle.std.proofs.option.Option.TheSendSync as option
use Rattle.std.proofs.sync.Arc.TheSendSync as arc
use Rattle.std.proofs.vec.Vec.TheSendSync as vec
use Rattle.pp_values.proofs.pairs.Pairs.TheLaws.TheKnot as pairs
use Rattle.pp_values.proofs.text.Text.TheSendSync as text
use Rattle.pp_values.proofs.Items.TheSendSync as items
use Rattle.agent_machine.specs.contracts.doc_machine.DocMachine as machine
use Rattle.agent_machine.specs.contracts.doc_machine.DocMachine.TheInside as inside
use Rattle.agent_machine.specs.contracts.failing_texts.FailingTexts as failing
use Rattle.agent_machine.specs.contracts.failing_texts.Listed as listed
use Rattle.agent_machine.specs.contracts.machine_doc.MachineDoc as document
use Rattle.agent_machine.specs.contracts.properties.Properties as properties
use Rattle.agent_machine.specs.contracts.states.States as states
use Rattle.std.proofs.boxed.Box.TheSendSync as boxed
use Rattle.std.proofs.string.String.TheSendSync as string
use Rattle.std.proofs.rt.Memory.TheSendSync as memory
use Rattle.pp_values.proofs.ptype.TypeBox.TheLaws.TheKnot as types
use Rattle.pp_values.proofs.bounds.Bound.TheSendSync as bound
use Rattle.pp_values.proofs.bounds.Bounds.TheSendSync as bounds
use Rattle.pp_values.proofs.reference.Reference.TheSendSync as reference
use Rattle.pp_values.proofs.kind.Kind.TheSendSync as kind
use Rattle.pp_values.proofs.place.Place.TheSendSync as place

pub ruleset parts = (
  sendable,
  crosses,
  option.the_send,
  option.the_sync,
  boxed.the_send,
  boxed.the_sync,
  string.the_send,
  string.the_sync,
  vec.the_send,
  vec.the_sync,
  global.the_send,
  global.the_sync,
  memory.the_send,
  memory.the_sync,
  pairs.send-Value,
  pairs.send-Values,
  pairs.send-Pairs,
  pairs.sync-Value,
  pairs.sync-Values,
  pairs.sync-Pairs,
  types.send-TypeBox,
  types.sync-TypeBox,
  bound.the_send,
  bound.the_sync,
  bounds.the_send,
  bounds.the_sync,
  reference.the_send,
  reference.the_sync,
  items.the_send,
  items.the_sync,
  text.the_send,
  text.the_sync,
  kind.the_send,
  kind.the_sync,
  place.the_send,
  place.the_sync,
  option.the_field_send,
  option.the_field_sync,
  string.the_field_send,
  string.the_field_sync,
  bound.the_field_send,
  bound.the_field_sync,
  bounds.the_field_send,
  bounds.the_field_sync,
  place.the_field_send,
  place.the_field_sync,
  reference.the_field_send,
  reference.the_field_sync,
)

pub properties_send : IsSend properties.the_row
properties_send = search (parts, map.the_send) depth 60 fits 40000

pub states_send : IsSend states.the_row
states_send = search (sendable, crosses, global.the_send, map.the_send, text.the_send, properties_send) depth 40 fits 40000

pub listed_send : IsSend (declared.row listed.the_type)
listed_send = search (sendable, crosses, vec.the_send, items.the_send, set.the_send, text.the_send) depth 40 fits 40000

pub listed_sync : IsSync (declared.row listed.the_type)
listed_sync = search (sendable, crosses, vec.the_sync, items.the_sync, set.the_sync, text.the_sync) depth 40 fits 40000

pub failing_send : IsSend failing.the_row
failing_send =
    search (sendable, crosses, vec.the_send, items.the_send, arc.the_send, text.the_send, listed_send, listed_sync)
    depth 40 fits 40000

document_fields_send : IsSend (declared.field document.the_type).row
document_fields_send = struct_send (declared.shape document.the_type) (failing_send, (states_send, tt))

pub document_send : IsSend (declared.row document.the_type)
document_send = search (sendable, document_fields_send) depth 20

-- the allocator, the document, the calls, which of them fail, and the faults
inside_fields_send : IsSend (declared.field inside.the_type).row
inside_fields_send =
    struct_send (declared.shape inside.the_type) (
      global.the_field_send,
      (
        document_fields_send,
        (
          search sendable depth 20,
          (
            search (sendable, crosses, vec.the_send) depth 40 fits 40000,
            (search sendable depth 20, tt),
          ),
        ),
      ),
    )

inside_send : IsSend (declared.row inside.the_type)
inside_send = search (sendable, inside_fields_send) depth 20

pub machine_send : IsSend machine.the_row
machine_send = search (sendable, inside_send) depth 20
