-- A site may go to another thread and be shared by threads.
use denote.Param.Send.{IsSend, IsSync, sendable}
use Rattle.pp_values.proofs.text.Text.TheSendSync as text
use Rattle.std.proofs.collections.BTreeMap.TheSendSync as map
use Rattle.site_bundle.specs.contracts.listed_nodes.ListedNodes as listed_nodes
use Rattle.site_bundle.specs.contracts.site.Site as site
use Rattle.site_bundle.proofs.Sent.{files_send, files_sync, templates_send, templates_sync}
use Rattle.site_batch.proofs.Sent.{parts}
use Rattle.command_outputs.proofs.SentData.{data_send, data_sync}

pub nodes_send : IsSend listed_nodes.the_row
nodes_send = search (parts, map.the_send) depth 60 fits 40000

pub nodes_sync : IsSync listed_nodes.the_row
nodes_sync = search (parts, map.the_sync) depth 60 fits 40000

pub site_send : IsSend site.the_row
site_send = search (sendable, text.the_send, files_send, data_send, templates_send, nodes_send) depth 40 fits 40000

pub site_sync : IsSync site.the_row
site_sync = search (sendable, text.the_sync, files_sync, data_sync, templates_sync, nodes_sync) depth 40 fits 40000
