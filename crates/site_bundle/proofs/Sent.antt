-- A manifest may go to another thread, and manifests and templates may be shared by threads.
use denote.Param.Send.{IsSend, IsSync, struct_send, struct_sync, sendable}
use denote.Struct.Declared as declared
use Rattle.std.proofs.Crossing.{crosses}
use Rattle.std.proofs.option.Option.TheSendSync as option
use Rattle.pp_values.proofs.Items.TheSendSync as items
use Rattle.pp_values.proofs.text.Text.TheSendSync as text
use Rattle.std.proofs.collections.BTreeMap.TheSendSync as map
use Rattle.std.proofs.result.Result.TheSendSync as result
use Rattle.pp_values.proofs.Boxed.TheSendSync as pointer
use Rattle.pp_values.proofs.fault.Fault.TheSendSync as fault
use Rattle.pp_tree.proofs.collector.Test.TheLaws.TheKnot as tree
use Rattle.pp_tree.proofs.collector.Comparison.TheSendSync as comparison_laws
use Rattle.pp_tree.proofs.definition.Name.TheSendSync as name_laws
use Rattle.pp_tree.proofs.definition.NodeName.TheSendSync as node_name_laws
use Rattle.pp_tree.proofs.expr.Operation.TheSendSync as operation_laws
use Rattle.pp_tree.proofs.expr.Pair.TheSendSync as pair_laws
use Rattle.pp_tree.proofs.expr.Piece.TheSendSync as piece_laws
use Rattle.pp_tree.proofs.operators.BinaryOperator.TheSendSync as binary_operator_laws
use Rattle.pp_tree.proofs.operators.PrefixOperator.TheSendSync as prefix_operator_laws
use Rattle.pp_tree.proofs.param.Param.TheSendSync as param_laws
use Rattle.pp_tree.proofs.resource.Attribute.TheSendSync as attribute_laws
use Rattle.pp_tree.proofs.resource.Body.TheSendSync as body_laws
use Rattle.pp_tree.proofs.resource.Defaults.TheSendSync as defaults_laws
use Rattle.pp_tree.proofs.resource.Override.TheSendSync as override_laws
use Rattle.pp_tree.proofs.resource.Reference.TheSendSync as reference_laws
use Rattle.pp_tree.proofs.resource.Resource.TheSendSync as resource_laws
use Rattle.pp_tree.proofs.resource.ResourceForm.TheSendSync as resource_form_laws
use Rattle.pp_tree.proofs.resource.Setting.TheSendSync as setting_laws
use Rattle.pp_tree.proofs.resource.Splat.TheSendSync as splat_laws
use Rattle.pp_tree.proofs.statement.Arrow.TheSendSync as arrow_laws
use Rattle.pp_tree.proofs.statement.Chain.TheSendSync as chain_laws
use Rattle.pp_tree.proofs.statement.Link.TheSendSync as link_laws
use Rattle.pp_tree.proofs.statement.Words.TheSendSync as words_laws
use Rattle.pp_tree.proofs.table.DefinitionName.TheSendSync as definition_name_laws
use Rattle.pp_tree.specs.contracts.definition.Class as class
use Rattle.pp_tree.specs.contracts.definition.Define as define
use Rattle.pp_tree.specs.contracts.definition.Function as function
use Rattle.pp_tree.specs.contracts.definition.Node as node
use Rattle.pp_tree.specs.contracts.table.Table as table
use Rattle.pp_tree.specs.contracts.file.File as file
use Rattle.pp_tree.specs.contracts.manifest_file.ManifestFile as site_file
use Rattle.pp_tree.specs.contracts.template.Template as template
use Rattle.epp_text.specs.contracts.template_file.TemplateFile as template_file
use Rattle.epp_text.specs.contracts.templates.Templates as templates
use Rattle.site_bundle.specs.contracts.manifest.Manifest as manifest
use Rattle.site_bundle.specs.contracts.site_files.SiteFiles as site_files

-- the parts of trees
pub ruleset sends = (
  sendable,
  crosses,
  items.the_send,
  pointer.the_send,
  option.the_send,
  option.the_field_send,
  text.the_send,
  tree.send-Statement,
  tree.send-Expr,
  comparison_laws.the_send,
  comparison_laws.the_field_send,
  name_laws.the_send,
  name_laws.the_field_send,
  node_name_laws.the_send,
  node_name_laws.the_field_send,
  operation_laws.the_send,
  operation_laws.the_field_send,
  pair_laws.the_send,
  pair_laws.the_field_send,
  piece_laws.the_send,
  piece_laws.the_field_send,
  binary_operator_laws.the_send,
  binary_operator_laws.the_field_send,
  prefix_operator_laws.the_send,
  prefix_operator_laws.the_field_send,
  param_laws.the_send,
  param_laws.the_field_send,
  attribute_laws.the_send,
  attribute_laws.the_field_send,
  body_laws.the_send,
  body_laws.the_field_send,
  defaults_laws.the_send,
  defaults_laws.the_field_send,
  override_laws.the_send,
  override_laws.the_field_send,
  reference_laws.the_send,
  reference_laws.the_field_send,
  resource_laws.the_send,
  resource_laws.the_field_send,
  resource_form_laws.the_send,
  resource_form_laws.the_field_send,
  setting_laws.the_send,
  setting_laws.the_field_send,
  splat_laws.the_send,
  splat_laws.the_field_send,
  arrow_laws.the_send,
  arrow_laws.the_field_send,
  chain_laws.the_send,
  chain_laws.the_field_send,
  link_laws.the_send,
  link_laws.the_field_send,
  words_laws.the_send,
  words_laws.the_field_send,
  definition_name_laws.the_send,
  definition_name_laws.the_field_send,
)

pub ruleset syncs = (
  sendable,
  crosses,
  items.the_sync,
  pointer.the_sync,
  option.the_sync,
  option.the_field_sync,
  text.the_sync,
  tree.sync-Statement,
  tree.sync-Expr,
  comparison_laws.the_sync,
  comparison_laws.the_field_sync,
  name_laws.the_sync,
  name_laws.the_field_sync,
  node_name_laws.the_sync,
  node_name_laws.the_field_sync,
  operation_laws.the_sync,
  operation_laws.the_field_sync,
  pair_laws.the_sync,
  pair_laws.the_field_sync,
  piece_laws.the_sync,
  piece_laws.the_field_sync,
  binary_operator_laws.the_sync,
  binary_operator_laws.the_field_sync,
  prefix_operator_laws.the_sync,
  prefix_operator_laws.the_field_sync,
  param_laws.the_sync,
  param_laws.the_field_sync,
  attribute_laws.the_sync,
  attribute_laws.the_field_sync,
  body_laws.the_sync,
  body_laws.the_field_sync,
  defaults_laws.the_sync,
  defaults_laws.the_field_sync,
  override_laws.the_sync,
  override_laws.the_field_sync,
  reference_laws.the_sync,
  reference_laws.the_field_sync,
  resource_laws.the_sync,
  resource_laws.the_field_sync,
  resource_form_laws.the_sync,
  resource_form_laws.the_field_sync,
  setting_laws.the_sync,
  setting_laws.the_field_sync,
  splat_laws.the_sync,
  splat_laws.the_field_sync,
  arrow_laws.the_sync,
  arrow_laws.the_field_sync,
  chain_laws.the_sync,
  chain_laws.the_field_sync,
  link_laws.the_sync,
  link_laws.the_field_sync,
  words_laws.the_sync,
  words_laws.the_field_sync,
  definition_name_laws.the_sync,
  definition_name_laws.the_field_sync,
)

-- the fields of a definition
pub node_fields_send : IsSend (declared.field node.the_type).row
node_fields_send =
    struct_send (declared.shape node.the_type) (
      search sends depth 40 fits 40000,
      (
        search sends depth 40 fits 40000,
        (search sendable depth 20, tt),
      ),
    )

pub node_fields_sync : IsSync (declared.field node.the_type).row
node_fields_sync =
    struct_sync (declared.shape node.the_type) (
      search syncs depth 40 fits 40000,
      (
        search syncs depth 40 fits 40000,
        (search sendable depth 20, tt),
      ),
    )

pub define_fields_send : IsSend (declared.field define.the_type).row
define_fields_send =
    struct_send (declared.shape define.the_type) (
      name_laws.the_field_send,
      (
        search sends depth 40 fits 40000,
        (
          search sends depth 40 fits 40000,
          (search sendable depth 20, tt),
        ),
      ),
    )

pub define_fields_sync : IsSync (declared.field define.the_type).row
define_fields_sync =
    struct_sync (declared.shape define.the_type) (
      name_laws.the_field_sync,
      (
        search syncs depth 40 fits 40000,
        (
          search syncs depth 40 fits 40000,
          (search sendable depth 20, tt),
        ),
      ),
    )

-- its name, parameters, type, block and line
pub function_fields_send : IsSend (declared.field function.the_type).row
function_fields_send =
    struct_send (declared.shape function.the_type) (
      name_laws.the_field_send,
      (
        search sends depth 40 fits 40000,
        (
          search sends depth 40 fits 40000,
          (
            search sends depth 40 fits 40000,
            (search sendable depth 20, tt),
          ),
        ),
      ),
    )

pub function_fields_sync : IsSync (declared.field function.the_type).row
function_fields_sync =
    struct_sync (declared.shape function.the_type) (
      name_laws.the_field_sync,
      (
        search syncs depth 40 fits 40000,
        (
          search syncs depth 40 fits 40000,
          (
            search syncs depth 40 fits 40000,
            (search sendable depth 20, tt),
          ),
        ),
      ),
    )

pub class_fields_send : IsSend (declared.field class.the_type).row
class_fields_send =
    struct_send (declared.shape class.the_type) (
      name_laws.the_field_send,
      (
        search sends depth 40 fits 40000,
        (
          search sends depth 40 fits 40000,
          (
            search sends depth 40 fits 40000,
            (search sendable depth 20, tt),
          ),
        ),
      ),
    )

pub class_fields_sync : IsSync (declared.field class.the_type).row
class_fields_sync =
    struct_sync (declared.shape class.the_type) (
      name_laws.the_field_sync,
      (
        search syncs depth 40 fits 40000,
        (
          search syncs depth 40 fits 40000,
          (
            search syncs depth 40 fits 40000,
            (search sendable depth 20, tt),
          ),
        ),
      ),
    )

pub table_send : IsSend table.the_row
table_send =
    search (
      sendable,
      crosses,
      items.the_send,
      map.the_send,
      definition_name_laws.the_send,
      option.the_field_send,
      text.the_send,
      class_fields_send,
      define_fields_send,
      function_fields_send,
      node_fields_send,
    )
    depth 40 fits 40000

pub table_sync : IsSync table.the_row
table_sync =
    search (
      sendable,
      crosses,
      items.the_sync,
      map.the_sync,
      definition_name_laws.the_sync,
      option.the_field_sync,
      text.the_sync,
      class_fields_sync,
      define_fields_sync,
      function_fields_sync,
      node_fields_sync,
    )
    depth 40 fits 40000

pub file_fields_send : IsSend (declared.field file.the_type).row
file_fields_send =
    struct_send (declared.shape file.the_type) (search sends depth 40 fits 40000, (table_send, tt))

pub file_fields_sync : IsSync (declared.field file.the_type).row
file_fields_sync =
    struct_sync (declared.shape file.the_type) (search syncs depth 40 fits 40000, (table_sync, tt))

pub file_send : IsSend (declared.row file.the_type)
file_send = search (sendable, file_fields_send) depth 20

pub file_sync : IsSync (declared.row file.the_type)
file_sync = search (sendable, file_fields_sync) depth 20

pub site_file_fields_send : IsSend (declared.field site_file.the_type).row
site_file_fields_send =
    struct_send (declared.shape site_file.the_type) (
      text.the_send,
      (search (result.the_field_send, file_send, fault.the_send) depth 20, tt),
    )

pub site_file_fields_sync : IsSync (declared.field site_file.the_type).row
site_file_fields_sync =
    struct_sync (declared.shape site_file.the_type) (
      text.the_sync,
      (search (result.the_field_sync, file_sync, fault.the_sync) depth 20, tt),
    )

pub site_file_send : IsSend (declared.row site_file.the_type)
site_file_send = search (sendable, site_file_fields_send) depth 20

pub site_file_sync : IsSync (declared.row site_file.the_type)
site_file_sync = search (sendable, site_file_fields_sync) depth 20

pub files_send : IsSend site_files.the_row
files_send = search (sendable, crosses, map.the_send, text.the_send, site_file_send) depth 40 fits 40000

pub files_sync : IsSync site_files.the_row
files_sync = search (sendable, crosses, map.the_sync, text.the_sync, site_file_sync) depth 40 fits 40000

-- ---- templates

pub template_fields_send : IsSend (declared.field template.the_type).row
template_fields_send =
    struct_send (declared.shape template.the_type) (
      search sends depth 40 fits 40000,
      (search sends depth 40 fits 40000, tt),
    )

pub template_fields_sync : IsSync (declared.field template.the_type).row
template_fields_sync =
    struct_sync (declared.shape template.the_type) (
      search syncs depth 40 fits 40000,
      (search syncs depth 40 fits 40000, tt),
    )

pub template_send : IsSend (declared.row template.the_type)
template_send = search (sendable, template_fields_send) depth 20

pub template_sync : IsSync (declared.row template.the_type)
template_sync = search (sendable, template_fields_sync) depth 20

pub template_file_send : IsSend template_file.the_row
template_file_send =
    search (sendable, crosses, text.the_send, result.the_field_send, template_send, fault.the_send)
    depth 40 fits 40000

pub template_file_sync : IsSync template_file.the_row
template_file_sync =
    search (sendable, crosses, text.the_sync, result.the_field_sync, template_sync, fault.the_sync)
    depth 40 fits 40000

pub templates_send : IsSend templates.the_row
templates_send = search (sendable, crosses, map.the_send, text.the_send, template_file_send) depth 40 fits 40000

pub templates_sync : IsSync templates.the_row
templates_sync = search (sendable, crosses, map.the_sync, text.the_sync, template_file_sync) depth 40 fits 40000

-- ---- a manifest on its way to a thread and back

pub manifest_send : IsSend manifest.the_row
manifest_send =
    search (sendable, crosses, text.the_send, option.the_field_send, result.the_field_send, file_send, fault.the_send)
    depth 40 fits 40000
