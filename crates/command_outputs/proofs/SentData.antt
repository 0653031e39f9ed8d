-- The data of a site may go to another thread and be shared by threads.
use denote.Param.Send.{IsSend, IsSync, struct_send, struct_sync, sendable}
use denote.Struct.Declared as declared
use Rattle.std.proofs.Crossing.{crosses}
use Rattle.std.proofs.alloc.Global.TheSendSync as global
use Rattle.std.proofs.collections.BTreeMap.TheSendSync as map
use Rattle.std.proofs.option.Option.TheSendSync as option
use Rattle.std.proofs.string.String.TheSendSync as string
use Rattle.std.proofs.vec.Vec.TheSendSync as vec
use Rattle.serde_json.proofs.number.Number.TheSendSync as number
use Rattle.serde_json.proofs.value.Value.TheLaws.TheKnot as value
use Rattle.serde_json.specs.contracts.value.Value as json
use Rattle.pp_values.proofs.text.Text.TheSendSync as text
use Rattle.hiera_config.proofs.config.Config.TheSendSync as config
use Rattle.hiera_config.proofs.plan.FixedFile.TheSendSync as fixed_file
use Rattle.hiera_config.specs.contracts.file_options.FileOptions as file_options
use Rattle.hiera_config.specs.contracts.option_table.OptionTable as option_table
use Rattle.hiera_config.specs.contracts.site_data.DataFile as data_file
use Rattle.hiera_config.specs.contracts.site_data.SiteData as site_data
use Rattle.command_outputs.proofs.SentValue.{value_send, value_sync}

json_send : IsSend json.the_row
json_send =
    search (
      sendable,
      crosses,
      value.send-Value,
      number.the_field_send,
      string.the_send,
      vec.the_send,
      map.the_send,
      global.the_send,
    )
    depth 40 fits 40000

json_sync : IsSync json.the_row
json_sync =
    search (
      sendable,
      crosses,
      value.sync-Value,
      number.the_field_sync,
      string.the_sync,
      vec.the_sync,
      map.the_sync,
      global.the_sync,
    )
    depth 40 fits 40000

option_table_fields_send : IsSend (declared.field option_table.the_type).row
option_table_fields_send =
    struct_send (declared.shape option_table.the_type) (
      search (sendable, crosses, map.the_send, text.the_send, value_send, global.the_send) depth 40 fits 40000,
      tt,
    )

option_table_fields_sync : IsSync (declared.field option_table.the_type).row
option_table_fields_sync =
    struct_sync (declared.shape option_table.the_type) (
      search (sendable, crosses, map.the_sync, text.the_sync, value_sync, global.the_sync) depth 40 fits 40000,
      tt,
    )

option_table_send : IsSend (declared.row option_table.the_type)
option_table_send = search (sendable, option_table_fields_send) depth 20

option_table_sync : IsSync (declared.row option_table.the_type)
option_table_sync = search (sendable, option_table_fields_sync) depth 20

file_options_fields_send : IsSend (declared.field file_options.the_type).row
file_options_fields_send =
    struct_send (declared.shape file_options.the_type) (
      search (sendable, crosses) depth 40 fits 40000,
      (search (sendable, crosses, option.the_field_send, option_table_send) depth 40 fits 40000, tt),
    )

file_options_fields_sync : IsSync (declared.field file_options.the_type).row
file_options_fields_sync =
    struct_sync (declared.shape file_options.the_type) (
      search (sendable, crosses) depth 40 fits 40000,
      (search (sendable, crosses, option.the_field_sync, option_table_sync) depth 40 fits 40000, tt),
    )

data_file_fields_send : IsSend (declared.field data_file.the_type).row
data_file_fields_send =
    struct_send (declared.shape data_file.the_type) (
      text.the_send,
      (
        search (sendable, crosses, option.the_field_send, json_send) depth 40 fits 40000,
        (
          search (sendable, crosses, option.the_field_send, config.the_send) depth 40 fits 40000,
          (
            search (sendable, crosses, vec.the_send, global.the_send) depth 40 fits 40000,
            (
              search (sendable, crosses) depth 40 fits 40000,
              (file_options_fields_send, tt),
            ),
          ),
        ),
      ),
    )

data_file_fields_sync : IsSync (declared.field data_file.the_type).row
data_file_fields_sync =
    struct_sync (declared.shape data_file.the_type) (
      text.the_sync,
      (
        search (sendable, crosses, option.the_field_sync, json_sync) depth 40 fits 40000,
        (
          search (sendable, crosses, option.the_field_sync, config.the_sync) depth 40 fits 40000,
          (
            search (sendable, crosses, vec.the_sync, global.the_sync) depth 40 fits 40000,
            (
              search (sendable, crosses) depth 40 fits 40000,
              (file_options_fields_sync, tt),
            ),
          ),
        ),
      ),
    )

data_file_send : IsSend (declared.row data_file.the_type)
data_file_send = search (sendable, data_file_fields_send) depth 20

data_file_sync : IsSync (declared.row data_file.the_type)
data_file_sync = search (sendable, data_file_fields_sync) depth 20

pub data_send : IsSend site_data.the_row
data_send =
    search (
      sendable,
      crosses,
      map.the_send,
      text.the_send,
      data_file_send,
      vec.the_send,
      option.the_field_send,
      global.the_send,
      fixed_file.the_send,
      option_table_send,
    )
    depth 40 fits 40000

pub data_sync : IsSync site_data.the_row
data_sync =
    search (
      sendable,
      crosses,
      map.the_sync,
      text.the_sync,
      data_file_sync,
      vec.the_sync,
      option.the_field_sync,
      global.the_sync,
      fixed_file.the_sync,
      option_table_sync,
    )
    depth 40 fits 40000
