-- The exit status of each ending.
use Rattle.std.specs.Prelude.{◌≡◌, ℕ}
use Rattle.site_commands.specs.declared.ending.Ending.{Ending}
use Rattle.site_commands.specs.declared.ending.Ending.TheVariants.{Done, Refused, Changed, Failed, ChangedAndFailed}
use Rattle.site_commands.specs.declared.ending.Ending.TheVariants.{BadWords, BadInput, ReadFault, WriteFault, NetFault}
use Rattle.site_commands.specs.declared.ending.Ending.TheVariants.{TreeFault, Memory, NotSettled}

abbrev pub status_of : Ending → ℕ
status_of Done = 0
status_of Refused = 1
status_of Changed = 2
status_of Failed = 4
status_of ChangedAndFailed = 6
status_of BadWords = 10
status_of BadInput = 11
status_of ReadFault = 12
status_of WriteFault = 13
status_of NetFault = 14
status_of TreeFault = 15
status_of Memory = 16
status_of NotSettled = 17

-- one of the statuses above
abbrev pub IsStatus : ℕ → Type 0
IsStatus status = (ending : Ending) × (status ≡ status_of ending)
