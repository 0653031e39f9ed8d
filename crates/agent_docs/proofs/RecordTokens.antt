-- The tokens of records, with the bracket that closes them.
use Rattle.std.proofs.Common.{List}
use Rattle.json.specs.Token.{Token}
use Rattle.json.specs.Tree.{members_tokens}
use Rattle.serde_json.specs.Written.{members_outline}
use Rattle.agent_machine.specs.States.{State}
use Rattle.agent_docs.specs.MachineText.{record_members}

abbrev pub record_tokens : State → List Token
record_tokens rs = members_tokens (members_outline (record_members rs))
