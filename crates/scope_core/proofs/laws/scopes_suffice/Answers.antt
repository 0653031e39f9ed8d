use Rattle.scope_core.proofs.Enough.{scopes_suffice}
use Rattle.scope_core.proofs.laws.scopes_suffice.Goals as goal

pub returns : goal.returns
returns c = scopes_suffice
