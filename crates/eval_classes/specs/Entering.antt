-- Where the body of an instance or of a node is evaluated.
use Rattle.std.specs.Prelude.{ℕ, ◌+◌, false, length, Some, Ok}
use Rattle.override_rules.specs.Meaning.{scope_opened}
use Rattle.scope_core.specs.Scopes.{entered}
use Rattle.scope_core.specs.declared.scope_kind.ScopeKind.{ScopeKind}
use Rattle.eval_world.specs.Outcomes.{Step}
use Rattle.eval_world.specs.Owners.{with_owner}
use Rattle.eval_world.specs.declared.here.Here.{Here}
use Rattle.eval_world.specs.declared.world.World.{World}
use Rattle.eval_classes.specs.declared.body_owner.BodyOwner.{BodyOwner}

-- the next scope, and the next owner
abbrev pub next_here : World → Here
next_here w = record {
  scope = record { number = length w.scopes.scopes };
  owner = length w.owners.others + 1;
  typed = false;
}

-- The new scope is entered from one, and has another one as its dynamic parent.
abbrev pub with_body : ScopeKind → ℕ → ℕ → BodyOwner → World → World
with_body kind parent outer owner w = record w {
  scopes = entered kind parent w.scopes;
  overrides = scope_opened (length w.scopes.scopes) (Some outer) w.overrides;
  owners = with_owner (record {
    file = owner.file;
    source = owner.source;
    resource = owner.resource;
    scope = length w.scopes.scopes;
  }) w.owners;
}

unfoldable pub enter_rule : ScopeKind → ℕ → ℕ → BodyOwner → Step Here
enter_rule kind parent outer owner = λ w. Ok (next_here w, with_body kind parent outer owner w)
