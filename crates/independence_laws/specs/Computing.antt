-- Calls that only compute: nothing is declared, and nothing is put on what is.
use Rattle.std.specs.Prelude.{◌≡◌, [], ◌∷◌, ◌++◌, length}
use Rattle.scope_core.specs.Scopes as scopes
use Rattle.scope_core.specs.Scopes.{Scope}
use Rattle.scope_core.specs.declared.owner.Owner.TheVariants as owner
use Rattle.eval_world.specs.declared.world.World.{World}
use Rattle.independence_laws.specs.Alike.{AreAlike, AreTold, OwnersGoOn}

-- a world whose owners are told rightly, and whose collectors have owners: each that a compile comes to
abbrev pub IsSound : World → Type 0
IsSound w = AreAlike [] [] w w

-- What is left of a call that only computed: its scope stands behind the scopes that were there, with whatever names it
-- has by now, and lines were written into the log. Owners may have been added, as each call of a function of a file
-- adds one at first.
pub record Computes (w u : World) : Type 0 where
  pub environment : u.environment ≡ w.environment
  pub book : u.book ≡ w.book
  pub overrides : u.overrides ≡ w.overrides
  pub relations : u.relations ≡ w.relations
  pub rendered : u.rendered ≡ w.rendered
  pub node : u.scopes.node ≡ w.scopes.node
  pub classes : u.scopes.classes ≡ w.scopes.classes
  pub own : Scope
  pub lambda : own.owner ≡ owner.Lambda
  pub scopes : u.scopes.scopes ≡ w.scopes.scopes ++ own ∷ []
  pub goes : OwnersGoOn w.owners u.owners
  pub told : AreTold u.owners

-- the world behind such a call, whose scope has ended
abbrev pub behind : World → World → World
behind w u = record u { scopes = scopes.left (length w.scopes.scopes) u.scopes }
