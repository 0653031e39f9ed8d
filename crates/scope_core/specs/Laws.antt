-- That the number of turns in which a name is looked for decides nothing.
use Rattle.std.specs.Prelude.{◌≡◌, ◌≤◌, ℕ, length, Option}
use Rattle.scope_core.specs.Names.{Name}
use Rattle.scope_core.specs.Scopes.{Scopes, seen, seen_from}

-- More turns than there are scopes find what as many find, whatever the scopes are.
abbrev pub ScopesSuffice : Type 0
ScopesSuffice = (turns : ℕ) (at : Option ℕ) (x : Name) (s : Scopes) → length s.scopes ≤ turns →
    seen_from turns at x s ≡ seen at x s
