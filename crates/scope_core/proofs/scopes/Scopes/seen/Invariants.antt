-- What is left to look at decides.
use Rattle.std.proofs.Common.{◌≡◌, ◌-◌, length}
use Rattle.scope_core.specs.Scopes.{seen_from}
use Rattle.scope_core.proofs.scopes.Scopes.seen.Given as goal

abbrev pub invariant-loop-turn : goal.invariant-loop-turn
invariant-loop-turn l =
    seen_from (length l.self.scopes) l.fn.start l.name l.self
    ≡ seen_from (length l.self.scopes - l._turn) l.at l.name l.self
