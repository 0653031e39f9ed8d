-- Which resources come before which (Puppet's reference on relationships and ordering, and on containment).
-- `containers` has a pair (container, member) for each resource that another contains directly, and `edges` a pair
-- (earlier, later) for each relationship, whichever arrow or metaparameter made it.
use Rattle.std.specs.Prelude.{◌≡◌, ◌⊎◌, ℕ, List}
use Rattle.rel_graph.specs.Chains.{Paired, Closure}

-- member stands inside container, at any depth
abbrev pub Inside : List (ℕ × ℕ) → ℕ → ℕ → Type 0
Inside containers member container = Closure (Paired containers) container member

-- r is c, or stands inside it
abbrev pub Belongs : List (ℕ × ℕ) → ℕ → ℕ → Type 0
Belongs containers r c = (c ≡ r) ⊎ Inside containers r c

-- A relationship holds for all that its two sides contain: r comes directly before s where some relationship leads
-- from a resource that r is or stands inside to one that s is or stands inside.
pub record Direct (containers edges : List (ℕ × ℕ)) (r s : ℕ) : Type 0 where
  pub earlier : ℕ
  pub later : ℕ
  pub edge : Paired edges earlier later
  pub source : Belongs containers r earlier
  pub target : Belongs containers s later

-- r comes before s
abbrev pub Before : List (ℕ × ℕ) → List (ℕ × ℕ) → ℕ → ℕ → Type 0
Before containers edges = Closure (Direct containers edges)

-- some resource comes before itself
abbrev pub SomeBeforeItself : List (ℕ × ℕ) → List (ℕ × ℕ) → Type 0
SomeBeforeItself containers edges = ∥ ((r : ℕ) × Before containers edges r r) ∥₁
