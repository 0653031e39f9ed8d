-- Resources as nodes, two for each: where it begins, and where it ends. So what holds for all inside two containers is
-- one arrow between these.
use Rattle.std.specs.Prelude.{◌≡◌, ◌⊎◌, ◌+◌, ◌<◌, ◌≤◌, ℕ, Bool, not, cond, nat_eq, List, [], ◌∷◌, length}
use Rattle.std.specs.List.{Contains, count_by}
use Rattle.rel_graph.specs.Before.{Belongs}
use Rattle.rel_graph.specs.Chains.{Paired}
use Rattle.rel_graph.specs.Marks.{Marked}

abbrev pub begin_of : ℕ → ℕ
begin_of x = x + x

abbrev pub end_of : ℕ → ℕ
end_of x = (x + x) + 1

-- An arrow leads from a container's begin to a member's, from a member's end to its container's, from the end of what
-- comes earlier to the begin of what comes later, and through so many resources, from begin to end; and there is no
-- other.
pub record AreArrows (through : ℕ) (containers edges arrows : List (ℕ × ℕ)) : Type 0 where
  pub down : (c m : ℕ) → Paired containers c m → Paired arrows (begin_of c) (begin_of m)
  pub up : (c m : ℕ) → Paired containers c m → Paired arrows (end_of m) (end_of c)
  pub across : (a b : ℕ) → Paired edges a b → Paired arrows (end_of a) (begin_of b)
  pub along : (x : ℕ) → x < through → Paired arrows (begin_of x) (end_of x)
  pub to_begin : (u x : ℕ) → Paired arrows u (begin_of x) →
      ((c : ℕ) × (u ≡ begin_of c) × Paired containers c x) ⊎ ((a : ℕ) × (u ≡ end_of a) × Paired edges a x)
  pub to_end : (u x : ℕ) → Paired arrows u (end_of x) →
      ((m : ℕ) × (u ≡ end_of m) × Paired containers x m) ⊎ ((u ≡ begin_of x) × (x < through))

-- where the arrows of a node lead
abbrev pub targets : List (ℕ × ℕ) → ℕ → List ℕ
targets [] u = []
targets (a ∷ arrows) u = cond (nat_eq u a.0) (a.1 ∷ targets arrows u) (targets arrows u)

-- what arrows lead to from a marked node is marked
abbrev pub Closed : List (ℕ × ℕ) → List Bool → Type 0
Closed arrows marks = (u v : ℕ) → Paired arrows u v → Marked marks u → Marked marks v

-- The first targets of a node were marked, each that was not marked before was put on the stack.
pub record Pushing (old : List Bool) (before targets : List ℕ) (marks : List Bool) (stack : List ℕ) : Type 0 where
  pub long : length marks ≡ length old
  pub keeps : (v : ℕ) → Marked old v → Marked marks v
  pub all : (v : ℕ) → Contains targets v → Marked marks v
  pub sound : (v : ℕ) → Marked marks v → Marked old v ⊎ Contains targets v
  pub stacked : (v : ℕ) → Marked marks v → Marked old v ⊎ Contains stack v
  pub kept : (v : ℕ) → Contains before v → Contains stack v
  pub from : (v : ℕ) → Contains stack v → Contains before v ⊎ Contains targets v
  pub fewer : length stack + count_by not marks ≤ length before + count_by not old

-- What is marked was marked before, or arrows lead to it; and what arrows lead to next is marked, or still to be
-- followed from the stack.
pub record Reaching (arrows : List (ℕ × ℕ)) (old : List Bool) (from : ℕ) (marks : List Bool) (stack : List ℕ)
    : Type 0 where
  pub long : length marks ≡ length old
  pub keeps : (v : ℕ) → Marked old v → Marked marks v
  pub start : Marked marks from
  pub sound : (v : ℕ) → Marked marks v → Marked old v ⊎ Belongs arrows v from
  pub open_ends : (u v : ℕ) → Paired arrows u v → Marked marks u → Marked marks v ⊎ Contains stack u
  pub known : (u : ℕ) → Contains stack u → Marked marks u
