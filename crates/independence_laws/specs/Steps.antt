-- Steps that come to the same in worlds that are alike.
use Rattle.std.specs.Prelude.{◌≡◌, ℕ, List, Ok, Err}
use Rattle.pp_tree.specs.declared.expr.Expr.{Expr}
use Rattle.pp_tree.specs.declared.resource.Reference.{Reference}
use Rattle.pp_tree.specs.declared.statement.Statement.{Statement}
use Rattle.pp_tree.specs.declared.statement.Words.{Words}
use Rattle.res_core.specs.declared.log_line.LogLine.{LogLine}
use Rattle.eval_world.specs.Inner.{Inner}
use Rattle.eval_world.specs.Outcomes.{Outcome, Step}
use Rattle.eval_world.specs.Owners.{Owners}
use Rattle.eval_world.specs.declared.here.Here.{Here}
use Rattle.eval_world.specs.declared.world.World.{World}
use Rattle.independence_laws.specs.Alike.{AreAlike, IsSameHere, OwnersGoOn}

-- where two evaluations stand that go on side by side, and the owners when they came there
pub record Two : Type 0 where
  pub left : Here
  pub right : Here
  pub first : Owners
  pub second : Owners
  pub same : IsSameHere first second left right

-- how two values are the same, by the owners in both worlds
abbrev pub Likeness : Type 0 → Type 1
Likeness A = Owners → Owners → A → A → Type 0

abbrev pub Equal : {A : Type 0} → Likeness A
Equal o p a b = a ≡ b

-- From two worlds: the same fault, or the same value and worlds that are alike, where all owners have kept their
-- numbers.
pub record Come {A : Type 0} (like : Likeness A) (first second : List LogLine) (v w : World) (p q : A × World) : Type 0 where
  pub value : like p.1.owners q.1.owners p.0 q.0
  pub worlds : AreAlike first second p.1 q.1
  pub left : OwnersGoOn v.owners p.1.owners
  pub right : OwnersGoOn w.owners q.1.owners

abbrev pub Comes : {A : Type 0} → Likeness A → List LogLine → List LogLine → World → World → Outcome A → Outcome A → Type 0
Comes like first second v w (Ok p) (Ok q) = Come like first second v w p q
Comes like first second v w (Ok p) (Err g) = ⊥
Comes like first second v w (Err f) (Ok q) = ⊥
Comes like first second v w (Err f) (Err g) = f ≡ g

-- The same step at two places comes to the same, from whatever worlds that are alike and have the owners of these
-- places.
pub record IsAlike {A : Type 0} (like : Likeness A) (two : Two) (step : Here → Step A) : Type 0 where
  pub comes : (first second : List LogLine) (v w : World) → AreAlike first second v w →
      OwnersGoOn two.first v.owners → OwnersGoOn two.second w.owners →
      Comes like first second v w (step two.left v) (step two.right w)

abbrev pub Same : {A : Type 0} → Two → (Here → Step A) → Type 0
Same two step = IsAlike Equal two step

-- what stands one level further in does
pub record SameInner (inner : Inner) : Type 0 where
  pub value : (e : Expr) (two : Two) → Same two (λ here. inner.value e here)
  pub block : (b : List Statement) (line : ℕ) (two : Two) → Same two (λ here. inner.block b line here)
  pub words : (x : Words Expr) (two : Two) → Same two (λ here. inner.words x here)
  pub target : (r : Reference Expr) (two : Two) → Same two (λ here. inner.target r here)
  pub class : (n line : ℕ) (two : Two) → Same two (λ here. inner.class n line here)
  pub instance : (n line : ℕ) (two : Two) → Same two (λ here. inner.instance n line here)
