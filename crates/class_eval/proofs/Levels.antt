-- One level of what each part means.
use Rattle.std.proofs.Common.{◌≡◌, ℕ, zero, suc, ◌-◌, refl, arith}
use Rattle.class_eval.specs.Meaning.{within, one_more, too_deep, line_of_goal}
use Rattle.eval_world.specs.Inner.{asked}
use Rattle.eval_world.specs.declared.goal.Goal.{Goal}
use Rattle.eval_world.specs.declared.goal.Goal.TheVariants as goal
use Rattle.eval_world.specs.declared.here.Here.{Here}
use Rattle.eval_world.specs.declared.world.World.{World}

pub no_level : (left : ℕ) (g : Goal) (here : Here) (w : World) → left ≡ 0
    → asked (within left) g here w ≡ too_deep here (line_of_goal g) w
unfolding within
no_level zero (goal.Value e) here w h = refl
no_level zero (goal.Block b line) here w h = refl
no_level zero (goal.Words x) here w h = refl
no_level zero (goal.Target r) here w h = refl
no_level zero (goal.Class n line) here w h = refl
no_level zero (goal.Instance n line) here w h = refl
no_level (suc n) g here w h = absurd (omega arith)

pub one_level : (left : ℕ) (g : Goal) (here : Here) (w : World) → ¬ (left ≡ 0)
    → asked (within left) g here w ≡ asked (one_more (within (left - 1))) g here w
unfolding within
one_level zero g here w h = absurd (h refl)
one_level (suc n) g here w h = let e : suc n - 1 ≡ n = omega arith in rw e refl
