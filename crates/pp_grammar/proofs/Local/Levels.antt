-- Readers that stand within equally many levels or more.
use Rattle.std.proofs.Common.{◌≡◌, ℕ, zero, suc, ◌+◌, ◌<◌, ◌≤◌, ltb, Bool, true, false, not, ◌⊎◌, inl, inr, [], length, refl, sym, ap, subst, ◌∙◌, arith}
use Rattle.std.proofs.lemmas.Bool.{lt-ltb, ltb-true, le-ltb, ltb-false}
use Rattle.pp_parser.specs.declared.inset.Inset.{Inset}
use Rattle.pp_parser.specs.declared.inset.Inset.TheVariants as goal
use Rattle.pp_parser.specs.declared.inset.InsetTree.{InsetTree}
use Rattle.pp_grammar.proofs.Reader.Input.{Input, refuse}
use Rattle.pp_grammar.proofs.Reader.Inner.{Inner}
use Rattle.pp_grammar.proofs.Reader.Levels.{part_by, within_to, within, deepest_to, read_to}
use Rattle.pp_grammar.proofs.Local.Steps.{Cut, AlikeAt, IsLocal, any, one, Opening, same_length, bind_local, first_local, pure_local, refuse_local}
use Rattle.pp_grammar.proofs.Local.Inner.{InnerLocal}
use Rattle.pp_grammar.proofs.Local.Expressions.{whole_local, operand_local, interpolated_local, param_rule_local, case_option_local}
use Rattle.pp_grammar.proofs.Local.Statements.{statements_local, query_local}
use Rattle.pp_grammar.proofs.Local.FunctionBodies.{function_statements_local}

module _ {c : Cut} {a b : Inner} (I : InnerLocal c a b) where
  part_local : {d : Bool} (g : Inset) → IsLocal c d any (part_by a g) (part_by b g)
  unfolding part_by
  part_local (goal.Whole bars) = bind_local (whole_local I bars bars) (λ _. pure_local _)
  part_local (goal.Operand bars) = bind_local (operand_local I bars) (λ _. pure_local _)
  part_local goal.Interpolated = bind_local (interpolated_local I) (λ _. pure_local _)
  part_local (goal.Param bars) = bind_local (param_rule_local I bars) (λ _. pure_local _)
  part_local goal.Statements = bind_local (statements_local I) (λ _. pure_local _)
  part_local goal.FunctionStatements = bind_local (function_statements_local I) (λ _. pure_local _)
  part_local goal.CaseOption = bind_local (case_option_local I) (λ _. pure_local _)
  part_local goal.Query = bind_local (query_local I) (λ _. pure_local _)

  option_local : {d : Bool} → IsLocal c d one (part_by a goal.CaseOption) (part_by b goal.CaseOption)
  unfolding part_by
  option_local = first_local (case_option_local I) (λ _. pure_local _)

-- ---- the readers beside themselves

pub nowhere : Cut
nowhere = record { rest = []; other = []; same = refl; deeper = λ _. false }

-- the same text twice
equally_long : (deeper : ℕ → Bool) (i j : Input) → AlikeAt (record { rest = []; other = []; same = refl; deeper = deeper }) i j → length i.left ≡ length j.left
equally_long deeper i j h = let e = same_length (record { rest = []; other = []; same = refl; deeper = deeper }) i j h in omega arith

same_opening : (deepest : Bool) (x : Input → Bool) → (deepest ≡ true → (i : Input) → x i ≡ true) → ((i j : Input) → length i.left ≡ length j.left → x i ≡ x j) → Opening nowhere deepest x x
unfolding nowhere
same_opening deepest x shut alike = record {
  shut = shut;
  opens = λ i j h e. sym (alike i j (equally_long (λ _. false) i j h)) ∙ e;
  deeper = λ i j h e. absurd cc;
  equal = λ i j h e. alike i j (equally_long (λ _. false) i j h);
}

pub itself : (behind levels more : ℕ) → InnerLocal nowhere (within_to behind levels more) (within_to behind levels more)
unfolding deepest_to read_to
itself behind zero zero = record { deepest = true; opening = same_opening true (λ _. true) (λ e i. refl) (λ i j e. refl); keys = refl; reads = λ g. refuse_local; options = refuse_local }
itself behind zero (suc more) = record {
  deepest = false;
  opening = same_opening false (λ i. ltb behind (length i.left)) (λ e i. absurd cc) (λ i j e. ap (ltb behind) e);
  keys = refl;
  reads = part_local (itself behind zero more);
  options = option_local (itself behind zero more);
}
itself behind (suc levels) more = record {
  deepest = false;
  opening = same_opening false (λ _. false) (λ e i. absurd cc) (λ i j e. refl);
  keys = refl;
  reads = part_local (itself behind levels more);
  options = option_local (itself behind levels more);
}

-- ---- a reader that may open nothing, beside another one

module _ {c : Cut} (behind levels more : ℕ) where
  refused_reads : (g : Inset) → IsLocal c true any refuse ((within_to behind levels more).read g)
  refused_reads g = record { falls = (refuse_local {A = InsetTree} {c = nowhere} {deepest = true} {cost = any}).falls; falls_too = ((itself behind levels more).reads g).falls_too; follows = λ s. absurd cc }

  refused_options : IsLocal c true one refuse ((within_to behind levels more).read goal.CaseOption)
  refused_options = record { falls = (refuse_local {A = InsetTree} {c = nowhere} {deepest = true} {cost = one}).falls; falls_too = (itself behind levels more).options.falls_too; follows = λ s. absurd cc }

-- where the second one may open whatever it likes
open_all : {c : Cut} (deepest : Bool) (x : Input → Bool) → (deepest ≡ true → (i : Input) → x i ≡ true) → ((k : ℕ) → c.deeper k ≡ true) → Opening c deepest x (λ _. false)
open_all {c = c} deepest x shut all = record { shut = shut; opens = λ i j h e. refl; deeper = λ i j h e. refl; equal = λ i j h e. let w = all (length i.left) in absurd cc }

open_both : {c : Cut} → Opening c false (λ _. false) (λ _. false)
open_both = record { shut = λ e i. absurd cc; opens = λ i j h e. refl; deeper = λ i j h e. refl; equal = λ i j h e. refl }

-- ---- as many levels everywhere, or more

equal_levels : (c : Cut) (n : ℕ) → ((k : ℕ) → c.deeper k ≡ false) → InnerLocal c (within n) (within n)
unfolding deepest_to read_to
equal_levels c zero same = record {
  deepest = true;
  opening = record { shut = λ e i. refl; opens = λ i j h e. e; deeper = λ i j h e. let w = same (length i.left) in absurd cc; equal = λ i j h e. refl };
  keys = refl;
  reads = λ g. refuse_local;
  options = refuse_local;
}
equal_levels c (suc n) same = let I = equal_levels c n same in record { deepest = false; opening = open_both; keys = refl; reads = part_local I; options = option_local I }

-- Levels up to a place and behind it, and more levels than these everywhere.
pub more_levels : (c : Cut) (behind levels more n : ℕ) → ((k : ℕ) → c.deeper k ≡ true) → levels + more < n → InnerLocal c (within_to behind levels more) (within n)
unfolding deepest_to read_to
more_levels c behind zero zero zero all h = absurd (omega arith)
more_levels c behind zero zero (suc n) all h = record { deepest = true; opening = open_all true (λ _. true) (λ e i. refl) all; keys = refl; reads = refused_reads 0 (suc n) 0; options = refused_options 0 (suc n) 0 }
more_levels c behind zero (suc more) zero all h = absurd (omega arith)
more_levels c behind zero (suc more) (suc n) all h = let I = more_levels c behind zero more n all (omega arith) in
    record { deepest = false; opening = open_all false (λ i. ltb behind (length i.left)) (λ e i. absurd cc) all; keys = refl; reads = part_local I; options = option_local I }
more_levels c behind (suc levels) more zero all h = absurd (omega arith)
more_levels c behind (suc levels) more (suc n) all h = let I = more_levels c behind levels more n all (omega arith) in record { deepest = false; opening = open_both; keys = refl; reads = part_local I; options = option_local I }

pub within_local : (c : Cut) (n m : ℕ) → n ≤ m → ((k : ℕ) → c.deeper k ≡ true) × (n < m) ⊎ ((k : ℕ) → c.deeper k ≡ false) × (n ≡ m) → InnerLocal c (within n) (within m)
within_local c n m h (inl w) = more_levels c 0 n 0 m w.0 (omega (arith, w.1))
within_local c n m h (inr w) = subst (λ (l : ℕ). InnerLocal c (within n) (within l)) w.1 (equal_levels c n w.0)

-- ---- as many levels up to a place, and more from there on, or from an earlier place on

-- the second one may open more where so many are left, or fewer
abbrev pub from_place : ℕ → Cut
from_place behind = record { rest = []; other = []; same = refl; deeper = λ k. not (ltb behind k) }

at_place : (behind k : ℕ) → not (ltb behind k) ≡ true → ltb behind k ≡ false
at_place behind k e = flipped (ltb behind k) e
  where
    flipped : (b : Bool) → not b ≡ true → b ≡ false
    flipped true e = absurd cc
    flipped false e = refl

before_place : (behind k : ℕ) → not (ltb behind k) ≡ false → ltb behind k ≡ true
before_place behind k e = flipped (ltb behind k) e
  where
    flipped : (b : Bool) → not b ≡ false → b ≡ true
    flipped true e = refl
    flipped false e = absurd cc

open_sooner : (deepest : Bool) (x : Input → Bool) (first behind : ℕ) → (deepest ≡ true → (i : Input) → x i ≡ true) → ((i : Input) → x i ≡ false → ltb first (length i.left) ≡ false) → ((i : Input) → ltb first (length i.left) ≡ true → x i ≡ true)
    → first ≤ behind → Opening (from_place behind) deepest x (λ i. ltb behind (length i.left))
open_sooner deepest x first behind shut late early h = record {
  shut = shut;
  opens = λ i j a e. le-ltb behind (length j.left) (omega (arith, ltb-false first (length i.left) (late i e), equally_long (λ k. not (ltb behind k)) i j a));
  deeper = λ i j a e. ap (ltb behind) (sym (equally_long (λ k. not (ltb behind k)) i j a)) ∙ at_place behind (length i.left) e;
  equal = λ i j a e.
      let far = before_place behind (length i.left) e in
      early i (lt-ltb first (length i.left) (omega (arith, ltb-true behind (length i.left) far))) ∙ sym far ∙ ap (ltb behind) (equally_long (λ k. not (ltb behind k)) i j a);
}

pub more_behind : (first behind levels more greater : ℕ) → first ≤ behind → more < greater → InnerLocal (from_place behind) (within_to first levels more) (within_to behind levels greater)
unfolding deepest_to read_to
more_behind first behind zero more zero h k = absurd (omega arith)
more_behind first behind zero zero (suc greater) h k = record {
  deepest = true;
  opening = open_sooner true (λ _. true) behind behind (λ e i. refl) (λ i e. absurd cc) (λ i e. refl) (omega arith);
  keys = refl;
  reads = refused_reads behind zero (suc greater);
  options = refused_options behind zero (suc greater);
}
more_behind first behind zero (suc more) (suc greater) h k = let I = more_behind first behind zero more greater h (omega arith) in record {
  deepest = false;
  opening = open_sooner false (λ i. ltb first (length i.left)) first behind (λ e i. absurd cc) (λ i e. e) (λ i e. e) h;
  keys = refl;
  reads = part_local I;
  options = option_local I;
}
more_behind first behind (suc levels) more greater h k = let I = more_behind first behind levels more greater h k in record { deepest = false; opening = open_both; keys = refl; reads = part_local I; options = option_local I }
