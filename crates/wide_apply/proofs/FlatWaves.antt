-- The waves of a small catalog, found by computing: where only the first resource contains others, and no relation
-- names it.
use Rattle.std.proofs.Common.{◌≡◌, ℕ, suc, ◌<◌, ◌≤◌, Bool, true, false, ◌&&◌, ◌||◌, List, [], ◌∷◌, Contains, refl}
use Rattle.std.proofs.Common.{subst, arith}
use Rattle.std.specs.List.{list_all, list_any}
use Rattle.std.specs.Prelude.{nat_eq, nat_lt}
use Rattle.std.proofs.lemmas.Bool.{ltb-true}
use Rattle.rel_graph.specs.Before.{Before, Direct}
use Rattle.rel_graph.specs.Chains.{Chain}
use Rattle.agent_transaction.proofs.FlatOrders.{first, second, holds_of, found, same, is_flat, direct_pair, pair_direct}
use Rattle.agent_transaction.specs.declared.task.Task.{Task}
use Rattle.wide_apply.specs.Waves.{HasTurn, IsNumbering}

module _ (containers pairs : List (ℕ × ℕ)) (flat : is_flat containers pairs ≡ true) (tasks : List (ℕ × Task))
    (wave : ℕ → ℕ) where
  -- one with a turn comes directly before it, one wave earlier
  abbrev is_due : ℕ × ℕ → ℕ × Task → Bool
  is_due p t = nat_eq p.1 t.0 && (nat_eq (suc (wave p.0)) (wave t.0) && list_any (λ u. nat_eq u.0 p.0) tasks)

  -- each pair leads to a later wave, and each later wave is waited for
  abbrev pub is_numbering : Bool
  is_numbering =
      list_all (λ p. nat_lt (wave p.0) (wave p.1)) pairs
      && list_all (λ t. nat_eq (wave t.0) 0 || list_any (λ p. is_due p t) pairs) tasks

  module _ (is : is_numbering ≡ true) where
    direct_rises : (y x : ℕ) → Direct containers pairs y x → wave y < wave x
    direct_rises y x d =
        ltb-true (wave y) (wave x) (holds_of (λ p. nat_lt (wave p.0) (wave p.1)) pairs (y, x)
        (first (list_all (λ p. nat_lt (wave p.0) (wave p.1)) pairs)
        (list_all (λ t. nat_eq (wave t.0) 0 || list_any (λ p. is_due p t) pairs) tasks) is)
        (direct_pair containers pairs flat y x d))

    chain_rises : (via : List ℕ) (y x : ℕ) → Chain (Direct containers pairs) y via x → wave y < wave x
    chain_rises [] y x h = direct_rises y x h
    chain_rises (z ∷ via) y x h =
        let a = direct_rises y z h.0 in let b = chain_rises via z x h.1 in omega (arith, a, b)

    -- where all that come before it stand in waves before this one, so many waves are enough
    lowest : (x w : ℕ) → HasTurn tasks x → ((y : ℕ) → HasTurn tasks y → Before containers pairs y x → wave y < w) →
        wave x ≤ w
    lowest x w has h = elim (nat_eq (wave x) 0) as (λ b. nat_eq (wave x) 0 ≡ b →
        (b || list_any (λ p. is_due p (x, has.0)) pairs) ≡ true → wave x ≤ w) [
          | true ↦ λ zero_is k. (let e = same (wave x) 0 zero_is in omega (arith, e))
          | false ↦ λ more k.
              let p = found (λ p. is_due p (x, has.0)) pairs k in
              let here = nat_eq p.0.1 x in
              let next = nat_eq (suc (wave p.0.0)) (wave x) in
              let turns = list_any (λ (u : ℕ × Task). nat_eq u.0 p.0.0) tasks in
              let rest = second here (next && turns) p.2 in
              let u = found (λ (u : ℕ × Task). nat_eq u.0 p.0.0) tasks (second next turns rest) in
              let turn : HasTurn tasks p.0.0 =
              subst (λ y. HasTurn tasks y) (same u.0.0 p.0.0 u.2) (u.0.1, u.1) in
              let to : p.0.1 ≡ x = same p.0.1 x (first here (next && turns) p.2) in
              let comes : Before containers pairs p.0.0 x =
              ([], pair_direct containers pairs flat p.0.0 x (subst (λ y. Contains pairs (p.0.0, y)) to p.1)) in
              let l = h p.0.0 turn comes in
              let e = same (suc (wave p.0.0)) (wave x) (first next turns rest) in omega (arith, l, e)
        ] refl (holds_of (λ t. nat_eq (wave t.0) 0 || list_any (λ p. is_due p t) pairs) tasks (x, has.0)
        (second (list_all (λ p. nat_lt (wave p.0) (wave p.1)) pairs)
        (list_all (λ t. nat_eq (wave t.0) 0 || list_any (λ p. is_due p t) pairs) tasks) is) has.1)

    pub numbering_made : IsNumbering (Before containers pairs) tasks wave
    numbering_made = record {
      stands = λ x w has. (
        λ e. (
          omega (arith, e),
          λ y turn comes. let l = chain_rises comes.0 y x comes.1 in omega (arith, l, e),
        ),
        λ h. (let l = lowest x w has h.1 in let m = h.0 in omega (arith, l, m)),
      );
    }
