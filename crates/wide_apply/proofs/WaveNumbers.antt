-- The tasks of a catalog in its order have waves.
use Rattle.std.proofs.Common.{◌≡◌, ◌⊎◌, ℕ, zero, suc, ◌+◌, ◌<◌, ◌≤◌, if◌then◌else◌, List, [], ◌∷◌, ◌++◌, length}
use Rattle.std.proofs.Common.{Option, None, Some, Contains, inl, inr, refl, sym, subst, ap, ◌∙◌, arith, append-nil}
use Rattle.std.proofs.Common.{append_assoc}
use Rattle.std.specs.Prelude.{nat_eq}
use Rattle.std.specs.List.{All, AllByRecursion}
use Rattle.std.proofs.lemmas.Bool.{cases_lt}
use Rattle.std.proofs.lemmas.Bool.Decides.{eqb_tells}
use Rattle.std.proofs.lemmas.List.Elements.{All-from_recursion, Contains-push_cases}
use Rattle.std.proofs.lemmas.List.Elements.{Contains-append_left}
use Rattle.rel_graph.specs.Chains.{Closure}
use Rattle.rel_graph.specs.Orders.{IsOrder}
use Rattle.res_core.specs.declared.held.Held.{Held}
use Rattle.agent_transaction.proofs.TaskOrders.{none_in, in_front, in_rest, in_cases, tasks_known, tasks_have, next_one}
use Rattle.agent_transaction.specs.Runs.{task_at, tasks_at}
use Rattle.agent_transaction.specs.declared.task.Task.{Task}
use Rattle.wide_apply.specs.Waves.{IsNumbering, AreWaves, waves_from}

-- ---- a number above those of all that come before

module _ (Comes : ℕ → ℕ → Type 0) (decided : (a b : ℕ) → Comes a b ⊎ ¬ (Comes a b)) where
  -- the least number above those of the ones among these that come before x
  record Above (wave : ℕ → ℕ) (ys : List ℕ) (x : ℕ) : Type 0 where
    pub number : ℕ
    pub above : (y : ℕ) → Contains ys y → Comes y x → wave y < number
    pub lowest : (b : ℕ) → ((y : ℕ) → Contains ys y → Comes y x → wave y < b) → number ≤ b

  above_all : (wave : ℕ → ℕ) (ys : List ℕ) (x : ℕ) → Above wave ys x
  above_all wave [] x = record {
    number = 0;
    above = λ y c k. absurd (none_in y c);
    lowest = λ b h. omega arith;
  }
  above_all wave (y ∷ ys) x =
      let rest = above_all wave ys x in
      elim (decided y x) [
        | inl comes ↦ elim (cases_lt (wave y) rest.number) [
          | inl less ↦ record {
            number = rest.number;
            above = λ z c k. elim (in_cases y z ys c) [
              | inl e ↦ subst (λ v. wave v < rest.number) e less
              | inr r ↦ rest.above z r k
            ];
            lowest = λ b h. rest.lowest b (λ z c k. h z (in_rest y z ys c) k);
          }
          | inr more ↦ record {
            number = suc (wave y);
            above = λ z c k. elim (in_cases y z ys c) [
              | inl e ↦ subst (λ v. wave v < suc (wave y)) e (omega arith)
              | inr r ↦ (let l = rest.above z r k in omega (arith, l, more))
            ];
            lowest = λ b h. let l = h y (in_front y ys) comes in omega (arith, l);
          }
        ]
        | inr far ↦ record {
          number = rest.number;
          above = λ z c k. elim (in_cases y z ys c) [
            | inl e ↦ absurd (far (subst (λ v. Comes v x) (sym e) k))
            | inr r ↦ rest.above z r k
          ];
          lowest = λ b h. rest.lowest b (λ z c k. h z (in_rest y z ys c) k);
        }
      ]

  -- each has the least number above those of all that come before it
  pub record Numbered (done : List ℕ) : Type 0 where
    pub wave : ℕ → ℕ
    pub rises : (x y : ℕ) → Contains done x → Contains done y → Comes y x → wave y < wave x
    pub lowest : (x b : ℕ) → Contains done x → ((y : ℕ) → Contains done y → Comes y x → wave y < b) → wave x ≤ b

  pub none_numbered : Numbered []
  none_numbered = record {
    wave = λ x. 0;
    rises = λ x y c. absurd (none_in x c);
    lowest = λ x b c. absurd (none_in x c);
  }

  abbrev with_one : ℕ → ℕ → (ℕ → ℕ) → ℕ → ℕ
  with_one x n wave z = if nat_eq z x then n else wave z

  at_one : (x n : ℕ) (wave : ℕ → ℕ) → with_one x n wave x ≡ n
  at_one x n wave = elim (eqb_tells x x) [
    | inl is ↦ ap (λ b. if b then n else wave x) is.0
    | inr other ↦ absurd (other.1 refl)
  ]

  at_others : (x n : ℕ) (wave : ℕ → ℕ) (z : ℕ) → ¬ (z ≡ x) → with_one x n wave z ≡ wave z
  at_others x n wave z far = elim (eqb_tells z x) [
    | inl is ↦ absurd (far is.1)
    | inr other ↦ ap (λ b. if b then n else wave z) other.0
  ]

  -- one more, which comes before none of them
  module _ (done : List ℕ) (x : ℕ) (n : Numbered done) (new : ¬ (Contains done x)) (itself : ¬ (Comes x x))
      (last : (y : ℕ) → Contains done y → ¬ (Comes x y)) where
    a : Above n.wave done x
    a = above_all n.wave done x

    wave_on : ℕ → ℕ
    wave_on = with_one x a.number n.wave

    old : (z : ℕ) → Contains done z → wave_on z ≡ n.wave z
    unfolding wave_on
    old z c = at_others x a.number n.wave z (λ e. new (subst (λ v. Contains done v) e c))

    here : wave_on x ≡ a.number
    unfolding wave_on
    here = at_one x a.number n.wave

    rises_on : (z y : ℕ) → Contains (done ++ x ∷ []) z → Contains (done ++ x ∷ []) y → Comes y z →
        wave_on y < wave_on z
    rises_on z y c d k = elim (Contains-push_cases done x z c) [
      | inl z_old ↦ elim (Contains-push_cases done x y d) [
        | inl y_old ↦ (let l = n.rises z y z_old y_old k in
            let e = old z z_old in let f = old y y_old in omega (arith, l, e, f))
        | inr y_new ↦ absurd (last z z_old (subst (λ v. Comes v z) (sym y_new) k))
      ]
      | inr z_new ↦ elim (Contains-push_cases done x y d) [
        | inl y_old ↦
            let l = a.above y y_old (subst (λ v. Comes y v) (sym z_new) k) in
            let e : wave_on z ≡ a.number = ap wave_on (sym z_new) ∙ here in
            let f = old y y_old in omega (arith, l, e, f)
        | inr y_new ↦ absurd (itself (subst (λ v. Comes v x) (sym y_new) (subst (λ v. Comes y v) (sym z_new) k)))
      ]
    ]

    lowest_on : (z b : ℕ) → Contains (done ++ x ∷ []) z →
        ((y : ℕ) → Contains (done ++ x ∷ []) y → Comes y z → wave_on y < b) → wave_on z ≤ b
    lowest_on z b c h = elim (Contains-push_cases done x z c) [
      | inl z_old ↦
          let l = n.lowest z b z_old (λ y d k. let f = old y d in
          let m = h y (Contains-append_left done (x ∷ []) y d) k in omega (arith, f, m)) in
          let e = old z z_old in omega (arith, l, e)
      | inr z_new ↦
          let l = a.lowest b (λ y d k. let f = old y d in
          let m = h y (Contains-append_left done (x ∷ []) y d) (subst (λ v. Comes y v) z_new k) in
          omega (arith, f, m)) in
          let e : wave_on z ≡ a.number = ap wave_on (sym z_new) ∙ here in omega (arith, l, e)
    ]

    pub one_numbered : Numbered (done ++ x ∷ [])
    one_numbered = record { wave = wave_on; rises = rises_on; lowest = lowest_on }

-- ---- the waves of an order

module _ (R : ℕ → ℕ → Type 0) (decided : (a b : ℕ) → Closure R a b ⊎ ¬ (Closure R a b)) (hs : List Held) (count : ℕ)
    (order : List ℕ) (io : IsOrder R count order) where
  -- what has no turn counts for nothing
  abbrev Counts : ℕ → ℕ → Type 0
  Counts y x = ((task : Task) × (task_at hs y ≡ Some task)) × Closure R y x

  no_task : (o : Option Task) (y : ℕ) → task_at hs y ≡ o → ((task : Task) × (task_at hs y ≡ Some task)) ⊎
      ¬ ((task : Task) × (task_at hs y ≡ Some task))
  no_task None y e = inr (λ h. none_some h.0 (sym e ∙ h.1)) where
    none_some : (task : Task) → None ≡ Some task → ⊥
    none_some task is = cc is
  no_task (Some task) y e = inl (task, e)

  pub counts_decided : (y x : ℕ) → Counts y x ⊎ ¬ (Counts y x)
  counts_decided y x = elim (no_task (task_at hs y) y refl) [
    | inl has ↦ elim (decided y x) [
      | inl comes ↦ inl (has, comes)
      | inr far ↦ inr (λ k. far k.1)
    ]
    | inr none ↦ inr (λ k. none k.0)
  ]

  numbered_from : (rest done : List ℕ) → done ++ rest ≡ order →
      ((x y : ℕ) → Contains done x → Closure R y x → Contains done y) → Numbered Counts counts_decided done →
      Numbered Counts counts_decided order
  numbered_from [] done split closed n =
      subst (λ l. Numbered Counts counts_decided l) (sym (append-nil done) ∙ split) n
  numbered_from (x ∷ rest) done split closed n =
      let next = next_one R count order io done rest x split in
      numbered_from rest (done ++ x ∷ []) (append_assoc done (x ∷ []) rest ∙ split)
      (λ v y c comes. Contains-append_left done (x ∷ []) y (elim (Contains-push_cases done x v c) [
        | inl old ↦ closed v y old comes
        | inr is ↦ next.ready y (subst (λ z. Closure R y z) (sym is) comes)
      ]))
      (one_numbered Counts counts_decided done x n next.unlisted (λ k. next.unlisted (next.ready x k.1))
      (λ y c k. next.unlisted (closed y x c k.1)))

  pub numbers : Numbered Counts counts_decided order
  numbers = numbered_from order [] refl (λ x y c. absurd (none_in x c)) (none_numbered Counts counts_decided)

  pub numbering : IsNumbering (Closure R) (tasks_at hs order) numbers.wave
  numbering = record {
    stands = λ x w has.
        let here = tasks_known hs order x has.0 has.1 in (
          λ e. (
            omega (arith, e),
            λ y turn comes.
                let there = tasks_known hs order y turn.0 turn.1 in
                let l = numbers.rises x y here.0 there.0 ((turn.0, there.1), comes) in omega (arith, l, e),
          ),
          λ h.
              let l = numbers.lowest x w here.0
              (λ y listed k. h.1 y (k.0.0, tasks_have hs order y k.0.0 listed k.0.1) k.1) in
              let m = h.0 in omega (arith, l, m),
        );
  }

-- ---- so many waves

module _ (wave : ℕ → ℕ) where
  below_more : (n m : ℕ) → n ≤ m → (ps : List (ℕ × Task)) → AllByRecursion (λ p. wave p.0 < n) ps →
      AllByRecursion (λ p. wave p.0 < m) ps
  below_more n m le [] h = tt
  below_more n m le (p ∷ ps) h = ((let l = h.0 in omega (arith, l, le)), below_more n m le ps h.1)

  some_bound : (ps : List (ℕ × Task)) → (n : ℕ) × AllByRecursion (λ p. wave p.0 < n) ps
  some_bound [] = (0, tt)
  some_bound (p ∷ ps) =
      let rest = some_bound ps in
      (suc (wave p.0) + rest.0, (omega arith, below_more rest.0 (suc (wave p.0) + rest.0) (omega arith) ps rest.1))

  waves_long : (ps : List (ℕ × Task)) (at count : ℕ) → length (waves_from wave ps at count) ≡ count
  waves_long ps at zero = refl
  waves_long ps at (suc count) = ap suc (waves_long ps (suc at) count)

  -- what has numbers has waves
  pub waves_made : (Comes : ℕ → ℕ → Type 0) (ps : List (ℕ × Task)) → IsNumbering Comes ps wave →
      (ws : List (List (ℕ × Task))) × AreWaves Comes ps ws
  waves_made Comes ps is =
      let bound = some_bound ps in
      let long = sym (waves_long ps 0 bound.0) in (
        waves_from wave ps 0 bound.0,
        record {
          wave = wave;
          numbering = is;
          whole = subst (λ n. All (λ (p : ℕ × Task). wave p.0 < n) ps) long
              (All-from_recursion (λ (p : ℕ × Task). wave p.0 < bound.0) ps bound.1);
          each = ap (waves_from wave ps 0) long;
        },
      )
