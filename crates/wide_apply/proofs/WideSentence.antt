-- What a report says of a catalog, where turns were taken by waves.
use Rattle.std.proofs.Common.{◌≡◌, ◌⊎◌, ℕ, zero, suc, ◌+◌, ◌<◌, ◌≤◌, Bool, true, false, if◌then◌else◌, List, [], ◌∷◌}
use Rattle.std.proofs.Common.{◌++◌, map, length, Option, None, Some, Contains, slice_get, inl, inr, refl, sym, subst, ap}
use Rattle.std.proofs.Common.{◌∙◌, arith, append_assoc}
use Rattle.std.specs.Prelude.{nat_eq}
use Rattle.std.proofs.lemmas.Bool.{cases_lt}
use Rattle.std.proofs.lemmas.Bool.Decides.{eqb_tells}
use Rattle.std.proofs.lemmas.List.{map-append}
use Rattle.std.proofs.lemmas.List.Elements.{recursion_from_All, Contains-append_left, Contains-append_right}
use Rattle.std.proofs.lemmas.List.Elements.{Contains-append_cases}
use Rattle.std.proofs.lemmas.Option.{slice_get_within}
use Rattle.rel_graph.specs.Before.{Direct}
use Rattle.rel_graph.specs.CatalogPairs.{containment, relations}
use Rattle.rel_graph.specs.Orders.{IsOrder}
use Rattle.res_core.specs.Catalogs.{Catalog, IsCatalog}
use Rattle.agent_machine.specs.Machines.{Told}
use Rattle.agent_machine.specs.declared.report_line.ReportLine.{ReportLine}
use Rattle.agent_transaction.proofs.SecondRunLemmas.{pair_of, comes_in, signals_in}
use Rattle.agent_transaction.proofs.SentenceLemmas.{Knows, whose, says}
use Rattle.agent_transaction.proofs.TaskFits.{taken}
use Rattle.agent_transaction.proofs.TaskOrders.{none_in, in_front, in_rest, in_cases, pair_in, in_pairs, Once}
use Rattle.agent_transaction.proofs.TaskOrders.{order_below, tasks_known, tasks_have, tasks_once}
use Rattle.agent_transaction.specs.Runs.{Turned, IsTurned, task_at, tasks_at}
use Rattle.agent_transaction.specs.Sentences.{HasLine, Says}
use Rattle.agent_transaction.specs.declared.task.Task.{Task}
use Rattle.wide_apply.proofs.WideFair.{in_all, in_wave_has, has_in_wave, once_in_wave}
use Rattle.wide_apply.proofs.WideLaw.{at_has}
use Rattle.wide_apply.specs.WideLaws.{InRisingOrder, WideSays}
use Rattle.wide_apply.specs.Waves.{AreWaves, IsNumbering, in_wave, waves_from}
use Rattle.wide_apply.specs.WideRuns.{turn_of, together, turns_of, lines_at, rising_lines, IsTurnedApart, TakeWaves}

-- ---- lines by rising indexes

lines_cases : (at : ℕ) (ts : List Turned) → Once (map pair_of ts) →
    (lines_at at ts ≡ []) ⊎ ((t : Turned) × Contains ts t × (t.at ≡ at) × (lines_at at ts ≡ t.line ∷ []))
lines_cases at [] once = inl refl
lines_cases at (u ∷ ts) once = elim (eqb_tells u.at at) [
  | inl is ↦ elim (lines_cases at ts once.1) [
    | inl none ↦ inr (
      u,
      in_front u ts,
      is.1,
      ap (λ b. if b then u.line ∷ lines_at at ts else lines_at at ts) is.0 ∙ ap (λ l. u.line ∷ l) none,
    )
    | inr one ↦ absurd (once.0 (one.0.at, one.0.task) (in_pairs ts one.0 one.1) (one.2 ∙ sym is.1))
  ]
  | inr other ↦
      let same : lines_at at (u ∷ ts) ≡ lines_at at ts =
      ap (λ b. if b then u.line ∷ lines_at at ts else lines_at at ts) other.0 in
      elim (lines_cases at ts once.1) [
        | inl none ↦ inl (same ∙ none)
        | inr one ↦ inr (one.0, in_rest u one.0 ts one.1, one.2, same ∙ one.3)
      ]
]

one_line : (a b : ReportLine) → Some a ≡ Some b → a ≡ b
one_line a b e = cc e

-- ---- the line of a place, and the place of a line

module _ (ts : List Turned) (once : Once (map pair_of ts)) where
  pub record Found (at k : ℕ) (line : ReportLine) : Type 0 where
    pub t : Turned
    pub has : Contains ts t
    pub line_is : t.line ≡ line
    pub on : ℕ
    pub at_is : t.at ≡ at + on
    pub place : k ≡ length (rising_lines at on ts)

  further : (at k : ℕ) (line : ReportLine) → lines_at at ts ≡ [] → Found (suc at) k line → Found at k line
  further at k line none f = record {
    t = f.t;
    has = f.has;
    line_is = f.line_is;
    on = suc f.on;
    at_is = (let e = f.at_is in omega (arith, e));
    place = f.place ∙ ap (λ l. length (l ++ rising_lines (suc at) f.on ts)) (sym none);
  }

  behind : (at k : ℕ) (line first : ReportLine) → lines_at at ts ≡ first ∷ [] → Found (suc at) k line →
      Found at (suc k) line
  behind at k line first one f = record {
    t = f.t;
    has = f.has;
    line_is = f.line_is;
    on = suc f.on;
    at_is = (let e = f.at_is in omega (arith, e));
    place = ap suc f.place ∙ ap (λ l. length (l ++ rising_lines (suc at) f.on ts)) (sym one);
  }

  first_or_later : (n at : ℕ) (t : Turned) → Contains ts t → t.at ≡ at → lines_at at ts ≡ t.line ∷ [] →
      ((k : ℕ) (line : ReportLine) → slice_get (rising_lines (suc at) n ts) k ≡ Some line → Found (suc at) k line) →
      (k : ℕ) (line : ReportLine) → slice_get (t.line ∷ rising_lines (suc at) n ts) k ≡ Some line → Found at k line
  first_or_later n at t has is one later zero line e = record {
    t = t;
    has = has;
    line_is = one_line t.line line e;
    on = 0;
    at_is = omega (arith, is);
    place = refl;
  }
  first_or_later n at t has is one later (suc k) line e = behind at k line t.line one (later k line e)

  found_at : (n at k : ℕ) (line : ReportLine) → slice_get (rising_lines at n ts) k ≡ Some line → Found at k line
  found_at zero at k line e = absurd (cc e)
  found_at (suc n) at k line e = elim (lines_cases at ts once) [
    | inl none ↦ further at k line none (found_at n (suc at) k line
        (ap (λ l. slice_get (l ++ rising_lines (suc at) n ts) k) (sym none) ∙ e))
    | inr one ↦ first_or_later n at one.0 one.1 one.2 one.3 (found_at n (suc at)) k line
        (ap (λ l. slice_get (l ++ rising_lines (suc at) n ts) k) (sym one.3) ∙ e)
  ]

  line_at : (on at n : ℕ) (t : Turned) → Contains ts t → t.at ≡ at + on → on < n →
      slice_get (rising_lines at n ts) (length (rising_lines at on ts)) ≡ Some t.line
  line_at on at zero t has is less = absurd (omega (arith, less))
  line_at zero at (suc n) t has is less =
      let there = at_has at ts t has (omega (arith, is)) in
      elim (lines_cases at ts once) [
        | inl none ↦ absurd (none_in t.line (subst (λ l. Contains l t.line) none there))
        | inr one ↦
            let same : one.0.line ≡ t.line =
            elim (in_cases one.0.line t.line [] (subst (λ l. Contains l t.line) one.3 there)) [
              | inl e ↦ e
              | inr k ↦ absurd (none_in t.line k)
            ] in
            ap (λ l. slice_get (l ++ rising_lines (suc at) n ts) 0) one.3 ∙ ap Some same
      ]
  line_at (suc on) at (suc n) t has is less =
      let rest = line_at on (suc at) n t has (omega (arith, is)) (omega (arith, less)) in
      elim (lines_cases at ts once) [
        | inl none ↦ ap (λ l. slice_get (l ++ rising_lines (suc at) n ts) (length (l ++ rising_lines (suc at) on ts))) none
            ∙ rest
        | inr one ↦ ap (λ l. slice_get (l ++ rising_lines (suc at) n ts) (length (l ++ rising_lines (suc at) on ts)))
            one.3 ∙ rest
      ]

-- ---- waves

once_append : (ps qs : List (ℕ × Task)) → Once ps → Once qs →
    ((p q : ℕ × Task) → Contains ps p → Contains qs q → ¬ (q.0 ≡ p.0)) → Once (ps ++ qs)
once_append [] qs a b far = b
once_append (p ∷ ps) qs a b far = (
  λ q c. elim (Contains-append_cases ps qs q c) [
    | inl here ↦ a.0 q here
    | inr there ↦ far p q (in_front p ps) there
  ],
  once_append ps qs a.1 b (λ r q c d. far r q (in_rest p r ps c) d),
)

module _ (Comes Signals : ℕ → ℕ → Type 0) (N : List (ℕ × Task)) (wave : ℕ → ℕ) where
  heads : {X : Type 0} (a b : X) (xs ys : List X) → a ∷ xs ≡ b ∷ ys → (a ≡ b) × (xs ≡ ys)
  heads a b xs ys e = (cc e, cc e)

  -- of the turns of a wave
  own_wave : (w : ℕ) (ts : List Turned) → map turn_of ts ≡ in_wave wave w N → (t : Turned) → Contains ts t →
      Contains N (t.at, t.task) × (wave t.at ≡ w)
  own_wave w ts same t k =
      in_wave_has wave w N (t.at, t.task) (subst (λ l. Contains l (t.at, t.task)) same (in_pairs ts t k))

  -- of those of this wave and of later ones
  pub not_lower : (ws : List (List Turned)) (n w : ℕ) → turns_of ws ≡ waves_from wave N w n → (t : Turned) →
      Contains (together ws) t → Contains N (t.at, t.task) × (w ≤ wave t.at)
  not_lower [] n w same t k = absurd (none_in t k)
  not_lower (ts ∷ ws) zero w same t k = absurd (cc same)
  not_lower (ts ∷ ws) (suc n) w same t k =
      let both = heads (map turn_of ts) (in_wave wave w N) (turns_of ws) (waves_from wave N (suc w) n) same in
      elim (Contains-append_cases ts (together ws) t k) [
        | inl here ↦ (let own = own_wave w ts both.0 t here in (own.0, (let e = own.1 in omega (arith, e))))
        | inr there ↦ (let r = not_lower ws n (suc w) both.1 t there in (r.0, (let h = r.1 in omega (arith, h))))
      ]

  pub covered : (ws : List (List Turned)) (n w : ℕ) → turns_of ws ≡ waves_from wave N w n → (p : ℕ × Task) →
      Contains N p → w ≤ wave p.0 → wave p.0 < w + n → (t : Turned) × Contains (together ws) t × (t.at ≡ p.0)
  covered ws zero w same p k low high = absurd (omega (arith, low, high))
  covered [] (suc n) w same p k low high = absurd (cc same)
  covered (ts ∷ ws) (suc n) w same p k low high =
      let both = heads (map turn_of ts) (in_wave wave w N) (turns_of ws) (waves_from wave N (suc w) n) same in
      elim (eqb_tells (wave p.0) w) [
        | inl is ↦
            let t = pair_in ts p (subst (λ l. Contains l p) (sym both.0) (has_in_wave wave w N p k is.1)) in
            (t.0, Contains-append_left ts (together ws) t.0 t.1, t.2)
        | inr other ↦
            let t = covered ws n (suc w) both.1 p k (over (wave p.0) w low other.1) (omega (arith, high)) in
            (t.0, Contains-append_right ts (together ws) t.0 t.1, t.2)
      ] where
        over : (a b : ℕ) → b ≤ a → ¬ (a ≡ b) → suc b ≤ a
        over a b low far = elim (cases_lt b a) [
          | inl less ↦ omega (arith, less)
          | inr more ↦ absurd (far (omega (arith, low, more)))
        ]

  pub all_once : (ws : List (List Turned)) (n w : ℕ) → turns_of ws ≡ waves_from wave N w n → Once N →
      Once (map pair_of (together ws))
  all_once [] n w same once = tt
  all_once (ts ∷ ws) zero w same once = absurd (cc same)
  all_once (ts ∷ ws) (suc n) w same once =
      let both = heads (map turn_of ts) (in_wave wave w N) (turns_of ws) (waves_from wave N (suc w) n) same in
      subst Once (sym (map-append pair_of ts (together ws)))
      (once_append (map pair_of ts) (map pair_of (together ws)) (subst Once (sym both.0) (once_in_wave wave w N once))
      (all_once ws n (suc w) both.1 once)
      (λ p q c d e.
      let t = pair_in ts p c in
      let u = pair_in (together ws) q d in
      let here = (own_wave w ts both.0 t.0 t.1).1 in
      let there = (not_lower ws n (suc w) both.1 u.0 u.1).1 in
      let at = ap wave (u.2 ∙ e ∙ sym t.2) in
      absurd (omega (arith, here, there, at))))

  -- a turn, and those of the waves before its own
  pub record Seen (all : List Turned) (t : Turned) : Type 0 where
    pub earlier : List Turned
    pub turned : IsTurned Comes Signals earlier t
    pub among : (v : Turned) → Contains earlier v → Contains all v
    pub all_before : (v : Turned) → Contains all v → wave v.at < wave t.at → Contains earlier v

  pub seen : (ws : List (List Turned)) (n w : ℕ) (earlier : List Turned) (m after : Told) →
      turns_of ws ≡ waves_from wave N w n → TakeWaves Comes Signals earlier ws m after → (t : Turned) →
      Contains (together ws) t → Seen (earlier ++ together ws) t
  seen [] n w earlier m after same take t k = absurd (none_in t k)
  seen (ts ∷ ws) zero w earlier m after same take t k = absurd (cc same)
  seen (ts ∷ ws) (suc n) w earlier m after same take t k =
      let both = heads (map turn_of ts) (in_wave wave w N) (turns_of ws) (waves_from wave N (suc w) n) same in
      elim (Contains-append_cases ts (together ws) t k) [
        | inl here ↦
            let apart = in_all (IsTurnedApart Comes Signals earlier m) ts t
            (recursion_from_All (IsTurnedApart Comes Signals earlier m) ts take.0) here in
            let own = (own_wave w ts both.0 t here).1 in
            record {
              earlier = earlier;
              turned = apart.turned;
              among = λ v c. Contains-append_left earlier (ts ++ together ws) v c;
              all_before = λ v c less. elim (Contains-append_cases earlier (ts ++ together ws) v c) [
                | inl old ↦ old
                | inr new ↦ absurd (let low = (not_lower (ts ∷ ws) (suc n) w same v new).1 in
                    omega (arith, low, less, own))
              ];
            }
        | inr there ↦ subst (λ l. Seen l t) (append_assoc earlier ts (together ws))
            (seen ws n (suc w) (earlier ++ ts) take.1.0 after both.1 take.1.2 t there)
      ]

-- ---- the run

module _ (c : Catalog) (kept : IsCatalog c.resources c.edges) (order : List ℕ)
    (io : IsOrder (Direct (containment c.resources) (relations c.edges)) (length c.resources) order)
    (ws : List (List Turned)) (whose_are : AreWaves (comes_in c) (tasks_at c.resources order) (turns_of ws))
    (start after : Told) (take : TakeWaves (comes_in c) (signals_in c) [] ws start after) where
  in_tasks : (t : Turned) → Contains (together ws) t → Contains (tasks_at c.resources order) (t.at, t.task)
  in_tasks t k = (not_lower (comes_in c) (signals_in c) (tasks_at c.resources order) whose_are.wave ws
      (length (turns_of ws)) 0 whose_are.each t k).0

  once : Once (map pair_of (together ws))
  once = all_once (comes_in c) (signals_in c) (tasks_at c.resources order) whose_are.wave ws (length (turns_of ws)) 0
      whose_are.each
      (tasks_once (Direct (containment c.resources) (relations c.edges)) c.resources (length c.resources) order io)

  known : (t : Turned) → Contains (together ws) t → task_at c.resources t.at ≡ Some t.task
  known t k = (tasks_known c.resources order t.at t.task (in_tasks t k)).1

  below : (t : Turned) → Contains (together ws) t → t.at < length c.resources
  below t k = order_below (Direct (containment c.resources) (relations c.edges)) (length c.resources) order io t.at
      (tasks_known c.resources order t.at t.task (in_tasks t k)).0

  all : (x : ℕ) (task : Task) → task_at c.resources x ≡ Some task → (t : Turned) × Contains (together ws) t × (t.at ≡ x)
  all x task is =
      let place = taken c.resources x task is in
      let has = tasks_have c.resources order x task (io.all x (slice_get_within c.resources x place.0 place.1)) is in
      let high = in_all (λ (p : ℕ × Task). whose_are.wave p.0 < length (turns_of ws)) (tasks_at c.resources order)
      (x, task)
      (recursion_from_All (λ (p : ℕ × Task). whose_are.wave p.0 < length (turns_of ws)) (tasks_at c.resources order)
      whose_are.whole) has in
      covered (comes_in c) (signals_in c) (tasks_at c.resources order) whose_are.wave ws (length (turns_of ws)) 0
      whose_are.each (x, task) has (omega arith) (omega (arith, high))

  knows : (t : Turned) → Contains (together ws) t → Knows c (together ws) t
  knows t k =
      let s = seen (comes_in c) (signals_in c) (tasks_at c.resources order) whose_are.wave ws (length (turns_of ws)) 0 []
      start after whose_are.each take t k in
      record {
        earlier = s.earlier;
        turned = s.turned;
        among = s.among;
        before = λ v c comes. s.all_before v c
            (((whose_are.numbering.stands t.at (whose_are.wave t.at) (t.task, in_tasks t k)).0 refl).1 v.at
            (v.task, in_tasks v c) comes);
      }

  abbrev Sits : ℕ → ℕ → Type 0
  Sits x k = k ≡ length (rising_lines 0 x (together ws))

  placed : (t : Turned) → Contains (together ws) t →
      (k : ℕ) × (slice_get (rising_lines 0 (length c.resources) (together ws)) k ≡ Some t.line)
  placed t k = (
    length (rising_lines 0 t.at (together ws)),
    line_at (together ws) once t.at 0 (length c.resources) t k (omega arith) (below t k),
  )

  at_place : (k : ℕ) (line : ReportLine) →
      slice_get (rising_lines 0 (length c.resources) (together ws)) k ≡ Some line →
      (t : Turned) × Contains (together ws) t × (t.line ≡ line) × Sits t.at k
  at_place k line e =
      let f = found_at (together ws) once (length c.resources) 0 k line e in
      let on : f.on ≡ f.t.at = (let h = f.at_is in omega (arith, h)) in
      (f.t, f.has, f.line_is, f.place ∙ ap (λ z. length (rising_lines 0 z (together ws))) on)

  one_place : (x k j : ℕ) → Sits x k → Sits x j → k ≡ j
  one_place x k j a b = a ∙ sym b

  wide_says : Says c (rising_lines 0 (length c.resources) (together ws))
  wide_says = says c kept (together ws) (rising_lines 0 (length c.resources) (together ws)) Sits known all knows placed
      at_place one_place

  wide_rising : InRisingOrder c (rising_lines 0 (length c.resources) (together ws))
  wide_rising x y line later a b less =
      let here = whose c kept (together ws) (rising_lines 0 (length c.resources) (together ws)) Sits known all knows
      placed at_place one_place x line a in
      let there = whose c kept (together ws) (rising_lines 0 (length c.resources) (together ws)) Sits known all knows
      placed at_place one_place y later b in
      let at = here.at_is in
      let put = line_at (together ws) once x 0 y here.t here.has (omega (arith, at)) less in
      let within = slice_get_within (rising_lines 0 y (together ws)) (length (rising_lines 0 x (together ws))) here.t.line
      put in
      let p = here.sits in
      let q = there.sits in
      omega (arith, within, p, q)

pub wide_report_says : WideSays
wide_report_says c report before after kept r =
    let w = r.lines.run in
    subst (λ l. Says c l × InRisingOrder c l) (sym w.rising) (
      wide_says c kept r.lines.order r.lines.ordered.in_order w.waves w.whose before after w.each,
      wide_rising c kept r.lines.order r.lines.ordered.in_order w.waves w.whose before after w.each,
    )
