-- A run by waves is fair: each turn comes after those that come before it, and no sooner than those that come after it.
use Rattle.std.proofs.Common.{◌≡◌, ◌⊎◌, ℕ, zero, suc, ◌+◌, ◌<◌, true, false, if◌then◌else◌, List, [], ◌∷◌, ◌++◌, map}
use Rattle.std.proofs.Common.{length, Some, Contains, inl, inr, refl, sym, subst, ap, ap₂, ◌∙◌, arith, append-nil}
use Rattle.std.proofs.Common.{append_assoc}
use Rattle.std.specs.Prelude.{nat_eq, option_map}
use Rattle.std.specs.List.{AllByRecursion}
use Rattle.std.proofs.lemmas.Bool.{cases_lt}
use Rattle.std.proofs.lemmas.Bool.Decides.{eqb_tells}
use Rattle.std.proofs.lemmas.List.Elements.{recursion_from_All, Contains-push_cases, Contains-append_left}
use Rattle.std.proofs.lemmas.List.Elements.{Contains-append_right, Contains-append_cases}
use Rattle.agent_machine.specs.Contents.{Content}
use Rattle.agent_machine.specs.Machines.{Told}
use Rattle.agent_machine.specs.Parts.{file_of, part_content, content_back, told_back, TakesBack}
use Rattle.agent_machine.specs.States.{record_of}
use Rattle.agent_machine.specs.declared.report_line.ReportLine.{ReportLine}
use Rattle.agent_transaction.proofs.RecordLemmas.{Differ}
use Rattle.agent_transaction.proofs.SecondRunLemmas.{pair_of}
use Rattle.agent_transaction.proofs.TaskOrders.{none_in, in_front, in_rest, in_cases, pair_in, in_pairs, Once}
use Rattle.agent_transaction.proofs.ToldLemmas.{Tells, same_told, turn_told}
use Rattle.agent_transaction.specs.Runs.{Turned, IsTurned}
use Rattle.agent_transaction.specs.Tasks.{creates_of}
use Rattle.agent_transaction.specs.ToldTurns.{turn}
use Rattle.agent_transaction.specs.declared.task.Task.{Task}
use Rattle.wide_apply.specs.Waves.{IsNumbering, in_wave, waves_from}
use Rattle.wide_apply.specs.WideRuns.{turn_of, is_skipped, BackIf, GivesBack, GiveBack, together, turns_of}
use Rattle.wide_apply.specs.WideRuns.{IsTurnedApart, TakeWaves}
use Rattle.wide_apply.proofs.ApartLemmas.{turn_not_skipped}
use Rattle.wide_apply.proofs.BackLemmas.{part_rises, part_own, part_file, back_framed, back_own}
use Rattle.wide_apply.proofs.FairRuns.{key, Inv, Fair}
use Rattle.wide_apply.proofs.LocalTurns.{FileAlike, framed_same}
use Rattle.wide_apply.proofs.SerialRuns.{inv_more}

module _ (wave : ℕ → ℕ) (w : ℕ) where
  pub in_wave_has : (ps : List (ℕ × Task)) (p : ℕ × Task) → Contains (in_wave wave w ps) p →
      Contains ps p × (wave p.0 ≡ w)
  in_wave_has [] p c = absurd (none_in p c)
  in_wave_has (q ∷ ps) p c = elim (eqb_tells (wave q.0) w) [
    | inl is ↦ elim (in_cases q p (in_wave wave w ps)
        (subst (λ b. Contains (if b then q ∷ in_wave wave w ps else in_wave wave w ps) p) is.0 c)) [
          | inl e ↦ (subst (λ r. Contains (q ∷ ps) r) e (in_front q ps), subst (λ (r : ℕ × Task). wave r.0 ≡ w) e is.1)
          | inr rest ↦ (let k = in_wave_has ps p rest in (in_rest q p ps k.0, k.1))
        ]
    | inr other ↦ (let k = in_wave_has ps p
        (subst (λ b. Contains (if b then q ∷ in_wave wave w ps else in_wave wave w ps) p) other.0 c) in
        (in_rest q p ps k.0, k.1))
  ]

  pub has_in_wave : (ps : List (ℕ × Task)) (p : ℕ × Task) → Contains ps p → wave p.0 ≡ w →
      Contains (in_wave wave w ps) p
  has_in_wave [] p c e = absurd (none_in p c)
  has_in_wave (q ∷ ps) p c e = elim (eqb_tells (wave q.0) w) [
    | inl is ↦ subst (λ b. Contains (if b then q ∷ in_wave wave w ps else in_wave wave w ps) p) (sym is.0)
        (elim (in_cases q p ps c) [
          | inl same ↦ subst (λ r. Contains (q ∷ in_wave wave w ps) r) same (in_front q (in_wave wave w ps))
          | inr rest ↦ in_rest q p (in_wave wave w ps) (has_in_wave ps p rest e)
        ])
    | inr other ↦ subst (λ b. Contains (if b then q ∷ in_wave wave w ps else in_wave wave w ps) p) (sym other.0)
        (elim (in_cases q p ps c) [
          | inl same ↦ absurd (other.1 (subst (λ (r : ℕ × Task). wave r.0 ≡ w) (sym same) e))
          | inr rest ↦ has_in_wave ps p rest e
        ])
  ]

  pub once_in_wave : (ps : List (ℕ × Task)) → Once ps → Once (in_wave wave w ps)
  once_in_wave [] h = tt
  once_in_wave (p ∷ ps) h =
      elim (nat_eq (wave p.0) w) as (λ b. Once (if b then p ∷ in_wave wave w ps else in_wave wave w ps)) [
        | true ↦ (λ q c. h.0 q (in_wave_has ps q c).0, once_in_wave ps h.1)
        | false ↦ once_in_wave ps h.1
      ]

pub in_all : {X : Type 0} (P : X → Type 0) (xs : List X) (x : X) → AllByRecursion P xs → Contains xs x → P x
in_all P [] x h c = absurd (none_in x c)
in_all P (y ∷ xs) x h c = elim (in_cases y x xs c) [
  | inl e ↦ subst P e h.0
  | inr r ↦ in_all P xs x h.1 r
]

module _ (Comes Signals : ℕ → ℕ → Type 0) (N : List (ℕ × Task)) (found : Content)
    (apart : (x y : ℕ) (t u : Task) → Contains N (x, t) → Contains N (y, u) →
    ((x ≡ y) × (t ≡ u)) ⊎ Differ (key t) (key u))
    (asked : (x : ℕ) (t : Task) → Contains N (x, t) → (c d : Content) →
    ((path : List ℕ) → creates_of t.work ≡ Some path →
    record_of (file_of path) c.document.state ≡ record_of (file_of path) d.document.state) →
    FileAlike t.work c d)
    (once : Once N) (wave : ℕ → ℕ) (numbering : IsNumbering Comes N wave) where
  -- what comes before another stands in an earlier wave
  earlier_wave : (x y : ℕ) (t u : Task) → Contains N (x, t) → Contains N (y, u) → Comes x y → wave x < wave y
  earlier_wave x y t u a b c = ((numbering.stands y (wave y) (u, b)).0 refl).1 x (t, a) c

  module _ (earlier : List Turned) (m : Told) (c : Content) (told : Tells m c)
      (inv : Inv Comes Signals N found earlier c)
      (w : ℕ) (low : (v : Turned) → Contains earlier v → wave v.at < w)
      (covered : (p : ℕ × Task) → Contains N p → wave p.0 < w → (v : Turned) × Contains earlier v × (v.at ≡ p.0)
      × (v.task ≡ p.1)) where
    here : Turned → Content
    here t = part_content t.task.what (creates_of t.task.work) c

    module _ (t : Turned) (has : Contains N (t.at, t.task)) (at_wave : wave t.at ≡ w)
        (turned : IsTurnedApart Comes Signals earlier m t) where
      tells_here : Tells t.before (part_content t.task.what (creates_of t.task.work) c)
      tells_here = ap (λ (x : Told). x.content) turned.part
          ∙ ap (option_map (part_content t.task.what (creates_of t.task.work))) told

      pub new_here : (v : Turned) → Contains earlier v → ¬ (v.at ≡ t.at)
      new_here v a same = let h = low v a in let e = ap wave same in absurd (omega (arith, h, e, at_wave))

      pub fair_here : Fair Comes Signals N found t
      fair_here = record {
        earlier = earlier;
        machine = c;
        inv = inv;
        found_here = part_content t.task.what (creates_of t.task.work) c;
        tells = tells_here;
        texts = refl;
        numbers = refl;
        rises = part_rises t.task.what (creates_of t.task.work) c.document.state;
        own = part_own t.task.what (creates_of t.task.work) c.document.state;
        file = asked t.at t.task has (part_content t.task.what (creates_of t.task.work) c) c
            (λ path is. subst (λ o. record_of (file_of path) (part_content t.task.what o c).document.state ≡ record_of
            (file_of path) c.document.state) (sym is)
            (part_file t.task.what path c.document.state));
        turned = turned.turned;
        before = λ y task k comes. covered (y, task) k (let h = earlier_wave y t.at task t.task k has comes in
            omega (arith, h, at_wave));
        after = λ v a comes.
            let h = earlier_wave t.at v.at t.task v.task has (inv.among v a) comes in
            let l = low v a in absurd (omega (arith, h, l, at_wave));
        new = new_here;
        has = has;
      }

      pub record Returned (front : List Turned) (after : Told) : Type 0 where
        pub next : Content
        pub tells : Tells after next
        pub inv_next : Inv Comes Signals N found (front ++ t ∷ []) next

      -- the part of this turn came back
      module _ (front : List Turned) (d : Content) (before after : Told) (told_now : Tells before d)
          (inv_now : Inv Comes Signals N found front d)
          (fresh : (v : Turned) → Contains front v → ¬ (v.at ≡ t.at)) where
        own_now : record_of t.task.what d.document.state ≡ record_of t.task.what found.document.state
        own_now = inv_now.others (key t.task) (λ v a. elim (apart t.at v.at t.task v.task has (inv_now.among v a)) [
          | inl same ↦ absurd (fresh v a (sym same.0))
          | inr far ↦ far
        ])

        own_then : record_of t.task.what c.document.state ≡ record_of t.task.what found.document.state
        own_then = inv.others (key t.task) (λ v a. elim (apart t.at v.at t.task v.task has (inv.among v a)) [
          | inl same ↦ absurd (new_here v a (sym same.0))
          | inr far ↦ far
        ])

        returned_by : IsTurned Comes Signals earlier t → GivesBack t before after → Returned front after
        returned_by (inl h) back =
            let stays : after ≡ before = subst (λ b. BackIf b t.task.what t.after before after)
            (ap (λ (l : ReportLine). is_skipped l.status) h.1) back in
            let left = same_told t.before t.after (part_content t.task.what (creates_of t.task.work) c)
            tells_here h.2 in
            record {
              next = d;
              tells = same_told before after d told_now stays;
              inv_next = inv_more Comes Signals N found apart front d d t inv_now (framed_same t.task.what d)
                  (record {
                    left = part_content t.task.what (creates_of t.task.work) c;
                    tells = left;
                    record_is = part_own t.task.what (creates_of t.task.work) c.document.state ∙ own_then ∙ sym own_now;
                  }) fresh has;
            }
        returned_by (inr h) back =
            let had = turn_told t.task h.1.0 t.line t.before t.after
            (part_content t.task.what (creates_of t.task.work) c) tells_here h.1.2 in
            let p = (turn t.task h.1.0 (part_content t.task.what (creates_of t.task.work) c)).1 in
            let takes : TakesBack t.task.what t.after before after =
            subst (λ b. BackIf b t.task.what t.after before after)
            (turn_not_skipped t.task h.1.0 t.line t.before t.after h.1.2) back in
            let next = content_back t.task.what p d in
            record {
              next = next;
              tells = takes.content ∙ ap₂ (λ x y. told_back t.task.what x y) had.1 told_now;
              inv_next = inv_more Comes Signals N found apart front d next t inv_now (back_framed t.task.what p d)
                  (record { left = p; tells = had.1; record_is = sym (back_own t.task.what p d inv_now.rises) }) fresh
                  has;
            }

        pub returned : GivesBack t before after → Returned front after
        returned back = returned_by turned.turned back

    pub record WaveDone (front : List Turned) (after : Told) : Type 0 where
      pub next : Content
      pub tells : Tells after next
      pub inv_next : Inv Comes Signals N found front next

    -- the parts of these came back
    pub wave_back : (ts : List Turned) (front : List Turned) (d : Content) (before after : Told) → Tells before d →
        Inv Comes Signals N found front d →
        ((t : Turned) → Contains ts t → Contains N (t.at, t.task) × (wave t.at ≡ w)) → Once (map pair_of ts) →
        ((v t : Turned) → Contains front v → Contains ts t → ¬ (v.at ≡ t.at)) →
        AllByRecursion (IsTurnedApart Comes Signals earlier m) ts →
        GiveBack ts before after → WaveDone (front ++ ts) after
    wave_back [] front d before after told_now inv_now each single fresh apart_ones back = record {
      next = d;
      tells = same_told before after d told_now back;
      inv_next = subst (λ l. Inv Comes Signals N found l d) (sym (append-nil front)) inv_now;
    }
    wave_back (t ∷ ts) front d before after told_now inv_now each single fresh apart_ones back =
        let own = each t (in_front t ts) in
        let r = returned t own.0 own.1 apart_ones.0 front d before back.0 told_now inv_now
        (λ v a. fresh v t a (in_front t ts)) back.1 in
        subst (λ l. WaveDone l after) (append_assoc front (t ∷ []) ts)
        (wave_back ts (front ++ t ∷ []) r.next back.0 after r.tells r.inv_next
        (λ u k. each u (in_rest t u ts k)) single.1
        (λ v u a k. elim (Contains-push_cases front t v a) [
          | inl old ↦ fresh v u old (in_rest t u ts k)
          | inr e ↦ λ same. single.0 (u.at, u.task) (in_pairs ts u k) (sym same ∙ ap (λ (s : Turned). s.at) (sym e))
        ]) apart_ones.1 back.2)

  pub record AllDone (top : ℕ) (ts : List Turned) (after : Told) : Type 0 where
    pub next : Content
    pub tells : Tells after next
    pub inv : Inv Comes Signals N found ts next
    pub covered : (p : ℕ × Task) → Contains N p → wave p.0 < top → (v : Turned) × Contains ts v × (v.at ≡ p.0)
        × (v.task ≡ p.1)
    pub fair : (t : Turned) → Contains ts t →
        (f : Fair Comes Signals N found t) × ((v : Turned) → Contains f.earlier v → Contains ts v)

  heads : {X : Type 0} (a b : X) (xs ys : List X) → a ∷ xs ≡ b ∷ ys → (a ≡ b) × (xs ≡ ys)
  heads a b xs ys e = (cc e, cc e)

  waves_done : (ws : List (List Turned)) (n w : ℕ) (earlier : List Turned) (m after : Told) (c : Content) → Tells m c →
      Inv Comes Signals N found earlier c →
      ((v : Turned) → Contains earlier v → wave v.at < w) →
      ((p : ℕ × Task) → Contains N p → wave p.0 < w → (v : Turned) × Contains earlier v × (v.at ≡ p.0)
      × (v.task ≡ p.1)) →
      ((t : Turned) → Contains earlier t →
      (f : Fair Comes Signals N found t) × ((v : Turned) → Contains f.earlier v → Contains earlier v)) →
      turns_of ws ≡ waves_from wave N w n → TakeWaves Comes Signals earlier ws m after →
      AllDone (w + n) (earlier ++ together ws) after
  unfolding fair_here
  waves_done [] (suc n) w earlier m after c told inv low covered fair same t = absurd (cc same)
  waves_done [] zero w earlier m after c told inv low covered fair same t = record {
    next = c;
    tells = same_told m after c told t;
    inv = subst (λ l. Inv Comes Signals N found l c) (sym (append-nil earlier)) inv;
    covered = λ p k less.
        let r = covered p k (omega (arith, less)) in
        (r.0, subst (λ l. Contains l r.0) (sym (append-nil earlier)) r.1, r.2, r.3);
    fair = λ u k. let f = fair u (subst (λ l. Contains l u) (append-nil earlier) k) in
        (f.0, λ v a. subst (λ l. Contains l v) (sym (append-nil earlier)) (f.1 v a));
  }
  waves_done (ts ∷ ws) zero w earlier m after c told inv low covered fair same t = absurd (cc same)
  waves_done (ts ∷ ws) (suc n) w earlier m after c told inv low covered fair same t =
      let both = heads (map turn_of ts) (in_wave wave w N) (turns_of ws) (waves_from wave N (suc w) n) same in
      let apart_ones = recursion_from_All (IsTurnedApart Comes Signals earlier m) ts t.0 in
      let each : (u : Turned) → Contains ts u → Contains N (u.at, u.task) × (wave u.at ≡ w) =
      λ u k. in_wave_has wave w N (u.at, u.task) (subst (λ l. Contains l (u.at, u.task)) both.0 (in_pairs ts u k)) in
      let done = wave_back earlier m c told inv w low covered ts earlier c m t.1.0 told inv each
      (subst Once (sym both.0) (once_in_wave wave w N once))
      (λ v u a k same_at. let h = low v a in let e = ap wave same_at in let at = (each u k).1 in
      absurd (omega (arith, h, e, at))) apart_ones t.1.1 in
      subst (λ k. AllDone k (earlier ++ (ts ++ together ws)) after) (omega arith)
      (subst (λ l. AllDone (suc w + n) l after) (append_assoc earlier ts (together ws))
      (waves_done ws n (suc w) (earlier ++ ts) t.1.0 after done.next done.tells done.inv_next
      (λ v a. elim (Contains-append_cases earlier ts v a) [
        | inl old ↦ (let h = low v old in omega (arith, h))
        | inr new ↦ (let e = (each v new).1 in omega (arith, e))
      ])
      (λ p k less. elim (cases_lt (wave p.0) w) [
        | inl old ↦ (let r = covered p k old in (r.0, Contains-append_left earlier ts r.0 r.1, r.2, r.3))
        | inr now ↦
            let r = pair_in ts p (subst (λ l. Contains l p) (sym both.0)
            (has_in_wave wave w N p k (omega (arith, less, now)))) in
            (r.0, Contains-append_right earlier ts r.0 r.1, r.2, r.3)
      ])
      (λ u k. elim (Contains-append_cases earlier ts u k) [
        | inl old ↦ (let f = fair u old in (f.0, λ v a. Contains-append_left earlier ts v (f.1 v a)))
        | inr new ↦
            let own = each u new in (
              fair_here earlier m c told inv w low covered u own.0 own.1
                  (in_all (IsTurnedApart Comes Signals earlier m) ts u apart_ones new),
              λ v a. Contains-append_left earlier ts v a,
            )
      ]) both.1 t.1.2))

  pub wide_fair : (ws : List (List Turned)) (m after : Told) → Tells m found → Inv Comes Signals N found [] found →
      turns_of ws ≡ waves_from wave N 0 (length (turns_of ws)) → TakeWaves Comes Signals [] ws m after →
      AllDone (length (turns_of ws)) (together ws) after
  wide_fair ws m after told inv same t =
      subst (λ k. AllDone k (together ws) after) (omega arith) (waves_done ws (length (turns_of ws)) 0 [] m after found
      told inv (λ v a. absurd (none_in v a)) (λ p k less. absurd (omega (arith, less)))
      (λ u k. absurd (none_in u k)) same t)
