-- From one content there is one report, and one content after it.
use Rattle.std.proofs.Common.{◌≡◌, ℕ, zero, suc, Bool, List, [], ◌∷◌, ◌++◌, map, length, Some, Contains, inl, inr, refl, sym, subst, ap, ap₂, ◌∙◌, arith}
use Rattle.std.specs.Cmp.{both_ways}
use Rattle.std.proofs.lemmas.List.{map-append}
use Rattle.rel_graph.proofs.Uniqueness.{one_order_law}
use Rattle.rel_graph.specs.CatalogPairs.{containment, relations}
use Rattle.agent_machine.specs.Contents.{Content}
use Rattle.agent_machine.specs.Machines.{Told}
use Rattle.agent_machine.specs.declared.report_line.ReportLine.{ReportLine}
use Rattle.agent_transaction.proofs.SecondRunLemmas.{pair_of, same_content, comes_in, signals_in}
use Rattle.agent_transaction.proofs.ToldLemmas.{Tells, same_told, turn_told}
use Rattle.agent_transaction.specs.Runs.{tasks_at, Turned, Reaches, has_failed, signals, IsTurned, AreTurned}
use Rattle.agent_transaction.specs.SecondRuns.{OneToldRun}
use Rattle.agent_transaction.specs.ToldTurns.{turn}
use Rattle.agent_transaction.specs.Turns.{skipped_line}
use Rattle.agent_transaction.specs.declared.task.Task.{Task}

-- what others see of a turn
abbrev seen : Turned → ℕ × ReportLine
seen t = (t.at, t.line)

heads : {X : Type 0} (a b : X) (xs ys : List X) → a ∷ xs ≡ b ∷ ys → a ≡ b
heads a b xs ys e = cc e

tails : {X : Type 0} (a b : X) (xs ys : List X) → a ∷ xs ≡ b ∷ ys → xs ≡ ys
tails a b xs ys e = cc e

-- among turns that look the same each has one that looks as it does
twin : (ts us : List Turned) (t : Turned) → map seen ts ≡ map seen us → Contains ts t → (u : Turned) × Contains us u × (seen u ≡ seen t)
twin [] us t e c = absurd (let h = c.1 in omega (arith, h))
twin (s ∷ ts) [] t e c = absurd (cc e)
twin (s ∷ ts) (u ∷ us) t e (zero, less, is) =
    (u, (0, omega arith, refl), sym (heads (seen s) (seen u) (map seen ts) (map seen us) e) ∙ ap seen is)
twin (s ∷ ts) (u ∷ us) t e (suc k, less, is) =
    let rest = twin ts us t (tails (seen s) (seen u) (map seen ts) (map seen us) e) (k, omega (arith, less), is) in
    (rest.0, (suc rest.1.0, (let h = rest.1.1 in omega (arith, h)), rest.1.2), rest.2)

reaches_too : (P : ReportLine → Bool) (R : ℕ → ℕ → Type 0) (ts us : List Turned) (x y : ℕ) → map seen ts ≡ map seen us → x ≡ y →
    Reaches P R ts x → Reaches P R us y
reaches_too P R ts us x y e same r =
    let there = twin ts us r.0 e r.1 in
    let place : there.0.at ≡ r.0.at = ap (λ (p : ℕ × ReportLine). p.0) there.2 in
    let line : there.0.line ≡ r.0.line = ap (λ (p : ℕ × ReportLine). p.1) there.2 in
    (there.0, there.1, ap P line ∙ r.2, subst (λ z. R there.0.at z) same (subst (λ z. R z x) (sym place) r.3))

module _ (Comes Signals : ℕ → ℕ → Type 0) where
  one_turn : (before others : List Turned) (t u : Turned) (c : Content) → map seen before ≡ map seen others →
      pair_of t ≡ pair_of u → Tells t.before c → Tells u.before c →
      IsTurned Comes Signals before t → IsTurned Comes Signals others u →
      (t.line ≡ u.line) × ((d : Content) × Tells t.after d × Tells u.after d)
  one_turn before others t u c e same a b (inl h) (inl k) = (
    h.1 ∙ ap (λ (p : ℕ × Task). skipped_line p.1.what) same ∙ sym k.1,
    (c, same_told t.before t.after c a h.2, same_told u.before u.after c b k.2),
  )
  one_turn before others t u c e same a b (inl h) (inr k) =
      absurd (k.0 (reaches_too has_failed Comes before others t.at u.at e (ap (λ (p : ℕ × Task). p.0) same) h.0))
  one_turn before others t u c e same a b (inr h) (inl k) =
      absurd (h.0 (reaches_too has_failed Comes others before u.at t.at (sym e) (sym (ap (λ (p : ℕ × Task). p.0) same)) k.0))
  one_turn before others t u c e same a b (inr h) (inr k) =
      let place : t.at ≡ u.at = ap (λ (p : ℕ × Task). p.0) same in
      let due : h.1.0 ≡ k.1.0 = both_ways h.1.0 k.1.0
      (λ is. k.1.1.1 (reaches_too signals Signals before others t.at u.at e place (h.1.1.0 is)))
      (λ is. h.1.1.1 (reaches_too signals Signals others before u.at t.at (sym e) (sym place) (k.1.1.0 is))) in
      let one : turn t.task h.1.0 c ≡ turn u.task k.1.0 c = ap₂ (λ task b. turn task b c) (ap (λ (p : ℕ × Task). p.1) same) due in
      let told = turn_told t.task h.1.0 t.line t.before t.after c a h.1.2 in
      let told_too = turn_told u.task k.1.0 u.line u.before u.after c b k.1.2 in (
        told.0 ∙ ap (λ (p : ReportLine × Content). p.0) one ∙ sym told_too.0,
        ((turn u.task k.1.0 c).1, told.1 ∙ ap (λ (p : ReportLine × Content). Some p.1) one, told_too.1),
      )

  one_run : (before others ts us : List Turned) (m n start end : Told) (c : Content) → map seen before ≡ map seen others →
      map pair_of ts ≡ map pair_of us → Tells m c → Tells start c →
      AreTurned Comes Signals before ts m n → AreTurned Comes Signals others us start end →
      (map (λ (t : Turned). t.line) ts ≡ map (λ (t : Turned). t.line) us) × ((d : Content) × Tells n d × Tells end d)
  one_run before others [] [] m n start end c e same a b h k = (refl, (c, same_told m n c a h, same_told start end c b k))
  one_run before others [] (u ∷ us) m n start end c e same a b h k = absurd (cc same)
  one_run before others (t ∷ ts) [] m n start end c e same a b h k = absurd (cc same)
  one_run before others (t ∷ ts) (u ∷ us) m n start end c e same a b h k =
      let pairs = heads (pair_of t) (pair_of u) (map pair_of ts) (map pair_of us) same in
      let here = one_turn before others t u c e pairs (ap (λ (x : Told). x.content) h.0 ∙ a) (ap (λ (x : Told). x.content) k.0 ∙ b) h.1 k.1 in
      let more : map seen (before ++ t ∷ []) ≡ map seen (others ++ u ∷ []) =
      map-append seen before (t ∷ []) ∙ ap₂ (λ l p. l ++ p ∷ []) e (ap₂ (λ i l. (i, l)) (ap (λ (p : ℕ × Task). p.0) pairs) here.0)
      ∙ sym (map-append seen others (u ∷ [])) in
      let rest = one_run (before ++ t ∷ []) (others ++ u ∷ []) ts us t.after n u.after end here.1.0 more
      (tails (pair_of t) (pair_of u) (map pair_of ts) (map pair_of us) same) here.1.1 here.1.2 h.2 k.2 in
      (ap₂ (λ l ls. l ∷ ls) here.0 rest.0, rest.1)

pub one_told_run : OneToldRun
one_told_run c one two found left left_too r s =
    let orders : r.run.order ≡ s.run.order =
    one_order_law (containment c.resources) (relations c.edges) (length c.resources) r.run.order s.run.order
    r.run.ordered.in_order s.run.ordered.in_order in
    let ran = r.run.lines in
    let ran_too = s.run.lines in
    let tasks : map pair_of ran.turned ≡ map pair_of ran_too.turned =
    ran.whose ∙ ap (tasks_at c.resources) orders ∙ sym ran_too.whose in
    let both = one_run (comes_in c) (signals_in c) [] [] ran.turned ran_too.turned r.before r.after s.before s.after found refl tasks r.finds s.finds
    ran.each ran_too.each in
    let nodes : one.node ≡ two.node = r.run.node ∙ sym s.run.node in
    let lines : one.lines ≡ two.lines = sym ran.told ∙ both.0 ∙ ran_too.told in (
      (λ i. record { node = nodes i; lines = lines i }),
      same_content r.after.content left both.1.0 r.leaves both.1.1
          ∙ same_content s.after.content both.1.0 left_too both.1.2 s.leaves,
    )
