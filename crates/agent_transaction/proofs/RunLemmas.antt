-- Turns one after another, and the marks that they leave.
use Rattle.std.proofs.Common.{◌≡◌, ℕ, ◌<◌, Bool, true, false, List, [], ◌∷◌, ◌++◌, map, Contains, inl, inr, refl, sym, subst, ap, ◌∙◌, arith, append-nil, append_assoc}
use Rattle.std.proofs.lemmas.List.{map-append}
use Rattle.std.proofs.lemmas.List.Elements.{Contains-push, Contains-push_cases, Contains-append_left, All-tail}
use Rattle.agent_machine.specs.Machines.{Told}
use Rattle.agent_machine.specs.declared.report_line.ReportLine.{ReportLine}
use Rattle.agent_marks.specs.Spreads.{Marking, IsMarked, IsNew}
use Rattle.agent_transaction.specs.Marking.{SpreadsIf, IsLineBy, AreMarks, Going, AreBelow}
use Rattle.agent_transaction.specs.Runs.{Turned, Reaches, has_failed, signals, IsTurned, AreTurned, IsRunOf, IsBrokenRun}
use Rattle.agent_transaction.specs.Turns.{IsBroken}
use Rattle.agent_transaction.specs.declared.planned.Planned.{Planned}
use Rattle.agent_transaction.specs.declared.task.Task.{Task}

none_there : {X : Type 0} (x : X) → Contains [] x → ⊥
none_there x c = let h = c.1 in omega (arith, h)

-- ---- marks

module _ (P : ReportLine → Bool) (R : ℕ → ℕ → Type 0) where
  pub marks_new : (count : ℕ) (m : Marking) → IsNew count R m → AreMarks P R [] m
  marks_new count m new = record {
    leads = new.leads;
    marked = λ x. (λ k. absurd (new.none x k), λ r. absurd (none_there r.0 r.1));
  }

  module _ (turned : List Turned) (m after : Marking) (t : Turned) (are : AreMarks P R turned m) where
    reaches_more : (x : ℕ) → Reaches P R turned x → Reaches P R (turned ++ t ∷ []) x
    reaches_more x r = (r.0, Contains-append_left turned (t ∷ []) r.0 r.1, r.2, r.3)

    marks_by : (b : Bool) → P t.line ≡ b → SpreadsIf b t.at m after → AreMarks P R (turned ++ t ∷ []) after
    marks_by true is spread = record {
      leads = λ x y. (λ l. (are.leads x y).0 ((spread.leads x y).0 l), λ r. (spread.leads x y).1 ((are.leads x y).1 r));
      marked = λ x. (
        λ k. elim ((spread.marked x).0 k) [
          | inl old ↦ reaches_more x ((are.marked x).0 old)
          | inr led ↦ (t, Contains-push turned t, is, (are.leads t.at x).0 led)
        ],
        λ r. (spread.marked x).1 (elim (Contains-push_cases turned t r.0 r.1) [
          | inl old ↦ inl ((are.marked x).1 (r.0, old, r.2, r.3))
          | inr e ↦ inr ((are.leads t.at x).1 (subst (λ (u : Turned). R u.at x) (sym e) r.3))
        ]),
      );
    }
    marks_by false is same = subst (AreMarks P R (turned ++ t ∷ [])) (sym same) (record {
      leads = are.leads;
      marked = λ x. (
        λ k. reaches_more x ((are.marked x).0 k),
        λ r. elim (Contains-push_cases turned t r.0 r.1) [
          | inl old ↦ (are.marked x).1 (r.0, old, r.2, r.3)
          | inr e ↦ absurd (apart (sym is ∙ subst (λ (u : Turned). P u.line ≡ true) (sym e) r.2))
        ],
      );
    }) where
      apart : false ≡ true → ⊥
      apart p = absurd (cc p)

    pub marks_more : SpreadsIf (P t.line) t.at m after → AreMarks P R (turned ++ t ∷ []) after
    marks_more spread = marks_by (P t.line) refl spread

-- ---- what is left

pub below_first : (count : ℕ) (left rest : List Planned) (p : Planned) → left ≡ p ∷ rest → AreBelow count left → p.at < count
below_first count left rest p is all = subst (AreBelow count) is all 0 p (omega arith)

pub below_rest : (count : ℕ) (left rest : List Planned) (p : Planned) → left ≡ p ∷ rest → AreBelow count left → AreBelow count rest
below_rest count left rest p is all = All-tail (λ (q : Planned). q.at < count) p rest (subst (AreBelow count) is all)

pub spread_size : (b : Bool) (at : ℕ) (m after : Marking) → SpreadsIf b at m after → after.count ≡ m.count
spread_size true at m after h = h.size
spread_size false at m after h = ap (λ (n : Marking). n.count) h

-- ---- turns

module _ (Comes Signals : ℕ → ℕ → Type 0) where
  pub turned_more : (earlier ts : List Turned) (t : Turned) (m n : Told) → AreTurned Comes Signals earlier ts m n →
      t.before ≡ n → IsTurned Comes Signals (earlier ++ ts) t → AreTurned Comes Signals earlier (ts ++ t ∷ []) m t.after
  turned_more earlier [] t m n h e it =
      (e ∙ h, subst (λ l. IsTurned Comes Signals l t) (append-nil earlier) it, refl)
  turned_more earlier (u ∷ us) t m n h e it = (
    h.0,
    h.1,
    turned_more (earlier ++ u ∷ []) us t u.after n h.2 e
        (subst (λ l. IsTurned Comes Signals l t) (sym (append_assoc earlier (u ∷ []) us)) it),
  )

  module _ (tasks : List (ℕ × Task)) (start : Told) where
    pub going_start : (count : ℕ) (blocked signalled : Marking) → IsNew count Comes blocked → IsNew count Signals signalled →
        Going Comes Signals tasks tasks [] blocked signalled start start
    going_start count blocked signalled new new_too = record {
      turned = [];
      whose = refl;
      told = refl;
      each = refl;
      blocks = marks_new has_failed Comes count blocked new;
      sources = marks_new signals Signals count signalled new_too;
    }

    module _ (left rest : List (ℕ × Task)) (lines : List ReportLine) (blocked signalled : Marking) (now : Told) (at : ℕ) (task : Task)
        (is : left ≡ (at, task) ∷ rest) (g : Going Comes Signals tasks left lines blocked signalled start now) where
      turned_by : (line : ReportLine) (next : Told) → IsLineBy blocked signalled at task line now next →
          IsTurned Comes Signals g.turned (record { at = at; task = task; before = now; line = line; after = next })
      turned_by line next h = elim h [
        | inl skipped ↦ inl ((g.blocks.marked at).0 skipped.0, skipped.1, skipped.2)
        | inr had ↦ inr (
          λ r. had.0 ((g.blocks.marked at).1 r),
          (had.1.0, (λ e. (g.sources.marked at).0 (had.1.1.0 e), λ r. had.1.1.1 ((g.sources.marked at).1 r)), had.1.2),
        )
      ]

      pub going_more : (line : ReportLine) (next : Told) (after after_too : Marking) → IsLineBy blocked signalled at task line now next →
          SpreadsIf (has_failed line) at blocked after → SpreadsIf (signals line) at signalled after_too →
          Going Comes Signals tasks rest (lines ++ line ∷ []) after after_too start next
      going_more line next after after_too h spread spread_too =
          let t : Turned = record { at = at; task = task; before = now; line = line; after = next } in
          record {
            turned = g.turned ++ t ∷ [];
            whose =
                ap (λ l. l ++ rest) (map-append (λ (u : Turned). (u.at, u.task)) g.turned (t ∷ []))
                ∙ append_assoc (map (λ (u : Turned). (u.at, u.task)) g.turned) ((at, task) ∷ []) rest
                ∙ ap (λ l. map (λ (u : Turned). (u.at, u.task)) g.turned ++ l) (sym is) ∙ g.whose;
            told = map-append (λ (u : Turned). u.line) g.turned (t ∷ []) ∙ ap (λ l. l ++ line ∷ []) g.told;
            each = turned_more [] g.turned t start now g.each refl (turned_by line next h);
            blocks = marks_more has_failed Comes g.turned blocked after t g.blocks spread;
            sources = marks_more signals Signals g.turned signalled after_too t g.sources spread_too;
          }

      pub going_broken : (next : Told) → ¬ (IsMarked blocked at) → IsBroken task now next →
          IsBrokenRun Comes Signals tasks start next
      going_broken next free broken = record {
        turned = g.turned;
        at = at;
        task = task;
        left = rest;
        middle = now;
        whose = ap (λ l. map (λ (u : Turned). (u.at, u.task)) g.turned ++ l) (sym is) ∙ g.whose;
        each = g.each;
        looked_at = λ r. free ((g.blocks.marked at).1 r);
        broken = broken;
      }

    pub going_end : (left : List (ℕ × Task)) (lines : List ReportLine) (blocked signalled : Marking) (now : Told) → left ≡ [] →
        Going Comes Signals tasks left lines blocked signalled start now → IsRunOf Comes Signals tasks lines start now
    going_end left lines blocked signalled now is g = record {
      turned = g.turned;
      whose = sym (append-nil (map (λ (u : Turned). (u.at, u.task)) g.turned)) ∙ ap (λ l. map (λ (u : Turned). (u.at, u.task)) g.turned ++ l) (sym is) ∙ g.whose;
      told = g.told;
      each = g.each;
    }
