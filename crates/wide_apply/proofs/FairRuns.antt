-- Turns that know of others what those that come before them came to: whatever else came between, they are the same.
use Rattle.std.proofs.Common.{◌≡◌, ◌⊎◌, ℕ, zero, suc, Bool, true, false, List, [], ◌∷◌, Option, Contains, inl, inr}
use Rattle.std.proofs.Common.{refl, sym, subst, ap, ap₂, ◌∙◌, arith}
use Rattle.std.specs.Cmp.{both_ways}
use Rattle.std.specs.FinMap.{find}
use Rattle.std.specs.Ordering.{eq_by_cmp}
use Rattle.pp_values.specs.Rising.{text_cmp}
use Rattle.pp_values.specs.Settings.{Setting}
use Rattle.pp_values.specs.Words.{reference_text}
use Rattle.agent_machine.specs.Contents.{Content}
use Rattle.agent_machine.specs.States.{record_of}
use Rattle.agent_machine.specs.declared.report_line.ReportLine.{ReportLine}
use Rattle.agent_transaction.proofs.RecordLemmas.{Differ, Rises, one_key}
use Rattle.agent_transaction.proofs.SecondRunLemmas.{same_content}
use Rattle.agent_transaction.proofs.ToldLemmas.{Tells, same_told, turn_told}
use Rattle.agent_transaction.specs.Runs.{Turned, Reaches, has_failed, signals, IsTurned}
use Rattle.agent_transaction.specs.ToldTurns.{turn}
use Rattle.agent_transaction.specs.Turns.{skipped_line}
use Rattle.agent_transaction.specs.declared.task.Task.{Task}
use Rattle.agent_transaction.specs.declared.work.Work.{Work}
use Rattle.agent_transaction.specs.declared.work.Work.TheVariants as work
use Rattle.wide_apply.proofs.LocalTurns.{Alike, FileAlike, turn_alike}

abbrev pub key : Task → List ℕ
key task = reference_text task.what

-- the work asks for the file of that text
abbrev pub Asks : Work → List ℕ → Type 0
Asks (work.RunUnless file s) text = text ≡ reference_text file
Asks other text = ⊥

-- after the turn the resource has this record
pub record Leaves (t : Turned) (r : Option (List Setting)) : Type 0 where
  pub left : Content
  pub tells : Tells t.after left
  pub record_is : record_of t.task.what left.document.state ≡ r

pub one_left : (t : Turned) (r s : Option (List Setting)) → Leaves t r → Leaves t s → r ≡ s
one_left t r s a b =
    sym a.record_is ∙ ap (λ (c : Content). record_of t.task.what c.document.state)
    (same_content t.after.content a.left b.left a.tells b.tells)
    ∙ b.record_is

-- two turns came to the same
pub record Same (t u : Turned) : Type 0 where
  pub line : t.line ≡ u.line
  pub own : Option (List Setting)
  pub leaves : Leaves t own
  pub leaves_too : Leaves u own

pub search_key : (q : List ℕ) (ps : List (ℕ × Task)) →
    ((p : ℕ × Task) × Contains ps p × (q ≡ key p.1)) ⊎ ((p : ℕ × Task) → Contains ps p → Differ q (key p.1))
search_key q [] = inr (λ p c. let h = c.1 in absurd (omega (arith, h)))
search_key q (p ∷ ps) =
    elim (eq_by_cmp text_cmp q (key p.1)) as (λ b. eq_by_cmp text_cmp q (key p.1) ≡ b →
    ((r : ℕ × Task) × Contains (p ∷ ps) r × (q ≡ key r.1))
    ⊎ ((r : ℕ × Task) → Contains (p ∷ ps) r → Differ q (key r.1))) [
      | true ↦ λ is. inl (p, (0, omega arith, refl), one_key q (key p.1) is)
      | false ↦ λ is. elim (search_key q ps) [
        | inl r ↦ inl (r.0, (suc r.1.0, (let h = r.1.1 in omega (arith, h)), r.1.2), r.2)
        | inr none ↦ inr (λ r c. by_place is none r c)
      ]
    ] refl where
      by_place : Differ q (key p.1) → ((r : ℕ × Task) → Contains ps r → Differ q (key r.1)) →
          (r : ℕ × Task) → Contains (p ∷ ps) r → Differ q (key r.1)
      by_place is none r (zero, h, e) = subst (λ (x : ℕ × Task). Differ q (key x.1)) e is
      by_place is none r (suc k, h, e) = none r (k, omega (arith, h), e)

module _ (Comes Signals : ℕ → ℕ → Type 0) (N : List (ℕ × Task)) (found : Content) where
  -- what is known of a machine after these turns
  pub record Inv (earlier : List Turned) (m : Content) : Type 0 where
    pub texts : m.document.failing ≡ found.document.failing
    pub numbers : m.failing ≡ found.failing
    pub rises : Rises m.document.state
    pub done : (u : Turned) → Contains earlier u → Leaves u (record_of u.task.what m.document.state)
    pub others : (q : List ℕ) → ((u : Turned) → Contains earlier u → Differ q (key u.task)) →
        find text_cmp q m.document.state ≡ find text_cmp q found.document.state
    pub among : (u : Turned) → Contains earlier u → Contains N (u.at, u.task)

  -- what the turn found, after all that come before it
  pub record Fair (t : Turned) : Type 0 where
    pub earlier : List Turned
    pub machine : Content
    pub inv : Inv earlier machine
    pub found_here : Content
    pub tells : Tells t.before found_here
    pub texts : found_here.document.failing ≡ machine.document.failing
    pub numbers : found_here.failing ≡ machine.failing
    pub rises : Rises found_here.document.state
    pub own : record_of t.task.what found_here.document.state ≡ record_of t.task.what machine.document.state
    pub file : FileAlike t.task.work found_here machine
    pub turned : IsTurned Comes Signals earlier t
    pub before : (y : ℕ) (task : Task) → Contains N (y, task) → Comes y t.at →
        (v : Turned) × Contains earlier v × (v.at ≡ y) × (v.task ≡ task)
    pub after : (v : Turned) → Contains earlier v → ¬ (Comes t.at v.at)
    pub new : (v : Turned) → Contains earlier v → ¬ (v.at ≡ t.at)
    pub has : Contains N (t.at, t.task)

  module _ (within : (x y : ℕ) → Signals x y → Comes x y)
      (apart : (x y : ℕ) (t u : Task) → Contains N (x, t) → Contains N (y, u) →
      ((x ≡ y) × (t ≡ u)) ⊎ Differ (key t) (key u))
      (ordered : (x y : ℕ) (t u : Task) → Contains N (x, t) → Contains N (y, u) → Asks t.work (key u) →
      Comes y x ⊎ Comes x y)
      (no_numbers : found.failing ≡ []) where
    module _ (t : Turned) (f : Fair t) where
      -- the turn finds the record of its resource as the run found it
      own_found : record_of t.task.what f.found_here.document.state ≡ record_of t.task.what found.document.state
      own_found = f.own ∙ f.inv.others (key t.task)
          (λ v c. elim (apart t.at v.at t.task v.task f.has (f.inv.among v c)) [
            | inl same ↦ absurd (f.new v c (sym same.0))
            | inr far ↦ far
          ])

    reach : (Q : ReportLine → Bool) (R : ℕ → ℕ → Type 0) → ((x y : ℕ) → R x y → Comes x y) →
        (t u : Turned) → t.at ≡ u.at → (f : Fair t) (g : Fair u) →
        ((v w : Turned) → Contains f.earlier v → Contains g.earlier w → v.at ≡ w.at → v.task ≡ w.task →
        v.line ≡ w.line) →
        Reaches Q R f.earlier t.at → Reaches Q R g.earlier u.at
    reach Q R in_comes t u same f g ih r =
        let v = r.0 in
        let leads : R v.at u.at = subst (λ x. R v.at x) same r.3 in
        let b = g.before v.at v.task (f.inv.among v r.1) (in_comes v.at u.at leads) in
        let w = b.0 in
        (w, b.1, ap Q (sym (ih v w r.1 b.1 (sym b.2) (sym b.3))) ∙ r.2, subst (λ x. R x u.at) (sym b.2) leads)

    module _ (t u : Turned) (place : t.at ≡ u.at) (task : t.task ≡ u.task) (f : Fair t) (g : Fair u)
        (ih : (v w : Turned) → Contains f.earlier v → Contains g.earlier w → v.at ≡ w.at → v.task ≡ w.task →
        Same v w) where
      lines : (v w : Turned) → Contains f.earlier v → Contains g.earlier w → v.at ≡ w.at → v.task ≡ w.task →
          v.line ≡ w.line
      lines v w a b e k = (ih v w a b e k).line

      lines_back : (w v : Turned) → Contains g.earlier w → Contains f.earlier v → w.at ≡ v.at → w.task ≡ v.task →
          w.line ≡ v.line
      lines_back w v b a e k = sym (ih v w a b (sym e) (sym k)).line

      own_same : record_of t.task.what f.found_here.document.state ≡ record_of t.task.what g.found_here.document.state
      own_same =
          own_found t f ∙ sym (subst (λ (k : Task). record_of k.what g.found_here.document.state ≡ record_of k.what
          found.document.state) (sym task) (own_found u g))

      -- of a resource that the turn doesn't come after
      untouched : (s : Turned) (h : Fair s) (q : List ℕ) →
          ((v : Turned) → Contains h.earlier v → Differ q (key v.task)) →
          find text_cmp q h.machine.document.state ≡ find text_cmp q found.document.state
      untouched s h q far = h.inv.others q far

      file_found : (s : Turned) (h : Fair s) (q : List ℕ) (y : ℕ) (k : Task) → Contains N (y, k) → q ≡ key k →
          Comes s.at y →
          find text_cmp q h.machine.document.state ≡ find text_cmp q found.document.state
      file_found s h q y k has is c = untouched s h q (λ v a. elim (apart y v.at k v.task has (h.inv.among v a)) [
        | inl same ↦ absurd (h.after v a (subst (λ x. Comes s.at x) same.0 c))
        | inr far ↦ subst (λ x. Differ x (key v.task)) (sym is) far
      ])

      file_none : (s : Turned) (h : Fair s) (q : List ℕ) → ((p : ℕ × Task) → Contains N p → Differ q (key p.1)) →
          find text_cmp q h.machine.document.state ≡ find text_cmp q found.document.state
      file_none s h q none = untouched s h q (λ v a. none (v.at, v.task) (h.inv.among v a))

      file_before : (q : List ℕ) (y : ℕ) (k : Task) → Contains N (y, k) → q ≡ key k → Comes y t.at →
          find text_cmp q f.machine.document.state ≡ find text_cmp q g.machine.document.state
      file_before q y k has is c =
          let b = f.before y k has c in
          let d = g.before y k has (subst (λ x. Comes y x) place c) in
          let v = b.0 in
          let w = d.0 in
          let same = ih v w b.1 d.1 (b.2 ∙ sym d.2) (b.3 ∙ sym d.3) in
          let one : record_of v.task.what f.machine.document.state ≡ same.own =
          one_left v (record_of v.task.what f.machine.document.state) same.own (f.inv.done v b.1) same.leaves in
          let two : record_of w.task.what g.machine.document.state ≡ same.own =
          one_left w (record_of w.task.what g.machine.document.state) same.own (g.inv.done w d.1) same.leaves_too in
          let there : key k ≡ key v.task = ap key (sym b.3) in
          let there_too : key k ≡ key w.task = ap key (sym d.3) in
          ap (λ x. find text_cmp x f.machine.document.state) (is ∙ there) ∙ one ∙ sym two
          ∙ ap (λ x. find text_cmp x g.machine.document.state) (sym (is ∙ there_too))

      machines_same : (q : List ℕ) → Asks t.task.work q →
          find text_cmp q f.machine.document.state ≡ find text_cmp q g.machine.document.state
      machines_same q asks = elim (search_key q N) [
        | inl r ↦ elim (ordered t.at r.0.0 t.task r.0.1 f.has r.1 (subst (Asks t.task.work) r.2 asks)) [
          | inl c ↦ file_before q r.0.0 r.0.1 r.1 r.2 c
          | inr c ↦ file_found t f q r.0.0 r.0.1 r.1 r.2 c
              ∙ sym (file_found u g q r.0.0 r.0.1 r.1 r.2 (subst (λ x. Comes x r.0.0) place c))
        ]
        | inr none ↦ file_none t f q none ∙ sym (file_none u g q none)
      ]

      file_same : (w : Work) → FileAlike w f.found_here f.machine → FileAlike w g.found_here g.machine →
          ((q : List ℕ) → Asks w q →
          find text_cmp q f.machine.document.state ≡ find text_cmp q g.machine.document.state) →
          FileAlike w f.found_here g.found_here
      file_same (work.Set ss) a b m = tt
      file_same work.Run a b m = tt
      file_same (work.RunUnless file s) a b m = a ∙ m (reference_text file) refl ∙ sym b
      file_same work.Idle a b m = tt

      alike : Alike t.task.what f.found_here g.found_here
      alike = record {
        texts = (f.texts ∙ f.inv.texts) ∙ sym (g.texts ∙ g.inv.texts);
        none = f.numbers ∙ f.inv.numbers ∙ no_numbers;
        none_too = g.numbers ∙ g.inv.numbers ∙ no_numbers;
        own = own_same;
        rises = f.rises;
        rises_too = g.rises;
      }

      files : FileAlike t.task.work f.found_here g.found_here
      files = file_same t.task.work f.file
          (subst (λ (k : Task). FileAlike k.work g.found_here g.machine) (sym task) g.file) machines_same

      by_turns : IsTurned Comes Signals f.earlier t → IsTurned Comes Signals g.earlier u → Same t u
      by_turns (inl h) (inl k) = record {
        line = h.1 ∙ ap (λ (x : Task). skipped_line x.what) task ∙ sym k.1;
        own = record_of t.task.what f.found_here.document.state;
        leaves = record {
          left = f.found_here;
          tells = same_told t.before t.after f.found_here f.tells h.2;
          record_is = refl;
        };
        leaves_too = record {
          left = g.found_here;
          tells = same_told u.before u.after g.found_here g.tells k.2;
          record_is = subst (λ (x : Task). record_of x.what g.found_here.document.state ≡ record_of t.task.what
              f.found_here.document.state) task (sym own_same);
        };
      }
      by_turns (inl h) (inr k) = absurd (k.0 (reach has_failed Comes (λ x y c. c) t u place f g lines h.0))
      by_turns (inr h) (inl k) = absurd (h.0 (reach has_failed Comes (λ x y c. c) u t (sym place) g f lines_back k.0))
      by_turns (inr h) (inr k) =
          let due : h.1.0 ≡ k.1.0 = both_ways h.1.0 k.1.0
          (λ is. k.1.1.1 (reach signals Signals within t u place f g lines (h.1.1.0 is)))
          (λ is. h.1.1.1 (reach signals Signals within u t (sym place) g f lines_back (k.1.1.0 is))) in
          let told = turn_told t.task h.1.0 t.line t.before t.after f.found_here f.tells h.1.2 in
          let told_too = turn_told u.task k.1.0 u.line u.before u.after g.found_here g.tells k.1.2 in
          let both = turn_alike t.task h.1.0 f.found_here g.found_here alike files in
          let one : turn t.task h.1.0 g.found_here ≡ turn u.task k.1.0 g.found_here =
          ap₂ (λ x b. turn x b g.found_here) task due in
          record {
            line = told.0 ∙ both.0 ∙ ap (λ (p : ReportLine × Content). p.0) one ∙ sym told_too.0;
            own = record_of t.task.what (turn t.task h.1.0 f.found_here).1.document.state;
            leaves = record { left = (turn t.task h.1.0 f.found_here).1; tells = told.1; record_is = refl };
            leaves_too = record {
              left = (turn u.task k.1.0 g.found_here).1;
              tells = told_too.1;
              record_is =
                  ap₂ (λ (x : Task) (p : ReportLine × Content). record_of x.what p.1.document.state)
                  (sym task) (sym one)
                  ∙ sym both.1.own;
            };
          }

      pub fair_same : Same t u
      fair_same = by_turns f.turned g.turned
