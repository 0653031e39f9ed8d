-- Where a catalog has no cycle, there is a run of it by waves from any content.
use Rattle.std.proofs.Common.{◌≡◌, ◌⊎◌, ℕ, ◌+◌, Bool, true, false, List, [], ◌∷◌, ◌++◌, map, length, Some, inl, inr, refl}
use Rattle.std.proofs.Common.{sym, subst, ap, ap₂, arith}
use Rattle.std.specs.List.{AllByRecursion}
use Rattle.std.proofs.lemmas.List.Elements.{All-from_recursion}
use Rattle.pp_values.specs.declared.reference.Reference.{Reference}
use Rattle.rel_graph.specs.Before.{Direct}
use Rattle.rel_graph.specs.CatalogPairs.{containment, relations}
use Rattle.rel_graph.proofs.OrderLemmas.{some_order, direct_decided, before_decided}
use Rattle.agent_machine.specs.Contents.{Content}
use Rattle.agent_machine.specs.Machines.{Told}
use Rattle.agent_machine.specs.Parts.{part_content, content_back, told_back}
use Rattle.agent_transaction.proofs.CatalogLemmas.{containment_below, relations_below, signalling_below}
use Rattle.agent_transaction.proofs.MadeTurns.{told, turn_made}
use Rattle.agent_transaction.proofs.SecondRunLemmas.{comes_in, signals_in}
use Rattle.agent_transaction.proofs.SomeRunLemmas.{reach_decided, flag_of}
use Rattle.agent_transaction.specs.Runs.{Turned, has_failed, signals, signalling, tasks_at}
use Rattle.agent_transaction.specs.Tasks.{creates_of}
use Rattle.agent_transaction.specs.ToldTurns.{turn}
use Rattle.agent_transaction.specs.Turns.{skipped_line}
use Rattle.agent_transaction.specs.declared.task.Task.{Task}
use Rattle.wide_apply.proofs.WaveNumbers.{numbers, numbering, waves_made}
use Rattle.wide_apply.specs.Waves.{AreWaves}
use Rattle.wide_apply.specs.WideLaws.{SomeToldWide}
use Rattle.wide_apply.specs.WideRuns.{turn_of, is_skipped, BackIf, GiveBack, together, turns_of, rising_lines}
use Rattle.wide_apply.specs.WideRuns.{IsTurnedApart, TakeWaves}

-- the machine tells some content at the end of the turn
abbrev Ends : Turned → Type 0
Ends t = (d : Content) × (g : ℕ) × (t.after ≡ told d g)

-- ---- parts come back

back_if : (skipped : Bool) (what : Reference) (part : Told) (d : Content) (g : ℕ) → part ≡ told d g → (c : Content)
    (f : ℕ) → (e : Content) × (h : ℕ) × BackIf skipped what part (told c f) (told e h)
back_if true what part d g is c f = (c, f, refl)
back_if false what part d g is c f = (
  content_back what d c,
  f + g,
  record {
    content = sym (ap (λ (p : Told). told_back what p.content (Some c)) is);
    own_faults = omega arith;
    part_faults = (let e = ap (λ (p : Told). p.faults) is in omega (arith, e));
  },
)

give_back : (ts : List Turned) → AllByRecursion Ends ts → (c : Content) (f : ℕ) →
    (e : Content) × (h : ℕ) × GiveBack ts (told c f) (told e h)
give_back [] ends c f = (c, f, refl)
give_back (t ∷ ts) ends c f =
    let one = back_if (is_skipped t.line.status) t.task.what t.after ends.0.0 ends.0.1 ends.0.2 c f in
    let rest = give_back ts ends.1 one.0 one.1 in
    (rest.0, rest.1, (told one.0 one.1, one.2, rest.2))

-- ---- waves

module _ (Comes Signals : ℕ → ℕ → Type 0) (comes_decided : (a b : ℕ) → Comes a b ⊎ ¬ (Comes a b))
    (signals_decided : (a b : ℕ) → Signals a b ⊎ ¬ (Signals a b)) where
  -- a turn of this task on its part of a machine with this content
  record MadeApart (earlier : List Turned) (c : Content) (f : ℕ) (p : ℕ × Task) : Type 0 where
    pub t : Turned
    pub whose : turn_of t ≡ p
    pub apart : IsTurnedApart Comes Signals earlier (told c f) t
    pub ends : Ends t

  apart_made : (earlier : List Turned) (c : Content) (f : ℕ) (p : ℕ × Task) → MadeApart earlier c f p
  apart_made earlier c f p =
      let part = part_content p.1.what (creates_of p.1.work) c in
      elim (reach_decided has_failed Comes comes_decided p.0 earlier) [
        | inl blocked ↦ record {
          t = record {
            at = p.0;
            task = p.1;
            before = told part f;
            line = skipped_line p.1.what;
            after = told part f;
          };
          whose = refl;
          apart = record { part = refl; turned = inl (blocked, refl, refl) };
          ends = (part, f, refl);
        }
        | inr free ↦
            let due = flag_of signals Signals signals_decided p.0 earlier in
            let made = turn_made p.1 due.0 part f in
            record {
              t = record {
                at = p.0;
                task = p.1;
                before = told part f;
                line = (turn p.1 due.0 part).0;
                after = told (turn p.1 due.0 part).1 made.0;
              };
              whose = refl;
              apart = record { part = refl; turned = inr (free, (due.0, due.1, made.1)) };
              ends = ((turn p.1 due.0 part).1, made.0, refl);
            }
      ]

  record MadeWave (earlier : List Turned) (c : Content) (f : ℕ) (ps : List (ℕ × Task)) : Type 0 where
    pub ts : List Turned
    pub whose : map turn_of ts ≡ ps
    pub apart : AllByRecursion (IsTurnedApart Comes Signals earlier (told c f)) ts
    pub ends : AllByRecursion Ends ts

  wave_made : (earlier : List Turned) (c : Content) (f : ℕ) (ps : List (ℕ × Task)) → MadeWave earlier c f ps
  wave_made earlier c f [] = record { ts = []; whose = refl; apart = tt; ends = tt }
  wave_made earlier c f (p ∷ ps) =
      let one = apart_made earlier c f p in
      let rest = wave_made earlier c f ps in
      record {
        ts = one.t ∷ rest.ts;
        whose = ap₂ (λ x xs. x ∷ xs) one.whose rest.whose;
        apart = (one.apart, rest.apart);
        ends = (one.ends, rest.ends);
      }

  -- the turns of these waves, from this content
  pub record MadeWaves (earlier : List Turned) (c : Content) (f : ℕ) (ws : List (List (ℕ × Task))) : Type 0 where
    pub waves : List (List Turned)
    pub whose : turns_of waves ≡ ws
    pub left : Content
    pub faults : ℕ
    pub each : TakeWaves Comes Signals earlier waves (told c f) (told left faults)

  pub run_made : (ws : List (List (ℕ × Task))) (earlier : List Turned) (c : Content) (f : ℕ) → MadeWaves earlier c f ws
  run_made [] earlier c f = record { waves = []; whose = refl; left = c; faults = f; each = refl }
  run_made (w ∷ ws) earlier c f =
      let one = wave_made earlier c f w in
      let back = give_back one.ts one.ends c f in
      let rest = run_made ws (earlier ++ one.ts) back.0 back.1 in
      record {
        waves = one.ts ∷ rest.waves;
        whose = ap₂ (λ x xs. x ∷ xs) one.whose rest.whose;
        left = rest.left;
        faults = rest.faults;
        each = (
          All-from_recursion (IsTurnedApart Comes Signals earlier (told c f)) one.ts one.apart,
          (told back.0 back.1, back.2, rest.each),
        );
      }

-- ---- a catalog

pub some_told_wide : SomeToldWide
some_told_wide c found kept free =
    let below = containment_below c.resources c.edges kept in
    let edges_below = relations_below c.resources c.edges kept in
    let signals_below = signalling_below c.resources c.edges kept in
    let order = some_order (containment c.resources) (relations c.edges) (length c.resources) below edges_below free.1 in
    let comes = before_decided (containment c.resources) (relations c.edges) (length c.resources) below edges_below in
    let signal = direct_decided (containment c.resources) (signalling c.edges) (length c.resources) below signals_below in
    let R = Direct (containment c.resources) (relations c.edges) in
    let ws = waves_made (numbers R comes c.resources (length c.resources) order.0 order.1).wave (comes_in c)
    (tasks_at c.resources order.0) (numbering R comes c.resources (length c.resources) order.0 order.1) in
    let made = run_made (comes_in c) (signals_in c) comes signal ws.0 [] found 0 in (
      record { node = c.node; lines = rising_lines 0 (length c.resources) (together made.waves) },
      made.left,
      record {
        before = told found 0;
        after = told made.left made.faults;
        run = record {
          node = refl;
          lines = record {
            order = order.0;
            ordered = record { contained = free.0; in_order = order.1 };
            run = record {
              waves = made.waves;
              whose = subst (λ l. AreWaves (comes_in c) (tasks_at c.resources order.0) l) (sym made.whose) ws.1;
              each = made.each;
              rising = refl;
            };
          };
        };
        finds = refl;
        leaves = refl;
      },
    )
