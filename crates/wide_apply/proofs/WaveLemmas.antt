-- One wave after another.
use Rattle.std.proofs.Common.{◌≡◌, ℕ, List, [], ◌∷◌, ◌++◌, refl, sym, subst, ap, ◌∙◌, append-nil, append_assoc}
use Rattle.std.specs.List.{All}
use Rattle.agent_machine.specs.Machines.{Told}
use Rattle.agent_transaction.specs.Runs.{Turned}
use Rattle.wide_apply.specs.WideRuns.{together, IsTurnedApart, GiveBack, TakeWaves}

pub together_push : (ws : List (List Turned)) (w : List Turned) → together (ws ++ w ∷ []) ≡ together ws ++ w
together_push [] w = append-nil w
together_push (v ∷ ws) w = ap (λ l. v ++ l) (together_push ws w) ∙ sym (append_assoc v (together ws) w)

pub waves_more : (Comes Signals : ℕ → ℕ → Type 0) (earlier : List Turned) (ws : List (List Turned)) (w : List Turned)
    (before middle after : Told) →
    TakeWaves Comes Signals earlier ws before middle →
    All (IsTurnedApart Comes Signals (earlier ++ together ws) middle) w →
    GiveBack w middle after → TakeWaves Comes Signals earlier (ws ++ w ∷ []) before after
waves_more Comes Signals earlier [] w before middle after e apart back = (
  subst (λ m. All (IsTurnedApart Comes Signals earlier m) w) e
      (subst (λ l. All (IsTurnedApart Comes Signals l middle) w) (append-nil earlier) apart),
  (after, subst (λ m. GiveBack w m after) e back, refl),
)
waves_more Comes Signals earlier (v ∷ ws) w before middle after t apart back = (
  t.0,
  (
    t.1.0,
    t.1.1,
    waves_more Comes Signals (earlier ++ v) ws w t.1.0 middle after t.1.2
        (subst (λ l. All (IsTurnedApart Comes Signals l middle) w) (sym (append_assoc earlier v (together ws))) apart)
        back,
  ),
)
