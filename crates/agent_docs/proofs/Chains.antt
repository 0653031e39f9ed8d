-- Refusals pass through what would come next.
use Rattle.std.proofs.Common.{◌≡◌, ℕ, List, Result, Ok, Err, ap, sym, subst, ◌∙◌}
use Rattle.std.specs.Prelude.{IsErrAnd}
use Rattle.agent_docs.specs.declared.machine_stop.MachineStop.{MachineStop}
use Rattle.agent_docs.specs.declared.machine_stop.MachineStop.TheVariants as stop
use Rattle.agent_docs.specs.MachineMembers.{Refuses, SaysAs, result_and_then}

pub refuses_then : {A B : Type 0} (s : MachineStop) (m : Result A (List ℕ)) (f : A → Result B (List ℕ)) → Refuses s m →
    Refuses s (result_and_then f m)
refuses_then (stop.Bad path) m f h = ap (result_and_then f) h
refuses_then stop.Memory m f h = tt

pub refuses_same : {A : Type 0} (s : MachineStop) (m n : Result A (List ℕ)) → n ≡ m → Refuses s m → Refuses s n
refuses_same (stop.Bad path) m n e h = e ∙ h
refuses_same stop.Memory m n e h = tt

-- what a `?` hands on
pub at_exit : {A B : Type 0} (shown : A → B) (r : Result A MachineStop) (s : MachineStop) (m : Result B (List ℕ)) →
    IsErrAnd r (λ t. t ≡ s) → Refuses s m → SaysAs shown r m
at_exit shown (Ok x) s m is h = absurd is
at_exit shown (Err t) s m is h = subst (λ u. Refuses u m) (sym is) h
