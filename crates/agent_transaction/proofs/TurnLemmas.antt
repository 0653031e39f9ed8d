-- Properties that are set right one after another.
use Rattle.std.proofs.Common.{◌≡◌, ℕ, Bool, List, [], ◌∷◌, ◌++◌, refl, sym, subst, append-nil, append_assoc}
use Rattle.pp_values.specs.Settings.{Setting}
use Rattle.pp_values.specs.declared.reference.Reference.{Reference}
use Rattle.agent_machine.specs.Machines.{Told}
use Rattle.agent_transaction.specs.Steps.{SetsRight}
use Rattle.agent_transaction.specs.Turns.{SetsAll}
use Rattle.agent_transaction.specs.declared.ended.Ended.{Ended}
use Rattle.agent_transaction.specs.declared.ended.Ended.TheVariants as ended
use Rattle.agent_transaction.specs.declared.step.Step.TheVariants as step

-- however the properties that are left are set right, all are, with what was changed before
abbrev pub GoesOn : Bool → Reference → List Setting → List Setting → List (List ℕ) → Told → Told → Type 0
GoesOn noop what all left so_far start now =
    (rest : List (List ℕ)) (end : Ended) (after : Told) → SetsAll noop what left rest end now after →
    SetsAll noop what all (so_far ++ rest) end start after

module _ (noop : Bool) (what : Reference) (all left ss : List Setting) (s : Setting) (so_far : List (List ℕ)) (start now : Told) where
  pub goes_kept : (next : Told) → left ≡ s ∷ ss → GoesOn noop what all left so_far start now →
      SetsRight noop what s step.Kept now next → GoesOn noop what all ss so_far start next
  goes_kept next is on right rest end after h =
      on rest end after (subst (λ l. SetsAll noop what l rest end now after) (sym is) (step.Kept, next, right, h))

  pub goes_changed : (next : Told) (name : List ℕ) (changes : List (List ℕ)) → left ≡ s ∷ ss →
      changes ≡ so_far ++ name ∷ [] → GoesOn noop what all left so_far start now →
      SetsRight noop what s (step.Changed name) now next → GoesOn noop what all ss changes start next
  goes_changed next name changes is more on right rest end after h =
      subst (λ l. SetsAll noop what all (l ++ rest) end start after) (sym more)
      (subst (λ l. SetsAll noop what all l end start after) (sym (append_assoc so_far (name ∷ []) rest))
      (on (name ∷ rest) end after
      (subst (λ l. SetsAll noop what l (name ∷ rest) end now after) (sym is)
      (step.Changed name, next, right, (rest, refl, h)))))

  pub ends_failed : (next : Told) (fault : List ℕ) → left ≡ s ∷ ss → GoesOn noop what all left so_far start now →
      SetsRight noop what s (step.Failed fault) now next → SetsAll noop what all so_far (ended.Failed fault) start next
  ends_failed next fault is on right =
      subst (λ l. SetsAll noop what all l (ended.Failed fault) start next) (append-nil so_far)
      (on [] (ended.Failed fault) next
      (subst (λ l. SetsAll noop what l [] (ended.Failed fault) now next) (sym is)
      (step.Failed fault, next, right, (refl, refl, refl))))

  pub ends_memory : (next : Told) → left ≡ s ∷ ss → GoesOn noop what all left so_far start now →
      SetsRight noop what s step.Memory now next → SetsAll noop what all so_far ended.Memory start next
  ends_memory next is on right =
      subst (λ l. SetsAll noop what all l ended.Memory start next) (append-nil so_far)
      (on [] ended.Memory next
      (subst (λ l. SetsAll noop what l [] ended.Memory now next) (sym is) (step.Memory, next, right, (refl, refl, refl))))

pub ends_whole : (noop : Bool) (what : Reference) (all left : List Setting) (so_far : List (List ℕ)) (start now : Told) →
    left ≡ [] → GoesOn noop what all left so_far start now → SetsAll noop what all so_far ended.Whole start now
ends_whole noop what all left so_far start now is on =
    subst (λ l. SetsAll noop what all l ended.Whole start now) (append-nil so_far)
    (on [] ended.Whole now (subst (λ l. SetsAll noop what l [] ended.Whole now now) (sym is) (refl, refl, refl)))
