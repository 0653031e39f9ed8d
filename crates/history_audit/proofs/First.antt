-- What is said to be broken is the first entry that breaks a rule.
use Rattle.std.proofs.Common.{◌≡◌, ℕ, List, [], ◌∷◌, ◌++◌, length, take, Option, None, Some, refl, sym, ap, ◌∙◌, subst, append_assoc}
use Rattle.std.specs.Prelude.{IsTrue, IsSomeAnd, slice_get}
use Rattle.std.specs.Cmp.{first_so, second_so}
use Rattle.std.specs.List.{list_all}
use Rattle.std.proofs.Math.Seq.{take-append_seam}
use Rattle.site_core.specs.Meaning.{Meaning}
use Rattle.site_core.specs.Events.{Event, opens, publishes, adds, is_later}
use Rattle.site_core.specs.Legal.{Legal}
use Rattle.site_core.proofs.Legal.{Legal-push}
use Rattle.history_audit.specs.Audits.{told, broken_part, audited_from, audited}
use Rattle.history_audit.specs.Laws.{BreaksFirst, TellsTheFirst}
use Rattle.history_audit.specs.declared.verdict.Part.{Part}
use Rattle.history_audit.specs.declared.verdict.Verdict.{Verdict}
use Rattle.history_audit.specs.declared.verdict.Verdict.TheVariants as v
use Rattle.history_audit.proofs.Rules.{follows, breaks_first}

-- an element stands behind those before it
pub slice_get-seam : {A : Type 0} (xs : List A) (y : A) (ys : List A) → slice_get (xs ++ y ∷ ys) (length xs) ≡ Some y
slice_get-seam [] y ys = refl
slice_get-seam (x ∷ xs) y ys = slice_get-seam xs y ys

module _ {S C F : Type 0} (meaning : Meaning S C F) where
  -- the entries before entry i are legal, and it breaks this rule first
  abbrev IsFirst : List (Event S) → ℕ → Part → Type 0
  IsFirst h i broken =
      Legal meaning (take i h) × IsSomeAnd (slice_get h i) (λ e. BreaksFirst meaning (take i h) e broken)

  here : (h : List (Event S)) (e : Event S) (es : List (Event S)) (broken : Part) → Legal meaning h →
      BreaksFirst meaning h e broken → IsFirst (h ++ e ∷ es) (length h) broken
  here h e es broken legal breaks =
      let front : take (length h) (h ++ e ∷ es) ≡ h = take-append_seam h (e ∷ es) in (
        subst (Legal meaning) (sym front) legal,
        subst (λ o. IsSomeAnd o (λ d. BreaksFirst meaning (take (length h) (h ++ e ∷ es)) d broken))
            (sym (slice_get-seam h e es)) (subst (λ l. BreaksFirst meaning l e broken) (sym front) breaks),
      )

  -- the next entry breaks a rule, or what comes later holds
  told_first : (h : List (Event S)) (e : Event S) (es : List (Event S)) (i : ℕ) (broken : Part) (later : Verdict) →
      Legal meaning h → IsTrue (is_later e) →
      (broken_part meaning h e ≡ None → later ≡ v.Broken i broken → IsFirst (h ++ e ∷ es) i broken) →
      (o : Option Part) → broken_part meaning h e ≡ o → told o (length h) later ≡ v.Broken i broken →
      IsFirst (h ++ e ∷ es) i broken
  told_first h e es i broken later legal behind next None at is = next at is
  told_first h e es i broken later legal behind next (Some other) at is =
      let number : length h ≡ i = cc in let same : other ≡ broken = cc in
      subst (λ n. IsFirst (h ++ e ∷ es) n broken) number
      (here h e es broken legal (breaks_first meaning h e broken legal behind (at ∙ ap Some same)))

  first_behind : (h es : List (Event S)) (i : ℕ) (broken : Part) → Legal meaning h → IsTrue (list_all is_later es) →
      audited_from meaning h es ≡ v.Broken i broken → IsFirst (h ++ es) i broken
  unfolding audited_from
  first_behind h [] i broken legal behind is = absurd cc
  first_behind h (e ∷ es) i broken legal behind is =
      told_first h e es i broken (audited_from meaning (h ++ e ∷ []) es) legal
      (first_so (is_later e) (list_all is_later es) behind)
      (λ none later. subst (λ l. IsFirst l i broken) (append_assoc h (e ∷ []) es)
      (first_behind (h ++ e ∷ []) es i broken (Legal-push meaning h e legal (follows meaning h e none))
      (second_so (is_later e) (list_all is_later es) behind) later))
      (broken_part meaning h e) refl is

  pub first : TellsTheFirst meaning
  unfolding audited
  first [] i broken shape is = absurd cc
  first (opens site ∷ es) i broken shape is = first_behind (opens site ∷ []) es i broken tt shape is
  first (publishes p ∷ es) i broken shape is = absurd cc
  first (adds author call what ∷ es) i broken shape is = absurd cc
