-- How an audit goes on from entry to entry.
use Rattle.std.proofs.Common.{◌≡◌, ℕ, ◌+◌, ◌-◌, ◌<◌, ◌≤◌, List, [], ◌∷◌, ◌++◌, length, take, drop, get_or, None, Some, refl, sym, ap, ◌∙◌, subst, arith}
use Rattle.std.specs.Prelude.{IsTrue}
use Rattle.std.specs.Cmp.{second_so}
use Rattle.std.specs.List.{list_all}
use Rattle.std.proofs.lemmas.Grind.{common_steps}
use Rattle.site_core.specs.EntryViews.{event_of, events_of}
use Rattle.site_core.specs.Events.{Event, opens, is_later}
use Rattle.site_core.specs.Meaning.{Meaning}
use Rattle.site_core.specs.declared.entry.Entry.{Entry}
use Rattle.site_core.specs.declared.history.TheConstants.{MOST_ENTRIES}
use Rattle.history_audit.specs.Audits.{told, broken_part, audited_from, audited}
use Rattle.history_audit.specs.Pasts.{Keeps}
use Rattle.history_audit.specs.declared.past.Past.{Past}
use Rattle.history_audit.specs.declared.verdict.Part.{Part}
use Rattle.history_audit.specs.declared.verdict.Verdict.{Verdict}
use Rattle.history_audit.specs.declared.verdict.Verdict.TheVariants as v

-- some entries were looked at, so many, and broke no rule: the verdict is the one of those that are left behind them
pub record Looked {S C F : Type 0} (meaning : Meaning S C F) (past : Past S) (number : ℕ) (left : List (Event S))
    (verdict : Verdict) : Type 0 where
  pub h : List (Event S)
  pub keeps : Keeps past h
  pub number_is : number ≡ length h
  pub rest : audited_from meaning h left ≡ verdict
  pub later : IsTrue (list_all is_later left)
  pub few : number + length left ≤ MOST_ENTRIES

rest_of : {A : Type 0} (y : A) (ys : List A) → take (length (y ∷ ys) - 1) (drop 1 (y ∷ ys)) ≡ ys
rest_of y ys = grind (arith, common_steps)

one_longer : {A : Type 0} (xs : List A) (x : A) → length (xs ++ x ∷ []) ≡ length xs + 1
one_longer xs x = grind (arith, common_steps)

module _ {S C F : Type 0} (meaning : Meaning S C F) where
  pub looked_first : (past : Past S) (h es : List (Event S)) → Keeps past h → length h ≡ 1 →
      IsTrue (list_all is_later es) → length es < MOST_ENTRIES →
      Looked meaning past 1 es (audited_from meaning h es)
  looked_first past h es keeps one later few =
      record { h = h; keeps = keeps; number_is = sym one; rest = refl; later = later; few = omega (arith, few) }

  -- the end
  looked_all : (past : Past S) (number : ℕ) (verdict : Verdict) → Looked meaning past number [] verdict →
      v.Legal number ≡ verdict
  unfolding audited_from
  looked_all past number verdict looked = ap v.Legal looked.number_is ∙ looked.rest

  -- an entry that breaks a rule
  looked_broken : (past : Past S) (number : ℕ) (e : Event S) (left : List (Event S)) (verdict : Verdict)
      (broken : Part) → (looked : Looked meaning past number (e ∷ left) verdict) →
      Some broken ≡ broken_part meaning looked.h e → v.Broken number broken ≡ verdict
  unfolding audited_from
  looked_broken past number e left verdict broken looked is =
      ap (λ n. v.Broken n broken) looked.number_is
      ∙ ap (λ o. told o (length looked.h) (audited_from meaning (looked.h ++ e ∷ []) left)) is ∙ looked.rest

  -- an entry that breaks none
  looked_next : (old new : Past S) (number : ℕ) (e : Event S) (left : List (Event S)) (verdict : Verdict) →
      (looked : Looked meaning old number (e ∷ left) verdict) → None ≡ broken_part meaning looked.h e →
      Keeps new (looked.h ++ e ∷ []) → Looked meaning new (number + 1) left verdict
  unfolding audited_from
  looked_next old new number e left verdict looked is keeps =
      record {
        h = looked.h ++ e ∷ [];
        keeps = keeps;
        number_is = ap (λ n. n + 1) looked.number_is ∙ sym (one_longer looked.h e);
        rest =
            ap (λ o. told o (length looked.h) (audited_from meaning (looked.h ++ e ∷ []) left)) is ∙ looked.rest;
        later = second_so (is_later e) (list_all is_later left) looked.later;
        few = let few = looked.few in omega (arith, few);
      }

  -- the same as the code goes over entries

  pub end_at : (left : List (Entry S)) (past : Past S) (number : ℕ) (verdict : Verdict) → length left < 1 →
      Looked meaning past number (events_of left) verdict → v.Legal number ≡ verdict
  end_at [] past number verdict none looked = looked_all past number verdict looked
  end_at (e ∷ left) past number verdict none looked = absurd (omega (arith, none))

  pub broken_at : (left : List (Entry S)) (x : Entry S) (past : Past S) (number : ℕ) (verdict : Verdict)
      (broken : Part) → 1 ≤ length left → x ≡ get_or left 0 x → Looked meaning past number (events_of left) verdict →
      ((h : List (Event S)) → Keeps past h → Some broken ≡ broken_part meaning h (event_of x)) →
      v.Broken number broken ≡ verdict
  broken_at [] x past number verdict broken some at looked is = absurd (omega (arith, some))
  broken_at (y ∷ ys) x past number verdict broken some at looked is =
      looked_broken past number (event_of y) (events_of ys) verdict broken looked
      (is looked.h looked.keeps ∙ ap (λ z. broken_part meaning looked.h (event_of z)) at)

  pub next_at : (left : List (Entry S)) (x : Entry S) (old new : Past S) (number : ℕ) (verdict : Verdict) →
      1 ≤ length left → x ≡ get_or left 0 x → Looked meaning old number (events_of left) verdict →
      ((h : List (Event S)) → Keeps old h → None ≡ broken_part meaning h (event_of x)) →
      ((h : List (Event S)) → Keeps old h → Keeps new (h ++ event_of x ∷ [])) →
      Looked meaning new (number + 1) (events_of (take (length left - 1) (drop 1 left))) verdict
  next_at [] x old new number verdict some at looked is keeps = absurd (omega (arith, some))
  next_at (y ∷ ys) x old new number verdict some at looked is keeps =
      subst (λ l. Looked meaning new (number + 1) (events_of l) verdict) (sym (rest_of y ys))
      (looked_next old new number (event_of y) (events_of ys) verdict looked
      (is looked.h looked.keeps ∙ ap (λ z. broken_part meaning looked.h (event_of z)) at)
      (subst (λ z. Keeps new (looked.h ++ event_of z ∷ [])) at (keeps looked.h looked.keeps)))

  pub opening_at : (left : List (Entry S)) (x : Entry S) (site : S) (entries : List (Event S)) → 1 ≤ length left →
      x ≡ get_or left 0 x → event_of x ≡ opens site → events_of left ≡ entries →
      audited_from meaning (opens site ∷ []) (events_of (take (length left - 1) (drop 1 left)))
      ≡ audited meaning entries
  unfolding audited
  opening_at [] x site entries some at is all = absurd (omega (arith, some))
  opening_at (y ∷ ys) x site entries some at is all =
      ap (λ l. audited_from meaning (opens site ∷ []) (events_of l)) (rest_of y ys)
      ∙ ap (λ e. audited meaning (e ∷ events_of ys)) (sym is ∙ ap event_of at) ∙ ap (audited meaning) all
