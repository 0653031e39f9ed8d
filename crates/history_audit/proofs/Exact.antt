-- `Legal n` is said exactly of legal histories of n entries.
use Rattle.std.proofs.Common.{◌≡◌, ℕ, List, [], ◌∷◌, ◌++◌, length, Option, None, Some, refl, sym, ap, ◌∙◌, append_assoc, append-nil}
use Rattle.site_core.specs.Meaning.{Meaning}
use Rattle.site_core.specs.Events.{Event, opens, publishes, adds}
use Rattle.site_core.specs.Legal.{EachFollows, Legal}
use Rattle.history_audit.specs.Audits.{told, broken_part, audited_from, audited}
use Rattle.history_audit.specs.Laws.{SaysLegalExactly}
use Rattle.history_audit.specs.declared.verdict.Part.{Part}
use Rattle.history_audit.specs.declared.verdict.Verdict.{Verdict}
use Rattle.history_audit.specs.declared.verdict.Verdict.TheVariants as v
use Rattle.history_audit.proofs.Rules.{follows, breaks_none}

told_legal : (o : Option Part) (i n : ℕ) (later : Verdict) → told o i later ≡ v.Legal n →
    (o ≡ None) × (later ≡ v.Legal n)
told_legal None i n later is = (refl, is)
told_legal (Some broken) i n later is = absurd cc

module _ {S C F : Type 0} (meaning : Meaning S C F) where
  legal_behind : (h es : List (Event S)) (n : ℕ) → audited_from meaning h es ≡ v.Legal n →
      EachFollows meaning h es × (n ≡ length (h ++ es))
  unfolding audited_from
  legal_behind h [] n is = let e : length h ≡ n = cc in (tt, sym e ∙ ap length (sym (append-nil h)))
  legal_behind h (e ∷ es) n is =
      let found = told_legal (broken_part meaning h e) (length h) n (audited_from meaning (h ++ e ∷ []) es) is in
      let rest = legal_behind (h ++ e ∷ []) es n found.1 in
      ((follows meaning h e found.0, rest.0), rest.1 ∙ ap length (append_assoc h (e ∷ []) es))

  behind_legal : (h es : List (Event S)) → EachFollows meaning h es →
      audited_from meaning h es ≡ v.Legal (length (h ++ es))
  unfolding audited_from
  behind_legal h [] each = ap (λ (l : List (Event S)). v.Legal (length l)) (sym (append-nil h))
  behind_legal h (e ∷ es) each =
      ap (λ o. told o (length h) (audited_from meaning (h ++ e ∷ []) es)) (breaks_none meaning h e each.0)
      ∙ behind_legal (h ++ e ∷ []) es each.1
      ∙ ap (λ (l : List (Event S)). v.Legal (length l)) (append_assoc h (e ∷ []) es)

  legal_said : (h : List (Event S)) → Legal meaning h → audited meaning h ≡ v.Legal (length h)
  unfolding audited
  legal_said [] legal = absurd legal
  legal_said (opens site ∷ es) legal = behind_legal (opens site ∷ []) es legal
  legal_said (publishes p ∷ es) legal = absurd legal
  legal_said (adds author call what ∷ es) legal = absurd legal

  said_legal : (h : List (Event S)) (n : ℕ) → audited meaning h ≡ v.Legal n → Legal meaning h × (n ≡ length h)
  unfolding audited
  said_legal [] n is = absurd cc
  said_legal (opens site ∷ es) n is = legal_behind (opens site ∷ []) es n is
  said_legal (publishes p ∷ es) n is = absurd cc
  said_legal (adds author call what ∷ es) n is = absurd cc

  pub exact : SaysLegalExactly meaning
  exact = record { all = legal_said; only = said_legal }
