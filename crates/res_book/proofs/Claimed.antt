-- What a claim of a number says, by its answer.
use Rattle.std.proofs.Common.{◌≡◌, ℕ, ◌<◌, true, cond, IsTrue, List, [], ◌∷◌, ◌++◌, length, Option, None, Some, Result, Ok, Err, ap, sym, subst, ◌∙◌, arith}
use Rattle.std.specs.Prelude.{nat_lt, slice_get}
use Rattle.pp_values.specs.declared.fault.Fault.{Fault}
use Rattle.pp_values.specs.declared.memory.Memory.{Memory}
use Rattle.res_book.specs.Kept.{IsKept}
use Rattle.res_book.specs.Numbers.{Kinds, number_at, Adds, Keeps, Claims}
use Rattle.res_book.specs.Rows.{declared_as, declared_once, duplicate, is_contained, limit, new_row, number_of, reference_of, too_many}
use Rattle.res_book.specs.declared.mode.Mode.{Mode}
use Rattle.res_book.specs.declared.row.Row.{Row}
use Rattle.res_core.specs.declared.declared.Declared.{Declared}
use Rattle.res_book.proofs.Kept.{kept-append}
use Rattle.res_book.proofs.Rows.{declared_at, number_of-below, undeclared}

module _ (kind title : List ℕ) (n : ℕ) (old new : Kinds) where
  pub refused : (r : Result (Option ℕ) Memory) (e : Memory) → r ≡ Err e → Claims kind title n old new r → Keeps old new
  refused r e is c = subst (Claims kind title n old new) is c

  pub there : (r : Result (Option ℕ) Memory) (o : Option ℕ) (m : ℕ) → r ≡ Ok o → o ≡ Some m →
      Claims kind title n old new r → (number_at old kind title ≡ Some m) × Keeps old new
  there r o m is some c = subst (λ p. Claims kind title n old new (Ok p)) some (subst (Claims kind title n old new) is c)

  pub added : (r : Result (Option ℕ) Memory) (o : Option ℕ) → r ≡ Ok o → o ≡ None →
      Claims kind title n old new r → (number_at old kind title ≡ None) × Adds kind title n old new
  added r o is none c = subst (λ p. Claims kind title n old new (Ok p)) none (subst (Claims kind title n old new) is c)

pub kept-keeps : (kinds new : Kinds) (rows : List Row) → Keeps kinds new → IsKept kinds rows → IsKept new rows
kept-keeps kinds new rows keeps kept = record {
  finds = λ q. keeps q.kind q.title ∙ kept.finds q;
  apart = kept.apart;
  contained = kept.contained;
  few = kept.few;
}

-- ---- the number of a reference

module _ (kinds new : Kinds) (rows : List Row) (d : Declared) (m : Mode) (kind : List ℕ) (n : ℕ)
    (r : Result (Option ℕ) Memory) (o : Option ℕ) (kept : IsKept kinds rows) (same : kind ≡ d.item.kind)
    (is : r ≡ Ok o) (claims : Claims kind d.item.title n kinds new r) where
  numbered : (e : ℕ) → o ≡ Some e → number_of (reference_of d) rows ≡ Some e
  numbered e some =
      sym (kept.finds (reference_of d))
      ∙ ap (λ k. number_at kinds k d.item.title) (sym same)
      ∙ (there kind d.item.title n kinds new r o e is some claims).0

  pub earlier_below : (e : ℕ) → o ≡ Some e → e < length rows
  earlier_below e some = number_of-below (reference_of d) rows e (numbered e some)

  pub twice : (e : ℕ) (row : Row) → o ≡ Some e → slice_get rows e ≡ Some row →
      declared_once d m (declared_as (reference_of d) rows) rows ≡ Err (duplicate d row.declared.at)
  twice e row some at =
      ap (λ o. declared_once d m o rows) (declared_at (reference_of d) rows e (numbered e some) ∙ at)

  unnumbered : o ≡ None → declared_as (reference_of d) rows ≡ None
  unnumbered none =
      undeclared (reference_of d) rows
      (sym (kept.finds (reference_of d))
      ∙ ap (λ k. number_at kinds k d.item.title) (sym same)
      ∙ (added kind d.item.title n kinds new r o is none claims).0)

  pub once : o ≡ None → length rows < limit →
      declared_once d m (declared_as (reference_of d) rows) rows ≡ Ok (length rows, rows ++ new_row d m ∷ [])
  once none room =
      let fits : nat_lt (length rows) limit ≡ true = grind (arith, room) in
      ap (λ o. declared_once d m o rows) (unnumbered none)
      ∙ ap (λ b. cond {A = Result (ℕ × List Row) Fault} b (Ok (length rows, rows ++ new_row d m ∷ [])) (Err (too_many d))) fits

  pub kept_more : o ≡ None → n ≡ length rows → length rows < limit → IsTrue (is_contained d.container rows) →
      IsKept new (rows ++ new_row d m ∷ [])
  kept_more none number room contained =
      kept-append kinds new rows (new_row d m) (unnumbered none) room contained
      (subst (λ i. Adds d.item.kind d.item.title i kinds new) number
      (subst (λ k. Adds k d.item.title n kinds new) same
      (added kind d.item.title n kinds new r o is none claims).1)) kept

  pub kept_same : (e : ℕ) → o ≡ Some e → IsKept new rows
  kept_same e some = kept-keeps kinds new rows (there kind d.item.title n kinds new r o e is some claims).1 kept
