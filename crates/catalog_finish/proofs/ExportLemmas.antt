-- Exports one after another.
use Rattle.std.proofs.Common.{◌≡◌, ℕ, ◌+◌, ◌<◌, ◌≤◌, List, ◌++◌, length, drop, Option, Some, Result, Ok, Err, sym, ap, subst, ◌∙◌, add-one}
use Rattle.std.proofs.Math.ListN.{drop_of_length-le}
use Rattle.std.specs.Prelude.{option_to_list, slice_get}
use Rattle.pp_values.proofs.Turns.{first_stops}
use Rattle.pp_values.specs.Answers.{AnswersBy, fault_told, and_then, in_turn}
use Rattle.pp_values.specs.declared.fault.Fault.{Fault}
use Rattle.pp_values.specs.declared.fault.Stop.{Stop}
use Rattle.res_book.specs.declared.row.Row.{Row}
use Rattle.res_core.specs.declared.exported.Exported.{Exported}
use Rattle.override_rules.specs.Meaning.{State}
use Rattle.catalog_finish.specs.Exporting.{export_of, export_step}
use Rattle.catalog_finish.proofs.LayoutLemmas.{rows_from}

module _ (s : State) (rows : List Row) (n : ℕ) (r : Row) (done : List Exported) (whole : Result (List Exported) Fault)
    (h : n < length rows) (is : slice_get rows n ≡ Some r)
    (all : in_turn (export_step s) done (drop n rows) ≡ whole) where
  opened : and_then (export_step s done r) (λ next. in_turn (export_step s) next (drop (n + 1) rows)) ≡ whole
  unfolding in_turn
  opened =
      ap (λ j. and_then (export_step s done r) (λ next. in_turn (export_step s) next (drop j rows))) (add-one n)
      ∙ sym (ap (in_turn (export_step s) done) (rows_from rows n r h is)) ∙ all

  pub export_turn : (o : Option Exported) (new : List Exported) → export_of s r ≡ Ok o →
      new ≡ done ++ option_to_list o → in_turn (export_step s) new (drop (n + 1) rows) ≡ whole
  export_turn o new went put =
      ap (λ xs. in_turn (export_step s) xs (drop (n + 1) rows)) put
      ∙ sym (ap (λ m. and_then (and_then m (λ x. Ok (done ++ option_to_list x)))
      (λ next. in_turn (export_step s) next (drop (n + 1) rows))) went)
      ∙ opened

  pub export_stops : (e : Stop) → AnswersBy {T = Option Exported} fault_told (Err e) (export_of s r) →
      AnswersBy {T = List Exported} fault_told (Err e) whole
  export_stops e told =
      subst (λ m. AnswersBy {T = List Exported} fault_told (Err e) m) opened
      (first_stops fault_told e (export_step s done r) (λ next. in_turn (export_step s) next (drop (n + 1) rows))
      (first_stops fault_told e (export_of s r) (λ o. Ok (done ++ option_to_list o)) told))

pub exports_end : (s : State) (rows : List Row) (n : ℕ) (done : List Exported) (whole : Result (List Exported) Fault) →
    length rows ≤ n → in_turn (export_step s) done (drop n rows) ≡ whole → whole ≡ Ok done
unfolding in_turn
exports_end s rows n done whole h all =
    sym all ∙ ap (in_turn (export_step s) done) (drop_of_length-le rows h)
