-- What the relations of a compile relate, as indexes of the catalog.
use Rattle.std.specs.Prelude.{ℕ, suc, Bool, not, ◌&&◌, ◌||◌, if◌then◌else◌, List, [], ◌∷◌, ◌++◌, Option, None, Some}
use Rattle.std.specs.Prelude.{option_and_then, option_to_list, slice_get, Result, Ok, Err}
use Rattle.std.specs.Str.{bytes_eq}
use Rattle.pp_values.specs.Answers.{and_then, in_turn}
use Rattle.pp_values.specs.Datum.{Datum, list, reference, Data, no_data, datum}
use Rattle.pp_values.specs.Faults.{fault}
use Rattle.pp_values.specs.Settings.{Setting}
use Rattle.pp_values.specs.declared.fault.Fault.{Fault}
use Rattle.pp_values.specs.declared.fault.What.TheVariants.{NoRelationTarget, TypeMismatch}
use Rattle.pp_values.specs.declared.place.Place.{Place}
use Rattle.pp_values.specs.declared.reference.Reference.{Reference}
use Rattle.res_core.specs.AttributeViews.{set_in}
use Rattle.res_core.specs.declared.operand.Operand.{Operand}
use Rattle.res_core.specs.declared.operand.Operand.TheVariants as operand
use Rattle.res_book.specs.Rows.{is_imported, number_of}
use Rattle.res_book.specs.declared.collector.Collector.{Collector}
use Rattle.res_book.specs.declared.relation_line.RelationLine.{RelationLine}
use Rattle.res_book.specs.declared.row.Row.{Row}
use Rattle.collector_query.specs.Matches.{matches}
use Rattle.override_rules.specs.Meaning.{State}
use Rattle.override_rules.specs.Names.{attributes_of}
use Rattle.catalog_finish.specs.EdgeTables.{Entry, joined}
use Rattle.catalog_finish.specs.RelationParameters.{joined_by, name_of}
use Rattle.catalog_finish.specs.Exporting.{is_exported}
use Rattle.catalog_finish.specs.Layouts.{of_live, index_at}
use Rattle.catalog_finish.specs.Sources.{Sources}
use Rattle.catalog_finish.specs.declared.relating.Ends.{Ends}
use Rattle.catalog_finish.specs.declared.relating.Metaparameter.{Metaparameter}
use Rattle.catalog_finish.specs.declared.relating.Metaparameter.TheVariants as parameter

-- ---- one resource

-- F17 where it is not declared, or not live
abbrev pub target_told : Place → Reference → Option ℕ → Result ℕ Fault
target_told at q None = Err (fault at (NoRelationTarget q))
target_told at q (Some i) = Ok i

abbrev pub target : Sources → Place → Reference → Result ℕ Fault
target t at q = target_told at q (option_and_then (index_at t.layout.indexes) (number_of q t.rows))

-- ---- what a collector stands for

-- `<| |>` takes what is not imported; `<<| |>>` what is exported, and what was imported for its published attributes
abbrev pub is_matched : State → Collector → Row → Bool
is_matched s c r =
    if is_imported r.mode
    then c.exported && matches c.query r.declared.item.title r.declared.item.tags r.declared.item.attributes
    else (not c.exported || is_exported r.mode)
    && matches c.query r.declared.item.title r.declared.item.tags (attributes_of s r)

abbrev pub is_taken : State → Collector → Row → Bool
is_taken s c r = bytes_eq c.kind r.declared.item.kind && is_matched s c r

abbrev pub taken_index : Sources → Collector → ℕ → Row → List ℕ
taken_index t c n r = if is_taken t.state c r then option_to_list (index_at t.layout.indexes n) else []

-- the live ones that match now that all is evaluated, in their order
abbrev pub taken : Sources → Collector → List ℕ
taken t c = of_live (taken_index t c) 0 t.rows

-- a number of no collector stands for nothing
abbrev pub collected : Sources → Option Collector → List ℕ
collected t None = []
collected t (Some c) = taken t c

-- ---- relation lines

abbrev pub operand_of : Sources → Place → Operand → Result (List ℕ) Fault
operand_of t at (operand.One q) = and_then (target t at q) (λ i. Ok (i ∷ []))
operand_of t at (operand.All n) = Ok (collected t (slice_get t.collectors n))

abbrev pub operand_step : Sources → Place → List ℕ → Operand → Result (List ℕ) Fault
operand_step t at done o = and_then (operand_of t at o) (λ is. Ok (done ++ is))

abbrev pub side_of : Sources → Place → List Operand → Result (List ℕ) Fault
side_of t at os = in_turn (operand_step t at) [] os

-- the side that goes before is tested first
abbrev pub ends_of : Sources → RelationLine → Result Ends Fault
ends_of t l =
    and_then (side_of t l.at l.left)
    (λ left. and_then (side_of t l.at l.right) (λ right. Ok (record { left = left; right = right })))

abbrev pub line_step : Sources → List Entry → RelationLine → Result (List Entry) Fault
line_step t es l = and_then (ends_of t l) (λ e. Ok (joined es e.left e.right l.signal))

abbrev pub lines_related : Sources → List RelationLine → Result (List Entry) Fault
lines_related t ls = in_turn (line_step t) [] ls

-- ---- relation metaparameters

-- A reference, or a list of such at any depth; any other value is F8.
abbrev mutual
  pub targets : Sources → Place → List ℕ → List ℕ → Datum → Result (List ℕ) Fault
  targets t at name done (reference q) = and_then (target t at q) (λ i. Ok (done ++ i ∷ []))
  targets t at name done (list ds) = each_target t at name done ds
  targets t at name done d = Err (fault at (TypeMismatch name))

  pub each_target : Sources → Place → List ℕ → List ℕ → Data → Result (List ℕ) Fault
  each_target t at name done no_data = Ok done
  each_target t at name done (datum d ds) =
      and_then (targets t at name done d) (λ next. each_target t at name next ds)

abbrev pub set_targets : Sources → Place → List ℕ → Option Datum → Result (List ℕ) Fault
set_targets t at name None = Ok []
set_targets t at name (Some d) = targets t at name [] d

abbrev pub metaparameter_step : Sources → Place → ℕ → List Setting → Metaparameter → List Entry →
    Result (List Entry) Fault
metaparameter_step t at i ss m es =
    and_then (set_targets t at (name_of m) (set_in ss (name_of m))) (λ others. Ok (joined_by m i others es))

-- the metaparameters of a live resource, in this order
abbrev pub metaparameters_related : Sources → Place → ℕ → List Setting → List Entry → Result (List Entry) Fault
metaparameters_related t at i ss es =
    and_then (metaparameter_step t at i ss parameter.Before es) (λ first.
    and_then (metaparameter_step t at i ss parameter.Require first) (λ second.
    and_then (metaparameter_step t at i ss parameter.Notify second) (λ third.
    metaparameter_step t at i ss parameter.Subscribe third)))

abbrev pub row_related : Sources → ℕ → Row → List Entry → Result (List Entry) Fault
row_related t i r es = metaparameters_related t r.declared.at i (attributes_of t.state r) es

-- a declaration that is not live has no index
abbrev pub row_at_index : Sources → Option ℕ → Row → List Entry → Result (List Entry) Fault
row_at_index t None r es = Ok es
row_at_index t (Some i) r es = row_related t i r es

abbrev pub numbered : ℕ → List Row → List (ℕ × Row)
numbered n [] = []
numbered n (r ∷ rs) = (n, r) ∷ numbered (suc n) rs

abbrev pub row_step : Sources → List Entry → ℕ × Row → Result (List Entry) Fault
row_step t es p = row_at_index t (index_at t.layout.indexes p.0) p.1 es

abbrev pub rows_related : Sources → List Entry → Result (List Entry) Fault
rows_related t es = in_turn (row_step t) es (numbered 0 t.rows)

-- Relation lines come first, then the metaparameters by declaration.
abbrev pub related_pairs : Sources → List RelationLine → Result (List Entry) Fault
related_pairs t ls = and_then (lines_related t ls) (rows_related t)
