-- Numbers of no declaration.
use Rattle.std.proofs.Common.{◌≡◌, ℕ, ◌<◌, false, List, [], length, Option, None, Some, ap, ◌∙◌, refl, arith}
use Rattle.std.specs.Prelude.{slice_get}
use Rattle.std.proofs.lemmas.Option.{slice_get_past}
use Rattle.override_rules.specs.Meaning.{State}
use Rattle.res_book.specs.declared.collector.Collector.{Collector}
use Rattle.res_book.specs.declared.row.Row.{Row}
use Rattle.eval_collecting.specs.Blocks.{said_by}
use Rattle.eval_collecting.specs.Importing.{is_import_of}
use Rattle.eval_collecting.specs.Matching.{taken_by}

nothing_taken : (s : State) (c : Option Collector) → taken_by s c None ≡ false
nothing_taken s None = refl
nothing_taken s (Some c) = refl

pub none_taken : (s : State) (c : Option Collector) (rows : List Row) (n : ℕ) → ¬ (n < length rows) →
    taken_by s c (slice_get rows n) ≡ false
none_taken s c rows n outside =
    ap (taken_by s c) (slice_get_past rows n (omega (arith, outside))) ∙ nothing_taken s c

pub no_import : (node : List ℕ) (place : ℕ) (rows : List Row) (n : ℕ) → ¬ (n < length rows) →
    is_import_of node place (slice_get rows n) ≡ false
no_import node place rows n outside =
    ap (is_import_of node place) (slice_get_past rows n (omega (arith, outside)))

none_said : (c : Option Collector) → said_by c None ≡ []
none_said None = refl
none_said (Some c) = refl

pub nothing_said : (c : Option Collector) (rows : List Row) (n : ℕ) → ¬ (n < length rows) →
    said_by c (slice_get rows n) ≡ []
nothing_said c rows n outside = ap (said_by c) (slice_get_past rows n (omega (arith, outside))) ∙ none_said c
