use Rattle.std.proofs.Common.{sym, ap, ◌∙◌, Some}
use Rattle.pp_values.specs.Datum.{hash, entries_of}
use Rattle.pp_values.specs.Keys.{are_distinct}
use Rattle.pp_values.specs.Views.{pair_views}
use Rattle.json_values.specs.ValueForm.{is_plain}
use Rattle.json_values.proofs.FormSteps.{long_is, not_distinct}
use Rattle.json_values.proofs.reading.long_hash.Goals as goal

pub returns-then-not-are_distinct : goal.returns-then-not-are_distinct
returns-then-not-are_distinct c =
    not_distinct (pair_views c.args.pairs.items) (ap (λ ps. are_distinct (pair_views ps)) (sym c.as_slice.ensures.value) ∙ sym c.are_distinct.ensures ∙ c.if-not-are_distinct.true)

pub returns : goal.returns
returns c =
    long_is (pair_views c.args.pairs.items) (ap (λ ps. are_distinct (pair_views ps)) (sym c.as_slice.ensures.value) ∙ sym c.are_distinct.ensures ∙ c.if-not-are_distinct.false)
    (ap (λ ps. is_plain (entries_of (pair_views ps))) (sym c.as_slice-2.ensures.value) ∙ sym c.is_plain.ensures ∙ c.if-is_plain.false)
    ∙ ap (λ l. Some (hash (entries_of l))) (sym c.in_ok-from_vec.ensures)
