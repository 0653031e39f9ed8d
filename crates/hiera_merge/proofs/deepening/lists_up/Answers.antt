use Rattle.std.proofs.Common.{◌++◌, ap, sym, ◌∙◌}
use Rattle.std.specs.List.{list_any}
use Rattle.pp_values.specs.Views.{views}
use Rattle.hiera_merge.specs.Merges.{is_list}
use Rattle.hiera_merge.proofs.StackLemmas.{without_lists, with_lists}
use Rattle.hiera_merge.proofs.deepening.lists_up.Goals as goal

pub returns-then-not-has_list : goal.returns-then-not-has_list
returns-then-not-has_list c =
    without_lists (views c.args.lower.items) c.args.high
    (ap (λ xs. list_any is_list (views xs)) (sym c.as_slice.ensures.value) ∙ sym c.has_list.ensures
    ∙ c.if-not-has_list.true)

pub returns : goal.returns
returns c =
    with_lists (views c.args.lower.items) c.args.high _ _
    (ap (λ xs. list_any is_list (views xs)) (sym c.as_slice.ensures.value) ∙ sym c.has_list.ensures
    ∙ c.if-not-has_list.false)
    (c.in_ok-add_members.ensures ∙ ap (λ l. l ++ c.args.high) c.in_ok-members.ensures) c.in_ok-each_once.ensures
