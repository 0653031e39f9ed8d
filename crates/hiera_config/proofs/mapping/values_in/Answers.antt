use Rattle.std.proofs.Common.{◌≡◌, sym, ap, subst, ◌∙◌, Some, map}
use Rattle.std.specs.Prelude.{IfOk}
use Rattle.pp_values.specs.Views.{view, views}
use Rattle.pp_values.proofs.Lists.{members_of-data_of, pairs_of-entries_of}
use Rattle.hiera_config.specs.Variables.{mapped_values, pair_list}
use Rattle.hiera_config.proofs.mapping.values_in.Goals as goal

pub returns-in_ok-copy_values-in-List : goal.returns-in_ok-copy_values-in-List
returns-in_ok-copy_values-in-List c =
    c.into_vec.ensures ∙ c.in_ok-copy_values-in-List.ensures ∙ sym (members_of-data_of c.in-List.items)
    ∙ sym (ap (λ v. mapped_values (Some (view v))) c.in-List.is)

pub returns-in-Hash : goal.returns-in-Hash
returns-in-Hash c =
    subst (λ ds. IfOk c.pair_lists.result (λ v. views v.items ≡ ds))
    (ap (map pair_list) (c.as_slice.ensures.pairs ∙ sym (pairs_of-entries_of c.in-Hash.pairs))
    ∙ sym (ap (λ v. mapped_values (Some (view v))) c.in-Hash.is))
    c.pair_lists.ensures
