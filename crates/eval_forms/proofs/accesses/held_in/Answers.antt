use Rattle.std.proofs.Common.{◌≡◌, Some, rules, sym, ap, ◌∙◌, to_z, of_z, w64}
use Rattle.pp_ops.specs.Accesses.{member_at}
use Rattle.pp_values.proofs.Lists.{members_of-data_of, pairs_of-entries_of}
use Rattle.pp_values.specs.Keys.{value_at}
use Rattle.pp_values.specs.Views.{view, views}
use Rattle.eval_forms.proofs.accesses.held_in.Goals as goal

pub returns-in-List-Int : goal.returns-in-List-Int
returns-in-List-Int c =
    let same : c.in-List-Int.at ≡ to_z w64 (of_z w64 c.in-List-Int.at) = search rules in
    rw (c.in-List-Int.is-0, c.in-List-Int.is-1) (ap Some (c.member_at.ensures
    ∙ ap (λ z. member_at z (views c.as_slice.result.now)) (sym same)
    ∙ ap (member_at c.in-List-Int.at) (c.as_slice.ensures ∙ sym (members_of-data_of c.in-List-Int.items))))

pub returns-in-Hash-default : goal.returns-in-Hash-default
returns-in-Hash-default c =
    rw c.in-Hash-default.is-0 (ap Some (c.get.ensures
    ∙ ap (value_at (view c.args.key.now)) (sym (pairs_of-entries_of c.in-Hash-default.pairs))))
