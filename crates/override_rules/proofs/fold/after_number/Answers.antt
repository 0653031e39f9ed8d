use Rattle.std.proofs.Common.{◌≡◌, option_map, sym, ap, subst, ◌∙◌}
use Rattle.std.specs.Prelude.{IfOk, option_to_list, slice_get}
use Rattle.pp_values.specs.Views.{view}
use Rattle.override_rules.proofs.Walks.{after_one, after_no}
use Rattle.override_rules.proofs.fold.after_number.Goals as goal
use Rattle.override_rules.specs.Fold.{after_line, after_lines}
use Rattle.override_rules.specs.Lines.{line_of}

pub returns-in-Some : goal.returns-in-Some
returns-in-Some c =
    let name = c.args.name.now in
    let v = option_map view c.args.value in
    let l = line_of c.in-Some.line.now in
    let same : after_line name l v ≡ after_lines name (option_to_list (slice_get c.args.lines.now c.args.number)) v =
    sym (after_one name l v) ∙ ap (λ o. after_lines name (option_to_list o) v) c.in-Some.ensures in
    subst (λ x. IfOk c.after_line.result (λ o. option_map view o ≡ x)) same c.after_line.ensures

pub returns-in-None : goal.returns-in-None
returns-in-None c =
    let name = c.args.name.now in
    let v = option_map view c.args.value in
    sym (after_no name v) ∙ ap (λ o. after_lines name (option_to_list o) v) c.in-None.ensures
