-- Values that are exactly the same are among those of one text.
use Rattle.std.proofs.Common.{cond, [], ◌∷◌, ◌++◌, ap, sym, ◌∙◌}
use Rattle.std.specs.List.{list_any}
use Rattle.std.specs.Str.{bytes_eq}
use Rattle.pp_ops.specs.Same.{same}
use Rattle.pp_values.specs.Views.{view}
use Rattle.pp_funcs.specs.Seen.{under}
use Rattle.pp_funcs.proofs.Alike.{old_one, new_one}
use Rattle.pp_funcs.proofs.seen.is_new.Goals as goal

pub returns-then-is_among : goal.returns-then-is_among
returns-then-is_among c had =
    old_one c.args.seen.now had (view c.args.value.now)
    (ap (λ t. list_any (same (view c.args.value.now)) (under t c.args.seen.now)) (sym c.in_ok-text.ensures)
    ∙ sym c.is_among.ensures ∙ c.if-is_among.true)

pub returns : goal.returns
returns c had =
    new_one c.args.seen.now c.add.new.seen had (view c.args.value.now)
    (ap (λ t. list_any (same (view c.args.value.now)) (under t c.args.seen.now)) (sym c.in_ok-text.ensures)
    ∙ sym c.is_among.ensures ∙ c.if-is_among.false)
    (λ t. c.in_ok-add.ensures t
    ∙ ap (λ x. under t c.args.seen.now ++ cond (bytes_eq x t) (view c.args.value.now ∷ []) []) c.in_ok-text.ensures)
