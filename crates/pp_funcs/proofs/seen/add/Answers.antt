-- The text's values with one more are put back.
use Rattle.std.proofs.Common.{◌++◌, [], ◌∷◌, map, ap, ◌∙◌}
use Rattle.std.proofs.lemmas.List.{map-append}
use Rattle.pp_values.specs.Views.{view}
use Rattle.pp_funcs.proofs.Alike.{added}
use Rattle.pp_funcs.proofs.seen.add.Goals as goal

pub returns : goal.returns
returns c =
    added c.args.seen.now c.taken-alike.new.seen c.insert.new.self c.args.text (view c.args.value.now) _
    (
    ap (map (λ v. view v.now)) c.in_ok-push.ensures.items
    ∙ map-append (λ v. view v.now) c.taken-alike.result.items (c.args.value ∷ [])
    ∙ ap (λ ds. ds ++ view c.args.value.now ∷ []) c.taken-alike.ensures.value
    )
    c.taken-alike.ensures.rest c.in_ok-insert.ensures.updates.0
