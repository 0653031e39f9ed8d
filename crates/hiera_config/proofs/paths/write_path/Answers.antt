use Rattle.std.proofs.Common.{◌++◌, refl, sym, ap, ◌∙◌}
use Rattle.hiera_config.specs.Meant.{in_turn}
use Rattle.hiera_config.specs.Pieces.{path_pieces}
use Rattle.hiera_config.specs.Seen.{names_seen}
use Rattle.hiera_config.specs.Variables.{path_piece}
use Rattle.hiera_config.proofs.Meets.{after_ok, after_err, same_meets}
use Rattle.hiera_config.proofs.PathTexts.{path_is}
use Rattle.hiera_config.proofs.paths.write_path.Goals as goal

pub returns-in_err-add_template : goal.returns-in_err-add_template
returns-in_err-add_template c =
    same_meets
    (path_is (names_seen c.args.names.now) c.args.folder.now c.args.level.now c.args.template.now _ _ _
    (c.in_ok-push_str.ensures.bytes ∙ ap (λ x. x ++ c.args.folder.now) c.clear.ensures.bytes) refl refl)
    (after_err _ c.in_err-add_template.ensures c.from_residual-in_err-add_template.ensures.1)

pub returns : goal.returns
returns c =
    let step = path_piece (names_seen c.args.names.now) in
    same_meets
    (path_is (names_seen c.args.names.now) c.args.folder.now c.args.level.now c.args.template.now _ _ _
    (c.in_ok-push_str.ensures.bytes ∙ ap (λ x. x ++ c.args.folder.now) c.clear.ensures.bytes) refl refl)
    (after_ok _ c.in_ok-add_template.ensures
    (same_meets (ap (λ x. in_turn step x (path_pieces c.args.template.now)) (sym c.in_ok-push_str-2.ensures.bytes))
    c.add_template-2.ensures))
