use Rattle.std.proofs.Common.{sym, ap, ◌∙◌}
use Rattle.hiera_config.specs.Reached.{come_to, file_at, in_template}
use Rattle.hiera_config.proofs.AddLemmas.{same_adds, broken_path}
use Rattle.hiera_config.proofs.reaching.add_template.Goals as goal

pub returns-in_ok-from_str-in-Ok : goal.returns-in_ok-from_str-in-Ok
unfolding in_template
returns-in_ok-from_str-in-Ok c =
    same_adds _ _ _ _ _
    (ap (come_to c.args.files.now) (c.write_path.ensures.ok _ c.in-Ok.is)
    ∙ ap (file_at c.args.files.now) (sym (c.in_ok-from_str-in-Ok.ensures ∙ c.as_str.ensures.value)))
    c.add_file.ensures

pub returns-in-Err : goal.returns-in-Err
unfolding in_template
returns-in-Err c =
    broken_path c.args.files.now _ c.in-Err.refused _ _ _ (rw c.in-Err.is at c.write_path.ensures) c.add_broken.ensures
