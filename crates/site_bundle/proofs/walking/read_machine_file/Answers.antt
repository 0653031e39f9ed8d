use Rattle.std.proofs.Common.{refl}
use Rattle.site_bundle.specs.Gathering.{machine_file}
use Rattle.site_bundle.proofs.WalkSteps.{file_stopped, file_kept, file_passed}
use Rattle.site_bundle.proofs.walking.read_machine_file.Goals as goal

pub returns-in_err-content : goal.returns-in_err-content
returns-in_err-content g c =
    file_stopped _ machine_file c.args.front.now c.args.path.now _ _ _ c.from_residual.ensures.1 c.in_err-content.ensures.goes

pub returns-in-Some : goal.returns-in-Some
returns-in-Some g c =
    file_kept _ machine_file c.args.front.now c.args.path.now _ _ _ _ c.in_ok-content.ensures.goes c.in-Some.is
    c.keep_machine.ensures

pub returns-in-None : goal.returns-in-None
returns-in-None g c =
    file_passed _ machine_file c.args.front.now c.args.path.now _ _ _ c.in_ok-content.ensures.goes c.in-None.is refl
