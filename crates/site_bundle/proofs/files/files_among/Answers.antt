use Rattle.std.proofs.Common.{Ok, sym, ap, ◌∙◌}
use Rattle.std.specs.Prelude.{if◌then◌else◌}
use Rattle.pp_values.specs.declared.place.TheConstants.{MAIN_MANIFEST}
use Rattle.site_bundle.specs.Files.{bad_file, is_passed}
use Rattle.site_bundle.proofs.Chains.{refuses_same, at_exit, told}
use Rattle.site_bundle.proofs.FileSteps.{main_passed, file_put, file_refused, no_files_left}
use Rattle.site_bundle.proofs.files.files_among.Goals as goal

pub returns-then-is_passed-clause-files : goal.returns-then-is_passed-clause-files
returns-then-is_passed-clause-files c =
    refuses_same _ _ _
    (sym c.loop-path.invariant
    ∙ main_passed _ _ _ _ _ _ c.in-Some.ensures.steps c.as_str.ensures.value (sym c.is_passed.ensures ∙ c.if-is_passed.true))
    (told _ _ _ c.bad_member.ensures)

pub loop-path-preserved : goal.loop-path-preserved
loop-path-preserved c =
    file_put _ _ _ _ _ _ _ c.in-Some.ensures.steps c.as_str-in-loop-path.ensures.value
    (ap (is_passed c.loop-path.files) (c.as_str-in-loop-path.ensures.value ∙ sym c.as_str.ensures.value)
    ∙ sym c.is_passed.ensures ∙ c.if-is_passed.false)
    c.in_ok-with_file.ensures
    ∙ c.loop-path.invariant

pub returns-in_err-with_file-clause-files : goal.returns-in_err-with_file-clause-files
returns-in_err-with_file-clause-files c =
    at_exit _ _ _ _ c.from_residual-in_err-with_file.ensures.1
    (refuses_same _ _ _ (sym c.loop-path.invariant)
    (file_refused _ _ _ _ _ _ _ c.in-Some.ensures.steps c.as_str-in-loop-path.ensures.value
    (ap (is_passed c.loop-path.files) (c.as_str-in-loop-path.ensures.value ∙ sym c.as_str.ensures.value)
    ∙ sym c.is_passed.ensures ∙ c.if-is_passed.false)
    c.in_err-with_file.ensures))

pub returns-then-lacks_main-clause-files : goal.returns-then-lacks_main-clause-files
returns-then-lacks_main-clause-files c =
    refuses_same _ _ _
    (sym c.loop-path.invariant ∙ no_files_left _ _ c.in-None.ensures.steps.0
    ∙ ap (λ b. if b then bad_file MAIN_MANIFEST.now else Ok c.loop-path.files)
    (sym c.lacks_main.ensures ∙ c.if-lacks_main.true))
    (told _ _ _ c.bad_member-then-lacks_main.ensures)

pub returns-clause-files : goal.returns-clause-files
returns-clause-files c =
    sym c.loop-path.invariant ∙ no_files_left _ _ c.in-None.ensures.steps.0
    ∙ ap (λ b. if b then bad_file MAIN_MANIFEST.now else Ok c.loop-path.files)
    (sym c.lacks_main.ensures ∙ c.if-lacks_main.false)
