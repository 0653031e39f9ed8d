use Rattle.std.proofs.Common.{◌≡◌, Some, None, option_map, IfOk, sym, ap, subst, ◌∙◌}
use Rattle.pp_values.specs.Views.{view}
use Rattle.hiera_config.specs.OptionTables.{told_all, told_or, told_view}
use Rattle.hiera_config.specs.Reached.{reach_default}
use Rattle.hiera_config.specs.ReachedFiles.{reached_views}
use Rattle.hiera_config.specs.Seen.{seen}
use Rattle.hiera_config.proofs.ToldLemmas.{option_files}
use Rattle.hiera_config.proofs.told_options.option_in_files.Goals as goal

pub returns-in-Some : goal.returns-in-Some
returns-in-Some c =
    let name = option_map (λ m. m.now) c.args.module_name in
    let default = told_all c.args.key.now (reach_default c.args.files.now (seen c.args.variables.now) name) in
    ap (λ b. told_or (Some (b, option_map (λ v. view v.now) c.in-Some.told.option)) default) (sym c.if-told.true)
    ∙ option_files c.args.files.now (seen c.args.variables.now) name c.args.key.now
    (reached_views c.in_ok-there.there.items) (Some (told_view c.in-Some.told)) c.in_ok-there.ensures.0
    (c.in-Some.ensures ∙ ap (λ xs. told_all c.args.key.now (reached_views xs)) c.as_slice.ensures.value)

pub returns-in-Some-2 : goal.returns-in-Some-2
returns-in-Some-2 c =
    let name = option_map (λ m. m.now) c.args.module_name in
    let default = told_all c.args.key.now (reach_default c.args.files.now (seen c.args.variables.now) name) in
    subst (λ x. IfOk c.option_by_default.result (λ o. option_map (option_map (λ v. view v.now)) o ≡ x))
    (ap (λ b. told_or (Some (b, option_map (λ v. view v.now) c.in-Some.told.option)) default) (sym c.if-told.false)
    ∙ option_files c.args.files.now (seen c.args.variables.now) name c.args.key.now
    (reached_views c.in_ok-there.there.items) (Some (told_view c.in-Some.told)) c.in_ok-there.ensures.0
    (c.in-Some.ensures ∙ ap (λ xs. told_all c.args.key.now (reached_views xs)) c.as_slice.ensures.value))
    c.option_by_default.ensures

pub returns : goal.returns
returns c =
    option_files c.args.files.now (seen c.args.variables.now) (option_map (λ m. m.now) c.args.module_name)
    c.args.key.now (reached_views c.in_ok-there.there.items) None c.in_ok-there.ensures.0
    (c.in-None.ensures ∙ ap (λ xs. told_all c.args.key.now (reached_views xs)) c.as_slice.ensures.value)
