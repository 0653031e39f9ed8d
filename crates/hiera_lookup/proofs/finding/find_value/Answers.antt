use Rattle.std.proofs.Common.{◌≡◌, Ok, map, option_map, option_and_then, sym, ap, ◌∙◌}
use Rattle.pp_values.specs.Views.{view}
use Rattle.hiera_config.proofs.Meets.{after_ok, after_err, gives, same_meets}
use Rattle.hiera_merge.specs.Digging.{root, steps, dug}
use Rattle.hiera_lookup.specs.Found.{found, root_of, steps_of}
use Rattle.hiera_lookup.specs.World.{seen}
use Rattle.hiera_lookup.proofs.Sources.{found_highest}
use Rattle.hiera_lookup.proofs.finding.find_value.Goals as goal

pub returns-in_err-value-in-First : goal.returns-in_err-value-in-First
returns-in_err-value-in-First c =
    let is : c.root-root_key.result.now ≡ root_of c.args.key.now =
    c.root-root_key.ensures ∙ ap (λ xs. root (map (λ x. x.now) xs)) c.deref.ensures.value ∙ ap root c.in_ok-parts.ensures in
    same_meets
    (found_highest (seen c.args.world.now) (option_map (λ t. t.now) c.args.of_module) c.args.key.now c.args.merge
    c.in-First.is)
    (after_err _ (rw is at c.in_err-value-in-First.ensures) c.from_residual-in_err-value-in-First.ensures.1)

pub returns-in-First : goal.returns-in-First
returns-in-First c =
    let is : c.root-root_key.result.now ≡ root_of c.args.key.now =
    c.root-root_key.ensures ∙ ap (λ xs. root (map (λ x. x.now) xs)) c.deref.ensures.value ∙ ap root c.in_ok-parts.ensures in
    let stepped : map (λ x. x.now) c.steps.result.now ≡ steps_of c.args.key.now =
    c.steps.ensures ∙ ap (λ xs. steps (map (λ x. x.now) xs)) c.deref-in-First.ensures.value
    ∙ ap steps c.in_ok-parts.ensures in
    same_meets
    (found_highest (seen c.args.world.now) (option_map (λ t. t.now) c.args.of_module) c.args.key.now c.args.merge
    c.in-First.is)
    (after_ok _ (rw is at c.in_ok-value-in-First.ensures)
    (gives (ap Ok (sym (c.in_ok-part_if-in-First.ensures
    ∙ ap (λ ss. option_and_then (dug ss) (option_map view c.in_ok-value-in-First.value)) stepped)))))

pub returns-in_err-sources-in_default : goal.returns-in_err-sources-in_default
unfolding found
returns-in_err-sources-in_default c =
    let is : c.root-root_key.result.now ≡ root_of c.args.key.now =
    c.root-root_key.ensures ∙ ap (λ xs. root (map (λ x. x.now) xs)) c.deref.ensures.value ∙ ap root c.in_ok-parts.ensures in
    after_err _ (rw is at c.in_err-sources-in_default.ensures) c.from_residual-in_err-sources-in_default.ensures.1

pub returns : goal.returns
unfolding found
returns c =
    let is : c.root-root_key.result.now ≡ root_of c.args.key.now =
    c.root-root_key.ensures ∙ ap (λ xs. root (map (λ x. x.now) xs)) c.deref.ensures.value ∙ ap root c.in_ok-parts.ensures in
    after_ok _ (rw is at c.in_ok-sources-in_default.ensures) c.found_in.ensures
