use Rattle.std.proofs.Common.{◌≡◌, true, false, sym, ap, ◌∙◌}
use Rattle.std.specs.List.{list_any}
use Rattle.pp_values.specs.Keys.{same_key}
use Rattle.pp_values.specs.Views.{view}
use Rattle.hiera_merge.specs.Merges.{pairs_in}
use Rattle.hiera_lookup.specs.Filled.{answer_to, as_key, filled}
use Rattle.hiera_lookup.specs.Options.{has_options}
use Rattle.hiera_lookup.specs.World.{seen}
use Rattle.hiera_lookup.proofs.Sources.{path_here, path_later}
use Rattle.hiera_lookup.proofs.option_reading.highest_path.Goals as goal

pub returns-then-branch : goal.returns-then-branch
returns-then-branch c =
    let w = seen c.args.world.now in
    let has : has_options w c.args.answers.now c.args.root.now (view c.source-item.result.value) ≡ true =
    ap (λ k. list_any (λ p. same_key k (as_key (filled w.reads (answer_to c.args.answers.now) p.0)))
    (pairs_in (view c.source-item.result.value)))
    (sym c.loop-source.invariant.1) ∙ sym c.in_ok-has_options.ensures ∙ c.if-branch.true in
    c.as_str.ensures.text ∙ sym (c.loop-source.invariant.0
    ∙ path_here w _ _ _ _ _ c.loop-source-test.true c.source-item.is has)

pub loop-source-preserved : goal.loop-source-preserved
loop-source-preserved c =
    let w = seen c.args.world.now in
    let lacks : has_options w c.args.answers.now c.args.root.now (view c.source-item.result.value) ≡ false =
    ap (λ k. list_any (λ p. same_key k (as_key (filled w.reads (answer_to c.args.answers.now) p.0)))
    (pairs_in (view c.source-item.result.value)))
    (sym c.loop-source.invariant.1) ∙ sym c.in_ok-has_options.ensures ∙ c.if-branch.false in (
      c.loop-source.invariant.0 ∙ path_later w _ _ _ _ _ c.loop-source-test.true c.source-item.is lacks,
      c.loop-source.invariant.1,
    )
