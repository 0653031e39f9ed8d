use Rattle.std.proofs.Common.{◌≡◌, None, Some, map, refl, ap, sym, ◌∙◌}
use Rattle.pp_values.specs.Places.{place_of}
use Rattle.pp_values.specs.Views.{view}
use Rattle.hiera_merge.specs.DeepSteps.{top, stacks}
use Rattle.hiera_merge.proofs.StackLemmas.{pushed, put_at}
use Rattle.hiera_merge.proofs.deepening.put_value.Goals as goal

pub returns-in_ok-raise_at-in-Some : goal.returns-in_ok-raise_at-in-Some
returns-in_ok-raise_at-in-Some c =
    let there : place_of (view c.args.key) (map top (stacks c.args.columns.now.items)) ≡ Some c.in-Some.place =
    ap (λ xs. place_of (view c.args.key) (map top (stacks xs))) (sym c.as_slice.ensures.value)
    ∙ sym c.place_of.ensures.place ∙ c.in-Some.is in
    c.in_ok-raise_at-in-Some.ensures ∙ sym (put_at _ _ _ _ there)

pub returns-in_ok-push-in-None : goal.returns-in_ok-push-in-None
returns-in_ok-push-in-None c =
    let nowhere : place_of (view c.args.key) (map top (stacks c.args.columns.now.items)) ≡ None =
    ap (λ xs. place_of (view c.args.key) (map top (stacks xs))) (sym c.as_slice.ensures.value)
    ∙ sym c.place_of.ensures.place ∙ c.in-None.is in
    pushed c.args.columns.now.items _ _ (view c.args.key) (view c.args.value) c.in_ok-push-in-None.ensures.items refl refl
    c.new.ensures.items nowhere
