use Rattle.std.proofs.Common.{◌≡◌, ◌++◌, Some, Ok, Err, option_map, refl, sym, ap, ◌∙◌}
use Rattle.std.proofs.Math.ListN.{drop_of_length-le}
use Rattle.pp_values.specs.declared.fault.What.TheVariants as what
use Rattle.pp_values.specs.Views.{view}
use Rattle.hiera_config.proofs.Meets.{after_ok, after_err, gives, refuses, same_meets}
use Rattle.hiera_lookup.specs.Asks.{asks}
use Rattle.hiera_lookup.specs.Look.{answer, interpolated, merge_for, look_within, look}
use Rattle.hiera_lookup.specs.World.{seen}
use Rattle.hiera_lookup.proofs.LiteralValues.{literal_whole}
use Rattle.hiera_lookup.proofs.PlainOptions.{plain_is}
use Rattle.hiera_lookup.proofs.Steps.{look_busy, look_deep, look_free, answers_at, answers_made, answers_end, interpolated_by, option_hash, option_looked}
use Rattle.hiera_lookup.proofs.looking.+look.Goals as goal

pub look_within-returns-in_err-merge : goal.look_within-returns-in_err-merge
unfolding look_within
look_within-returns-in_err-merge t c = after_err _ c.in_err-merge.ensures c.from_residual.ensures.1

pub look_within-returns-in_err-value : goal.look_within-returns-in_err-value
unfolding look_within
look_within-returns-in_err-value t c =
    after_ok _ c.in_ok-merge.ensures (after_err _ c.in_err-value.ensures c.from_residual-in_err-value.ensures.1)

pub look_within-returns : goal.look_within-returns
unfolding look_within
look_within-returns t c =
    after_ok _ c.in_ok-merge.ensures
    (after_ok _ c.in_ok-value.ensures
    c.interpolated.ensures)

pub option_for-returns-then-eq : goal.option_for-returns-then-eq
option_for-returns-then-eq t c = same_meets (option_hash _ _ _ _ _ (sym c.eq.ensures ∙ c.if-eq.true)) (gives refl)

pub option_for-returns-in-Some : goal.option_for-returns-in-Some
option_for-returns-in-Some t c =
    gives (plain_is _ _ _ _ _ _ (sym c.in-Some.is ∙ c.in_ok-merge.ensures) (sym c.eq.ensures ∙ c.if-eq.false))

pub option_for-returns-in_err-options : goal.option_for-returns-in_err-options
option_for-returns-in_err-options t c =
    same_meets (option_looked _ _ _ _ _ (sym c.eq.ensures ∙ c.if-eq.false))
    (after_err _ c.in_err-options.ensures c.from_residual-in_err-options.ensures.1)

pub option_for-returns : goal.option_for-returns
option_for-returns t c =
    same_meets (option_looked _ _ _ _ _ (sym c.eq.ensures ∙ c.if-eq.false))
    (after_ok _ c.in_ok-options.ensures c.option_in.ensures)

pub look-returns-then-is_busy : goal.look-returns-then-is_busy
look-returns-then-is_busy t c =
    refuses _ _ c.loop_at.ensures (look_busy _ _ _ _ _ _ (sym c.is_busy.ensures ∙ c.if-is_busy.true))

pub look-returns-then-left-eq0 : goal.look-returns-then-left-eq0
look-returns-then-left-eq0 t c =
    refuses _ what.DepthLimit c.too_deep.ensures
    (look_deep _ _ _ _ _ _ (sym c.is_busy.ensures ∙ c.if-is_busy.false) c.if-left-eq0.true)

pub look-returns : goal.look-returns
look-returns t c =
    same_meets (look_free _ _ _ _ _ _ (sym c.is_busy.ensures ∙ c.if-is_busy.false) c.if-left-eq0.false)
    (rw c.in_ok-busy.ensures at c.look_within.ensures)

pub answers-loop-ask-preserved : goal.answers-loop-ask-preserved
answers-loop-ask-preserved t c =
    answers_made (look (seen c.args.world.now) c.args.left) _ _ _ _ _ _ c.loop-ask-test.true c.ask-item.is
    (c.in_ok-answer.ensures.ok _ refl) _ c.in_ok-done.ensures
    ∙ c.loop-ask.invariant

pub answers-returns-in_err-answer : goal.answers-returns-in_err-answer
answers-returns-in_err-answer t c =
    same_meets (sym c.loop-ask.invariant ∙ answers_at _ _ _ _ _ _ c.loop-ask-test.true c.ask-item.is)
    (after_err _ c.in_err-answer.ensures c.from_residual.ensures.1)

pub answers-returns : goal.answers-returns
answers-returns t c =
    gives (sym c.loop-ask.invariant ∙ answers_end _ _ _ _ (drop_of_length-le c.args.asked.now c.loop-ask-test.false))

pub interpolated-returns-in-None : goal.interpolated-returns-in-None
unfolding interpolated
interpolated-returns-in-None t c = rw c.in-None.is (gives (ap Ok (sym c.without_answers.ensures)))

pub interpolated-returns-then-is_literal : goal.interpolated-returns-then-is_literal
interpolated-returns-then-is_literal t c =
    same_meets
    (ap (λ o. interpolated (seen c.args.world.now) (look (seen c.args.world.now) c.args.left) c.args.busy.now
    (option_map view o)) c.in-Some.is
    ∙ literal_whole _ _ _ _ (sym c.is_literal.ensures ∙ c.if-is_literal.true))
    (gives (ap Ok (sym c.without_answers-then-is_literal.ensures)))

pub interpolated_value-returns-in_err-answers : goal.interpolated_value-returns-in_err-answers
interpolated_value-returns-in_err-answers t c =
    let asked : c.deref.result.now ≡ asks (view c.args.value.now) =
    c.deref.ensures.value ∙ c.in_ok-add_asks.ensures
    ∙ ap (λ xs. xs ++ asks (view c.args.value.now)) c.new-asked.ensures.items in
    same_meets (interpolated_by _ _ _ _ c.deref.result.now asked)
    (after_err _ c.in_err-answers.ensures c.from_residual-in_err-answers.ensures.1)

pub interpolated_value-returns : goal.interpolated_value-returns
interpolated_value-returns t c =
    let asked : c.deref.result.now ≡ asks (view c.args.value.now) =
    c.deref.ensures.value ∙ c.in_ok-add_asks.ensures
    ∙ ap (λ xs. xs ++ asks (view c.args.value.now)) c.new-asked.ensures.items in
    same_meets (interpolated_by _ _ _ _ c.deref.result.now asked)
    (after_ok _ c.in_ok-answers.ensures
    (gives (ap (λ d. Ok (Some d, c.in_ok-answers.answers)) (sym c.in_ok-value.ensures))))

pub answer-returns-in_err-looked-in-Key : goal.answer-returns-in_err-looked-in-Key
unfolding answer
answer-returns-in_err-looked-in-Key t c =
    let looked = rw (c.module_of.ensures, c.as_str.ensures.text, c.as_str-in-Key.ensures.text) at
    c.in_err-looked-in-Key.ensures in
    rw c.in-Key.is (after_err _ looked c.from_residual.ensures.1)

pub answer-returns-in_ok-copy-in-Key : goal.answer-returns-in_ok-copy-in-Key
unfolding answer
answer-returns-in_ok-copy-in-Key t c =
    let looked = rw (c.module_of.ensures, c.as_str.ensures.text, c.as_str-in-Key.ensures.text) at
    c.in_ok-looked-in-Key.ensures in
    rw c.in-Key.is
    (after_ok _ looked
    (gives (ap Ok (sym (c.new.ensures
    ∙ ap (λ k. (k, option_map view c.in_ok-looked-in-Key.looked.value)) c.in_ok-copy-in-Key.ensures)))))

pub answer-returns-in-Broken : goal.answer-returns-in-Broken
unfolding answer
answer-returns-in-Broken t c =
    rw c.in-Broken.is (refuses _ _ c.bad_interpolation.ensures
    (ap (λ x. Err (what.BadInterpolation x)) (sym c.as_str-in-Broken.ensures.text)))

pub merge_for-returns-in-Some : goal.merge_for-returns-in-Some
unfolding merge_for
merge_for-returns-in-Some t c = rw c.in-Some.is (gives refl)

pub merge_for-returns-in_ok-root-in-None : goal.merge_for-returns-in_ok-root-in-None
unfolding merge_for
merge_for-returns-in_ok-root-in-None t c = rw c.in-None.is (rw c.in_ok-root-in-None.ensures at c.option_for.ensures)
