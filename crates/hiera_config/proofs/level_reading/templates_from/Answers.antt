use Rattle.std.proofs.Common.{◌+◌, ◌∷◌, [], ◌++◌, sym, ap, ◌∙◌, drop}
use Rattle.std.proofs.Math.ListN.{drop_of_length-le}
use Rattle.serde_json.specs.View.{items_view}
use Rattle.json_values.proofs.Items.{item_at}
use Rattle.hiera_config.specs.Config.{texts_from}
use Rattle.hiera_config.proofs.ReadLists.{so_far, all_read, text_read, no_text}
use Rattle.hiera_config.proofs.level_reading.templates_from.Goals as goal

pub returns : goal.returns
returns c =
    sym (sym c.loop-item.invariant
    ∙ ap (λ js. so_far c.loop-item.templates (texts_from (items_view js)))
    (drop_of_length-le c.args.items.now c.loop-item-test.false)
    ∙ all_read c.loop-item.templates)

pub returns-in-None : goal.returns-in-None
returns-in-None c =
    sym (sym c.loop-item.invariant
    ∙ ap (λ js. so_far c.loop-item.templates (texts_from (items_view js)))
    (item_at _ _ _ c.loop-item-test.true c.item-item.is)
    ∙ no_text _ _ _ (sym c.in-None.ensures))

pub loop-item-preserved : goal.loop-item-preserved
loop-item-preserved c =
    ap (λ d. so_far d (texts_from (items_view (drop (c.loop-item.item-index + 1) c.args.items.now))))
    (c.in_ok-push-in-Some.ensures.ok ∙ ap (λ t. c.loop-item.templates ++ t ∷ []) (c.new.ensures ∙ c.in_ok-from_str-in-Some.ensures))
    ∙ text_read _ _ c.item-item.result _ (sym c.in-Some.ensures)
    ∙ ap (λ js. so_far c.loop-item.templates (texts_from (items_view js)))
    (sym (item_at _ _ _ c.loop-item-test.true c.item-item.is))
    ∙ c.loop-item.invariant
