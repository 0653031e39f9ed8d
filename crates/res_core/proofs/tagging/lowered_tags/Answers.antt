use Rattle.std.proofs.Common.{sym, ap, ◌∙◌}
use Rattle.std.specs.List.{list_all}
use Rattle.res_core.specs.TagNames.{is_lower_byte}
use Rattle.res_core.proofs.NameLemmas.{copy_holds, put_holds}
use Rattle.res_core.proofs.tagging.lowered_tags.Goals as goal

pub returns-then-are_all_lower-clause-names : goal.returns-then-are_all_lower-clause-names
returns-then-are_all_lower-clause-names c =
    copy_holds c.copy_with_room.result c.args.tags.now
    (ap (list_all (list_all is_lower_byte)) (sym c.as_slice.ensures.tags) ∙ sym c.are_all_lower.ensures
    ∙ c.if-are_all_lower.true)
    c.copy_with_room.ensures

pub returns-clause-names : goal.returns-clause-names
returns-clause-names c =
    put_holds c.in_order.result c.put_all.new.all.items c.new-all.result.items c.as_slice-2.result.now c.args.tags.now
    c.in_order.ensures c.in_ok-put_all.ensures c.new-all.ensures.items c.as_slice-2.ensures.tags
