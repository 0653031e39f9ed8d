use Rattle.std.proofs.Common.{[], ap, ◌∙◌, ◌++◌, map, subst, if◌then◌else◌}
use Rattle.res_core.specs.TagNames.{lowered, is_taggable, with_segments, AddsTexts}
use Rattle.res_core.proofs.NameLemmas.{own_put}
use Rattle.res_core.proofs.tagging.own_names.Goals as goal

pub returns : goal.returns
returns c =
    own_put c.args.kind.now c.args.title.now c.args.given.now c.in_ok-own.own.items c.put_all.new.all.items
    c.put_title.new.all.items c.put_with_segments.new.all.items c.in_ok-own.ensures.items
    (c.in_ok-put_all.ensures ∙ ap (λ ts. c.in_ok-own.own.items ++ map lowered ts) c.as_slice.ensures)
    (subst (λ t. AddsTexts c.put_all.new.all.items c.put_title.new.all.items
    (map lowered (if is_taggable t then with_segments t else []))) c.as_str.ensures.text c.in_ok-put_title.ensures)
    (subst (λ k. AddsTexts c.put_title.new.all.items c.put_with_segments.new.all.items (map lowered (with_segments k)))
    c.as_str-2.ensures.text c.in_ok-put_with_segments.ensures)
