use Rattle.std.proofs.Common.{◌≡◌, ◌++◌, ◌∷◌, [], length, sym, ap, ◌∙◌, arith, append_assoc}
use Rattle.wide_apply.proofs.FiledLemmas.{slot_lines, slots_push, slots_rise}
use Rattle.wide_apply.proofs.ShareLemmas.{all_yielded}
use Rattle.wide_apply.proofs.filed.lines_of.Goals as goal

pub loop-slot-preserved : goal.loop-slot-preserved
loop-slot-preserved c = record {
  all = append_assoc c.loop-slot.yielded (c.in-Some.slot ∷ []) c.next.new.self.rest.items
      ∙ ap (λ l. c.loop-slot.yielded ++ l) (sym c.in-Some.ensures.steps.0) ∙ c.loop-slot.invariant.all;
  lines = c.in_ok-append.ensures.items ∙ ap (λ l. l ++ c.in-Some.slot.items) c.loop-slot.invariant.lines
      ∙ sym (slots_push c.loop-slot.yielded c.in-Some.slot);
}

pub returns : goal.returns
returns c =
    let rest = c.loop-slot.slot-iterator.rest in
    let over : length rest.items ≡ 0 = (let none = c.in-None.ensures.steps.0 in omega (arith, none, rest.ok)) in
    let all = all_yielded c.loop-slot.yielded rest.items c.args.slots.items c.loop-slot.invariant.all over in
    λ turned filed. c.from_vec.ensures ∙ c.loop-slot.invariant.lines ∙ ap slot_lines all
    ∙ slots_rise c.args.slots.items turned filed
