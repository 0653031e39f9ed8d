use Rattle.std.proofs.Common.{rules, ◌≡◌, Some, sym, ap, ◌∙◌, get_or, to_z, of_z, w64}
use Rattle.pp_parser.specs.Keys.{text, number}
use Rattle.pp_parser.proofs.Doubled.{says_number, says_text, says_none, text_turns, number_turns, other_turns, doubled_end, walked_start}
use Rattle.pp_parser.proofs.keys.doubled_key.Goals as goal
use Rattle.pp_parser.proofs.keys.doubled_key.Goals.{in-Number+in_ok-is_new-in-Number, in_default, in-Text+in_ok-is_new-in-Text}

pub loop-at-init : goal.loop-at-init
loop-at-init c = walked_start c.args.pairs.now _ _ c.new-texts.ensures.empty c.new-numbers.ensures.empty

pub returns-then-not-is_new : goal.returns-then-not-is_new
returns-then-not-is_new c = elim c.match-get.branch [
  | in-Number+in_ok-is_new-in-Number w ↦
      (number_turns c.args.pairs.now c.loop-at.at c.index-pairs-at.result _ _ c.loop-at-test.true c.loop-at.invariant c.match-get.is_new c.match-get.texts.keys c.match-get.numbers.keys (to_z w64 (of_z w64 w.in-Number.n))
      (let same : w.in-Number.n ≡ to_z w64 (of_z w64 w.in-Number.n) = search rules in says_number (get_or c.args.pairs.now c.loop-at.at c.index-pairs-at.result).key _ c.get.ensures _ w.in-Number.is ∙ ap (λ z. Some (number z)) same) (w.is_new-is ∙ w.in_ok-is_new-in-Number.ensures.added) (ap (λ s. s.keys) w.texts-is) (ap (λ s. s.keys) w.numbers-is ∙ w.in_ok-is_new-in-Number.ensures.keys)).0 (search rules)
  | in_default w ↦
      (other_turns c.args.pairs.now c.loop-at.at c.index-pairs-at.result _ _ c.loop-at-test.true c.loop-at.invariant c.match-get.is_new c.match-get.texts.keys c.match-get.numbers.keys
      (says_none (get_or c.args.pairs.now c.loop-at.at c.index-pairs-at.result).key _ c.get.ensures w.in_default.not-Number w.in_default.not-Text w.in_default.not-Name) w.is_new-is (ap (λ s. s.keys) w.texts-is) (ap (λ s. s.keys) w.numbers-is)).0 (search rules)
  | in-Text+in_ok-is_new-in-Text w ↦
      (text_turns c.args.pairs.now c.loop-at.at c.index-pairs-at.result _ _ c.loop-at-test.true c.loop-at.invariant c.match-get.is_new c.match-get.texts.keys c.match-get.numbers.keys w.as_str.result
      (says_text (get_or c.args.pairs.now c.loop-at.at c.index-pairs-at.result).key _ c.get.ensures _ w.in-Text.is ∙ ap (λ t. Some (text t)) (sym w.as_str.ensures.text)) (w.is_new-is ∙ w.in_ok-is_new-in-Text.ensures.added) (ap (λ s. s.keys) w.texts-is ∙ w.in_ok-is_new-in-Text.ensures.keys) (ap (λ s. s.keys) w.numbers-is)).0 (search rules)
]

pub loop-at-preserved : goal.loop-at-preserved
loop-at-preserved c = elim c.match-get.branch [
  | in-Number+in_ok-is_new-in-Number w ↦
      (number_turns c.args.pairs.now c.loop-at.at c.index-pairs-at.result _ _ c.loop-at-test.true c.loop-at.invariant c.match-get.is_new c.match-get.texts.keys c.match-get.numbers.keys (to_z w64 (of_z w64 w.in-Number.n))
      (let same : w.in-Number.n ≡ to_z w64 (of_z w64 w.in-Number.n) = search rules in says_number (get_or c.args.pairs.now c.loop-at.at c.index-pairs-at.result).key _ c.get.ensures _ w.in-Number.is ∙ ap (λ z. Some (number z)) same) (w.is_new-is ∙ w.in_ok-is_new-in-Number.ensures.added) (ap (λ s. s.keys) w.texts-is) (ap (λ s. s.keys) w.numbers-is ∙ w.in_ok-is_new-in-Number.ensures.keys)).1 (search rules)
  | in_default w ↦
      (other_turns c.args.pairs.now c.loop-at.at c.index-pairs-at.result _ _ c.loop-at-test.true c.loop-at.invariant c.match-get.is_new c.match-get.texts.keys c.match-get.numbers.keys
      (says_none (get_or c.args.pairs.now c.loop-at.at c.index-pairs-at.result).key _ c.get.ensures w.in_default.not-Number w.in_default.not-Text w.in_default.not-Name) w.is_new-is (ap (λ s. s.keys) w.texts-is) (ap (λ s. s.keys) w.numbers-is)).1 (search rules)
  | in-Text+in_ok-is_new-in-Text w ↦
      (text_turns c.args.pairs.now c.loop-at.at c.index-pairs-at.result _ _ c.loop-at-test.true c.loop-at.invariant c.match-get.is_new c.match-get.texts.keys c.match-get.numbers.keys w.as_str.result
      (says_text (get_or c.args.pairs.now c.loop-at.at c.index-pairs-at.result).key _ c.get.ensures _ w.in-Text.is ∙ ap (λ t. Some (text t)) (sym w.as_str.ensures.text)) (w.is_new-is ∙ w.in_ok-is_new-in-Text.ensures.added) (ap (λ s. s.keys) w.texts-is ∙ w.in_ok-is_new-in-Text.ensures.keys) (ap (λ s. s.keys) w.numbers-is)).1 (search rules)
]

pub returns : goal.returns
returns c = doubled_end c.args.pairs.now _ _ _ (search rules) c.loop-at.invariant
