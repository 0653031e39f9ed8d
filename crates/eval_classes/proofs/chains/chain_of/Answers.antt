use Rattle.std.proofs.Common.{ap, sym, ◌∙◌, ◌+◌}
use Rattle.std.specs.Option.{option_copied}
use Rattle.eval_classes.specs.Definitions.{class_name}
use Rattle.eval_classes.specs.Stacks.{stack_of, class_seen}
use Rattle.eval_classes.proofs.Links.{moved, one_more}
use Rattle.eval_classes.proofs.Stacks.{put_on}
use Rattle.eval_classes.proofs.chains.chain_of.Goals as goal

pub loop-turn-preserved : goal.loop-turn-preserved
loop-turn-preserved c =
    let m = c.args.environment.now in
    let book = c.args.book.now in
    let turn = c.loop-turn._turn in
    let last = c.loop-turn.last in
    let name = c.loop-turn.name in
    let class = c.args.class in
    let next = c.in-Some.next.now in
    let before = c.loop-turn.before.items in
    let found = sym c.in_ok-next.ensures ∙ ap option_copied c.in-Some.is in
    let one = one_more m book turn (class_name class.now) class.now (stack_of class_seen before) name _ last.now next
    c.loop-turn.invariant c.in_ok-parent.ensures found in
    moved m book (turn + 1) (class_name class.now) class.now _ _ _ _ next
    (sym (ap (stack_of class_seen) c.in_ok-push.ensures.items ∙ put_on class_seen before last))
    (sym c.or_name-name.ensures) one
