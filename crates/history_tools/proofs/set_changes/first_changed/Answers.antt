use Rattle.std.proofs.Common.{◌≡◌, true, false, Some}
use Rattle.std.specs.FinMap as fin
use Rattle.history_tools.specs.SameSets.{same_choice}
use Rattle.history_tools.proofs.SameSets.{choice_is, choice_apart}
use Rattle.history_tools.proofs.Changed.{first_here, first_looked}
use Rattle.history_tools.proofs.set_changes.first_changed.Goals as goal

pub returns-else-is_same_choice : goal.returns-else-is_same_choice
returns-else-is_same_choice c =
    let apart : same_choice (fin.get c.args.before.now c.node-item.result) (fin.get c.args.after.now
    c.node-item.result) ≡ false =
    cc (c.is_same_choice.ensures, c.get.ensures, c.get-in-len1-up.ensures, c.if-is_same_choice.false) in
    c.loop-left.invariant (Some c.node-item.result)
    (first_here c.args.before.now c.args.after.now c.loop-left.left.now c.node-item.result c.in-len1-up.len_at_least
    c.node-item.is (choice_apart _ _ apart))

pub loop-left-preserved : goal.loop-left-preserved
loop-left-preserved c =
    let same : same_choice (fin.get c.args.before.now c.node-item.result) (fin.get c.args.after.now
    c.node-item.result) ≡ true =
    cc (c.is_same_choice.ensures, c.get.ensures, c.get-in-len1-up.ensures, c.if-is_same_choice.true) in
    first_looked c.args.before.now c.args.after.now c.loop-left.left.now c.args.nodes.now c.node-item.result
    c.in-len1-up.len_at_least c.node-item.is (choice_is _ _ same) c.loop-left.invariant
