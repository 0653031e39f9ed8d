use Rattle.class_eval.proofs.Levels.{no_level, one_level}
use Rattle.class_eval.proofs.knot.+evaluate.Goals as goal

pub returns-then-left-eq0 : goal.returns-then-left-eq0
returns-then-left-eq0 t c =
    rw (no_level c.args.left c.args.goal c.args.here c.args.world.now c.if-left-eq0.true) c.too_deep.ensures

pub returns-in-Value : goal.returns-in-Value
returns-in-Value t c =
    rw (one_level c.args.left c.args.goal c.args.here c.args.world.now c.if-left-eq0.false, c.in-Value.is) c.form.ensures

pub returns-in-Block : goal.returns-in-Block
returns-in-Block t c =
    rw (one_level c.args.left c.args.goal c.args.here c.args.world.now c.if-left-eq0.false, c.in-Block.is) c.block.ensures

pub returns-in-Words : goal.returns-in-Words
returns-in-Words t c =
    rw (one_level c.args.left c.args.goal c.args.here c.args.world.now c.if-left-eq0.false, c.in-Words.is) c.words.ensures

pub returns-in-Target : goal.returns-in-Target
returns-in-Target t c =
    rw (one_level c.args.left c.args.goal c.args.here c.args.world.now c.if-left-eq0.false, c.in-Target.is)
    c.target_of.ensures

pub returns-in-Class : goal.returns-in-Class
returns-in-Class t c =
    rw (one_level c.args.left c.args.goal c.args.here c.args.world.now c.if-left-eq0.false, c.in-Class.is)
    c.class_body.ensures

pub returns-in-Instance : goal.returns-in-Instance
returns-in-Instance t c =
    rw (one_level c.args.left c.args.goal c.args.here c.args.world.now c.if-left-eq0.false, c.in-Instance.is)
    c.instance_body.ensures
