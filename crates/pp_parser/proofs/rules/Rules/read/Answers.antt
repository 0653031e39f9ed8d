use Rattle.std.proofs.Common.{Err, sym, ap, ◌∙◌, arith}
use Rattle.pp_parser.proofs.Turns.{read_none, read_within}
use Rattle.pp_parser.proofs.rules.Rules.read.Goals as goal

pub returns-then-self-eq0 : goal.returns-then-self-eq0
returns-then-self-eq0 g c _ = read_none c.args.self.now.levels c.args.goal c.args.tokens.now c.if-self-eq0.true ∙ ap (λ e. Err e) (sym c.refusal.ensures)

pub returns : goal.returns
returns g c = rw (read_within c.args.self.now.levels c.args.goal c.args.tokens.now (omega arith)) (c.requires.reads _ _ _ _ _ _ (omega arith) c.inner.ensures)
