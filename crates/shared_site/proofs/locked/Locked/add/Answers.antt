use Rattle.std.proofs.Common.{ap, arith}
use Rattle.shared_site.proofs.Turns.{added_parted}
use Rattle.shared_site.proofs.locked.Locked.add.Goals as goal

pub invariant_of-self : goal.invariant_of-self
invariant_of-self g c = (
  added_parted (record {
    limit = c.self.inside.state.limit;
    base = c.self.inside.base;
    given = c.self.inside.given;
  }) c.self.inside.state c.add.new.core c.args.addition c.args.author c.add.result c.self.invariant.0
      (let base = ap (λ s. s.terms.base) c.self.view_is in omega (arith, base, c.requires.own))
      c.add.ensures.ok c.add.ensures.err,
  c.self.invariant.1,
)
