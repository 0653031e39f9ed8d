use Rattle.std.proofs.Common.{◌∙◌, arith}
use Rattle.shared_site.proofs.Parted.{resumed_is, resumed_kept}
use Rattle.shared_site.proofs.locked.Locked.resume.Goals as goal

pub invariant_of-result : goal.invariant_of-result
invariant_of-result g c = (
  (resumed_kept c.args.history.entries c.args.limit _
      (resumed_is c.args.history.entries c.args.limit c.in_ok-state.state c.past.result c.len-given.result
      c.in_ok-state.ensures.1 (c.past.ensures ∙ c.greatest_author-greatest.ensures) c.len-given.ensures)).0,
  omega (arith, c.in_ok-state.ensures.0, c.past.ensures, c.greatest_author-greatest.ensures),
)

pub returns : goal.returns
returns g c =
    let is = resumed_is c.args.history.entries c.args.limit c.in_ok-state.state c.past.result c.len-given.result
    c.in_ok-state.ensures.1 (c.past.ensures ∙ c.greatest_author-greatest.ensures) c.len-given.ensures in
    (c.in_ok-state.ensures.0, (is, (resumed_kept c.args.history.entries c.args.limit _ is).1))
