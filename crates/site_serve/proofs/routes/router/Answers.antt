use Rattle.std.proofs.Common.{refl}
use Rattle.matchit.proofs.OnLiterals.{matchit_on_literals}
use Rattle.site_serve.proofs.routes.router.Goals as goal

pub returns : goal.returns
unfolding matchit_on_literals
returns c =
    let catalog = c.in_ok-insert.ensures in
    let node = c.in_ok-insert-2.ensures in
    let report = c.in_ok-insert-3.ensures in
    let site = c.in_ok-insert-4.ensures in
    rw (site.1, report.1, node.1, catalog.1, c.new-router.ensures) refl
