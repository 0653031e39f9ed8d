-- All requests so far were answered.
use Rattle.std.proofs.Common.{◌≡◌, ◌≤◌, ◌*◌}
use Rattle.site_serve.specs.Ends.{dialect}
use Rattle.site_serve.specs.Steps.{HasServed}
use Rattle.site_serve.proofs.serving.answer_all.Given as goal

abbrev pub invariant-loop-answered : goal.invariant-loop-answered
invariant-loop-answered g l =
    (l.pass.site ≡ l.site) × (l.offset ≤ l._answered * 4294967296)
    × HasServed g.L.Language.meaning g.L.Language.listed
    (dialect g.L.Language.said_site g.L.Language.catalog_form g.L.Language.fault_form) l.fn.pass l.pass
    (g.C.Outside.stream l.fn.connection) (g.C.Outside.stream l.connection) l.rest l.offset l._answered
