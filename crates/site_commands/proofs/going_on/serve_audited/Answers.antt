use Rattle.std.proofs.Common.{refl, subst, sym, ◌∙◌}
use Rattle.command_outputs.proofs.Resumed.{legal_by}
use Rattle.command_outputs.specs.Journals.{verdict_line}
use Rattle.compile_core.specs.Puppet.{puppet}
use Rattle.history_audit.specs.Audits.{audited}
use Rattle.site_commands.proofs.GoneOn.{legal_served, broken_told}
use Rattle.site_commands.proofs.going_on.serve_audited.Goals as goal

pub serve_legal-requires-clause-legal : goal.serve_legal-requires-clause-legal
serve_legal-requires-clause-legal g c κs within =
    legal_by c.args.verdict _ c.args.history.entries c.says_legal_exactly.ensures c.requires.audited c.in-Legal.is

pub returns-in-Legal : goal.returns-in-Legal
returns-in-Legal g c = legal_served c.args.verdict _ c.serve_legal.result c.args.history.entries c.args.count _ _ _ _ _ _
    c.requires.audited c.in-Legal.is c.serve_legal.ensures

pub returns-in-Broken : goal.returns-in-Broken
returns-in-Broken g c = broken_told c.args.verdict _ _ c.write_made.result c.refuse_history.result c.args.history.entries
    c.args.count _ _ _ _ _ _ c.requires.audited c.in-Broken.is c.refuse_history.ensures c.write_made.ensures refl
