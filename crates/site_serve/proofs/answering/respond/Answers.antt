use Rattle.std.proofs.Common.{◌≡◌, refl, ◌⊎◌, inl, rules}
use Rattle.site_serve.specs.Ends.{dialect}
use Rattle.site_serve.specs.Steps.{asked}
use Rattle.site_serve.proofs.Asked.{gives}
use Rattle.site_serve.proofs.Responding.{responds_by, responds_refused}
use Rattle.site_serve.proofs.answering.respond.Goals as goal

pub reply-requires-clause-facts : goal.reply-requires-clause-facts
reply-requires-clause-facts g c =
    gives g.L.Language.said_site c.args.request.now (asked c.in-Ok.call) c.in-Ok.ensures

pub returns-in-Ok : goal.returns-in-Ok
returns-in-Ok g c =
    responds_by g.L.Language.meaning g.L.Language.listed
    (dialect g.L.Language.said_site g.L.Language.catalog_form g.L.Language.fault_form) c.args.request.now
    (asked c.in-Ok.call) c.reply.result c.args.pass.now c.reply.new.pass c.in-Ok.ensures c.reply.ensures

pub returns-in-Err-Refused : goal.returns-in-Err-Refused
returns-in-Err-Refused g c =
    responds_refused g.L.Language.meaning g.L.Language.listed
    (dialect g.L.Language.said_site g.L.Language.catalog_form g.L.Language.fault_form) asked c.args.request.now
    c.in-Err-Refused.field-0 c.in-Err-Refused.why c.refusal_response.result c.args.pass.now c.args.pass.now
    c.in-Err-Refused.field-0-is c.in-Err-Refused.ensures refl c.refusal_response.ensures

pub returns-in-Err-Memory : goal.returns-in-Err-Memory
returns-in-Err-Memory g c = inl refl
