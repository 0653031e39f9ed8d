use Rattle.std.proofs.Common.{sym, subst}
use Rattle.res_core.specs.RequestViews.{wanted}
use Rattle.site_core.specs.Asked.{compile}
use Rattle.site_core.proofs.Meant.{may_publish}
use Rattle.shared_site.specs.Known.{IsAnswered}
use Rattle.shared_site.proofs.Answered.{told, published, gated}
use Rattle.shared_site.proofs.site.SharedSite.serve_one.Goals as goal

pub append-answer-requires-clause-may : goal.append-answer-requires-clause-may
append-answer-requires-clause-may g c =
    may_publish g.L.Language.meaning g.L.Language.listed (wanted c.args.request.now) c.in-Ok.snapshot
    c.in-Ok-compiled.catalog c.in-Ok-compiled.addition c.snap.new.pass.front c.in-Ok-compiled.ensures c.in-Ok.ensures.of

pub returns-in-Ok-compiled-clause-answered : goal.returns-in-Ok-compiled-clause-answered
returns-in-Ok-compiled-clause-answered g c =
    subst (λ reply. IsAnswered g.L.Language.meaning g.L.Language.listed (compile (wanted c.args.request.now)) reply
    c.args.pass.now c.append-answer.new.pass) (sym c.served.ensures)
    (published g.L.Language.meaning g.L.Language.listed c.args.pass.now c.snap.new.pass c.append-answer.new.pass
    c.in-Ok.snapshot (wanted c.args.request.now) c.in-Ok-compiled.catalog c.in-Ok-compiled.addition
    c.append-answer.result
    (record {
      later = c.in-Ok.ensures.later;
      own = c.in-Ok.ensures.own;
      legal = c.in-Ok.ensures.legal;
      number = c.in-Ok.ensures.number;
      of = c.in-Ok.ensures.of;
    })
    c.in-Ok-compiled.ensures c.append-answer.ensures.later c.append-answer.ensures.legal c.append-answer.ensures.asked)

pub returns-in-Err-clause-answered : goal.returns-in-Err-clause-answered
returns-in-Err-clause-answered g c =
    told g.L.Language.meaning g.L.Language.listed c.args.pass.now c.snap.new.pass c.in-Ok.snapshot
    (wanted c.args.request.now) c.in-Err.reply
    (record {
      later = c.in-Ok.ensures.later;
      own = c.in-Ok.ensures.own;
      legal = c.in-Ok.ensures.legal;
      number = c.in-Ok.ensures.number;
      of = c.in-Ok.ensures.of;
    })
    c.in-Err.ensures

pub returns-in-Ok-compiled-clause-gated : goal.returns-in-Ok-compiled-clause-gated
returns-in-Ok-compiled-clause-gated g c = gated _ _ c.go_through.ensures

pub returns-in-Err-clause-gated : goal.returns-in-Err-clause-gated
returns-in-Err-clause-gated g c = gated _ _ c.go_through.ensures
