use Rattle.std.proofs.Common.{sym, subst}
use Rattle.res_core.specs.RequestViews.{wanted}
use Rattle.site_core.specs.Additions.{entry_of}
use Rattle.site_core.specs.Asked.{compile}
use Rattle.site_core.proofs.Meant.{may_publish}
use Rattle.site_sequence.specs.Sequence.{Takes}
use Rattle.site_sequence.specs.declared.sequence.TheConstants.{AUTHOR}
use Rattle.site_sequence.proofs.Taken.{told, published, limit_stays}
use Rattle.site_sequence.proofs.sequence.serve.Goals as goal

pub add-answer-requires : goal.add-answer-requires
add-answer-requires g c =
    may_publish g.L.Language.meaning g.L.Language.listed (wanted c.args.request.now) c.in-Ok.snapshot
    c.in-Ok-compile_under.catalog c.in-Ok-compile_under.addition c.args.core.now.history c.in-Ok-compile_under.ensures
    c.in-Ok.ensures.of

pub returns-in-Ok-compile_under-clause-turn : goal.returns-in-Ok-compile_under-clause-turn
returns-in-Ok-compile_under-clause-turn g c =
    subst (λ reply. Takes g.L.Language.meaning g.L.Language.listed c.args.core.now.limit c.args.core.now.history
    (compile (wanted c.args.request.now)) reply c.add-answer.new.core.history) (sym c.served.ensures)
    (published g.L.Language.meaning g.L.Language.listed c.args.core.now c.add-answer.new.core c.in-Ok.snapshot
    (wanted c.args.request.now) c.in-Ok-compile_under.catalog c.in-Ok-compile_under.addition c.add-answer.result
    c.in-Ok.ensures.of c.in-Ok.ensures.number c.in-Ok-compile_under.ensures c.add-answer.ensures.stop
    c.add-answer.ensures.ok c.add-answer.ensures.err)

pub returns-in-Ok-compile_under-clause-limit : goal.returns-in-Ok-compile_under-clause-limit
returns-in-Ok-compile_under-clause-limit g c =
    limit_stays c.args.core.now c.add-answer.new.core
    (entry_of c.in-Ok-compile_under.addition AUTHOR c.args.core.now.history) c.add-answer.result
    c.add-answer.ensures.ok c.add-answer.ensures.err

pub returns-in-Err-clause-turn : goal.returns-in-Err-clause-turn
returns-in-Err-clause-turn g c =
    told g.L.Language.meaning g.L.Language.listed c.args.core.now.limit c.args.core.now.history c.in-Ok.snapshot
    (wanted c.args.request.now) c.in-Err.reply c.in-Ok.ensures.of c.in-Ok.ensures.number
    c.in-Err.ensures
