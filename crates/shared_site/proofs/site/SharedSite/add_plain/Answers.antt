use Rattle.std.proofs.Common.{◌∙◌, sym, ap, subst}
use Rattle.site_core.specs.Asked.{plain}
use Rattle.site_core.specs.Compiling.{added_reply}
use Rattle.shared_site.specs.Known.{IsAnswered}
use Rattle.shared_site.proofs.Answered.{plain_ended}
use Rattle.shared_site.proofs.site.SharedSite.add_plain.Goals as goal

pub returns : goal.returns
returns g c =
    subst (λ reply. IsAnswered g.L.Language.meaning g.L.Language.listed (plain c.args.what) reply c.args.pass.now
    c.append.new.pass) (sym (c.added.ensures ∙ ap (λ kind. added_reply kind c.append.result) c.kind-kind.ensures))
    (plain_ended g.L.Language.meaning g.L.Language.listed c.args.pass.now c.append.new.pass c.args.what
    c.append.result c.append.ensures.later c.append.ensures.legal c.append.ensures.asked)
