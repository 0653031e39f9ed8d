use Rattle.std.proofs.Common.{◌++◌, ◌∷◌, [], ap, ap₂, ◌∙◌, append-nil}
use Rattle.wide_apply.specs.Shares.{dealt}
use Rattle.wide_apply.proofs.ShareLemmas.{dealt_push}
use Rattle.wide_apply.proofs.sharing.deal.Goals as goal

pub returns : goal.returns
returns g c =
    ap₂ (λ a b. dealt a ++ b) c.in_ok-push.ensures.items
    (ap (λ v. v.items) c.replace-turns.ensures.after ∙ c.new.ensures.items)
    ∙ append-nil (dealt (c.args.shares.now.items ++ _ ∷ [])) ∙ dealt_push c.args.shares.now.items _
    ∙ ap (λ v. dealt c.args.shares.now.items ++ v.items) c.replace-turns.ensures.value
