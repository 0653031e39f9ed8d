use Rattle.std.proofs.Common.{◌≡◌, ◌+◌, None, ◌∙◌, ap, sym}
use Rattle.std.proofs.lemmas.List.Elements.{All-map}
use Rattle.site_core.proofs.Legal.{some_entry}
use Rattle.shared_site.specs.Shows.{Shown, mark, author_shown}
use Rattle.shared_site.proofs.Turns.{sees, first_known}
use Rattle.shared_site.proofs.site.share.Goals as goal

pub new-requires : goal.new-requires
new-requires g c =
    All-map (λ (x : Shown g.row.L-Site.Denot). author_shown x ≡ None) (mark c.args.locked.terms) c.args.locked.history
    c.requires

pub invariant_of-pass : goal.invariant_of-pass
invariant_of-pass g c =
    sees g.L.Language.meaning c.in_ok-lock.pass c.len-count.result c.author-author.result c.args.locked
    c.len-count.ensures.lasts c.len-count.ensures.len
    (c.author-author.ensures ∙ ap (λ x. c.args.locked.terms.base + x) (sym (ap (λ p. p.author) c.in_ok-lock.ensures.ok)))
    (ap (λ p. p.front) c.in_ok-lock.ensures.ok) (ap (λ p. p.turn) c.in_ok-lock.ensures.ok)

pub returns : goal.returns
returns g c =
    first_known c.in_ok-lock.lock c.args.locked c.in_ok-lock.pass
    (some_entry g.L.Language.meaning c.args.locked.history c.len-count.ensures.lasts.sound.legal) c.in_ok-lock.ensures.ok
