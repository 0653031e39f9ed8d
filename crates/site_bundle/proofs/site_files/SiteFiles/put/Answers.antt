use Rattle.std.proofs.Common.{sym, ap, ap₂, subst, ◌∙◌}
use Rattle.std.specs.Prelude.{IsTrue}
use Rattle.std.specs.FinMap.{put}
use Rattle.pp_values.specs.Rising.{text_cmp}
use Rattle.site_bundle.specs.Listing.{text_of, filed, AreRead}
use Rattle.site_bundle.specs.SiteView.{are_rising}
use Rattle.site_bundle.proofs.SiteLemmas.{shown-insert, rising-put, are_read-insert}
use Rattle.site_bundle.proofs.site_files.SiteFiles.put.Goals as goal

pub invariant_of-self-2 : goal.invariant_of-self-2
invariant_of-self-2 c =
    let es = c.self.inside.by_path.entries in
    let path = c.in_ok-path.path in
    let file = c.in_ok-path.file in
    let is = ap filed c.in_ok-insert.ensures.entries ∙ shown-insert text_of es path file in (
      subst (λ l. IsTrue (are_rising l)) (sym is) (rising-put path file.text (filed es) c.self.invariant.0),
      subst AreRead (sym c.in_ok-insert.ensures.entries)
          (are_read-insert es path file c.in_ok-path.ensures.read c.self.invariant.1),
    )

pub returns : goal.returns
returns c =
    let path = c.in_ok-path.path in
    let file = c.in_ok-path.file in
    ap filed c.in_ok-insert.ensures.entries ∙ shown-insert text_of c.self.inside.by_path.entries path file
    ∙ ap (put text_cmp path file.text) c.self.view_is
    ∙ ap₂ (λ p t. put text_cmp p t c.args.self.now) c.in_ok-path.ensures.path c.in_ok-path.ensures.text
