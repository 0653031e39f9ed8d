use Rattle.std.proofs.Common.{sym, ap, subst, ◌∙◌}
use Rattle.std.specs.Prelude.{IsTrue}
use Rattle.std.specs.FinMap.{put}
use Rattle.pp_values.specs.Rising.{text_cmp}
use Rattle.site_bundle.specs.Listing.{AreShort}
use Rattle.site_bundle.specs.SiteView.{are_rising}
use Rattle.site_bundle.proofs.SiteLemmas.{insert-put, rising-put, short-put}
use Rattle.site_bundle.proofs.manifest_texts.ManifestTexts.put.Goals as goal

pub invariant_of-self-2 : goal.invariant_of-self-2
invariant_of-self-2 c =
    let es = c.self.inside.by_path.entries in
    let is = c.in_ok-insert.ensures.entries ∙ insert-put es c.args.path c.args.text in (
      subst (λ l. IsTrue (are_rising l)) (sym is) (rising-put c.args.path c.args.text es c.self.invariant.0),
      subst AreShort (sym is) (short-put es c.args.path c.args.text c.requires c.self.invariant.1),
    )

pub returns : goal.returns
returns c =
    c.in_ok-insert.ensures.entries ∙ insert-put c.self.inside.by_path.entries c.args.path c.args.text
    ∙ ap (put text_cmp c.args.path c.args.text) c.self.view_is
