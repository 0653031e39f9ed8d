use Rattle.std.proofs.Common.{sym, ap, subst, ◌∙◌}
use Rattle.std.specs.FinMap.{put}
use Rattle.pp_values.specs.Rising.{text_cmp}
use Rattle.hiera_config.specs.Keeping.{filed, IsKept, AreKept}
use Rattle.hiera_config.proofs.FileLemmas.{filed_insert, kept_insert}
use Rattle.hiera_config.proofs.PlanLemmas.{empty_plan_at}
use Rattle.hiera_config.proofs.site_data.SiteData.read.Goals as goal

pub invariant_of-self-2 : goal.invariant_of-self-2
invariant_of-self-2 c = (
  subst AreKept (sym c.in_ok-insert.ensures.entries)
      (kept_insert c.self.inside.by_path.entries c.args.path c.in_ok-file.file
      (subst (λ p. IsKept p c.in_ok-file.file) c.as_str.ensures.text c.in_ok-file.ensures.kept) c.self.invariant.0),
  (empty_plan_at _ _ _ c.new.ensures.items, empty_plan_at _ _ _ c.new-2.ensures.items),
  λ is. absurd (cc is),
  tt,
)

pub returns : goal.returns
returns c =
    ap filed c.in_ok-insert.ensures.entries ∙ filed_insert c.self.inside.by_path.entries c.args.path c.in_ok-file.file
    ∙ ap (λ t. put text_cmp c.args.path t (filed c.self.inside.by_path.entries)) c.in_ok-file.ensures.text
    ∙ ap (put text_cmp c.args.path c.args.text) c.self.view_is
