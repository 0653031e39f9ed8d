use Rattle.std.proofs.Common.{◌≡◌, length, None, Some, ap, ◌∙◌}
use Rattle.site_core.specs.Sets.{site_at}
use Rattle.site_core.proofs.Legal.{some_site}
use Rattle.site_core.proofs.state.CoreState.resume.Goals as goal

none_is_some : {A : Type 0} (x : A) → None ≡ Some x → ⊥
none_is_some x is = cc

pub unreachable-requires : goal.unreachable-requires
unreachable-requires g c =
    let there = some_site g.L.Language.meaning c.args.history.entries c.requires.legal in
    none_is_some there.0
    (c.in-None.ensures ∙ ap (λ h. site_at h (length h)) c.as_slice-entries.ensures.entries ∙ there.1)
