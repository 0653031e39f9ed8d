use Rattle.std.proofs.Common.{[], ◌∷◌, sym, ap, ◌∙◌}
use Rattle.site_core.specs.Events.{opens}
use Rattle.journal_reading.proofs.Steps.{gives_same, no_first_line, bad_opening, opened_behind}
use Rattle.journal_reading.proofs.reading.read_whole.Goals as goal

pub returns-in_default : goal.returns-in_default
returns-in_default c = no_first_line _ c.in_default.ensures

pub returns-in-None : goal.returns-in-None
returns-in-None c = bad_opening _ _ _ c.in-Some.ensures (sym c.in-None.is ∙ c.in_ok-first.ensures)

pub returns-in_ok-entries-in-Some-2 : goal.returns-in_ok-entries-in-Some-2
returns-in_ok-entries-in-Some-2 c =
    gives_same (λ h. h.entries) c.read_behind.result _ _
    (opened_behind c.args.text.now _ _ c.in-Some-2.first c.in-Some-2.site _ c.in-Some.ensures
    (sym c.in-Some-2.is ∙ c.in_ok-first.ensures)
    (c.in_ok-entries-in-Some-2.ensures ∙ ap (λ x. opens x ∷ []) c.in_ok-site-in-Some-2.ensures.ok)) c.read_behind.ensures
