use Rattle.std.proofs.Common.{refl, ap, ◌∙◌, subst, inl, inr, take}
use Rattle.http_wire.specs.Messages.{most_head, IsOpenHead}
use Rattle.http_wire.proofs.Deciding.{found_at_last, never_at_last}
use Rattle.http_wire.proofs.reading.head_at_last.Goals as goal

pub returns-in-Whole : goal.returns-in-Whole
returns-in-Whole c = found_at_last (c.front_of.ensures.front ∙ ap (take most_head) c.as_slice.ensures) c.in-Whole.ensures

pub returns-in-Open : goal.returns-in-Open
returns-in-Open c = inl (refl, subst IsOpenHead (c.front_of.ensures.front ∙ ap (take most_head) c.as_slice.ensures) c.in-Open.ensures)

pub returns-in-Never : goal.returns-in-Never
returns-in-Never c =
    inr (inl (refl, never_at_last _ _ (c.front_of.ensures.front ∙ ap (take most_head) c.as_slice.ensures) c.in-Never.ensures))

pub returns-in-NoMemory : goal.returns-in-NoMemory
returns-in-NoMemory c = inr (inr refl)
