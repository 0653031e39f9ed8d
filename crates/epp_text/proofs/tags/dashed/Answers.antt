use Rattle.std.proofs.Common.{ℕ, List, ◌+◌, ◌-◌, ◌<◌, ◌≤◌, ◌∙◌, ap, drop, length, get_or, length-drop, subst, sym}
use Rattle.std.proofs.Common.{arith}
use Rattle.std.proofs.lemmas.List.{take_rest}
use Rattle.epp_text.specs.Fronts.{IsPart}
use Rattle.epp_text.proofs.Cuts.{dashed_is_part}
use Rattle.epp_text.proofs.tags.dashed.Goals as goal

pub returns-clause-part : goal.returns-clause-part
returns-clause-part c =
    let z = c.args.text.now in
    let end = c.args.end in
    let more = c.dropped_len.result in
    let bytes = c.as_bytes-bytes in
    let behind = take_rest bytes.result.now (end + 2) ∙ ap (λ (t : List ℕ). drop (end + 2) t) bytes.ensures.value in
    let within = subst (λ (t : List ℕ). more ≤ length t) behind c.dropped_len.ensures.within in
    let ascii = subst (λ (t : List ℕ). 0 < more → get_or t (more - 1) 0 < 128) behind c.dropped_len.ensures.ascii in
    let all : end + 2 + more ≤ length z = omega (arith, within, length-drop (end + 2) z, c.requires.within.1) in
    subst (IsPart z) (sym c.new.ensures)
    (dashed_is_part z _ c.args.from end more _ c.utf8.text c.requires.begin c.requires.within c.requires.dash c.requires.ends.1 all ascii)
