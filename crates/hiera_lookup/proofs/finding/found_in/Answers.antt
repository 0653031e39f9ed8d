use Rattle.std.proofs.Common.{◌≡◌, length, arith, sym, ◌∙◌}
use Rattle.std.proofs.lemmas.Grind.{common_steps}
use Rattle.hiera_config.proofs.Meets.{gives, same_meets}
use Rattle.hiera_lookup.proofs.Sources.{found_none, found_more, none_of_length}
use Rattle.hiera_lookup.proofs.finding.found_in.Goals as goal

pub returns-then-is_empty : goal.returns-then-is_empty
returns-then-is_empty c =
    let none : length c.in_ok-values.values.items ≡ 0 = grind (arith, common_steps) in
    gives (found_none _ _ _ (sym c.in_ok-values.ensures ∙ none_of_length c.in_ok-values.values.items none))

pub returns : goal.returns
returns c =
    same_meets (found_more _ _ _ _ _ (sym c.in_ok-values.ensures ∙ c.take_first-high.ensures)) c.found_among.ensures
