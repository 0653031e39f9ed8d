use Rattle.std.proofs.Common.{◌≡◌, ◌≤◌, length, ap, ◌∙◌, arith}
use Rattle.pp_values.specs.declared.reference.Reference.{Reference}
use Rattle.override_rules.proofs.Places.{lines_at-places, length-places, length-filter-le}
use Rattle.override_rules.proofs.lines.Lines.on.Goals as goal
use Rattle.override_rules.specs.Lines.{is_on, lines_on}
use Rattle.override_rules.specs.Numbers.{lines_at, places}

pub returns-clause-lines : goal.returns-clause-lines
returns-clause-lines c =
    let q : Reference = record { kind = c.args.kind.now; title = c.args.title.now } in
    let ls = c.args.self.now in
    ap (lines_at ls) (c.at.ensures ∙ c.self.invariant q ∙ ap (places q) c.self.view_is) ∙ lines_at-places q ls

pub returns-clause-count : goal.returns-clause-count
returns-clause-count c =
    let q : Reference = record { kind = c.args.kind.now; title = c.args.title.now } in
    let ls = c.args.self.now in
    ap length (c.at.ensures ∙ c.self.invariant q ∙ ap (places q) c.self.view_is) ∙ length-places q ls

pub returns-clause-fits : goal.returns-clause-fits
returns-clause-fits c =
    let q : Reference = record { kind = c.args.kind.now; title = c.args.title.now } in
    let ls = c.args.self.now in
    let same : length c.at.result.now ≡ length (lines_on q ls) = returns-clause-count c in
    let fits : length (lines_on q ls) ≤ length ls = length-filter-le (is_on q) ls in
    omega arith
