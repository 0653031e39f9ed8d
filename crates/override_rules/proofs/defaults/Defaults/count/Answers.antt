use Rattle.std.proofs.Common.{◌≡◌, ◌≤◌, length, ap, ◌∙◌, arith}
use Rattle.std.specs.Str.{bytes_eq}
use Rattle.override_rules.proofs.Places.{length-filter-le}
use Rattle.override_rules.proofs.defaults.Defaults.count.Goals as goal
use Rattle.override_rules.specs.Defaults.{defaults_for}

pub returns-clause-fits : goal.returns-clause-fits
returns-clause-fits c =
    let k = c.as_text.result.now in
    let same : c.at.result ≡ length (defaults_for k c.args.self.now) =
    c.at.ensures ∙ c.self.invariant k ∙ ap (λ ds. length (defaults_for k ds)) c.self.view_is in
    let fits : length (defaults_for k c.args.self.now) ≤ length c.args.self.now =
    length-filter-le (λ d. bytes_eq k d.0.kind) c.args.self.now in
    omega arith
