use Rattle.std.proofs.Common.{◌≡◌, ◌+◌, ap, arith, rules}
use Rattle.std.specs.Prelude.{unwrap_or}
use Rattle.override_rules.proofs.Tables.{counted_up}
use Rattle.override_rules.proofs.counts.Counts.raise.Goals as goal
use Rattle.override_rules.specs.Counts.{count_of}

pub returns-in-Some : goal.returns-in-Some
returns-in-Some c =
    let w = c.in-Some.count.now + 1 in
    let same : c.in-Some.count.now ≡ count_of c.args.self.now.by_kind c.args.kind.now =
    ap (λ o. unwrap_or o 0) c.in-Some.ensures.value in
    counted_up c.args.self.now.by_kind (c.get_mut.follows.lender w) c.args.kind.now w
    ((c.get_mut.follows.holds w).3 (search rules)) (omega arith)
