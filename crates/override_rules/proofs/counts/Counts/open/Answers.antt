use Rattle.std.proofs.Common.{◌≡◌, ℕ, false, Option, None, Some, refl, sym, ap, ◌∙◌}
use Rattle.std.specs.BTreeMap.{get}
use Rattle.std.specs.Cmp.Lexicographic.{slice_cmp}
use Rattle.std.specs.Ordering.{nat_cmp}
use Rattle.std.specs.Prelude.{is_some, unwrap_or}
use Rattle.override_rules.proofs.Tables.{count_same}
use Rattle.override_rules.proofs.counts.Counts.open.Goals as goal

nothing : (o : Option ℕ) → is_some o ≡ false → 0 ≡ unwrap_or o 0
nothing None e = refl
nothing (Some n) e = absurd cc

pub returns-clause-keeps : goal.returns-clause-keeps
returns-clause-keeps c =
    let m = c.args.self.now.by_kind in
    let k = c.in_ok-copy.field-0 in
    count_same m c.insert.new.self k 0 c.in_ok-insert.ensures.updates
    (nothing (get (slice_cmp nat_cmp) m k) (ap (λ q. is_some (get (slice_cmp nat_cmp) m q)) c.in_ok-copy.ensures
    ∙ sym c.contains_key.ensures ∙ c.if-contains_key.false))
