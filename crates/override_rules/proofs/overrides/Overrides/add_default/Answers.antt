use Rattle.std.proofs.Common.{◌≡◌, ◌+◌, ◌<◌, ◌≤◌, ◌^◌, suc, length, sym, ap, ◌∙◌, arith}
use Rattle.std.proofs.lemmas.Bool.{ltb-true}
use Rattle.pp_values.specs.Views.{view}
use Rattle.override_rules.proofs.Kept.{one_longer}
use Rattle.override_rules.proofs.overrides.Overrides.add_default.Goals as goal
use Rattle.override_rules.specs.Defaults.{default_key, with_default}

pub invariant_of-self-then-has_room : goal.invariant_of-self-then-has_room
invariant_of-self-then-has_room c =
    let ds = c.self.inside.defaults in
    let key = default_key c.args.kind.now c.args.scope c.args.name.now in
    let d = view c.args.value in
    let room : length c.args.self.now.lines + length c.args.self.now.defaults < 4294967295 =
    ltb-true _ _ (sym c.has_room.ensures ∙ c.if-has_room.true) in
    let lines : length c.self.inside.lines ≡ length c.args.self.now.lines = ap (λ s. length s.lines) c.self.view_is in
    let defaults : length ds ≡ length c.args.self.now.defaults = ap (λ s. length s.defaults) c.self.view_is in
    let new : length c.add.new.self ≡ length (with_default ds key d) = ap length c.in_ok-add.ensures in
    let more : length (with_default ds key d) ≤ suc (length ds) = one_longer ds key d in
    let fits : length c.self.inside.lines + length c.add.new.self < 2 ^ 32 = omega arith in
    fits
