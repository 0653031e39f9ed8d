-- Where there is no memory, the scope is put back as it was.
use Rattle.std.proofs.Common.{◌<◌, length, rules, refl}
use Rattle.std.proofs.lemmas.Option.{slice_get_read}
use Rattle.std.specs.Prelude.{is_ok}
use Rattle.scope_core.proofs.Sets.{set_or_back}
use Rattle.scope_core.proofs.scopes.add_name.Goals as goal

pub returns-in-Some : goal.returns-in-Some
returns-in-Some c =
    let below : c.args.place < length c.args.scopes.now.items = search (rules, c.in-Some.ensures.variant.0 refl) in
    set_or_back c.args.scopes.now.items c.args.place c.in-Some.scope.now c.add.new.self (is_ok c.add.result)
    c.args.name.now c.args.value
    (slice_get_read c.args.scopes.now.items _ c.args.place c.in-Some.scope.now refl below c.in-Some.ensures.value)
    c.add.ensures
