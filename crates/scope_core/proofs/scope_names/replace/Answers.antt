-- The value at a place, and a place behind the list.
use Rattle.std.proofs.Common.{◌<◌, length, rules, refl}
use Rattle.std.proofs.lemmas.Option.{slice_get_read}
use Rattle.scope_core.proofs.Puts.{put_back, not_there}
use Rattle.scope_core.proofs.scope_names.replace.Goals as goal

pub returns-in-Some : goal.returns-in-Some
returns-in-Some c =
    let below : c.args.at < length c.args.names.now.items = search (rules, c.in-Some.ensures.variant.0 refl) in
    put_back c.args.names.now.items c.args.at c.in-Some.entry.now c.args.value
    (slice_get_read c.args.names.now.items _ c.args.at c.in-Some.entry.now refl below c.in-Some.ensures.value)

pub returns-in_default : goal.returns-in_default
returns-in_default c =
    not_there c.args.names.now.items c.args.at c.args.value
    (λ below. c.in_default.ensures.variant.1 (search (rules, below)))
