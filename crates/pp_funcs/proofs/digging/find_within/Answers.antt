-- What the step of one key gives: a value to go on from, nothing, or a refusal.
use denote.Ref.{Bor}
use Rattle.std.proofs.Common.{Option, Ok, Result, arith, ap, sym, ◌∙◌}
use Rattle.std.specs.Option.{unwrap_or}
use Rattle.std.specs.Prelude.{option_map}
use Rattle.pp_values.specs.declared.value.Value.{Value}
use Rattle.pp_values.specs.Datum.{Datum, undef}
use Rattle.pp_values.specs.Views.{view}
use Rattle.pp_funcs.specs.declared.refusal.Refusal.{Refusal}
use Rattle.pp_funcs.proofs.Steps.{goes_on, finds_none, refuses, ends}
use Rattle.pp_funcs.proofs.digging.find_within.Goals as goal

abbrev told : Option (Bor Value) → Result Datum Refusal
told o = Ok (unwrap_or (option_map (λ v. view v.now) o) undef)

pub returns-in-Ok-None : goal.returns-in-Ok-None
returns-in-Ok-None c =
    sym c.loop-key.invariant
    ∙ finds_none (view c.loop-key.value.now) c.args.keys.now c.loop-key.key-index c.key-item.result
    c.loop-key-test.true c.key-item.is (c.in-Ok-None.ensures ∙ ap told c.in-Ok-None.field-0-is)

pub returns-in-Err : goal.returns-in-Err
returns-in-Err c =
    sym c.loop-key.invariant
    ∙ refuses (view c.loop-key.value.now) c.args.keys.now c.loop-key.key-index c.key-item.result c.in-Err.refusal
    c.loop-key-test.true c.key-item.is c.in-Err.ensures

pub loop-key-preserved : goal.loop-key-preserved
loop-key-preserved c =
    sym (
    goes_on (view c.loop-key.value.now) (view c.in-Ok-Some.next.now) c.args.keys.now c.loop-key.key-index
    c.key-item.result c.loop-key-test.true c.key-item.is
    (c.in-Ok-Some.ensures ∙ ap told c.in-Ok-Some.field-0-is)
    )
    ∙ c.loop-key.invariant

pub returns : goal.returns
returns c =
    sym c.loop-key.invariant
    ∙ ends (view c.loop-key.value.now) c.args.keys.now c.loop-key.key-index (omega (arith, c.loop-key-test.false))
