-- The look-up begins with no key that is being looked up, and its value or fault is the call's.
use Rattle.hiera_lookup.proofs.Calls.{begun, ends_ok, ends_err}
use Rattle.hiera_lookup.proofs.calling.lookup.Goals as goal

pub returns-in-Ok : goal.returns-in-Ok
returns-in-Ok c =
    ends_ok _ _ _ _
    (rw c.in-Ok.is at
    (begun c.args.store.now _ _ _ _ _ _ _ _ c.in_scope-variables.ensures c.new.ensures c.module_of.ensures
    c.as_str-key.ensures.text c.look-2.ensures))

pub returns : goal.returns
returns c =
    ends_err _ _ _ _ _ _
    (rw c.in-Err.is at
    (begun c.args.store.now _ _ _ _ _ _ _ _ c.in_scope-variables.ensures c.new.ensures c.module_of.ensures
    c.as_str-key.ensures.text c.look-2.ensures))
    c.stop_at.ensures
