use Rattle.export_store.proofs.RowLemmas.{joined_halves}
use Rattle.export_store.proofs.leaves.put_rows.Goals as goal

pub returns-clause-entries : goal.returns-clause-entries
returns-clause-entries g c =
    joined_halves _ _ _ c.args.rows.items _ _ 32 c.in_ok-half.ensures.items c.in_ok-half.ensures.tail c.in_ok-put_leaf-2.ensures.entries c.in_ok-put_leaf-3.ensures.entries

pub returns-clause-leaves : goal.returns-clause-leaves
returns-clause-leaves g c = λ old. c.in_ok-put_leaf-3.ensures.leaves (c.in_ok-put_leaf-2.ensures.leaves old)
