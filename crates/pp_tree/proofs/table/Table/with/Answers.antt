use Rattle.std.proofs.Common.{rules}
use Rattle.pp_tree.proofs.TableLemmas.{one_place_more}
use Rattle.pp_tree.proofs.table.Table.with.Goals as goal

pub invariant_of-result : goal.invariant_of-result
invariant_of-result c = one_place_more c.self.inside.places c.insert.new.self c.self.inside.entries _ c.args.name _ c.args.definition _
    c.self.invariant (search rules) c.in_ok-copy.ensures c.len.ensures c.in_ok-insert.ensures.updates c.in_ok-push.ensures.ok
