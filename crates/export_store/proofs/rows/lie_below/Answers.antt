use Rattle.std.proofs.Common.{refl, sym, true≢false, arith}
use Rattle.export_store.proofs.RowLemmas.{below_yes, below_no}
use Rattle.export_store.proofs.rows.lie_below.Goals as goal

pub returns-in-Greater : goal.returns-in-Greater
returns-in-Greater g c = record {
  yes = λ e. below_yes c.args.key.now c.args.rows.now _ c.index-rows-rows.result c.deref.result.now c.compare.result (omega (arith, c.requires.some)) c.index-rows-rows.is c.deref.ensures c.compare.ensures c.in-Greater.is c.requires.sorted;
  no = λ e. absurd (true≢false e);
}

pub returns-in-Equal : goal.returns-in-Equal
returns-in-Equal g c = record {
  yes = λ e. absurd (true≢false (sym e));
  no = λ e. below_no c.args.key.now c.args.rows.now _ c.index-rows-rows.result c.deref.result.now c.compare.result _ (omega (arith, c.requires.some)) c.index-rows-rows.is c.deref.ensures c.compare.ensures c.in-Equal.is refl;
}

pub returns-in-Less : goal.returns-in-Less
returns-in-Less g c = record {
  yes = λ e. absurd (true≢false (sym e));
  no = λ e. below_no c.args.key.now c.args.rows.now _ c.index-rows-rows.result c.deref.result.now c.compare.result _ (omega (arith, c.requires.some)) c.index-rows-rows.is c.deref.ensures c.compare.ensures c.in-Less.is refl;
}
