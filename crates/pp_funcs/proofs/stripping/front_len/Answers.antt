-- The last byte that is left is white space and goes, or it stays with all before it.
use Rattle.std.proofs.Common.{arith, sym, ◌∙◌}
use Rattle.pp_funcs.proofs.Backs.{white_last, other_last, white_is_ascii}
use Rattle.pp_funcs.proofs.stripping.front_len.Goals as goal

pub loop-len-preserved : goal.loop-len-preserved
loop-len-preserved c = (
  omega (arith, c.loop-len.invariant.0),
  sym (
      white_last c.args.text.now c.loop-len.len c.loop-len-test.true c.loop-len.invariant.0
      (sym c.is_white.ensures ∙ c.if-is_white.true)
      )
      ∙ c.loop-len.invariant.1,
  λ _. white_is_ascii _ (sym c.is_white.ensures ∙ c.if-is_white.true),
)

pub returns-else-is_white-clause-value : goal.returns-else-is_white-clause-value
returns-else-is_white-clause-value c =
    sym (
    other_last c.args.text.now c.loop-len.len c.loop-len-test.true c.loop-len.invariant.0
    (sym c.is_white.ensures ∙ c.if-is_white.false)
    )
    ∙ c.loop-len.invariant.1
