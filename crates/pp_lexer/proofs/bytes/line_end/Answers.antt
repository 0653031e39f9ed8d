use Rattle.std.proofs.Common.{arith, drop, length, length-drop, sym, ◌∙◌, ◌≡◌, ◌+◌}
use Rattle.std.proofs.lemmas.List.{take_rest}
use Rattle.pp_lexer.proofs.ByteLemmas.{line_ends, line_goes_on}
use Rattle.pp_lexer.proofs.bytes.line_end.Goals as goal

pub returns-in-None-clause-value : goal.returns-in-None-clause-value
returns-in-None-clause-value c =
    let z = drop c.args.from c.args.bytes.now in
    let none = rw (take_rest c.args.bytes.now c.args.from) at c.in-None.ensures in
    let whole : c.args.from + length z ≡ length c.args.bytes.now = omega (arith, length-drop c.args.from c.args.bytes.now, c.requires) in
    sym (line_goes_on c.args.from z none ∙ whole)

pub returns-in-Some-clause-value : goal.returns-in-Some-clause-value
returns-in-Some-clause-value c =
    let found = rw (take_rest c.args.bytes.now c.args.from) at c.in-Some.ensures in
    sym (line_ends c.args.from c.in-Some.further (drop c.args.from c.args.bytes.now) found.0 found.1)
