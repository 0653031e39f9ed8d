use Rattle.std.proofs.lemmas.List.{take_rest}
use Rattle.pp_lexer.proofs.TextLemmas.{quoted_plain}
use Rattle.pp_lexer.proofs.texts.plain_end.Goals as goal

pub returns-then-bytes-at-eq39-clause-value : goal.returns-then-bytes-at-eq39-clause-value
returns-then-bytes-at-eq39-clause-value c =
    let found = rw (c.in_ok-at.was, take_rest c.args.bytes.now 1) at c.memchr2.ensures in
    quoted_plain c.args.bytes.now c.in_ok-at.field-0 found.0 c.if-bytes-at-eq39.true
