use Rattle.std.proofs.Common.{lit<, ◌∙◌, ap}
use Rattle.std.proofs.lemmas.Str.Pattern.{split_once_first}
use Rattle.pp_lexer.specs.Escapes.{escape}
use Rattle.pp_lexer.proofs.EscapeLemmas.{said_none, said_some, boundary_behind}
use Rattle.pp_lexer.proofs.escapes.split_at_escape.Goals as goal

pub returns-in_err-plain : goal.returns-in_err-plain
returns-in_err-plain c =
    let cases = split_once_first 92 c.args.text.now c.split_once.result c.split_once.ensures.cases (lit< tt) in
    rw c.from_residual.ensures (said_none c.args.quotes c.args.text.now (rw c.in_err-plain.was at cases))

pub range_from-requires : goal.range_from-requires
range_from-requires c =
    let utf8 = rw c.as_bytes.ensures.value at c.as_bytes.ensures.utf8 in
    let fits = rw c.as_bytes.ensures.value at c.read_escape-escape.ensures.escape in
    λ _. boundary_behind c.in_ok-plain.behind.now c.read_escape-escape.result utf8 fits

pub returns : goal.returns
returns c =
    let cases = split_once_first 92 c.args.text.now c.split_once.result c.split_once.ensures.cases (lit< tt) in
    let parts = rw c.in_ok-plain.was at cases in
    let fits = rw c.as_bytes.ensures.value at c.read_escape-escape.ensures.escape in
    said_some c.args.quotes c.args.text.now c.in_ok-plain.plain.now c.in_ok-plain.behind.now c.range_from.result.now c.read_escape-escape.result parts.0 parts.1 parts.2 (c.read_escape-escape.ensures.value ∙ ap (λ z. escape c.args.quotes z) c.as_bytes.ensures.value) fits.within c.range_from.ensures.value
