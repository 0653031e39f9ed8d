use Rattle.std.proofs.Common.{sym, arith}
use Rattle.std.proofs.lemmas.List.{take_all, length-take-le}
use Rattle.http_wire.proofs.reading.front_of.Goals as goal

pub returns-else-bytes-most-clause-front : goal.returns-else-bytes-most-clause-front
returns-else-bytes-most-clause-front c = sym (take_all _ _ (omega arith))

pub returns-then-bytes-most-clause-short : goal.returns-then-bytes-most-clause-short
returns-then-bytes-most-clause-short c =
    let size = length-take-le c.args.most c.args.bytes.now (omega arith) in omega (arith, size)
