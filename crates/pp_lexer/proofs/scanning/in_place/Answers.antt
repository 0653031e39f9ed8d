use Rattle.pp_lexer.proofs.PartLemmas.{in_place_is_part}
use Rattle.pp_lexer.proofs.scanning.in_place.Goals as goal

pub returns-clause-part : goal.returns-clause-part
returns-clause-part c =
    let piece = rw c.as_bytes-bytes.ensures.value at c.in_code-front.ensures.piece in
    in_place_is_part _ _ _ c.args.text.now c.in_code-front.result c.new.result c.found_in_place-found.result c.utf8.text piece c.found_in_place-found.ensures.value c.new.ensures
