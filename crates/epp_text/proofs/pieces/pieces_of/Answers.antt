use Rattle.std.proofs.Common.{ℕ, List, arith, ◌∙◌, ◌<◌, ap, length, length-take-le, refl}
use Rattle.std.proofs.lemmas.Str.{IsUtf8-drop}
use Rattle.epp_text.specs.Pieces.{line_behind, pieces_of}
use Rattle.epp_text.proofs.Turns.{found_turn}
use Rattle.epp_text.proofs.pieces.pieces_of.Goals as goal

pub loop-rest-init : goal.loop-rest-init
unfolding pieces_of
loop-rest-init c = record { read = rw c.new-found.ensures refl; fits = omega arith; utf8 = c.utf8.text }

pub loop-rest-preserved : goal.loop-rest-preserved
loop-rest-preserved c =
    let z = c.loop-rest.rest.now in
    let f = c.front_at-front.result in
    let part = c.front_at-front.ensures.part in
    let some : 0 < length z = grind arith in
    let here = c.split_at.result.0.now in
    let after = c.split_at.result.1.now in
    let cut = c.split_at.ensures in
    let bytes = c.as_bytes.ensures.value in
    let line = c.line_behind-line.ensures.value ∙ ap (λ (t : List ℕ). line_behind c.loop-rest.line t) bytes in
    let turn = found_turn c.loop-rest.line c.loop-rest.begins z f c.loop-rest.found c.put_front.new.found here after
    c.line_behind-line.result f.begins c.front_at-front.ensures.value part some cut.front cut.back
    c.in_ok-put_front.ensures line refl
    in
    record {
      read = turn ∙ c.loop-rest.invariant.read;
      fits = omega (
        arith,
        c.line_behind-line.ensures.within,
        ap length bytes,
        ap length cut.front,
        ap length cut.back,
        length-take-le f.len z part.boundary.0,
      );
      utf8 = rw cut.back (IsUtf8-drop z f.len c.loop-rest.invariant.utf8 part.boundary);
    }
