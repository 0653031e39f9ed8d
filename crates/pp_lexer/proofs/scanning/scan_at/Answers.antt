use Rattle.std.proofs.Common.{arith, ◌∙◌, ◌<◌, ap, length, length-take-le, refl}
use Rattle.std.proofs.lemmas.Str.{IsUtf8-drop}
use Rattle.pp_lexer.specs.Tokens.{tokens_at}
use Rattle.pp_lexer.proofs.LineLemmas.{lines_cut}
use Rattle.pp_lexer.proofs.ScanLemmas.{found_turn, ends_cut, some_cut}
use Rattle.pp_lexer.proofs.scanning.scan_at.Goals as goal

pub loop-rest-init : goal.loop-rest-init
unfolding tokens_at
loop-rest-init c = record { read = rw (c.new-tokens.ensures, c.new-nest.ensures) refl; fits = omega arith; utf8 = c.utf8.text }

pub emit-requires : goal.emit-requires
emit-requires c =
    let z = c.loop-rest.rest.now in
    let f = c.front_at-front.result in
    record {
      some = some_cut z c.split_at.result.0.now f c.front_at-front.ensures.part c.split_at.ensures.front;
      ends = ends_cut z c.split_at.result.0.now f c.front_at-front.ensures.part c.split_at.ensures.front;
    }

pub line_behind-here-requires : goal.line_behind-here-requires
line_behind-here-requires c =
    let z = c.loop-rest.rest.now in
    let f = c.front_at-front.result in
    let part = c.front_at-front.ensures.part in
    record {
      some = some_cut z c.split_at.result.0.now f part c.split_at.ensures.front;
      fits = omega (arith, c.loop-rest.invariant.fits, ap length c.split_at.ensures.front, length-take-le f.len z part.boundary.0, part.boundary.0);
      lines = lines_cut c.loop-rest.mode c.loop-rest.nest z c.split_at.result.0.now f c.front_at-front.ensures.value c.split_at.ensures.front;
    }

pub loop-rest-preserved : goal.loop-rest-preserved
loop-rest-preserved c =
    let z = c.loop-rest.rest.now in
    let f = c.front_at-front.result in
    let part = c.front_at-front.ensures.part in
    let some : 0 < length z = grind arith in
    record {
      read = found_turn c.loop-rest.here c.loop-rest.mode c.loop-rest.nest z f c.loop-rest.tokens c.emit.new.tokens c.split_at.result.0.now c.split_at.result.1.now c.line_behind-here.result c.mode_after-mode.result c.pass.new.self c.front_at-front.ensures.value part some c.split_at.ensures.front c.split_at.ensures.back c.in_ok-emit.ensures c.line_behind-here.ensures.value c.mode_after-mode.ensures c.in_ok-pass.ensures ∙ c.loop-rest.invariant.read;
      fits = omega arith;
      utf8 = rw c.split_at.ensures.back (IsUtf8-drop z f.len c.loop-rest.invariant.utf8 part.boundary);
    }
