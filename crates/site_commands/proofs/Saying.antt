-- What is said in pieces is said as a whole, as far as the stream took it.
use Rattle.std.proofs.Common.{ℕ, List, ◌++◌, ap, sym, ◌∙◌, append_assoc, inl, inr, arith, length-append}
use Rattle.site_io.specs.Stream.{Stream, HasWritten}
use Rattle.site_io.proofs.Streams.{written_then_written, Rose-after}
use Rattle.site_commands.specs.World.{FailsToSay, Says}

-- a front of the later piece is, behind the earlier one, a front of both
pub fails_later : (x y : List ℕ) (s t u : Stream) → HasWritten x s t → FailsToSay y t u → FailsToSay (x ++ y) s u
fails_later x y s t u first later = (
  Rose-after s.faults t.faults u.faults first.later later.0,
  record {
    front = x ++ later.1.front;
    rest = later.1.rest;
    whole = ap (λ z. x ++ z) later.1.whole ∙ sym (append_assoc x later.1.front later.1.rest);
    short = later.1.short;
    written = written_then_written first later.1.written;
  },
)

-- a front of the first piece, not whole, is one of both
pub fails_first : (x y : List ℕ) (s t : Stream) → FailsToSay x s t → FailsToSay (x ++ y) s t
fails_first x y s t fails = (
  fails.0,
  record {
    front = fails.1.front;
    rest = fails.1.rest ++ y;
    whole = ap (λ z. z ++ y) fails.1.whole ∙ append_assoc fails.1.front fails.1.rest y;
    short = omega (arith, length-append fails.1.rest y, fails.1.short);
    written = fails.1.written;
  },
)

pub says_later : (x y : List ℕ) (s t u : Stream) → HasWritten x s t → Says y t u → Says (x ++ y) s u
says_later x y s t u first (inl written) = inl (written_then_written first written)
says_later x y s t u first (inr fails) = inr (fails_later x y s t u first fails)
