-- A source of bytes in memory gives the bytes from one place to the next.
use Rattle.std.proofs.Common.{◌≡◌, ℕ, ◌+◌, ◌-◌, ◌<◌, ◌≤◌, min, Bool, List, [], ◌++◌, length, take, drop, Option, Some, None, refl, sym, ◌∙◌, ap, arith, take-add}
use Rattle.std.proofs.lemmas.List.{take-append-drop, drop-drop, drop_all}
use Rattle.site_io.specs.Stream.{Stream}
use Rattle.site_io.specs.Got.{GivesBytes}
use Rattle.site_io.specs.Scripted.{source_stream}

-- a stream of these bytes, which was read as far as a place
abbrev partly_read : ℕ → ℕ → List ℕ → Option (List ℕ) → Option Bool → Stream
partly_read faults at bytes written shut =
    record { faults = faults; left = Some (drop at bytes); read = Some (take at bytes); written = written; shut = shut; events = None }

module _ (faults from to : ℕ) (bytes buffer : List ℕ) (next : to ≡ from + min (length buffer) (length bytes - from)) (copied : take (to - from) buffer ≡ take (to - from) (drop from bytes)) where
  moved : to ≡ from + (to - from)
  moved = omega (arith, next)

  rest : drop (to - from) (drop from bytes) ≡ drop to bytes
  rest = drop-drop (to - from) from bytes ∙ ap (λ n. drop n bytes) (sym moved)

  left : drop from bytes ≡ take (to - from) buffer ++ drop to bytes
  left = sym (take-append-drop (to - from) (drop from bytes)) ∙ ap (λ xs. xs ++ drop (to - from) (drop from bytes)) (sym copied) ∙ ap (λ xs. take (to - from) buffer ++ xs) rest

  read : take to bytes ≡ take from bytes ++ take (to - from) buffer
  read = ap (λ n. take n bytes) moved ∙ take-add from (to - from) bytes ∙ ap (λ xs. take from bytes ++ xs) (sym copied)

  ended : to - from ≡ 0 → 0 < length buffer → drop to bytes ≡ []
  ended none room = let past : length bytes ≤ to = omega (arith, next, none, room) in drop_all to bytes past

  -- whatever was written, and whether it was shut
  pub given_by : (written : Option (List ℕ)) (shut : Option Bool) →
      GivesBytes (to - from) buffer (partly_read faults from bytes written shut) (partly_read faults to bytes written shut)
  given_by written shut = record {
    fits = omega (arith, next);
    given = record {
      later = omega arith;
      left = left;
      read = ap Some read;
      written = refl;
      shut = refl;
      events = tt;
    };
    once = tt;
    ended = λ none room. ap Some (ended none room);
  }

  pub given : GivesBytes (to - from) buffer (source_stream faults (take from bytes) (drop from bytes)) (source_stream faults (take to bytes) (drop to bytes))
  given = given_by None None
