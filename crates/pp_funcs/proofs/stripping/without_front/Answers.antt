-- The byte before the place is white space, and so the place begins a character.
use Rattle.std.proofs.Common.{◌≡◌, ℕ, ◌+◌, ◌-◌, ◌<◌, ◌≤◌, List, length, get_or, arith, subst}
use Rattle.std.specs.Str.{IsUtf8}
use Rattle.std.proofs.lemmas.Str.{lead_after_ascii}
use Rattle.pp_funcs.proofs.stripping.without_front.Goals as goal

leads : (bs : List ℕ) (n : ℕ) → IsUtf8 bs → 0 < n → get_or bs (n - 1) 0 < 128 →
    n < length bs → 128 ≤ get_or bs n 0 → 192 ≤ get_or bs n 0
leads bs n u some h =
    let back : n - 1 + 1 ≡ n = omega (arith, some) in
    subst (λ m. m < length bs → 128 ≤ get_or bs m 0 → 192 ≤ get_or bs m 0) back (lead_after_ascii bs (n - 1) u h)

pub range_from-requires : goal.range_from-requires
range_from-requires c some =
    let same : c.as_bytes.result.now ≡ c.args.text.now = c.as_bytes.ensures.value in (
      subst (λ bs. c.white_len.result ≤ length bs) same c.white_len.ensures.within,
      leads c.args.text.now c.white_len.result c.utf8.text some
          (subst (λ bs. get_or bs (c.white_len.result - 1) 0 < 128) same (c.white_len.ensures.ascii some)),
    )
