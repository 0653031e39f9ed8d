-- What flags say of a document's keys.
use Rattle.std.proofs.Common.{◌≡◌, ℕ, zero, suc, ◌%◌, Bool, true, false, List, [], ◌∷◌, length, Some, None, refl, ap, sym, ◌∙◌}
use Rattle.std.specs.Prelude.{slice_get, slice_set}
use Rattle.std.specs.Ordering.{nat_cmp, match_ordering}
use Rattle.std.specs.Cmp.Lexicographic.{slice_cmp}
use Rattle.std.specs.FinMap.{slice_cmp-IsAntisymmetric, nat_cmp-IsAntisymmetric}
use Rattle.std.specs.declared.cmp.Ordering.TheVariants.{Less, Equal, Greater}
use Rattle.serde_json.specs.Data.{object, Members, no_members, member}
use Rattle.serde_json.specs.Find.{get_member}
use Rattle.hiera_config.specs.Flags.{mark_of, or_true, may_have, with_flag, flagged, Knows}

same_length : (flags : List Bool) (place : ℕ) → length (slice_set flags place true) ≡ length flags
same_length [] place = refl
same_length (f ∷ flags) zero = refl
same_length (f ∷ flags) (suc place) = ap suc (same_length flags place)

-- a flag that is set stays, and the one of a place is set then
kept : (flags : List Bool) (place other : ℕ) → or_true (slice_get (slice_set flags place true) other) ≡ false
    → or_true (slice_get flags other) ≡ false
kept [] place other is = is
kept (f ∷ flags) zero zero is = absurd (cc is)
kept (f ∷ flags) zero (suc other) is = is
kept (f ∷ flags) (suc place) zero is = is
kept (f ∷ flags) (suc place) (suc other) is = kept flags place other is

set : (flags : List Bool) (place : ℕ) → or_true (slice_get (slice_set flags place true) place) ≡ true
set [] place = refl
set (f ∷ flags) zero = refl
set (f ∷ flags) (suc place) = set flags place

one_kept : (flags : List Bool) (mark other : ℕ) → may_have (with_flag flags mark) other ≡ false
    → may_have flags other ≡ false
one_kept flags mark other is =
    kept flags (mark % length flags) (other % length flags)
    (ap (λ n. or_true (slice_get (with_flag flags mark) (other % n))) (sym (same_length flags (mark % length flags))) ∙ is)

one_set : (flags : List Bool) (mark : ℕ) → may_have (with_flag flags mark) mark ≡ true
one_set flags mark =
    ap (λ n. or_true (slice_get (with_flag flags mark) (mark % n))) (same_length flags (mark % length flags))
    ∙ set flags (mark % length flags)

all_kept : (flags : List Bool) (ms : Members) (other : ℕ) → may_have (flagged flags ms) other ≡ false
    → may_have flags other ≡ false
all_kept flags no_members other is = is
all_kept flags (member name d ms) other is =
    one_kept flags (mark_of name) other (all_kept (with_flag flags (mark_of name)) ms other is)

none_there : (flags : List Bool) (ms : Members) (key : List ℕ) → may_have (flagged flags ms) (mark_of key) ≡ false
    → get_member key ms ≡ None
none_there flags no_members key is = refl
none_there flags (member name d ms) key is =
    elim (slice_cmp nat_cmp key name) as
    (λ r. slice_cmp nat_cmp key name ≡ r
    → match_ordering r (get_member key ms) (Some d) (get_member key ms) ≡ None) [
      | Less ↦ λ e. none_there (with_flag flags (mark_of name)) ms key is
      | Equal ↦ λ e.
          let same : key ≡ name = slice_cmp-IsAntisymmetric nat_cmp-IsAntisymmetric key name e in
          let unset : may_have (with_flag flags (mark_of name)) (mark_of key) ≡ false =
          all_kept (with_flag flags (mark_of name)) ms (mark_of key) is in
          absurd (cc (sym (one_set flags (mark_of name))
          ∙ ap (λ k. may_have (with_flag flags (mark_of name)) (mark_of k)) (sym same) ∙ unset))
      | Greater ↦ λ e. none_there (with_flag flags (mark_of name)) ms key is
    ] refl

pub knows_members : (before flags : List Bool) (ms : Members) → flags ≡ flagged before ms
    → Knows flags (Some (object ms))
knows_members before flags ms is = λ key unset.
    (refl, none_there before ms key (ap (λ f. may_have f (mark_of key)) (sym is) ∙ unset))
