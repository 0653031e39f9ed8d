-- Notes go on to be good.
use Rattle.std.proofs.Common.{◌≡◌, ℕ, ◌<◌, Bool, true, false, ◌&&◌, if◌then◌else◌, length, Option, None, Some}
use Rattle.std.proofs.Common.{◌⊎◌, inl, inr, Ok, refl, sym, ap, subst, true≢false, eqb-true, arith}
use Rattle.std.specs.Prelude.{◌==◌}
use Rattle.eval_collecting.specs.Matching.{local_match}
use Rattle.eval_world.specs.declared.world.World.{World}
use Rattle.world_laws.specs.Extends.{Extends, IsPlaced}
use Rattle.collecting_laws.proofs.Looking.{collectors_rise, look_extends, quiet_again, quiet_later, touched_rises}
use Rattle.collecting_laws.specs.Looks.{IsQuiet, touched_at}
use Rattle.collecting_laws.specs.Notes.{AreGood, IsKnown, Notes, is_noted, no_notes, noted}

pub known_on : (w v : World) (c n t : ℕ) → IsPlaced w → Extends w v → IsKnown w c n t → IsKnown v c n t
known_on w v c n t placed extends k =
    let rises = touched_rises n w v extends k.below in let risen = k.risen in
    record {
      there = let more = collectors_rise w v extends in let there = k.there in omega (arith, more, there);
      below = let longer = extends.declarations.longer in let below = k.below in omega (arith, longer, below);
      risen = omega (arith, rises, risen);
      quiet = λ same.
          quiet_later c n w v placed extends k.there k.below (omega (arith, rises, risen, same))
          (k.quiet (omega (arith, rises, risen, same)));
    }

pub good_on : (notes : Notes) (w v : World) → Extends w v → AreGood notes w → AreGood notes v
good_on notes w v extends good = record {
  placed = extends.placed good.placed;
  known = λ c n t is. known_on w v c n t good.placed extends (good.known c n t is);
}

-- ---- one look

noted_by : (b : Bool) (t u : ℕ) (o : Option ℕ) → (if b then Some t else o) ≡ Some u →
    ((b ≡ true) × (t ≡ u)) ⊎ (o ≡ Some u)
noted_by true t u o e = inl (refl, value e) where
  value : Some t ≡ Some u → t ≡ u
  value e = cc
noted_by false t u o e = inr e

both : (a b : Bool) → (a && b) ≡ true → (a ≡ true) × (b ≡ true)
both true true e = (refl, refl)
both true false e = absurd (true≢false (sym e))
both false b e = absurd (true≢false (sym e))

-- of what was looked at just now
pub known_now : (c n : ℕ) (w v : World) (a : Bool) → local_match c n w ≡ Ok (a, v) → c < length w.relations.collectors →
    n < length w.book → IsKnown v c n (touched_at w n)
known_now c n w v a e there below =
    let extends = look_extends c n w v a e in
    record {
      there = let more = collectors_rise w v extends in omega (arith, more, there);
      below = let longer = extends.declarations.longer in omega (arith, longer, below);
      risen = touched_rises n w v extends below;
      quiet = λ same. quiet_again c n w v a e;
    }

pub good_noted : (notes : Notes) (c n : ℕ) (w v : World) (a : Bool) → local_match c n w ≡ Ok (a, v) →
    c < length w.relations.collectors → n < length w.book → AreGood notes w →
    AreGood (noted c n (touched_at w n) notes) v
good_noted notes c n w v a e there below good =
    let extends = look_extends c n w v a e in
    record {
      placed = extends.placed good.placed;
      known = λ d m t is. elim (noted_by ((d == c) && (m == n)) (touched_at w n) t (notes d m) is) [
        | inl here ↦
            let same = both (d == c) (m == n) here.0 in
            subst (λ x. IsKnown v x m t) (sym (eqb-true d c same.0))
            (subst (λ x. IsKnown v c x t) (sym (eqb-true m n same.1))
            (subst (λ x. IsKnown v c n x) here.1 (known_now c n w v a e there below)))
        | inr before ↦ known_on w v d m t good.placed extends (good.known d m t before)
      ];
    }

pub noted_value : (o : Option ℕ) (t : ℕ) → is_noted o t ≡ true → o ≡ Some t
noted_value None t e = absurd (true≢false (sym e))
noted_value (Some u) t e = ap (λ k. Some k) (eqb-true u t e)

-- what is passed over would find nothing
pub passed_over : (notes : Notes) (c n : ℕ) (w : World) → AreGood notes w → notes c n ≡ Some (touched_at w n) →
    IsQuiet w c n
passed_over notes c n w good is = (good.known c n (touched_at w n) is).quiet refl

pub none_good : (w : World) → IsPlaced w → AreGood no_notes w
none_good w placed = record { placed = placed; known = λ c n t is. absurd cc }
