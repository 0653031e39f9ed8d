-- A name without a colon has no `::`.
use Rattle.std.proofs.Common.{◌≡◌, ℕ, ◌+◌, ◌==◌, Bool, true, false, ◌||◌, true≢false, [], ◌∷◌, Option, None, refl}
use Rattle.std.specs.List.{list_any}
use Rattle.scope_core.specs.Names.{Name, cut, is_colon, is_cut, last_cut}

neither : (a b : Bool) → (a || b) ≡ false → (a ≡ false) × (b ≡ false)
neither true b is = absurd (true≢false is)
neither false b is = (refl, is)

not_here : (b : ℕ) (bs : Name) → (b == 58) ≡ false → is_cut (b ∷ bs) ≡ false
not_here b [] is = refl
not_here b (c ∷ bs) is = rw is refl

none_last : (x : Name) (at : ℕ) (found : Option ℕ) → list_any is_colon x ≡ false → last_cut at x found ≡ found
unfolding last_cut
none_last [] at found none = refl
none_last (b ∷ bs) at found none =
    let apart = neither (b == 58) (list_any is_colon bs) none in
    rw (not_here b bs apart.0) (none_last bs (at + 1) found apart.1)

pub no_cut : (x : Name) → list_any is_colon x ≡ false → cut x ≡ None
no_cut x none = rw (none_last x 0 None none) refl
