-- A text leaves the grammar at one place at most, and passes the limit of levels at one, and not both.
use Rattle.std.proofs.Common.{◌≡◌, ℕ, suc, ◌+◌, ◌≤◌, List, [], ◌∷◌, ◌++◌, length, Option, refl, sym, ap, subst, ◌∙◌, arith}
use Rattle.std.proofs.lemmas.List.{length-append}
use Rattle.pp_lexer.specs.Seen.{Token}
use Rattle.pp_grammar.proofs.Reader.Input.{Parser}
use Rattle.pp_grammar.proofs.Reader.Inner.{Inner}
use Rattle.pp_grammar.specs.Laws.{first_token, max_levels, everywhere, up_to, Whole, GoesOn, IsRefused, IsTooDeep}
use Rattle.pp_grammar.proofs.Whole.Cuts.{grouped, Cuts, cuts}
use Rattle.pp_grammar.proofs.Whole.Limits.{limit, later_too, everywhere_too}
use Rattle.pp_grammar.proofs.Whole.Reading.{IsReader}

module _ {A : Type 0} {W : Whole A} {p : Inner → Parser A} (R : IsReader W p) where
  -- no text goes on with a refused token, whatever its limit
  refused_goes : (a b rest : List Token) (t : Token) (found : A) (key : Option ℕ) (behind levels more : ℕ) → IsRefused W a b → first_token b ≡ first_token (t ∷ rest)
      → W (limit levels behind more) (a ++ t ∷ rest) found key → ⊥
  refused_goes a b rest t found key behind levels more r same file =
      r.none_goes_on (t ∷ rest) (suc (levels + more)) found key same (everywhere_too R (a ++ t ∷ rest) found key behind levels more (suc (levels + more)) (omega arith) file)

  -- no text goes on with a token that passes the limit, if it keeps the limit up to there or further
  deep_goes : (a rest : List Token) (t : Token) (found : A) (key : Option ℕ) (behind more : ℕ) → behind ≤ length rest → IsTooDeep W a t
      → W (limit max_levels behind more) (a ++ t ∷ rest) found key → ⊥
  deep_goes a rest t found key behind more h d file =
      d.none_goes_on rest (suc more) found key (later_too R (a ++ t ∷ rest) found key behind (length rest) max_levels more (suc more) h (omega arith) file)

  -- what goes on behind a later place goes on behind an earlier one
  along : (a c next way : List Token) (t : Token) (e : List Token) → c ≡ a ++ t ∷ e → c ++ (next ++ way) ≡ a ++ t ∷ (e ++ (next ++ way))
  along a c next way t e f = ap (λ (ts : List Token). ts ++ (next ++ way)) f ∙ grouped a (t ∷ e) (next ++ way)

  refused_sooner : (a b c next : List Token) (t : Token) (e : List Token) (rest : List Token) → IsRefused W a b → GoesOn W c next → c ≡ a ++ t ∷ e → b ≡ t ∷ rest → ⊥
  refused_sooner a b c next t e rest r g f h =
      refused_goes a b (e ++ (next ++ g.way)) t g.found g.key (length (next ++ g.way)) max_levels g.further r (ap first_token h)
      (subst (λ (ts : List Token). W (up_to (next ++ g.way) g.further) ts g.found g.key) (along a c next g.way t e f) g.stands)

  deep_sooner : (a c next : List Token) (t : Token) (e : List Token) → IsTooDeep W a t → GoesOn W c next → c ≡ a ++ t ∷ e → ⊥
  deep_sooner a c next t e d g f =
      deep_goes a (e ++ (next ++ g.way)) t g.found g.key (length (next ++ g.way)) g.further (omega (arith, length-append e (next ++ g.way))) d
      (subst (λ (ts : List Token). W (up_to (next ++ g.way) g.further) ts g.found g.key) (along a c next g.way t e f) g.stands)

  -- ---- refused at one place

  one_by : (a b c d : List Token) → IsRefused W a b → IsRefused W c d → Cuts a b c d → (a ≡ c) × (b ≡ d)
  one_by a b c d r s (Cuts.same f g) = (f, g)
  one_by a b c d r s (Cuts.sooner t e f g) = absurd (refused_sooner a b c [] t e (e ++ d) r s.some_goes_on f g)
  one_by a b c d r s (Cuts.later t e f g) = absurd (refused_sooner c d a [] t e (e ++ b) s r.some_goes_on f g)

  pub one_place : (front rest other behind : List Token) → front ++ rest ≡ other ++ behind → IsRefused W front rest → IsRefused W other behind → (front ≡ other) × (rest ≡ behind)
  one_place front rest other behind e r s = one_by front rest other behind r s (cuts front rest other behind e)

  -- ---- too deep at one token

  deep_by : (a b c d : List Token) (t u : Token) → IsTooDeep W a t → IsTooDeep W c u → Cuts a (t ∷ b) c (u ∷ d) → t ≡ u
  deep_by a b c d t u r s (Cuts.same f g) = cc
  deep_by a b c d t u r s (Cuts.sooner v e f g) =
      let w : t ≡ v = cc in
      absurd (deep_sooner a c (u ∷ []) v e (subst (λ (x : Token). IsTooDeep W a x) w r) s.some_goes_on f)
  deep_by a b c d t u r s (Cuts.later v e f g) =
      let w : u ≡ v = cc in
      absurd (deep_sooner c a (t ∷ []) v e (subst (λ (x : Token). IsTooDeep W c x) w s) r.some_goes_on f)

  pub one_depth : (front rest other behind : List Token) (t u : Token) → front ++ t ∷ rest ≡ other ++ u ∷ behind → IsTooDeep W front t → IsTooDeep W other u → t ≡ u
  one_depth front rest other behind t u e r s = deep_by front rest other behind t u r s (cuts front (t ∷ rest) other (u ∷ behind) e)

  -- ---- not both

  here : (a b d : List Token) (u : Token) → IsRefused W a b → GoesOn W a (u ∷ []) → b ≡ u ∷ d → ⊥
  here a b d u r g h = refused_goes a b g.way u g.found g.key (length (u ∷ g.way)) max_levels g.further r (ap first_token h) g.stands

  both_by : (a b c d : List Token) (u : Token) → IsRefused W a b → IsTooDeep W c u → Cuts a b c (u ∷ d) → ⊥
  both_by a b c d u r s (Cuts.same f g) = here a b d u r (subst (λ (x : List Token). GoesOn W x (u ∷ [])) (sym f) s.some_goes_on) g
  both_by a b c d u r s (Cuts.sooner t e f g) = refused_sooner a b c (u ∷ []) t e (e ++ u ∷ d) r s.some_goes_on f g
  both_by a b c d u r s (Cuts.later t e f g) =
      let w : u ≡ t = cc in
      deep_sooner c a [] t e (subst (λ (x : Token). IsTooDeep W c x) w s) r.some_goes_on f

  pub never_both : (front rest other behind : List Token) (u : Token) → front ++ rest ≡ other ++ u ∷ behind → IsRefused W front rest → IsTooDeep W other u → ⊥
  never_both front rest other behind u e r s = both_by front rest other behind u r s (cuts front rest other (u ∷ behind) e)

  -- ---- and neither where something stands in the whole text

  pub refused_stands : (front rest : List Token) (found : A) (key : Option ℕ) → IsRefused W front rest → W (everywhere max_levels) (front ++ rest) found key → ⊥
  refused_stands front rest found key r file = r.none_goes_on rest max_levels found key refl file

  pub deep_stands : (front rest : List Token) (t : Token) (found : A) (key : Option ℕ) → IsTooDeep W front t → W (everywhere max_levels) (front ++ t ∷ rest) found key → ⊥
  deep_stands front rest t found key d file = deep_goes front rest t found key 0 0 (omega arith) d file
