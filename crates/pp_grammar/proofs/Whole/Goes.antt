-- Where a text is refused, or passes the limit of levels, some text goes on that keeps the limit up to there.
use Rattle.std.proofs.Common.{◌≡◌, ℕ, ◌+◌, ◌<◌, ◌≤◌, List, [], ◌∷◌, ◌++◌, length, Ok, Err, refl, sym, ap, subst, ◌∙◌, arith}
use Rattle.std.proofs.lemmas.List.{length-append}
use Rattle.pp_lexer.specs.Seen.{Token}
use Rattle.pp_parser.specs.declared.refusal.Refusal.TheVariants as refusals
use Rattle.pp_grammar.proofs.Reader.Input.{Input, Outcome, Parser}
use Rattle.pp_grammar.proofs.Reader.Inner.{Inner}
use Rattle.pp_grammar.proofs.Reader.Levels.{within}
use Rattle.pp_grammar.proofs.Reader.Manifest.{start}
use Rattle.pp_grammar.specs.Laws.{max_levels, everywhere, up_to, first_token, SameHead, Whole, GoesOn}
use Rattle.pp_grammar.proofs.Local.Ahead.{Past, DeepAt}
use Rattle.pp_grammar.proofs.Ways.Ahead as ahead
use Rattle.pp_grammar.proofs.Whole.Cuts.{same_front, nothing_behind, grouped, Cuts, cuts}
use Rattle.pp_grammar.proofs.Whole.Limits.{none_past_zero, settled}
use Rattle.pp_grammar.proofs.Whole.Reading.{reading, IsReader}

-- A text begins with the first tokens and goes on with the next ones, and is read with so many levels, or more.
record Going {A : Type 0} (p : Inner → Parser A) (front next : List Token) : Type 0 where
  way : List Token
  enough : ℕ
  found : A
  end : Input
  reads : (n : ℕ) → enough ≤ n → reading p (everywhere n) (start (front ++ (next ++ way))) ≡ Ok (found, end)

module _ {A : Type 0} {W : Whole A} {p : Inner → Parser A} (R : IsReader W p) where
  -- ---- with many levels

  by_way : (n : ℕ) (ts : List Token) (k : ℕ) (front rest : List Token) → ts ≡ front ++ rest → length rest ≡ k → ahead.GoesOn (λ m. p (within m)) n ts k → Going p front []
  by_way n ts k front rest is count g =
      let same : g.before ≡ front = same_front g.before g.behind front rest (sym g.is ∙ is) (g.count ∙ sym count) in
      record { way = g.way; enough = g.enough; found = g.found; end = g.end; reads = λ m h. ap (λ (f : List Token). reading p (everywhere m) (start (f ++ g.way))) (sym same) ∙ g.reads m h }

  -- before a refused token
  going : (n : ℕ) (ts : List Token) (k : ℕ) (front rest : List Token) → ts ≡ front ++ rest → length rest ≡ k → reading p (everywhere n) (start ts) ≡ Err (refusals.Wrong k) → Going p front []
  going n ts k front rest is count e = by_way n ts k front rest is count (R.ways n ts k e)

  empty : (ts : List Token) → length ts ≡ 0 → [] ≡ ts
  empty [] e = refl
  empty (t ∷ ts) e = absurd (omega arith)

  -- at the end no level is opened
  pub never_deep_at_end : (n : ℕ) (ts : List Token) → reading p (everywhere n) (start ts) ≡ Err (refusals.Deep 0) → ⊥
  never_deep_at_end n ts e =
      let d = R.looks.deep n ts 0 e in
      none_past_zero (reading p (everywhere (n + 1)) (start (d.before ++ []))) (d.goes_on [] (n + 1) (ap first_token (sym (empty d.behind d.count))) (omega arith))

  going_on : (front : List Token) (t : Token) → Going p (front ++ t ∷ []) [] → Going p front (t ∷ [])
  going_on front t g =
      record { way = g.way; enough = g.enough; found = g.found; end = g.end; reads = λ n h. ap (λ (ts : List Token). reading p (everywhere n) (start ts)) (sym (grouped front (t ∷ []) g.way)) ∙ g.reads n h }

  to_end : (n : ℕ) (front : List Token) (t : Token) (o : Outcome A) → reading p (everywhere n) (start (front ++ t ∷ [])) ≡ o → Past 1 o → Going p front (t ∷ [])
  to_end n front t (Ok r) e h = record { way = []; enough = n; found = r.0; end = r.1; reads = λ m more. R.looks.read n m (front ++ t ∷ []) r.0 r.1 more e }
  to_end n front t (Err (refusals.Wrong k)) e h = going_on front t (going n (front ++ t ∷ []) k (front ++ t ∷ []) [] (sym (nothing_behind (front ++ t ∷ []) [] refl)) (omega arith) e)
  to_end n front t (Err (refusals.Deep k)) e h = let z : k ≡ 0 = omega arith in absurd (never_deep_at_end n (front ++ t ∷ []) (e ∙ ap (λ (m : ℕ). Err (refusals.Deep m)) z))
  to_end n front t (Err refusals.Memory) e h = absurd h

  -- ---- within the limit up to the place

  kept : (front next : List Token) (g : Going p front next)
      → ((k : ℕ) → reading p (everywhere max_levels) (start (front ++ (next ++ g.way))) ≡ Err (refusals.Deep k) → k ≤ length (next ++ g.way)) → GoesOn W front next
  kept front next g late =
      let s = settled R (front ++ (next ++ g.way)) (length (next ++ g.way)) g.enough g.found g.end g.reads late in
      record { way = g.way; further = s.0; found = s.1; key = s.2.doubled; stands = R.stands (up_to (next ++ g.way) s.0) (front ++ (next ++ g.way)) s.1 s.2 s.3 }

  module _ (front rest : List Token) (k : ℕ) (e : reading p (everywhere max_levels) (start (front ++ rest)) ≡ Err (refusals.Wrong k)) where
    -- a text that begins with the tokens before the place passes no limit there
    late_by : (way : List Token) (n : ℕ) (d : DeepAt (λ m. p (within m)) max_levels (front ++ way) n) → Cuts front way d.before d.behind → n ≤ length way
    late_by way n d (Cuts.same a b) = omega (arith, ap (λ (ts : List Token). length ts) b, d.count)
    late_by way n d (Cuts.sooner t c a b) = omega (arith, ap (λ (ts : List Token). length ts) b, d.count, length-append c d.behind)
    late_by way n d (Cuts.later t c a b) =
        let deep = d.stays (t ∷ (c ++ rest)) (ap first_token b) in
        let same : front ++ rest ≡ d.before ++ t ∷ (c ++ rest) = ap (λ (ts : List Token). ts ++ rest) a ∙ grouped d.before (t ∷ c) rest in
        let wrong = subst (λ (ts : List Token). reading p (everywhere max_levels) (start ts) ≡ Err (refusals.Wrong k)) same e in
        absurd cc

    late : (way : List Token) (n : ℕ) → reading p (everywhere max_levels) (start (front ++ way)) ≡ Err (refusals.Deep n) → n ≤ length way
    late way n h = let d = R.looks.deep max_levels (front ++ way) n h in late_by way n d (cuts front way d.before d.behind d.is)

  -- before a refused token
  pub goes_on : (ts : List Token) (k : ℕ) (front rest : List Token) → ts ≡ front ++ rest → length rest ≡ k → reading p (everywhere max_levels) (start ts) ≡ Err (refusals.Wrong k) → GoesOn W front []
  goes_on ts k front rest is count e =
      let g = going max_levels ts k front rest is count e in
      kept front [] g (late front rest k (subst (λ (us : List Token). reading p (everywhere max_levels) (start us) ≡ Err (refusals.Wrong k)) is e) g.way)

  same_deep : (a b : ℕ) (o : Outcome A) → o ≡ Err (refusals.Deep a) → o ≡ Err (refusals.Deep b) → b ≤ a
  same_deep a b o e f = let w : a ≡ b = cc in omega arith

  -- with the token that opens one level too many
  pub goes_deeper : (front rest : List Token) (t : Token) → ((other : List Token) → SameHead (t ∷ rest) other → reading p (everywhere max_levels) (start (front ++ other)) ≡ Err (refusals.Deep (length other)))
      → ((other : List Token) (more : ℕ) → SameHead (t ∷ rest) other → max_levels < more → Past (length other) (reading p (everywhere more) (start (front ++ other)))) → GoesOn W front (t ∷ [])
  goes_deeper front rest t stays past =
      let g = to_end (max_levels + 1) front t (reading p (everywhere (max_levels + 1)) (start (front ++ t ∷ []))) refl (past (t ∷ []) (max_levels + 1) refl (omega arith)) in
      kept front (t ∷ []) g (λ k e. same_deep (length (t ∷ g.way)) k (reading p (everywhere max_levels) (start (front ++ t ∷ g.way))) (stays (t ∷ g.way) refl) e)
