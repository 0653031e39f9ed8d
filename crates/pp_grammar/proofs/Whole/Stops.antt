-- Where reading stops, a text leaves the grammar or passes the limit of levels.
use Rattle.std.proofs.Common.{◌≡◌, ℕ, suc, ◌-◌, ◌<◌, ltb, not, Bool, List, [], ◌∷◌, ◌++◌, length, drop, Option, Err, refl, sym, ap, subst, ◌∙◌, arith}
use Rattle.std.proofs.lemmas.Bool.{lt-ltb}
use Rattle.std.proofs.lemmas.List.{length-append}
use Rattle.pp_values.specs.declared.fault.Fault.{Fault}
use Rattle.pp_values.specs.declared.fault.What.TheVariants.{Syntax, DepthLimit}
use Rattle.pp_lexer.specs.Seen.{Token}
use Rattle.pp_parser.specs.declared.refusal.Refusal.TheVariants as refusals
use Rattle.pp_grammar.proofs.Reader.Input.{Parser}
use Rattle.pp_grammar.proofs.Reader.Inner.{Inner}
use Rattle.pp_grammar.proofs.Reader.Levels.{within}
use Rattle.pp_grammar.proofs.Reader.Manifest.{start, line_from, line_of, fault_at}
use Rattle.pp_grammar.specs.Laws.{the_end, max_levels, everywhere, up_to, first_token, SameHead, Whole, IsRefused, IsTooDeep}
use Rattle.pp_grammar.proofs.Local.Ahead.{Past, RefusedAt, DeepAt}
use Rattle.pp_grammar.proofs.Local.Steps.{Deepens}
use Rattle.pp_grammar.proofs.Local.Limits.{deep_too}
use Rattle.pp_grammar.proofs.Whole.Limits.{limit, more_later, later_too}
use Rattle.pp_grammar.proofs.Whole.Goes.{goes_on, goes_deeper, never_deep_at_end}
use Rattle.pp_grammar.proofs.Whole.Reading.{reading, IsReader}

-- ---- lines of places

drop_front : (front rest : List Token) → drop (length front) (front ++ rest) ≡ rest
drop_front [] rest = refl
drop_front (t ∷ front) rest = drop_front front rest

same_line : (end : ℕ) (front rest ts : List Token) (k : ℕ) → ts ≡ front ++ rest → length rest ≡ k → line_of end ts k ≡ line_from end rest
same_line end front rest ts k is count =
    let n : length ts - k ≡ length front = omega (arith, ap (λ (us : List Token). length us) is, length-append front rest) in
    ap (λ (us : List Token). line_from end us) (ap (λ (m : ℕ). drop m ts) n ∙ ap (λ (us : List Token). drop (length front) us) is ∙ drop_front front rest)

module _ {A : Type 0} {W : Whole A} {p : Inner → Parser A} (R : IsReader W p) where
  -- ---- places where no text goes on

  is_refused : (ts : List Token) (k : ℕ) → reading p (everywhere max_levels) (start ts) ≡ Err (refusals.Wrong k) → (r : RefusedAt (λ n. p (within n)) max_levels ts k) → IsRefused W r.before r.behind
  is_refused ts k e r = record {
    none_goes_on = λ other levels found key same stands. r.never_read other levels found (the_end key) same (R.read (everywhere levels) (r.before ++ other) found key stands);
    some_goes_on = goes_on R ts k r.before r.behind r.is r.count e;
  }

  module _ (front rest : List Token) (t : Token) (stays : (other : List Token) → SameHead (t ∷ rest) other → reading p (everywhere max_levels) (start (front ++ other)) ≡ Err (refusals.Deep (length other))) where
    -- with the limit up to the token, the token passes it, whatever may be opened behind
    deep_with : (other : List Token) (further : ℕ) → reading p (limit max_levels (length other) (suc further)) (start (front ++ t ∷ other)) ≡ Err (refusals.Deep (length (t ∷ other)))
    deep_with other further =
        let d = deep_too (λ n. not (ltb (length other) n)) (reading p (everywhere max_levels) (start (front ++ t ∷ other))) (reading p (limit max_levels (length other) (suc further)) (start (front ++ t ∷ other))) (length (t ∷ other)) (stays (t ∷ other) refl)
        (more_later R (front ++ t ∷ other) 0 (length other) max_levels 0 (suc further) (omega arith) (omega arith)) in
        subst (λ (b : Bool). Deepens (not b) (length (t ∷ other)) (reading p (limit max_levels (length other) (suc further)) (start (front ++ t ∷ other)))) (lt-ltb (length other) (length (t ∷ other)) (omega arith)) d

    no_text : (other : List Token) (further : ℕ) (found : A) (key : Option ℕ) → W (up_to other further) (front ++ t ∷ other) found key → ⊥
    no_text other further found key stands =
        let read = R.read (limit max_levels (length other) (suc further)) (front ++ t ∷ other) found key (later_too R (front ++ t ∷ other) found key (length other) (length other) max_levels further (suc further) (omega arith) (omega arith) stands) in
        let deep = deep_with other further in
        cc

    is_too_deep : ((other : List Token) (more : ℕ) → SameHead (t ∷ rest) other → max_levels < more → Past (length other) (reading p (everywhere more) (start (front ++ other)))) → IsTooDeep W front t
    is_too_deep past = record { none_goes_on = no_text; some_goes_on = goes_deeper R front rest t stays past }

  -- ---- the faults of these places, in a file at this path that ends on this line

  module _ (path : List ℕ) (end : ℕ) (ts : List Token) (F : Fault → Type 0)
      (refused : (front rest : List Token) → ts ≡ front ++ rest → IsRefused W front rest → F (fault_at path Syntax (line_from end rest)))
      (too_deep : (front rest : List Token) (t : Token) → ts ≡ front ++ t ∷ rest → IsTooDeep W front t → F (fault_at path DepthLimit t.line)) where
    refused_by : (k : ℕ) → reading p (everywhere max_levels) (start ts) ≡ Err (refusals.Wrong k) → (r : RefusedAt (λ n. p (within n)) max_levels ts k) → F (fault_at path Syntax (line_of end ts k))
    refused_by k at r =
        subst (λ (line : ℕ). F (fault_at path Syntax line)) (sym (same_line end r.before r.behind ts k r.is r.count)) (refused r.before r.behind r.is (is_refused ts k at r))

    -- a token stands where a level too many is opened: at the end there is none that could
    deep_by : (k : ℕ) → reading p (everywhere max_levels) (start ts) ≡ Err (refusals.Deep k) → (d : DeepAt (λ n. p (within n)) max_levels ts k) (behind : List Token) → d.behind ≡ behind → F (fault_at path DepthLimit (line_of end ts k))
    unfolding line_from
    deep_by k at d [] e = let z : k ≡ 0 = sym d.count ∙ ap (λ (r : List Token). length r) e in absurd (never_deep_at_end R max_levels ts (at ∙ ap (λ (m : ℕ). Err (refusals.Deep m)) z))
    deep_by k at d (t ∷ rest) e =
        let split : ts ≡ d.before ++ t ∷ rest = d.is ∙ ap (λ (r : List Token). d.before ++ r) e in
        let fault = too_deep d.before rest t split (is_too_deep d.before rest t (λ other same. d.stays other (ap first_token e ∙ same)) (λ other more same. d.goes_on other more (ap first_token e ∙ same))) in
        subst (λ (line : ℕ). F (fault_at path DepthLimit line)) (sym (same_line end d.before (t ∷ rest) ts k split (ap (λ (r : List Token). length r) (sym e) ∙ d.count))) fault

    pub refused_fault : (k : ℕ) → reading p (everywhere max_levels) (start ts) ≡ Err (refusals.Wrong k) → F (fault_at path Syntax (line_of end ts k))
    refused_fault k at = refused_by k at (R.looks.refused max_levels ts k at)

    pub deep_fault : (k : ℕ) → reading p (everywhere max_levels) (start ts) ≡ Err (refusals.Deep k) → F (fault_at path DepthLimit (line_of end ts k))
    deep_fault k at = let d = R.looks.deep max_levels ts k at in deep_by k at d d.behind refl
