-- Lists that go on from what was found already, and chains as a loop over the strengths.
use Rattle.std.proofs.Common.{◌≡◌, ℕ, zero, suc, ◌+◌, ◌-◌, ◌<◌, ◌≤◌, Bool, false, List, [], ◌∷◌, ◌++◌, Option, Some, None, Ok, Err, refl, sym, ap, ◌∙◌, append_assoc, append-nil, length, arith}
use Rattle.std.proofs.Math.Dec.{eqb-zero-suc}
use Rattle.pp_lexer.specs.declared.kind.Kind.{Kind}
use Rattle.pp_lexer.specs.declared.kind.Kind.TheVariants as k
use Rattle.pp_tree.specs.declared.expr.Form.TheVariants as form
use Rattle.pp_tree.specs.declared.expr.Piece.TheVariants as piece
use Rattle.pp_tree.specs.declared.expr.Expr.{Expr}
use Rattle.pp_tree.specs.declared.expr.Operation.{Operation}
use Rattle.pp_parser.specs.declared.started.Started.{Started}
use Rattle.pp_parser.specs.Input.{Input, Parser, Outcome, and_then, ◌>>=◌, ◌>>◌, pure, kind, expect, turns, more_or_done, repeat, repeat_from}
use Rattle.pp_parser.specs.Inner.{Inner}
use Rattle.pp_parser.specs.Kinds.{begins_postfix}
use Rattle.pp_parser.specs.Expressions.{piece_rule, pieces, postfix_by, postfix_rule, postfixes, postfixed, operation_rule, operand, operand_from, chain, chained, climb, binds, operator_at}
use Rattle.pp_parser.proofs.Turns.{one_more, no_more}

module _ {A : Type 0} (step : Parser (Option A)) where
  abbrev behind : List A → Outcome (List A) → Outcome (List A)
  behind front (Ok p) = Ok (front ++ p.0, p.1)
  behind front (Err e) = Err e

  turn : (n : ℕ) (front found : List A) → ((more : List A) (i : Input) → repeat_from step n (front ++ more) i ≡ behind front (repeat_from step n more i))
      → (o : Outcome (Option A)) → and_then o (more_or_done (front ++ found) (repeat_from step n)) ≡ behind front (and_then o (more_or_done found (repeat_from step n)))
  turn n front found more_so (Ok (Some x, i)) = ap (λ all. repeat_from step n all i) (append_assoc front found (x ∷ [])) ∙ more_so (found ++ x ∷ []) i
  turn n front found more_so (Ok (None, i)) = refl
  turn n front found more_so (Err e) = refl

  -- what is found first stays in front
  repeat_behind : (n : ℕ) (front found : List A) (i : Input) → repeat_from step n (front ++ found) i ≡ behind front (repeat_from step n found i)
  unfolding repeat_from
  repeat_behind zero front found i = refl
  repeat_behind (suc n) front found i = turn n front found (repeat_behind n front) (step i)

  passed : {B : Type 0} (front : List A) (next : List A → Parser B) (o : Outcome (List A)) → and_then (behind front o) next ≡ and_then o (λ more. next (front ++ more))
  passed front next (Ok p) = refl
  passed front next (Err e) = refl

  pub repeat_then : {B : Type 0} (front : List A) (next : List A → Parser B) (i : Input) → and_then (repeat step i) (λ more. next (front ++ more)) ≡ and_then (repeat_from step (turns i) front i) next
  unfolding repeat
  repeat_then front next i =
      sym (passed front next (repeat_from step (turns i) [] i))
      ∙ ap (λ o. and_then o next) (sym (repeat_behind (turns i) front [] i) ∙ ap (λ all. repeat_from step (turns i) all i) (append-nil front))

module _ (inner : Inner) where
  pub text_behind : (said : List ℕ) (i : Input)
      → and_then (repeat (piece_rule inner) i) (λ more. expect k.TextEnd >> pure (form.Interpolated (pieces said more)))
      ≡ and_then (repeat_from (piece_rule inner) (turns i) (pieces said []) i) (λ found. expect k.TextEnd >> pure (form.Interpolated found))
  text_behind [] i = repeat_then (piece_rule inner) [] (λ found. expect k.TextEnd >> pure (form.Interpolated found)) i
  text_behind (b ∷ bs) i = repeat_then (piece_rule inner) (piece.Text (b ∷ bs) ∷ []) (λ found. expect k.TextEnd >> pure (form.Interpolated found)) i

  pub postfixes_behind : (bars : Bool) (s : Started) (i : Input)
      → postfixes inner bars s i ≡ and_then (repeat_from (postfix_rule inner bars) (turns i) s.postfixes i) (λ all. pure (postfixed s.base all))
  unfolding postfixes
  postfixes_behind bars s i = repeat_then (postfix_rule inner bars) s.postfixes (λ all. pure (postfixed s.base all)) i

  passes : (o : Outcome Expr) → o ≡ and_then o pure
  passes (Ok p) = refl
  passes (Err e) = refl

  grouped : {A : Type 0} (o : Outcome A) (f : A → Parser Expr) (g : Expr → Parser Expr) → and_then (and_then o f) g ≡ and_then o (λ x. f x >>= g)
  grouped (Ok p) f g = refl
  grouped (Err e) f g = refl

  chained_then : (o : Outcome Expr) (more : Parser (List (Operation Expr))) (g : Expr → Parser Expr)
      → and_then (and_then o (λ x. more >>= (λ all. pure (chained x all)))) g ≡ and_then o (λ x. more >>= (λ all. g (chained x all)))
  chained_then (Ok p) more g = grouped (more p.1) (λ all. pure (chained p.0 all)) g
  chained_then (Err e) more g = refl

  one_strength : (bars : Bool) (n tighter : ℕ) (o : Outcome Expr)
      → and_then o (λ x. repeat (operation_rule inner (chain inner bars tighter None) (suc tighter)) >>= (λ all. climb inner bars n (suc (suc tighter)) (chained x all)))
      ≡ and_then o (climb inner bars (suc n) (suc tighter))
  unfolding climb
  one_strength bars n tighter (Ok p) =
      let one : suc tighter + 1 ≡ suc (suc tighter) = omega arith in
      let back : suc tighter - 1 ≡ tighter = omega arith in
      rw (one, back) refl
  one_strength bars n tighter (Err e) = refl

  climbs : (bars : Bool) (n tighter : ℕ) (start : Option Started) (i : Input)
      → chain inner bars (n + tighter) start i ≡ and_then (chain inner bars tighter start i) (climb inner bars n (suc tighter))
  unfolding chain climb
  climbs bars zero tighter start i = let none : 0 + tighter ≡ tighter = omega arith in rw none (passes (chain inner bars tighter start i))
  climbs bars (suc n) tighter start i =
      let next : suc n + tighter ≡ n + suc tighter = omega arith in
      ap (λ m. chain inner bars m start i) next
      ∙ climbs bars n (suc tighter) start i
      ∙ chained_then (chain inner bars tighter start i) (repeat (operation_rule inner (chain inner bars tighter None) (suc tighter))) (climb inner bars n (suc (suc tighter)))
      ∙ one_strength bars n tighter (chain inner bars tighter start i)

  pub chain_climbs : (bars : Bool) (loosest : ℕ) (start : Option Started) (i : Input)
      → chain inner bars loosest start i ≡ and_then (operand_from inner bars start i) (climb inner bars loosest 1)
  unfolding chain
  chain_climbs bars loosest start i =
      let all : loosest ≡ loosest + 0 = omega arith in
      ap (λ n. chain inner bars n start i) all ∙ climbs bars loosest 0 start i

  -- an operand and what tighter operators add behind it
  pub chain_behind : (bars : Bool) (strength : ℕ) (i : Input)
      → chain inner bars strength None i ≡ and_then (operand inner bars i) (climb inner bars strength 1)
  chain_behind bars strength i = chain_climbs bars strength None i

  repeat_stops : {A : Type 0} (step : Parser (Option A)) (i : Input) → step i ≡ Ok (None, i) → repeat step i ≡ Ok ([], i)
  unfolding repeat repeat_from
  repeat_stops step i none = let some : length i.left + 1 ≡ suc (length i.left) = omega arith in rw (some, none) refl

  operation_none : (tighter : Parser Expr) (strength : ℕ) (i : Input) → binds (kind i) ≡ 0 → 0 < strength → operation_rule inner tighter strength i ≡ Ok (None, i)
  unfolding operation_rule operator_at
  operation_none tighter zero i none some = absurd (omega arith)
  operation_none tighter (suc n) i none some = rw (none, eqb-zero-suc n) refl

  postfix_by_none : (bars : Bool) (next : Option Kind) → begins_postfix next ≡ false → (i : Input) → postfix_by inner bars next i ≡ Ok (None, i)
  postfix_by_none bars (Some k.TightBracket) off i = absurd (cc)
  postfix_by_none bars (Some k.Dot) off i = absurd (cc)
  postfix_by_none bars (Some k.Question) off i = absurd (cc)
  postfix_by_none bars _ off i = refl

  postfix_rule_none : (bars : Bool) (i : Input) → begins_postfix (kind i) ≡ false → postfix_rule inner bars i ≡ Ok (None, i)
  unfolding postfix_rule
  postfix_rule_none bars i off = postfix_by_none bars (kind i) off i

  -- where nothing follows, a value stands alone
  pub postfixes_none : (bars : Bool) (s : Started) (i : Input) → s.postfixes ≡ [] → begins_postfix (kind i) ≡ false → postfixes inner bars s i ≡ Ok (s.base, i)
  unfolding postfixes
  postfixes_none bars s i none off = rw (none, repeat_stops (postfix_rule inner bars) i (postfix_rule_none bars i off)) refl

  -- where no operator follows, an operand stands alone
  pub climb_alone : (bars : Bool) (n strength : ℕ) (x : Expr) (i : Input) → binds (kind i) ≡ 0 → 0 < strength → climb inner bars n strength x i ≡ Ok (x, i)
  unfolding climb
  climb_alone bars zero strength x i none some = refl
  climb_alone bars (suc n) strength x i none some =
      rw (repeat_stops (operation_rule inner (chain inner bars (strength - 1) None) strength) i (operation_none (chain inner bars (strength - 1) None) strength i none some))
      (climb_alone bars n (strength + 1) x i none (omega arith))

  pub climb_on : (bars : Bool) (end strength : ℕ) (x : Expr) (i : Input) → strength < end
      → climb inner bars (end - strength) strength x i
      ≡ and_then (repeat (operation_rule inner (chain inner bars (strength - 1) None) strength) i) (λ more. climb inner bars (end - (strength + 1)) (strength + 1) (chained x more))
  unfolding climb
  climb_on bars end strength x i below = one_more (λ n. climb inner bars n strength x i) end strength below

  pub climb_done : (bars : Bool) (end strength : ℕ) (x : Expr) (i : Input) → end ≤ strength → climb inner bars (end - strength) strength x i ≡ Ok (x, i)
  unfolding climb
  climb_done bars end strength x i done = no_more (λ n. climb inner bars n strength x i) end strength done
