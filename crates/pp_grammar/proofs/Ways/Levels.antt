-- The knot: on each level there is a way, if there is one further in.
use Rattle.std.proofs.Common.{◌≡◌, ℕ, zero, suc, ◌≤◌, Bool, Option, None, Ok, Err, refl, sym, ap, ◌∙◌, arith}
use Rattle.pp_lexer.specs.declared.kind.Kind.{Kind}
use Rattle.pp_parser.specs.declared.inset.InsetTree.{InsetTree}
use Rattle.pp_parser.specs.declared.inset.InsetTree.TheVariants as part
use Rattle.pp_parser.specs.declared.refusal.Refusal.TheVariants as refusals
use Rattle.pp_grammar.proofs.Reader.Input.{Input, Outcome, Parser, and_then, ◌>>=◌, pure, refuse}
use Rattle.pp_grammar.proofs.Reader.Inner.{expr_of, param_of, block_of, case_option_of, query_of, whole_in, operand_in, interpolated_in, param_in, statements_in, function_statements_in, case_option_in, query_in}
use Rattle.pp_grammar.proofs.Reader.Levels.{part_by, within, deepest_to, read_to}
use Rattle.pp_grammar.proofs.Reader.Expressions.{whole, operand, interpolated, param_rule, case_option}
use Rattle.pp_grammar.proofs.Reader.Statements.{statements, query}
use Rattle.pp_grammar.proofs.Reader.FunctionBodies.{function_statements}
use Rattle.pp_grammar.proofs.Ways.Steps.{Goes, Holds, Fresh, Rule, refuse_holds}
use Rattle.pp_grammar.proofs.Ways.NextToken.{same_holds}
use Rattle.pp_grammar.proofs.Ways.Lists.{always}
use Rattle.pp_grammar.proofs.Ways.Inner.{closes_block, finish, InnerGoes}
use Rattle.pp_grammar.proofs.Ways.Expressions.{whole_goes, operand_goes, interpolated_goes, param_rule_goes, case_option_goes}
use Rattle.pp_grammar.proofs.Ways.Resources.{query_goes}
use Rattle.pp_grammar.proofs.Ways.Blocks.{statements_goes}
use Rattle.pp_grammar.proofs.Ways.FunctionBodies.{function_statements_goes}
use Rattle.pp_grammar.proofs.Ways.Fresh.{whole_fresh, operand_fresh, interpolated_fresh, param_rule_fresh, statements_fresh, function_statements_fresh, case_option_fresh, query_fresh}

-- ---- one level further in

below : (e m : ℕ) → suc e ≤ m → (l : ℕ) × (e ≤ l) × (m ≡ suc l)
below e zero h = absurd (omega arith)
below e (suc m) h = (m, omega arith, refl)

module _ {A : Type 0} (q q2 : ℕ → Parser A) (same : (m : ℕ) (i : Input) → q2 (suc m) i ≡ q m i) where
  deeper_goes : (n : ℕ) (E : A → Option Kind → Bool) (i : Input) (o : Outcome A) → Goes n E i o q → Goes (suc n) E i o q2
  deeper_goes n E i (Ok p) K = λ rest other i2 m h alike reached.
      let d = below n m h in
      let t = K rest other i2 d.0 d.1 alike reached in
      (t.0, ap (λ (x : ℕ). q2 x i2) d.2 ∙ same d.0 i2 ∙ t.1, t.2)
  deeper_goes n E i (Err (refusals.Wrong k)) K = λ h.
      let W = K h in
      record {
        way = W.way;
        enough = suc W.enough;
        found = W.found;
        reads = λ rest r i2 m more e alike x.
            let d = below W.enough m more in
            let t = W.reads rest r i2 d.0 d.1 e alike x in
            (t.0, ap (λ (x : ℕ). q2 x i2) d.2 ∙ same d.0 i2 ∙ t.1, t.2);
      }
  deeper_goes n E i (Err (refusals.Deep k)) K = tt
  deeper_goes n E i (Err refusals.Memory) K = tt

  deeper_holds : {n c : ℕ} {E : A → Option Kind → Bool} {p : Parser A} → Holds n c E p q → Holds (suc n) c E p q2
  deeper_holds {n = n} {E = E} {p = p} H = record { falls = H.falls; goes = λ i. deeper_goes n E i (p i) (H.goes i) }

  deeper_fresh : {s : Option Kind} {E : A → Option Kind → Bool} → Fresh s E q → Fresh s E q2
  deeper_fresh X = record {
    way = X.way;
    begins = X.begins;
    enough = suc X.enough;
    found = X.found;
    reads = λ i r m h e x.
        let d = below X.enough m h in
        let t = X.reads i r d.0 d.1 e x in
        (t.0, ap (λ (x : ℕ). q2 x i) d.2 ∙ same d.0 i ∙ t.1, t.2);
  }

  -- where no level may be opened, all is refused
  deepest_rule : {s : Option Kind} {E : A → Option Kind → Bool} → ((i : Input) → refuse i ≡ q2 zero i) → Fresh s E q → Rule zero s E (q2 zero) q2
  deepest_rule e X = record { holds = same_holds e (λ m i. refl) refuse_holds; fresh = deeper_fresh X }

  deeper_rule : {n : ℕ} {s : Option Kind} {E : A → Option Kind → Bool} {p : Parser A} → ((i : Input) → p i ≡ q2 (suc n) i) → Rule n s E p q → Fresh s E q → Rule (suc n) s E (q2 (suc n)) q2
  deeper_rule e R X = record { holds = same_holds e (λ m i. refl) (deeper_holds R.holds); fresh = deeper_fresh X }

-- what is asked for further in is what is read there
asked : {A : Type 0} (o : Outcome A) (wrap : A → InsetTree) (unwrap : InsetTree → Parser A) → ((x : A) (j : Input) → unwrap (wrap x) j ≡ Ok (x, j)) → and_then (and_then o (λ x. pure (wrap x))) unwrap ≡ o
asked (Ok p) wrap unwrap e = e p.0 p.1
asked (Err x) wrap unwrap e = refl

whole_is : (bars : Bool) (n : ℕ) (i : Input) → whole_in (within (suc n)) bars i ≡ whole (within n) bars bars i
unfolding whole_in deepest_to read_to part_by
whole_is bars n i = asked (whole (within n) bars bars i) part.Expr expr_of (λ x j. refl)

operand_is : (bars : Bool) (n : ℕ) (i : Input) → operand_in (within (suc n)) bars i ≡ operand (within n) bars i
unfolding operand_in deepest_to read_to part_by
operand_is bars n i = asked (operand (within n) bars i) part.Expr expr_of (λ x j. refl)

interpolated_is : (n : ℕ) (i : Input) → (interpolated_in (within (suc n)) >>= finish) i ≡ (interpolated (within n) >>= finish) i
unfolding interpolated_in deepest_to read_to part_by
interpolated_is n i = ap (λ (o : Outcome _). and_then o finish) (asked (interpolated (within n) i) part.Expr expr_of (λ x j. refl))

param_is : (bars : Bool) (n : ℕ) (i : Input) → param_in (within (suc n)) bars i ≡ param_rule (within n) bars i
unfolding param_in deepest_to read_to part_by
param_is bars n i = asked (param_rule (within n) bars i) part.Param param_of (λ x j. refl)

statements_is : (n : ℕ) (i : Input) → statements_in (within (suc n)) i ≡ statements (within n) i
unfolding statements_in deepest_to read_to part_by
statements_is n i = asked (statements (within n) i) part.Block block_of (λ x j. refl)

function_statements_is : (n : ℕ) (i : Input) → function_statements_in (within (suc n)) i ≡ function_statements (within n) i
unfolding function_statements_in deepest_to read_to part_by
function_statements_is n i = asked (function_statements (within n) i) part.Block block_of (λ x j. refl)

option_is : (n : ℕ) (i : Input) → case_option_in (within (suc n)) i ≡ case_option (within n) i
unfolding case_option_in deepest_to read_to part_by
option_is n i = asked (case_option (within n) i) part.CaseOption case_option_of (λ x j. refl)

query_is : (n : ℕ) (i : Input) → query_in (within (suc n)) i ≡ query (within n) i
unfolding query_in deepest_to read_to part_by
query_is n i = asked (query (within n) i) part.Query query_of (λ x j. refl)

-- ---- the induction

no_statements : Fresh None (always closes_block) (λ m. statements_in (within m))
no_statements = deeper_fresh _ _ statements_is statements_fresh

deepest_inner : InnerGoes zero
unfolding deepest_to read_to whole_in operand_in interpolated_in param_in statements_in function_statements_in case_option_in query_in
deepest_inner = record {
  whole = λ bars. deepest_rule _ _ (whole_is bars) (λ i. refl) (whole_fresh bars bars);
  operand = λ bars. deepest_rule _ _ (operand_is bars) (λ i. refl) (operand_fresh bars);
  interpolated = deepest_rule _ _ interpolated_is (λ i. refl) interpolated_fresh;
  param = λ bars. deepest_rule _ _ (param_is bars) (λ i. refl) (param_rule_fresh bars);
  statements = deepest_rule _ _ statements_is (λ i. refl) statements_fresh;
  function_statements = deepest_rule _ _ function_statements_is (λ i. refl) function_statements_fresh;
  option = deepest_rule _ _ option_is (λ i. refl) (case_option_fresh no_statements);
  query = deepest_rule _ _ query_is (λ i. refl) query_fresh;
}

deeper_inner : (n : ℕ) → InnerGoes n → InnerGoes (suc n)
deeper_inner n I = record {
  whole = λ bars. deeper_rule _ _ (whole_is bars) (λ i. sym (whole_is bars n i)) (whole_goes I bars bars) (whole_fresh bars bars);
  operand = λ bars. deeper_rule _ _ (operand_is bars) (λ i. sym (operand_is bars n i)) (operand_goes I bars) (operand_fresh bars);
  interpolated = deeper_rule _ _ interpolated_is (λ i. sym (interpolated_is n i)) (interpolated_goes I) interpolated_fresh;
  param = λ bars. deeper_rule _ _ (param_is bars) (λ i. sym (param_is bars n i)) (param_rule_goes I bars) (param_rule_fresh bars);
  statements = deeper_rule _ _ statements_is (λ i. sym (statements_is n i)) (statements_goes I) statements_fresh;
  function_statements = deeper_rule _ _ function_statements_is (λ i. sym (function_statements_is n i)) (function_statements_goes I) function_statements_fresh;
  option = deeper_rule _ _ option_is (λ i. sym (option_is n i)) (case_option_goes I) (case_option_fresh no_statements);
  query = deeper_rule _ _ query_is (λ i. sym (query_is n i)) (query_goes I) query_fresh;
}

pub inner_goes : (n : ℕ) → InnerGoes n
inner_goes zero = deepest_inner
inner_goes (suc n) = deeper_inner n (inner_goes n)
