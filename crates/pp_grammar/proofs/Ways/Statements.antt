-- Behind what was read of a statement there is a way.
use Rattle.std.proofs.Common.{◌≡◌, ℕ, zero, suc, ◌+◌, ◌≤◌, Bool, true, false, not, if◌then◌else◌, List, [], ◌∷◌, ◌++◌, length, Option, Some, None, Ok, Err, refl, sym, ap, subst, ◌∙◌, append-nil, add-one, arith}
use Rattle.pp_lexer.specs.declared.kind.Kind.{Kind}
use Rattle.pp_lexer.specs.declared.kind.Kind.TheVariants as k
use Rattle.pp_lexer.specs.Seen.{Token}
use Rattle.pp_tree.specs.declared.expr.Expr.{Expr}
use Rattle.pp_tree.specs.declared.expr.Form.TheVariants as form
use Rattle.pp_tree.specs.declared.expr.Postfix.TheVariants as postfix
use Rattle.pp_tree.specs.declared.statement.Statement.TheVariants as statement
use Rattle.pp_tree.specs.declared.statement.Operand.{Operand}
use Rattle.pp_tree.specs.declared.resource.ResourceForm.TheVariants as resource_form
use Rattle.pp_tree.specs.declared.definition.Name.{Name}
use Rattle.pp_tree.specs.Building.{expr_at, chain as chain_of, words as words_of}
use Rattle.pp_parser.specs.declared.argument.WordArgument.TheVariants as argument
use Rattle.pp_grammar.proofs.Reader.Input.{Input, Outcome, Parser, and_then, ◌>>=◌, pure, kind, kind_at, peek, eat, turns}
use Rattle.pp_grammar.proofs.Reader.Inner.{Inner}
use Rattle.pp_grammar.specs.Kinds.{is_kind, same_kind, is_name, begins_expression}
use Rattle.pp_grammar.proofs.Reader.Levels.{within}
use Rattle.pp_grammar.proofs.Reader.Expressions.{call_or_name_by, call_or_name, chain, loosest, started, whole}
use Rattle.pp_grammar.proofs.Reader.Statements.{Read, taken_name, resource, expression_from, behind_name_by, behind_name, behind_type, chain_from, defaults_rule, override_rule, reference_by, reference_rule, typed_by, typed, argument_from_by, argument_from, argument_rule, argument_then, words_from, words, function_by, function, emitted_value, statement_by, statement_rule}
use Rattle.pp_grammar.proofs.Local.Steps.{Falls, any, one, if_true, falls_then, eat_falls, bind_local}
use Rattle.pp_grammar.proofs.Local.Lists.{same_then, same_if}
use Rattle.pp_grammar.proofs.Local.Expressions.{call_or_name_local, begun_chain_local}
use Rattle.pp_grammar.proofs.Local.Statements.{pending_count, waiting, same_argument, words_turns, link_rule_local, expression_from_local, behind_type_local, chain_from_local, words_local, words_from_local, argument_rule_local}
use Rattle.pp_grammar.proofs.Ways.Steps.{mark, tokens_of, Begins, Holds, Fresh, Rule, Meets, bind_by, fresh_by, first, first_any, after, pure_goes, take_goes, refuse_holds}
use Rattle.pp_grammar.proofs.Ways.NextToken.{Case, moves, stays, map_goes, peek_holds, peek_some, peek_cases, cases_holds, here_some, test_holds, test_goes, same_holds, same_rule, eats, eat_goes, expect_goes}
use Rattle.pp_grammar.proofs.Ways.Lists.{always, repeat_goes, reassociated, same_behind_outcome}
use Rattle.pp_grammar.proofs.Ways.Inner.{ends_expression, InnerGoes, here_too}
use Rattle.pp_grammar.proofs.Ways.Expressions.{arguments_goes, optional_lambda_goes, access_goes, call_or_name_goes, begun_chain_goes, whole_goes}
use Rattle.pp_grammar.proofs.Ways.Resources.{ends_statement, statement_ends, taken_name_goes, attributes_goes, resource_goes, expression_from_goes, behind_type_goes, operand_rule_goes, link_rule_goes}

-- ---- a name that was taken already is followed by `{`

abbrev pub pending_ends : Option Name → Option Kind → Bool
pending_ends None next = ends_statement next
pending_ends (Some name) (Some k.OpenBrace) = true
pending_ends (Some name) _ = false

abbrev pub ends_read : {X : Type 0} → X × Option Name → Option Kind → Bool
ends_read r next = pending_ends r.1 next

read_ends : (p : Option Name) (next : Option Kind) → pending_ends p next ≡ true → ends_expression next ≡ true
read_ends None next e = statement_ends next e
read_ends (Some name) (Some k.OpenBrace) e = refl
read_ends (Some name) _ e = absurd cc

read_no_comma : (p : Option Name) (next : Option Kind) → pending_ends p next ≡ true → not (is_kind k.Comma next) ≡ true
unfolding is_kind same_kind
read_no_comma None None e = refl
read_no_comma None (Some k.CloseBrace) e = refl
read_no_comma None (Some k.Semicolon) e = refl
read_no_comma None _ e = absurd cc
read_no_comma (Some name) (Some k.OpenBrace) e = refl
read_no_comma (Some name) _ e = absurd cc

brace_only : (name : Name) (next : Option Kind) → pending_ends (Some name) next ≡ true → next ≡ Some k.OpenBrace
brace_only name (Some k.OpenBrace) e = refl
brace_only name _ e = absurd cc

none_of : (x : Option Name) → pending_count x ≡ 0 → x ≡ None
none_of None e = refl
none_of (Some name) e = absurd (omega arith)

-- where no token was taken, no name is pending
pub waiting_none : {X : Type 0} (i : Input) (o : Outcome (X × Option Name)) (r : (X × Option Name) × Input) → Falls waiting i o → o ≡ Ok r → length r.1.left ≡ length i.left → r.0.1 ≡ None
waiting_none i o r f e z = let w : length r.1.left + pending_count r.0.1 ≤ length i.left = subst (λ (x : Outcome _). Falls waiting i x) e f in none_of r.0.1 (omega arith)

pub fresh_none : {X : Type 0} {q : ℕ → Parser (X × Option Name)} → ((m : ℕ) (i : Input) → Falls waiting i (q m i)) → (Y : Fresh None ends_read q) → Y.found.1 ≡ None
unfolding kind_at
fresh_none {q = q} falls Y = go Y.found.1 refl
  where
    go : (x : Option Name) → Y.found.1 ≡ x → Y.found.1 ≡ None
    go None e = e
    go (Some name) e =
        let i : Input = record { left = mark k.OpenBrace ∷ []; doubled = None } in
        let t = Y.reads i (mark k.OpenBrace ∷ []) Y.enough (omega arith) (ap (λ (w : List Token). w ++ mark k.OpenBrace ∷ []) (sym Y.begins)) (ap (λ (p : Option Name). pending_ends p (Some k.OpenBrace)) e) in
        waiting_none i (q Y.enough i) (Y.found, t.0) (falls Y.enough i) t.1 (ap length t.2)

-- what may take no token is read behind what it may follow at the end of a statement
pub read_on : {A X : Type 0} {n : ℕ} {s : Option Kind} {E : A → Option Kind → Bool} {p : Parser A} {f : A → Parser (X × Option Name)} {q : ℕ → Parser A} {g : A → ℕ → Parser (X × Option Name)}
    → Rule n s E p q → ((a : A) → Rule n None ends_read (f a) (g a)) → ((a : A) (i : Input) → Falls waiting i (f a i)) → ((a : A) (m : ℕ) (i : Input) → Falls waiting i (g a m i)) → ((a : A) (next : Option Kind) → ends_statement next ≡ true → E a next ≡ true)
    → Rule n s ends_read (p >>= f) (λ m. q m >>= (λ x. g x m))
read_on {n = n} {s = s} {E = E} {f = f} {g = g} P R F G M = record {
  holds = bind_by {s = λ _. None} (tokens_of s) P.holds R (λ a. omega arith) meets (λ a j r e z next x. M a next (ap (λ (y : Option Name). pending_ends y next) (sym (waiting_none j (f a j) r (F a j) e z)) ∙ x));
  fresh = fresh_by g P.fresh (R P.fresh.found).fresh (meets P.fresh.found) s (subst (λ (w : List Token). Begins s (P.fresh.way ++ w)) (sym (R P.fresh.found).fresh.begins) (subst (λ (w : List Token). Begins s w) (sym (append-nil P.fresh.way)) P.fresh.begins));
}
  where
    meets : (a : _) (r : List Token) → ends_read (R a).fresh.found (kind_at r) ≡ true → E a (kind_at ((R a).fresh.way ++ r)) ≡ true
    meets a r x = subst (λ (w : List Token). E a (kind_at (w ++ r)) ≡ true) (sym (R a).fresh.begins) (M a (kind_at r) (ap (λ (y : Option Name). pending_ends y (kind_at r)) (sym (fresh_none (G a) (R a).fresh)) ∙ x))

-- the case that all tokens lead to which end a statement
staying : {X : Type 0} {n : ℕ} {g : Option Kind → ℕ → Parser (X × Option Name)} {p : Parser (X × Option Name)} {q : ℕ → Parser (X × Option Name)} → Rule n None ends_read p q → ((i : Input) → Falls waiting i (p i))
    → ((next : Option Kind) → ends_statement next ≡ true → (m : ℕ) → g next m ≡ q m) → Case n ends_read g p q
staying {p = p} Z falls quiet = stays Z.holds (λ i r e z next h m. quiet next (ap (λ (y : Option Name). pending_ends y next) (sym (waiting_none i (p i) r (falls i) e z)) ∙ h) m)

peek_reads : {X : Type 0} {n : ℕ} {p0 : Parser (X × Option Name)} {q0 : ℕ → Parser (X × Option Name)} {f : Option Kind → Parser (X × Option Name)} {g : Option Kind → ℕ → Parser (X × Option Name)}
    → ((next : Option Kind) → Case n ends_read g (f next) (g next)) → Rule n None ends_read p0 q0 → ((m : ℕ) (i : Input) → Falls waiting i (q0 m i)) → ((next : Option Kind) → ends_statement next ≡ true → (m : ℕ) → g next m ≡ q0 m)
    → Rule n None ends_read (peek >>= f) (λ m. peek >>= (λ next. g next m))
peek_reads F Z falls quiet = peek_cases F Z.fresh (λ next e m. quiet next (ap (λ (y : Option Name). pending_ends y next) (sym (fresh_none falls Z.fresh)) ∙ e) m)

test_case : {A : Type 0} {n : ℕ} {E : A → Option Kind → Bool} {g : Option Kind → ℕ → Parser A} {p p2 : Parser A} {q q2 : ℕ → Parser A} (b : Bool) → Case n E g p q → Case n E g p2 q2 → Case n E g (if b then p else p2) (λ m. if b then q m else q2 m)
test_case true P Q = P
test_case false P Q = Q

-- ---- chains

module _ {n : ℕ} (I : InnerGoes n) where
  pub chain_from_goes : (at : ℕ) (first : Operand) → Rule n None ends_read (chain_from (within n) at first) (λ m. chain_from (within m) at first)
  unfolding chain_from
  chain_from_goes at first = map_goes (λ links. (statement.Chain (chain_of first links at), None)) (repeat_goes _ (λ m. (link_rule_local (here_too m) {d = true}).falls) (link_rule_goes I)) (λ _ next e. e)

  pub chained_goes : {s : Option Kind} {p : Parser Operand} {q : ℕ → Parser Operand} (at : ℕ) → Rule n s (always ends_statement) p q → Rule n s ends_read (p >>= chain_from (within n) at) (λ m. q m >>= chain_from (within m) at)
  chained_goes at P = read_on P (chain_from_goes at) (λ first. (chain_from_local (here_too n) {d = true} at first).falls) (λ first m. (chain_from_local (here_too m) {d = true} at first).falls) (λ _ next e. e)

  defaults_rule_goes : (type : Name) → Rule n (Some k.OpenBrace) ends_read (defaults_rule (within n) type) (λ m. defaults_rule (within m) type)
  unfolding defaults_rule
  defaults_rule_goes type = first_any (attributes_goes I false) (λ _. pure_goes _)

  override_rule_goes : (type : Name) (args : List Expr) → Rule n (Some k.OpenBrace) ends_read (override_rule (within n) type args) (λ m. override_rule (within m) type args)
  unfolding override_rule
  override_rule_goes type args = first_any (attributes_goes I true) (λ _. pure_goes _)

  abbrev referred : Inner → Name → List Expr → Parser Read
  referred inner type args = expression_from inner (expr_at type.at (form.Type type.text)) (postfix.Access args ∷ []) >>= chain_from inner type.at

  referred_falls : (m : ℕ) (type : Name) (args : List Expr) (i : Input) → Falls waiting i (referred (within m) type args i)
  referred_falls m type args = (bind_local (expression_from_local (here_too m) {d = true} _ (postfix.Access args ∷ [])) (chain_from_local (here_too m) type.at)).falls

  no_override : (inner : Inner) (type : Name) (args : List Expr) (next : Option Kind) → ends_statement next ≡ true → reference_by inner type args next ≡ referred inner type args
  no_override inner type args (Some k.OpenBrace) e = absurd cc
  no_override inner type args _ e = refl

  referred_goes : (type : Name) (args : List Expr) → Rule n None ends_read (referred (within n) type args) (λ m. referred (within m) type args)
  referred_goes type args = chained_goes type.at (expression_from_goes I _ _)

  reference_by_goes : (type : Name) (args : List Expr) (next : Option Kind) → Case n ends_read (λ next m. reference_by (within m) type args next) (reference_by (within n) type args next) (λ m. reference_by (within m) type args next)
  reference_by_goes type args (Some k.OpenBrace) = moves (override_rule_goes type args).holds
  reference_by_goes type args _ = staying (referred_goes type args) (referred_falls n type args) (λ next e m. no_override (within m) type args next e)

  reference_rule_goes : (type : Name) (args : List Expr) → Rule n None ends_read (reference_rule (within n) type args) (λ m. reference_rule (within m) type args)
  unfolding reference_rule
  reference_rule_goes type args = peek_reads (reference_by_goes type args) (referred_goes type args) (λ m. referred_falls m type args) (λ next e m. no_override (within m) type args next e)

  abbrev typed_chain : Inner → Name → Parser Read
  typed_chain inner type = behind_type inner type >>= chain_from inner type.at

  typed_falls : (m : ℕ) (type : Name) (i : Input) → Falls waiting i (typed_chain (within m) type i)
  typed_falls m type = (bind_local (behind_type_local (here_too m) {d = true} type) (chain_from_local (here_too m) type.at)).falls

  no_defaults : (inner : Inner) (type : Name) (next : Option Kind) → ends_statement next ≡ true → typed_by inner type next ≡ typed_chain inner type
  no_defaults inner type (Some k.OpenBrace) e = absurd cc
  no_defaults inner type (Some k.TightBracket) e = absurd cc
  no_defaults inner type _ e = refl

  typed_chain_goes : (type : Name) → Rule n None ends_read (typed_chain (within n) type) (λ m. typed_chain (within m) type)
  typed_chain_goes type = chained_goes type.at (behind_type_goes I type)

  typed_by_goes : (type : Name) (next : Option Kind) → Case n ends_read (λ next m. typed_by (within m) type next) (typed_by (within n) type next) (λ m. typed_by (within m) type next)
  typed_by_goes type (Some k.OpenBrace) = moves (defaults_rule_goes type).holds
  typed_by_goes type (Some k.TightBracket) = moves (first_any (access_goes I) (reference_rule_goes type)).holds
  typed_by_goes type _ = staying (typed_chain_goes type) (typed_falls n type) (λ next e m. no_defaults (within m) type next e)

  typed_goes : (type : Name) → Rule n None ends_read (typed (within n) type) (λ m. typed (within m) type)
  unfolding typed
  typed_goes type = peek_reads (typed_by_goes type) (typed_chain_goes type) (λ m. typed_falls m type) (λ next e m. no_defaults (within m) type next e)

-- ---- arguments of a statement function

abbrev Words : Type 0
Words = List Expr × Option Name

abbrev words_on : Inner → List Expr → Parser Words
words_on inner found i = words_from inner (turns i) found i

abbrev behind_argument : Inner → List Expr → (List Expr → Parser Words) → Expr → Parser Words
behind_argument inner found go x = eat k.Comma >>= (λ more. if more then go (found ++ x ∷ []) else pure (found ++ x ∷ [], None))

abbrev plain_argument : Inner → List Expr → (List Expr → Parser Words) → Name → Parser Words
plain_argument inner found go name = call_or_name inner false name.text >>= (λ f. chain inner false loosest (Some (started (expr_at name.at f))) >>= behind_argument inner found go)

abbrev name_argument : Inner → List Expr → (List Expr → Parser Words) → Name → Option Kind → Parser Words
name_argument inner found go name (Some k.OpenBrace) = pure (found, Some name)
name_argument inner found go name _ = plain_argument inner found go name

abbrev argument_choice : Inner → List Expr → (List Expr → Parser Words) → Option Kind → Parser Words
argument_choice inner found go next = if is_name next then (taken_name >>= (λ name. peek >>= name_argument inner found go name)) else (whole inner false false >>= behind_argument inner found go)

plain_argument_is : (inner : Inner) (found : List Expr) (go : List Expr → Parser Words) (name : Name) (j : Input)
    → plain_argument inner found go name j ≡ and_then ((call_or_name inner false name.text >>= (λ f. chain inner false loosest (Some (started (expr_at name.at f))) >>= (λ x. pure (argument.Argument x)))) j) (argument_then inner found go)
plain_argument_is inner found go name j =
    sym (reassociated (call_or_name inner false name.text j) (λ f. chain inner false loosest (Some (started (expr_at name.at f))) >>= (λ x. pure (argument.Argument x))) (argument_then inner found go)
    ∙ same_behind_outcome (call_or_name inner false name.text j) (λ f l. and_then (and_then (chain inner false loosest (Some (started (expr_at name.at f))) l) (λ x. pure (argument.Argument x))) (argument_then inner found go)) (λ f. chain inner false loosest (Some (started (expr_at name.at f))) >>= behind_argument inner found go)
    (λ f l. reassociated (chain inner false loosest (Some (started (expr_at name.at f))) l) (λ x. pure (argument.Argument x)) (argument_then inner found go)))

name_argument_is : (inner : Inner) (found : List Expr) (go : List Expr → Parser Words) (name : Name) (next : Option Kind) (j : Input) → name_argument inner found go name next j ≡ and_then (argument_from_by inner name next j) (argument_then inner found go)
name_argument_is inner found go name (Some k.OpenBrace) j = refl
name_argument_is inner found go name _ j = plain_argument_is inner found go name j

argument_choice_is : (inner : Inner) (found : List Expr) (go : List Expr → Parser Words) (b : Bool) (i : Input)
    → (if b then (taken_name >>= (λ name. peek >>= name_argument inner found go name)) else (whole inner false false >>= behind_argument inner found go)) i ≡ and_then ((if b then (taken_name >>= argument_from inner) else (whole inner false false >>= (λ x. pure (argument.Argument x)))) i) (argument_then inner found go)
unfolding argument_from
argument_choice_is inner found go true i = sym (reassociated (taken_name i) (argument_from inner) (argument_then inner found go)
    ∙ same_behind_outcome (taken_name i) (λ name j. and_then (argument_from inner name j) (argument_then inner found go)) (λ name. peek >>= name_argument inner found go name) (λ name j. sym (name_argument_is inner found go name (kind j) j)))
argument_choice_is inner found go false i = sym (reassociated (whole inner false false i) (λ x. pure (argument.Argument x)) (argument_then inner found go))

argument_is : (inner : Inner) (found : List Expr) (go : List Expr → Parser Words) (i : Input) → (peek >>= argument_choice inner found go) i ≡ (argument_rule inner >>= argument_then inner found go) i
unfolding argument_rule
argument_is inner found go i = argument_choice_is inner found go (is_name (kind i)) i

abbrev words_choice : Inner → List Expr → (List Expr → Parser Words) → Option Kind → Parser Words
words_choice inner found go next = if begins_expression next then (argument_rule inner >>= argument_then inner found go) else pure (found, None)

words_is : (inner : Inner) (falls : (i : Input) → Falls one i (argument_rule inner i)) (found : List Expr) (i : Input) → (peek >>= words_choice inner found (words_on inner)) i ≡ words_on inner found i
unfolding words_from
words_is inner falls found i =
    let n = length i.left in
    let e : words_on inner found i ≡ words_from inner (suc n) found i = ap (λ (t : ℕ). words_from inner t found i) (add-one n) in
    same_if (begins_expression (kind i)) (argument_rule inner >>= argument_then inner found (words_on inner)) (argument_rule inner >>= argument_then inner found (words_from inner n)) (pure (found, None)) (pure (found, None)) i
    (λ w. same_then one i (argument_rule inner i) (argument_then inner found (words_on inner)) (argument_then inner found (words_from inner n)) (falls i)
    (λ x j a. same_argument inner found x (words_on inner) (words_from inner n) j (λ more v t. words_turns inner falls (turns v) n more v (omega arith) (omega arith))))
    (λ w. refl) ∙ sym e

argument_falls : (m : ℕ) (i : Input) → Falls one i (argument_rule (within m) i)
argument_falls m = (argument_rule_local (here_too m) {d = true}).falls

no_words : (next : Option Kind) → ends_statement next ≡ true → begins_expression next ≡ false
no_words None e = refl
no_words (Some k.CloseBrace) e = refl
no_words (Some k.Semicolon) e = refl
no_words _ e = absurd cc

words_fresh : (found : List Expr) → Fresh None ends_read (λ m. words_on (within m) found)
unfolding kind
words_fresh found = record {
  way = [];
  begins = refl;
  enough = 0;
  found = (found, None);
  reads = λ i r m h e x.
      (i, sym (words_is (within m) (argument_falls m) found i) ∙ ap (λ (b : Bool). (if b then (argument_rule (within m) >>= argument_then (within m) found (words_on (within m))) else pure (found, None)) i) (no_words (kind_at i.left) (ap (λ (ts : List Token). ends_statement (kind_at ts)) e ∙ x)), e);
}

choice_falls : (more : Bool) (go : List Expr → Parser Words) (xs : List Expr) (i : Input) → ((more : List Expr) (i : Input) → Falls waiting i (go more i)) → Falls waiting i ((if more then go xs else pure (xs, None)) i)
choice_falls true go xs i h = h xs i
choice_falls false go xs i h = omega arith

plain_falls : (m : ℕ) (found : List Expr) (go : List Expr → Parser Words) → ((more : List Expr) (i : Input) → Falls waiting i (go more i)) → (name : Name) (i : Input) → Falls waiting i (plain_argument (within m) found go name i)
plain_falls m found go h name i =
    falls_then any 0 waiting waiting i (call_or_name (within m) false name.text i) (λ f. chain (within m) false loosest (Some (started (expr_at name.at f))) >>= behind_argument (within m) found go) ((call_or_name_local (here_too m) {d = true} false name.text).falls i) (λ x. omega arith) (λ x. omega arith)
    (λ f j. falls_then any 0 waiting waiting j (chain (within m) false loosest (Some (started (expr_at name.at f))) j) (behind_argument (within m) found go) ((begun_chain_local (here_too m) {d = true} false loosest _).falls j) (λ x. omega arith) (λ x. omega arith)
    (λ x l. falls_then if_true 0 waiting waiting l (eat k.Comma l) (λ more. if more then go (found ++ x ∷ []) else pure (found ++ x ∷ [], None)) (eat_falls k.Comma l) (λ b. omega arith) (λ b. omega arith) (λ more w. choice_falls more go (found ++ x ∷ []) w h)))

words_on_falls : (m : ℕ) (more : List Expr) (i : Input) → Falls waiting i (words_on (within m) more i)
words_on_falls m more i = (words_from_local (here_too m) {d = true} (turns i) more).falls i

no_pending : (inner : Inner) (found : List Expr) (go : List Expr → Parser Words) (name : Name) (next : Option Kind) → ends_statement next ≡ true → name_argument inner found go name next ≡ plain_argument inner found go name
no_pending inner found go name (Some k.OpenBrace) e = absurd cc
no_pending inner found go name _ e = refl

value_or : {A : Type 0} → A → Outcome A → A
value_or d (Ok r) = r.0
value_or d (Err e) = d

-- what `pure` gives
given : {A : Type 0} (a : A) (i : Input) (r : A × Input) → pure a i ≡ Ok r → a ≡ r.0
unfolding value_or
given a i r e = ap (value_or a) e

pending_case : (found : List Expr) (name : Name) {n : ℕ} → Case n ends_read (λ next m. name_argument (within m) found (words_on (within m)) name next) (pure (found, Some name)) (λ m. pure (found, Some name))
pending_case found name = stays (pure_goes (found, Some name)).holds (λ i r e z next h m.
    let w : next ≡ Some k.OpenBrace = brace_only name next (ap (λ (x : Words). pending_ends x.1 next) (given (found, Some name) i r e) ∙ h) in
    ap (name_argument (within m) found (words_on (within m)) name) w)

module _ {n : ℕ} (I : InnerGoes n) where
  -- a loop of which this is known is asked for the rest
  module _ (go : List Expr → Parser Words) (G : (found : List Expr) → Rule n None ends_read (go found) (λ m. words_on (within m) found)) (falls : (more : List Expr) (i : Input) → Falls waiting i (go more i)) where
    behind_argument_goes : (found : List Expr) (x : Expr) → Rule n None ends_read (behind_argument (within n) found go x) (λ m. behind_argument (within m) found (words_on (within m)) x)
    behind_argument_goes found x = after (eat_goes k.Comma) (λ more. test_goes more (G (found ++ x ∷ [])) (pure_goes (found ++ x ∷ [], None))) fits
      where
        fits : (more : Bool) → Meets {B = Words} (eats k.Comma) None ends_read more
        fits true = λ b next e. refl
        fits false = λ b next e. read_no_comma b.1 next e

    plain_argument_goes : (found : List Expr) (name : Name) → Rule n None ends_read (plain_argument (within n) found go name) (λ m. plain_argument (within m) found (words_on (within m)) name)
    plain_argument_goes found name = after (call_or_name_goes I false name.text) (λ f. after (begun_chain_goes I false loosest _) (behind_argument_goes found) (λ _ b next e. read_ends b.1 next e)) (λ _ b next e. read_ends b.1 next e)

    name_argument_goes : (found : List Expr) (name : Name) (next : Option Kind) → Case n ends_read (λ next m. name_argument (within m) found (words_on (within m)) name next) (name_argument (within n) found go name next) (λ m. name_argument (within m) found (words_on (within m)) name next)
    name_argument_goes found name (Some k.OpenBrace) = pending_case found name
    name_argument_goes found name _ = staying (plain_argument_goes found name) (plain_falls n found go falls name) (λ next e m. no_pending (within m) found (words_on (within m)) name next e)

    named_argument_goes : (found : List Expr) (name : Name) → Rule n None ends_read (peek >>= name_argument (within n) found go name) (λ m. peek >>= name_argument (within m) found (words_on (within m)) name)
    named_argument_goes found name = peek_reads (name_argument_goes found name) (plain_argument_goes found name) (λ m. plain_falls m found (words_on (within m)) (words_on_falls m) name) (λ next e m. no_pending (within m) found (words_on (within m)) name next e)

    argument_holds : (found : List Expr) → Holds n 1 ends_read (argument_rule (within n) >>= argument_then (within n) found go) (λ m. argument_rule (within m) >>= argument_then (within m) found (words_on (within m)))
    argument_holds found = same_holds (argument_is (within n) found go) (λ m i. argument_is (within m) found (words_on (within m)) i)
        (peek_holds {f = argument_choice (within n) found go} {g = λ next m. argument_choice (within m) found (words_on (within m)) next}
        (λ next. test_holds (is_name next) (first_any (taken_name_goes {k = k.Name}) (named_argument_goes found)).holds (first (whole_goes I false false) (behind_argument_goes found) (λ _ b next e. read_ends b.1 next e)).holds))

    words_by_goes : (found : List Expr) (next : Option Kind) → Case n ends_read (λ next m. words_choice (within m) found (words_on (within m)) next) (words_choice (within n) found go next) (λ m. words_choice (within m) found (words_on (within m)) next)
    words_by_goes found next = test_case (begins_expression next) (moves (argument_holds found)) (stays (pure_goes (found, None)).holds (λ i r e z next h m.
        ap (λ (b : Bool). if b then (argument_rule (within m) >>= argument_then (within m) found (words_on (within m))) else pure (found, None)) (no_words next (ap (λ (x : Words). pending_ends x.1 next) (given (found, None) i r e) ∙ h))))

    words_next_holds : (found : List Expr) → Holds n 0 ends_read (peek >>= words_choice (within n) found go) (λ m. peek >>= words_choice (within m) found (words_on (within m)))
    words_next_holds found = cases_holds {f = words_choice (within n) found go} {g = λ next m. words_choice (within m) found (words_on (within m)) next} (words_by_goes found)

  words_holds : (most : ℕ) (found : List Expr) → Holds n 0 ends_read (words_from (within n) most found) (λ m. words_on (within m) found)
  unfolding words_from
  words_holds zero found = refuse_holds
  words_holds (suc most) found = same_holds (λ i. refl) (λ m i. words_is (within m) (argument_falls m) found i)
      (words_next_holds (words_from (within n) most) (λ more. record { holds = words_holds most more; fresh = words_fresh more }) (λ more. (words_from_local (here_too n) {d = true} most more).falls) found)

  words_list_goes : Rule n None ends_read (λ i. words_from (within n) (turns i) [] i) (λ m i. words_from (within m) (turns i) [] i)
  words_list_goes = record { holds = record { falls = λ i. (words_holds (turns i) []).falls i; goes = λ i. (words_holds (turns i) []).goes i }; fresh = words_fresh [] }

  words_goes : (name : Name) → Rule n None ends_read (words (within n) name) (λ m. words (within m) name)
  unfolding words
  words_goes name = map_goes (λ (found : Words). (statement.Words (words_of name.text found.0 name.at), found.1)) words_list_goes (λ _ next e. e)

  -- ---- statement functions

  abbrev called : Inner → Name → Parser Operand
  called inner name = call_or_name_by inner false name.text (Some k.OpenParen) >>= (λ found. expression_from inner (expr_at name.at found) [])

  abbrev function_cases : Inner → Name → Option Kind → Parser Read
  function_cases inner name (Some k.OpenParen) = called inner name >>= chain_from inner name.at
  function_cases inner name (Some k.OpenBrace) = resource inner resource_form.Plain name.text name.at >>= chain_from inner name.at
  function_cases inner name _ = words inner name

  function_by_is : (inner : Inner) (name : Name) (i : Input) (next : Option Kind) → kind i ≡ next → function_cases inner name next i ≡ function_by inner name next i
  unfolding behind_name call_or_name
  function_by_is inner name i (Some k.OpenParen) e =
      sym (ap (λ (next : Option Kind). and_then (behind_name_by inner name next i) (chain_from inner name.at)) e
      ∙ ap (λ (next : Option Kind). and_then (and_then (call_or_name_by inner false name.text next i) (λ found. expression_from inner (expr_at name.at found) [])) (chain_from inner name.at)) e)
  function_by_is inner name i (Some k.OpenBrace) e = sym (ap (λ (next : Option Kind). and_then (behind_name_by inner name next i) (chain_from inner name.at)) e)
  function_by_is inner name i _ e = refl

  function_is : (inner : Inner) (name : Name) (i : Input) → (peek >>= function_cases inner name) i ≡ function inner name i
  unfolding function
  function_is inner name i = function_by_is inner name i (kind i) refl

  no_function : (inner : Inner) (name : Name) (next : Option Kind) → ends_statement next ≡ true → function_cases inner name next ≡ words inner name
  no_function inner name (Some k.OpenParen) e = absurd cc
  no_function inner name (Some k.OpenBrace) e = absurd cc
  no_function inner name _ e = refl

  called_goes : (name : Name) → Rule n (Some k.OpenParen) (always ends_statement) (called (within n) name) (λ m. called (within m) name)
  called_goes name = first (first_any (arguments_goes I) (λ _. after (optional_lambda_goes I false) (λ _. pure_goes _) (λ _ _ _ e. e))) (λ _. expression_from_goes I _ []) (λ _ _ next e. statement_ends next e)

  function_cases_goes : (name : Name) (next : Option Kind) → Case n ends_read (λ next m. function_cases (within m) name next) (function_cases (within n) name next) (λ m. function_cases (within m) name next)
  function_cases_goes name (Some k.OpenParen) = moves (chained_goes I name.at (called_goes name)).holds
  function_cases_goes name (Some k.OpenBrace) = moves (chained_goes I name.at (resource_goes I resource_form.Plain name.text name.at)).holds
  function_cases_goes name _ = staying (words_goes name) (words_local (here_too n) {d = true} name).falls (λ next e m. no_function (within m) name next e)

  function_goes : (name : Name) → Rule n None ends_read (function (within n) name) (λ m. function (within m) name)
  function_goes name = same_rule (function_is (within n) name) (λ m i. function_is (within m) name i)
      (peek_reads {f = function_cases (within n) name} {g = λ next m. function_cases (within m) name next} (function_cases_goes name) (words_goes name) (λ m. (words_local (here_too m) {d = true} name).falls) (λ next e m. no_function (within m) name next e))

  -- ---- statements

  emitted_value_goes : Rule n (Some k.RenderExpr) ends_read (emitted_value (within n)) (λ m. emitted_value (within m))
  unfolding emitted_value is_kind same_kind
  emitted_value_goes = first_any (take_goes {k = k.RenderExpr}) (λ _. first (whole_goes I false false) (λ x. first_any (expect_goes k.TagEnd refl) (λ _. pure_goes (statement.EmitValue x, None))) (λ _. refl))

  statement_by_holds : (next : Option Kind) → Holds n 1 ends_read (statement_by (within n) next) (λ m. statement_by (within m) next)
  statement_by_holds (Some k.RenderString) = (first_any (take_goes {k = k.RenderString}) (λ t. pure_goes (statement.Emit t.text, None))).holds
  statement_by_holds (Some k.RenderExpr) = emitted_value_goes.holds
  statement_by_holds (Some k.StatementFunction) = (first_any (taken_name_goes {k = k.Name}) function_goes).holds
  statement_by_holds (Some k.Type) = (first_any (taken_name_goes {k = k.Type}) (typed_goes I)).holds
  statement_by_holds _ = (here_some (λ at. chained_goes I at (operand_rule_goes I))).holds

  -- a statement whose name was not taken yet
  pub statement_rule_goes : Rule n (Some k.Name) ends_read (statement_rule (within n) None) (λ m. statement_rule (within m) None)
  unfolding statement_rule
  statement_rule_goes = peek_some statement_by_holds (here_some (λ at. chained_goes I at (operand_rule_goes I))).fresh

  -- one whose name was taken, before `{`
  pub pending_goes : (name : Name) → Rule n (Some k.OpenBrace) ends_read (resource (within n) resource_form.Plain name.text name.at >>= chain_from (within n) name.at) (λ m. resource (within m) resource_form.Plain name.text name.at >>= chain_from (within m) name.at)
  pending_goes name = chained_goes I name.at (resource_goes I resource_form.Plain name.text name.at)
