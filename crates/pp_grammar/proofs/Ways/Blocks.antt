-- Behind what was read of a block there is a way.
use Rattle.std.proofs.Common.{◌≡◌, ℕ, zero, suc, Bool, true, false, not, if◌then◌else◌, List, [], ◌∷◌, ◌++◌, Option, Some, None, Ok, Err, refl, sym, ap, subst, ◌∙◌, arith}
use Rattle.pp_lexer.specs.declared.kind.Kind.{Kind}
use Rattle.pp_lexer.specs.declared.kind.Kind.TheVariants as k
use Rattle.pp_tree.specs.declared.statement.Statement.{Statement}
use Rattle.pp_tree.specs.declared.statement.Statement.TheVariants as statement
use Rattle.pp_tree.specs.declared.statement.Operand.{Operand}
use Rattle.pp_tree.specs.Building.{chain as chain_of}
use Rattle.pp_tree.specs.declared.resource.ResourceForm.TheVariants as resource_form
use Rattle.pp_tree.specs.declared.definition.Name.{Name}
use Rattle.pp_grammar.proofs.Reader.Input.{Input, Outcome, Parser, and_then, ◌>>=◌, ◌>>◌, pure, kind, take, eat, sees, turns, repeat}
use Rattle.pp_grammar.proofs.Reader.Inner.{Inner}
use Rattle.pp_grammar.specs.Kinds.{is_kind, same_kind}
use Rattle.pp_grammar.proofs.Reader.Levels.{within}
use Rattle.pp_grammar.proofs.Reader.Statements.{Read, resource, behind_name_by, behind_name, link_rule, chain_from, statement_rule, ends_block, statements_from, statements}
use Rattle.pp_grammar.specs.Keys.{doubled_key}
use Rattle.pp_grammar.specs.Places.{Within}
use Rattle.pp_grammar.proofs.Sound.Steps.{Meets, bind, done, met, weaker, is_kind_is}
use Rattle.pp_grammar.proofs.Sound.Inner.{IsSound}
use Rattle.pp_grammar.proofs.Sound.Ends.{EndsOnce}
use Rattle.pp_grammar.proofs.Sound.Levels.{ends_once}
use Rattle.pp_grammar.proofs.Sound.Statements.{Pends, IsRead, statement_sound}
use Rattle.pp_grammar.proofs.Local.Steps.{Falls, one, falls_less, first_local, loose_local}
use Rattle.pp_grammar.proofs.Local.Statements.{resource_local, chain_from_local, statement_rule_local}
use Rattle.pp_grammar.proofs.Ways.Steps.{Rule}
use Rattle.pp_grammar.proofs.Ways.NextToken.{same_rule}
use Rattle.pp_grammar.proofs.Ways.Lists.{always}
use Rattle.pp_grammar.proofs.Ways.Inner.{closes_block, InnerGoes, here_too}
use Rattle.pp_grammar.proofs.Ways.Resources.{ends_statement}
use Rattle.pp_grammar.proofs.Ways.Statements.{statement_rule_goes, pending_goes}
use Rattle.pp_grammar.proofs.Ways.Turns.{loop, on, on_goes}

-- ---- a name is taken only where `{` follows it

abbrev pub Fits : Option Name → Input → Type 0
Fits None i = Unit {0}
Fits (Some name) i = kind i ≡ Some k.OpenBrace

-- what the readers further in read, taken for what stands there
itself : Inner → Within
itself inner = record { is_deepest = inner.is_deepest; reads = λ g i p j. inner.read g i ≡ Ok (p, j) }

itself_sound : (inner : Inner) → inner.doubled_key ≡ doubled_key → IsSound inner (itself inner)
unfolding itself
itself_sound inner keys = record { deepest = refl; keys = keys; reads = λ g i j p e. e }

itself_once : (inner : Inner) → EndsOnce (itself inner)
unfolding itself
itself_once inner = ends_once inner.read (itself inner) (λ g i j p e. e)

kind_is : (x : Kind) (next : Option Kind) → is_kind x next ≡ true → next ≡ Some x
unfolding is_kind
kind_is x None e = absurd cc
kind_is x (Some y) e = ap (λ (z : Kind). Some z) (is_kind_is x y e)

pends_fits : (p : Option Name) (i j : Input) → Pends p i j → Fits p j
pends_fits _ i j (Pends.nothing _) = tt
pends_fits _ i j (Pends.name _ _ t st e) = kind_is k.OpenBrace (kind j) e

read_fits : (inner : Inner) (i : Input) (r : Read) (j : Input) → IsRead (itself inner) i r j → Fits r.1 j
read_fits inner i r j (IsRead.read l _ s p h w) = pends_fits p l j w

pub statement_fits : (inner : Inner) → inner.doubled_key ≡ doubled_key → (i : Input) → Meets (statement_rule inner None i) (λ r j. Fits r.1 j)
statement_fits inner keys i = weaker (statement_sound inner (itself inner) (itself_sound inner keys) (itself_once inner) None i i (Pends.nothing i)) (λ r j h. read_fits inner i r j h)

pub chain_none : (inner : Inner) (at : ℕ) (first : Operand) (i : Input) → Meets (chain_from inner at first i) (λ r j. r.1 ≡ None)
unfolding chain_from
chain_none inner at first i = bind {o = repeat (link_rule inner) i} {f = λ links. pure (statement.Chain (chain_of first links at), None)} {P = λ _ _. Unit {0}} (met (λ _ _ _. tt)) (λ links j _. done refl)

-- a resource whose name was taken already, and its chain
abbrev pub taken_up : Inner → Name → Parser Read
taken_up inner name = resource inner resource_form.Plain name.text name.at >>= chain_from inner name.at

pub taken_up_none : (inner : Inner) (name : Name) (i : Input) → Meets (taken_up inner name i) (λ r j. r.1 ≡ None)
taken_up_none inner name i = bind {o = resource inner resource_form.Plain name.text name.at i} {f = chain_from inner name.at} {P = λ _ _. Unit {0}} (met (λ _ _ _. tt)) (λ first j _. chain_none inner name.at first j)

-- before `{` it is the statement
pub taken_up_is : (inner : Inner) (name : Name) (i : Input) → kind i ≡ Some k.OpenBrace → statement_rule inner (Some name) i ≡ taken_up inner name i
unfolding statement_rule behind_name
taken_up_is inner name i e = ap (λ (next : Option Kind). and_then (behind_name_by inner name next i) (chain_from inner name.at)) e

pub same_reads : {A B : Type 0} (o : Outcome A) (f g : A → Parser B) → ((a : A) (j : Input) → o ≡ Ok (a, j) → f a j ≡ g a j) → and_then o f ≡ and_then o g
same_reads (Ok p) f g h = h p.0 p.1 refl
same_reads (Err e) f g h = refl

-- no `;` is taken where `{` comes next
eaten_fits : (p : Option Name) (j : Input) → Fits p j → (b : Bool) (l : Input) → eat k.Semicolon j ≡ Ok (b, l) → Fits p l
unfolding eat sees is_kind same_kind
eaten_fits None j h b l e = tt
eaten_fits (Some name) j h b l e =
    let w : eat k.Semicolon j ≡ Ok (false, j) = ap (λ (next : Option Kind). if is_kind k.Semicolon next then and_then (take j) (λ _. pure true) else Ok (false, j)) h in
    subst (λ (x : Input). kind x ≡ Some k.OpenBrace) (ap (λ (o : Outcome Bool). place_or j o) (sym w ∙ e)) h
  where
    place_or : Input → Outcome Bool → Input
    place_or d (Ok r) = r.1
    place_or d (Err x) = d

pub same_behind_read : {F : Type 0} (p : Option Name) (j : Input) → Fits p j → (go other : Parser F) → ((l : Input) → Fits p l → go l ≡ other l) → (eat k.Semicolon >> go) j ≡ (eat k.Semicolon >> other) j
same_behind_read p j h go other same = same_reads (eat k.Semicolon j) (λ _. go) (λ _. other) (λ b l e. same l (eaten_fits p j h b l e))

-- ---- statements

abbrev pub add_read : List Statement → Read → List Statement
add_read found r = found ++ r.0 ∷ []

abbrev pub read_next : Read → Option Name
read_next r = r.1

block_ends : (next : Option Kind) → ends_block None next ≡ closes_block next
block_ends (Some k.CloseBrace) = refl
block_ends _ = refl

pub chosen_same : {A : Type 0} (b c : Bool) (p q q2 : Parser A) (i : Input) → b ≡ c → q i ≡ q2 i → (if b then p else q) i ≡ (if c then p else q2) i
chosen_same true true p q q2 i e h = refl
chosen_same true false p q q2 i e h = absurd cc
chosen_same false true p q q2 i e h = absurd cc
chosen_same false false p q q2 i e h = h

statements_as : (inner : Inner) → inner.doubled_key ≡ doubled_key → (n : ℕ) (found : List Statement) (p : Option Name) (i : Input) → Fits p i → statements_from inner n found p i ≡ loop closes_block add_read read_next (statement_rule inner None) (taken_up inner) n found p i
unfolding statements_from
statements_as inner keys zero found p i h = refl
statements_as inner keys (suc n) found None i h =
    chosen_same (ends_block None (kind i)) (closes_block (kind i)) (pure found)
    (statement_rule inner None >>= (λ read. eat k.Semicolon >> statements_from inner n (found ++ read.0 ∷ []) read.1)) (statement_rule inner None >>= (λ read. eat k.Semicolon >> loop closes_block add_read read_next (statement_rule inner None) (taken_up inner) n (found ++ read.0 ∷ []) read.1)) i (block_ends (kind i))
    (same_reads (statement_rule inner None i) (λ read. eat k.Semicolon >> statements_from inner n (found ++ read.0 ∷ []) read.1) (λ read. eat k.Semicolon >> loop closes_block add_read read_next (statement_rule inner None) (taken_up inner) n (found ++ read.0 ∷ []) read.1)
    (λ read j e. same_behind_read read.1 j ((statement_fits inner keys i).holds read j e) _ _ (λ l w. statements_as inner keys n (found ++ read.0 ∷ []) read.1 l w)))
statements_as inner keys (suc n) found (Some name) i h =
    ap (λ (o : Outcome Read). and_then o (λ read. eat k.Semicolon >> statements_from inner n (found ++ read.0 ∷ []) read.1)) (taken_up_is inner name i h)
    ∙ same_reads (taken_up inner name i) (λ read. eat k.Semicolon >> statements_from inner n (found ++ read.0 ∷ []) read.1) (λ read. eat k.Semicolon >> loop closes_block add_read read_next (statement_rule inner None) (taken_up inner) n (found ++ read.0 ∷ []) read.1)
    (λ read j e. same_behind_read read.1 j (none_fits read.1 j ((taken_up_none inner name i).holds read j e)) _ _ (λ l w. statements_as inner keys n (found ++ read.0 ∷ []) read.1 l w))
  where
    none_fits : (p : Option Name) (j : Input) → p ≡ None → Fits p j
    none_fits p j e = subst (λ (x : Option Name). Fits x j) (sym e) tt

pub statement_falls : (m : ℕ) (i : Input) → Falls one i (statement_rule (within m) None i)
statement_falls m i = falls_less _ one i (statement_rule (within m) None i) (λ x. omega arith) ((statement_rule_local (here_too m) {d = true} None).falls i)

pub taken_up_falls : (m : ℕ) (name : Name) (i : Input) → Falls one i (taken_up (within m) name i)
taken_up_falls m name = (first_local (resource_local (here_too m) {d = true} resource_form.Plain name.text name.at) (λ first. loose_local (chain_from_local (here_too m) name.at first))).falls

pub block_statement : (next : Option Kind) → closes_block next ≡ true → ends_statement next ≡ true
block_statement (Some k.CloseBrace) e = refl
block_statement _ e = absurd cc

pub block_apart : (next : Option Kind) → closes_block next ≡ true → not (is_kind k.Semicolon next) ≡ true
unfolding is_kind same_kind
block_apart (Some k.CloseBrace) e = refl
block_apart _ e = absurd cc

pub statements_is : (inner : Inner) → inner.doubled_key ≡ doubled_key → (i : Input) → on closes_block add_read read_next (statement_rule inner None) (taken_up inner) [] None i ≡ statements inner i
unfolding statements
statements_is inner keys i = sym (statements_as inner keys (turns i) [] None i tt)

pub statements_goes : {n : ℕ} → InnerGoes n → Rule n None (always closes_block) (statements (within n)) (λ m. statements (within m))
statements_goes {n = n} I = same_rule (statements_is (within n) refl) (λ m i. statements_is (within m) refl i)
    (on_goes closes_block add_read read_next (λ m. statement_rule (within m) None) (λ m. taken_up (within m)) statement_falls taken_up_falls (λ m name i r e. (taken_up_none (within m) name i).holds r.0 r.1 e) block_statement block_apart (statement_rule_goes I) (pending_goes I) [])
