-- Statement functions. Behind their arguments, a name that `{` follows is taken already: it begins the statement that stands next.
use Rattle.std.proofs.Common.{◌≡◌, ℕ, zero, suc, ◌<◌, Bool, true, false, List, [], ◌∷◌, ◌++◌, length, Option, Some, None, Ok, refl, sym, ap, ◌∙◌, append-nil, arith}
use Rattle.pp_lexer.specs.declared.kind.Kind.{Kind}
use Rattle.pp_lexer.specs.declared.kind.Kind.TheVariants as k
use Rattle.pp_lexer.specs.Seen.{Token}
use Rattle.pp_tree.specs.declared.definition.Name.{Name}
use Rattle.pp_tree.specs.declared.expr.Expr.{Expr}
use Rattle.pp_tree.specs.Building.{expr_at}
use Rattle.pp_parser.specs.declared.argument.WordArgument.TheVariants as argument
use Rattle.pp_grammar.proofs.Reader.Input.{Input, Outcome, ◌>>=◌, pure, kind, kind_at}
use Rattle.pp_grammar.proofs.Reader.Inner.{Inner}
use Rattle.pp_grammar.specs.Kinds.{is_kind, same_kind, is_name, begins_expression}
use Rattle.pp_grammar.proofs.Reader.Expressions.{loosest, started, call_or_name, chain}
use Rattle.pp_grammar.proofs.Reader.Statements.{name_of, argument_from_by, argument_from, argument_rule, words_from}
use Rattle.pp_grammar.specs.Places.{Within, Stands, Begins}
use Rattle.pp_grammar.specs.Expressions.{IsWhole}
use Rattle.pp_grammar.specs.Statements.{BeginsArgument, AreWords}
use Rattle.pp_grammar.proofs.Complete.Steps.{kind_is, fits_there, stands_falls, take_gives, eat_gives, eat_leaves}
use Rattle.pp_grammar.proofs.Complete.Lists.{one_more}
use Rattle.pp_grammar.proofs.Complete.Within.{IsComplete}
use Rattle.pp_grammar.proofs.Complete.ExpressionFalls.{whole_falls}
use Rattle.pp_grammar.proofs.Complete.Expressions.{is_false}
use Rattle.pp_grammar.proofs.Complete.Wholes.{whole_complete}
use Rattle.pp_grammar.proofs.Complete.Operands.{both_cannot, same_behind, NameRead, name_read}

-- Where reading goes on for what stands at a place: there, or behind a name that was taken already, which `{` follows.
pub data Behind (j : Input) : Option Name → Input → Type 0 where
  here : Behind j None j
  pending : (t : Token) (l : Input) → Stands is_name j t l → kind l ≡ Some k.OpenBrace → Behind j (Some (name_of t)) l

-- ---- a token where one fits

pub record TokenAt (fits : Option Kind → Bool) (i : Input) : Type 0 where
  pub token : Token
  pub behind : Input
  pub stands : Stands fits i token behind

token_in : (fits : Option Kind → Bool) (i : Input) (ts : List Token) → i.left ≡ ts → fits None ≡ false → fits (kind_at ts) ≡ true → TokenAt fits i
unfolding kind_at
token_in fits i [] e none there = absurd (both_cannot there none)
token_in fits i (t ∷ ts) e none there = record {
  token = t;
  behind = record { left = ts; doubled = i.doubled };
  stands = record { is = ap (λ (us : List Token). record { left = us; doubled = i.doubled }) e; kind = there };
}

pub token_at : (fits : Option Kind → Bool) (i : Input) → fits None ≡ false → fits (kind i) ≡ true → TokenAt fits i
unfolding kind
token_at fits i none there = token_in fits i i.left refl none there

module _ (inner : Inner) (N : Within) (c : IsComplete inner N) where
  -- ---- one argument

  no_brace : (name : Name) (next : Option Kind) (i : Input) → is_kind k.OpenBrace next ≡ false
      → argument_from_by inner name next i ≡ (call_or_name inner false name.text >>= (λ found. chain inner false loosest (Some (started (expr_at name.at found))) >>= (λ x. pure (argument.Argument x)))) i
  unfolding is_kind same_kind
  no_brace name (Some k.OpenBrace) i e = cc
  no_brace name _ i e = refl

  named_argument : {i j : Input} {x : Expr} → (Begins is_name (is_kind k.OpenBrace) i → ⊥) → (r : NameRead inner N c i x j) → argument_from inner (name_of r.token) r.behind ≡ Ok (argument.Argument x, j)
  unfolding argument_from
  named_argument alone r =
      let other = is_false (is_kind k.OpenBrace (kind r.behind)) (λ e. alone (record { token = r.token; behind = r.behind; stands = r.stands; next = e })) in
      no_brace (name_of r.token) (kind r.behind) r.behind other ∙ rw (r.call, r.goes) refl

  argument_read : (named : Bool) {i j : Input} {x : Expr} → is_name (kind i) ≡ named → (Begins is_name (is_kind k.OpenBrace) i → ⊥) → IsWhole N false false i x j → argument_rule inner i ≡ Ok (argument.Argument x, j)
  unfolding argument_rule
  argument_read true {i = i} e alone w =
      let r = name_read inner N c w e in
      rw (e, take_gives r.stands) (named_argument alone r)
  argument_read false e alone w = rw (e, whole_complete inner N c w) refl

  begins : {i : Input} → BeginsArgument N i → begins_expression (kind i) ≡ true
  begins (BeginsArgument.argument e alone) = e

  argument_complete : {i j : Input} {x : Expr} → BeginsArgument N i → IsWhole N false false i x j → argument_rule inner i ≡ Ok (argument.Argument x, j)
  argument_complete {i = i} (BeginsArgument.argument e alone) w = argument_read (is_name (kind i)) refl alone w

  -- ---- all arguments

  pub record WordsRead (outcome : Outcome (List Expr × Option Name)) (xs : List Expr) (j : Input) : Type 0 where
    pub name : Option Name
    pub at : Input
    pub behind : Behind j name at
    pub read : outcome ≡ Ok ((xs, name), at)

  no_words : (n : ℕ) (found : List Expr) (i : Input) → begins_expression (kind i) ≡ false → words_from inner (suc n) found i ≡ Ok ((found, None), i)
  unfolding words_from
  no_words n found i e = rw e refl

  a_pending_name : (n : ℕ) (found : List Expr) (i : Input) → begins_expression (kind i) ≡ true → (there : TokenAt is_name i) → kind there.behind ≡ Some k.OpenBrace
      → words_from inner (suc n) found i ≡ Ok ((found, Some (name_of there.token)), there.behind)
  unfolding words_from argument_rule argument_from
  a_pending_name n found i e there brace = rw (e, fits_there there.stands, take_gives there.stands, brace) refl

  behind_begins : {i : Input} (there : TokenAt is_name i) → Begins is_name (is_kind k.OpenBrace) i → is_kind k.OpenBrace (kind there.behind) ≡ true
  behind_begins there b = rw (same_behind b.stands there.stands) at b.next

  stop_at_name : (brace : Bool) (n : ℕ) (found : List Expr) (i : Input) → begins_expression (kind i) ≡ true → (BeginsArgument N i → ⊥) → (there : TokenAt is_name i) → is_kind k.OpenBrace (kind there.behind) ≡ brace
      → WordsRead (words_from inner (suc n) found i) found i
  stop_at_name false n found i e f there b = absurd (f (BeginsArgument.argument e (λ begun. both_cannot (behind_begins there begun) b)))
  stop_at_name true n found i e f there b =
      let follows = kind_is k.OpenBrace (kind there.behind) b in
      record { name = Some (name_of there.token); at = there.behind; behind = Behind.pending there.token there.behind there.stands follows; read = a_pending_name n found i e there follows }

  stop_where : (named : Bool) (n : ℕ) (found : List Expr) (i : Input) → begins_expression (kind i) ≡ true → (BeginsArgument N i → ⊥) → is_name (kind i) ≡ named → WordsRead (words_from inner (suc n) found i) found i
  stop_where false n found i e f g = absurd (f (BeginsArgument.argument e (λ begun. both_cannot (fits_there begun.stands) g)))
  stop_where true n found i e f g =
      let there = token_at is_name i refl g in
      stop_at_name (is_kind k.OpenBrace (kind there.behind)) n found i e f there refl

  words_stop : (begun : Bool) (n : ℕ) (found : List Expr) (i : Input) → begins_expression (kind i) ≡ begun → (BeginsArgument N i → ⊥) → WordsRead (words_from inner (suc n) found i) found i
  words_stop false n found i e f = record { name = None; at = i; behind = Behind.here; read = no_words n found i e }
  words_stop true n found i e f = stop_where (is_name (kind i)) n found i e f refl

  last_word : (n : ℕ) (found : List Expr) {i j : Input} {x : Expr} → BeginsArgument N i → IsWhole N false false i x j → is_kind k.Comma (kind j) ≡ false → words_from inner (suc n) found i ≡ Ok ((found ++ x ∷ [], None), j)
  unfolding words_from
  last_word n found {j = j} b w e = rw (begins b, argument_complete b w, eat_leaves k.Comma j e) refl

  more_words : (n : ℕ) (found : List Expr) {i j l : Input} {t : Token} {x : Expr} → BeginsArgument N i → IsWhole N false false i x j → Stands (is_kind k.Comma) j t l → words_from inner (suc n) found i ≡ words_from inner n (found ++ x ∷ []) l
  unfolding words_from
  more_words n found b w s = rw (begins b, argument_complete b w, eat_gives k.Comma s) refl

  after_one : {o p : Outcome (List Expr × Option Name)} {xs ys : List Expr} {j : Input} → o ≡ p → xs ≡ ys → WordsRead p xs j → WordsRead o ys j
  after_one e f r = record { name = r.name; at = r.at; behind = r.behind; read = e ∙ r.read ∙ ap (λ (zs : List Expr). Ok ((zs, r.name), r.at)) f }

  -- recursion is on the turns
  pub words_from_complete : (n : ℕ) {i j : Input} {xs : List Expr} → AreWords N i xs j → length i.left < n → (found : List Expr) → WordsRead (words_from inner n found i) (found ++ xs) j
  words_from_complete zero d below found = absurd (omega arith)
  words_from_complete (suc n) (AreWords.none i f) below found = after_one refl (sym (append-nil found)) (words_stop (begins_expression (kind i)) n found i refl f)
  words_from_complete (suc n) (AreWords.last i j x b w e) below found = record { name = None; at = j; behind = Behind.here; read = last_word n found b w e }
  words_from_complete (suc n) (AreWords.more i j l m t x xs b w s ds) below found =
      let less : length l.left < n = omega (arith, whole_falls N c.falling w, stands_falls s) in
      after_one (more_words n found b w s) (one_more found x xs) (words_from_complete n ds less (found ++ x ∷ []))
