-- Attributes, resources and collectors: what stands there, the rule reads.
use Rattle.std.proofs.Common.{◌≡◌, ℕ, Bool, true, false, not, List, [], Option, Some, Ok, refl, ◌∙◌}
use Rattle.pp_lexer.specs.declared.kind.Kind.{Kind}
use Rattle.pp_lexer.specs.declared.kind.Kind.TheVariants as k
use Rattle.pp_lexer.specs.Seen.{Token}
use Rattle.pp_tree.specs.declared.expr.Expr.{Expr}
use Rattle.pp_tree.specs.declared.statement.Operand.TheVariants as operand
use Rattle.pp_tree.specs.declared.resource.ResourceForm.{ResourceForm}
use Rattle.pp_tree.specs.declared.resource.Body.{Body}
use Rattle.pp_tree.specs.declared.resource.Attribute.{Attribute}
use Rattle.pp_tree.specs.declared.collector.Query.{Query}
use Rattle.pp_tree.specs.declared.resource.Attribute.TheVariants as attribute_form
use Rattle.pp_tree.specs.declared.collector.Test.TheVariants as test_form
use Rattle.pp_tree.specs.Building.{setting as setting_of, comparison as comparison_of, resource as resource_of, collector as collector_of}
use Rattle.pp_grammar.proofs.Reader.Input.{Input, Parser, kind, take}
use Rattle.pp_grammar.proofs.Reader.Inner.{Inner}
use Rattle.pp_grammar.specs.Kinds.{is_kind, same_kind, is_word, ends_body}
use Rattle.pp_grammar.proofs.Reader.Statements.{assigns_by, assigns, setting_rule, splat_rule, attribute_by, attribute, attributes, body, resource, compares_by, compares, comparison_rule, query_in_parentheses, test_by, test_rule, another_by, another, conjunction_rule, query, optional_query, settings_by, optional_settings, collector}
use Rattle.pp_grammar.specs.Places.{Phrase, Within, Stands, Opens, Maybe}
use Rattle.pp_grammar.specs.Expressions as phrase
use Rattle.pp_grammar.specs.Expressions.{IsValue}
use Rattle.pp_grammar.specs.Statements.{assigns as assigns_kind, compares as compares_kind, opens_query, closes_query, IsAttribute, AreAttributes, IsBody, AreBodies, IsTest, IsJoined, IsConjunction, IsQuery, InnerQuery, AreSettings}
use Rattle.pp_grammar.proofs.Complete.Steps.{word_there, fits_there, take_gives, expect_gives, expect_any_gives, eat_gives, eat_leaves}
use Rattle.pp_grammar.proofs.Complete.Lists.{Given, GivenSome, Stops, repeat_gives, separated_gives, some_gives}
use Rattle.pp_grammar.proofs.Complete.Within.{IsComplete, open_gives, whole_in_gives, query_in_gives}
use Rattle.pp_grammar.proofs.Complete.StatementFalls.{attribute_falls, body_falls, test_falls, joined_falls, conjunction_falls}
use Rattle.pp_grammar.proofs.Complete.Expressions.{value_complete}

of_not_false : (b : Bool) → not b ≡ false → b ≡ true
of_not_false true e = refl
of_not_false false e = cc

of_not_true : (b : Bool) → not b ≡ true → b ≡ false
of_not_true true e = cc
of_not_true false e = refl

module _ (inner : Inner) (N : Within) (c : IsComplete inner N) where
  -- ---- attributes

  an_arrow : (may_append append : Bool) (next : Option Kind) (i j : Input) (t : Token) → assigns_kind may_append append next ≡ true → take i ≡ Ok (t, j) → assigns_by inner may_append next i ≡ Ok (append, j)
  an_arrow may_append false (Some k.Arrow) i j t e taken = rw taken refl
  an_arrow true true (Some k.PlusArrow) i j t e taken = rw taken refl
  an_arrow false true (Some k.PlusArrow) i j t e taken = cc
  an_arrow _ _ _ i j t e taken = cc

  arrow_complete : (may_append append : Bool) {i j : Input} {t : Token} → Stands (assigns_kind may_append append) i t j → assigns inner may_append i ≡ Ok (append, j)
  unfolding assigns
  arrow_complete may_append append {i = i} {j = j} {t = t} s = an_arrow may_append append (kind i) i j t (fits_there s) (take_gives s)

  a_setting : (may_append : Bool) (next : Option Kind) (i : Input) → is_word next ≡ true → attribute_by inner may_append next i ≡ setting_rule inner may_append i
  a_setting may_append (Some k.Star) i e = cc
  a_setting may_append _ i e = refl

  setting_complete : (may_append append : Bool) {i j l m : Input} {word arrow : Token} {x : Expr} → Stands is_word i word j → Stands (assigns_kind may_append append) j arrow l → phrase.Inner N false l x m
      → setting_rule inner may_append i ≡ Ok (attribute_form.Set (setting_of word.text append x word.line), m)
  unfolding setting_rule
  setting_complete may_append append {l = l} {m = m} {x = x} s e d = rw (expect_any_gives s, arrow_complete may_append append e, whole_in_gives inner N c false l m x d) refl

  pub attribute_complete : (may_append : Bool) → Given (attribute inner may_append) (IsAttribute N may_append)
  unfolding attribute splat_rule
  attribute_complete may_append _ _ _ (IsAttribute.setting i j l m word arrow append x s e d) = a_setting may_append (kind i) i (fits_there s) ∙ setting_complete may_append append s e d
  attribute_complete may_append _ _ _ (IsAttribute.splat i j l m star arrow x s e d) = rw (word_there s, expect_gives k.Star s, expect_gives k.Arrow e, whole_in_gives inner N c false l m x d) refl

  pub attributes_complete : (may_append : Bool) {i j : Input} {attrs : List (Attribute Expr)} → AreAttributes N may_append i attrs j → attributes inner may_append i ≡ Ok (attrs, j)
  unfolding attributes
  attributes_complete may_append (AreAttributes.attributes i j l m opener closer attrs o ds s) =
      rw (open_gives inner N c k.OpenBrace o, separated_gives (IsAttribute N may_append) (attribute_falls N c.falling may_append) (is_kind k.CloseBrace) k.Comma (attribute inner may_append) (attribute_complete may_append) ds, expect_gives k.CloseBrace s) refl

  pub attributes_begin : {may_append : Bool} {i j : Input} {attrs : List (Attribute Expr)} → AreAttributes N may_append i attrs j → kind i ≡ Some k.OpenBrace
  attributes_begin (AreAttributes.attributes i j l m opener closer attrs o ds s) = word_there o.token

  -- ---- resources

  body_complete : Given (body inner) (IsBody N)
  unfolding body
  body_complete _ _ _ (IsBody.body i j l m colon title attrs d s ds) =
      rw (whole_in_gives inner N c false i j title d, expect_gives k.Colon s, separated_gives (IsAttribute N false) (attribute_falls N c.falling false) ends_body k.Comma (attribute inner false) (attribute_complete false) ds) refl

  pub bodies_complete : (sort : ResourceForm) (name : List ℕ) (at : ℕ) {i j : Input} {bs : List (Body Expr)} → AreBodies N i bs j → resource inner sort name at i ≡ Ok (operand.Resource (resource_of sort name bs at), j)
  unfolding resource
  bodies_complete sort name at (AreBodies.bodies i j l m opener closer bs o ds s) =
      rw (open_gives inner N c k.OpenBrace o, some_gives (IsBody N) (body_falls N c.falling) (is_kind k.CloseBrace) k.Semicolon (body inner) body_complete ds, expect_gives k.CloseBrace s) refl

  pub bodies_begin : {i j : Input} {bs : List (Body Expr)} → AreBodies N i bs j → kind i ≡ Some k.OpenBrace
  bodies_begin (AreBodies.bodies i j l m opener closer bs o ds s) = word_there o.token

  -- ---- queries

  a_comparison : (equal : Bool) (next : Option Kind) (i j : Input) (t : Token) → compares_kind equal next ≡ true → take i ≡ Ok (t, j) → compares_by inner next i ≡ Ok (equal, j)
  a_comparison true (Some k.Equal) i j t e taken = rw taken refl
  a_comparison false (Some k.NotEqual) i j t e taken = rw taken refl
  a_comparison _ _ i j t e taken = cc

  compares_complete : (equal : Bool) {i j : Input} {t : Token} → Stands (compares_kind equal) i t j → compares inner i ≡ Ok (equal, j)
  unfolding compares
  compares_complete equal {i = i} {j = j} {t = t} s = a_comparison equal (kind i) i j t (fits_there s) (take_gives s)

  no_parenthesis : (next : Option Kind) (i : Input) → is_word next ≡ true → test_by inner next i ≡ comparison_rule inner i
  no_parenthesis (Some k.OpenParen) i e = cc
  no_parenthesis _ i e = refl

  comparison_complete : (equal : Bool) {i j l m : Input} {word mark : Token} {x : Expr} → Stands is_word i word j → Stands (compares_kind equal) j mark l → IsValue N false l x m
      → comparison_rule inner i ≡ Ok (test_form.Compare (comparison_of word.text equal x word.line), m)
  unfolding comparison_rule
  comparison_complete equal s e d = rw (expect_any_gives s, compares_complete equal e, value_complete inner N c d) refl

  test_complete : Given (test_rule inner) (IsTest N)
  unfolding test_rule query_in_parentheses
  test_complete _ _ _ (IsTest.comparison i j l m word mark equal x s e d) = no_parenthesis (kind i) i (fits_there s) ∙ comparison_complete equal s e d
  test_complete _ _ _ (IsTest.query i j l m opener closer q o r s) = rw (word_there o.token, open_gives inner N c k.OpenParen o, query_in_gives inner N c j l q r, expect_gives k.CloseParen s) refl

  another_stops : {A : Type 0} (word : Kind) (item : Parser A) → Stops (another inner word item) (is_kind word)
  unfolding another another_by
  another_stops word item i e = rw (eat_leaves word i e) refl

  another_given : {A : Type 0} (word : Kind) (Item : Phrase A) (item : Parser A) → Given item Item → GivenSome (another inner word item) (is_kind word) (IsJoined N word Item)
  unfolding another another_by
  another_given word Item item given _ _ _ begun (IsJoined.joined i j l t x s d) = rw (eat_gives word s, given j l x d) refl

  conjunction_complete : Given (conjunction_rule inner) (IsConjunction N)
  unfolding conjunction_rule
  conjunction_complete _ _ _ (IsConjunction.conjunction i j l first more d ds) =
      rw (test_complete i j first d, repeat_gives (IsJoined N k.And (IsTest N)) (joined_falls N c.falling k.And (IsTest N) (test_falls N c.falling)) (is_kind k.And) (another inner k.And (test_rule inner)) (another_stops k.And (test_rule inner)) (another_given k.And (IsTest N) (test_rule inner) test_complete) ds) refl

  pub query_complete : {i j : Input} {q : Query} → IsQuery N i q j → query inner i ≡ Ok (q, j)
  unfolding query
  query_complete (IsQuery.query i j l first more d ds) =
      rw (conjunction_complete i j first d, repeat_gives (IsJoined N k.Or (IsConjunction N)) (joined_falls N c.falling k.Or (IsConjunction N) (conjunction_falls N c.falling)) (is_kind k.Or) (another inner k.Or (conjunction_rule inner)) (another_stops k.Or (conjunction_rule inner)) (another_given k.Or (IsConjunction N) (conjunction_rule inner) conjunction_complete) ds) refl

  -- ---- collectors

  optional_query_complete : (closer : Kind) {i j : Input} {q : Option Query} → Maybe (InnerQuery N) (λ next. not (is_kind closer next)) i q j → optional_query inner closer i ≡ Ok (q, j)
  unfolding optional_query
  optional_query_complete closer (Maybe.left_out i e) = rw (of_not_false (is_kind closer (kind i)) e) refl
  optional_query_complete closer (Maybe.given i j q e d) = rw (of_not_true (is_kind closer (kind i)) e, query_in_gives inner N c i j q d) refl

  no_settings : (next : Option Kind) (i : Input) → is_kind k.OpenBrace next ≡ false → settings_by inner next i ≡ Ok ([], i)
  unfolding is_kind same_kind
  no_settings (Some k.OpenBrace) i e = cc
  no_settings _ i e = refl

  settings_complete : {i j : Input} {attrs : List (Attribute Expr)} → AreSettings N i attrs j → optional_settings inner i ≡ Ok (attrs, j)
  unfolding optional_settings
  settings_complete (AreSettings.left_out i e) = no_settings (kind i) i e
  settings_complete (AreSettings.given i j attrs d) = rw (attributes_begin d) (attributes_complete true d)

  -- behind the kind
  pub collector_complete : (exported : Bool) (type : List ℕ) (at : ℕ) {i j l m n : Input} {opener closer : Token} {q : Option Query} {attrs : List (Attribute Expr)}
      → Opens N (opens_query exported) i opener j → Maybe (InnerQuery N) (λ next. not (is_kind (closes_query exported) next)) j q l → Stands (is_kind (closes_query exported)) l closer m → AreSettings N m attrs n
      → collector inner exported (opens_query exported) (closes_query exported) type at i ≡ Ok (operand.Collector (collector_of type exported q attrs at), n)
  unfolding collector
  collector_complete exported type at o d s ds = rw (open_gives inner N c (opens_query exported) o, optional_query_complete (closes_query exported) d, expect_gives (closes_query exported) s, settings_complete ds) refl
