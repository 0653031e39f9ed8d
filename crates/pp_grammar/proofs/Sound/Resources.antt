-- Attributes, resources and collectors: what a rule reads, stands there.
use Rattle.std.proofs.Common.{◌≡◌, ℕ, Bool, true, false, not, if◌then◌else◌, List, Option, Some, Ok, refl, ap}
use Rattle.pp_lexer.specs.declared.kind.Kind.{Kind}
use Rattle.pp_lexer.specs.declared.kind.Kind.TheVariants as k
use Rattle.pp_lexer.specs.Seen.{Token}
use Rattle.pp_tree.specs.declared.expr.Expr.{Expr}
use Rattle.pp_tree.specs.declared.resource.ResourceForm.{ResourceForm}
use Rattle.pp_tree.specs.declared.resource.Body.{Body}
use Rattle.pp_tree.specs.declared.resource.Attribute.TheVariants as attribute_form
use Rattle.pp_tree.specs.declared.collector.Test.TheVariants as test_form
use Rattle.pp_tree.specs.Building.{resource as resource_of, setting as setting_of, comparison as comparison_of}
use Rattle.pp_grammar.proofs.Reader.Input.{Input, Parser, kind, pure, refuse, take, ◌>>◌}
use Rattle.pp_grammar.proofs.Reader.Inner.{Inner}
use Rattle.pp_grammar.specs.Kinds.{is_kind, same_kind, is_word, ends_body}
use Rattle.pp_grammar.proofs.Reader.Statements as rule
use Rattle.pp_grammar.proofs.Reader.Statements.{names_resource}
use Rattle.pp_grammar.specs.Places.{Phrase, Within, Stands, Maybe}
use Rattle.pp_grammar.specs.Expressions.{IsValue}
use Rattle.pp_grammar.specs.Expressions.{Inner as WholeIn}
use Rattle.pp_grammar.specs.Statements.{assigns, compares, marks, opens_query, closes_query, IsAttribute, AreAttributes, IsBody, AreBodies, IsResource, IsTest, IsJoined, IsConjunction, IsQuery, InnerQuery, AreSettings, IsCollector, IsOperand}
use Rattle.pp_grammar.proofs.Sound.Steps.{Meets, Sound, bind, done, refused, either_at, weaker, take_at, take_sound, expect_sound, expect_any_sound, Eaten, eat_sound, at_next, fits_of_stands}
use Rattle.pp_grammar.proofs.Sound.Lists.{repeat_sound, separated_sound, separated_some_sound}
use Rattle.pp_grammar.proofs.Sound.Inner.{IsSound, opening_sound, whole_in_sound, query_in_sound}
use Rattle.pp_grammar.proofs.Sound.Expressions.{value_sound}

-- one token that tells a flag
data Tells (fits : Bool → Option Kind → Bool) : Input → Bool → Input → Type 0 where
  tells : (i j : Input) (t : Token) (b : Bool) → Stands (fits b) i t j → Tells fits i b j

module _ (inner : Inner) (N : Within) (s : IsSound inner N) where
  -- ---- attributes

  assigns_sound : (may_append : Bool) → Sound (rule.assigns inner may_append) (Tells (assigns may_append))
  unfolding rule.assigns
  assigns_sound may_append i = go (kind i) refl
    where
      appends : (b : Bool) → may_append ≡ b → kind i ≡ Some k.PlusArrow → Meets ((if b then (take >> pure true) else refuse) i) (Tells (assigns may_append) i)
      appends true b e = bind (take_at (assigns may_append true) i _ e b) λ t j st. done (Tells.tells i j t true st)
      appends false b e = refused

      go : (next : Option Kind) → kind i ≡ next → Meets (rule.assigns_by inner may_append next i) (Tells (assigns may_append) i)
      go (Some k.Arrow) e = bind (take_at (assigns may_append false) i _ e refl) λ t j st. done (Tells.tells i j t false st)
      go (Some k.PlusArrow) e = appends may_append refl e
      go _ e = refused

  setting_sound : (may_append : Bool) → Sound (rule.setting_rule inner may_append) (IsAttribute N may_append)
  unfolding rule.setting_rule
  setting_sound may_append i = bind (expect_any_sound is_word i) λ word j st. bind (assigns_sound may_append j) λ append l tells. bind (whole_in_sound inner N s false l) λ x m h.
      go word j st append l tells x m h
    where
      go : (word : Token) (j : Input) → Stands is_word i word j → (append : Bool) (l : Input) → Tells (assigns may_append) j append l → (x : Expr) (m : Input) → WholeIn N false l x m
          → Meets (Ok (attribute_form.Set (setting_of word.text append x word.line), m)) (IsAttribute N may_append i)
      go word j st append l (Tells.tells _ _ arrow _ a) x m h = done (IsAttribute.setting i j l m word arrow append x st a h)

  attribute_sound : (may_append : Bool) → Sound (rule.attribute inner may_append) (IsAttribute N may_append)
  unfolding rule.attribute rule.splat_rule
  attribute_sound may_append i = go (kind i) refl
    where
      go : (next : Option Kind) → kind i ≡ next → Meets (rule.attribute_by inner may_append next i) (IsAttribute N may_append i)
      go (Some k.Star) e = bind (expect_sound k.Star i) λ star j st. bind (expect_sound k.Arrow j) λ arrow l a. bind (whole_in_sound inner N s false l) λ x m h.
          done (IsAttribute.splat i j l m star arrow x st a h)
      go _ e = setting_sound may_append i

  pub attributes_sound : (may_append : Bool) → Sound (rule.attributes inner may_append) (AreAttributes N may_append)
  unfolding rule.attributes
  attributes_sound may_append i = bind (opening_sound inner N s k.OpenBrace i) λ opener j o.
      bind (separated_sound (is_kind k.CloseBrace) k.Comma (IsAttribute N may_append) _ (attribute_sound may_append) j) λ attrs l h.
      bind (expect_sound k.CloseBrace l) λ closer m c. done (AreAttributes.attributes i j l m opener closer attrs o h c)

  -- ---- resources

  body_sound : Sound (rule.body inner) (IsBody N)
  unfolding rule.body
  body_sound i = bind (whole_in_sound inner N s false i) λ title j h. bind (expect_sound k.Colon j) λ colon l c.
      bind (separated_sound ends_body k.Comma (IsAttribute N false) _ (attribute_sound false) l) λ attrs m a. done (IsBody.body i j l m colon title attrs h c a)

  -- behind the kind: which resource it is, depends on what stands before
  pub resource_sound : (i j : Input) (sort : ResourceForm) (name : List ℕ) (at : ℕ) → ((bs : List (Body Expr)) (l : Input) → AreBodies N j bs l → IsResource N i (resource_of sort name bs at) l)
      → Meets (rule.resource inner sort name at j) (IsOperand N i)
  unfolding rule.resource
  resource_sound i j sort name at which = bind (opening_sound inner N s k.OpenBrace j) λ opener l o.
      bind (separated_some_sound (is_kind k.CloseBrace) k.Semicolon (IsBody N) _ body_sound l) λ bs m h. bind (expect_sound k.CloseBrace m) λ closer n c.
      done (IsOperand.resource i n (resource_of sort name bs at) (which bs n (AreBodies.bodies j l m n opener closer bs o h c)))

  pub marked_sound : (i : Input) (sort : ResourceForm) → marks sort (kind i) ≡ true → Meets (rule.marked inner sort i) (IsOperand N i)
  unfolding rule.marked
  marked_sound i sort e = bind (take_sound (marks sort) i e) λ mark j st. bind (expect_any_sound names_resource j) λ t l n.
      resource_sound i l sort t.text mark.line (λ bs m h. IsResource.marked i j l m sort mark t bs st n h)

  -- ---- collectors

  compares_sound : Sound (rule.compares inner) (Tells compares)
  unfolding rule.compares
  compares_sound i = go (kind i) refl
    where
      go : (next : Option Kind) → kind i ≡ next → Meets (rule.compares_by inner next i) (Tells compares i)
      go (Some k.Equal) e = bind (take_at (compares true) i _ e refl) λ t j st. done (Tells.tells i j t true st)
      go (Some k.NotEqual) e = bind (take_at (compares false) i _ e refl) λ t j st. done (Tells.tells i j t false st)
      go _ e = refused

  comparison_sound : Sound (rule.comparison_rule inner) (IsTest N)
  unfolding rule.comparison_rule
  comparison_sound i = bind (expect_any_sound is_word i) λ word j st. bind (compares_sound j) λ equal l tells. bind (value_sound inner N s false l) λ x m h.
      go word j st equal l tells x m h
    where
      go : (word : Token) (j : Input) → Stands is_word i word j → (equal : Bool) (l : Input) → Tells compares j equal l → (x : Expr) (m : Input) → IsValue N false l x m
          → Meets (Ok (test_form.Compare (comparison_of word.text equal x word.line), m)) (IsTest N i)
      go word j st equal l (Tells.tells _ _ mark _ a) x m h = done (IsTest.comparison i j l m word mark equal x st a h)

  test_sound : Sound (rule.test_rule inner) (IsTest N)
  unfolding rule.test_rule rule.query_in_parentheses
  test_sound i = go (kind i) refl
    where
      go : (next : Option Kind) → kind i ≡ next → Meets (rule.test_by inner next i) (IsTest N i)
      go (Some k.OpenParen) e = bind (opening_sound inner N s k.OpenParen i) λ opener j o. bind (query_in_sound inner N s j) λ q l h.
          bind (expect_sound k.CloseParen l) λ closer m c. done (IsTest.query i j l m opener closer q o h c)
      go _ e = comparison_sound i

  another_sound : {A : Type 0} (word : Kind) (Item : Phrase A) (item : Parser A) → Sound item Item → Sound (rule.another inner word item) (Maybe (IsJoined N word Item) (is_kind word))
  unfolding rule.another rule.another_by
  another_sound {A} word Item item si i = bind (eat_sound word i) go
    where
      go : (b : Bool) (j : Input) → Eaten word i b j → Meets (rule.another_by inner item b j) (Maybe (IsJoined N word Item) (is_kind word) i)
      go true j (Eaten.eaten _ _ t st) = bind (si j) λ x l h. done (Maybe.given i l x (fits_of_stands st) (IsJoined.joined i j l t x st h))
      go false j (Eaten.other _ h) = done (Maybe.left_out i h)

  conjunction_sound : Sound (rule.conjunction_rule inner) (IsConjunction N)
  unfolding rule.conjunction_rule
  conjunction_sound i = bind (test_sound i) λ first j h.
      bind (repeat_sound (IsJoined N k.And (IsTest N)) (is_kind k.And) _ (another_sound k.And (IsTest N) (rule.test_rule inner) test_sound) j) λ more l m.
      done (IsConjunction.conjunction i j l first more h m)

  pub query_sound : Sound (rule.query inner) (IsQuery N)
  unfolding rule.query
  query_sound i = bind (conjunction_sound i) λ first j h.
      bind (repeat_sound (IsJoined N k.Or (IsConjunction N)) (is_kind k.Or) _ (another_sound k.Or (IsConjunction N) (rule.conjunction_rule inner) conjunction_sound) j) λ more l m.
      done (IsQuery.query i j l first more h m)

  optional_query_sound : (close : Kind) → Sound (rule.optional_query inner close) (Maybe (InnerQuery N) (λ next. not (is_kind close next)))
  unfolding rule.optional_query
  optional_query_sound close i = either_at _ _ (λ e. done (Maybe.left_out i (ap not e))) (λ e. bind (query_in_sound inner N s i) λ q j h. done (Maybe.given i j q (ap not e) h))

  settings_sound : Sound (rule.optional_settings inner) (AreSettings N)
  unfolding rule.optional_settings is_kind same_kind
  settings_sound i = go (kind i) refl
    where
      go : (next : Option Kind) → kind i ≡ next → Meets (rule.settings_by inner next i) (AreSettings N i)
      go (Some k.OpenBrace) e = weaker (attributes_sound true i) (λ attrs j h. AreSettings.given i j attrs h)
      go _ e = done (AreSettings.left_out i (at_next (is_kind k.OpenBrace) i e refl))

  pub collector_sound : (i j : Input) (t : Token) → Stands (is_kind k.Type) i t j → (exported : Bool)
      → Meets (rule.collector inner exported (opens_query exported) (closes_query exported) t.text t.line j) (IsOperand N i)
  unfolding rule.collector
  collector_sound i j t st exported = bind (opening_sound inner N s (opens_query exported) j) λ opener l o. bind (optional_query_sound (closes_query exported) l) λ q m h.
      bind (expect_sound (closes_query exported) m) λ closer n c. bind (settings_sound n) λ attrs p a.
      done (IsOperand.collector i p _ (IsCollector.collector i j l m n p exported t opener closer q attrs st o h c a))
