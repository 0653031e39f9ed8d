-- Accesses whose key is there.
use denote.Ref.{Bor}
use Rattle.std.proofs.Common.{◌≡◌, ℕ, ℤ, false, List, [], ◌∷◌, Option, None, Some, Ok, refl, sym}
use Rattle.std.specs.Prelude.{IfSome, option_map}
use Rattle.std.specs.Option.{unwrap_or}
use Rattle.pp_ops.specs.Accesses.{member_at}
use Rattle.pp_ops.specs.declared.op.Op.TheVariants as op
use Rattle.pp_tree.specs.Building.{form_of}
use Rattle.pp_tree.specs.Layers.{FormLayer}
use Rattle.pp_tree.specs.declared.collector.Test.TheOpen.{Form-F}
use Rattle.pp_tree.specs.declared.expr.Expr.{Expr}
use Rattle.pp_tree.specs.declared.expr.Form.{out-Form}
use Rattle.pp_values.specs.Datum as d
use Rattle.pp_values.specs.Datum.{Datum, data_of, members_of, pairs_of}
use Rattle.pp_values.specs.Keys.{value_at}
use Rattle.pp_values.specs.Views.{view}
use Rattle.pp_values.specs.declared.value.Value.{Value}
use Rattle.scope_core.specs.Scopes.{Scopes}
use Rattle.eval_world.specs.Arguments.{argument_rule, values_from}
use Rattle.eval_world.specs.Inner.{Inner}
use Rattle.eval_world.specs.Leaves.{known_by, known_in, number_by, number_in}
use Rattle.eval_world.specs.Shapes.{is_splat, is_splat_by, only}
use Rattle.eval_world.specs.declared.here.Here.{Here}
use Rattle.eval_world.specs.declared.world.World.{World}
use Rattle.eval_forms.specs.Accesses.{accessed_rule}
use Rattle.eval_forms.specs.Answering.{combined}
use Rattle.eval_forms.specs.Lent.{held_in, lent_in, text_by, text_in}

-- what is found is the value of the operator, at each place
held_combined : (line : ℕ) (here : Here) (w : World) (whole key : Datum) (o : Option Datum) → held_in whole key ≡ Some o
    → combined op.Access whole (d.list (data_of (key ∷ []))) line here w ≡ Ok (unwrap_or o d.undef, w)
unfolding combined
held_combined line here w (d.list ds) (d.int at) o is =
    let found : member_at at (members_of ds) ≡ o = cc in rw found refl
held_combined line here w (d.hash es) key o is =
    let found : value_at key (pairs_of es) ≡ o = cc in rw found refl
held_combined line here w whole key o is = absurd cc

-- what is a key is not spliced
known_plain_by : (x : FormLayer) (left : ℕ) (here : Here) (s : Scopes) (k : Datum) → known_by x left here s ≡ Some k
    → is_splat_by x ≡ false
known_plain_by (Form-F.Prefix o e) left here s k is = absurd cc
known_plain_by _ left here s k is = refl

known_plain : (left : ℕ) (e : Expr) (here : Here) (s : Scopes) (k : Datum) → known_in left e here s ≡ Some k
    → is_splat e ≡ false
unfolding known_in
known_plain left e here s k is = known_plain_by (out-Form (form_of e)) left here s k is

number_plain_by : (x : FormLayer) (left : ℕ) (z : ℤ) → number_by x left ≡ Some z → is_splat_by x ≡ false
number_plain_by (Form-F.Prefix o e) left z is = absurd cc
number_plain_by _ left z is = refl

number_plain : (left : ℕ) (e : Expr) (z : ℤ) → number_in left e ≡ Some z → is_splat e ≡ false
unfolding number_in
number_plain left e z is = number_plain_by (out-Form (form_of e)) left z is

text_plain_by : (x : FormLayer) (left : ℕ) (k : Datum) → text_by x left ≡ Some k → is_splat_by x ≡ false
text_plain_by (Form-F.Prefix o e) left k is = absurd cc
text_plain_by _ left k is = refl

text_plain : (left : ℕ) (e : Expr) (k : Datum) → text_in left e ≡ Some k → is_splat e ≡ false
unfolding text_in
text_plain left e k is = text_plain_by (out-Form (form_of e)) left k is

none_by : (x : FormLayer) → None ≡ text_by x 0
none_by (Form-F.Text t) = refl
none_by (Form-F.Name t) = refl
none_by _ = refl

-- no text is taken where it stands too deep
pub none_too_deep : (left : ℕ) (e : Expr) → left ≡ 0 → None ≡ text_in left e
unfolding text_in
none_too_deep left e is = rw is (none_by (out-Form (form_of e)))

module _ (inner : Inner) (line : ℕ) (here : Here) (w : World) where
  only_is : (e : Expr) (es : List Expr) → only es ≡ Some e → es ≡ e ∷ []
  only_is e [] is = absurd cc
  only_is e (f ∷ []) is = cc
  only_is e (f ∷ g ∷ es) is = absurd cc

  -- an access with a key that is there gives what is found
  lends : (whole key : Datum) (e : Expr) (es : List Expr) (o : Option Datum) → only es ≡ Some e
      → is_splat e ≡ false → inner.value e here w ≡ Ok (key, w) → held_in whole key ≡ Some o
      → accessed_rule inner whole es line here w ≡ Ok (unwrap_or o d.undef, w)
  unfolding accessed_rule values_from argument_rule
  lends whole key e es o one plain said held =
      rw (only_is e es one) (rw said (rw plain (held_combined line here w whole key o held)))

-- nothing is lent without a key
pub none_asked : (left : ℕ) (here : Here) (w : World) (whole : Datum) (es : List Expr) → None ≡ only es
    → None ≡ lent_in left whole es here w.scopes
none_asked left here w whole es one = rw (sym one) refl

pub no_key : (left : ℕ) (here : Here) (w : World) (whole : Datum) (e : Expr) (es : List Expr) → Some e ≡ only es
    → None ≡ known_in left e here w.scopes → None ≡ number_in left e → None ≡ text_in left e
    → None ≡ lent_in left whole es here w.scopes
no_key left here w whole e es one unknown other none = rw (sym one, sym unknown, sym other, sym none) refl

-- what is lent is what the access gives
abbrev pub Said : Inner → Here → World → Datum → List Expr → Option (Option (Bor Value)) → Type 0
Said inner here w whole es r = IfSome r (λ o. (line : ℕ) → accessed_rule inner whole es line here w
    ≡ Ok (unwrap_or (option_map (λ v. view v.now) o) d.undef, w))

module _ (left : ℕ) (inner : Inner) (here : Here) (w : World) (whole : Datum) (e : Expr) (es : List Expr)
    (one : Some e ≡ only es) (r : Option (Option (Bor Value))) where
  said_by : (key : Datum) (r : Option (Option (Bor Value))) → is_splat e ≡ false → inner.value e here w ≡ Ok (key, w)
      → option_map (option_map (λ v. view v.now)) r ≡ held_in whole key → Said inner here w whole es r
  said_by key None plain said held = tt
  said_by key (Some o) plain said held =
      λ line. lends inner line here w whole key e es (option_map (λ v. view v.now) o) (sym one) plain said (sym held)

  pub known_which : (key : Datum) → Some key ≡ known_in left e here w.scopes
      → option_map (option_map (λ v. view v.now)) r ≡ held_in whole key
      → option_map (option_map (λ v. view v.now)) r ≡ lent_in left whole es here w.scopes
  known_which key known held = rw (sym one, sym known) held

  pub known_said : (key : Datum) → Some key ≡ known_in left e here w.scopes → inner.value e here w ≡ Ok (key, w)
      → option_map (option_map (λ v. view v.now)) r ≡ held_in whole key → Said inner here w whole es r
  known_said key known said held = said_by key r (known_plain left e here w.scopes key (sym known)) said held

  pub number_which : (z : ℤ) → None ≡ known_in left e here w.scopes → Some z ≡ number_in left e
      → option_map (option_map (λ v. view v.now)) r ≡ held_in whole (d.int z)
      → option_map (option_map (λ v. view v.now)) r ≡ lent_in left whole es here w.scopes
  number_which z unknown is held = rw (sym one, sym unknown, sym is) held

  pub number_said : (z : ℤ) → Some z ≡ number_in left e → inner.value e here w ≡ Ok (d.int z, w)
      → option_map (option_map (λ v. view v.now)) r ≡ held_in whole (d.int z) → Said inner here w whole es r
  number_said z is said held = said_by (d.int z) r (number_plain left e z (sym is)) said held

  pub text_which : (t : List ℕ) → None ≡ known_in left e here w.scopes → None ≡ number_in left e
      → Some (d.text t) ≡ text_in left e → option_map (option_map (λ v. view v.now)) r ≡ held_in whole (d.text t)
      → option_map (option_map (λ v. view v.now)) r ≡ lent_in left whole es here w.scopes
  text_which t unknown other is held = rw (sym one, sym unknown, sym other, sym is) held

  pub text_said : (t : List ℕ) → Some (d.text t) ≡ text_in left e → inner.value e here w ≡ Ok (d.text t, w)
      → option_map (option_map (λ v. view v.now)) r ≡ held_in whole (d.text t) → Said inner here w whole es r
  text_said t is said held = said_by (d.text t) r (text_plain left e (d.text t) (sym is)) said held
