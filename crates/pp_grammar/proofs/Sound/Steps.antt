-- The steps that every rule is made of: what each takes stands there.
use Rattle.std.proofs.Common.{◌≡◌, ℕ, Bool, true, false, if◌then◌else◌, List, [], ◌∷◌, Option, Some, Ok, Err, refl, sym, ap, subst, ◌∙◌, rules}
use denote.Enum.Bare.{same_true}
use Rattle.pp_lexer.specs.declared.kind.Kind.{Kind}
use Rattle.pp_lexer.specs.declared.kind.Kind.TheVariants as k
use Rattle.pp_lexer.specs.contracts.kind.Kind.{the_type}
use Rattle.pp_lexer.specs.Seen.{Token}
use Rattle.pp_parser.specs.declared.refusal.Refusal.{Refusal}
use Rattle.pp_grammar.proofs.Reader.Input.{Input, Outcome, Parser, and_then, pure, kind, kind_at, line_at, taken, take, sees, expect, expect_any, eat, open_level}
use Rattle.pp_grammar.specs.Kinds.{is_kind, is_name, same_kind}
use Rattle.pp_grammar.specs.Places.{Phrase, before, Stands, Within, Opens, Begins}

-- Of what is read, if anything is, this holds.
pub record Meets {A : Type 0} (o : Outcome A) (Q : A → Input → Type 0) : Type 0 where
  pub holds : (a : A) (j : Input) → o ≡ Ok (a, j) → Q a j

-- what a rule reads is such a phrase
abbrev pub Sound : {A : Type 0} → Parser A → Phrase A → Type 0
Sound p P = (i : Input) → Meets (p i) (P i)

-- ---- steps of any rule

read_or : {A : Type 0} → A × Input → Outcome A → A × Input
read_or d (Ok p) = p
read_or d (Err e) = d

pub done : {A : Type 0} {Q : A → Input → Type 0} {a : A} {j : Input} → Q a j → Meets (Ok (a, j)) Q
unfolding read_or
done {A} {Q} {a} {j} h = record { holds = λ b l e. subst (λ (p : A × Input). Q p.0 p.1) (ap (read_or (a, j)) e) h }

pub refused : {A : Type 0} {Q : A → Input → Type 0} {e : Refusal} → Meets (Err e) Q
refused = record { holds = λ b l e. absurd cc }

pub bind : {A B : Type 0} {o : Outcome A} {f : A → Parser B} {P : A → Input → Type 0} {Q : B → Input → Type 0}
    → Meets o P → ((a : A) (j : Input) → P a j → Meets (f a j) Q) → Meets (and_then o f) Q
bind {A} {B} {o} {f} {P} {Q} m more = go o refl
  where
    go : (p : Outcome A) → o ≡ p → Meets (and_then p f) Q
    go (Ok x) e = more x.0 x.1 (m.holds x.0 x.1 e)
    go (Err e) _ = refused

-- the same where what is read is made into something else first
pub bind_made : {A B C : Type 0} {o : Outcome A} {f : A → B} {P : A → Input → Type 0} {Q : C → Input → Type 0} (g : B → Parser C)
    → Meets o P → ((a : A) (j : Input) → P a j → Meets (g (f a) j) Q) → Meets (and_then (and_then o (λ x. pure (f x))) g) Q
bind_made {A} {B} {C} {o} {f} {P} {Q} g m more = go o refl
  where
    go : (p : Outcome A) → o ≡ p → Meets (and_then (and_then p (λ x. pure (f x))) g) Q
    go (Ok x) e = more x.0 x.1 (m.holds x.0 x.1 e)
    go (Err e) _ = refused

-- the same with the equation of what is read
pub reads : {A : Type 0} {p : Parser A} {P : Phrase A} → Sound p P → (i j : Input) (x : A) → p i ≡ Ok (x, j) → P i x j
reads s i j x e = (s i).holds x j e

pub met : {A : Type 0} {o : Outcome A} {Q : A → Input → Type 0} → ((a : A) (j : Input) → o ≡ Ok (a, j) → Q a j) → Meets o Q
met h = record { holds = h }

pub weaker : {A : Type 0} {o : Outcome A} {P Q : A → Input → Type 0} → Meets o P → ((a : A) (j : Input) → P a j → Q a j) → Meets o Q
weaker m f = record { holds = λ a j e. f a j (m.holds a j e) }

pub either : {A : Type 0} {b : Bool} {o p : Outcome A} {Q : A → Input → Type 0}
    → (b ≡ true → Meets o Q) → (b ≡ false → Meets p Q) → Meets (if b then o else p) Q
either {A} {b} {o} {p} {Q} yes_ no_ = go b refl
  where
    go : (c : Bool) → b ≡ c → Meets (if c then o else p) Q
    go true e = yes_ e
    go false e = no_ e

-- the same where rules are chosen
pub either_at : {A : Type 0} {b : Bool} (p q : Parser A) {i : Input} {Q : A → Input → Type 0}
    → (b ≡ true → Meets (p i) Q) → (b ≡ false → Meets (q i) Q) → Meets ((if b then p else q) i) Q
either_at {A} {b} p q {i} {Q} yes_ no_ = go b refl
  where
    go : (c : Bool) → b ≡ c → Meets ((if c then p else q) i) Q
    go true e = yes_ e
    go false e = no_ e

-- ---- tokens

pub is_kind_is : (x y : Kind) → is_kind x (Some y) ≡ true → y ≡ x
unfolding is_kind same_kind
is_kind_is x y h = same_true the_type (search rules) _ _ h

-- the next token, whatever it is
pub take_is : (i : Input) → Meets (take i) (λ t j. i ≡ before t j)
unfolding take
take_is i = go i.left i.doubled refl
  where
    go : (ts : List Token) (d : Option ℕ) → i ≡ record { left = ts; doubled = d } → Meets (taken ts d) (λ t j. i ≡ before t j)
    go [] d e = refused
    go (t ∷ ts) d e = done e

-- the next token, where its kind is known to fit
pub take_sound : (fits : Option Kind → Bool) (i : Input) → fits (kind i) ≡ true → Meets (take i) (Stands fits i)
unfolding kind kind_at
take_sound fits i h = weaker (take_is i) (λ t j e. record { is = e; kind = subst (λ (x : Input). fits (kind x) ≡ true) e h })

pub take_at : (fits : Option Kind → Bool) (i : Input) (next : Option Kind) → kind i ≡ next → fits next ≡ true → Meets (take i) (Stands fits i)
take_at fits i next e h = take_sound fits i (subst (λ (x : Option Kind). fits x ≡ true) (sym e) h)

pub expect_sound : (x : Kind) → Sound (expect x) (Stands (is_kind x))
unfolding expect sees
expect_sound x i = either (λ h. take_sound (is_kind x) i h) (λ _. refused)

pub expect_any_sound : (fits : Option Kind → Bool) → Sound (expect_any fits) (Stands fits)
unfolding expect_any
expect_any_sound fits i = either (λ h. take_sound fits i h) (λ _. refused)

pub data Eaten (x : Kind) : Input → Bool → Input → Type 0 where
  eaten : (i j : Input) (t : Token) → Stands (is_kind x) i t j → Eaten x i true j
  other : (i : Input) → is_kind x (kind i) ≡ false → Eaten x i false i

pub eat_sound : (x : Kind) → Sound (eat x) (Eaten x)
unfolding eat sees
eat_sound x i = either (λ h. bind (take_sound (is_kind x) i h) λ t j st. done (eaten i j t st)) (λ h. done (other i h))

pub open_sound : (N : Within) (x : Kind) (i : Input) (deepest : Bool) → deepest ≡ N.is_deepest i → Meets (open_level deepest x i) (λ t j. Opens N x i t j)
unfolding open_level sees
open_sound N x i deepest e = either (λ h. either (λ _. refused) (λ d. weaker (take_sound (is_kind x) i h) (λ t j st. record { token = st; room = sym e ∙ d }))) (λ _. refused)

-- ---- what stands where

pub line_of_stands : {fits : Option Kind → Bool} {i : Input} {t : Token} {j : Input} → Stands fits i t j → line_at i.left ≡ t.line
unfolding line_at
line_of_stands st = ap (λ (x : Input). line_at x.left) st.is

pub kind_of_stands : {fits : Option Kind → Bool} {i : Input} {t : Token} {j : Input} → Stands fits i t j → kind i ≡ Some t.kind
unfolding kind kind_at
kind_of_stands st = ap kind st.is

pub fits_of_stands : {fits : Option Kind → Bool} {i : Input} {t : Token} {j : Input} → Stands fits i t j → fits (kind i) ≡ true
fits_of_stands {fits} st = ap fits (kind_of_stands st) ∙ st.kind

pub behind_of_stands : {first second : Option Kind → Bool} {i : Input} {t u : Token} {j l : Input} → Stands first i t j → Stands second i u l → j ≡ l
behind_of_stands {t = t} {u = u} {j = j} {l = l} a b = go (sym a.is ∙ b.is)
  where
    go : before t j ≡ before u l → j ≡ l
    go e = record_of (ap (λ (x : Input). rest_of x.left) e) (ap (λ (x : Input). x.doubled) e)
      where
        rest_of : List Token → List Token
        rest_of [] = []
        rest_of (x ∷ xs) = xs

        record_of : j.left ≡ l.left → j.doubled ≡ l.doubled → j ≡ l
        record_of p q = λ d. record { left = p d; doubled = q d }

-- ---- what the next token is, by cases

pub at_next : {B : Type 0} (f : Option Kind → B) (i : Input) {next : Option Kind} {b : B} → kind i ≡ next → f next ≡ b → f (kind i) ≡ b
at_next f i e h = ap f e ∙ h

-- the two tokens are others
pub not_begins : {first second : Option Kind → Bool} {i : Input} → first (kind i) ≡ false → Begins first second i → ⊥
not_begins {first} h b = no_both (sym (fits_of_stands b.stands) ∙ h)
  where
    no_both : true ≡ false → ⊥
    no_both e = absurd cc

pub not_before : {fits first second : Option Kind → Bool} {i : Input} {t : Token} {j : Input} → Stands fits i t j → second (kind j) ≡ false → Begins first second i → ⊥
not_before {second = second} st h b = no_both (sym (subst (λ (x : Input). second (kind x) ≡ true) (sym (behind_of_stands st b.stands)) b.next) ∙ h)
  where
    no_both : true ≡ false → ⊥
    no_both e = absurd cc

-- ---- what is known of a token that stands

pub by_kind : {B : Type 0} (x : Kind) (f : Option Kind → B) {i : Input} {t : Token} {j : Input} {b : B} → Stands (is_kind x) i t j → f (Some x) ≡ b → f (kind i) ≡ b
by_kind x f {t = t} st h = ap f (kind_of_stands st) ∙ ap (λ (y : Kind). f (Some y)) (is_kind_is x t.kind st.kind) ∙ h

pub other_kind : (x : Kind) {i : Input} {t : Token} {j : Input} → Stands (is_kind x) i t j → (fits : Option Kind → Bool) → fits (Some x) ≡ true → Stands fits i t j
other_kind x {t = t} st fits h = record { is = st.is; kind = ap (λ (y : Kind). fits (Some y)) (is_kind_is x t.kind st.kind) ∙ h }

-- the same of a name, of which there are two kinds
name_is : {B : Type 0} (f : Option Kind → B) (x : Kind) (b : B) → is_name (Some x) ≡ true → f (Some k.Name) ≡ b → f (Some k.StatementFunction) ≡ b → f (Some x) ≡ b
name_is f k.Name b h p q = p
name_is f k.StatementFunction b h p q = q
name_is f _ b h p q = absurd cc

pub by_name : {B : Type 0} (f : Option Kind → B) {i : Input} {t : Token} {j : Input} {b : B} → Stands is_name i t j → f (Some k.Name) ≡ b → f (Some k.StatementFunction) ≡ b → f (kind i) ≡ b
by_name f {t = t} {b = b} st p q = ap f (kind_of_stands st) ∙ name_is f t.kind b st.kind p q

pub other_name : {i : Input} {t : Token} {j : Input} → Stands is_name i t j → (fits : Option Kind → Bool) → fits (Some k.Name) ≡ true → fits (Some k.StatementFunction) ≡ true → Stands fits i t j
other_name {t = t} st fits p q = record { is = st.is; kind = name_is fits t.kind true st.kind p q }
