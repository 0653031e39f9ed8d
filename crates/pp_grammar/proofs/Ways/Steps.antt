-- Where a text is refused, some text goes on: what was read before the refused token is the beginning of a text. Here for the
-- steps that all rules are made of. A way is what is written in place of the refused token and all behind it.
use Rattle.std.proofs.Common.{◌≡◌, ℕ, suc, ◌+◌, ◌<◌, ◌≤◌, pos, Bool, true, List, [], ◌∷◌, ◌++◌, length, Option, Some, None, Ok, Err, codes, refl, sym, ap, subst, ◌∙◌, append_assoc, arith}
use Rattle.std.proofs.Math.Decide.{dec_le}
use Rattle.pp_lexer.specs.declared.kind.Kind.{Kind}
use Rattle.pp_lexer.specs.declared.kind.Kind.TheVariants as k
use Rattle.pp_lexer.specs.Seen.{Token}
use Rattle.pp_parser.specs.declared.refusal.Refusal.TheVariants as refusals
use Rattle.pp_grammar.proofs.Reader.Input.{Input, Outcome, Parser, and_then, ◌>>=◌, pure, kind_at, kind, line_at, refuse, taken, take}
use Rattle.pp_grammar.proofs.Local.Steps.{Alike, at_it, before_it, Falls, falls_less, take_falls}

-- ---- tokens of ways

-- what a token of a way says
abbrev pub said : Kind → List ℕ
said k.Name = codes "a"
said k.Variable = codes "a"
said _ = []

abbrev pub mark : Kind → Token
mark kind = record { kind = kind; text = said kind; line = 1; number = pos 0 }

-- the kind of the token that a way begins with, if it has one
abbrev pub Begins : Option Kind → List Token → Type 0
Begins None way = way ≡ []
Begins (Some k) way = (rest : List Token) × (way ≡ mark k ∷ rest)

-- a reader whose way has a token takes one at least
abbrev pub tokens_of : Option Kind → ℕ
tokens_of None = 0
tokens_of (Some _) = 1

-- ---- what a rule does. It is a reader for each number of levels; `E` says which next tokens surely end what it gives.

-- it ends before the place, or at it, and what may stand there ends it
pub data Reached {A : Type 0} (E : A → Option Kind → Bool) (rest other : List Token) (a : A) (j : Input) : Type 0 where
  ahead : length rest < length j.left → Reached E rest other a j
  there : length rest ≡ length j.left → E a (kind_at other) ≡ true → Reached E rest other a j

-- from where so many tokens are left
pub record Way {A : Type 0} (E : A → Option Kind → Bool) (i : Input) (k : ℕ) (q : ℕ → Parser A) : Type 0 where
  pub way : List Token
  pub enough : ℕ
  pub found : A
  pub reads : (rest r : List Token) (i2 : Input) (m : ℕ) → enough ≤ m → length rest ≡ k → Alike rest (way ++ r) i.left i2.left → E found (kind_at r) ≡ true → (l : Input) × (q m i2 ≡ Ok (found, l)) × (l.left ≡ r)

-- What is read with these levels is read with as many or more, also where other text stands behind it. Where it is refused
-- behind its first token there is a way.
abbrev pub Goes : {A : Type 0} → ℕ → (A → Option Kind → Bool) → Input → Outcome A → (ℕ → Parser A) → Type 0
Goes n E i (Ok p) q = (rest other : List Token) (i2 : Input) (m : ℕ) → n ≤ m → Alike rest other i.left i2.left → Reached E rest other p.0 p.1 → (l : Input) × (q m i2 ≡ Ok (p.0, l)) × Alike rest other p.1.left l.left
Goes n E i (Err (refusals.Wrong k)) q = k < length i.left → Way E i k q
Goes n E i (Err (refusals.Deep k)) q = Unit {0}
Goes n E i (Err refusals.Memory) q = Unit {0}

pub record Holds {A : Type 0} (n : ℕ) (tokens : ℕ) (E : A → Option Kind → Bool) (p : Parser A) (q : ℕ → Parser A) : Type 0 where
  pub falls : (i : Input) → Falls (λ _. tokens) i (p i)
  pub goes : (i : Input) → Goes n E i (p i) q

-- from nothing there is a way
pub record Fresh {A : Type 0} (s : Option Kind) (E : A → Option Kind → Bool) (q : ℕ → Parser A) : Type 0 where
  pub way : List Token
  pub begins : Begins s way
  pub enough : ℕ
  pub found : A
  pub reads : (i : Input) (r : List Token) (m : ℕ) → enough ≤ m → i.left ≡ way ++ r → E found (kind_at r) ≡ true → (l : Input) × (q m i ≡ Ok (found, l)) × (l.left ≡ r)

pub record Rule {A : Type 0} (n : ℕ) (s : Option Kind) (E : A → Option Kind → Bool) (p : Parser A) (q : ℕ → Parser A) : Type 0 where
  pub holds : Holds n (tokens_of s) E p q
  pub fresh : Fresh s E q

-- whatever follows
abbrev pub everything : {A : Type 0} → A → Option Kind → Bool
everything _ _ = true

-- ---- places

pub alike_least : {r s ts us : List Token} → Alike r s ts us → length r ≤ length ts
alike_least at_it = omega arith
alike_least (before_it t h) = let e = alike_least h in omega arith

-- where nothing is left before the place
pub alike_at : {r s ts us : List Token} → Alike r s ts us → length r ≡ length ts → (ts ≡ r) × (us ≡ s)
alike_at at_it e = (refl, refl)
alike_at (before_it t h) e = let w = alike_least h in absurd (omega arith)

pub ahead_kind : {r s ts us : List Token} → Alike r s ts us → length r < length ts → kind_at ts ≡ kind_at us
unfolding kind_at
ahead_kind at_it e = absurd (omega arith)
ahead_kind (before_it t h) e = refl

pub ahead_line : {r s ts us : List Token} → Alike r s ts us → length r < length ts → line_at ts ≡ line_at us
unfolding line_at
ahead_line at_it e = absurd (omega arith)
ahead_line (before_it t h) e = refl

pub reached_least : {A : Type 0} {E : A → Option Kind → Bool} {rest other : List Token} {a : A} {j : Input} → Reached E rest other a j → length rest ≤ length j.left
reached_least (ahead h) = omega arith
reached_least (there h e) = omega arith

pub reached_by : {A : Type 0} {E : A → Option Kind → Bool} {rest other : List Token} {a : A} {j : Input} → Reached E rest other a j → length rest ≡ length j.left → E a (kind_at other) ≡ true
reached_by (ahead h) w = absurd (omega arith)
reached_by (there h e) w = e

pub reached_from : {A : Type 0} {E : A → Option Kind → Bool} (rest other : List Token) (a : A) (j : Input) → length rest ≤ length j.left → (length rest ≡ length j.left → E a (kind_at other) ≡ true) → Dec (suc (length rest) ≤ length j.left) → Reached E rest other a j
reached_from rest other a j h e (yes w) = ahead w
reached_from rest other a j h e (no w) = there (omega arith) (e (omega arith))

-- ---- one reader behind the other

-- the second is read where the first may end
abbrev pub Meets : {A B : Type 0} → (A → Option Kind → Bool) → Option Kind → (B → Option Kind → Bool) → A → Type 0
Meets E (Some k) F a = E a (Some k) ≡ true
Meets {B = B} E None F a = (b : B) (next : Option Kind) → F b next ≡ true → E a next ≡ true

pub meets_everything : {A B : Type 0} (F : B → Option Kind → Bool) (s : Option Kind) (a : A) → Meets everything s F a
meets_everything F None a = λ b next e. refl
meets_everything F (Some k) a = refl

pub meets_way : {A B : Type 0} (E : A → Option Kind → Bool) {F : B → Option Kind → Bool} {q : ℕ → Parser B} (s : Option Kind) (a : A) → Meets E s F a → (X : Fresh s F q) (r : List Token) → F X.found (kind_at r) ≡ true → E a (kind_at (X.way ++ r)) ≡ true
unfolding kind_at
meets_way E None a M X r f = subst (λ (w : List Token). E a (kind_at (w ++ r)) ≡ true) (sym X.begins) (M X.found (kind_at r) f)
meets_way E (Some k) a M X r f = subst (λ (w : List Token). E a (kind_at (w ++ r)) ≡ true) (sym X.begins.1) M

meets_end : {A B : Type 0} (E : A → Option Kind → Bool) (F : B → Option Kind → Bool) (s : Option Kind) (a : A) (b : B) (next : Option Kind) → Meets E s F a → tokens_of s ≡ 0 → F b next ≡ true → E a next ≡ true
meets_end E F None a b next M z f = M b next f
meets_end E F (Some k) a b next M z f = absurd (omega arith)

behind_ok : {A B : Type 0} {n : ℕ} {E : A → Option Kind → Bool} {F : B → Option Kind → Bool} (i : Input) (p : A × Input) (r : B × Input) (q : ℕ → Parser A) (g : A → ℕ → Parser B)
    → Goes n E i (Ok p) q → Goes n F p.1 (Ok r) (g p.0) → length r.1.left ≤ length p.1.left → ((next : Option Kind) → length r.1.left ≡ length p.1.left → F r.0 next ≡ true → E p.0 next ≡ true)
    → Goes n F i (Ok r) (λ m. q m >>= (λ x. g x m))
behind_ok i p r q g K L h meets = λ rest other i2 m more alike reached.
    let w = reached_least reached in
    let z = reached_from rest other p.0 p.1 (omega arith) (λ e. meets (kind_at other) (omega arith) (reached_by reached (omega arith))) (dec_le (suc (length rest)) (length p.1.left)) in
    let t = K rest other i2 m more alike z in
    let u = L rest other t.0 m more t.2 reached in
    (u.0, ap (λ (o : Outcome _). and_then o (λ x. g x m)) t.1 ∙ u.1, u.2)

behind_wrong : {A B : Type 0} {n : ℕ} {s : Option Kind} {E : A → Option Kind → Bool} {F : B → Option Kind → Bool} (i : Input) (p : A × Input) (k : ℕ) (q : ℕ → Parser A) (g : A → ℕ → Parser B)
    → Goes n E i (Ok p) q → k ≤ length p.1.left → (k < length p.1.left → Way F p.1 k (g p.0)) → (X : Fresh s F (g p.0)) → ((r : List Token) → F X.found (kind_at r) ≡ true → E p.0 (kind_at (X.way ++ r)) ≡ true)
    → Dec (suc k ≤ length p.1.left) → Way F i k (λ m. q m >>= (λ x. g x m))
behind_wrong {n = n} i p k q g K h L X meets (yes w) =
    let W = L w in
    record {
      way = W.way;
      enough = n + W.enough;
      found = W.found;
      reads = λ rest r i2 m more e alike f.
          let t = K rest (W.way ++ r) i2 m (omega arith) alike (ahead (omega arith)) in
          let u = W.reads rest r t.0 m (omega arith) e t.2 f in
          (u.0, ap (λ (o : Outcome _). and_then o (λ x. g x m)) t.1 ∙ u.1, u.2);
    }
behind_wrong {n = n} i p k q g K h L X meets (no w) =
    record {
      way = X.way;
      enough = n + X.enough;
      found = X.found;
      reads = λ rest r i2 m more e alike f.
          let t = K rest (X.way ++ r) i2 m (omega arith) alike (there (omega arith) (meets r f)) in
          let v : t.0.left ≡ X.way ++ r = (alike_at t.2 (omega arith)).1 in
          let u = X.reads t.0 r m (omega arith) v f in
          (u.0, ap (λ (o : Outcome _). and_then o (λ x. g x m)) t.1 ∙ u.1, u.2);
    }

behind_refused : {A B : Type 0} {s : A → Option Kind} {E : A → Option Kind → Bool} {F : B → Option Kind → Bool} (i : Input) (k : ℕ) (q : ℕ → Parser A) (g : A → ℕ → Parser B)
    → Way E i k q → (X : (a : A) → Fresh (s a) F (g a)) → ((a : A) (r : List Token) → F (X a).found (kind_at r) ≡ true → E a (kind_at ((X a).way ++ r)) ≡ true) → Way F i k (λ m. q m >>= (λ x. g x m))
behind_refused i k q g W X meets =
    let Y = X W.found in
    record {
      way = W.way ++ Y.way;
      enough = W.enough + Y.enough;
      found = Y.found;
      reads = λ rest r i2 m more e alike f.
          let t = W.reads rest (Y.way ++ r) i2 m (omega arith) e (subst (λ (us : List Token). Alike rest us i.left i2.left) (append_assoc W.way Y.way r) alike) (meets W.found r f) in
          let u = Y.reads t.0 r m (omega arith) t.2 f in
          (u.0, ap (λ (o : Outcome _). and_then o (λ x. g x m)) t.1 ∙ u.1, u.2);
    }

behind_goes : {A B : Type 0} {n : ℕ} {s : Option Kind} {E : A → Option Kind → Bool} {F : B → Option Kind → Bool} (i : Input) (p : A × Input) (o : Outcome B) (q : ℕ → Parser A) (g : A → ℕ → Parser B)
    → Goes n E i (Ok p) q → Falls (λ _. tokens_of s) p.1 o → Goes n F p.1 o (g p.0) → (X : Fresh s F (g p.0)) → ((r : List Token) → F X.found (kind_at r) ≡ true → E p.0 (kind_at (X.way ++ r)) ≡ true)
    → ((r : B × Input) → o ≡ Ok r → length r.1.left ≡ length p.1.left → (next : Option Kind) → F r.0 next ≡ true → E p.0 next ≡ true)
    → Goes n F i o (λ m. q m >>= (λ x. g x m))
behind_goes i p (Ok r) q g K f L X meets ends = behind_ok i p r q g K L (omega arith) (λ next z. ends r refl z next)
behind_goes i p (Err (refusals.Wrong k)) q g K f L X meets ends = λ w. behind_wrong i p k q g K f L X meets (dec_le (suc k) (length p.1.left))
behind_goes i p (Err (refusals.Deep k)) q g K f L X meets ends = tt
behind_goes i p (Err refusals.Memory) q g K f L X meets ends = tt

joined_goes : {A B : Type 0} {n : ℕ} {s : A → Option Kind} {E : A → Option Kind → Bool} {F : B → Option Kind → Bool} (i : Input) (o : Outcome A) (f : A → Parser B) (q : ℕ → Parser A) (g : A → ℕ → Parser B)
    → Goes n E i o q → ((a : A) → Holds n (tokens_of (s a)) F (f a) (g a)) → (X : (a : A) → Fresh (s a) F (g a)) → ((a : A) (r : List Token) → F (X a).found (kind_at r) ≡ true → E a (kind_at ((X a).way ++ r)) ≡ true)
    → ((a : A) (j : Input) (r : B × Input) → f a j ≡ Ok r → length r.1.left ≡ length j.left → (next : Option Kind) → F r.0 next ≡ true → E a next ≡ true)
    → Goes n F i (and_then o f) (λ m. q m >>= (λ x. g x m))
joined_goes i (Ok p) f q g K H X meets ends = behind_goes i p (f p.0 p.1) q g K ((H p.0).falls p.1) ((H p.0).goes p.1) (X p.0) (meets p.0) (ends p.0 p.1)
joined_goes i (Err (refusals.Wrong k)) f q g K H X meets ends = λ h. behind_refused i k q g (K h) X meets
joined_goes i (Err (refusals.Deep k)) f q g K H X meets ends = tt
joined_goes i (Err refusals.Memory) f q g K H X meets ends = tt

-- what takes a token has not stayed where it was
took_one : {B : Type 0} (c : ℕ) (j : Input) (o : Outcome B) (r : B × Input) → Falls (λ _. c) j o → o ≡ Ok r → length r.1.left ≡ length j.left → c ≡ 0
took_one c j o r f e z = let w : length r.1.left + c ≤ length j.left = subst (λ (x : Outcome _). Falls (λ _. c) j x) e f in omega arith

-- with conditions that know what is given
pub bind_by : {A B : Type 0} {n c : ℕ} {s : A → Option Kind} {E : A → Option Kind → Bool} {F : B → Option Kind → Bool} {p : Parser A} {f : A → Parser B} {q : ℕ → Parser A} {g : A → ℕ → Parser B} (least : ℕ)
    → Holds n c E p q → (R : (a : A) → Rule n (s a) F (f a) (g a)) → ((a : A) → least ≤ c + tokens_of (s a)) → ((a : A) (r : List Token) → F (R a).fresh.found (kind_at r) ≡ true → E a (kind_at ((R a).fresh.way ++ r)) ≡ true)
    → ((a : A) (j : Input) (r : B × Input) → f a j ≡ Ok r → length r.1.left ≡ length j.left → (next : Option Kind) → F r.0 next ≡ true → E a next ≡ true)
    → Holds n least F (p >>= f) (λ m. q m >>= (λ x. g x m))
bind_by {c = c} {s = s} {p = p} {f = f} {q = q} {g = g} least P R enough meets ends = record {
  falls = λ i. bound_falls c least i (p i) f (λ a. tokens_of (s a)) (P.falls i) (λ a j. (R a).holds.falls j) enough;
  goes = λ i. joined_goes i (p i) f q g (P.goes i) (λ a. (R a).holds) (λ a. (R a).fresh) meets ends;
}
  where
    shorter : {B : Type 0} (d e : ℕ) (least : ℕ) (i j : Input) (o : Outcome B) → length j.left + d ≤ length i.left → least ≤ d + e → Falls (λ _. e) j o → Falls (λ _. least) i o
    shorter d e least i j (Ok r) h m f = omega arith
    shorter d e least i j (Err (refusals.Wrong k)) h m f = omega arith
    shorter d e least i j (Err (refusals.Deep k)) h m f = omega arith
    shorter d e least i j (Err refusals.Memory) h m f = f

    bound_falls : {A B : Type 0} (c least : ℕ) (i : Input) (o : Outcome A) (f : A → Parser B) (d : A → ℕ) → Falls (λ _. c) i o → ((a : A) (j : Input) → Falls (λ _. d a) j (f a j)) → ((a : A) → least ≤ c + d a) → Falls (λ _. least) i (and_then o f)
    bound_falls c least i (Ok r) f d h F m = shorter c (d r.0) least i r.1 (f r.0 r.1) h (m r.0) (F r.0 r.1)
    bound_falls c least i (Err (refusals.Wrong k)) f d h F m = h
    bound_falls c least i (Err (refusals.Deep k)) f d h F m = h
    bound_falls c least i (Err refusals.Memory) f d h F m = h

pub bind_holds : {A B : Type 0} {n c : ℕ} {s : A → Option Kind} {E : A → Option Kind → Bool} {F : B → Option Kind → Bool} {p : Parser A} {f : A → Parser B} {q : ℕ → Parser A} {g : A → ℕ → Parser B} (least : ℕ)
    → Holds n c E p q → ((a : A) → Rule n (s a) F (f a) (g a)) → ((a : A) → least ≤ c + tokens_of (s a)) → ((a : A) → Meets E (s a) F a) → Holds n least F (p >>= f) (λ m. q m >>= (λ x. g x m))
bind_holds {s = s} {E = E} {F = F} {f = f} least P R enough M =
    bind_by least P R enough (λ a r. meets_way E (s a) a (M a) (R a).fresh r)
    (λ a j r e z next. meets_end E F (s a) a r.0 next (M a) (took_one (tokens_of (s a)) j (f a j) r ((R a).holds.falls j) e z))

pub fresh_by : {A B : Type 0} {s t : Option Kind} {E : A → Option Kind → Bool} {F : B → Option Kind → Bool} {q : ℕ → Parser A} (g : A → ℕ → Parser B) (X : Fresh s E q) (Y : Fresh t F (g X.found))
    → ((r : List Token) → F Y.found (kind_at r) ≡ true → E X.found (kind_at (Y.way ++ r)) ≡ true) → (u : Option Kind) → Begins u (X.way ++ Y.way) → Fresh u F (λ m. q m >>= (λ x. g x m))
fresh_by g X Y meets u b = record {
  way = X.way ++ Y.way;
  begins = b;
  enough = X.enough + Y.enough;
  found = Y.found;
  reads = λ i r m more e f.
      let t = X.reads i (Y.way ++ r) m (omega arith) (e ∙ append_assoc X.way Y.way r) (meets r f) in
      let v = Y.reads t.0 r m (omega arith) t.2 f in
      (v.0, ap (λ (o : Outcome _). and_then o (λ x. g x m)) t.1 ∙ v.1, v.2);
}

pub begins_first : (k : Kind) (way more : List Token) → Begins (Some k) way → Begins (Some k) (way ++ more)
begins_first k way more b = (b.0 ++ more, ap (λ (w : List Token). w ++ more) b.1)

begins_after : (s : Option Kind) (way more : List Token) → way ≡ [] → Begins s more → Begins s (way ++ more)
begins_after s way more e b = subst (λ (w : List Token). Begins s (w ++ more)) (sym e) b

pub fresh_first : {A B : Type 0} {k : Kind} {t : Option Kind} {E : A → Option Kind → Bool} {F : B → Option Kind → Bool} {q : ℕ → Parser A} {g : A → ℕ → Parser B} → Fresh (Some k) E q → ((a : A) → Fresh t F (g a)) → ((a : A) → Meets E t F a) → Fresh (Some k) F (λ m. q m >>= (λ x. g x m))
fresh_first {k = k} {t = t} {E = E} {g = g} X Y M = fresh_by g X (Y X.found) (λ r. meets_way E t X.found (M X.found) (Y X.found) r) (Some k) (begins_first k X.way (Y X.found).way X.begins)

pub fresh_after : {A B : Type 0} {t : Option Kind} {E : A → Option Kind → Bool} {F : B → Option Kind → Bool} {q : ℕ → Parser A} {g : A → ℕ → Parser B} → Fresh None E q → ((a : A) → Fresh t F (g a)) → ((a : A) → Meets E t F a) → Fresh t F (λ m. q m >>= (λ x. g x m))
fresh_after {t = t} {E = E} {g = g} X Y M = fresh_by g X (Y X.found) (λ r. meets_way E t X.found (M X.found) (Y X.found) r) t (begins_after t X.way (Y X.found).way X.begins (Y X.found).begins)

-- a reader that takes a token, and what follows it
pub first : {A B : Type 0} {n : ℕ} {k : Kind} {t : Option Kind} {E : A → Option Kind → Bool} {F : B → Option Kind → Bool} {p : Parser A} {f : A → Parser B} {q : ℕ → Parser A} {g : A → ℕ → Parser B}
    → Rule n (Some k) E p q → ((a : A) → Rule n t F (f a) (g a)) → ((a : A) → Meets E t F a) → Rule n (Some k) F (p >>= f) (λ m. q m >>= (λ x. g x m))
first P R M = record { holds = bind_holds 1 P.holds R (λ a. omega arith) M; fresh = fresh_first P.fresh (λ a. (R a).fresh) M }

-- the same where anything may follow
pub first_any : {A B : Type 0} {n : ℕ} {k : Kind} {t : Option Kind} {F : B → Option Kind → Bool} {p : Parser A} {f : A → Parser B} {q : ℕ → Parser A} {g : A → ℕ → Parser B}
    → Rule n (Some k) everything p q → ((a : A) → Rule n t F (f a) (g a)) → Rule n (Some k) F (p >>= f) (λ m. q m >>= (λ x. g x m))
first_any {t = t} {F = F} P R = first P R (meets_everything F t)

-- a reader that may take none
pub after : {A B : Type 0} {n : ℕ} {t : Option Kind} {E : A → Option Kind → Bool} {F : B → Option Kind → Bool} {p : Parser A} {f : A → Parser B} {q : ℕ → Parser A} {g : A → ℕ → Parser B}
    → Rule n None E p q → ((a : A) → Rule n t F (f a) (g a)) → ((a : A) → Meets E t F a) → Rule n t F (p >>= f) (λ m. q m >>= (λ x. g x m))
after {t = t} P R M = record { holds = bind_holds (tokens_of t) P.holds R (λ a. omega arith) M; fresh = fresh_after P.fresh (λ a. (R a).fresh) M }

-- how what follows begins may hang on what was given
pub fresh_each : {A B : Type 0} {k : Kind} {t : A → Option Kind} {E : A → Option Kind → Bool} {F : B → Option Kind → Bool} {q : ℕ → Parser A} {g : A → ℕ → Parser B} → Fresh (Some k) E q → ((a : A) → Fresh (t a) F (g a)) → ((a : A) → Meets E (t a) F a) → Fresh (Some k) F (λ m. q m >>= (λ x. g x m))
fresh_each {k = k} {t = t} {E = E} {g = g} X Y M = fresh_by g X (Y X.found) (λ r. meets_way E (t X.found) X.found (M X.found) (Y X.found) r) (Some k) (begins_first k X.way (Y X.found).way X.begins)

pub first_each : {A B : Type 0} {n : ℕ} {k : Kind} {t : A → Option Kind} {E : A → Option Kind → Bool} {F : B → Option Kind → Bool} {p : Parser A} {f : A → Parser B} {q : ℕ → Parser A} {g : A → ℕ → Parser B}
    → Rule n (Some k) E p q → ((a : A) → Rule n (t a) F (f a) (g a)) → ((a : A) → Meets E (t a) F a) → Rule n (Some k) F (p >>= f) (λ m. q m >>= (λ x. g x m))
first_each P R M = record { holds = bind_holds 1 P.holds R (λ a. omega arith) M; fresh = fresh_each P.fresh (λ a. (R a).fresh) M }

-- ---- the steps

unfoldable pub pure_goes : {A : Type 0} {n : ℕ} {E : A → Option Kind → Bool} (a : A) → Rule n None E (pure a) (λ m. pure a)
pure_goes a = record {
  holds = record { falls = λ i. omega arith; goes = λ i rest other i2 m h alike reached. (i2, refl, alike) };
  fresh = record { way = []; begins = refl; enough = 0; found = a; reads = λ i r m h e f. (i, refl, e) };
}

pub refuse_holds : {A : Type 0} {n c : ℕ} {E : A → Option Kind → Bool} {q : ℕ → Parser A} → Holds n c E refuse q
refuse_holds = record { falls = λ i. omega arith; goes = λ i h. absurd (omega arith) }

took_at : {r s ts us : List Token} (d : Option ℕ) → Alike r s ts us → (t : Token) (vs : List Token) → ts ≡ t ∷ vs → length r ≤ length vs → (l : Input) × (taken us d ≡ Ok (t, l)) × Alike r s vs l.left
took_at d at_it t vs e h = let w = ap length e in absurd (omega arith)
took_at {r = r} {s = s} d (before_it u {ts = xs} {us = ws} alike) t vs e h =
    let l : Input = record { left = ws; doubled = d } in
    let a : u ≡ t = cc in
    let b : xs ≡ vs = cc in
    (l, ap (λ (w : Token). Ok (w, l)) a, subst (λ (z : List Token). Alike r s z ws) b alike)

taken_goes : (n : ℕ) (E : Token → Option Kind → Bool) (i : Input) (ts : List Token) (d : Option ℕ) → i.left ≡ ts → Goes n E i (taken ts d) (λ m. take)
unfolding take
taken_goes n E i [] d e = λ h. let w = ap length e in absurd (omega arith)
taken_goes n E i (t ∷ ts) d e = λ rest other i2 m h alike reached. took_at i2.doubled alike t ts e (reached_least reached)

pub take_holds : {n : ℕ} {E : Token → Option Kind → Bool} → Holds n 1 E take (λ m. take)
unfolding take
take_holds {n = n} {E = E} = record { falls = λ i. falls_less _ _ i (take i) (λ x. omega arith) (take_falls i); goes = λ i. taken_goes n E i i.left i.doubled refl }

pub taken_fresh : (i : Input) (k : Kind) (r : List Token) → i.left ≡ (mark k ∷ []) ++ r → (l : Input) × (take i ≡ Ok (mark k, l)) × (l.left ≡ r)
unfolding take
taken_fresh i k r e = (record { left = r; doubled = i.doubled }, ap (λ (ts : List Token). taken ts i.doubled) e, refl)

pub take_goes : {n : ℕ} {k : Kind} {E : Token → Option Kind → Bool} → Rule n (Some k) E take (λ m. take)
take_goes {k = k} = record { holds = take_holds; fresh = record { way = mark k ∷ []; begins = ([], refl); enough = 0; found = mark k; reads = λ i r m h e f. taken_fresh i k r e } }
