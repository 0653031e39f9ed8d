-- A reader looks at the next token alone: what it makes of the tokens before a place does not hang on what follows the first
-- token from that place on. Here for the steps that all rules are made of.
use Rattle.std.proofs.Common.{◌≡◌, ℕ, suc, ◌+◌, ◌<◌, ◌≤◌, Bool, true, false, if◌then◌else◌, List, [], ◌∷◌, length, Option, Some, None, Ok, Err, refl, sym, ap, subst, arith}
use Rattle.std.proofs.Math.Decide.{dec_le}
use Rattle.pp_lexer.specs.declared.kind.Kind.{Kind}
use Rattle.pp_lexer.specs.Seen.{Token}
use Rattle.pp_parser.specs.declared.refusal.Refusal.TheVariants as refusals
use Rattle.pp_grammar.proofs.Reader.Input.{Input, Outcome, Parser, and_then, ◌>>=◌, ◌<$>◌, pure, kind_at, kind, line_at, peek, here, refuse, taken, take, sees, expect, expect_any, eat, open_level}
use Rattle.pp_grammar.specs.Kinds.{is_kind}
use Rattle.pp_grammar.specs.Laws.{SameHead}
use Rattle.pp_grammar.proofs.Local.Ahead.{Past}
use Rattle.pp_grammar.specs.Keys.{earlier_line}
use Rattle.pp_grammar.proofs.Reader.Keys.{noting}
use Rattle.pp_tree.specs.declared.expr.Expr.{Expr}
use Rattle.pp_tree.specs.declared.expr.Pair.{Pair}

-- A place, what may stand from it on in two texts, which begin alike there, and whether the second reader may open a level with
-- the token from which so many are left, whatever the first one may, or the same as the first one.
pub record Cut : Type 0 where
  pub rest : List Token
  pub other : List Token
  pub same : SameHead rest other
  pub deeper : ℕ → Bool

-- the same tokens up to the place
pub data Alike (rest other : List Token) : List Token → List Token → Type 0 where
  at_it : Alike rest other rest other
  before_it : (t : Token) {ts us : List Token} → Alike rest other ts us → Alike rest other (t ∷ ts) (t ∷ us)

pub record AlikeAt (c : Cut) (i j : Input) : Type 0 where
  pub left : Alike c.rest c.other i.left j.left
  pub doubled : i.doubled ≡ j.doubled

-- ---- what a reader answers

-- it puts no token back, takes so many at least, and stops at a place in what was left
abbrev pub Falls : {A : Type 0} → (A → ℕ) → Input → Outcome A → Type 0
Falls cost i (Ok p) = length p.1.left + cost p.0 ≤ length i.left
Falls cost i (Err (refusals.Wrong k)) = k ≤ length i.left
Falls cost i (Err (refusals.Deep k)) = k ≤ length i.left
Falls cost i (Err refusals.Memory) = ⊥

-- What the second reader answers where the first one may open no more levels: it goes on past the place, if it may open more.
abbrev pub Deepens : {A : Type 0} → Bool → ℕ → Outcome A → Type 0
Deepens true n o = Past n o
Deepens false n o = o ≡ Err (refusals.Deep n)

-- What the second reader answers where the first one answers so. Behind the place nothing is said.
abbrev pub Follows : {A : Type 0} → Cut → Outcome A → Outcome A → Type 0
Follows c (Ok p) o = length c.rest ≤ length p.1.left → (j : Input) × (o ≡ Ok (p.0, j)) × AlikeAt c p.1 j
Follows c (Err (refusals.Wrong k)) o = length c.rest ≤ k → (n : ℕ) × (o ≡ Err (refusals.Wrong n)) × (n + length c.rest ≡ k + length c.other)
Follows c (Err (refusals.Deep k)) o = length c.rest ≤ k → (n : ℕ) × Deepens (c.deeper k) n o × (n + length c.rest ≡ k + length c.other)
Follows c (Err refusals.Memory) o = ⊥

-- Two readers of one rule, of which the second may open more levels. Where no level is left to the first one, nothing has to be
-- said of what it would read further in.
pub record IsLocal {A : Type 0} (c : Cut) (is_deepest : Bool) (cost : A → ℕ) (p q : Parser A) : Type 0 where
  pub falls : (i : Input) → Falls cost i (p i)
  pub falls_too : (i : Input) → Falls cost i (q i)
  pub follows : is_deepest ≡ false → (i j : Input) → AlikeAt c i j → Follows c (p i) (q j)

-- no token need be taken
abbrev pub any : {A : Type 0} → A → ℕ
any _ = 0

-- one token or more
abbrev pub one : {A : Type 0} → A → ℕ
one _ = 1

-- one token or more where something is given
abbrev pub if_given : {A : Type 0} → Option A → ℕ
if_given None = 0
if_given (Some _) = 1

-- ---- places

pub alike_length : {r s ts us : List Token} → Alike r s ts us → length ts + length s ≡ length us + length r
alike_length at_it = omega arith
alike_length (before_it t h) = let e = alike_length h in omega arith

kinds : (r s : List Token) → SameHead r s → kind_at r ≡ kind_at s
unfolding kind_at
kinds [] [] e = refl
kinds [] (u ∷ s) e = cc
kinds (t ∷ r) [] e = cc
kinds (t ∷ r) (u ∷ s) e = let f : t ≡ u = cc in ap (λ (w : Token). Some w.kind) f

lines : (r s : List Token) → SameHead r s → line_at r ≡ line_at s
unfolding line_at
lines [] [] e = refl
lines [] (u ∷ s) e = cc
lines (t ∷ r) [] e = cc
lines (t ∷ r) (u ∷ s) e = let f : t ≡ u = cc in ap (λ (w : Token). w.line) f

alike_kind : {r s ts us : List Token} → SameHead r s → Alike r s ts us → kind_at ts ≡ kind_at us
unfolding kind_at
alike_kind e at_it = kinds _ _ e
alike_kind e (before_it t h) = refl

alike_line : {r s ts us : List Token} → SameHead r s → Alike r s ts us → line_at ts ≡ line_at us
unfolding line_at
alike_line e at_it = lines _ _ e
alike_line e (before_it t h) = refl

pub same_kind : (c : Cut) (i j : Input) → AlikeAt c i j → kind i ≡ kind j
unfolding kind
same_kind c i j h = alike_kind c.same h.left

pub same_line : (c : Cut) (i j : Input) → AlikeAt c i j → line_at i.left ≡ line_at j.left
same_line c i j h = alike_line c.same h.left

pub same_length : (c : Cut) (i j : Input) → AlikeAt c i j → length i.left + length c.other ≡ length j.left + length c.rest
same_length c i j h = alike_length h.left

-- ---- what falls

pub falls_less : {A : Type 0} (cost less : A → ℕ) (i : Input) (o : Outcome A) → ((x : A) → less x ≤ cost x) → Falls cost i o → Falls less i o
falls_less cost less i (Ok p) h f = let k = h p.0 in omega arith
falls_less cost less i (Err (refusals.Wrong k)) h f = f
falls_less cost less i (Err (refusals.Deep k)) h f = f
falls_less cost less i (Err refusals.Memory) h f = f

-- from further back
pub falls_from : {A : Type 0} (cost more : A → ℕ) (n : ℕ) (i j : Input) (o : Outcome A) → length j.left + n ≤ length i.left → ((x : A) → more x ≤ n + cost x) → Falls cost j o → Falls more i o
falls_from cost more n i j (Ok p) h m f = let k = m p.0 in omega arith
falls_from cost more n i j (Err (refusals.Wrong k)) h m f = omega arith
falls_from cost more n i j (Err (refusals.Deep k)) h m f = omega arith
falls_from cost more n i j (Err refusals.Memory) h m f = f

pub falls_then : {A B : Type 0} (cost : A → ℕ) (n : ℕ) (behind more : B → ℕ) (i : Input) (o : Outcome A) (f : A → Parser B) → Falls cost i o → ((x : A) → n ≤ cost x) → ((x : B) → more x ≤ n + behind x)
    → ((x : A) (j : Input) → Falls behind j (f x j)) → Falls more i (and_then o f)
falls_then cost n behind more i (Ok p) f h least m next = let k = least p.0 in falls_from behind more n i p.1 (f p.0 p.1) (omega arith) m (next p.0 p.1)
falls_then cost n behind more i (Err (refusals.Wrong k)) f h least m next = h
falls_then cost n behind more i (Err (refusals.Deep k)) f h least m next = h
falls_then cost n behind more i (Err refusals.Memory) f h least m next = h

mapped_falls : {A B : Type 0} (cost : A → ℕ) (more : B → ℕ) (i : Input) (o : Outcome A) (f : A → B) → ((x : A) → more (f x) ≤ cost x) → Falls cost i o → Falls more i (and_then o (λ x. pure (f x)))
mapped_falls cost more i (Ok p) f m h = let k = m p.0 in omega arith
mapped_falls cost more i (Err (refusals.Wrong k)) f m h = h
mapped_falls cost more i (Err (refusals.Deep k)) f m h = h
mapped_falls cost more i (Err refusals.Memory) f m h = h

-- what is behind the place stays behind it
pub past_from : {A : Type 0} (cost : A → ℕ) (n : ℕ) (j : Input) (o : Outcome A) → length j.left < n → Falls cost j o → Past n o
past_from cost n j (Ok p) h f = omega arith
past_from cost n j (Err (refusals.Wrong k)) h f = omega arith
past_from cost n j (Err (refusals.Deep k)) h f = omega arith
past_from cost n j (Err refusals.Memory) h f = f

pub past_then : {A B : Type 0} (cost : B → ℕ) (n : ℕ) (o : Outcome A) (f : A → Parser B) → Past n o → ((x : A) (j : Input) → Falls cost j (f x j)) → Past n (and_then o f)
past_then cost n (Ok p) f h next = past_from cost n p.1 (f p.0 p.1) h (next p.0 p.1)
past_then cost n (Err (refusals.Wrong k)) f h next = h
past_then cost n (Err (refusals.Deep k)) f h next = h
past_then cost n (Err refusals.Memory) f h next = h

deepens_then : {A B : Type 0} (cost : B → ℕ) (deeper : Bool) (n : ℕ) (o : Outcome A) (f : A → Parser B) → Deepens deeper n o → ((x : A) (j : Input) → Falls cost j (f x j)) → Deepens deeper n (and_then o f)
deepens_then cost true n o f h next = past_then cost n o f h next
deepens_then cost false n o f h next = ap (λ (x : Outcome _). and_then x f) h

pub follows_behind : {A : Type 0} (c : Cut) (cost : A → ℕ) (j : Input) (o other : Outcome A) → length j.left < length c.rest → Falls cost j o → Follows c o other
follows_behind c cost j (Ok p) other h f = λ k. absurd (omega arith)
follows_behind c cost j (Err (refusals.Wrong k)) other h f = λ m. absurd (omega arith)
follows_behind c cost j (Err (refusals.Deep k)) other h f = λ m. absurd (omega arith)
follows_behind c cost j (Err refusals.Memory) other h f = f

-- ---- one reader behind the other

joined_ok : {A B : Type 0} (c : Cut) (x : A) (i : Input) (other : Outcome A) (f g : A → Parser B) (cost : B → ℕ)
    → Follows c (Ok (x, i)) other → ((x : A) (j : Input) → Falls cost j (f x j)) → ((x : A) (i j : Input) → AlikeAt c i j → Follows c (f x i) (g x j))
    → Dec (length c.rest ≤ length i.left) → Follows c (f x i) (and_then other g)
joined_ok c x i other f g cost h falls next (yes k) = let t = h k in subst (λ (o : Outcome _). Follows c (f x i) (and_then o g)) (sym t.1) (next x i t.0 t.2)
joined_ok c x i other f g cost h falls next (no k) = follows_behind c cost i (f x i) (and_then other g) (omega arith) (falls x i)

pub joined : {A B : Type 0} (c : Cut) (o other : Outcome A) (f g : A → Parser B) (cost more : B → ℕ)
    → Follows c o other → ((x : A) (j : Input) → Falls cost j (f x j)) → ((x : A) (j : Input) → Falls more j (g x j)) → ((x : A) (i j : Input) → AlikeAt c i j → Follows c (f x i) (g x j))
    → Follows c (and_then o f) (and_then other g)
joined c (Ok p) other f g cost more h falls too next = joined_ok c p.0 p.1 other f g cost h falls next (dec_le (length c.rest) (length p.1.left))
joined c (Err (refusals.Wrong k)) other f g cost more h falls too next = λ m. let t = h m in (t.0, ap (λ (o : Outcome _). and_then o g) t.1, t.2)
joined c (Err (refusals.Deep k)) other f g cost more h falls too next = λ m. let t = h m in (t.0, deepens_then more (c.deeper k) t.0 other g t.1 too, t.2)
joined c (Err refusals.Memory) other f g cost more h falls too next = h

-- a reader and what follows it, which take as many tokens together as each of them takes
pub bind_by : {A B : Type 0} {c : Cut} {deepest : Bool} {cost : A → ℕ} {behind : B → ℕ} {p q : Parser A} {f g : A → Parser B} (n : ℕ) (more : B → ℕ)
    → ((x : A) → n ≤ cost x) → ((x : B) → more x ≤ n + behind x)
    → IsLocal c deepest cost p q → ((x : A) → IsLocal c deepest behind (f x) (g x)) → IsLocal c deepest more (p >>= f) (q >>= g)
bind_by {c = c} {cost = cost} {behind = behind} {p = p} {q = q} {f = f} {g = g} n more least m P F = record {
  falls = λ i. falls_then cost n behind more i (p i) f (P.falls i) least m (λ x. (F x).falls);
  falls_too = λ i. falls_then cost n behind more i (q i) g (P.falls_too i) least m (λ x. (F x).falls_too);
  follows = λ s i j h. joined c (p i) (q j) f g behind behind (P.follows s i j h) (λ x. (F x).falls) (λ x. (F x).falls_too) (λ x. (F x).follows s);
}

pub bind_local : {A B : Type 0} {c : Cut} {deepest : Bool} {cost : A → ℕ} {behind : B → ℕ} {p q : Parser A} {f g : A → Parser B}
    → IsLocal c deepest cost p q → ((x : A) → IsLocal c deepest behind (f x) (g x)) → IsLocal c deepest behind (p >>= f) (q >>= g)
bind_local {behind = behind} P F = bind_by 0 behind (λ x. omega arith) (λ x. omega arith) P F

-- the first of the two takes a token
pub first_local : {A B : Type 0} {c : Cut} {deepest : Bool} {p q : Parser A} {f g : A → Parser B}
    → IsLocal c deepest one p q → ((x : A) → IsLocal c deepest any (f x) (g x)) → IsLocal c deepest one (p >>= f) (q >>= g)
first_local P F = bind_by 1 one (λ x. omega arith) (λ x. omega arith) P F

pub less_local : {A : Type 0} {c : Cut} {deepest : Bool} {cost : A → ℕ} {p q : Parser A} (less : A → ℕ) → ((x : A) → less x ≤ cost x) → IsLocal c deepest cost p q → IsLocal c deepest less p q
less_local {cost = cost} {p = p} {q = q} less m P = record {
  falls = λ i. falls_less cost less i (p i) m (P.falls i);
  falls_too = λ i. falls_less cost less i (q i) m (P.falls_too i);
  follows = P.follows;
}

pub loose_local : {A : Type 0} {c : Cut} {deepest : Bool} {cost : A → ℕ} {p q : Parser A} → IsLocal c deepest cost p q → IsLocal c deepest any p q
loose_local P = less_local any (λ x. omega arith) P

at_most_one : {A : Type 0} (x : Option A) → if_given x ≤ 1
at_most_one None = omega arith
at_most_one (Some x) = omega arith

pub given_local : {A : Type 0} {c : Cut} {deepest : Bool} {p q : Parser (Option A)} → IsLocal c deepest one p q → IsLocal c deepest if_given p q
given_local P = less_local if_given at_most_one P

-- ---- the steps

pub pure_by : {A : Type 0} {c : Cut} {deepest : Bool} {cost : A → ℕ} (a : A) → cost a ≡ 0 → IsLocal c deepest cost (pure a) (pure a)
pure_by {cost = cost} a e = record {
  falls = λ i. omega arith;
  falls_too = λ i. omega arith;
  follows = λ s i j h m. (j, refl, h);
}

pub pure_local : {A : Type 0} {c : Cut} {deepest : Bool} (a : A) → IsLocal c deepest any (pure a) (pure a)
pure_local a = pure_by a refl

-- what a reader gives, made into something else
pub map_by : {A B : Type 0} {c : Cut} {deepest : Bool} {cost : A → ℕ} {p q : Parser A} (more : B → ℕ) (f : A → B) → ((x : A) → more (f x) ≤ cost x) → IsLocal c deepest cost p q → IsLocal c deepest more (f <$> p) (f <$> q)
map_by {c = c} {cost = cost} {p = p} {q = q} more f m P = record {
  falls = λ i. mapped_falls cost more i (p i) f m (P.falls i);
  falls_too = λ i. mapped_falls cost more i (q i) f m (P.falls_too i);
  follows = λ s i j h. joined c (p i) (q j) (λ x. pure (f x)) (λ x. pure (f x)) any any (P.follows s i j h) (λ x l. omega arith) (λ x l. omega arith) (λ x l n a b. (n, refl, a));
}

pub none_local : {A : Type 0} {c : Cut} {deepest : Bool} → IsLocal {A = Option A} c deepest if_given (pure None) (pure None)
none_local = pure_by None refl

pub refuse_follows : {A : Type 0} (c : Cut) (i j : Input) → AlikeAt c i j → Follows {A = A} c (refuse i) (refuse j)
refuse_follows c i j h = λ m. let e = same_length c i j h in (length j.left, refl, omega arith)

pub refuse_local : {A : Type 0} {c : Cut} {deepest : Bool} {cost : A → ℕ} → IsLocal c deepest cost refuse refuse
refuse_local {c = c} = record {
  falls = λ i. omega arith;
  falls_too = λ i. omega arith;
  follows = λ s i j h. refuse_follows c i j h;
}

pub peek_local : {A : Type 0} {c : Cut} {deepest : Bool} {cost : A → ℕ} {f g : Option Kind → Parser A} → ((next : Option Kind) → IsLocal c deepest cost (f next) (g next)) → IsLocal c deepest cost (peek >>= f) (peek >>= g)
peek_local {c = c} {f = f} {g = g} F = record {
  falls = λ i. (F (kind i)).falls i;
  falls_too = λ i. (F (kind i)).falls_too i;
  follows = λ s i j h. subst (λ (n : Option Kind). Follows c (f (kind i) i) (g n j)) (same_kind c i j h) ((F (kind i)).follows s i j h);
}

pub here_local : {A : Type 0} {c : Cut} {deepest : Bool} {cost : A → ℕ} {f g : ℕ → Parser A} → ((at : ℕ) → IsLocal c deepest cost (f at) (g at)) → IsLocal c deepest cost (here >>= f) (here >>= g)
here_local {c = c} {f = f} {g = g} F = record {
  falls = λ i. (F (line_at i.left)).falls i;
  falls_too = λ i. (F (line_at i.left)).falls_too i;
  follows = λ s i j h. subst (λ (n : ℕ). Follows c (f (line_at i.left) i) (g n j)) (same_line c i j h) ((F (line_at i.left)).follows s i j h);
}

-- by a test of what was looked at
pub if_local : {A : Type 0} {c : Cut} {deepest : Bool} {cost : A → ℕ} {p q p2 q2 : Parser A} (b : Bool) → IsLocal c deepest cost p q → IsLocal c deepest cost p2 q2 → IsLocal c deepest cost (if b then p else p2) (if b then q else q2)
if_local true P Q = P
if_local false P Q = Q

-- ---- tokens

taken_falls : (ts : List Token) (d e : Option ℕ) → Falls one (record { left = ts; doubled = e }) (taken ts d)
taken_falls [] d e = omega arith
taken_falls (t ∷ ts) d e = omega arith

pub take_falls : (i : Input) → Falls one i (take i)
unfolding take
take_falls i = taken_falls i.left i.doubled i.doubled

taken_at : (c : Cut) (r s : List Token) (d e : Option ℕ) → r ≡ c.rest → s ≡ c.other → SameHead r s → Follows c (taken r d) (taken s e)
taken_at c [] [] d e x y h = λ m. let a : 0 ≡ length c.rest = ap length x in let b : 0 ≡ length c.other = ap length y in (0, refl, omega arith)
taken_at c [] (u ∷ s) d e x y h = cc
taken_at c (t ∷ r) s d e x y h = λ m. let a : suc (length r) ≡ length c.rest = ap length x in absurd (omega arith)

taken_follows : (c : Cut) {ts us : List Token} (d e : Option ℕ) → Alike c.rest c.other ts us → d ≡ e → Follows c (taken ts d) (taken us e)
taken_follows c d e at_it x = taken_at c c.rest c.other d e refl refl c.same
taken_follows c d e (before_it t {ts = ts} {us = us} h) x = λ m. (record { left = us; doubled = e }, refl, record { left = h; doubled = x })

pub take_follows : (c : Cut) (i j : Input) → AlikeAt c i j → Follows c (take i) (take j)
unfolding take
take_follows c i j h = taken_follows c i.doubled j.doubled h.left h.doubled

pub take_local : {c : Cut} {deepest : Bool} → IsLocal c deepest one take take
take_local {c = c} = record {
  falls = take_falls;
  falls_too = take_falls;
  follows = λ s. take_follows c;
}

tested_falls : (b : Bool) (i : Input) → Falls one i (if b then take i else refuse i)
tested_falls true i = take_falls i
tested_falls false i = omega arith

tested_follows : (c : Cut) (b : Bool) (i j : Input) → AlikeAt c i j → Follows c (if b then take i else refuse i) (if b then take j else refuse j)
tested_follows c true i j h = take_follows c i j h
tested_follows c false i j h = refuse_follows c i j h

pub expect_any_local : {c : Cut} {deepest : Bool} (fits : Option Kind → Bool) → IsLocal c deepest one (expect_any fits) (expect_any fits)
unfolding expect_any
expect_any_local {c = c} fits = record {
  falls = λ i. tested_falls (fits (kind i)) i;
  falls_too = λ i. tested_falls (fits (kind i)) i;
  follows = λ s i j h. subst (λ (n : Option Kind). Follows c (if fits (kind i) then take i else refuse i) (if fits n then take j else refuse j)) (same_kind c i j h) (tested_follows c (fits (kind i)) i j h);
}

pub expect_local : {c : Cut} {deepest : Bool} (k : Kind) → IsLocal c deepest one (expect k) (expect k)
unfolding expect expect_any sees
expect_local k = expect_any_local (is_kind k)

-- a token where it came next
abbrev pub if_true : Bool → ℕ
if_true true = 1
if_true false = 0

at_most_one_true : (b : Bool) → if_true b ≤ 1
at_most_one_true true = omega arith
at_most_one_true false = omega arith

eaten_falls : (b : Bool) (i : Input) → Falls if_true i (if b then and_then (take i) (λ _. pure true) else Ok (false, i))
eaten_falls true i = falls_then one 1 any if_true i (take i) (λ _. pure true) (take_falls i) (λ x. omega arith) at_most_one_true (λ x j. omega arith)
eaten_falls false i = omega arith

eaten_follows : (c : Cut) (b : Bool) (i j : Input) → AlikeAt c i j → Follows c (if b then and_then (take i) (λ _. pure true) else Ok (false, i)) (if b then and_then (take j) (λ _. pure true) else Ok (false, j))
eaten_follows c true i j h = joined c (take i) (take j) (λ _. pure true) (λ _. pure true) any any (take_follows c i j h) (λ x l. omega arith) (λ x l. omega arith) (λ x l m a b. (m, refl, a))
eaten_follows c false i j h = λ m. (j, refl, h)

pub eat_falls : (k : Kind) (i : Input) → Falls if_true i (eat k i)
unfolding eat sees
eat_falls k i = eaten_falls (is_kind k (kind i)) i

pub eat_local : {c : Cut} {deepest : Bool} (k : Kind) → IsLocal c deepest if_true (eat k) (eat k)
unfolding eat sees
eat_local {c = c} k = record {
  falls = λ i. eaten_falls (is_kind k (kind i)) i;
  falls_too = λ i. eaten_falls (is_kind k (kind i)) i;
  follows = λ s i j h. subst (λ (n : Option Kind). Follows c (if is_kind k (kind i) then and_then (take i) (λ _. pure true) else Ok (false, i)) (if is_kind k n then and_then (take j) (λ _. pure true) else Ok (false, j))) (same_kind c i j h) (eaten_follows c (is_kind k (kind i)) i j h);
}

pub noting_local : {c : Cut} {deepest : Bool} (keys : List (Pair Expr) → Option ℕ) (pairs : List (Pair Expr)) → IsLocal c deepest any (noting keys pairs) (noting keys pairs)
unfolding noting
noting_local {c = c} keys pairs = record {
  falls = λ i. omega arith;
  falls_too = λ i. omega arith;
  follows = λ s i j h m. (record { left = j.left; doubled = earlier_line j.doubled (keys pairs) }, refl, record { left = h.left; doubled = ap (λ (d : Option ℕ). earlier_line d (keys pairs)) h.doubled });
}

-- ---- levels

abbrev opened : Bool → Bool → Input → Outcome Token
opened sees is_deepest i = if sees then (if is_deepest then Err (refusals.Deep (length i.left)) else take i) else refuse i

opened_falls : (b d : Bool) (i : Input) → Falls one i (opened b d i)
opened_falls true true i = omega arith
opened_falls true false i = take_falls i
opened_falls false d i = omega arith

past_taken : {A : Type 0} (k : Kind) (ts : List Token) (d : Option ℕ) (g : Token → Parser A) → is_kind k (kind_at ts) ≡ true → ((t : Token) (j : Input) → Falls any j (g t j)) → Past (length ts) (and_then (taken ts d) g)
unfolding kind_at is_kind
past_taken k [] d g e falls = cc
past_taken k (t ∷ ts) d g e falls = past_from any (suc (length ts)) (record { left = ts; doubled = d }) (g t (record { left = ts; doubled = d })) (omega arith) (falls t (record { left = ts; doubled = d }))

past_take : {A : Type 0} (k : Kind) (j : Input) (g : Token → Parser A) → is_kind k (kind j) ≡ true → ((t : Token) (l : Input) → Falls any l (g t l)) → Past (length j.left) (and_then (take j) g)
unfolding take kind
past_take k j g e falls = past_taken k j.left j.doubled g e falls

both_deepest : (A : Type 0) (deeper : Bool) (n : ℕ) → (deeper ≡ true → true ≡ false) → Deepens {A = A} deeper n (Err (refusals.Deep n))
both_deepest A true n h = let w = h refl in absurd cc
both_deepest A false n h = refl

one_deepest : {A : Type 0} (deeper : Bool) (n : ℕ) (o : Outcome A) → (deeper ≡ false → true ≡ false) → Past n o → Deepens deeper n o
one_deepest true n o h past = past
one_deepest false n o h past = let w = h refl in absurd cc

opened_follows : {A : Type 0} (c : Cut) (k : Kind) (deepest b x y : Bool) (i j : Input) (f g : Token → Parser A) → b ≡ is_kind k (kind j) → (deepest ≡ true → x ≡ true) → (x ≡ false → y ≡ false)
    → (c.deeper (length i.left) ≡ true → y ≡ false) → (c.deeper (length i.left) ≡ false → x ≡ y) → ((t : Token) → IsLocal c deepest any (f t) (g t)) → AlikeAt c i j → Follows c (and_then (opened b x i) f) (and_then (opened b y j) g)
opened_follows c k d true true true i j f g e shut opens deeper equal F h = λ m. let w = same_length c i j h in (length j.left, both_deepest _ (c.deeper (length i.left)) (length j.left) deeper, omega arith)
opened_follows c k d true true false i j f g e shut opens deeper equal F h =
    λ m. let w = same_length c i j h in (length j.left, one_deepest (c.deeper (length i.left)) (length j.left) (and_then (take j) g) equal (past_take k j g (sym e) (λ t. (F t).falls_too)), omega arith)
opened_follows c k d true false true i j f g e shut opens deeper equal F h = let w = opens refl in cc
opened_follows c k true true false false i j f g e shut opens deeper equal F h = let w = shut refl in cc
opened_follows c k false true false false i j f g e shut opens deeper equal F h = joined c (take i) (take j) f g any any (take_follows c i j h) (λ t. (F t).falls) (λ t. (F t).falls_too) (λ t. (F t).follows refl)
opened_follows c k d false x y i j f g e shut opens deeper equal F h = refuse_follows c i j h

-- What two readers may open: the second one whatever the first one may, and more or the same, as the place says. Where the
-- first one may open nothing at all, it is deepest.
pub record Opening (c : Cut) (deepest : Bool) (x y : Input → Bool) : Type 0 where
  pub shut : deepest ≡ true → (i : Input) → x i ≡ true
  pub opens : (i j : Input) → AlikeAt c i j → x i ≡ false → y j ≡ false
  pub deeper : (i j : Input) → AlikeAt c i j → c.deeper (length i.left) ≡ true → y j ≡ false
  pub equal : (i j : Input) → AlikeAt c i j → c.deeper (length i.left) ≡ false → x i ≡ y j

-- a token that opens a level, and what stands further in, of which something is known where the first reader may open a level
pub open_local : {A : Type 0} {c : Cut} {deepest inner : Bool} {x y : Input → Bool} {f g : Token → Parser A} (k : Kind) → Opening c inner x y
    → ((t : Token) → IsLocal c inner any (f t) (g t)) → IsLocal c deepest one ((λ i. open_level (x i) k i) >>= f) ((λ i. open_level (y i) k i) >>= g)
unfolding open_level sees
open_local {c = c} {inner = inner} {x = x} {y = y} {f = f} {g = g} k O F = record {
  falls = λ i. falls_then one 1 any one i (opened (is_kind k (kind i)) (x i) i) f (opened_falls (is_kind k (kind i)) (x i) i) (λ t. omega arith) (λ t. omega arith) (λ t. (F t).falls);
  falls_too = λ i. falls_then one 1 any one i (opened (is_kind k (kind i)) (y i) i) g (opened_falls (is_kind k (kind i)) (y i) i) (λ t. omega arith) (λ t. omega arith) (λ t. (F t).falls_too);
  follows = λ s i j h. subst (λ (n : Option Kind). Follows c (and_then (opened (is_kind k n) (x i) i) f) (and_then (opened (is_kind k (kind j)) (y j) j) g)) (sym (same_kind c i j h))
      (opened_follows c k inner (is_kind k (kind j)) (x i) (y j) i j f g refl (λ d. O.shut d i) (O.opens i j h) (O.deeper i j h) (O.equal i j h) F h);
}
