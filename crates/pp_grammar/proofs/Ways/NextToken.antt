-- Ways through the steps that look at the next token: which rule is read by what comes next, and tokens of some kind.
use Rattle.std.proofs.Common.{◌≡◌, ℕ, zero, suc, ◌+◌, ◌≤◌, Bool, true, false, not, if◌then◌else◌, List, [], ◌∷◌, ◌++◌, length, Option, Some, None, Ok, Err, refl, sym, ap, subst, ◌∙◌, append-nil, arith}
use Rattle.std.proofs.Math.Decide.{dec_le}
use Rattle.pp_lexer.specs.declared.kind.Kind.{Kind}
use Rattle.pp_lexer.specs.Seen.{Token}
use Rattle.pp_parser.specs.declared.refusal.Refusal.TheVariants as refusals
use Rattle.pp_grammar.proofs.Reader.Input.{Input, Outcome, Parser, and_then, ◌>>=◌, ◌<$>◌, pure, kind_at, kind, line_at, peek, here, refuse, take, sees, expect, expect_any, eat, open_level}
use Rattle.pp_grammar.proofs.Reader.Inner.{Inner, opening}
use Rattle.pp_grammar.proofs.Reader.Levels.{within, deepest_to, read_to}
use Rattle.pp_grammar.specs.Kinds.{is_kind}
use Rattle.pp_grammar.specs.Keys.{earlier_line}
use Rattle.pp_grammar.proofs.Reader.Keys.{noting}
use Rattle.pp_tree.specs.declared.expr.Expr.{Expr}
use Rattle.pp_tree.specs.declared.expr.Pair.{Pair}
use Rattle.pp_grammar.proofs.Local.Steps.{Alike, Falls, falls_less, eat_falls, if_true}
use Rattle.pp_grammar.proofs.Ways.Steps.{mark, Begins, tokens_of, Fresh, Goes, Holds, Meets, Rule, ahead_kind, ahead_line, alike_at, alike_least, bind_by, bind_holds, everything, fresh_by, meets_way, pure_goes, reached_by, reached_from, reached_least, refuse_holds, take_goes, take_holds, taken_fresh}

-- ---- by what comes next

-- the same token comes next before the place
pub ahead_goes : {A : Type 0} (n : ℕ) (E : A → Option Kind → Bool) (i : Input) (o : Outcome A) (q q2 : ℕ → Parser A) → ((i2 : Input) (m : ℕ) → kind i ≡ kind i2 → line_at i.left ≡ line_at i2.left → q2 m i2 ≡ q m i2)
    → Falls (λ _. 1) i o → Goes n E i o q → Goes n E i o q2
unfolding kind
ahead_goes n E i (Ok p) q q2 same f K = λ rest other i2 m h alike reached.
    let w = reached_least reached in
    let t = K rest other i2 m h alike reached in
    (t.0, same i2 m (ahead_kind alike (omega arith)) (ahead_line alike (omega arith)) ∙ t.1, t.2)
ahead_goes n E i (Err (refusals.Wrong k)) q q2 same f K = λ h.
    let W = K h in
    record {
      way = W.way;
      enough = W.enough;
      found = W.found;
      reads = λ rest r i2 m more e alike x.
          let t = W.reads rest r i2 m more e alike x in
          (t.0, same i2 m (ahead_kind alike (omega arith)) (ahead_line alike (omega arith)) ∙ t.1, t.2);
    }
ahead_goes n E i (Err (refusals.Deep k)) q q2 same f K = tt
ahead_goes n E i (Err refusals.Memory) q q2 same f K = tt

same_next : {A : Type 0} (g : Option Kind → ℕ → Parser A) (x y : Option Kind) (m : ℕ) (i : Input) → x ≡ y → g y m i ≡ g x m i
same_next g x y m i e = ap (λ (next : Option Kind). g next m i) (sym e)

pub peek_holds : {A : Type 0} {n : ℕ} {E : A → Option Kind → Bool} {f : Option Kind → Parser A} {g : Option Kind → ℕ → Parser A} → ((next : Option Kind) → Holds n 1 E (f next) (g next)) → Holds n 1 E (peek >>= f) (λ m. peek >>= (λ next. g next m))
peek_holds {n = n} {E = E} {f = f} {g = g} F = record {
  falls = λ i. (F (kind i)).falls i;
  goes = λ i. ahead_goes n E i (f (kind i) i) (g (kind i)) (λ m. peek >>= (λ next. g next m)) (λ i2 m e l. same_next g (kind i) (kind i2) m i2 e) ((F (kind i)).falls i) ((F (kind i)).goes i);
}

kind_of : (i : Input) (k : Kind) (way r : List Token) → Begins (Some k) way → i.left ≡ way ++ r → kind i ≡ Some k
unfolding kind kind_at
kind_of i k way r b e = ap kind_at e ∙ ap (λ (w : List Token). kind_at (w ++ r)) b.1

-- a way of one of the cases
pub peek_fresh : {A : Type 0} {E : A → Option Kind → Bool} (k : Kind) (g : Option Kind → ℕ → Parser A) → Fresh (Some k) E (g (Some k)) → Fresh (Some k) E (λ m. peek >>= (λ next. g next m))
peek_fresh k g X = record {
  way = X.way;
  begins = X.begins;
  enough = X.enough;
  found = X.found;
  reads = λ i r m h e f.
      let t = X.reads i r m h e f in
      (t.0, same_next g (Some k) (kind i) m i (sym (kind_of i k X.way r X.begins e)) ∙ t.1, t.2);
}

pub peek_some : {A : Type 0} {n : ℕ} {k : Kind} {E : A → Option Kind → Bool} {f : Option Kind → Parser A} {g : Option Kind → ℕ → Parser A} → ((next : Option Kind) → Holds n 1 E (f next) (g next)) → Fresh (Some k) E (g (Some k)) → Rule n (Some k) E (peek >>= f) (λ m. peek >>= (λ next. g next m))
peek_some {k = k} {g = g} F X = record { holds = peek_holds F; fresh = peek_fresh k g X }

pub here_holds : {A : Type 0} {n : ℕ} {E : A → Option Kind → Bool} {f : ℕ → Parser A} {g : ℕ → ℕ → Parser A} → ((at : ℕ) → Holds n 1 E (f at) (g at)) → Holds n 1 E (here >>= f) (λ m. here >>= (λ at. g at m))
here_holds {n = n} {E = E} {f = f} {g = g} F = record {
  falls = λ i. (F (line_at i.left)).falls i;
  goes = λ i. ahead_goes n E i (f (line_at i.left) i) (g (line_at i.left)) (λ m. here >>= (λ at. g at m)) (λ i2 m e l. ap (λ (at : ℕ). g at m i2) (sym l)) ((F (line_at i.left)).falls i) ((F (line_at i.left)).goes i);
}

line_of : (i : Input) (k : Kind) (way r : List Token) → Begins (Some k) way → i.left ≡ way ++ r → line_at i.left ≡ 1
unfolding line_at
line_of i k way r b e = ap line_at e ∙ ap (λ (w : List Token). line_at (w ++ r)) b.1

pub here_fresh : {A : Type 0} {E : A → Option Kind → Bool} (k : Kind) (g : ℕ → ℕ → Parser A) → Fresh (Some k) E (g 1) → Fresh (Some k) E (λ m. here >>= (λ at. g at m))
here_fresh k g X = record {
  way = X.way;
  begins = X.begins;
  enough = X.enough;
  found = X.found;
  reads = λ i r m h e f.
      let t = X.reads i r m h e f in
      (t.0, ap (λ (at : ℕ). g at m i) (line_of i k X.way r X.begins e) ∙ t.1, t.2);
}

pub here_some : {A : Type 0} {n : ℕ} {k : Kind} {E : A → Option Kind → Bool} {f : ℕ → Parser A} {g : ℕ → ℕ → Parser A} → ((at : ℕ) → Rule n (Some k) E (f at) (g at)) → Rule n (Some k) E (here >>= f) (λ m. here >>= (λ at. g at m))
here_some {k = k} {g = g} F = record { holds = here_holds (λ at. (F at).holds); fresh = here_fresh k g (F 1).fresh }

-- A case takes a token, or is the one that all tokens lead to which end it.
pub data Branch {A : Type 0} (n : ℕ) (E : A → Option Kind → Bool) (p0 : Parser A) (q0 : ℕ → Parser A) (p : Parser A) (q : ℕ → Parser A) : Type 0 where
  takes : Holds n 1 E p q → Branch n E p0 q0 p q
  leaves : p ≡ p0 → q ≡ q0 → Branch n E p0 q0 p q

branch_falls : {A : Type 0} {n : ℕ} {E : A → Option Kind → Bool} {p0 p : Parser A} {q0 q : ℕ → Parser A} (i : Input) → Holds n 0 E p0 q0 → Branch n E p0 q0 p q → Falls (λ _. 0) i (p i)
branch_falls {p = p} i Z (takes H) = falls_less (λ _. 1) (λ _. 0) i (p i) (λ x. omega arith) (H.falls i)
branch_falls {p = p} i Z (leaves e d) = subst (λ (x : Parser _). Falls (λ _. 0) i (x i)) (sym e) (Z.falls i)

default_goes : {A : Type 0} (n : ℕ) (E : A → Option Kind → Bool) (i : Input) (o : Outcome A) (q0 : ℕ → Parser A) (g : Option Kind → ℕ → Parser A) → g (kind i) ≡ q0 → ((a : A) (next : Option Kind) → E a next ≡ true → (m : ℕ) → g next m ≡ q0 m)
    → Falls (λ _. 0) i o → Goes n E i o q0 → Goes n E i o (λ m. peek >>= (λ next. g next m))
unfolding kind
default_goes n E i (Ok p) q0 g z quiet f K = λ rest other i2 m h alike reached.
    let w = reached_least reached in
    let t = K rest other i2 m h alike reached in
    (t.0, ap (λ (x : Parser _). x i2) (here_it rest other i2 m alike (λ e. reached_by reached (omega arith)) (dec_le (suc (length rest)) (length i.left))) ∙ t.1, t.2)
  where
    here_it : (rest other : List Token) (i2 : Input) (m : ℕ) → Alike rest other i.left i2.left → (length i.left ≤ length rest → E p.0 (kind_at other) ≡ true) → Dec (suc (length rest) ≤ length i.left) → g (kind_at i2.left) m ≡ q0 m
    here_it rest other i2 m alike e (yes w) = ap (λ (next : Option Kind). g next m) (sym (ahead_kind alike w)) ∙ ap (λ (x : ℕ → Parser _). x m) z
    here_it rest other i2 m alike e (no w) = let l = alike_least alike in ap (λ (ts : List Token). g (kind_at ts) m) (alike_at alike (omega arith)).1 ∙ quiet p.0 (kind_at other) (e (omega arith)) m
default_goes n E i (Err (refusals.Wrong k)) q0 g z quiet f K = λ h.
    let W = K h in
    record {
      way = W.way;
      enough = W.enough;
      found = W.found;
      reads = λ rest r i2 m more e alike x.
          let t = W.reads rest r i2 m more e alike x in
          (t.0, ap (λ (next : Option Kind). g next m i2) (sym (ahead_kind alike (omega arith))) ∙ ap (λ (x : ℕ → Parser _). x m i2) z ∙ t.1, t.2);
    }
default_goes n E i (Err (refusals.Deep k)) q0 g z quiet f K = tt
default_goes n E i (Err refusals.Memory) q0 g z quiet f K = tt

branch_goes : {A : Type 0} {n : ℕ} {E : A → Option Kind → Bool} {p0 p : Parser A} {q0 : ℕ → Parser A} (i : Input) (g : Option Kind → ℕ → Parser A) → Holds n 0 E p0 q0 → ((a : A) (next : Option Kind) → E a next ≡ true → (m : ℕ) → g next m ≡ q0 m)
    → Branch n E p0 q0 p (g (kind i)) → Goes n E i (p i) (λ m. peek >>= (λ next. g next m))
branch_goes {n = n} {E = E} {p = p} i g Z quiet (takes H) = ahead_goes n E i (p i) (g (kind i)) (λ m. peek >>= (λ next. g next m)) (λ i2 m e l. same_next g (kind i) (kind i2) m i2 e) (H.falls i) (H.goes i)
branch_goes {n = n} {E = E} {p0 = p0} {q0 = q0} i g Z quiet (leaves e d) = subst (λ (x : Parser _). Goes n E i (x i) (λ m. peek >>= (λ next. g next m))) (sym e) (default_goes n E i (p0 i) q0 g d quiet (Z.falls i) (Z.goes i))

pub peek_none : {A : Type 0} {n : ℕ} {E : A → Option Kind → Bool} {p0 : Parser A} {q0 : ℕ → Parser A} {f : Option Kind → Parser A} {g : Option Kind → ℕ → Parser A}
    → Rule n None E p0 q0 → ((next : Option Kind) → Branch n E p0 q0 (f next) (g next)) → ((a : A) (next : Option Kind) → E a next ≡ true → (m : ℕ) → g next m ≡ q0 m) → Rule n None E (peek >>= f) (λ m. peek >>= (λ next. g next m))
unfolding kind
peek_none {E = E} {f = f} {g = g} Z F quiet = record {
  holds = record { falls = λ i. branch_falls i Z.holds (F (kind i)); goes = λ i. branch_goes i g Z.holds quiet (F (kind i)) };
  fresh = record {
    way = [];
    begins = refl;
    enough = Z.fresh.enough;
    found = Z.fresh.found;
    reads = λ i r m h e x.
        let t = Z.fresh.reads i r m h (e ∙ ap (λ (w : List Token). w ++ r) (sym Z.fresh.begins)) x in
        (t.0, ap (λ (y : Parser _). y i) (quiet Z.fresh.found (kind_at i.left) (ap (λ (ts : List Token). E Z.fresh.found (kind_at ts)) e ∙ x) m) ∙ t.1, t.2);
  };
}

-- a test of what was looked at
pub test_holds : {A : Type 0} {n c : ℕ} {E : A → Option Kind → Bool} {p p2 : Parser A} {q q2 : ℕ → Parser A} (b : Bool) → Holds n c E p q → Holds n c E p2 q2 → Holds n c E (if b then p else p2) (λ m. if b then q m else q2 m)
test_holds true P Q = P
test_holds false P Q = Q

pub test_goes : {A : Type 0} {n : ℕ} {s : Option Kind} {E : A → Option Kind → Bool} {p p2 : Parser A} {q q2 : ℕ → Parser A} (b : Bool) → Rule n s E p q → Rule n s E p2 q2 → Rule n s E (if b then p else p2) (λ m. if b then q m else q2 m)
test_goes true P Q = P
test_goes false P Q = Q

pub test_branch : {A : Type 0} {n : ℕ} {E : A → Option Kind → Bool} {p0 p p2 : Parser A} {q0 q q2 : ℕ → Parser A} (b : Bool) → Branch n E p0 q0 p q → Branch n E p0 q0 p2 q2 → Branch n E p0 q0 (if b then p else p2) (λ m. if b then q m else q2 m)
test_branch true P Q = P
test_branch false P Q = Q

-- the same reader in other words
pub same_holds : {A : Type 0} {n c : ℕ} {E : A → Option Kind → Bool} {p p2 : Parser A} {q q2 : ℕ → Parser A} → ((i : Input) → p i ≡ p2 i) → ((m : ℕ) (i : Input) → q m i ≡ q2 m i) → Holds n c E p q → Holds n c E p2 q2
same_holds {n = n} {c = c} {E = E} {p = p} {p2 = p2} {q = q} {q2 = q2} e d H =
    let x : p ≡ p2 = λ t i. e i t in
    let y : q ≡ q2 = λ t m i. d m i t in
    subst (λ (z : ℕ → Parser _). Holds n c E p2 z) y (subst (λ (z : Parser _). Holds n c E z q) x H)

pub same_fresh : {A : Type 0} {s : Option Kind} {E : A → Option Kind → Bool} {q q2 : ℕ → Parser A} → ((m : ℕ) (i : Input) → q m i ≡ q2 m i) → Fresh s E q → Fresh s E q2
same_fresh {s = s} {E = E} {q = q} {q2 = q2} d X = let y : q ≡ q2 = λ t m i. d m i t in subst (λ (z : ℕ → Parser _). Fresh s E z) y X

pub same_rule : {A : Type 0} {n : ℕ} {s : Option Kind} {E : A → Option Kind → Bool} {p p2 : Parser A} {q q2 : ℕ → Parser A} → ((i : Input) → p i ≡ p2 i) → ((m : ℕ) (i : Input) → q m i ≡ q2 m i) → Rule n s E p q → Rule n s E p2 q2
same_rule e d R = record { holds = same_holds e d R.holds; fresh = same_fresh d R.fresh }

-- fewer kinds that may follow
less_goes : {A : Type 0} (n : ℕ) {E F : A → Option Kind → Bool} (i : Input) (o : Outcome A) (q : ℕ → Parser A) → ((a : A) (next : Option Kind) → F a next ≡ true → E a next ≡ true) → Goes n E i o q → Goes n F i o q
less_goes n i (Ok p) q sub K = λ rest other i2 m h alike reached. K rest other i2 m h alike (reached_from rest other p.0 p.1 (reached_least reached) (λ e. sub p.0 (kind_at other) (reached_by reached e)) (dec_le (suc (length rest)) (length p.1.left)))
less_goes n i (Err (refusals.Wrong k)) q sub K = λ h. let W = K h in record { way = W.way; enough = W.enough; found = W.found; reads = λ rest r i2 m more e alike x. W.reads rest r i2 m more e alike (sub W.found (kind_at r) x) }
less_goes n i (Err (refusals.Deep k)) q sub K = tt
less_goes n i (Err refusals.Memory) q sub K = tt

pub less : {A : Type 0} {n : ℕ} {s : Option Kind} {E F : A → Option Kind → Bool} {p : Parser A} {q : ℕ → Parser A} → ((a : A) (next : Option Kind) → F a next ≡ true → E a next ≡ true) → Rule n s E p q → Rule n s F p q
less {n = n} {p = p} {q = q} sub R = record {
  holds = record { falls = R.holds.falls; goes = λ i. less_goes n i (p i) q sub (R.holds.goes i) };
  fresh = record { way = R.fresh.way; begins = R.fresh.begins; enough = R.fresh.enough; found = R.fresh.found; reads = λ i r m h e x. R.fresh.reads i r m h e (sub R.fresh.found (kind_at r) x) };
}

-- a case that takes a token
pub taking : {A : Type 0} {n : ℕ} {k : Kind} {E : A → Option Kind → Bool} {p0 p : Parser A} {q0 q : ℕ → Parser A} → Rule n (Some k) E p q → Branch n E p0 q0 p q
taking R = takes R.holds

-- ---- tokens of some kind

applied : {A : Type 0} (b : Bool) (p q : Parser A) (i : Input) → (if b then p else q) i ≡ (if b then p i else q i)
applied true p q i = refl
applied false p q i = refl

pub expect_any_goes : {n : ℕ} {E : Token → Option Kind → Bool} (fits : Option Kind → Bool) (k : Kind) → fits (Some k) ≡ true → Rule n (Some k) E (expect_any fits) (λ m. expect_any fits)
unfolding expect_any
expect_any_goes {E = E} fits k e = same_rule (λ i. applied (fits (kind i)) take refuse i) (λ m i. applied (fits (kind i)) take refuse i)
    (peek_some (λ next. test_holds (fits next) take_holds (refuse_holds {q = λ m. refuse})) (subst (λ (b : Bool). Fresh (Some k) E (λ m. if b then take else refuse)) (sym e) (take_goes {n = 0}).fresh))

pub expect_goes : {n : ℕ} {E : Token → Option Kind → Bool} (k : Kind) → is_kind k (Some k) ≡ true → Rule n (Some k) E (expect k) (λ m. expect k)
unfolding expect expect_any sees
expect_goes k e = expect_any_goes (is_kind k) k e

-- where the token came next, anything may follow, and else any other
abbrev pub eats : Kind → Bool → Option Kind → Bool
eats k true next = true
eats k false next = not (is_kind k next)

not_so : (b : Bool) → not b ≡ true → b ≡ false
not_so true e = cc
not_so false e = refl

eat_as : (k : Kind) (i : Input) (b : Bool) → is_kind k (kind i) ≡ b → eat k i ≡ (if b then and_then (take i) (λ _. pure true) else Ok (false, i))
unfolding eat sees
eat_as k i b e = ap (λ (x : Bool). if x then and_then (take i) (λ _. pure true) else Ok (false, i)) e

eaten_goes : (n : ℕ) (k : Kind) (i : Input) (b : Bool) → is_kind k (kind i) ≡ b → Goes n (eats k) i (if b then and_then (take i) (λ _. pure true) else Ok (false, i)) (λ m. eat k)
unfolding kind
eaten_goes n k i true e =
    let H : Holds n 1 (eats k) (take >>= (λ _. pure true)) (λ m. take >>= (λ _. pure true)) = bind_holds 1 (take_holds {E = everything}) (λ _. pure_goes true) (λ _. omega arith) (λ _ _ _ _. refl) in
    ahead_goes n (eats k) i (and_then (take i) (λ _. pure true)) (λ m. take >>= (λ _. pure true)) (λ m. eat k) (λ i2 m x l. eat_as k i2 true (ap (is_kind k) (sym x) ∙ e)) (H.falls i) (H.goes i)
eaten_goes n k i false e = λ rest other i2 m h alike reached. (i2, eat_as k i2 false (other_kind rest other i2 alike (λ w. reached_by reached w) (dec_le (suc (length rest)) (length i.left))), alike)
  where
    other_kind : (rest other : List Token) (i2 : Input) → Alike rest other i.left i2.left → (length rest ≡ length i.left → not (is_kind k (kind_at other)) ≡ true) → Dec (suc (length rest) ≤ length i.left) → is_kind k (kind_at i2.left) ≡ false
    other_kind rest other i2 alike w (yes h) = ap (is_kind k) (sym (ahead_kind alike h)) ∙ e
    other_kind rest other i2 alike w (no h) = let l = alike_least alike in let z : length rest ≡ length i.left = omega arith in ap (λ (ts : List Token). is_kind k (kind_at ts)) (alike_at alike z).1 ∙ not_so (is_kind k (kind_at other)) (w z)

pub eat_goes : {n : ℕ} (k : Kind) → Rule n None (eats k) (eat k) (λ m. eat k)
unfolding eat sees kind
eat_goes {n = n} k = record {
  holds = record { falls = λ i. falls_less if_true (λ _. 0) i (eat k i) (λ x. omega arith) (eat_falls k i); goes = λ i. eaten_goes n k i (is_kind k (kind i)) refl };
  fresh = record { way = []; begins = refl; enough = 0; found = false; reads = λ i r m h e x. (i, eat_as k i false (ap (λ (ts : List Token). is_kind k (kind_at ts)) e ∙ not_so (is_kind k (kind_at r)) x), e) };
}

-- a way of the token
pub eat_fresh : (k : Kind) → is_kind k (Some k) ≡ true → Fresh {A = Bool} (Some k) everything (λ m. eat k)
unfolding kind kind_at
eat_fresh k h = record {
  way = mark k ∷ [];
  begins = ([], refl);
  enough = 0;
  found = true;
  reads = λ i r m _ e x.
      let t = taken_fresh i k r e in
      (t.0, eat_as k i true (ap (λ (ts : List Token). is_kind k (kind_at ts)) e ∙ h) ∙ ap (λ (o : Outcome _). and_then o (λ _. pure true)) t.1, t.2);
}

pub noting_goes : {n : ℕ} {E : Unit {0} → Option Kind → Bool} (keys : List (Pair Expr) → Option ℕ) (pairs : List (Pair Expr)) → Rule n None E (noting keys pairs) (λ m. noting keys pairs)
unfolding noting
noting_goes keys pairs = record {
  holds = record { falls = λ i. omega arith; goes = λ i rest other i2 m h alike reached. (record { left = i2.left; doubled = earlier_line i2.doubled (keys pairs) }, refl, alike) };
  fresh = record { way = []; begins = refl; enough = 0; found = tt; reads = λ i r m h e x. (record { left = i.left; doubled = earlier_line i.doubled (keys pairs) }, refl, e) };
}

-- ---- levels

-- the same reader where so many levels may be opened
from_goes : {A : Type 0} (n : ℕ) (E : A → Option Kind → Bool) (i : Input) (o : Outcome A) (q q2 : ℕ → Parser A) → ((m : ℕ) (i : Input) → n ≤ m → q2 m i ≡ q m i) → Goes n E i o q → Goes n E i o q2
from_goes n E i (Ok p) q q2 same K = λ rest other i2 m h alike reached. let t = K rest other i2 m h alike reached in (t.0, same m i2 h ∙ t.1, t.2)
from_goes n E i (Err (refusals.Wrong k)) q q2 same K = λ h. let W = K h in record {
  way = W.way;
  enough = n + W.enough;
  found = W.found;
  reads = λ rest r i2 m more e alike x.
      let t = W.reads rest r i2 m (omega arith) e alike x in
      (t.0, same m i2 (omega arith) ∙ t.1, t.2);
}
from_goes n E i (Err (refusals.Deep k)) q q2 same K = tt
from_goes n E i (Err refusals.Memory) q q2 same K = tt

pub from_holds : {A : Type 0} {n c : ℕ} {E : A → Option Kind → Bool} {p : Parser A} {q q2 : ℕ → Parser A} → ((m : ℕ) (i : Input) → n ≤ m → q2 m i ≡ q m i) → Holds n c E p q → Holds n c E p q2
from_holds {n = n} {E = E} {p = p} {q = q} {q2 = q2} same H = record { falls = H.falls; goes = λ i. from_goes n E i (p i) q q2 same (H.goes i) }

abbrev opens : (Input → Bool) → Parser Token
opens is_deepest = λ i. if is_deepest i then Err (refusals.Deep (length i.left)) else take i

opens_more : (m : ℕ) (i : Input) → 1 ≤ m → opens (within m).is_deepest i ≡ take i
unfolding deepest_to read_to
opens_more zero i h = absurd (omega arith)
opens_more (suc m) i h = refl

opens_holds : {E : Token → Option Kind → Bool} (n : ℕ) → Holds n 1 E (opens (within n).is_deepest) (λ m. opens (within m).is_deepest)
unfolding deepest_to read_to
opens_holds zero = record { falls = λ i. omega arith; goes = λ i. tt }
opens_holds (suc n) = from_holds (λ m i h. opens_more m i (omega arith)) take_holds

opens_fresh : {E : Token → Option Kind → Bool} (k : Kind) → Fresh (Some k) E (λ m. opens (within m).is_deepest)
opens_fresh k = record { way = mark k ∷ []; begins = ([], refl); enough = 1; found = mark k; reads = λ i r m h e x. let t = taken_fresh i k r e in (t.0, opens_more m i h ∙ t.1, t.2) }

opening_as : (inner : Inner) (k : Kind) (i : Input) → (if is_kind k (kind i) then opens inner.is_deepest else refuse) i ≡ opening inner k i
unfolding open_level sees
opening_as inner k i = applied (is_kind k (kind i)) (opens inner.is_deepest) refuse i

-- a token that opens a level
pub opening_goes : {n : ℕ} {E : Token → Option Kind → Bool} (k : Kind) → is_kind k (Some k) ≡ true → Rule n (Some k) E (opening (within n) k) (λ m. opening (within m) k)
opening_goes {n = n} {E = E} k e = same_rule (opening_as (within n) k) (λ m i. opening_as (within m) k i)
    (peek_some (λ next. test_holds (is_kind k next) (opens_holds n) (refuse_holds {q = λ m. refuse})) (subst (λ (b : Bool). Fresh (Some k) E (λ m. if b then opens (within m).is_deepest else refuse)) (sym e) (opens_fresh k)))

-- ---- where what may follow hangs on what was given

-- what is given is made into something else
pub map_goes : {A B : Type 0} {n : ℕ} {s : Option Kind} {E : A → Option Kind → Bool} {F : B → Option Kind → Bool} {p : Parser A} {q : ℕ → Parser A} (f : A → B) → Rule n s E p q → ((a : A) (next : Option Kind) → F (f a) next ≡ true → E a next ≡ true) → Rule n s F (f <$> p) (λ m. f <$> q m)
unfolding pure_goes
map_goes {B = B} {n = n} {s = s} {E = E} {F = F} f P sub = record {
  holds = bind_by {s = λ _. None} (tokens_of s) P.holds (λ a. pure_goes (f a)) (λ a. omega arith) (λ a r x. sub a (kind_at r) x) (λ a j r e z next x. sub a next (subst (λ (b : B). F b next ≡ true) (sym (given (f a) j r e)) x));
  fresh = fresh_by (λ a m. pure (f a)) P.fresh (pure_goes {n = n} (f P.fresh.found)).fresh (λ r x. sub P.fresh.found (kind_at r) x) s (subst (λ (w : List Token). Begins s w) (sym (append-nil P.fresh.way)) P.fresh.begins);
}
  where
    value_or : B → Outcome B → B
    value_or d (Ok r) = r.0
    value_or d (Err e) = d

    given : (b : B) (j : Input) (r : B × Input) → pure b j ≡ Ok r → b ≡ r.0
    given b j r e = ap (value_or b) e

-- A case takes a token, or what it gives without taking any is ended by tokens that lead to the same reader.
pub data Case {A : Type 0} (n : ℕ) (E : A → Option Kind → Bool) (g : Option Kind → ℕ → Parser A) (p : Parser A) (q : ℕ → Parser A) : Type 0 where
  moves : Holds n 1 E p q → Case n E g p q
  stays : Holds n 0 E p q → ((i : Input) (r : A × Input) → p i ≡ Ok r → length r.1.left ≡ length i.left → (next : Option Kind) → E r.0 next ≡ true → (m : ℕ) → g next m ≡ q m) → Case n E g p q

case_falls : {A : Type 0} {n : ℕ} {E : A → Option Kind → Bool} {g : Option Kind → ℕ → Parser A} {p : Parser A} {q : ℕ → Parser A} (i : Input) → Case n E g p q → Falls (λ _. 0) i (p i)
case_falls {p = p} i (moves H) = falls_less (λ _. 1) (λ _. 0) i (p i) (λ x. omega arith) (H.falls i)
case_falls i (stays H quiet) = H.falls i

staying_goes : {A : Type 0} (n : ℕ) (E : A → Option Kind → Bool) (i : Input) (o : Outcome A) (g : Option Kind → ℕ → Parser A) → ((r : A × Input) → o ≡ Ok r → length r.1.left ≡ length i.left → (next : Option Kind) → E r.0 next ≡ true → (m : ℕ) → g next m ≡ g (kind i) m)
    → Falls (λ _. 0) i o → Goes n E i o (g (kind i)) → Goes n E i o (λ m. peek >>= (λ next. g next m))
unfolding kind
staying_goes n E i (Ok p) g quiet f K = λ rest other i2 m h alike reached.
    let w = reached_least reached in
    let t = K rest other i2 m h alike reached in
    (t.0, ap (λ (x : Parser _). x i2) (here_it rest other i2 m alike (λ e. reached_by reached (omega arith)) (λ e. omega arith) (dec_le (suc (length rest)) (length i.left))) ∙ t.1, t.2)
  where
    here_it : (rest other : List Token) (i2 : Input) (m : ℕ) → Alike rest other i.left i2.left → (length i.left ≤ length rest → E p.0 (kind_at other) ≡ true) → (length i.left ≤ length rest → length p.1.left ≡ length i.left) → Dec (suc (length rest) ≤ length i.left) → g (kind_at i2.left) m ≡ g (kind_at i.left) m
    here_it rest other i2 m alike e z (yes w) = ap (λ (next : Option Kind). g next m) (sym (ahead_kind alike w))
    here_it rest other i2 m alike e z (no w) = let l = alike_least alike in ap (λ (ts : List Token). g (kind_at ts) m) (alike_at alike (omega arith)).1 ∙ quiet p refl (z (omega arith)) (kind_at other) (e (omega arith)) m
staying_goes n E i (Err (refusals.Wrong k)) g quiet f K = λ h.
    let W = K h in
    record {
      way = W.way;
      enough = W.enough;
      found = W.found;
      reads = λ rest r i2 m more e alike x.
          let t = W.reads rest r i2 m more e alike x in
          (t.0, ap (λ (next : Option Kind). g next m i2) (sym (ahead_kind alike (omega arith))) ∙ t.1, t.2);
    }
staying_goes n E i (Err (refusals.Deep k)) g quiet f K = tt
staying_goes n E i (Err refusals.Memory) g quiet f K = tt

case_goes : {A : Type 0} {n : ℕ} {E : A → Option Kind → Bool} {p : Parser A} (i : Input) (g : Option Kind → ℕ → Parser A) → Case n E g p (g (kind i)) → Goes n E i (p i) (λ m. peek >>= (λ next. g next m))
case_goes {n = n} {E = E} {p = p} i g (moves H) = ahead_goes n E i (p i) (g (kind i)) (λ m. peek >>= (λ next. g next m)) (λ i2 m e l. same_next g (kind i) (kind i2) m i2 e) (H.falls i) (H.goes i)
case_goes {n = n} {E = E} {p = p} i g (stays H quiet) = staying_goes n E i (p i) g (quiet i) (H.falls i) (H.goes i)

pub cases_holds : {A : Type 0} {n : ℕ} {E : A → Option Kind → Bool} {f : Option Kind → Parser A} {g : Option Kind → ℕ → Parser A} → ((next : Option Kind) → Case n E g (f next) (g next)) → Holds n 0 E (peek >>= f) (λ m. peek >>= (λ next. g next m))
cases_holds {g = g} F = record { falls = λ i. case_falls i (F (kind i)); goes = λ i. case_goes i g (F (kind i)) }

pub peek_cases : {A : Type 0} {n : ℕ} {E : A → Option Kind → Bool} {q0 : ℕ → Parser A} {f : Option Kind → Parser A} {g : Option Kind → ℕ → Parser A}
    → ((next : Option Kind) → Case n E g (f next) (g next)) → (X : Fresh None E q0) → ((next : Option Kind) → E X.found next ≡ true → (m : ℕ) → g next m ≡ q0 m) → Rule n None E (peek >>= f) (λ m. peek >>= (λ next. g next m))
unfolding kind
peek_cases {E = E} {f = f} {g = g} F X quiet = record {
  holds = cases_holds F;
  fresh = record {
    way = [];
    begins = refl;
    enough = X.enough;
    found = X.found;
    reads = λ i r m h e x.
        let t = X.reads i r m h (e ∙ ap (λ (w : List Token). w ++ r) (sym X.begins)) x in
        (t.0, ap (λ (y : Parser _). y i) (quiet (kind_at i.left) (ap (λ (ts : List Token). E X.found (kind_at ts)) e ∙ x) m) ∙ t.1, t.2);
  };
}

abbrev eaten_first : Kind → Bool → Option Kind
eaten_first k true = Some k
eaten_first k false = None

chosen_goes : {A : Type 0} {n : ℕ} {k : Kind} {E : A → Option Kind → Bool} {p p2 : Parser A} {q q2 : ℕ → Parser A} (b : Bool) → Rule n (Some k) E p q → Rule n None E p2 q2 → Rule n (eaten_first k b) E (if b then p else p2) (λ m. if b then q m else q2 m)
chosen_goes true P Q = P
chosen_goes false P Q = Q

-- where it didn't come next
pub eat_none_fresh : {A : Type 0} {F : A → Option Kind → Bool} {q2 : ℕ → Parser A} (k : Kind) (q : ℕ → Parser A) → ((a : A) (next : Option Kind) → F a next ≡ true → not (is_kind k next) ≡ true) → Fresh None F q2 → Fresh None F (λ m. eat k >>= (λ more. if more then q m else q2 m))
unfolding eat_goes
eat_none_fresh {F = F} {q2 = q2} k q apart Y = fresh_by (λ more m. if more then q m else q2 m) (eat_goes {n = 0} k).fresh Y (λ r e. meets_way (eats k) {F = F} None false (λ b next y. apart b next y) Y r e) None Y.begins

-- a way of the case that leads on
pub peek_none_fresh : {A : Type 0} {E : A → Option Kind → Bool} {q0 : ℕ → Parser A} (g : Option Kind → ℕ → Parser A) → (X : Fresh None E q0) → ((next : Option Kind) → E X.found next ≡ true → (m : ℕ) → g next m ≡ q0 m) → Fresh None E (λ m. peek >>= (λ next. g next m))
unfolding kind
peek_none_fresh {E = E} g X quiet = record {
  way = [];
  begins = refl;
  enough = X.enough;
  found = X.found;
  reads = λ i r m h e x.
      let t = X.reads i r m h (e ∙ ap (λ (w : List Token). w ++ r) (sym X.begins)) x in
      (t.0, ap (λ (y : Parser _). y i) (quiet (kind_at i.left) (ap (λ (ts : List Token). E X.found (kind_at ts)) e ∙ x) m) ∙ t.1, t.2);
}

pub pure_fresh : {A : Type 0} {E : A → Option Kind → Bool} (a : A) → Fresh None E (λ m. pure a)
pure_fresh a = (pure_goes {n = 0} a).fresh

pub test_fresh : {A : Type 0} {s : Option Kind} {F : A → Option Kind → Bool} {q q2 : ℕ → Parser A} (b : Bool) → Fresh s F q → Fresh s F q2 → Fresh s F (λ m. if b then q m else q2 m)
test_fresh true X Y = X
test_fresh false X Y = Y

-- where a token came next one reader, else another
pub eat_if : {A : Type 0} {n : ℕ} {x : Kind} {F : A → Option Kind → Bool} {p p2 : Parser A} {q q2 : ℕ → Parser A} (k : Kind) → ((a : A) (next : Option Kind) → F a next ≡ true → not (is_kind k next) ≡ true) → Rule n (Some x) F p q → Rule n None F p2 q2
    → Rule n None F (eat k >>= (λ more. if more then p else p2)) (λ m. eat k >>= (λ more. if more then q m else q2 m))
unfolding eat_goes
eat_if {n = n} {x = x} {F = F} {q = q} {q2 = q2} k apart P Q = record {
  holds = bind_holds {s = eaten_first x} 0 (eat_goes k).holds (λ more. chosen_goes more P Q) (λ a. omega arith) fits;
  fresh = fresh_by (λ more m. if more then q m else q2 m) (eat_goes {n = n} k).fresh Q.fresh (λ r e. meets_way (eats k) {F = F} None false (λ b next y. apart b next y) Q.fresh r e) None Q.fresh.begins;
}
  where
    fits : (more : Bool) → Meets (eats k) (eaten_first x more) F more
    fits true = refl
    fits false = λ b next y. apart b next y
