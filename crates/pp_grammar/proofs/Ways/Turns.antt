-- Statements or items one behind the other, of which one may take the name that begins the next.
use Rattle.std.proofs.Common.{◌≡◌, ℕ, zero, suc, ◌<◌, Bool, true, false, not, if◌then◌else◌, List, [], ◌∷◌, ◌++◌, length, Option, Some, None, Ok, refl, sym, ap, subst, ◌∙◌, add-one, arith}
use Rattle.pp_lexer.specs.declared.kind.Kind.{Kind}
use Rattle.pp_lexer.specs.declared.kind.Kind.TheVariants as k
use Rattle.pp_lexer.specs.Seen.{Token}
use Rattle.pp_tree.specs.declared.definition.Name.{Name}
use Rattle.pp_grammar.proofs.Reader.Input.{Input, Outcome, Parser, and_then, ◌>>=◌, ◌>>◌, pure, refuse, kind, kind_at, peek, eat, turns}
use Rattle.pp_grammar.specs.Kinds.{is_kind, same_kind}
use Rattle.pp_grammar.proofs.Local.Steps.{Falls, one, if_true, eat_falls}
use Rattle.pp_grammar.proofs.Local.Lists.{same_then, same_if}
use Rattle.pp_grammar.proofs.Ways.Steps.{mark, tokens_of, Holds, Fresh, Rule, Meets, bind_holds, fresh_by, fresh_after, after, pure_goes, refuse_holds, begins_first}
use Rattle.pp_grammar.proofs.Ways.NextToken.{peek_none, takes, leaves, test_branch, same_holds, eats, eat_goes}
use Rattle.pp_grammar.proofs.Ways.Lists.{always}
use Rattle.pp_grammar.proofs.Ways.Resources.{ends_statement}
use Rattle.pp_grammar.proofs.Ways.Statements.{pending_ends}

-- how the next one begins, whose name may have been taken
abbrev pub starts : Option Name → Option Kind
starts None = None
starts (Some name) = Some k.OpenBrace

module _ {R F : Type 0} (ends : Option Kind → Bool) (add : F → R → F) (next_of : R → Option Name) where
  abbrev pub behind : (F → Option Name → Parser F) → F → R → Parser F
  behind go found r = eat k.Semicolon >> go (add found r) (next_of r)

  abbrev pub step : Parser R → (Name → Parser R) → (F → Option Name → Parser F) → F → Option Name → Parser F
  step read pend go found None = peek >>= (λ next. if ends next then pure found else (read >>= behind go found))
  step read pend go found (Some name) = pend name >>= behind go found

  -- what `read` gives, and where a name was taken what `pend` gives behind it
  abbrev pub loop : Parser R → (Name → Parser R) → ℕ → F → Option Name → Parser F
  loop read pend zero found p = refuse
  loop read pend (suc n) found p = step read pend (loop read pend n) found p

  abbrev pub on : Parser R → (Name → Parser R) → F → Option Name → Parser F
  on read pend found p i = loop read pend (turns i) found p i

  behind_same : (go other : F → Option Name → Parser F) (found : F) (o : Outcome R) (i : Input) → Falls one i o → ((more : F) (p : Option Name) (j : Input) → length j.left < length i.left → go more p j ≡ other more p j) → and_then o (behind go found) ≡ and_then o (behind other found)
  behind_same go other found o i f h = same_then one i o (behind go found) (behind other found) f
      (λ r j a. same_then if_true j (eat k.Semicolon j) (λ _. go (add found r) (next_of r)) (λ _. other (add found r) (next_of r)) (eat_falls k.Semicolon j) (λ b l c. h (add found r) (next_of r) l (omega arith)))

  step_same : (read : Parser R) (pend : Name → Parser R) (go other : F → Option Name → Parser F) (found : F) (p : Option Name) (i : Input) → ((i : Input) → Falls one i (read i)) → ((name : Name) (i : Input) → Falls one i (pend name i))
      → ((more : F) (p : Option Name) (j : Input) → length j.left < length i.left → go more p j ≡ other more p j) → step read pend go found p i ≡ step read pend other found p i
  step_same read pend go other found None i f g h = same_if (ends (kind i)) (pure found) (pure found) (read >>= behind go found) (read >>= behind other found) i (λ e. refl) (λ e. behind_same go other found (read i) i (f i) h)
  step_same read pend go other found (Some name) i f g h = behind_same go other found (pend name i) i (g name i) h

  loop_turns : (read : Parser R) (pend : Name → Parser R) → ((i : Input) → Falls one i (read i)) → ((name : Name) (i : Input) → Falls one i (pend name i)) → (n m : ℕ) (found : F) (p : Option Name) (i : Input) → length i.left < n → length i.left < m
      → loop read pend n found p i ≡ loop read pend m found p i
  loop_turns read pend f g zero m found p i h l = absurd (omega arith)
  loop_turns read pend f g (suc n) zero found p i h l = absurd (omega arith)
  loop_turns read pend f g (suc n) (suc m) found p i h l = step_same read pend (loop read pend n) (loop read pend m) found p i f g (λ more q j d. loop_turns read pend f g n m more q j (omega arith) (omega arith))

  on_is : (read : Parser R) (pend : Name → Parser R) → ((i : Input) → Falls one i (read i)) → ((name : Name) (i : Input) → Falls one i (pend name i)) → (found : F) (p : Option Name) (i : Input) → step read pend (on read pend) found p i ≡ on read pend found p i
  on_is read pend f g found p i =
      step_same read pend (on read pend) (loop read pend (length i.left)) found p i f g (λ more q j d. loop_turns read pend f g (turns j) (length i.left) more q j (omega arith) (omega arith))
      ∙ sym (ap (λ (t : ℕ). loop read pend t found p i) (add-one (length i.left)))

  module _ (reads : ℕ → Parser R) (pends : ℕ → Name → Parser R) (read_falls : (m : ℕ) (i : Input) → Falls one i (reads m i)) (pend_falls : (m : ℕ) (name : Name) (i : Input) → Falls one i (pends m name i))
      (pend_none : (m : ℕ) (name : Name) (i : Input) (r : R × Input) → pends m name i ≡ Ok r → next_of r.0 ≡ None)
      (sub : (next : Option Kind) → ends next ≡ true → ends_statement next ≡ true) (apart : (next : Option Kind) → ends next ≡ true → not (is_kind k.Semicolon next) ≡ true) where
    pub none_fresh : (found : F) → Fresh None (always ends) (λ m. on (reads m) (pends m) found None)
    unfolding kind
    none_fresh found = record {
      way = [];
      begins = refl;
      enough = 0;
      found = found;
      reads = λ i r m h e x.
          (i, sym (on_is (reads m) (pends m) (read_falls m) (pend_falls m) found None i) ∙ ap (λ (b : Bool). (if b then pure found else (reads m >>= behind (on (reads m) (pends m)) found)) i) (ap (λ (ts : List Token). ends (kind_at ts)) e ∙ x), e);
    }

    fits : (p : Option Name) (more : Bool) → Meets {B = F} (eats k.Semicolon) (starts p) (always ends) more
    unfolding is_kind same_kind
    fits None true = λ b next e. refl
    fits None false = λ b next e. apart next e
    fits (Some name) true = refl
    fits (Some name) false = refl

    alone_fresh : (found : F) (r : R) → next_of r ≡ None → Fresh None (always ends) (λ m. behind (on (reads m) (pends m)) found r)
    alone_fresh found r e = subst (λ (p : Option Name). Fresh None (always ends) (λ m. eat k.Semicolon >> on (reads m) (pends m) (add found r) p)) (sym e) (fresh_after (eat_goes {n = 0} k.Semicolon).fresh (λ _. none_fresh (add found r)) (fits None))

    no_next : {name : Name} → (X : Fresh (Some k.OpenBrace) (λ r. pending_ends (next_of r)) (λ m. pends m name)) → next_of X.found ≡ None
    unfolding kind_at
    no_next {name = name} X = go (next_of X.found) refl
      where
        way_on : (r : List Token) → pending_ends (next_of X.found) (kind_at r) ≡ true → next_of X.found ≡ None
        way_on r e = let t = X.reads (record { left = X.way ++ r; doubled = None }) r X.enough (omega arith) refl e in pend_none X.enough name _ (X.found, t.0) t.1

        go : (x : Option Name) → next_of X.found ≡ x → next_of X.found ≡ None
        go None e = e
        go (Some other) e = way_on (mark k.OpenBrace ∷ []) (ap (λ (p : Option Name). pending_ends p (Some k.OpenBrace)) e)

    some_fresh : (name : Name) → Fresh (Some k.OpenBrace) (λ r. pending_ends (next_of r)) (λ m. pends m name) → (found : F) → Fresh (Some k.OpenBrace) (always ends) (λ m. on (reads m) (pends m) found (Some name))
    some_fresh name X found =
        let e = no_next X in
        let Y = alone_fresh found X.found e in
        let Z = fresh_by (λ r m. behind (on (reads m) (pends m)) found r) X Y (λ r x. meets Y e r x) (Some k.OpenBrace) (begins_first k.OpenBrace X.way Y.way X.begins) in
        subst (λ (q : ℕ → Parser F). Fresh (Some k.OpenBrace) (always ends) q) (λ t m i. on_is (reads m) (pends m) (read_falls m) (pend_falls m) found (Some name) i t) Z
      where
        meets : (Y : Fresh None (always ends) (λ m. behind (on (reads m) (pends m)) found X.found)) → next_of X.found ≡ None → (r : List Token) → ends (kind_at r) ≡ true → pending_ends (next_of X.found) (kind_at (Y.way ++ r)) ≡ true
        meets Y e r x = subst (λ (p : Option Name). pending_ends p (kind_at (Y.way ++ r)) ≡ true) (sym e) (subst (λ (w : List Token). ends_statement (kind_at (w ++ r)) ≡ true) (sym Y.begins) (sub (kind_at r) x))

    read_meets : (r : R) (p : Option Name) → next_of r ≡ p → Meets {B = F} (λ (x : R). pending_ends (next_of x)) (starts p) (always ends) r
    read_meets r None e = λ b next h. ap (λ (p : Option Name). pending_ends p next) e ∙ sub next h
    read_meets r (Some name) e = ap (λ (p : Option Name). pending_ends p (Some k.OpenBrace)) e

    module _ {n : ℕ} {x : Kind} {read : Parser R} {pend : Name → Parser R} (P : Rule n (Some x) (λ r. pending_ends (next_of r)) read reads) (Q : (name : Name) → Rule n (Some k.OpenBrace) (λ r. pending_ends (next_of r)) (pend name) (λ m. pends m name)) where
      any_fresh : (p : Option Name) (found : F) → Fresh (starts p) (always ends) (λ m. on (reads m) (pends m) found p)
      any_fresh None found = none_fresh found
      any_fresh (Some name) found = some_fresh name (Q name).fresh found

      behind_goes : (go : F → Option Name → Parser F) → ((found : F) (p : Option Name) → Rule n (starts p) (always ends) (go found p) (λ m. on (reads m) (pends m) found p)) → (found : F) (r : R)
          → Rule n (starts (next_of r)) (always ends) (behind go found r) (λ m. behind (on (reads m) (pends m)) found r)
      behind_goes go G found r = after (eat_goes k.Semicolon) (λ _. G (add found r) (next_of r)) (fits (next_of r))

      loop_holds : (most : ℕ) (found : F) (p : Option Name) → Holds n (tokens_of (starts p)) (always ends) (loop read pend most found p) (λ m. on (reads m) (pends m) found p)
      loop_holds zero found p = refuse_holds
      loop_holds (suc more) found None = same_holds (λ i. refl) (λ m i. on_is (reads m) (pends m) (read_falls m) (pend_falls m) found None i)
          (peek_none {f = λ next. if ends next then pure found else (read >>= behind (loop read pend more) found)} {g = λ next m. if ends next then pure found else (reads m >>= behind (on (reads m) (pends m)) found)} (pure_goes found)
          (λ next. test_branch (ends next) (leaves refl refl) (takes (bind_holds {s = λ r. starts (next_of r)} 1 P.holds (behind_goes (loop read pend more) (λ xs p. record { holds = loop_holds more xs p; fresh = any_fresh p xs }) found) (λ _. omega arith) (λ r. read_meets r (next_of r) refl))))
          (λ _ next e m. ap (λ (b : Bool). if b then pure found else (reads m >>= behind (on (reads m) (pends m)) found)) e)).holds
      loop_holds (suc more) found (Some name) = same_holds (λ i. refl) (λ m i. on_is (reads m) (pends m) (read_falls m) (pend_falls m) found (Some name) i)
          (bind_holds {s = λ r. starts (next_of r)} 1 (Q name).holds (behind_goes (loop read pend more) (λ xs p. record { holds = loop_holds more xs p; fresh = any_fresh p xs }) found) (λ _. omega arith) (λ r. read_meets r (next_of r) refl))

      pub on_goes : (found : F) → Rule n None (always ends) (on read pend found None) (λ m. on (reads m) (pends m) found None)
      on_goes found = record { holds = record { falls = λ i. (loop_holds (turns i) found None).falls i; goes = λ i. (loop_holds (turns i) found None).goes i }; fresh = none_fresh found }
