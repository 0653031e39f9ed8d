-- Where what stands one level further in ends at one place only, a reference does.
use Rattle.std.proofs.Common.{◌≡◌, Bool, true, false, List, Option, sym, ap, subst, ◌∙◌}
use Rattle.pp_lexer.specs.declared.kind.Kind.{Kind}
use Rattle.pp_lexer.specs.declared.kind.Kind.TheVariants as k
use Rattle.pp_lexer.specs.Seen.{Token}
use Rattle.pp_tree.specs.declared.expr.Expr.{Expr}
use Rattle.pp_tree.specs.declared.resource.Reference.{Reference}
use Rattle.pp_parser.specs.declared.inset.Inset.{Inset}
use Rattle.pp_parser.specs.declared.inset.Inset.TheVariants as goal
use Rattle.pp_parser.specs.declared.inset.InsetTree.{InsetTree}
use Rattle.pp_parser.specs.declared.inset.InsetTree.TheVariants as part
use Rattle.pp_grammar.proofs.Reader.Input.{Input, kind}
use Rattle.pp_grammar.specs.Kinds.{is_kind}
use Rattle.pp_grammar.specs.Places.{Phrase, Within, Stands, Separated, SeparatedSome}
use Rattle.pp_grammar.specs.Expressions.{Inner}
use Rattle.pp_grammar.specs.Statements.{IsReference}
use Rattle.pp_grammar.proofs.Sound.Steps.{behind_of_stands, fits_of_stands}

-- What stands one level further in for a goal ends at one place.
pub record EndsOnce (N : Within) : Type 0 where
  pub ends : (g : Inset) (i j l : Input) (p q : InsetTree) → N.reads g i p j → N.reads g i q l → j ≡ l

pub no_both : {b : Bool} → b ≡ true → b ≡ false → ⊥
no_both p q = go (sym p ∙ q)
  where
    go : true ≡ false → ⊥
    go e = absurd cc

-- the same at a place that is equal
stands_at : {fits : Option Kind → Bool} {i : Input} {t : Token} {j l : Input} → i ≡ l → Stands fits i t j → Stands fits l t j
stands_at {fits} {t = t} {j = j} e st = subst (λ (x : Input). Stands fits x t j) e st

module _ {A : Type 0} (ends : Option Kind → Bool) (separator : Kind) (Item : Phrase A) (item : (i j l : Input) (x y : A) → Item i x j → Item i y l → j ≡ l) where
  same_item : (i h j l : Input) (x y : A) → i ≡ h → Item i x j → Item h y l → j ≡ l
  same_item i h j l x y e p q = item i j l x y p (subst (λ (g : Input). Item g y l) (sym e) q)

  mutual
    pub some_ends : (i : Input) (xs : List A) (j : Input) → SeparatedSome ends separator Item i xs j
        → (h : Input) (ys : List A) (l : Input) → i ≡ h → SeparatedSome ends separator Item h ys l → j ≡ l
    some_ends i xs j (SeparatedSome.last _ _ x p c) h ys l e (SeparatedSome.last _ _ y q d) = same_item i h j l x y e p q
    some_ends i xs j (SeparatedSome.last _ _ x p c) h ys l e (SeparatedSome.more _ m n _ y zs t q st r) =
        absurd (no_both (fits_of_stands (stands_at (sym (same_item i h j m x y e p q)) st)) c)
    some_ends i xs j (SeparatedSome.more _ m n _ x zs t p st r) h ys l e (SeparatedSome.last _ _ y q d) =
        absurd (no_both (fits_of_stands (stands_at (same_item i h m l x y e p q) st)) d)
    some_ends i xs j (SeparatedSome.more _ m n _ x us t p st r) h ys l e (SeparatedSome.more _ o g _ y vs u q su v) =
        separated_ends n us j r g vs l (behind_of_stands (stands_at (same_item i h m o x y e p q) st) su) v

    pub separated_ends : (i : Input) (xs : List A) (j : Input) → Separated ends separator Item i xs j
        → (h : Input) (ys : List A) (l : Input) → i ≡ h → Separated ends separator Item h ys l → j ≡ l
    separated_ends i xs j (Separated.none _ c) h ys l e (Separated.none _ d) = e
    separated_ends i xs j (Separated.none _ c) h ys l e (Separated.some _ _ _ d q) = absurd (no_both c (ap (λ (x : Input). ends (kind x)) e ∙ d))
    separated_ends i xs j (Separated.some _ _ _ c p) h ys l e (Separated.none _ d) = absurd (no_both (ap (λ (x : Input). ends (kind x)) e ∙ d) c)
    separated_ends i xs j (Separated.some _ _ _ c p) h ys l e (Separated.some _ _ _ d q) = some_ends i xs j p h ys l e q

pub reference_ends : (N : Within) → EndsOnce N → (i : Input) (r q : Reference Expr) (j l : Input) → IsReference N i r j → IsReference N i q l → j ≡ l
reference_ends N once i r q j l (IsReference.reference _ a b c _ t opener closer xs st o m close) (IsReference.reference _ d e f _ u openers closers ys su os n closed) =
    let e1 : a ≡ d = behind_of_stands st su in
    let e2 : b ≡ e = behind_of_stands (stands_at e1 o.token) os.token in
    let e3 : c ≡ f = some_ends (is_kind k.CloseBracket) k.Comma (Inner N false) (λ g h v x y p s. once.ends (goal.Whole false) g h v (part.Expr x) (part.Expr y) p s) b xs c m e ys f e2 n in
    behind_of_stands (stands_at e3 close) closed
