-- The parser's function finds the keys that stand twice.
use Rattle.std.proofs.Common.{◌≡◌, ℕ, Bool, ◌||◌, if◌then◌else◌, List, [], ◌∷◌, ◌++◌, Option, Some, None, refl, sym, ap, ◌∙◌}
use Rattle.pp_tree.specs.declared.collector.Test.TheOpen.{Form-F}
use Rattle.pp_tree.specs.declared.expr.Expr.{Expr}
use Rattle.pp_tree.specs.declared.expr.Form.{out-Form}
use Rattle.pp_tree.specs.declared.expr.Pair.{Pair}
use Rattle.pp_tree.specs.Building.{form_of, line_of}
use Rattle.pp_tree.specs.Layers.{FormLayer}
use Rattle.pp_parser.specs.Keys as keys
use Rattle.pp_grammar.specs.Keys as own_keys

-- what a key says, in the words of the grammar
abbrev as_key : Option keys.Written → own_keys.Key
as_key (Some (keys.Written.text said)) = own_keys.Key.word said
as_key (Some (keys.Written.number n)) = own_keys.Key.number n
as_key None = own_keys.Key.other

layer_same : (layer : FormLayer) → own_keys.key_by layer ≡ as_key (keys.written_by layer)
layer_same (Form-F.Text said) = refl
layer_same (Form-F.Name name) = refl
layer_same (Form-F.Number n) = refl
layer_same _ = refl

key_same : (x : Expr) → own_keys.key_of x ≡ as_key (keys.written x)
unfolding own_keys.key_of keys.written
key_same x = layer_same (out-Form (form_of x))

both_same : (a b : Option keys.Written) → own_keys.same_key (as_key a) (as_key b) ≡ keys.same_written a b
unfolding own_keys.same_key keys.same_written
both_same (Some (keys.Written.text a)) (Some (keys.Written.text b)) = refl
both_same (Some (keys.Written.text a)) (Some (keys.Written.number b)) = refl
both_same (Some (keys.Written.text a)) None = refl
both_same (Some (keys.Written.number a)) (Some (keys.Written.text b)) = refl
both_same (Some (keys.Written.number a)) (Some (keys.Written.number b)) = refl
both_same (Some (keys.Written.number a)) None = refl
both_same None b = refl

pair_same : (x y : Expr) → own_keys.same_key (own_keys.key_of y) (own_keys.key_of x) ≡ keys.same_written (keys.written y) (keys.written x)
pair_same x y =
    ap (λ (k : own_keys.Key). own_keys.same_key k (own_keys.key_of x)) (key_same y)
    ∙ ap (λ (k : own_keys.Key). own_keys.same_key (as_key (keys.written y)) k) (key_same x)
    ∙ both_same (keys.written y) (keys.written x)

has_same : (x : Expr) (ps : List (Pair Expr)) → own_keys.has_key (own_keys.key_of x) ps ≡ keys.is_key x ps
unfolding own_keys.has_key keys.is_key
has_same x [] = refl
has_same x (p ∷ ps) =
    ap (λ (t : Bool). t || own_keys.has_key (own_keys.key_of x) ps) (pair_same x p.key)
    ∙ ap (λ (t : Bool). keys.same_written (keys.written p.key) (keys.written x) || t) (has_same x ps)

from_same : (earlier ps : List (Pair Expr)) → own_keys.doubled_from earlier ps ≡ keys.doubled_from earlier ps
unfolding own_keys.doubled_from keys.doubled_from
from_same earlier [] = refl
from_same earlier (p ∷ ps) =
    ap (λ (t : Bool). if t then Some (line_of p.key) else own_keys.doubled_from (earlier ++ p ∷ []) ps) (has_same p.key earlier)
    ∙ ap (λ (r : Option ℕ). if keys.is_key p.key earlier then Some (line_of p.key) else r) (from_same (earlier ++ p ∷ []) ps)

pub keys_same : (pairs : List (Pair Expr)) → keys.doubled_key pairs ≡ own_keys.doubled_key pairs
unfolding own_keys.doubled_key keys.doubled_key
keys_same pairs = sym (from_same [] pairs)
