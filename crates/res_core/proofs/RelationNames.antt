-- A name that begins as none of the relation names is none of them.
use Rattle.std.proofs.Common.{◌≡◌, ℕ, Bool, true, false, ◌||◌, ◌&&◌, ◌==◌, List, [], ◌∷◌, refl}
use Rattle.res_core.specs.Metaparameters.{may_relate, is_relation_name}

none_of_four : (p q r s a b c d : Bool) → (p || q || r || s) ≡ false →
    ((p && a) || ((q && b) || ((r && c) || ((s && d) || false)))) ≡ false
none_of_four true q r s a b c d h = absurd cc
none_of_four false true r s a b c d h = absurd cc
none_of_four false false true s a b c d h = absurd cc
none_of_four false false false true a b c d h = absurd cc
none_of_four false false false false a b c d h = refl

pub begins_otherwise : (name : List ℕ) → may_relate name ≡ false → is_relation_name name ≡ false
unfolding is_relation_name
begins_otherwise [] h = refl
begins_otherwise (b ∷ bs) h = none_of_four (b == 98) (b == 114) (b == 110) (b == 115) _ _ _ _ h
