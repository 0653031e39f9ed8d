-- The metaparameters: what any resource takes, of whatever kind.
use Rattle.std.specs.Prelude.{ℕ, Bool, false, ◌||◌, ◌==◌, List, [], ◌∷◌, ◌++◌, codes}
use Rattle.pp_values.specs.Rising.{has_text}

-- those whose values name other resources: what comes before or after, and what refreshes what
abbrev pub relation_names : List (List ℕ)
relation_names = codes "before" ∷ codes "require" ∷ codes "notify" ∷ codes "subscribe" ∷ []

abbrev pub metaparameters : List (List ℕ)
metaparameters = relation_names ++ codes "tag" ∷ codes "noop" ∷ codes "loglevel" ∷ []

-- the name begins as one of those does
abbrev pub may_relate : List ℕ → Bool
may_relate [] = false
may_relate (b ∷ bs) = (b == 98) || (b == 114) || (b == 110) || (b == 115)

unfoldable pub is_relation_name : List ℕ → Bool
is_relation_name name = has_text relation_names name

unfoldable pub is_metaparameter : List ℕ → Bool
is_metaparameter name = has_text metaparameters name
