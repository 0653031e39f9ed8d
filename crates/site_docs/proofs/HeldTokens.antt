-- The tokens of a resource's members, one after another.
use Rattle.std.proofs.Common.{◌≡◌, ℕ, codes, List, [], ◌∷◌, ◌++◌, append_assoc}
use Rattle.json.specs.Token.{Token, begin_object, end_object, key, string}
use Rattle.serde_json.specs.Data.{Data}
use Rattle.json_documents.specs.Tokens.{data_tokens}
use Rattle.site_docs.specs.CatalogText.{held_object}

pub held_tokens : (start : List Token) (attributes inside tags : Data) (title kind : List ℕ) →
    (((((((((((start ++ begin_object ∷ []) ++ key (codes "attrs") ∷ []) ++ data_tokens attributes) ++
    key (codes "in") ∷ []) ++ data_tokens inside) ++ key (codes "tags") ∷ []) ++ data_tokens tags) ++
    key (codes "title") ∷ []) ++ string title ∷ []) ++ key (codes "type") ∷ []) ++ string kind ∷ []) ++ end_object ∷ []
    ≡ start ++ data_tokens (held_object attributes inside tags title kind)
unfolding held_object
held_tokens start attributes inside tags title kind = simp append_assoc
