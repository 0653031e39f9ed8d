-- What a request asks for.
use Rattle.std.specs.Prelude.{◌≡◌, ◌⊎◌, ℕ, List, Option, refl}
use Rattle.std.proofs.Common.{inl, inr}
use Rattle.std.specs.Coded.{Coded, code_by, coded×, coded⊎, coded_option, coded_ℕ}
use Rattle.pp_values.specs.Datum.{Datum}
use Rattle.pp_values.specs.Codes.{coded_text, coded_datum}

-- a catalog for the node, by these facts or by those that the site lists for it;
-- `seen` is a number of entries of the site's history that whoever asks knows of
pub record Wanted : Type 0 where
  pub node : List ℕ
  pub facts : Option Datum
  pub seen : ℕ

pub data Asked : Type 0 where
  compile : Wanted → Asked
  deactivate : List ℕ → Asked

-- the codes by which a proof tells them apart
abbrev pub coded_wanted : Coded Wanted
coded_wanted =
    code_by (List ℕ × (Option Datum × ℕ)) (coded× coded_text (coded× (coded_option coded_datum) coded_ℕ))
    (λ w. (w.node, (w.facts, w.seen)))
    (λ p. record { node = p.0; facts = p.1.0; seen = p.1.1 }) (λ _. refl)

abbrev cases : Asked → Wanted ⊎ List ℕ
cases (compile w) = inl w
cases (deactivate n) = inr n

abbrev asked : Wanted ⊎ List ℕ → Asked
asked (inl w) = compile w
asked (inr n) = deactivate n

pub asked-cases : (a : Asked) → asked (cases a) ≡ a
asked-cases (compile w) = refl
asked-cases (deactivate n) = refl

abbrev pub coded_asked : Coded Asked
coded_asked = code_by (Wanted ⊎ List ℕ) (coded⊎ coded_wanted coded_text) cases asked asked-cases
