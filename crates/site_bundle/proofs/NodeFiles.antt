-- What `strip_suffix` finds.
use Rattle.std.proofs.Common.{◌≡◌, ℕ, true, false, nat_eq, List, ◌++◌, ◌-◌, length, take, codes, Option, Some, None, option_map, refl, ap, ◌∙◌, sym}
use Rattle.std.proofs.lemmas.Bool.Decides.{Decides-eqb}
use Rattle.std.proofs.lemmas.Slice.Eq.{ends_is}
use Rattle.std.specs.List.{ends_with}
use denote.Ref.{Bor}
use Rattle.std.specs.Option.{MatchOption}
use Rattle.std.specs.Str.Pattern.{FindsTextSuffix, StripsSuffix}
use Rattle.site_bundle.specs.FolderSites.{node_of}

abbrev mark : List ℕ
mark = codes ".json"

has_end : (s front : List ℕ) → s ≡ front ++ mark → ends_with nat_eq s mark ≡ true
has_end s front h = (ends_is Decides-eqb s mark (ends_with nat_eq s mark) refl).1 front h

lacks_end : (s : List ℕ) → FindsTextSuffix mark s None → ends_with nat_eq s mark ≡ false
lacks_end s lacks =
    elim (ends_with nat_eq s mark) as (λ b. ends_with nat_eq s mark ≡ b → b ≡ false) [
      | true ↦ λ e. absurd (lacks (take (length s - 5) s) ((ends_is Decides-eqb s mark (ends_with nat_eq s mark) refl).0 e))
      | false ↦ λ e. refl
    ] refl

none_off : (s : List ℕ) → FindsTextSuffix mark s None → None ≡ node_of s
none_off s lacks = rw (lacks_end s lacks) refl

end_off : (s x : List ℕ) → StripsSuffix (FindsTextSuffix mark) s x → Some x ≡ node_of s
end_off s x (n, found, is, _) =
    rw (has_end s (take (length s - n) s) found.1) (ap Some (is ∙ ap (λ k. take (length s - k) s) found.0))

pub node_of_is : (s : List ℕ) (r : Option (Bor (List ℕ)))
    → MatchOption r (FindsTextSuffix mark s None) (λ x. StripsSuffix (FindsTextSuffix mark) s x.now)
    → option_map (λ t. t.now) r ≡ node_of s
node_of_is s None h = none_off s h
node_of_is s (Some x) h = end_off s x.now h
