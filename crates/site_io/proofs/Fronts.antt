-- What `strip_prefix` finds.
use Rattle.std.proofs.Common.{◌≡◌, ℕ, true, false, nat_eq, List, ◌++◌, length, drop, Option, Some, None, option_map, refl, ap, ◌∙◌}
use Rattle.std.proofs.lemmas.Bool.Decides.{Decides-eqb}
use Rattle.std.proofs.lemmas.Slice.Eq.{starts_is}
use Rattle.std.specs.List.{starts_with}
use denote.Ref.{Bor}
use Rattle.std.specs.Option.{MatchOption}
use Rattle.std.specs.Str.Pattern.{LacksTextAt, FindsTextPrefix, StripsPrefix}
use Rattle.site_io.specs.Folders.{after_front}

front_of : (s mark : List ℕ) → starts_with nat_eq s mark ≡ true → s ≡ mark ++ drop (length mark) s
front_of s mark h = (starts_is Decides-eqb s mark (starts_with nat_eq s mark) refl).0 h

has_front : (s mark rest : List ℕ) → s ≡ mark ++ rest → starts_with nat_eq s mark ≡ true
has_front s mark rest h = (starts_is Decides-eqb s mark (starts_with nat_eq s mark) refl).1 rest h

lacks_front : (s mark : List ℕ) → LacksTextAt mark s 0 → starts_with nat_eq s mark ≡ false
lacks_front s mark lacks =
    elim (starts_with nat_eq s mark) as (λ b. starts_with nat_eq s mark ≡ b → b ≡ false) [
      | true ↦ λ e. absurd (lacks (drop (length mark) s) (front_of s mark e))
      | false ↦ λ e. refl
    ] refl

none_off : (s mark : List ℕ) → FindsTextPrefix mark s None → None ≡ after_front mark s
none_off s mark lacks = rw (lacks_front s mark lacks) refl

front_off : (s mark x : List ℕ) → StripsPrefix (FindsTextPrefix mark) s x → Some x ≡ after_front mark s
front_off s mark x (n, found, is, _) =
    rw (has_front s mark (drop n s) found.1) (ap Some (is ∙ ap (λ k. drop k s) found.0))

pub after_front_is : (s mark : List ℕ) (r : Option (Bor (List ℕ)))
    → MatchOption r (FindsTextPrefix mark s None) (λ x. StripsPrefix (FindsTextPrefix mark) s x.now)
    → option_map (λ t. t.now) r ≡ after_front mark s
after_front_is s mark None h = none_off s mark h
after_front_is s mark (Some x) h = front_off s mark x.now h
