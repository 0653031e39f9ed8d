-- What fits a history goes on to do so when the history grows, and fits for whoever had seen less.
use Rattle.std.proofs.Common.{◌≡◌, ℕ, zero, suc, ◌+◌, ◌<◌, ◌≤◌, List, [], ◌∷◌, ◌++◌, length, refl, sym, ap, ◌∙◌, subst, arith}
use Rattle.std.specs.Prelude.{Result, Some, slice_get}
use Rattle.std.proofs.lemmas.List.{length-append}
use Rattle.pp_values.specs.Datum.{Datum}
use Rattle.res_core.specs.declared.export_set.ExportSet.{ExportSet}
use Rattle.res_core.specs.Asked.{Wanted}
use Rattle.site_core.specs.Asked.{Asked, compile, plain}
use Rattle.site_core.specs.Meaning.{Meaning}
use Rattle.site_core.specs.Events.{Event}
use Rattle.site_core.specs.Fits.{Listed, IsFresh, Means, HasNoFacts, IsServed, IsAdded, FitsPlain, FitsSaid, Fits, had, had_said, named, named_said, RepliesStay, RepliesFitForLess}
use Rattle.site_core.specs.Said as t
use Rattle.site_core.specs.Said.{Said, said, kind_of, plain_reply}
use Rattle.site_core.specs.declared.plain.Plain.{Plain}
use Rattle.site_core.specs.declared.plain.PlainKind.{PlainKind}
use Rattle.site_core.specs.declared.plain.PlainKind.TheVariants as kind
use Rattle.site_core.proofs.Sets.{sets_at-append, site_at-append}

module _ {A : Type 0} where
  pub get_grows : (xs more : List A) (k : ℕ) (x : A) → slice_get xs k ≡ Some x → slice_get (xs ++ more) k ≡ Some x
  get_grows [] more k x at = absurd cc
  get_grows (y ∷ xs) more zero x at = at
  get_grows (y ∷ xs) more (suc k) x at = get_grows xs more k x at

  longer : (xs more : List A) (k : ℕ) → k ≤ length xs → k ≤ length (xs ++ more)
  longer xs more k le = let is = length-append xs more in omega (arith, le, is)

  longer_than : (xs more : List A) (k : ℕ) → k < length xs → k < length (xs ++ more)
  longer_than xs more k lt = let is = length-append xs more in omega (arith, lt, is)

  full_still : (xs more : List A) (limit : ℕ) → length (xs ++ more) ≤ limit → length xs ≡ limit →
      length (xs ++ more) ≡ limit
  full_still xs more limit within full = let is = length-append xs more in omega (arith, within, full, is)

-- what a reply to a plain entry says
pub said_plain : {C F : Type 0} (which : PlainKind) (entry : ℕ) →
    said {C = C} {F = F} (plain_reply which entry) ≡ t.added which entry
said_plain kind.Deactivation entry = refl
said_plain kind.Deployment entry = refl
said_plain kind.Filing entry = refl

pub had_plain : (C F : Type 0) (which : PlainKind) (s entry : ℕ) →
    had {C = C} {F = F} s (plain_reply which entry) ≡ entry + 1
had_plain C F which s entry = ap (had_said {C = C} {F = F} s) (said_plain which entry)

pub named_plain : (C F : Type 0) (which : PlainKind) (entry : ℕ) →
    named {C = C} {F = F} (plain_reply which entry) ≡ entry ∷ []
named_plain C F which entry = ap (named_said {C = C} {F = F}) (said_plain which entry)

-- a plain entry that was added is what its reply names
pub fits_plain : {S C F : Type 0} (meaning : Meaning S C F) (listed : Listed S) (h : List (Event S))
    (limit author s : ℕ) (what : Plain S) (entry : ℕ) → s ≤ entry → IsAdded h author what entry →
    Fits meaning listed h limit author s (plain what) (plain_reply (kind_of what) entry)
fits_plain meaning listed h limit author s what entry low is =
    subst (FitsPlain meaning listed h limit author s what) (sym (said_plain (kind_of what) entry)) (refl, low, is)

module _ {S : Type 0} where
  pub fresh_grows : (h more : List (Event S)) (s seen k : ℕ) → IsFresh h s seen k → IsFresh (h ++ more) s seen k
  fresh_grows h more s seen k fresh =
      record { had = fresh.had; told = fresh.told; low = fresh.low; high = longer h more k fresh.high }

  pub fresh_less : (h : List (Event S)) (s less seen k : ℕ) → less ≤ s → IsFresh h s seen k → IsFresh h less seen k
  fresh_less h s less seen k le fresh =
      record { had = omega (arith, le, fresh.had); told = fresh.told; low = fresh.low; high = fresh.high }

module _ {S C F : Type 0} (meaning : Meaning S C F) (listed : Listed S) where
  -- what the first k entries mean stays
  pub means_grows : (h more : List (Event S)) (k : ℕ) (w : Wanted) (facts : Datum)
      (answer : Result (C × ExportSet) F) → k ≤ length h →
      Means meaning listed h k w facts answer → Means meaning listed (h ++ more) k w facts answer
  means_grows h more k w facts answer le m = record {
    site = m.site;
    site_is = site_at-append h more k le ∙ m.site_is;
    facts_are = m.facts_are;
    meant = ap (meaning m.site w.node facts) (sets_at-append h more k le) ∙ m.meant;
  }

  no_facts_grows : (h more : List (Event S)) (k : ℕ) (w : Wanted) → k ≤ length h → HasNoFacts listed h k w →
      HasNoFacts listed (h ++ more) k w
  no_facts_grows h more k w le known =
      record { site = known.site; site_is = site_at-append h more k le ∙ known.site_is; none = known.none }

  served_grows : (h more : List (Event S)) (author : ℕ) (w : Wanted) (entry k : ℕ) (catalog : C) →
      k ≤ length h → IsServed meaning listed h author w entry k catalog →
      IsServed meaning listed (h ++ more) author w entry k catalog
  served_grows h more author w entry k catalog le served = record {
    later = served.later;
    inside = longer_than h more entry served.inside;
    facts = served.facts;
    set = served.set;
    call = served.call;
    means = means_grows h more k w served.facts _ le served.means;
    at = get_grows h more entry _ served.at;
  }

  added_grows : (h more : List (Event S)) (author : ℕ) (what : Plain S) (entry : ℕ) →
      IsAdded h author what entry → IsAdded (h ++ more) author what entry
  added_grows h more author what entry added = record {
    inside = longer_than h more entry added.inside;
    call = added.call;
    at = get_grows h more entry _ added.at;
  }

  said_grows : (h more : List (Event S)) (limit author s : ℕ) (asked : Asked S) (told : Said C F) →
      length (h ++ more) ≤ limit → FitsSaid meaning listed h limit author s asked told →
      FitsSaid meaning listed (h ++ more) limit author s asked told
  said_grows h more limit author s (compile w) (t.served entry k catalog) within (fresh, served) =
      (fresh_grows h more s w.seen k fresh, served_grows h more author w entry k catalog fresh.high served)
  said_grows h more limit author s (compile w) (t.refused k fault) within (fresh, (facts, means)) =
      (fresh_grows h more s w.seen k fresh, (facts, means_grows h more k w facts _ fresh.high means))
  said_grows h more limit author s (compile w) (t.unknown k) within (fresh, known) =
      (fresh_grows h more s w.seen k fresh, no_facts_grows h more k w fresh.high known)
  said_grows h more limit author s (compile w) (t.ahead n) within (had, high, ahead) =
      (had, longer h more n high, ahead)
  said_grows h more limit author s (compile w) (t.full n) within (is, full, (k, facts, made, fresh, means)) = (
    is,
    full_still h more limit within full,
    (k, facts, made, fresh_grows h more s w.seen k fresh, means_grows h more k w facts _ fresh.high means),
  )
  said_grows h more limit author s (compile w) (t.added which entry) within fits = fits
  said_grows h more limit author s (compile w) t.short within fits = fits
  said_grows h more limit author s (plain what) (t.served entry k catalog) within fits = fits
  said_grows h more limit author s (plain what) (t.refused k fault) within fits = fits
  said_grows h more limit author s (plain what) (t.unknown k) within fits = fits
  said_grows h more limit author s (plain what) (t.ahead n) within fits = fits
  said_grows h more limit author s (plain what) (t.full n) within (is, full) =
      (is, full_still h more limit within full)
  said_grows h more limit author s (plain what) (t.added which entry) within (is, had, added) =
      (is, had, added_grows h more author what entry added)
  said_grows h more limit author s (plain what) t.short within fits = fits

  pub fits_grows : RepliesStay meaning listed
  fits_grows h more limit author s asked reply within fits =
      said_grows h more limit author s asked (said reply) within fits

  said_less : (h : List (Event S)) (limit author s less : ℕ) (asked : Asked S) (told : Said C F) → less ≤ s →
      FitsSaid meaning listed h limit author s asked told → FitsSaid meaning listed h limit author less asked told
  said_less h limit author s less (compile w) (t.served entry k catalog) le (fresh, served) =
      (fresh_less h s less w.seen k le fresh, served)
  said_less h limit author s less (compile w) (t.refused k fault) le (fresh, means) =
      (fresh_less h s less w.seen k le fresh, means)
  said_less h limit author s less (compile w) (t.unknown k) le (fresh, known) =
      (fresh_less h s less w.seen k le fresh, known)
  said_less h limit author s less (compile w) (t.ahead n) le (had, high, ahead) =
      (omega (arith, le, had), high, ahead)
  said_less h limit author s less (compile w) (t.full n) le (is, full, (k, facts, made, fresh, means)) =
      (is, full, (k, facts, made, fresh_less h s less w.seen k le fresh, means))
  said_less h limit author s less (compile w) (t.added which entry) le fits = fits
  said_less h limit author s less (compile w) t.short le fits = fits
  said_less h limit author s less (plain what) (t.served entry k catalog) le fits = fits
  said_less h limit author s less (plain what) (t.refused k fault) le fits = fits
  said_less h limit author s less (plain what) (t.unknown k) le fits = fits
  said_less h limit author s less (plain what) (t.ahead n) le fits = fits
  said_less h limit author s less (plain what) (t.full n) le fits = fits
  said_less h limit author s less (plain what) (t.added which entry) le (is, had, added) =
      (is, omega (arith, le, had), added)
  said_less h limit author s less (plain what) t.short le fits = fits

  pub fits_less : RepliesFitForLess meaning listed
  fits_less h limit author s less asked reply le fits = said_less h limit author s less asked (said reply) le fits
