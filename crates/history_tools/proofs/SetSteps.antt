-- The sets after entries of a round, by those before it.
use Rattle.std.proofs.Common.{◌≡◌, ℕ, zero, suc, ◌+◌, ◌≤◌, ◌*◌, Bool, true, false, cond, List, [], ◌∷◌, ◌++◌, length, take, drop, Some, refl, sym, ap, ◌∙◌, subst, arith, true≢false}
use Rattle.std.specs.Prelude.{IsSome, ◌||◌}
use Rattle.std.specs.FinMap as fin
use Rattle.std.specs.FinMap.{same_map, slice_cmp-IsAntisymmetric, nat_cmp-IsAntisymmetric}
use Rattle.std.specs.Cmp.Lexicographic.{nat_list_cmp_total}
use Rattle.std.specs.Str.{bytes_eq}
use Rattle.std.proofs.Math.Nat.{suc-mul, mul-le-mul_right}
use Rattle.std.proofs.Math.Seq.{take-length}
use Rattle.std.proofs.lemmas.List.{take-append-le, drop-append-le, length-drop}
use Rattle.list_sums.specs.Counts.{bit}
use Rattle.pp_values.specs.Rising.{has_text}
use Rattle.export_store.specs.Sets.{Sets}
use Rattle.export_store.proofs.SetLemmas.{get-with}
use Rattle.site_core.specs.Each.{Each}
use Rattle.site_core.specs.Events.{Event, opens, publishes, adds}
use Rattle.site_core.specs.Fits.{Listed}
use Rattle.site_core.specs.Sets.{sets_after, sets_from, sets_at}
use Rattle.site_core.proofs.Sets.{sets_at-append}
use Rattle.history_tools.specs.Settles.{published, start, AreAll, Changes}
use Rattle.history_tools.specs.Rounds.{IsPublication}
use Rattle.history_tools.proofs.Names.{text_is}

pub start_next : (nodes : List (List ℕ)) (r : ℕ) → start nodes (r + 1) ≡ start nodes r + length nodes
start_next nodes r =
    let up : r + 1 ≡ suc r = omega arith in
    let more : (r + 1) * length nodes ≡ r * length nodes + length nodes =
    ap (λ m. m * length nodes) up ∙ suc-mul r (length nodes) in
    omega (arith, more)

pub start_le : (nodes : List (List ℕ)) (q r : ℕ) → q ≤ r → start nodes q ≤ start nodes r
start_le nodes q r le = let more : q * length nodes ≤ r * length nodes = mul-le-mul_right (length nodes) le in
    omega (arith, more)

pub sets_are : (a b : Sets) → ((q : List ℕ) → fin.get a q ≡ fin.get b q) → a ≡ b
sets_are a b alike = same_map nat_list_cmp_total (slice_cmp-IsAntisymmetric nat_cmp-IsAntisymmetric) a b alike

-- a node that has a name among these
pub each_named : (P : List ℕ → Type 0) (nodes : List (List ℕ)) (n : List ℕ) → Each P nodes → has_text nodes n ≡
    true → P n
each_named P [] n each has = absurd (true≢false (sym has))
each_named P (m ∷ nodes) n each has =
    elim (bytes_eq n m) as (λ o. bytes_eq n m ≡ o → cond o true (has_text nodes n) ≡ true → P n) [
      | true ↦ λ is so. subst P (sym (text_is n m is)) each.0
      | false ↦ λ is so. each_named P nodes n each.1 so
    ] refl (or_cond (bytes_eq n m) (has_text nodes n) has)
  where
    or_cond : (a b : Bool) → (a || b) ≡ true → cond a true b ≡ true
    or_cond true b so = refl
    or_cond false b so = so

published_first : (n m : List ℕ) (rest : ℕ) → bit (bytes_eq n m) + rest ≡ 0 → bytes_eq n m ≡ false
published_first n m rest none =
    elim (bytes_eq n m) as (λ o. bit o + rest ≡ 0 → o ≡ false) [
      | true ↦ λ is. absurd (omega (arith, is))
      | false ↦ λ is. refl
    ] none

module _ {S : Type 0} where
  pub sets_from-append : (sets : Sets) (xs ys : List (Event S)) →
      sets_from sets (xs ++ ys) ≡ sets_from (sets_from sets xs) ys
  sets_from-append sets [] ys = refl
  sets_from-append sets (x ∷ xs) ys = sets_from-append (sets_after sets x) xs ys

  -- the sets after all entries, by those before the last ones
  pub sets_behind : (before more h : List (Event S)) → before ++ more ≡ h →
      sets_at h (length h) ≡ sets_from (sets_at before (length before)) more
  sets_behind before more h split =
      ap (λ l. sets_from fin.empty l) (take-length h ∙ sym split) ∙ sets_from-append fin.empty before more
      ∙ ap (λ l. sets_from (sets_from fin.empty l) more) (sym (take-length before))

  -- and those before them
  pub sets_before : (before more h : List (Event S)) (k : ℕ) → before ++ more ≡ h → k ≤ length before →
      sets_at h k ≡ sets_at before k
  sets_before before more h k split le = ap (λ l. sets_at l k) (sym split) ∙ sets_at-append before more k le

  -- a node that is not published keeps its set
  pub get_other : (sets : Sets) (es : List (Event S)) (n : List ℕ) → Each IsPublication es → published n es ≡ 0 →
      fin.get (sets_from sets es) n ≡ fin.get sets n
  get_other sets [] n each none = refl
  get_other sets (opens site ∷ es) n each none = absurd each.0
  get_other sets (publishes p ∷ es) n each none =
      let apart = published_first n p.node (published n es) none in
      get_other (sets_after {S = S} sets (publishes p)) es n each.1 (omega (arith, none))
      ∙ get-with sets p.node n p.set ∙ ap (λ o. cond o (Some p.set) (fin.get sets n)) apart
  get_other sets (adds author call what ∷ es) n each none = absurd each.0

  -- and one that is published has one
  pub get_some : (sets : Sets) (es : List (Event S)) (n : List ℕ) → Each IsPublication es → 1 ≤ published n es →
      IsSome (fin.get (sets_from sets es) n)
  get_some sets [] n each some = absurd (omega (arith, some))
  get_some sets (opens site ∷ es) n each some = absurd each.0
  get_some sets (publishes p ∷ es) n each some =
      elim (published n es) as (λ m. published n es ≡ m → IsSome (fin.get (sets_from sets (publishes p ∷ es)) n)) [
        | zero ↦ λ none.
            let here : bytes_eq n p.node ≡ true = is_here (bytes_eq n p.node) (omega (arith, some, none)) in
            subst IsSome (sym (get_other (sets_after {S = S} sets (publishes p)) es n each.1 none
            ∙ get-with sets p.node n p.set
            ∙ ap (λ o. cond o (Some p.set) (fin.get sets n)) here)) refl
        | suc m ↦ λ more. get_some (sets_after {S = S} sets (publishes p)) es n each.1 (omega (arith, more))
      ] refl
    where
      is_here : (o : Bool) → 1 ≤ bit o → o ≡ true
      is_here true one = refl
      is_here false one = absurd (omega (arith, one))
  get_some sets (adds author call what ∷ es) n each some = absurd each.0

  -- where each node of a round has the set that it had, and no other one was published, no set changed
  pub none_changed : (nodes : List (List ℕ)) (sets : Sets) (es : List (Event S)) → Each IsPublication es →
      ((n : List ℕ) → published n es ≡ bit (has_text nodes n)) →
      Each (λ n. fin.get sets n ≡ fin.get (sets_from sets es) n) nodes → sets ≡ sets_from sets es
  none_changed nodes sets es each once same =
      sets_are sets (sets_from sets es) (λ n.
      elim (has_text nodes n) as (λ o. has_text nodes n ≡ o → fin.get sets n ≡ fin.get (sets_from sets es) n) [
        | true ↦ λ has. each_named (λ m. fin.get sets m ≡ fin.get (sets_from sets es) m) nodes n same has
        | false ↦ λ lacks. sym (get_other sets es n each (once n ∙ ap bit lacks))
      ] refl)

  -- a round that was run before the last entries is what it was
  pub changes_before : (listed : Listed S) (site : S) (nodes : List (List ℕ)) (before more h : List (Event S)) (r : ℕ) →
      before ++ more ≡ h → start nodes (r + 1) ≤ length before → Changes listed site nodes before r →
      Changes listed site nodes h r
  changes_before listed site nodes before more h r split le changes =
      let next = start_next nodes r in
      let room : start nodes r ≤ length before = omega (arith, next, le) in
      let left = length-drop (start nodes r) before in
      let es : take (length nodes) (drop (start nodes r) h) ≡ take (length nodes) (drop (start nodes r) before) =
      ap (λ l. take (length nodes) (drop (start nodes r) l)) (sym split)
      ∙ ap (take (length nodes)) (drop-append-le (start nodes r) before more room)
      ∙ take-append-le (length nodes) (drop (start nodes r) before) more (omega (arith, left, next, le)) in
      record {
        all = subst (AreAll listed site nodes (start nodes r)) (sym es) changes.all;
        apart = λ same. changes.apart (sym (sets_before before more h (start nodes r) split room) ∙ same
            ∙ sets_before before more h (start nodes (r + 1)) split le);
      }
