-- The table by which lines are found.
use Rattle.std.specs.Prelude.{◌≡◌, ℕ, suc, if◌then◌else◌, List, [], ◌∷◌, ◌++◌, map, Option, None, Some, option_to_list}
use Rattle.std.specs.Prelude.{slice_get}
use Rattle.std.specs.BTreeMap.{BTreeMap, get_by}
use Rattle.std.specs.declared.alloc.Global.{Global}
use Rattle.std.specs.declared.vec.Vec.{Vec}
use Rattle.pp_values.specs.References.{same_reference}
use Rattle.pp_values.specs.declared.reference.Reference.{Reference}
use Rattle.override_rules.specs.Lines.{Line, is_on}
use Rattle.override_rules.specs.Targets.{reference_cmp}
use Rattle.override_rules.specs.declared.target.Target.{Target}

abbrev pub Table : Type 0
Table = BTreeMap Target (Vec ℕ Global)

abbrev pub items_in : Option (Vec ℕ Global) → List ℕ
items_in None = []
items_in (Some v) = v.items

-- the numbers that the table has for a resource
abbrev pub numbers_at : Table → Reference → List ℕ
numbers_at table r = items_in (get_by (λ t. reference_cmp r t.reference) table)

-- one more number for a resource, behind the others; those of other resources stay
abbrev pub Adds : Reference → ℕ → Table → Table → Type 0
Adds target n old new =
    (r : Reference) →
    numbers_at new r ≡ (if same_reference target r then numbers_at old r ++ n ∷ [] else numbers_at old r)

abbrev pub Keeps : Table → Table → Type 0
Keeps old new = (r : Reference) → numbers_at new r ≡ numbers_at old r

-- where among these the lines on a resource stand
unfoldable pub places : Reference → List Line → List ℕ
places r [] = []
places r (l ∷ ls) = (if is_on r l then 0 ∷ [] else []) ++ map suc (places r ls)

-- the table has, for each resource, where the lines on it stand
abbrev pub Finds : Table → List Line → Type 0
Finds table ls = (r : Reference) → numbers_at table r ≡ places r ls

-- the lines at these places
unfoldable pub lines_at : List Line → List ℕ → List Line
lines_at ls [] = []
lines_at ls (n ∷ ns) = option_to_list (slice_get ls n) ++ lines_at ls ns
