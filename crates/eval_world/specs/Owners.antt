-- The owners of the code that a compile evaluates, by number.
use Rattle.std.specs.Prelude.{ℕ, zero, suc, ◌+◌, List, [], ◌∷◌, ◌++◌, length, slice_get, unwrap_or, refl, codes}
use Rattle.std.specs.Prelude.{Option, None, Some}
use Rattle.std.specs.BTreeMap.{insert_entry, is_at}
use Rattle.std.specs.Coded.{Coded, code_by, coded×, coded_ℕ, coded_list}
use Rattle.std.specs.Map.{lookup}
use Rattle.pp_values.specs.Codes.{coded_text}
use Rattle.std.specs.Ordering.{nat_cmp}
use Rattle.pp_values.specs.Rising.{text_cmp}
use Rattle.pp_values.specs.declared.place.TheConstants.{MAIN_MANIFEST}
use Rattle.eval_world.specs.contracts.owner.Owner as owner_contract
use Rattle.eval_world.specs.declared.owner.Owner.{Owner}
use Rattle.eval_world.specs.declared.owners.TheConstants.{INLINE_FILE, MAIN_SOURCE}

-- The main manifest, and the owners of the numbers from 1 on. What stands in top scope has an owner for each file that
-- it stands in, whose number is found by the file. The texts that the code of an owner renders as templates have one
-- owner more, whose number is found by that of the first.
pub record Owners : Type 0 where
  pub main : Owner
  pub others : List Owner
  pub files : List (List ℕ × ℕ)
  pub inlines : List (ℕ × ℕ)

abbrev pub coded_owners : Coded Owners
coded_owners =
    code_by (Owner × (List Owner × (List (List ℕ × ℕ) × List (ℕ × ℕ))))
    (coded× owner_contract.the_row.coded (coded× (coded_list owner_contract.the_row.coded)
    (coded× (coded_list (coded× coded_text coded_ℕ)) (coded_list (coded× coded_ℕ coded_ℕ)))))
    (λ o. (o.main, (o.others, (o.files, o.inlines))))
    (λ p. record { main = p.0; others = p.1.0; files = p.1.1.0; inlines = p.1.1.1 }) (λ _. refl)

-- what stands in no class, define or node: its container is declaration 0, which is `Class[main]`
abbrev pub main_owner : Owner
main_owner = record { file = MAIN_MANIFEST.now; source = MAIN_SOURCE.now; resource = 0; scope = 0 }

abbrev pub main_alone : Owners
main_alone = record { main = main_owner; others = []; files = (MAIN_MANIFEST.now, 0) ∷ []; inlines = [] }

-- a number that no owner has is that of the main manifest
unfoldable pub owner_at : ℕ → Owners → Owner
owner_at zero o = o.main
owner_at (suc n) o = unwrap_or (slice_get o.others n) o.main

abbrev pub with_owner : Owner → Owners → Owners
with_owner owner o = record o { others = o.others ++ owner ∷ [] }

-- ---- what stands in top scope, in any file

-- it is like the main manifest's, but for the file
abbrev pub owner_of_file : List ℕ → Owners → Owner
owner_of_file file o = record (o.main) { file = file }

abbrev pub with_file : List ℕ → Owners → Owners
with_file file o = record {
  main = o.main;
  others = o.others ++ owner_of_file file o ∷ [];
  files = insert_entry text_cmp o.files file (length o.others + 1);
  inlines = o.inlines;
}

abbrev pub numbered : Option ℕ → List ℕ → Owners → ℕ × Owners
numbered (Some n) file o = (n, o)
numbered None file o = (length o.others + 1, with_file file o)

-- the number of the owner of what stands in top scope in this file, and the owners with it
unfoldable pub owner_in : List ℕ → Owners → ℕ × Owners
owner_in file o = numbered (lookup (is_at (text_cmp file)) o.files) file o

-- ---- texts that are rendered as templates

-- the file that their faults name
abbrev pub inline_file : List ℕ
inline_file = INLINE_FILE.now

-- it is like that of the call, but for the file
abbrev pub inline_owner : ℕ → Owners → Owner
inline_owner number o = record (owner_at number o) { file = inline_file }

abbrev pub with_inline : ℕ → Owners → Owners
with_inline number o = record {
  main = o.main;
  others = o.others ++ inline_owner number o ∷ [];
  files = o.files;
  inlines = insert_entry nat_cmp o.inlines number (length o.others + 1);
}

abbrev pub inline_by : Option ℕ → ℕ → Owners → ℕ × Owners
inline_by (Some n) number o = (n, o)
inline_by None number o = (length o.others + 1, with_inline number o)

-- the number of the owner of the texts that the code of this owner renders, and the owners with it
unfoldable pub inline_in : ℕ → Owners → ℕ × Owners
inline_in number o = inline_by (lookup (is_at (nat_cmp number)) o.inlines) number o
