-- What the definitions give on worked examples.
use Rattle.std.proofs.Common.{◌≡◌, ℕ, Bool, true, false, List, [], ◌∷◌, None, Some, refl, codes, pos}
use Rattle.pp_values.specs.Datum as d
use Rattle.pp_values.specs.Datum.{Datum, data_of}
use Rattle.res_core.specs.Criteria.{Criterion, all, by_title, by_tag, by_attribute, negation, conjunction, disjunction, criteria_of}
use Rattle.collector_query.specs.Matches.{matches}
use Rattle.collector_query.specs.Needed.{needed_tag}

abbrev text : List ℕ → Datum
text t = d.text t

-- `file { '/etc/Motd': mode => '0644', owner => ['Root', 'admin'], groups => [['a', 'b']], tag => 'dns' }`
abbrev found : Criterion → Bool
found c = matches c (codes "/etc/Motd") (codes "class" ∷ codes "dns" ∷ codes "file" ∷ codes "main" ∷ [])
    ((codes "groups", d.list (data_of (d.list (data_of (text (codes "a") ∷ text (codes "b") ∷ [])) ∷ []))) ∷
    (codes "mode", text (codes "0644")) ∷
    (codes "owner", d.list (data_of (text (codes "Root") ∷ text (codes "admin") ∷ []))) ∷ [])

abbrev some_of : List Criterion → Criterion
some_of cs = disjunction (criteria_of cs)

abbrev each_of : List Criterion → Criterion
each_of cs = conjunction (criteria_of cs)

-- ---- what one test asks for

empty_query : found all ≡ true
empty_query = refl

title_folded : found (by_title (text (codes "/ETC/motd"))) ≡ true
title_folded = refl

other_title : found (by_title (text (codes "/etc/mot"))) ≡ false
other_title = refl

title_that_is_no_text : found (by_title d.undef) ≡ false
title_that_is_no_text = refl

tag_folded : found (by_tag (text (codes "DNS"))) ≡ true
tag_folded = refl

other_tag : found (by_tag (text (codes "dn"))) ≡ false
other_tag = refl

tag_that_is_a_number : found (by_tag (d.int (pos 1))) ≡ false
tag_that_is_a_number = refl

-- also where each text of the list is a tag
tag_that_is_a_list : found (by_tag (d.list (data_of (text (codes "dns") ∷ [])))) ≡ false
tag_that_is_a_list = refl

attribute : found (by_attribute (codes "mode") (text (codes "0644"))) ≡ true
attribute = refl

other_value : found (by_attribute (codes "mode") (text (codes "0600"))) ≡ false
other_value = refl

-- names are compared letter by letter
name_in_other_case : found (by_attribute (codes "Mode") (text (codes "0644"))) ≡ false
name_in_other_case = refl

unset_is_undef : found (by_attribute (codes "content") d.undef) ≡ true
unset_is_undef = refl

set_is_not_undef : found (by_attribute (codes "mode") d.undef) ≡ false
set_is_not_undef = refl

unset_is_no_text : found (by_attribute (codes "content") (text [])) ≡ false
unset_is_no_text = refl

a_member : found (by_attribute (codes "owner") (text (codes "root"))) ≡ true
a_member = refl

last_member : found (by_attribute (codes "owner") (text (codes "ADMIN"))) ≡ true
last_member = refl

no_member : found (by_attribute (codes "owner") (text (codes "bin"))) ≡ false
no_member = refl

-- a list is no member of itself
the_list_itself : found (by_attribute (codes "owner") (d.list (data_of (text (codes "Root") ∷ text (codes "admin") ∷ [])))) ≡ false
the_list_itself = refl

a_list_as_member : found (by_attribute (codes "groups") (d.list (data_of (text (codes "A") ∷ text (codes "b") ∷ [])))) ≡ true
a_list_as_member = refl

-- ---- tests put together

abbrev yes : Criterion
yes = by_tag (text (codes "dns"))

abbrev no : Criterion
no = by_tag (text (codes "web"))

not_this : found (negation yes) ≡ false
not_this = refl

not_that : found (negation no) ≡ true
not_that = refl

-- `content != undef`
unset_is_not_unequal_to_undef : found (negation (by_attribute (codes "content") d.undef)) ≡ false
unset_is_not_unequal_to_undef = refl

-- `owner != 'root'` is false where any member is it
some_member_is : found (negation (by_attribute (codes "owner") (text (codes "root")))) ≡ false
some_member_is = refl

each_of_none : found (each_of []) ≡ true
each_of_none = refl

each_of_one : found (each_of (no ∷ [])) ≡ false
each_of_one = refl

each_of_several : found (each_of (yes ∷ yes ∷ yes ∷ [])) ≡ true
each_of_several = refl

each_but_the_last : found (each_of (yes ∷ yes ∷ no ∷ [])) ≡ false
each_but_the_last = refl

some_of_none : found (some_of []) ≡ false
some_of_none = refl

some_of_one : found (some_of (yes ∷ [])) ≡ true
some_of_one = refl

only_the_last : found (some_of (no ∷ no ∷ yes ∷ [])) ≡ true
only_the_last = refl

none_of_several : found (some_of (no ∷ no ∷ [])) ≡ false
none_of_several = refl

-- `and` binds tighter than `or`: `yes or yes and no`, and what `(yes or yes) and no` would be
and_binds_tighter : found (some_of (yes ∷ each_of (yes ∷ no ∷ []) ∷ [])) ≡ true
and_binds_tighter = refl

parentheses : found (each_of (some_of (yes ∷ yes ∷ []) ∷ no ∷ [])) ≡ false
parentheses = refl

not_of_parentheses : found (negation (each_of (yes ∷ no ∷ []))) ≡ true
not_of_parentheses = refl

-- ---- the tag that a query needs

needed_alone : needed_tag yes ≡ Some (codes "dns")
needed_alone = refl

-- the first with `and` between, also in parentheses
needed_first : needed_tag (each_of (by_title (text (codes "a")) ∷ each_of (yes ∷ []) ∷ no ∷ [])) ≡ Some (codes "dns")
needed_first = refl

needed_nowhere : (needed_tag all ≡ None) × (needed_tag (by_title (text (codes "a"))) ≡ None)
    × (needed_tag (by_attribute (codes "tag") (text (codes "a"))) ≡ None)
needed_nowhere = (refl, refl, refl)

-- what `or` and `!=` match may lack the tag
needed_by_none : (needed_tag (some_of (yes ∷ yes ∷ [])) ≡ None) × (needed_tag (negation yes) ≡ None)
needed_by_none = (refl, refl)

-- a value that is no text is no tag
needed_no_text : needed_tag (by_tag (d.int (pos 1))) ≡ None
needed_no_text = refl
