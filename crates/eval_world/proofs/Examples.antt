-- What is written out once in the code, and read in the definitions by its name; and owners by the files of their code.
use Rattle.std.proofs.Common.{◌≡◌, codes, refl}
use Rattle.eval_world.specs.Owners.{Owners, inline_in, main_alone, main_owner, owner_at, owner_in}
use Rattle.eval_world.specs.declared.owner.Owner.{Owner}
use Rattle.eval_world.specs.declared.owners.TheConstants.{INLINE_FILE, MAIN_SOURCE}

-- the source of the main manifest
main_source : MAIN_SOURCE.now ≡ codes "class main"
main_source = refl

-- the file of texts that are rendered as templates
file_of_texts : INLINE_FILE.now ≡ codes "inline_epp"
file_of_texts = refl

-- after something of the file `a` was evaluated in top scope
abbrev with_a : Owners
with_a = (owner_in (codes "a") main_alone).1

abbrev owner_a : Owner
owner_a = record main_owner { file = codes "a" }

-- The main manifest has its owner. Another file gets one, which is found then.
files_owned : (owner_in (codes "manifests/site.pp") main_alone ≡ (0, main_alone))
    × ((owner_in (codes "a") main_alone).0 ≡ 1)
    × (owner_at 1 with_a ≡ owner_a)
    × (owner_in (codes "a") with_a ≡ (1, with_a))
    × ((owner_in (codes "b") with_a).0 ≡ 2)
unfolding owner_in owner_at
files_owned = (refl, refl, refl, refl, refl)

-- a text that the file `a` hands over has an owner of its own, which is found then; and so has one within it
inlines_owned : ((inline_in 1 with_a).0 ≡ 2)
    × (owner_at 2 (inline_in 1 with_a).1 ≡ record owner_a { file = codes "inline_epp" })
    × ((inline_in 1 (inline_in 1 with_a).1).0 ≡ 2)
    × ((inline_in 2 (inline_in 1 with_a).1).0 ≡ 3)
unfolding owner_in inline_in owner_at
inlines_owned = (refl, refl, refl, refl)
