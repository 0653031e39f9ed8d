-- The name in lower case is that of a kind.
use Rattle.std.proofs.Common.{IsTrue, subst, sym}
use Rattle.pp_values.specs.Kinds.{is_kind}
use Rattle.pp_types.proofs.TypeNames.{type_names_kind}
use Rattle.pp_types.proofs.naming.named_kind.Goals as goal

pub new-requires : goal.new-requires
new-requires c =
    subst (λ k. IsTrue (is_kind k)) (sym c.in_ok-normal_name.ensures) (type_names_kind c.args.name.now c.requires)
