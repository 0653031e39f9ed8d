-- The kinds of the native types are kinds.
use Rattle.std.proofs.Common.{◌≡◌, IsTrue, refl, subst, sym}
use Rattle.pp_values.specs.Kinds.{is_kind}
use Rattle.res_core.specs.NativeRows.{row_seen}
use Rattle.res_core.specs.NativeTypes.{row, Row}
use Rattle.res_core.specs.declared.native_table.NativeRow.{NativeRow}
use Rattle.res_core.specs.declared.native_type.NativeType.{NativeType}
use Rattle.res_core.specs.declared.native_type.NativeType.TheVariants as native

pub native_kind : (n : NativeType) → IsTrue (is_kind (row n).kind)
native_kind native.File = refl
native_kind native.Package = refl
native_kind native.Service = refl
native_kind native.User = refl
native_kind native.Group = refl
native_kind native.Host = refl
native_kind native.Cron = refl
native_kind native.Exec = refl
native_kind native.Notify = refl

pub kind_seen : (r : NativeRow) (n : NativeType) → row_seen r ≡ row n → IsTrue (is_kind r.kind.now)
kind_seen r n e = subst (λ (x : Row). IsTrue (is_kind x.kind)) (sym e) (native_kind n)
