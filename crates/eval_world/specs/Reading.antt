-- A template that was read, wherever its tree lies.
use Rattle.std.specs.Prelude.{◌≡◌, Result, Ok, Err}
use Rattle.pp_tree.specs.declared.template.Template.{Template}
use Rattle.pp_values.specs.Answers.{IsRefused, fault_told}
use Rattle.pp_values.specs.declared.fault.Fault.{Fault}
use Rattle.pp_values.specs.declared.fault.Stop.{Stop}
use Rattle.eval_world.specs.declared.read_template.ReadTemplate.{ReadTemplate}
use Rattle.eval_world.specs.declared.read_template.ReadTemplate.TheVariants as read

-- its tree
abbrev pub template_read : ReadTemplate → Template
template_read (read.Kept t) = t.now
template_read (read.New t) = t

-- what is read is exactly what is meant, unless memory ran out
abbrev pub Reads : Result ReadTemplate Stop → Result Template Fault → Type 0
Reads (Ok r) meant = meant ≡ Ok (template_read r)
Reads (Err e) meant = IsRefused (fault_told e) meant
