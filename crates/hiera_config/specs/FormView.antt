-- What the code says of a form.
use Rattle.hiera_config.specs.declared.forms.Form.{Form}
use Rattle.hiera_config.specs.declared.forms.Form.TheVariants as v
use Rattle.hiera_config.specs.Pieces as f

abbrev pub form_view : Form → f.Form
form_view (v.Variable t) = f.variable t.now
form_view (v.LookedUp t) = f.looked_up t.now
form_view (v.Said t) = f.said t.now
form_view (v.Alias t) = f.alias t.now
form_view v.Unlawful = f.unlawful
