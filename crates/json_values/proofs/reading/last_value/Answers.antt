use Rattle.json_values.proofs.FormSteps.{last_read}
use Rattle.json_values.proofs.reading.last_value.Goals as goal

pub returns-in-Some : goal.returns-in-Some
returns-in-Some c = last_read _ _ (c.in-Some._name, c.in-Some.value) c.in-Some.ensures.items
