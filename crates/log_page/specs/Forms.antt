-- The forms of logs, as a caller in C names them.
use Rattle.std.specs.Prelude.{Bool, true, false}
use Rattle.can_logs.specs.declared.form.Form.{Form}
use Rattle.can_logs.specs.declared.form.Form.TheVariants.{Candump, Slcan}

-- that of candump, or else that of an adapter
abbrev pub form_of : Bool → Form
form_of true = Candump
form_of false = Slcan
