-- What a call that sets something tells.
use Rattle.std.specs.Prelude.{◌≡◌, Option, Some, None, Result, Ok, Err}
use Rattle.vcl_context.specs.declared.setting.Setting.{Setting}
use Rattle.vcl_context.specs.declared.setting.Setting.TheVariants.{Done, Refused}

-- what was is set to what is due; or nothing is due, and nothing has changed; or memory is wanting, and nothing has changed
abbrev pub Sets : {T E : Type 0} → Result Setting E → T → T → Option T → Type 0
Sets (Ok Done) old new due = due ≡ Some new
Sets (Ok Refused) old new due = (due ≡ None) × (new ≡ old)
Sets (Err e) old new due = new ≡ old
