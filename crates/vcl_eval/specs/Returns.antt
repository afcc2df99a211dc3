-- What the words of return come to, with their values. `Some None` ends the run as `fail`; None is for what no sound text has.
use Rattle.std.specs.Prelude.{ℕ, ℤ, pos, ◌&&◌, List, Option, Some, None, option_and_then, if◌then◌else◌}
use Rattle.vcl_values.specs.declared.value.Value.{Value}
use Rattle.vcl_values.specs.declared.value.Value.TheVariants as value
use Rattle.vcl_context.specs.Carried.{is_status, is_reason}
use Rattle.vcl_code.specs.declared.node.ReturnWord.{ReturnWord}
use Rattle.vcl_code.specs.declared.node.ReturnWord.TheVariants as word
use Rattle.vcl_context.specs.declared.turn.Return.{Return}
use Rattle.vcl_context.specs.declared.turn.Return.TheVariants as ending
use Rattle.vcl_operands.specs.Values.{as_text}
use Rattle.vcl_context.specs.Reasons.{reason_or_unknown}

-- a status from 200 to 999, and a reason that the line carries
abbrev pub answered : (ℤ → List ℕ → Return) → ℤ → List ℕ → Option Return
answered make status reason = if is_status status && is_reason reason then Some (make status reason) else None

-- a word alone; `error` alone is error(503), and `synth` has a status always
abbrev pub plain : ReturnWord → Option (Option Return)
plain word.Hash = Some (Some ending.Hash)
plain word.Pass = Some (Some ending.Pass)
plain word.Purge = Some (Some ending.Purge)
plain word.Restart = Some (Some ending.Restart)
plain word.Lookup = Some (Some ending.Lookup)
plain word.Deliver = Some (Some ending.Deliver)
plain word.Fetch = Some (Some ending.Fetch)
plain word.Abandon = Some (Some ending.Abandon)
plain word.Retry = Some (Some ending.Retry)
plain word.Ok = Some (Some ending.Ok)
plain word.Error = Some (answered ending.Error (pos 503) (reason_or_unknown (pos 503)))
plain word.Fail = Some None
plain word.Synth = None

-- with one value: a status whose reason goes with it, or the time of `pass`
abbrev pub with_one : ReturnWord → Value → Option (Option Return)
with_one word.Synth (value.Int status) = Some (answered ending.Synth status (reason_or_unknown status))
with_one word.Error (value.Int status) = Some (answered ending.Error status (reason_or_unknown status))
with_one word.Pass (value.Duration time) = Some (Some (ending.PassFor time))
with_one _ v = None

-- with a status and a reason
abbrev pub with_two : ReturnWord → Value → Value → Option (Option Return)
with_two word.Synth (value.Int status) reason = Some (option_and_then (answered ending.Synth status) (as_text reason))
with_two word.Error (value.Int status) reason = Some (option_and_then (answered ending.Error status) (as_text reason))
with_two _ status reason = None
