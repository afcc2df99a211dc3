-- What is seen of names that borrow from the text.
use Rattle.vcl_code.specs.Names.{Target, Plain, Field, NoTarget, Read, OfTarget, Truth, Backend, NoRead}
use Rattle.vcl_code.specs.declared.names.Target.{Target as TargetHere}
use Rattle.vcl_code.specs.declared.names.Target.TheVariants as target
use Rattle.vcl_code.specs.declared.names.Read.{Read as ReadHere}
use Rattle.vcl_code.specs.declared.names.Read.TheVariants as read

abbrev pub target_seen : TargetHere → Target
target_seen (target.Variable variable) = Plain variable
target_seen (target.Field message name) = Field message name.now
target_seen target.Absent = NoTarget

abbrev pub read_seen : ReadHere → Read
read_seen (read.Target found) = OfTarget (target_seen found)
read_seen (read.Truth truth) = Truth truth
read_seen (read.Backend k) = Backend k
read_seen read.Absent = NoRead
