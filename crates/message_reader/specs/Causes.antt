-- What a refusal of a head or a body is as the cause of a stop.
use Rattle.http_bodies.specs.declared.framing.BodyError.{BodyError}
use Rattle.http_bodies.specs.declared.framing.BodyError.TheVariants as bodies
use Rattle.http_heads.specs.declared.message.HeadError.{HeadError}
use Rattle.http_heads.specs.declared.message.HeadError.TheVariants as heads
use Rattle.message_reader.specs.declared.stop.Stop.{Stop}
use Rattle.message_reader.specs.declared.stop.Stop.TheVariants.{Early, BadHead, BadBody, TooLarge, NoMemory}

abbrev pub head_stop : HeadError → Stop
head_stop heads.Bad = BadHead
head_stop heads.TooLong = BadHead
head_stop heads.TooMany = BadHead
head_stop heads.NoMemory = NoMemory

abbrev pub body_stop : BodyError → Stop
body_stop bodies.BadLength = BadBody
body_stop bodies.TwoFramings = BadBody
body_stop bodies.BadChunk = BadBody
body_stop bodies.TooLarge = TooLarge
body_stop bodies.Early = Early
body_stop bodies.NoMemory = NoMemory
