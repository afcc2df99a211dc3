use Rattle.delivery.proofs.ShapeFacts.{finished_shape}
use Rattle.delivery.proofs.FramingFacts.{finished_framed}
use Rattle.delivery.proofs.laws.sent_as_meant.Goals as goal

pub returns-clause-shape : goal.returns-clause-shape
returns-clause-shape c = finished_shape

pub returns-clause-frames : goal.returns-clause-frames
returns-clause-frames c = finished_framed
