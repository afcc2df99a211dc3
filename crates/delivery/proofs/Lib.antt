mod OpeningFacts
mod ShapeFacts
mod FramingFacts
