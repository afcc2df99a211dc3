mod AskedFacts
mod HostFacts
mod ReceivedFacts
