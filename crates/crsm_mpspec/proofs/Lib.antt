mod ReceiverLemmas
mod SendLemmas
