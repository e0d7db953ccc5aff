-- What the proofs of several functions cite.
mod Laws
mod Told
