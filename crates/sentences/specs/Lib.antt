-- A constant never changes, an address is never paid out, nothing carries over: what is claimed, and proved in proofs/Claims.antt.
pub mod Sentences
