-- What the functions' proofs cite: cleared tables, the tree words of a text that reads, and CHECK's promise.
mod Clearing
mod TreeWords
mod Promised
