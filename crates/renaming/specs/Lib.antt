-- Trees that agree, and that renaming changes nothing (request 9). What is believed:
pub mod Alike
-- What is claimed, and proved in proofs/Claims.antt:
pub mod RenamingClaims
