-- The house form (request 3). What is believed:
pub mod House
-- What is claimed, and proved in proofs/Claims.antt:
pub mod HouseClaims
