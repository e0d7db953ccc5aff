-- What the gate says, with document 01's number for each answer.
use Rattle.language.specs.Library.{ℕ}

pub data Refusal : Type 0 where  -- a text or a call is refused (1 to 10)
  LENGTH LIMIT TABLE BYTE NUMBER TOKENS SYNTAX LEVEL TYPE DOUBLE : Refusal

pub data LimitStop : Type 0 where  -- a run is stopped by a limit (20 to 24)
  FUEL DEPTH CELLS BINDINGS OUTPUT : LimitStop

pub data ErrorStop : Type 0 where  -- a run is stopped by an error of the script (25 to 29)
  RANGE ZERO : ErrorStop
  UNSET : (made : ℕ) → ErrorStop  -- with the place of the VAR or alloc that made the cell (request 7)
  SIZE INDEX : ErrorStop

pub data Stop : Type 0 where
  limit : LimitStop → Stop
  error : ErrorStop → Stop

pub data Answer : Type 0 where  -- an answer: accepted or done, refused at a place, or stopped at a place
  done : Answer
  refused : Refusal → (place : ℕ) → Answer
  stopped : Stop → (place : ℕ) → Answer

pub data Result (A : Type 0) : Type 0 where  -- what comes of a text or a part of it: something, or a refusal and its place
  fine : A → Result A
  refuse : Refusal → (place : ℕ) → Result A

abbrev pub refusal_number : Refusal → ℕ
refusal_number = elim [ LENGTH ↦ 1 | LIMIT ↦ 2 | TABLE ↦ 3 | BYTE ↦ 4 | NUMBER ↦ 5 | TOKENS ↦ 6 | SYNTAX ↦ 7 | LEVEL ↦ 8 | TYPE ↦ 9 | DOUBLE ↦ 10 ]

abbrev pub stop_number : Stop → ℕ
stop_number =
    elim [
      | limit FUEL ↦ 20
      | limit DEPTH ↦ 21
      | limit CELLS ↦ 22
      | limit BINDINGS ↦ 23
      | limit OUTPUT ↦ 24
      | error RANGE ↦ 25
      | error ZERO ↦ 26
      | error (UNSET m) ↦ 27
      | error SIZE ↦ 28
      | error INDEX ↦ 29
    ]

abbrev pub number_of : Answer → ℕ
number_of = elim [ done ↦ 0 | refused r p ↦ refusal_number r | stopped w p ↦ stop_number w ]

abbrev pub place_of : Answer → ℕ
place_of = elim [ done ↦ 0 | refused r p ↦ p | stopped w p ↦ p ]

abbrev pub made_by : ErrorStop → ℕ
made_by = elim [ RANGE ↦ 0 | ZERO ↦ 0 | UNSET m ↦ m | SIZE ↦ 0 | INDEX ↦ 0 ]

abbrev pub made_of : Answer → ℕ  -- UNSET's second place, where the cell was made; every other answer has 0 there
made_of = elim [ done ↦ 0 | refused r p ↦ 0 | stopped (limit l) p ↦ 0 | stopped (error x) p ↦ made_by x ]
