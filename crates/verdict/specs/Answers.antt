-- What each of CHECK's answers means, and the tables that it is lent.
use Rattle.std.specs.Prelude.{ℕ, List, [], ◌∷◌, Result, Ok, Err}
use Rattle.language.specs.Answers.{LENGTH, TABLE, BYTE, NUMBER, TOKENS, SYNTAX, LEVEL, TYPE, DOUBLE, Answer, done, refused}
use Rattle.language.specs.Promises.{Lent, Checked}
use Rattle.verdict.specs.declared.Refusal.{Refusal}
use Rattle.verdict.specs.declared.Refusal.TheVariants.{Length, Table, Byte, Number, Tokens, Syntax, Level, «Type», Double}

abbrev pub refusal_meant : Refusal → Answer
refusal_meant Length = refused LENGTH 0
refusal_meant Table = refused TABLE 0
refusal_meant (Byte p) = refused BYTE p
refusal_meant (Number p) = refused NUMBER p
refusal_meant (Tokens p) = refused TOKENS p
refusal_meant (Syntax p) = refused SYNTAX p
refusal_meant (Level p) = refused LEVEL p
refusal_meant («Type» p) = refused TYPE p
refusal_meant (Double p) = refused DOUBLE p

-- accepted, or why not
abbrev pub Verdict : Type 0
Verdict = Result (Unit {0}) Refusal

abbrev pub meant : Verdict → Answer
meant (Ok accepted) = done
meant (Err refusal) = refusal_meant refusal

-- the working tables and their fixed sizes: the words of the text and the stack of the reading, a scope and a note for each node
abbrev pub lent : (words stack scopes notes : List ℕ) → List Lent
lent words stack scopes notes =
    record { size = 4096; holds = words } ∷
    (record { size = 4097; holds = stack } ∷ (record { size = 4096; holds = scopes } ∷ (record { size = 4096; holds = notes } ∷ [])))

-- what was answered, and what the tables then hold
abbrev pub checked : Verdict → (tree words stack scopes notes : List ℕ) → Checked
checked r tree words stack scopes notes = record { answer = meant r; tree = tree; works = words ∷ (stack ∷ (scopes ∷ (notes ∷ []))) }
