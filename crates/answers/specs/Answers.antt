-- What each of RUN's answers means: document 01's answer for each case.
use Rattle.language.specs.Answers.{LENGTH, LIMIT, TABLE, BYTE, NUMBER, TOKENS, SYNTAX, LEVEL, TYPE, DOUBLE, FUEL, DEPTH, CELLS, BINDINGS, OUTPUT, RANGE, ZERO, UNSET, SIZE, INDEX, limit, error, done, refused, stopped}
use Rattle.language.specs.Answers as language
use Rattle.language.specs.Promises.{Told}
use Rattle.answers.specs.declared.Answer.{Answer}
use Rattle.answers.specs.declared.Answer.TheVariants.{Done, Length, Limit, Table, Byte, Number, Tokens, Syntax, Level, «Type», Double, Fuel, Depth, Cells, Bindings, Output, Range, Zero, Unset, Size, Index}
use Rattle.answers.specs.declared.Report.{Report}

abbrev pub meant : Answer → language.Answer
meant Done = done
meant Length = refused LENGTH 0
meant Limit = refused LIMIT 0
meant Table = refused TABLE 0
meant (Byte p) = refused BYTE p
meant (Number p) = refused NUMBER p
meant (Tokens p) = refused TOKENS p
meant (Syntax p) = refused SYNTAX p
meant (Level p) = refused LEVEL p
meant («Type» p) = refused TYPE p
meant (Double p) = refused DOUBLE p
meant (Fuel p) = stopped (limit FUEL) p
meant (Depth p) = stopped (limit DEPTH) p
meant (Cells p) = stopped (limit CELLS) p
meant (Bindings p) = stopped (limit BINDINGS) p
meant (Output p) = stopped (limit OUTPUT) p
meant (Range p) = stopped (error RANGE) p
meant (Zero p) = stopped (error ZERO) p
meant (Unset p q) = stopped (error (UNSET q)) p
meant (Size p) = stopped (error SIZE) p
meant (Index p) = stopped (error INDEX) p

abbrev pub said : Report → Told
said r = record { answer = meant r.answer; units = r.units; bindings = r.bindings; cells = r.cells; numbers = r.numbers }

abbrev pub refusal : Answer → Report  -- nothing was taken or put out
refusal a = record { answer = a; units = 0; bindings = 0; cells = 0; numbers = 0 }
