-- The code's marks against the language's, and words packed into numbers, as the code finds key words.
use Rattle.std.specs.Prelude.{cond, List, [], ◌∷◌, ℕ, ◌+◌, ◌*◌, eqb, Option, None, Some}
use Rattle.std.proofs.Math.Option as maybe
use Rattle.language.specs.Bytes.{bytes_of}
use Rattle.language.specs.Words as language
use Rattle.language.specs.Words.{Spelling, means}
use Rattle.words.specs.declared.Mark.{Mark}
use Rattle.words.specs.declared.Mark.TheVariants as mark

-- the language's mark that the code's stands for; its number is the language's `code` of it
abbrev pub meant : Mark → language.Mark
meant mark.ListStart = language.k_lbr
meant mark.ListEnd = language.k_rbr
meant mark.Open = language.k_lpar
meant mark.Close = language.k_rpar
meant mark.Semicolon = language.k_semi
meant mark.Colon = language.k_colon
meant mark.Comma = language.k_comma
meant mark.Star = language.k_star
meant mark.Arrow = language.k_arrow
meant mark.Const = language.k_const
meant mark.Fun = language.k_fun
meant mark.Rec = language.k_rec
meant mark.Var = language.k_var
meant mark.Proc = language.k_proc
meant mark.Echo = language.k_echo
meant mark.Set = language.k_set
meant mark.IfStatement = language.k_if
meant mark.While = language.k_while
meant mark.Call = language.k_call
meant mark.IfExpression = language.kif
meant mark.And = language.kand
meant mark.Or = language.kor
meant mark.Bool = language.kbool
meant mark.Int = language.kint
meant mark.VarParameter = language.kvar
meant mark.Adr = language.kadr
meant mark.Vec = language.kvec
meant mark.Alloc = language.kalloc
meant mark.Nth = language.knth
meant mark.Len = language.klen
meant mark.Vset = language.kvset
meant mark.Return = language.k_return

-- the code's mark for one of the language's: `meant` undoes it
abbrev pub mark_for : language.Mark → Mark
mark_for language.k_lbr = mark.ListStart
mark_for language.k_rbr = mark.ListEnd
mark_for language.k_lpar = mark.Open
mark_for language.k_rpar = mark.Close
mark_for language.k_semi = mark.Semicolon
mark_for language.k_colon = mark.Colon
mark_for language.k_comma = mark.Comma
mark_for language.k_star = mark.Star
mark_for language.k_arrow = mark.Arrow
mark_for language.k_const = mark.Const
mark_for language.k_fun = mark.Fun
mark_for language.k_rec = mark.Rec
mark_for language.k_var = mark.Var
mark_for language.k_proc = mark.Proc
mark_for language.k_echo = mark.Echo
mark_for language.k_set = mark.Set
mark_for language.k_if = mark.IfStatement
mark_for language.k_while = mark.While
mark_for language.k_call = mark.Call
mark_for language.k_return = mark.Return
mark_for language.kif = mark.IfExpression
mark_for language.kand = mark.And
mark_for language.kor = mark.Or
mark_for language.kbool = mark.Bool
mark_for language.kint = mark.Int
mark_for language.kvar = mark.VarParameter
mark_for language.kadr = mark.Adr
mark_for language.kvec = mark.Vec
mark_for language.kalloc = mark.Alloc
mark_for language.knth = mark.Nth
mark_for language.klen = mark.Len
mark_for language.kvset = mark.Vset

-- the code's mark for what a spelling means, if it means one
abbrev pub marked : maybe.Option language.Mark → Option Mark
marked maybe.none = None
marked (maybe.some m) = Some (mark_for m)

-- the number of some bytes, base 256, after those whose number is n
abbrev pub pack : ℕ → List ℕ → ℕ
pack n [] = n
pack n (b ∷ s) = pack (n * 256 + b) s

-- no key word's number is so large
abbrev pub cap : ℕ
cap = 9223372036854775808

-- the mark that is spelled by the bytes packed as v
abbrev pub mark_packed : ℕ → List Spelling → Option Mark
mark_packed v [] = None
mark_packed v (means t m ∷ ms) = cond (eqb v (pack 0 (bytes_of t))) (Some (mark_for m)) (mark_packed v ms)
