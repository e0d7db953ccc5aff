-- What is claimed of the language, each claim as a type with a sentence; proofs/Claims.antt proves each.
use Rattle.language.specs.Library.{ℕ, zero, suc, ℤ, true, List, [], map, length, Option, some, pos, nat_abs, non_neg}
use Rattle.std.specs.Prelude.{take, ◌≡◌, ◌↔◌, ◌⊎◌, ◌+◌, ◌≤◌, ◌∷◌, ◌++◌, ◌<◌, ◌+ℤ◌, ◌*ℤ◌}
use Rattle.language.specs.Syntax.{Name, at, TypeTree, int, arg, Expr, num, name, if_expr, and, or, app, abs, alloc, nth_expr, len, vset, one_expr, ExprP, val, adr, last, def_then, fun_block, Def, var, Stat, echo, set, if_stat, while, call, return, Block, block}
use Rattle.language.specs.Bytes.{bytes_of}
use Rattle.language.specs.Answers.{Refusal, FUEL, DEPTH, CELLS, BINDINGS, OUTPUT, RANGE, ZERO, UNSET, SIZE, INDEX, Stop, limit, error, done, stopped, Result, fine}
use Rattle.language.specs.Numbers.{quotient}
use Rattle.language.specs.Words.{Word, words_of, most}
use Rattle.language.specs.Grammar.{BLOCK, Reads}
use Rattle.language.specs.Table.{none, shape_block, Node, node, enc, table}
use Rattle.language.specs.Levels.{levels, deepest}
use Rattle.language.specs.Reading.{Opens, Within, Reading}
use Rattle.language.specs.Types.{Ty, base, fn, vec_of, Tys, tnil, tcons, Ctx, Flow, never, may, always}
use Rattle.language.specs.Typing.{HasE, HasB, HasS, Typable}
use Rattle.language.specs.Order.{JudgedNode, expr_node, adr_node, vec_node, param_node, single_node, def_node, stat_node, followed_node, block_node, prog_node, nodes_prog, TypeRefused}
use Rattle.language.specs.Limits.{Limits, greatest_limits, ◌⊑◌, Admitted}
use Rattle.language.specs.Rules.{Val, in_a, in_b, Env, bound, State, stop, no_rule, Outcome, ok, halt, bind, need, unless_returned, branch, enter, look, nth, fresh, as_truth, Level, in_block, alloc_rule, expr_rule, arg_rule, def_rule, stat_rule, level, run}
use Rattle.language.specs.Outcome.{state_of, end_of}
use Rattle.language.specs.Promises.{Verdict, text_bytes, tree_words, Lent, tree_table, large_enough, Checked, Check, Ran, all_large, Run}
use Rattle.language.specs.Desk.{AllHold, desk}

-- ---- texts

-- A text is accepted exactly when the grammar yields it within the limits and a typing exists.
abbrev pub AcceptedExactly : Type 0
AcceptedExactly = (s : List ℕ) (b : Block) →
    Verdict s (fine b) ↔
    ((ts : List Word) × (words_of s ≡ fine ts) × (length ts ≤ most) × Reads BLOCK b ts [] × Within deepest (levels b) × Typable b)

-- Every text has one verdict.
abbrev pub OneVerdict : Type 0
OneVerdict = (s : List ℕ) → ((v : Result Block) × Verdict s v) × ((v w : Result Block) → Verdict s v → Verdict s w → v ≡ w)

-- Words have at most one tree.
abbrev pub OneTree : Type 0
OneTree = (ts : List Word) (b c : Block) → Reads BLOCK b ts [] → Reads BLOCK c ts [] → b ≡ c

-- In all programs that begin with the same words, these open the same levels: "some program" in the definition of LEVEL is "every program".
abbrev pub OneLevels : Type 0
OneLevels = (pre : List Word) (ls ms : List ℕ) → Opens pre ls → Opens pre ms → ls ≡ ms

-- The tree of a text that is read has room in the tree table.
abbrev pub TreeFits : Type 0
TreeFits = (s : List ℕ) (b : Block) → Reading s (fine b) → length (table b) ≤ tree_words

abbrev pub place_of_node : Node → ℕ
place_of_node (node k p c s) = p

pub data Rising : ℕ → List ℕ → Type 0 where  -- each is larger than the one before it; the first is at least the number given
  end : {i : ℕ} → Rising i []
  next : {i p : ℕ} {l : List ℕ} → i ≤ p → Rising (suc p) l → Rising i (p ∷ l)

-- The nodes of a text that is read are numbered in text order, and no two share a first word: their places rise.
abbrev pub InTextOrder : Type 0
InTextOrder = (s : List ℕ) (b : Block) → Reading s (fine b) → Rising 0 (map place_of_node (enc (shape_block b none) 0))

-- A tree is typed, or refused in one way and at one place, and never both.
abbrev pub TypedOrRefused : Type 0
TypedOrRefused = (b : Block) →
    (Typable b ⊎ ((r : Refusal) × (q : ℕ) × TypeRefused b r q)) × ((r : Refusal) (q : ℕ) → Typable b → TypeRefused b r q → ⊥) ×
    ((r r' : Refusal) (q q' : ℕ) → TypeRefused b r q → TypeRefused b r' q' → (r ≡ r') × (q ≡ q'))

-- An expression has at most one type.
abbrev pub UniqueTypes : Type 0
UniqueTypes = (Γ : Ctx) (e : Expr) (t u : Ty) → HasE Γ e t → HasE Γ e u → t ≡ u

-- A block returns in at most one way: never, or may or always with one type.
abbrev pub UniqueFlows : Type 0
UniqueFlows = (Γ : Ctx) (b : Block) (f g : Flow) → HasB Γ b f → HasB Γ b g → f ≡ g

-- a level is opened: one is left for it, and the parts fit the others
abbrev pub Opened : ℕ → (ℕ → Type 0) → Type 0
Opened zero parts = ⊥
Opened (suc n) parts = parts n

-- a type of no more than n levels
abbrev mutual
  pub TyFits : Ty → ℕ → Type 0
  TyFits (base b) n = Unit {0}
  TyFits (fn ts t) n = Opened n λ m. TysFit ts m × TyFits t m
  TyFits (vec_of t) n = Opened n λ m. TyFits t m

  pub TysFit : Tys → ℕ → Type 0
  TysFit tnil n = Unit {0}
  TysFit (tcons t ts) n = TyFits t n × TysFit ts n

-- what is returned is of no more than n levels
abbrev pub FlowFits : Flow → ℕ → Type 0
FlowFits never n = Unit {0}
FlowFits (may t) n = TyFits t n
FlowFits (always t) n = TyFits t n

-- every node of a list is so
pub data AllNodes (P : JudgedNode → Type 0) : List JudgedNode → Type 0 where
  no_node : AllNodes P []
  one_more : {n : JudgedNode} {l : List JudgedNode} → P n → AllNodes P l → AllNodes P (n ∷ l)

-- every type that an expression's node can have, and every type that a statement or a block can return, is of no more than 128 levels
abbrev pub Comparable : JudgedNode → Type 0
Comparable (expr_node Γ e) = (t : Ty) → HasE Γ e t → TyFits t 128
Comparable (adr_node Γ p x) = Unit {0}
Comparable (vec_node p t) = Unit {0}
Comparable (param_node a) = Unit {0}
Comparable (single_node xs a) = Unit {0}
Comparable (def_node Γ d) = Unit {0}
Comparable (stat_node Γ c) = (f : Flow) → HasS Γ c f → FlowFits f 128
Comparable (followed_node Γ c) = Unit {0}
Comparable (block_node Γ b) = (f : Flow) → HasB Γ b f → FlowFits f 128
Comparable (prog_node b) = Unit {0}

-- 128 levels are always enough to compare types: where no word opens a level past the 64th, no expression has and nothing returns a type of more.
abbrev pub Levels128 : Type 0
Levels128 = (b : Block) → Within deepest (levels b) → AllNodes Comparable (nodes_prog b)

-- ---- runs

-- the outcome that no rule fits
abbrev pub NoRule : {A : Type 0} → Outcome A → Type 0
NoRule (ok a s) = ⊥
NoRule (halt (stop w) p s) = ⊥
NoRule (halt no_rule p s) = Unit {0}

-- an outcome that no limit stopped
abbrev pub NotLimited : {A : Type 0} → Outcome A → Type 0
NotLimited (ok a s) = Unit {0}
NotLimited (halt (stop (limit l)) p s) = ⊥
NotLimited (halt (stop (error x)) p s) = Unit {0}
NotLimited (halt no_rule p s) = Unit {0}

-- no count passes its limit
pub record InLimits (L : Limits) (s : State) : Type 0 where
  pub units_in : s.units ≤ L.fuel
  pub bindings_in : s.bindings ≤ L.bindings
  pub cells_in : length s.cells ≤ L.cells
  pub numbers_in : length s.numbers ≤ L.output

-- where FUEL or OUTPUT stops a run, that limit is used up (what DEPTH, CELLS and BINDINGS lack stands in no count of the state)
abbrev pub UsedUp : Limits → Outcome (Unit {0}) → Type 0
UsedUp L (ok a s) = Unit {0}
UsedUp L (halt (stop (limit FUEL)) p s) = s.units ≡ L.fuel
UsedUp L (halt (stop (limit DEPTH)) p s) = Unit {0}
UsedUp L (halt (stop (limit CELLS)) p s) = Unit {0}
UsedUp L (halt (stop (limit BINDINGS)) p s) = Unit {0}
UsedUp L (halt (stop (limit OUTPUT)) p s) = length s.numbers ≡ L.output
UsedUp L (halt (stop (error x)) p s) = Unit {0}
UsedUp L (halt no_rule p s) = Unit {0}

-- where UNSET stops a run, a cell that its second place made is there, and is unset
abbrev pub NamesCell : Stop → State → Type 0
NamesCell (limit l) s = Unit {0}
NamesCell (error RANGE) s = Unit {0}
NamesCell (error ZERO) s = Unit {0}
NamesCell (error (UNSET m)) s = (a : ℕ) × (nth s.cells a ≡ some (fresh m))
NamesCell (error SIZE) s = Unit {0}
NamesCell (error INDEX) s = Unit {0}

abbrev pub UnsetCell : Outcome (Unit {0}) → Type 0
UnsetCell (ok a s) = Unit {0}
UnsetCell (halt (stop w) p s) = NamesCell w s
UnsetCell (halt no_rule p s) = Unit {0}

-- No accepted text reaches a state that no rule fits, under any limits.
abbrev pub NeverStuck : Type 0
NeverStuck = (s : List ℕ) (b : Block) → Verdict s (fine b) → (L : Limits) → ¬ NoRule (run L b)

-- An accepted text's run ends as done or by one of the ten stops of document 01 and request 5.
abbrev pub EndsByTheTable : Type 0
EndsByTheTable = (s : List ℕ) (b : Block) → Verdict s (fine b) → (L : Limits) →
    (end_of (run L b) ≡ some done) ⊎ ((w : Stop) × (p : ℕ) × (end_of (run L b) ≡ some (stopped w p)))

-- A run that no limit stopped is the same under larger limits: end, place, numbers and every count.
abbrev pub SameUnderLargerLimits : Type 0
SameUnderLargerLimits = (L L' : Limits) → L ⊑ L' → (b : Block) → NotLimited (run L b) → run L' b ≡ run L b

-- Whatever ends a run, its numbers are how the numbers under larger limits begin.
abbrev pub NumbersBegin : Type 0
NumbersBegin = (L L' : Limits) → L ⊑ L' → (b : Block) → (more : List ℤ) × ((state_of (run L' b)).numbers ≡ (state_of (run L b)).numbers ++ more)

-- No count passes its limit, whatever ends the run.
abbrev pub CountsInLimits : Type 0
CountsInLimits = (L : Limits) (b : Block) → InLimits L (state_of (run L b))

-- FUEL and OUTPUT are given only where the limit is used up: so the count that makes WHILE structural never ends a run.
abbrev pub LimitIsUsedUp : Type 0
LimitIsUsedUp = (L : Limits) (b : Block) → UsedUp L (run L b)

-- UNSET's second place is where a cell was made that is unset.
abbrev pub UnsetNamesItsCell : Type 0
UnsetNamesItsCell = (L : Limits) (b : Block) → UnsetCell (run L b)

-- 004's (LOOP0), (LOOP1A) and (LOOP1B): after a round that does not return the WHILE is entered anew, at its own depth.
abbrev pub WhileRule : Type 0
WhileRule = (L : Limits) (d p : ℕ) (e : Expr) (b : Block) (ρ : Env) (s : State) →
    (level L (suc d)).stat (while p e b) ρ s ≡
    enter L p s (λ s₁. bind ((level L d).expr e ρ s₁) λ v s₂. need (as_truth v) p s₂ λ t.
    branch t (unless_returned (in_block (level L d) b ρ s₂) λ s₃. (level L (suc d)).stat (while p e b) ρ s₃) (ok Option.none s₂))

-- div rounds down: the dividend is quotient times divisor plus a rest, which is 0 or has the divisor's sign, and whose size is below the divisor's.
abbrev pub RoundsDown : Type 0
RoundsDown = (a b : ℤ) → ¬ (b ≡ pos 0) →
    (rest : ℤ) × (a ≡ (quotient a b *ℤ b) +ℤ rest) × ((rest ≡ pos 0) ⊎ (non_neg rest ≡ non_neg b)) × (nat_abs rest < nat_abs b)

-- Some tree does reach a state that no rule fits, so that NeverStuck says something: [ECHO y].
abbrev pub NoRuleIsReached : Type 0
NoRuleIsReached = NoRule (run greatest_limits (block 0 (last (echo 1 (name (at 6 (bytes_of "y")))))))

-- Nor does a rule fit a program that returns, or an application whose block does not: so NeverStuck says that blocks return as they are typed.
-- [RETURN 1] and [FUN f int [x:int] [ECHO 2]; ECHO (f 3)].
abbrev pub NoRuleForReturns : Type 0
NoRuleForReturns =
    NoRule (run greatest_limits (block 0 (last (return 1 (num 8 (pos 1)))))) ×
    NoRule (run greatest_limits
    (block 0
    (def_then (fun_block 1 (at 5 (bytes_of "f")) (int 7) (arg (at 12 (bytes_of "x")) (int 14) ∷ []) (block 19 (last (echo 20 (num 25 (pos 2))))))
    (last (echo 29 (app 34 (name (at 35 (bytes_of "f"))) (one_expr (num 37 (pos 3)))))))))

-- ---- promises

-- For every input CHECK has an answer and leaves something, and both are the only ones.
abbrev pub OneCheck : Type 0
OneCheck = (text tree : List ℕ) (works : List Lent) →
    ((c : Checked) × Check text tree works c) × ((c c' : Checked) → Check text tree works c → Check text tree works c' → c ≡ c')

-- For every input RUN has an answer and leaves something, and both are the only ones.
abbrev pub OneRun : Type 0
OneRun = (L : Limits) (text tree : List ℕ) (works stores : List Lent) (output : List ℤ) →
    ((r : Ran) × Run L text tree works stores output r) ×
    ((r r' : Ran) → Run L text tree works stores output r → Run L text tree works stores output r' → r ≡ r')

-- The desk's table holds: reading, verdict and run, from its texts.
abbrev pub DeskHolds : Type 0
DeskHolds = AllHold desk

-- ---- nothing is given back, nothing carries over

-- what was taken in the state s is taken in t, and the numbers put out in s stand in t, with any others behind them
pub record Stays (s t : State) : Type 0 where
  pub units_stay : s.units ≤ t.units
  pub bindings_stay : s.bindings ≤ t.bindings
  pub cells_stay : length s.cells ≤ length t.cells
  pub numbers_stay : (more : List ℤ) × (t.numbers ≡ s.numbers ++ more)

-- an evaluation and the same one under larger limits, from any state: all stays, what there was at first and what there was where the smaller limits ended it
abbrev pub AllStays : {A : Type 0} (under larger : State → Outcome A) → Type 0
AllStays under larger = (s : State) → Stays s (state_of (under s)) × Stays (state_of (under s)) (state_of (larger s))

-- Nothing is given back during a run, whatever is evaluated and however it ends. Smaller limits end an evaluation at an earlier moment, so this speaks of every moment
-- on the way: what was taken or put out by then stays so to the end, also past the end of a call or a block.
abbrev pub NothingGivenBack : Type 0
NothingGivenBack = (L L' : Limits) (d d' : ℕ) → L ⊑ L' → d ≤ d' → (ρ : Env) →
    ((e : Expr) → AllStays ((level L d).expr e ρ) ((level L' d').expr e ρ)) ×
    ((a : ExprP) → AllStays ((level L d).arg a ρ) ((level L' d').arg a ρ)) ×
    ((x : Def) → AllStays ((level L d).def x ρ) ((level L' d').def x ρ)) ×
    ((c : Stat) → AllStays ((level L d).stat c ρ) ((level L' d').stat c ρ)) ×
    ((b : Block) → AllStays (in_block (level L d) b ρ) (in_block (level L' d') b ρ))

-- Nothing carries over from an earlier call to CHECK: on tables that are large enough, however long and whatever they hold, one text has one answer and one tree
-- (a text over the length is refused with nothing changed).
abbrev pub CheckCarriesNothingOver : Type 0
CheckCarriesNothingOver = (text tree tree' : List ℕ) (works works' : List Lent) (c c' : Checked) →
    large_enough (tree_table tree ∷ works) ≡ true → large_enough (tree_table tree' ∷ works') ≡ true →
    Check text tree works c → Check text tree' works' c' →
    (c.answer ≡ c'.answer) × (length text ≤ text_bytes → take tree_words c.tree ≡ take tree_words c'.tree)

-- Nothing carries over from an earlier call to RUN: on tables that are large enough, however long and whatever they hold, one text has under the same limits one answer
-- with its place and counts, puts out the same numbers and has one tree (LENGTH and LIMIT change nothing).
abbrev pub RunCarriesNothingOver : Type 0
RunCarriesNothingOver = (L : Limits) (text tree tree' : List ℕ) (works works' stores stores' : List Lent) (output output' : List ℤ) (r r' : Ran) →
    all_large L text tree works stores output ≡ true → all_large L text tree' works' stores' output' ≡ true →
    Run L text tree works stores output r → Run L text tree' works' stores' output' r' →
    (r.says ≡ r'.says) ×
    (take r.says.numbers r.output ≡ take r'.says.numbers r'.output) ×
    (length text ≤ text_bytes → Admitted L → take tree_words r.tree ≡ take tree_words r'.tree)

-- ---- whose cells are whose, and where stores go

-- what an alloc that is evaluated in the state s comes to, if it ends: a block of k cells from the cell a on, all behind those taken in s, and the last that are taken then
abbrev pub FreshBlock : State → Outcome Val → Type 0
FreshBlock s (ok v t) = (a k : ℕ) × (v ≡ in_b a k) × (length s.cells ≤ a) × (a + k ≡ length t.cells)
FreshBlock s (halt w p t) = Unit {0}

-- An alloc answers a block, and its cells are fresh: none was taken before it, and all are when it ends.
abbrev pub AllocIsFresh : Type 0
AllocIsFresh = (L : Limits) (d p : ℕ) (t : TypeTree) (e : Expr) (ρ : Env) (s : State) → FreshBlock s ((level L d).expr (alloc p t e) ρ s)

-- k cells from the cell a on are taken in the state s, and t is the state then: by an alloc, once its size is known, or by a VAR
pub data Takes (L : Limits) (s : State) (a : ℕ) : (k : ℕ) → (t : State) → Type 0 where
  by_alloc : {k : ℕ} {t : State} (p : ℕ) (n : ℤ) → alloc_rule L p n s ≡ ok (in_b a k) t → Takes L s a k t
  by_var : {t : State} (r : Level) (p q : ℕ) (x : Name) (y : TypeTree) (ρ : Env) → def_rule L r (var p (at q x) y) ρ s ≡ ok (bound x (in_a a) ρ) t → Takes L s a 1 t

-- Two blocks of different allocs never share a cell, nor do a block and a variable, or two variables: of two that take cells in one run, one does so in a state t in which
-- all that the other took is taken still (NothingGivenBack), and it takes none of that.
abbrev pub BlocksApart : Type 0
BlocksApart = (L : Limits) (s s' t t' : State) (a k b l : ℕ) → Takes L s a k s' → Stays s' t → Takes L t b l t' →
    (i j : ℕ) → i < k → j < l → ¬ (a + i ≡ b + j)

-- the cells that were taken in s hold in t what they held, but for those named
abbrev pub OthersHold : (those : ℕ → Type 0) → State → State → Type 0
OthersHold those s t = (c : ℕ) → c < length s.cells → ¬ those c → nth t.cells c ≡ nth s.cells c

abbrev pub Nowhere : ℕ → Type 0  -- no cell
Nowhere c = ⊥

-- evaluators that store nothing
pub record StoresNothing (r : Level) : Type 0 where
  pub expr_stores : (e : Expr) (ρ : Env) (s : State) → OthersHold Nowhere s (state_of (r.expr e ρ s))
  pub arg_stores : (a : ExprP) (ρ : Env) (s : State) → OthersHold Nowhere s (state_of (r.arg a ρ s))
  pub def_stores : (d : Def) (ρ : Env) (s : State) → OthersHold Nowhere s (state_of (r.def d ρ s))
  pub stat_stores : (c : Stat) (ρ : Env) (s : State) → OthersHold Nowhere s (state_of (r.stat c ρ s))

-- the cells of the block that an expression comes to
abbrev pub InBlock : Outcome Val → ℕ → Type 0
InBlock o c = (a k : ℕ) × (t : State) × (o ≡ ok (in_b a k) t) × (a ≤ c) × (c < a + k)

-- the cells that an expression's own rule may store to: vset's, in the block that its first part is
abbrev pub ExprStores : Level → Expr → Env → State → ℕ → Type 0
ExprStores r (num p n) ρ s = Nowhere
ExprStores r (name x) ρ s = Nowhere
ExprStores r (if_expr p a b d) ρ s = Nowhere
ExprStores r (and p a b) ρ s = Nowhere
ExprStores r (or p a b) ρ s = Nowhere
ExprStores r (app p f es) ρ s = Nowhere
ExprStores r (abs p ps e) ρ s = Nowhere
ExprStores r (alloc p t e) ρ s = Nowhere
ExprStores r (nth_expr p a b) ρ s = Nowhere
ExprStores r (len p a) ρ s = Nowhere
ExprStores r (vset p a b d) ρ s = InBlock (r.expr a ρ s)

abbrev pub ArgStores : Level → ExprP → Env → State → ℕ → Type 0
ArgStores r (val e) ρ s = ExprStores r e ρ s
ArgStores r (adr p x) ρ s = Nowhere

-- the cells that a statement's own rule may store to: SET's, the variable's that its name stands for
abbrev pub StatStores : Stat → Env → ℕ → Type 0
StatStores (echo p e) ρ = Nowhere
StatStores (set p (at q x) e) ρ = λ c. look ρ x ≡ some (in_a c)
StatStores (if_stat p e a b) ρ = Nowhere
StatStores (while p e b) ρ = Nowhere
StatStores (call p x as') ρ = Nowhere
StatStores (return p e) ρ = Nowhere

-- Stores go to a variable's cell or a block's: of a rule whose parts store nothing, SET stores to its variable's cell, vset to a cell of its block, and every other rule leaves in each cell
-- that is taken what was there. (That SET and vset never miss a taken cell is NeverStuck.)
abbrev pub StoresGoToCells : Type 0
StoresGoToCells = (L : Limits) (r : Level) → StoresNothing r → (ρ : Env) (s : State) →
    ((e : Expr) → OthersHold (ExprStores r e ρ s) s (state_of (expr_rule L r e ρ s))) ×
    ((a : ExprP) → OthersHold (ArgStores r a ρ s) s (state_of (arg_rule L r a ρ s))) ×
    ((d : Def) → OthersHold Nowhere s (state_of (def_rule L r d ρ s))) ×
    ((c : Stat) → OthersHold (StatStores c ρ) s (state_of (stat_rule L r c ρ s)))
