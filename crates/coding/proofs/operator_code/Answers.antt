use mathlib.Core.Path.{◌∙◌}
use native.Mathlib.Omega.{arith}
use Rattle.coding.proofs.Numbers.{other_head, literal_head, operator_head}
use Rattle.coding.specs.Coding.{script}
use Rattle.coding.proofs.operator_code.Goals as goal

pub returns-then-head-ne-NAME : goal.returns-then-head-ne-NAME
returns-then-head-ne-NAME c = other_head (script _ _) _ _ c.node_in-head.ensures c.if-head-ne-NAME.true

pub returns-in_default : goal.returns-in_default
returns-in_default c =
    literal_head (script _ _) _ _ c.node_in-head.ensures c.if-head-ne-NAME.false 0 c.in_default.ensures (omega arith)

pub returns-then-code-lt-FIRST_OPERATOR : goal.returns-then-code-lt-FIRST_OPERATOR
returns-then-code-lt-FIRST_OPERATOR c =
    literal_head (script _ _) _ _ c.node_in-head.ensures c.if-head-ne-NAME.false _ (c.number-code.ensures ∙ c.in-Some.ensures) c.if-code-lt-FIRST_OPERATOR.true

pub returns : goal.returns
returns c =
    operator_head (script _ _) _ _ c.node_in-head.ensures c.if-head-ne-NAME.false _ (c.number-code.ensures ∙ c.in-Some.ensures) c.if-code-lt-FIRST_OPERATOR.false
