use Rattle.coding.specs.Coding.{script}
use Rattle.coding.proofs.Numbers.{code_number, code_name, code_application, code_none}
use Rattle.coding.proofs.node_code.Goals as goal

pub returns-in-18 : goal.returns-in-18
returns-in-18 c = code_number (script _ _) _ _ c.requires.n_value _ c.in-18.is _ c.number_code.ensures

pub returns-in-19 : goal.returns-in-19
returns-in-19 c = code_name (script _ _) _ _ c.requires.n_value _ c.in-19.is _ c.name_code.ensures

pub returns-in-23 : goal.returns-in-23
returns-in-23 c = code_application (script _ _) _ _ c.requires.n_value _ c.in-23.is _ c.operator_code.ensures

pub returns-in_default : goal.returns-in_default
returns-in_default c = code_none (script _ _) _ _ c.requires.n_value _ c.in_default.in_default-own.rest.0.0.1 c.in_default.in_default-own.rest.0.1 c.in_default.in_default-own.rest.1
