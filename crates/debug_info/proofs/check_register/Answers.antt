-- The place's refusal first; then the count of the code, and the register.
-- Tried by an attribute with these laws: all three stay open, as grind finds no instance of a law that ends in an equation without the place of the count.
use Rattle.lent.proofs.Prelude.{◌<◌, ◌≤◌, arith}
use Rattle.debug_info.proofs.Calls.{register_13, register_14, register_0}
use Rattle.debug_info.proofs.check_register.Goals as goal

pub returns-then-code-pc-clause-refused : goal.returns-then-code-pc-clause-refused
returns-then-code-pc-clause-refused c = search (register_13, c.in_ok-has_function.ensures)

pub returns-in_default-clause-refused : goal.returns-in_default-clause-refused
returns-in_default-clause-refused c = let h : 255 < c.args.reg = omega (arith, c.in_default.ensures) in search (register_14, c.in_ok-has_function.ensures)

pub returns-clause-refused : goal.returns-clause-refused
returns-clause-refused c = let h : c.args.reg ≤ 255 = omega (arith, c.in-Ok.ensures.0) in search (register_0, c.in_ok-has_function.ensures)
