-- By the number of digits. With width_decimal as the function's own law the search leaves these four goals open.
use Rattle.lent.proofs.Prelude.{arith}
use Rattle.digits.proofs.Rooms.{width_decimal}
use Rattle.digits.proofs.store_decimal.Goals as goal

pub store_places-requires : goal.store_places-requires
store_places-requires c = (omega arith, width_decimal 0 _ (omega arith) (omega arith) (omega arith) (omega arith))

pub store_places-requires-in-10-to-99 : goal.store_places-requires-in-10-to-99
store_places-requires-in-10-to-99 c = (omega arith, width_decimal 1 _ (omega arith) (omega arith) (omega arith) (omega arith))

pub store_places-requires-in-100-to-999 : goal.store_places-requires-in-100-to-999
store_places-requires-in-100-to-999 c = (omega arith, width_decimal 2 _ (omega arith) (omega arith) (omega arith) (omega arith))

pub store_places-requires-in-1000-to-9999 : goal.store_places-requires-in-1000-to-9999
store_places-requires-in-1000-to-9999 c = (omega arith, width_decimal 3 _ (omega arith) (omega arith) (omega arith) (omega arith))
