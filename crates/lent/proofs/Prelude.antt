-- What proofs import: numbers, lists, equations and tests, and the sets that search and omega take.
pub use Prim.Native.Nat.{◌%◌, ◌*◌, ◌+◌, ◌-◌, ◌/◌, ◌<◌, ◌^◌, ◌≤◌, max, min, suc, zero, zero-le, ℕ}
pub use borrow.Author.Rules.{rules}
pub use borrow.Author.Tests.{eq-eqb, eqb-false, eqb-true, le-leb, le-ltb, leb-false, leb-true, lt-leb, lt-ltb, ltb-true, ne_eqb, not-false, not-true}
pub use lib.Dec.{eqb, eqb-zero-suc, leb, leb-zero, ltb}
pub use lib.ListN.{get_or-append, get_or-eq_default, drop, drop_of_length-le, get_or, length, length-append, length-drop, length-map, length-set, length-take, replicate, set, take, take-append-drop}
pub use lib.Seq.{drop_at, drop-cons, drop-drop, get_or-drop, get_or-set_other, get_or-set_same, get_or-take, length-sets, length-take-le, paste, paste-suc, set_comm, set_out, sets, sets-eq, take-add, take_all, take_at, take-length, take-suc}
pub use mathlib.Core.Bool.{Bool, ◌&&◌, ◌||◌, and-eq-true_iff, and-false, cond, false, false≢true, not, true, true≢false}
pub use mathlib.Core.List.{List, [], ◌++◌, ◌∷◌, append_assoc, append_cancel_right, append-nil, map, map-append}
pub use mathlib.Core.Option.{Option, none, some}
pub use mathlib.Core.Path.{◌∙◌, ◌≡◌, ap, refl, subst, sym}
unfoldable pub use native.Mathlib.Decide.{dec_le, dec_lt, ℕ_discrete}
pub use native.Mathlib.Nat.{add_assoc, add-zero, le_refl, mul-suc, mul-zero, zero-add}
pub use native.Mathlib.Numerals.{add-one}
pub use native.Mathlib.Omega.{arith}
