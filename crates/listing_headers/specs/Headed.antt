-- Whose header it is.
use Rattle.std.specs.Prelude.{ℕ, ◌≡◌, List}
use Rattle.format.specs.Tree.{Parts, Functions}
use Rattle.proto.specs.Head.{head_of}
use Rattle.proto.specs.Lists.{ListsOver}
use Rattle.listing_headers.specs.declared.header.Header.{Header}

-- the function's: its numbers, and its lists, with this text, be it the store's or another
pub record HeaderOf (text : List ℕ) (h : Header) (p : Parts) (fs : Functions) : Type 0 where
  pub head : h.head ≡ head_of p
  pub lists : ListsOver text h.lists p fs
