-- Laws of comments: their text, and the number of a child.
use Rattle.lent.proofs.Prelude.{ℕ, ◌≡◌, refl, Bool, true, false, List, [], ltb, get_or, ltb-true}
use Rattle.std.specs.Prelude.{Option as Answer}
use Rattle.lent.specs.Writer.{Writes}
use Rattle.lent.specs.declared.Writer.{Writer}
use Rattle.lent.proofs.Writers.{writes_then}
use Rattle.format.specs.Tree.{Functions, count}
use Rattle.listing_comments.specs.Shown.{ChildIs, closure_text}
use Rattle.instructions.specs.Fields.{GETARG_Bx}
use Rattle.instructions.specs.OpCodes.{OP_CLOSURE}
use Rattle.format.specs.Store.{children_piece}
use Rattle.proto.specs.Walk.{StandsAt}
use Rattle.proto.specs.Children.{child_number}
use Rattle.proto.proofs.Sublists.{here_get}
use Rattle.listing_comments.specs.Comment.{address, comment, when}

-- ---- its text, behind the beginning of a comment

pub comment_put : {t : List ℕ} {w w' w'' : Writer} → Writes (comment []) w w' → Writes t w' w'' → Writes (comment t) w w''
comment_put p q = writes_then p q

-- ---- the number of the function that a CLOSURE makes

pub closure_shown : {words text : List ℕ} {place : ℕ} {w w' : Writer} (fs : Functions) (number op i : ℕ) (child : Answer ℕ) → StandsAt words text place (children_piece fs) → ChildIs fs number op i child → op ≡ OP_CLOSURE
    → Writes (when (ltb (GETARG_Bx i) (get_or words place 0)) (closure_text child)) w w' → Writes (when (ltb (GETARG_Bx i) (count fs)) (comment (address (child_number number fs (GETARG_Bx i))))) w w'
closure_shown {w = w} {w'} fs number op i child s k o p = by (ltb (GETARG_Bx i) (count fs)) refl (rw (here_get (count fs) _ s.stands.in_words) at p)
  where
    by : (b : Bool) → ltb (GETARG_Bx i) (count fs) ≡ b → Writes (when b (closure_text child)) w w' → Writes (when b (comment (address (child_number number fs (GETARG_Bx i))))) w w'
    by true e q = rw (k.is o (ltb-true _ _ e)) at q
    by false e q = q
