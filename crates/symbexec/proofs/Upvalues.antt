-- How many upvalues the function that a CLOSURE names has.
use Rattle.lent.proofs.Prelude.{ℕ, ◌≤◌, ◌<◌, ◌≡◌, sym, ap, ◌∙◌, List, some}
use Rattle.format.specs.Tree.{Parts, Function, Functions}
use Rattle.format.specs.Store.{function_piece}
use Rattle.format.specs.Valid.{Valid, ValidParts}
use Rattle.proto.specs.Walk.{StandsAt, item, children}
use Rattle.proto.specs.Children.{counted, ChildAt}
use Rattle.proto.specs.Head.{head_of}
use Rattle.proto.specs.declared.child.Children.{Children}
use Rattle.proto.specs.declared.head.Head.{Head}
use Rattle.proto.specs.declared.walk.Next.{Next}
use Rattle.proto.proofs.Children.{child_past, child_stands}
use Rattle.proto.proofs.Walks.{valid_parts}
use Rattle.symbexec.specs.Operands.{Behind}
use Rattle.symbexec.specs.SymbExec.{upvalues_of}

module _ {c : Children} where
  -- so many, whichever functions stand there
  pub behind_kept : {n : ℕ} {count : List Function → ℕ} → ((fs : List Function) → n ≡ count fs) → Behind c count n
  behind_kept e = record { many = λ text fs h v. e (children fs) }

  pub behind_is : {count count' : List Function → ℕ} {n : ℕ} → ((fs : List Function) → count fs ≡ count' fs) → Behind c count n → Behind c count' n
  behind_is e b = record { many = λ text fs h v. b.many text fs h v ∙ e (children fs) }

  module _ {i : ℕ} where
    -- there is no such function
    pub behind_none : counted c ≤ i → Behind c (λ fs. upvalues_of (item fs i)) 0
    behind_none l = record { many = λ text fs h v. rw (child_past c fs h l) }

    pub behind_child : {n : Next} → (i < counted c) × ChildAt c i n → {h : Head}
        → ((p : Parts) (fs : Functions) (t : List ℕ) → ValidParts p → StandsAt c.words.now t n.at (function_piece (Function.function p fs)) → h ≡ head_of p)
        → Behind c (λ fs. upvalues_of (item fs i)) h.num_upvalues
    behind_child {n} b {h = head} w =
        record {
          many = λ text fs h v.
              let x = child_stands fs h v b.0 b.1 in
              (elim x.function as (λ f. Valid f c.allowance → StandsAt c.words.now text n.at (function_piece f) → head.num_upvalues ≡ upvalues_of (some f)) [ Function.function p fs ↦ λ v h. rw (w p fs text (valid_parts _ p fs v) h) ]) x.valid x.stands
              ∙ ap upvalues_of (sym x.is);
        }
