-- What a call on a store that writes answers and leaves in lent memory, dump among them.
use Rattle.std.specs.Prelude.{ℕ, List, Bool, cond, length, leb, Result, Ok, Err}
use Rattle.std.proofs.Math.Option.{Option, none, some}
use Rattle.format.specs.Tree.{Function}
use Rattle.format.specs.Write.{dump_chunk}
use Rattle.format.specs.Stored.{tree_of}
use Rattle.format.specs.Undump.{name_ok, over}
use Rattle.format.specs.Refusal.{number}
use Rattle.format.specs.declared.Refusal.{Refusal}
use Rattle.format.specs.declared.Written.{Written}

-- an answer, with what then stands in lent memory
pub record WriteLeft : Type 0 where
  pub answer : Written
  pub out : List ℕ

abbrev pub write_left : Written → List ℕ → WriteLeft
write_left answer out = record { answer = answer; out = out }

abbrev pub write_refused : ℕ → List ℕ → WriteLeft
write_refused n out = record { answer = record { refusal = n; len = 0 }; out = out }

-- what a call leaves that wrote so many bytes, or is refused
abbrev pub written_left : Result ℕ Refusal → List ℕ → WriteLeft
written_left (Ok n) out = write_left (record { refusal = 0; len = n }) out
written_left (Err e) out = write_refused (number e) out

-- 11, else the bytes, then what stood there
abbrev pub written : List ℕ → List ℕ → WriteLeft
written bytes out = cond (leb (length bytes) (length out)) (record { answer = record { refusal = 0; len = length bytes }; out = over bytes out }) (write_refused 11 out)

-- ---- calls on a store: refused by 1, 10, 11, in this order

-- a call that takes a chunk name
abbrev pub under_name : {A : Type 0} → (ℕ → A) → List ℕ → A → A
under_name refuse name answer = cond (name_ok name) answer (refuse 1)

-- on the tree that a store holds
abbrev pub on_tree : {A : Type 0} → (ℕ → A) → (Function → A) → Option Function → A
on_tree refuse answer none = refuse 10
on_tree refuse answer (some f) = answer f

-- the refusals of these, 0 where there is none
abbrev pub name_refusal : List ℕ → ℕ
name_refusal name = under_name (λ n. n) name 0

abbrev pub store_refusal : List ℕ → List ℕ → ℕ
store_refusal words text = on_tree (λ n. n) (λ f. 0) (tree_of words text)

-- a call that writes what bytes gives of the tree that a store holds
abbrev pub on_store : (Function → List ℕ) → List ℕ → List ℕ → List ℕ → List ℕ → WriteLeft
on_store bytes words text name out = under_name (λ n. write_refused n out) name (on_tree (λ n. write_refused n out) (λ f. written (bytes f) out) (tree_of words text))

-- dump(words, text, name, strip, size_4, out)
unfoldable pub dumped : List ℕ → List ℕ → List ℕ → Bool → Bool → List ℕ → WriteLeft
dumped words text name strip size4 out = on_store (λ f. dump_chunk strip size4 name f) words text name out
