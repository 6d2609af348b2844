-- The loop over the code of a function: the line of each instruction, with the child that a CLOSURE names.
use Rattle.lent.proofs.Prelude.{ℕ, ◌+◌, ◌≤◌, ◌<◌, min, ◌≡◌, ◌∙◌, cond, List, arith, length, drop, get_or, drop_of_length-le}
use Rattle.std.specs.Prelude.{Option as Answer}
use Rattle.lent.specs.Memory.{far}
use Rattle.lent.specs.Writer.{Writes}
use Rattle.lent.specs.declared.Writer.{Writer}
use Rattle.lent.proofs.Writers.{WritesLeft, left_put, left_end}
use Rattle.format.specs.Tree.{Parts, Functions}
use Rattle.format.specs.Valid.{ValidAll}
use Rattle.instructions.specs.OpCodes.{opcode, next_is_c}
use Rattle.proto.specs.Walk.{Stands, total_all}
use Rattle.format.specs.Store.{ints}
use Rattle.proto.proofs.Items.{ints_count}
use Rattle.proto.specs.declared.lists.Lists.{Lists}
use Rattle.listing_lines.specs.Line.{format_instruction}
use Rattle.proto.specs.Lists.{ListsAt}
use Rattle.listing_comments.specs.Shown.{ChildIs}
use Rattle.proto.specs.declared.child.Children.{Children}
use Rattle.listing.specs.Listing.{print_code, format_code}
use Rattle.listing.specs.Closures.{ClosureChild}
use Rattle.listing.proofs.PrintCode.{print_turn}

-- a function's lists stand there
pub record Owns (lists : Lists) (allowance number : ℕ) (p : Parts) (fs : Functions) : Type 0 where
  pub at_lists : ListsAt lists p fs
  pub valid : ValidAll fs allowance
  pub small : number + 1 + total_all fs ≤ far

-- the functions in it
pub record ChildrenOf (lists : Lists) (allowance number : ℕ) (of : Children) : Type 0 where
  pub words : of.words.now ≡ lists.store.words.now
  pub places : (of.list ≡ lists.functions) × (of.number ≡ number) × (of.allowance ≡ allowance)

-- before the instruction at pc: its functions are looked up, and the lines from here on are left
pub record Codes (lists : Lists) (allowance number : ℕ) (of : Children) (pc : ℕ) (w w₀ : Writer) : Type 0 where
  pub functions : ChildrenOf lists allowance number of
  pub left : (p : Parts) (fs : Functions) → Owns lists allowance number p fs → WritesLeft (print_code (format_instruction p fs number) pc (drop pc p.code)) w (format_code p fs number) w₀

module _ {lists : Lists} {allowance number : ℕ} where
  count_is : {n : ℕ} {p : Parts} {fs : Functions} → n ≡ get_or lists.store.words.now lists.code 0 → Owns lists allowance number p fs → n ≡ length p.code
  count_is {p = p} e k = e ∙ ints_count p.code k.at_lists.code.stands

  pub codes_turn : {of of' : Children} {child : Answer ℕ} {code : List ℕ} {n pc i next : ℕ} {w w' w₀ : Writer} → n ≡ get_or lists.store.words.now lists.code 0 → pc < n → Codes lists allowance number of pc w w₀
      → ((l t : List ℕ) (to : ℕ) → Stands lists.store.words.now t lists.code to (ints l) → code ≡ l) → i ≡ get_or code pc 0 → of' ≡ of → ClosureChild of i child
      → ((p : Parts) (fs : Functions) (m : ℕ) → ListsAt lists p fs → ChildIs fs m (opcode i) i child → Writes (format_instruction p fs m pc i) w w')
      → next ≡ cond (next_is_c i) (min (pc + 2) n) (pc + 1) → Codes lists allowance number of' next w' w₀
  codes_turn {child = child} {n} {pc} {i} e h t s f same c put g =
      let o = t.functions in
      let d = rw (o.words, o.places.0, o.places.1, o.places.2) at c.is in
      record {
        functions = rw same o;
        left = λ p fs x.
            let l = p.code in
            let m : n ≡ length l = count_is e x in
            let q : i ≡ get_or l pc 0 = rw (s l lists.store.text.now x.at_lists.code.to x.at_lists.code.stands) at f in
            left_put (format_instruction p fs number pc i) (print_turn (format_instruction p fs number) l m h q g) (t.left p fs x)
            (put p fs number x.at_lists (d lists.store.text.now fs x.at_lists.functions x.valid x.small));
      }

  pub codes_end : {of : Children} {n pc : ℕ} {w w₀ : Writer} → n ≡ get_or lists.store.words.now lists.code 0 → n ≤ pc → Codes lists allowance number of pc w w₀
      → (p : Parts) (fs : Functions) → ListsAt lists p fs → ValidAll fs allowance → number + 1 + total_all fs ≤ far → Writes (format_code p fs number) w₀ w
  unfolding print_code
  codes_end {pc = pc} e h t p fs l v s =
      let x : Owns lists allowance number p fs = record { at_lists = l; valid = v; small = s } in
      let m = count_is e x in
      left_end (rw (drop_of_length-le p.code {i = pc} (omega arith))) (t.left p fs x)
