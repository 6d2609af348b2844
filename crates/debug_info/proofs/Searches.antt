-- The search from register to register.
use Rattle.lent.proofs.Prelude.{ℕ, zero, suc, ◌+◌, ◌%◌, ◌^◌, ◌<◌, ◌≡◌, refl, sym, ap, ◌∙◌, List, [], ◌∷◌, Bool, true, false, cond, and-false, true≢false, arith, dec_lt, length, get_or, set, le-ltb}
use Rattle.std.specs.Prelude.{Option, Some, None, is_some}
use Rattle.instructions.specs.Fields.{GETARG_A, GETARG_B}
use Rattle.format.specs.Tree.{Local, Parts, Function, Functions}
use Rattle.format.specs.Store.{list, local_piece}
use Rattle.format.specs.Valid.{depth, ValidAll}
use Rattle.proto.specs.Walk.{StandsAt}
use Rattle.proto.specs.Lists.{ListsOver}
use Rattle.proto.specs.declared.lists.Lists.{Lists}
use Rattle.debug_info.specs.declared.name.Kind.{Kind}
use Rattle.debug_info.specs.declared.name.Known.{Known}
use Rattle.debug_info.specs.Kind.{number}
use Rattle.debug_info.specs.Known.{name_of, object_of}
use Rattle.symbexec.specs.SymbExec.{symbexec}
use Rattle.debug_info.specs.Names.{Object, object, active_local, get_local_name, wrote, moves_up, or_else, searched}
use Rattle.debug_info.specs.Searched.{unsearched}

-- one register more is searched
pub marked : (l : List Bool) (r : ℕ) → r < length l → get_or l r false ≡ false → unsearched l ≡ suc (unsearched (set l r true))
unfolding unsearched
marked [] r h e = absurd (omega arith)
marked (false ∷ l) zero h e = refl
marked (true ∷ l) zero h e = absurd (true≢false e)
marked (false ∷ l) (suc r) h e = ap suc (marked l r (omega arith) e)
marked (true ∷ l) (suc r) h e = marked l r (omega arith) e

-- MOVE takes from a register
pub moves_below : (i : ℕ) → moves_up i ≡ true → GETARG_B i < 256
unfolding moves_up
moves_below i h = elim (dec_lt (GETARG_B i) (GETARG_A i)) [
  | yes k ↦ omega arith
  | no k ↦ absurd (true≢false (sym h ∙ simp (le-ltb (GETARG_B i) (GETARG_A i) (omega arith), and-false)))
]

-- what the search gives for a register of the function whose lists these are, by a text
abbrev Gives : List ℕ → Lists → ℕ → ℕ → List Bool → Option Known → Type 0
Gives text s pc reg before r = (p : Parts) (fs : Functions) → ListsOver text s p fs → ValidAll fs depth → object_of text r ≡ searched (Function.function p fs) pc (unsearched before) reg before

-- what is known comes before what the search goes on with
known_first : (text : List ℕ) (x : Option Known) (o : Object) → is_some x ≡ true → or_else (object_of text x) o ≡ object_of text x
known_first text None o e = absurd (true≢false (sym e))
known_first text (Some k) o e = by k.kind
  where
    by : (kind : Kind) → or_else (object (number kind) (name_of text k.name)) o ≡ object (number kind) (name_of text k.name)
    by Kind.Local = refl
    by Kind.Global = refl
    by Kind.Field = refl
    by Kind.Upvalue = refl
    by Kind.Method = refl

unknown_then : (text : List ℕ) (x : Option Known) (o : Object) → is_some x ≡ false → or_else (object_of text x) o ≡ o
unknown_then text None o e = refl
unknown_then text (Some k) o e = absurd (true≢false e)

-- n is the register's number among those searched
module _ {text : List ℕ} {s : Lists} (pc reg : ℕ) (before : List Bool) {n : ℕ} (q : n ≡ reg) where
  -- it was searched before
  pub search_again : get_or before n false ≡ true → Gives text s pc reg before None
  unfolding searched
  search_again e p fs h v = by (unsearched before)
    where
      by : (k : ℕ) → object_of text None ≡ searched (Function.function p fs) pc k reg before
      by zero = refl
      by (suc k) = rw (rw q at e)

  module _ (small : pc < 2 ^ 32) (within : reg < 256) (all : length before ≡ 256) (new : get_or before n false ≡ false) (x : Option Known)
      (active : (text : List ℕ) (l : List Local) → StandsAt s.store.words.now text s.locals (list local_piece l) → object_of text x ≡ active_local l (n + 1) pc) where
    opened : (p : Parts) (fs : Functions) → ListsOver text s p fs → (i : ℕ) → i ≡ symbexec (Function.function p fs) pc reg → searched (Function.function p fs) pc (unsearched before) reg before
        ≡ or_else (object_of text x) (cond (moves_up i) (searched (Function.function p fs) pc (unsearched (set before n true)) (GETARG_B i) (set before n true)) (wrote p i))
    unfolding searched get_local_name
    opened p fs h i e = let m : pc % 2 ^ 32 ≡ pc = omega arith in let e : i ≡ symbexec (Function.function p fs) pc n = rw (← q) at e in
        rw (← q) (rw (marked before n (omega arith) new, new, m, e, ← active text p.debug.locals h.locals))

    -- it is a local
    pub search_local : {b : Bool} → b ≡ is_some x → b ≡ true → Gives text s pc reg before x
    search_local d k p fs h v = sym (opened p fs h _ refl ∙ known_first _ x _ (sym d ∙ k))

    module _ {b : Bool} (d : b ≡ is_some x) (k : b ≡ false) {r i : ℕ} (g : r ≡ reg) (last : (p : Parts) (fs : Functions) → ListsOver text s p fs → ValidAll fs depth → i ≡ symbexec (Function.function p fs) pc r) {m : Bool} (up : m ≡ moves_up i) where
      found : (p : Parts) (fs : Functions) → ListsOver text s p fs → ValidAll fs depth → searched (Function.function p fs) pc (unsearched before) reg before
          ≡ cond m (searched (Function.function p fs) pc (unsearched (set before n true)) (GETARG_B i) (set before n true)) (wrote p i)
      found p fs h v = opened p fs h i (rw g at (last p fs h v)) ∙ unknown_then _ x _ (sym d ∙ k) ∙ rw up

      -- it was moved there
      pub search_moved : (r : Option Known) {from : ℕ} → m ≡ true → from ≡ GETARG_B i → Gives text s pc from (set before n true) r → Gives text s pc reg before r
      search_moved r t e f p fs h v = f p fs h v ∙ rw e (sym (found p fs h v ∙ rw t))

      pub search_wrote : (r : Option Known) → m ≡ false → ((p : Parts) (fs : Functions) → ListsOver text s p fs → object_of text r ≡ wrote p i) → Gives text s pc reg before r
      search_wrote r t f p fs h v = f p fs h ∙ sym (found p fs h v ∙ rw t)
