-- Whatever is read of bytes is a well-formed tree once its names are repaired, so the store that undump leaves is well formed.
use Rattle.lent.proofs.Prelude.{ℕ, zero, suc, ◌≤◌, ◌<◌, ◌^◌, ◌≡◌, refl, ap, List, [], ◌∷◌, map, Bool, true, false, cond, not, arith, length, take, drop, length-map, length-take-le, leb, eqb, leb-true}
use Rattle.lent.specs.Memory.{Every, Byte, Word, Bytes}
use Rattle.lent.proofs.Lists.{every_take, every_drop}
use Rattle.utf8.specs.Utf8.{repair}
use Rattle.utf8.proofs.Rows.{by_test}
use Rattle.utf8.proofs.Laws.{utf8_repair}
use Rattle.format.specs.Tree.{Constant, Source, Functions, count, filled}
use Rattle.format.specs.Read.{Read, Reader, got, refused, and_then, ◌>>=◌, return, refuse, load_block, load_byte, little_endian, load_number, load_int, width_of, load_size, string_of, load_string, load_text, limit, count_of, load_count, many, load_list, constant_of, load_constant, many_functions, Constants, load_constants, load_local, load_debug, load_function, same, signature, format, load_exactly, format_of, load_header}
use Rattle.format.specs.Valid.{depth, Name, ValidSource, ValidConstant, ValidLocal, ValidList, ValidDebug, Valid, ValidAll}
use Rattle.format.specs.Undump.{repaired_source, repaired_local, repaired_debug, repaired, repaired_all, Chunk, load_chunk}

-- what reading gives: a value of which P holds, with bytes left, or a refusal by 2 to 7
abbrev Good : {A : Type 0} → (A → Type 0) → Read A → Type 0
Good P (got a rest) = P a × Bytes rest
Good P (refused n) = (2 ≤ n) × (n ≤ 7)

-- so does the reader r, of any bytes
record Gives {A : Type 0} (r : Reader A) (P : A → Type 0) : Type 0 where
  gives : (bs : List ℕ) → Bytes bs → Good P (r bs)

pure : {A : Type 0} {P : A → Type 0} (a : A) → P a → Gives (return a) P
pure a p = record { gives = λ bs h. (p, h) }

never : {A : Type 0} {P : A → Type 0} (n : ℕ) → 2 ≤ n → n ≤ 7 → Gives (refuse {A = A} n) P
never n low high = record { gives = λ bs h. (low, high) }

bind : {A B : Type 0} {r : Reader A} {P : A → Type 0} {Q : B → Type 0} (k : A → Reader B) → Gives r P → ((a : A) → P a → Gives (k a) Q) → Gives (r >>= k) Q
bind {A} {B} {r} {P} {Q} k p q = record { gives = λ bs h. by (r bs) (p.gives bs h) }
  where
    by : (x : Read A) → Good P x → Good Q (and_then x k)
    by (got a rest) g = (q a g.0).gives rest g.1
    by (refused n) g = g

weaken : {A : Type 0} {r : Reader A} {P Q : A → Type 0} → ((a : A) → P a → Q a) → Gives r P → Gives r Q
weaken {A} {r} {P} {Q} f p = record { gives = λ bs h. by (r bs) (p.gives bs h) }
  where
    by : (x : Read A) → Good P x → Good Q x
    by (got a rest) g = (f a g.0, g.1)
    by (refused n) g = g

-- a test before going on
test : {A : Type 0} {r s : Reader A} {P : A → Type 0} (b : Bool) → (b ≡ true → Gives r P) → (b ≡ false → Gives s P) → Gives (cond b r s) P
test {r = r} {s = s} {P = P} b = by_test (λ b. Gives (cond b r s) P) b

-- ---- lists of which each item is changed

every_map : {A : Type 0} (P : A → Type 0) (g : A → A) (l : List A) → Every (λ a. P (g a)) l → Every P (map g l)
unfolding Every
every_map P g [] h = tt
every_map P g (a ∷ l) h = (h.0, every_map P g l h.1)

list_map : {A : Type 0} (P : A → Type 0) (g : A → A) (l : List A) → ValidList (λ a. P (g a)) l → ValidList P (map g l)
list_map P g l h = record { items = every_map P g l h.items; short = omega (arith, length-map l g, h.short) }

-- ---- the readers, in their order

-- n bytes
abbrev Block : ℕ → List ℕ → Type 0
Block n s = Bytes s × (length s ≡ n)

block_gives : (n : ℕ) → Gives (load_block n) (Block n)
block_gives n =
    record {
      gives = λ bs h.
          by_test (λ b. Good (Block n) (elim b [ true ↦ got (take n bs) (drop n bs) | false ↦ refused 2 ])) (leb n (length bs))
          (λ t. ((every_take Byte n bs h, length-take-le n bs (leb-true n (length bs) t)), every_drop Byte n bs h)) (λ t. omega arith);
    }

byte_gives : Gives load_byte Byte
unfolding Every
byte_gives = record { gives = by }
  where
    by : (bs : List ℕ) → Bytes bs → Good Byte (load_byte bs)
    by [] h = omega arith
    by (b ∷ bs) h = h

value_below : (n : ℕ) (s : List ℕ) → Bytes s → length s ≡ n → little_endian s < 256 ^ n
unfolding little_endian Every
value_below zero [] h e = omega arith
value_below zero (b ∷ s) h e = absurd (omega arith)
value_below (suc n) [] h e = absurd (omega arith)
value_below (suc n) (b ∷ s) h e = let i = value_below n s h.1 (omega arith) in let j = h.0 in omega arith

number_gives : (width : ℕ) → Gives (load_number width) (λ n. n < 256 ^ width)
number_gives width = bind _ (block_gives width) (λ s h. pure (little_endian s) (value_below width s h.0 h.1))

int_gives : Gives load_int Word
int_gives = number_gives 4

string_gives : (size4 : Bool) → Gives (load_string size4) (λ s. Bytes (filled [] s))
unfolding load_size Every
string_gives size4 = bind string_of (number_gives (width_of size4)) (λ n h. by n)
  where
    by : (n : ℕ) → Gives (string_of n) (λ s. Bytes (filled [] s))
    by zero = pure Source.inherited tt
    by (suc n) = bind _ (block_gives n) (λ s h. bind _ byte_gives (λ z k. pure (Source.own s) h.0))

text_gives : (size4 : Bool) → Gives (load_text size4) Bytes
text_gives size4 = bind _ (string_gives size4) (λ s h. pure (filled [] s) h)

count_gives : Gives load_count (λ n. n ≤ limit)
count_gives = bind count_of int_gives (λ n h. test (leb n limit) (λ e. pure n (leb-true n limit e)) (λ e. never 6 (omega arith) (omega arith)))

many_gives : {A : Type 0} {r : Reader A} {P : A → Type 0} → Gives r P → (n : ℕ) → Gives (many r n) (λ l. Every P l × (length l ≡ n))
unfolding many Every
many_gives p zero = pure [] (tt, refl)
many_gives p (suc n) = bind _ p (λ a h. bind _ (many_gives p n) (λ l k. pure (a ∷ l) ((h, k.0), ap suc k.1)))

list_gives : {A : Type 0} {r : Reader A} {P : A → Type 0} → Gives r P → Gives (load_list r) (ValidList P)
list_gives {r} {P} p =
    bind (many r) count_gives (λ n h. weaken (λ l k. record { items = k.0; short = omega (arith, k.1) }) (many_gives p n))

constant_gives : (size4 : Bool) → Gives (load_constant size4) ValidConstant
constant_gives size4 =
    bind (constant_of size4) byte_gives (λ tag h.
    test (eqb tag 0) (λ e. pure Constant.nil tt) (λ e.
    test (eqb tag 1) (λ e. bind _ byte_gives (λ b k. pure (Constant.bool (not (eqb b 0))) tt)) (λ e.
    test (eqb tag 3) (λ e. bind _ int_gives (λ low k. bind _ int_gives (λ high l. pure (Constant.num high low) (l, k)))) (λ e.
    test (eqb tag 4) (λ e. bind _ (text_gives size4) (λ s k. pure (Constant.str s) k)) (λ e. never 5 (omega arith) (omega arith))))))

source_valid : (s : Source) → ValidSource (repaired_source s)
source_valid Source.inherited = tt
source_valid (Source.own s) = utf8_repair s

local_gives : (size4 : Bool) → Gives (load_local size4) (λ v. ValidLocal (repaired_local v))
local_gives size4 = bind _ (text_gives size4) (λ n h. bind _ int_gives (λ s k. bind _ int_gives (λ e l. pure _ (record { name = utf8_repair n; start = k; end = l }))))

debug_gives : (size4 : Bool) → Gives (load_debug size4) (λ d. ValidDebug (repaired_debug d))
unfolding load_debug
debug_gives size4 =
    bind _ (list_gives int_gives) (λ li h.
    bind _ (list_gives (local_gives size4)) (λ lo k.
    bind _ (list_gives name_gives) (λ up l. pure _ (record { lines = h; locals = list_map ValidLocal repaired_local lo k; upvalues = list_map Name repair up l }))))
  where
    name_gives : Gives (load_text size4) (λ s. Name (repair s))
    name_gives = weaken (λ s h. utf8_repair s) (text_gives size4)

-- the constants, and the functions inside once repaired
record Inside (allowance : ℕ) (c : Constants) : Type 0 where
  constants : ValidList ValidConstant c.constants
  short : count (repaired_all c.functions) ≤ limit
  functions : ValidAll (repaired_all c.functions) allowance

module _ (size4 : Bool) (allowance : ℕ) (child : Gives (load_function size4 allowance) (λ f. Valid (repaired f) allowance)) where
  functions_gives : (n : ℕ) → Gives (many_functions (load_function size4 allowance) n) (λ fs. ValidAll (repaired_all fs) allowance × (count (repaired_all fs) ≡ n))
  unfolding many_functions repaired Valid count
  functions_gives zero = pure Functions.none (tt, refl)
  functions_gives (suc n) = bind _ child (λ f h. bind _ (functions_gives n) (λ fs k. pure (Functions.more f fs) ((h, k.0), ap suc k.1)))

  counted_gives : Gives (load_count >>= many_functions (load_function size4 allowance)) (λ fs. ValidAll (repaired_all fs) allowance × (count (repaired_all fs) ≤ limit))
  counted_gives = bind _ count_gives (λ n l. weaken (λ fs k. (k.0, omega (arith, k.1))) (functions_gives n))

  constants_gives : Gives (load_constants size4 (load_function size4 allowance)) (Inside allowance)
  unfolding load_constants
  constants_gives = bind _ (list_gives (constant_gives size4)) (λ ks h. bind _ counted_gives (λ fs k. pure _ (record { constants = h; short = k.1; functions = k.0 })))

function_gives : (size4 : Bool) (allowance : ℕ) → Gives (load_function size4 allowance) (λ f. Valid (repaired f) allowance)
unfolding load_function repaired Valid
function_gives size4 zero = never 7 (omega arith) (omega arith)
function_gives size4 (suc allowance) =
    bind _ (string_gives size4) (λ src h₁.
    bind _ int_gives (λ ld h₂.
    bind _ int_gives (λ lld h₃.
    bind _ byte_gives (λ nu h₄.
    bind _ byte_gives (λ np h₅.
    bind _ byte_gives (λ va h₆.
    bind _ byte_gives (λ ms h₇.
    bind _ (list_gives int_gives) (λ code h₈.
    bind _ (constants_gives size4 allowance (function_gives size4 allowance)) (λ ks h₉.
    bind _ (debug_gives size4) (λ de h.
    pure _ (search source_valid)))))))))))

header_gives : Gives load_header (λ size4. Unit {0})
unfolding load_header
header_gives = bind _ (exactly signature 3 (omega arith) (omega arith)) (λ s h. bind format_of (block_gives 8) (λ s h. known s))
  where
    exactly : (bytes : List ℕ) (n : ℕ) → 2 ≤ n → n ≤ 7 → Gives (load_exactly bytes n) (λ s. Unit {0})
    exactly bytes n low high = bind _ (block_gives (length bytes)) (λ s h. test (same s bytes) (λ e. pure s tt) (λ e. never n low high))

    known : (s : List ℕ) → Gives (format_of s) (λ size4. Unit {0})
    known s = test (same s (format true)) (λ e. pure true tt) (λ e. test (same s (format false)) (λ e. pure false tt) (λ e. never 4 (omega arith) (omega arith)))

chunk_gives : Gives load_chunk (λ c. Valid c.root depth)
unfolding load_chunk
chunk_gives = bind _ header_gives (λ size4 h. bind _ (function_gives size4 depth) (λ f k. pure (record { size4 = size4; root = repaired f }) k))

-- ==== the statement: what is read of a chunk's bytes is a well-formed tree, and reading refuses by 2 to 7 only

pub loaded_valid : (chunk : List ℕ) → Bytes chunk → (c : Chunk) (rest : List ℕ) → load_chunk chunk ≡ got c rest → Valid c.root depth
loaded_valid chunk h c rest e = (rw e at (chunk_gives.gives chunk h)).0

pub load_refuses : (chunk : List ℕ) → Bytes chunk → (n : ℕ) → load_chunk chunk ≡ refused n → (2 ≤ n) × (n ≤ 7)
load_refuses chunk h n e = rw e at (chunk_gives.gives chunk h)
