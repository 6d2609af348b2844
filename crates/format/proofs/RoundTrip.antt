-- Reading finds what was written, whatever stands behind: a law for each part, then for the tree and the chunk.
use Rattle.lent.proofs.Prelude.{ℕ, zero, suc, ◌+◌, ◌/◌, ◌≤◌, ◌<◌, ◌^◌, ◌≡◌, refl, sym, ap, List, [], ◌∷◌, ◌++◌, map, append_assoc, Bool, true, false, cond, false≢true, and-eq-true_iff, arith, add-one, length, length-append, take_at, drop_at, eqb, le-leb, eq-eqb, eqb-true}
use Rattle.utf8.specs.Utf8.{repair}
use Rattle.utf8.proofs.Rows.{by_test}
use Rattle.utf8.proofs.Laws.{repair_utf8}
use Rattle.lent.specs.Memory.{Every, Word}
use Rattle.format.specs.Tree.{Constant, Source, Local, Debug, Parts, Function, Functions, count, filled, kept, no_debug, with, root_source, fill, fill_all, stripped, stripped_all}
use Rattle.format.specs.Read.{Reader, got, ◌>>=◌, return, load_block, load_byte, little_endian, load_number, load_int, width_of, load_size, string_of, load_string, load_text, limit, count_of, load_count, many, load_list, constant_of, load_constant, many_functions, load_constants, load_local, load_debug, load_function, same, signature, format, format_of, load_header}
use Rattle.format.specs.Write.{dump_number, dump_int, dump_size, dump_string, dump_text, each, dump_list, dump_constant, dump_constants, dump_local, dump_debug, elided, dump_function, dump_functions, dump_header, dump_chunk}
use Rattle.format.specs.Store.{Piece, pieces, constant_piece, local_piece, string, source_piece, function_piece, function_pieces, text_of}
use Rattle.format.specs.Valid.{depth, most, Name, ValidSource, ValidConstant, ValidLocal, ValidList, ValidDebug, ValidParts, Valid, ValidAll}
use Rattle.format.specs.Undump.{repaired_source, repaired_local, repaired, repaired_all, load_chunk}
use Rattle.format.proofs.Filled.{by_tree}

-- the reader r finds a where bs begin what it is given, and leaves what stands behind them
pub record Reads {A : Type 0} (r : Reader A) (bs : List ℕ) (a : A) : Type 0 where
  pub run : (rest : List ℕ) → r (bs ++ rest) ≡ got a rest

pub pure : {A : Type 0} (a : A) → Reads (return a) [] a
pure a = record { run = λ rest. refl }

pub step : {A B : Type 0} {r : Reader A} (k : A → Reader B) {bs : List ℕ} (cs : List ℕ) {a : A} {b : B} → Reads r bs a → Reads (k a) cs b → Reads (r >>= k) (bs ++ cs) b
step k {bs} cs p q = record { run = λ rest. rw (append_assoc bs cs rest, p.run (cs ++ rest)) (q.run rest) }

-- the last step, behind which nothing is read
pub last : {A B : Type 0} {r : Reader A} (k : A → Reader B) {bs : List ℕ} {a : A} {b : B} → Reads (k a) [] b → Reads r bs a → Reads (r >>= k) bs b
last k q p = record { run = λ rest. rw (p.run rest) (q.run rest) }

-- the same bytes, or the same value, by another name
pub bytes_are : {A : Type 0} {r : Reader A} {bs cs : List ℕ} {a : A} → bs ≡ cs → Reads r bs a → Reads r cs a
bytes_are e p = rw (← e) p

pub value_is : {A : Type 0} {r : Reader A} {bs : List ℕ} {a b : A} → a ≡ b → Reads r bs a → Reads r bs b
value_is e p = rw (← e) p

-- ---- numbers: a law for every width

pub byte_law : (b : ℕ) → Reads load_byte (b ∷ []) b
byte_law b = record { run = λ rest. refl }

pub block_law : (bs : List ℕ) → Reads (load_block (length bs)) bs bs
block_law bs =
    record { run = λ rest. rw (le-leb (length bs) (length (bs ++ rest)) (simp length-append (omega arith)), load_block, take_at bs rest (length bs) refl, drop_at bs rest (length bs) refl) }

pub dumped_length : (width n : ℕ) → length (dump_number width n) ≡ width
unfolding dump_number
dumped_length zero n = refl
dumped_length (suc width) n = ap suc (dumped_length width (n / 256))

dumped_value : (width n : ℕ) → n < 256 ^ width → little_endian (dump_number width n) ≡ n
unfolding dump_number little_endian
dumped_value zero n h = omega arith
dumped_value (suc width) n h = rw (dumped_value width (n / 256) (omega arith)) (omega arith)

pub number_law : (width n : ℕ) → n < 256 ^ width → Reads (load_number width) (dump_number width n) n
number_law width n h =
    let b : Reads (load_block width) (dump_number width n) (dump_number width n) = rw dumped_length at (block_law (dump_number width n)) in
    value_is (dumped_value width n h) (last _ (pure _) b)

pub int_law : (n : ℕ) → Word n → Reads load_int (dump_int n) n
int_law n h = number_law 4 n h

-- the size of a string of a well-formed store fits both widths: no width adds a refusal
pub size_fits : (size4 : Bool) (n : ℕ) → n ≤ suc most → n < 256 ^ width_of size4
size_fits true n h = omega arith
size_fits false n h = omega arith

pub size_law : (size4 : Bool) (n : ℕ) → n ≤ suc most → Reads (load_size size4) (dump_size size4 n) n
unfolding load_size
size_law size4 n h = number_law (width_of size4) n (size_fits size4 n h)

-- ---- strings

pub string_law : (size4 : Bool) (s : Source) → length (filled [] s) ≤ most → Reads (load_string size4) (dump_string size4 s) s
string_law size4 Source.inherited h = last string_of (pure Source.inherited) (size_law size4 0 (omega arith))
string_law size4 (Source.own s) h =
    bytes_are (sym (append_assoc (dump_size size4 (length s + 1)) s (0 ∷ [])))
    (step string_of (s ++ 0 ∷ []) (value_is (add-one (length s)) (size_law size4 (length s + 1) (omega arith))) (step _ (0 ∷ []) (block_law s) (last _ (pure (Source.own s)) (byte_law 0))))

pub text_law : (size4 : Bool) (s : List ℕ) → length s ≤ most → Reads (load_text size4) (dump_text size4 s) s
text_law size4 s h = last _ (pure s) (string_law size4 (Source.own s) h)

-- ---- lists: a count, then the items

pub count_law : (n : ℕ) → n ≤ limit → Reads load_count (dump_int n) n
count_law n h = last count_of (rw (le-leb n limit h) (pure n)) (int_law n (omega arith))

many_law : {A : Type 0} (P : A → Type 0) (r : Reader A) (e : A → List ℕ) → ((a : A) → P a → Reads r (e a) a) → (l : List A) → Every P l → Reads (many r (length l)) (each e l) l
unfolding many each Every
many_law P r e law [] h = pure []
many_law P r e law (a ∷ l) h = step _ (each e l) (law a h.0) (last _ (pure (a ∷ l)) (many_law P r e law l h.1))

pub list_law : {A : Type 0} {P : A → Type 0} (r : Reader A) (e : A → List ℕ) → ((a : A) → P a → Reads r (e a) a) → (l : List A) → ValidList P l → Reads (load_list r) (dump_list e l) l
list_law {P} r e law l h = step (many r) (each e l) (count_law (length l) h.short) (many_law P r e law l h.items)

-- ---- a tree's parts, where its text is not too long

-- an item whose text is not too long
abbrev Short : {A : Type 0} → (A → Type 0) → (A → Piece) → A → Type 0
Short P piece a = P a × (length (piece a).text ≤ most)

shorts : {A : Type 0} (P : A → Type 0) (piece : A → Piece) (l : List A) → Every P l → length (pieces piece l).text ≤ most → Every (Short P piece) l
unfolding Every pieces
shorts P piece [] h m = tt
shorts P piece (a ∷ l) h m =
    let m' : length (piece a).text + length (pieces piece l).text ≤ most = simp length-append at m in
    ((h.0, omega arith), shorts P piece l h.1 (omega arith))

short_list : {A : Type 0} {P : A → Type 0} (piece : A → Piece) (l : List A) → ValidList P l → length (pieces piece l).text ≤ most → ValidList (Short P piece) l
short_list {P} piece l h m = record { items = shorts P piece l h.items m; short = h.short }

pub constant_law : (size4 : Bool) (k : Constant) → Short ValidConstant constant_piece k → Reads (load_constant size4) (dump_constant size4 k) k
constant_law size4 Constant.nil h = last (constant_of size4) (pure Constant.nil) (byte_law 0)
constant_law size4 (Constant.bool true) h = step (constant_of size4) (1 ∷ []) (byte_law 1) (last _ (pure (Constant.bool true)) (byte_law 1))
constant_law size4 (Constant.bool false) h = step (constant_of size4) (0 ∷ []) (byte_law 1) (last _ (pure (Constant.bool false)) (byte_law 0))
constant_law size4 (Constant.num high low) h =
    step (constant_of size4) (dump_int low ++ dump_int high) (byte_law 3) (step _ (dump_int high) (int_law low h.0.1) (last _ (pure (Constant.num high low)) (int_law high h.0.0)))
constant_law size4 (Constant.str s) h = step (constant_of size4) (dump_text size4 s) (byte_law 4) (last _ (pure (Constant.str s)) (text_law size4 s h.1))

pub local_law : (size4 : Bool) (v : Local) → Short ValidLocal local_piece v → Reads (load_local size4) (dump_local size4 v) v
local_law size4 v h =
    let m : length v.name + 0 ≤ most = simp length-append at h.1 in
    bytes_are (simp append_assoc) (step _ _ (text_law size4 v.name (omega arith)) (step _ _ (int_law v.start h.0.start) (last _ (pure v) (int_law v.end h.0.end))))

no_debug_law : ValidDebug no_debug
unfolding Every
no_debug_law = record { lines = omega arith; locals = omega arith; upvalues = omega arith }

pub debug_law : (size4 : Bool) (d : Debug) → ValidDebug d → length (pieces local_piece d.locals).text ≤ most → length (pieces string d.upvalues).text ≤ most → Reads (load_debug size4) (dump_debug size4 d) d
unfolding load_debug
debug_law size4 d v h k =
    bytes_are (simp append_assoc)
    (step _ _ (list_law load_int dump_int int_law d.lines v.lines)
    (step _ _ (list_law (load_local size4) (dump_local size4) (local_law size4) d.locals (short_list local_piece d.locals v.locals h))
    (last _ (pure d) (list_law (load_text size4) (dump_text size4) (λ s m. text_law size4 s m.1) d.upvalues (short_list string d.upvalues v.upvalues k)))))

pub constants_law : (size4 : Bool) (child : Reader Function) (ks : List Constant) (n : ℕ) (fs : Functions) (bytes : List ℕ)
    → ValidList ValidConstant ks → length (pieces constant_piece ks).text ≤ most → n ≤ limit → Reads (many_functions child n) bytes fs
    → Reads (load_constants size4 child) (dump_constants size4 ks n bytes) (record { constants = ks; functions = fs })
unfolding load_constants
constants_law size4 child ks n fs bytes v h k functions =
    bytes_are (simp append_assoc)
    (step _ _ (list_law (load_constant size4) (dump_constant size4) (constant_law size4) ks (short_list constant_piece ks v h)) (last _ (pure _) (step (many_functions child) bytes (count_law n k) functions)))

-- ---- the tree that reading finds where a tree was written

unfoldable mutual
  pub read_back : Function → Bool → List ℕ → List ℕ → Function
  read_back (Function.function p fs) strip around outer =
      Function.function (with (elided around (filled outer p.source)) (kept strip p.debug) p) (read_back_all fs strip (filled outer p.source))

  pub read_back_all : Functions → Bool → List ℕ → Functions
  read_back_all Functions.none strip source = Functions.none
  read_back_all (Functions.more f fs) strip source = Functions.more (read_back f strip source source) (read_back_all fs strip source)

filled_short : (outer : List ℕ) (s : Source) → length outer ≤ most → length (source_piece s).text ≤ most → length (filled outer s) ≤ most
filled_short outer Source.inherited h m = h
filled_short outer (Source.own s) h m = m

-- what holds of both holds of either
pub either : {A : Type 0} (P : A → Type 0) (b : Bool) {x y : A} → P x → P y → P (cond b x y)
either P true h k = h
either P false h k = k

mutual
  unfolding read_back dump_function load_function many_functions count Valid function_piece pieces

  pub function_law : (f : Function) (allowance : ℕ) (strip size4 : Bool) (around outer : List ℕ) → Valid f allowance → length (text_of f) ≤ most → length outer ≤ most
      → Reads (load_function size4 allowance) (dump_function f strip size4 around outer) (read_back f strip around outer)
  function_law (Function.function p fs) zero strip size4 around outer v m h = absurd v
  function_law (Function.function p fs) (suc allowance) strip size4 around outer v m h =
      let t = simp length-append at m in
      let s = filled outer p.source in
      let short = filled_short outer p.source h (omega arith) in
      bytes_are (simp append_assoc)
      (step _ _ (string_law size4 (elided around s) (either (λ x. length (filled [] x) ≤ most) (same s around) (omega arith) short))
      (step _ _ (int_law p.line_defined v.0.line_defined)
      (step _ _ (int_law p.last_line_defined v.0.last_line_defined)
      (step _ _ (byte_law p.num_upvalues)
      (step _ _ (byte_law p.num_params)
      (step _ _ (byte_law p.is_vararg)
      (step _ _ (byte_law p.max_stack_size)
      (step _ _ (list_law load_int dump_int int_law p.code v.0.code)
      (step _ _ (constants_law size4 (load_function size4 allowance) p.constants (count fs) (read_back_all fs strip s) _ v.0.constants (omega arith) v.1 (functions_law fs allowance strip size4 s v.2 (omega arith) short))
      (last _ (pure _) (either (λ d. Reads (load_debug size4) (dump_debug size4 d) d) strip
      (debug_law size4 no_debug no_debug_law (omega arith) (omega arith)) (debug_law size4 p.debug v.0.debug (omega arith) (omega arith)))))))))))))

  pub functions_law : (fs : Functions) (allowance : ℕ) (strip size4 : Bool) (source : List ℕ) → ValidAll fs allowance → length (function_pieces fs).text ≤ most → length source ≤ most
      → Reads (many_functions (load_function size4 allowance) (count fs)) (dump_functions fs strip size4 source) (read_back_all fs strip source)
  functions_law Functions.none allowance strip size4 source v m h = pure Functions.none
  functions_law (Functions.more f fs) allowance strip size4 source v m h =
      let m' : length (text_of f) + length (function_pieces fs).text ≤ most = simp length-append at m in
      step _ _ (function_law f allowance strip size4 source source v.0 (omega arith) h) (last _ (pure _) (functions_law fs allowance strip size4 source v.1 (omega arith) h))

-- ---- the tree found is well formed too, so repair leaves it alone

pub filled_name : (outer : List ℕ) (s : Source) → Name outer → ValidSource s → Name (filled outer s)
filled_name outer Source.inherited h v = h
filled_name outer (Source.own s) h v = v

-- the parts with another source and other debug lists
pub with_valid : (s : Source) (d : Debug) (p : Parts) → ValidSource s → ValidDebug d → ValidParts p → ValidParts (with s d p)
with_valid s d p hs hd v = search

mutual
  unfolding read_back Valid count

  pub found_valid : (f : Function) (allowance : ℕ) (strip : Bool) (around outer : List ℕ) → Valid f allowance → Name outer → Valid (read_back f strip around outer) allowance
  found_valid (Function.function p fs) zero strip around outer v h = v
  found_valid (Function.function p fs) (suc allowance) strip around outer v h =
      let s = filled_name outer p.source h v.0.source in (
        with_valid _ _ p (either ValidSource (same (filled outer p.source) around) tt s) (either ValidDebug strip no_debug_law v.0.debug) v.0,
        omega (arith, found_count fs strip (filled outer p.source), v.1),
        found_all_valid fs allowance strip (filled outer p.source) v.2 s,
      )

  found_count : (fs : Functions) (strip : Bool) (source : List ℕ) → count (read_back_all fs strip source) ≡ count fs
  found_count Functions.none strip source = refl
  found_count (Functions.more f fs) strip source = ap suc (found_count fs strip source)

  found_all_valid : (fs : Functions) (allowance : ℕ) (strip : Bool) (source : List ℕ) → ValidAll fs allowance → Name source → ValidAll (read_back_all fs strip source) allowance
  found_all_valid Functions.none allowance strip source v h = tt
  found_all_valid (Functions.more f fs) allowance strip source v h = (found_valid f allowance strip source source v.0 h, found_all_valid fs allowance strip source v.1 h)

map_same : {A : Type 0} {P : A → Type 0} (g : A → A) → ((a : A) → P a → g a ≡ a) → (l : List A) → Every P l → map g l ≡ l
unfolding Every
map_same g law [] h = refl
map_same g law (a ∷ l) h = cc (law a h.0, map_same g law l h.1)

source_same : (s : Source) → ValidSource s → repaired_source s ≡ s
source_same Source.inherited v = refl
source_same (Source.own s) v = ap Source.own (repair_utf8 s v)

local_same : (l : Local) → ValidLocal l → repaired_local l ≡ l
local_same l v = rw (repair_utf8 l.name v.name) refl

mutual
  unfolding repaired Valid

  pub repaired_same : (f : Function) (allowance : ℕ) → Valid f allowance → repaired f ≡ f
  repaired_same (Function.function p fs) zero v = absurd v
  repaired_same (Function.function p fs) (suc allowance) v =
      let d = v.0.debug in
      rw (
        source_same p.source v.0.source,
        map_same repaired_local local_same p.debug.locals d.locals.items,
        map_same repair repair_utf8 p.debug.upvalues d.upvalues.items,
        repaired_all_same fs allowance v.2,
      )

  repaired_all_same : (fs : Functions) (allowance : ℕ) → ValidAll fs allowance → repaired_all fs ≡ fs
  repaired_all_same Functions.none allowance v = refl
  repaired_all_same (Functions.more f fs) allowance v = rw (repaired_same f allowance v.0, repaired_all_same fs allowance v.1)

-- ---- with sources filled in it is the tree that was written, stripped or not

pub same_true : (s t : List ℕ) → same s t ≡ true → s ≡ t
unfolding same
same_true [] [] e = refl
same_true [] (b ∷ t) e = absurd (false≢true e)
same_true (a ∷ s) [] e = absurd (false≢true e)
same_true (a ∷ s) (b ∷ t) e =
    let e' = (and-eq-true_iff (eqb a b) (same s t)).0 e in
    cc (eqb-true a b e'.0, same_true s t e'.1)

same_self : (s : List ℕ) → same s s ≡ true
unfolding same
same_self [] = refl
same_self (a ∷ s) = rw (eq-eqb a a refl) (same_self s)

-- a test that tells whether two lists are the same is the definition's
pub same_is : (t : Bool) (a b : List ℕ) → (t ≡ true → a ≡ b) × (a ≡ b → t ≡ true) → same a b ≡ t
same_is true a b h = rw (h.0 refl) (same_self b)
same_is false a b h = by_test (λ x. x ≡ false) (same a b) (λ e. sym (h.1 (same_true a b e))) (λ e. refl)

-- an elided source is found again under the one that it was elided for
refilled : (around s under : List ℕ) → (s ≡ around → under ≡ s) → filled under (elided around s) ≡ s
refilled around s under h =
    by_test (λ b. filled under (cond b Source.inherited (Source.own s)) ≡ s) (same s around) (λ e. h (same_true s around e)) (λ e. refl)

pub found_filled : (f : Function) (strip : Bool) (around outer under : List ℕ) → (root_source f outer ≡ around → under ≡ root_source f outer)
    → fill (read_back f strip around outer) under ≡ fill (stripped f strip) outer
unfolding read_back fill stripped
found_filled f strip =
    by_tree (λ f. (around outer under : List ℕ) → (root_source f outer ≡ around → under ≡ root_source f outer) → fill (read_back f strip around outer) under ≡ fill (stripped f strip) outer)
    (λ fs. (source : List ℕ) → fill_all (read_back_all fs strip source) source ≡ fill_all (stripped_all fs strip) source)
    (λ p fs i around outer under h. rw (refilled around (filled outer p.source) under h, i (filled outer p.source)))
    (λ source. refl) (λ f fs i j source. rw (i source source source (λ e. sym e), j source)) f

-- ---- a whole chunk

pub header_law : (size4 : Bool) → Reads load_header (dump_header size4) size4
unfolding load_header same
header_law size4 = step _ (format size4) (last _ (pure signature) (block_law signature)) (last format_of (known size4) (block_law (format size4)))
  where
    known : (size4 : Bool) → Reads (format_of (format size4)) [] size4
    known true = pure true
    known false = pure false

pub chunk_law : (f : Function) (strip size4 : Bool) (name : List ℕ) → Valid f depth → length (text_of f) ≤ most → Name name → length name ≤ most
    → Reads load_chunk (dump_chunk strip size4 name f) (record { size4 = size4; root = read_back f strip [] name })
unfolding load_chunk
chunk_law f strip size4 name v m n h =
    step _ _ (header_law size4) (last _ (value_is (ap (λ (g : Function). record { size4 = size4; root = g }) (repaired_same _ depth (found_valid f depth strip [] name v n))) (pure _)) (function_law f depth strip size4 [] name v m h))
