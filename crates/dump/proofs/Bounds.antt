-- How long a chunk is at most: 12 bytes, five for each word of its store, its text, and the chunk name.
use Rattle.lent.proofs.Prelude.{ℕ, ◌+◌, ◌*◌, ◌≤◌, ◌≡◌, refl, List, [], ◌∷◌, ◌++◌, append_assoc, Bool, true, false, cond, arith, length, length-append}
use Rattle.lent.specs.Memory.{Every}
use Rattle.format.specs.Tree.{Constant, Source, Local, Debug, Parts, Function, Functions, filled, kept}
use Rattle.format.specs.Read.{same}
use Rattle.format.specs.Store.{Piece, plain, word, ◌⊕◌, string, pieces, list, ints, source_piece, constant_piece, local_piece, debug_piece, packed, function_piece, children_piece, words_of, text_of}
use Rattle.format.specs.Write.{dump_number, dump_int, dump_string, dump_text, each, dump_list, dump_code, dump_constant, dump_local, dump_debug, elided, dump_function, dump_header, dump_chunk}
use Rattle.format.proofs.RoundTrip.{same_is}
use Rattle.proto.specs.Walk.{children}
use Rattle.proto.proofs.Pieces.{Same, same_refl, same_sym, same_assoc}
use Rattle.dump.proofs.Blocks.{int_length, width_within, size_length, string_length, code_length}
use Rattle.dump.proofs.Lists.{every_all}
use Rattle.dump.proofs.Functions.{constants_list, constants_bytes, seven}

-- the bytes b of the piece p are no more than five for each word, its text, and x
record Bound (p : Piece) (b : List ℕ) (x : ℕ) : Type 0 where
  bound : (to : ℕ) → length b ≤ 5 * length (p.words to) + length p.text + x

bound_then : {p q : Piece} {b c : List ℕ} {x : ℕ} → Bound p b x → Bound q c 0 → Bound (p ⊕ q) (b ++ c) x
bound_then {p} d e = record { bound = λ to. simp length-append (omega (arith, d.bound to, e.bound (to + length p.text))) }

module _ {A : Type 0} (piece : A → Piece) (bytes : A → List ℕ) where
  bound_each : (l : List A) → Every (λ a. Bound (piece a) (bytes a) 0) l → Bound (pieces piece l) (each bytes l) 0
  unfolding pieces each Every
  bound_each [] h = record { bound = λ to. omega arith }
  bound_each (a ∷ l) h = bound_then h.0 (bound_each l h.1)

-- the piece and the bytes written otherwise
bound_as : {p q : Piece} {b c : List ℕ} {x : ℕ} → Same p q → b ≡ c → Bound q c x → Bound p b x
bound_as e f d = record { bound = λ to. rw (e.words to, e.text, f) (d.bound to) }

bound_three : {p q o : Piece} {x y z : List ℕ} → Bound p x 0 → Bound q y 0 → Bound o z 0 → Bound (p ⊕ q ⊕ o) (x ++ y ++ z) 0
bound_three {x = x} {y} {z} u v w = bound_as same_refl (append_assoc x y z) (bound_then u (bound_then v w))

bound_seven : {p₁ p₂ p₃ p₄ p₅ p₇ : Piece} (p₆ p₆′ : Piece) {x₁ x₂ x₃ x₄ x₅ x₆ x₇ : List ℕ} {n : ℕ} → Bound p₁ x₁ n → Bound p₂ x₂ 0 → Bound p₃ x₃ 0 → Bound p₄ x₄ 0 → Bound p₅ x₅ 0 → Bound (p₆ ⊕ p₆′) x₆ 0 → Bound p₇ x₇ 0
    → Bound (p₁ ⊕ p₂ ⊕ p₃ ⊕ p₄ ⊕ p₅ ⊕ p₆ ⊕ p₆′ ⊕ p₇) (x₁ ++ x₂ ++ x₃ ++ x₄ ++ x₅ ++ x₆ ++ x₇) n
bound_seven {p₇ = p₇} p₆ p₆′ {x₁} {x₂} {x₃} {x₄} {x₅} {x₆} {x₇} u₁ u₂ u₃ u₄ u₅ u₆ u₇ =
    let behind = bound_as (same_sym (same_assoc p₆ p₆′ p₇)) refl (bound_then u₆ u₇) in
    bound_as same_refl (seven x₁ x₂ x₃ x₄ x₅ x₆ x₇) (bound_then u₁ (bound_then u₂ (bound_then u₃ (bound_then u₄ (bound_then u₅ behind)))))

bound_word : (w n : ℕ) → Bound (word w) (dump_int n) 0
bound_word w n = record { bound = λ to. omega (arith, int_length n) }

bound_list : {A : Type 0} (piece : A → Piece) (bytes : A → List ℕ) (l : List A) → Every (λ a. Bound (piece a) (bytes a) 0) l → Bound (list piece l) (dump_list bytes l) 0
bound_list piece bytes l h = bound_then (bound_word (length l) (length l)) (bound_each piece bytes l h)

-- a count of 0 in place of a list
bound_zero : (n : ℕ) (p : Piece) → Bound (word n ⊕ p) (dump_int 0) 0
bound_zero n p = record { bound = λ to. omega (arith, int_length 0) }

bound_ints : (l : List ℕ) → Bound (ints l) (dump_code l) 0
bound_ints l = record { bound = λ to. omega (arith, code_length l) }

bound_name : (size4 : Bool) (s : List ℕ) → Bound (string s) (dump_text size4 s) 0
bound_name size4 s = record { bound = λ to. omega (arith, string_length size4 s, width_within size4) }

bound_local : (size4 : Bool) (v : Local) → Bound (local_piece v) (dump_local size4 v) 0
bound_local size4 v = bound_three (bound_name size4 v.name) (bound_word v.start v.start) (bound_word v.end v.end)

bound_constant : (size4 : Bool) (k : Constant) → Bound (constant_piece k) (dump_constant size4 k) 0
unfolding dump_number
bound_constant size4 Constant.nil = record { bound = λ to. omega arith }
bound_constant size4 (Constant.bool b) = record { bound = λ to. omega arith }
bound_constant size4 (Constant.num high low) = record { bound = λ to. omega arith }
bound_constant size4 (Constant.str s) = record { bound = λ to. omega (arith, string_length size4 s, width_within size4) }

bound_debug : (strip size4 : Bool) (d : Debug) → Bound (debug_piece d) (dump_debug size4 (kept strip d)) 0
unfolding each dump_number
bound_debug true size4 d = bound_three (bound_zero (length d.lines) (plain d.lines)) (bound_zero (length d.locals) (pieces local_piece d.locals)) (bound_zero (length d.upvalues) (pieces string d.upvalues))
bound_debug false size4 d =
    bound_three (bound_ints d.lines) (bound_list local_piece (dump_local size4) d.locals (every_all (bound_local size4) d.locals)) (bound_list string (dump_text size4) d.upvalues (every_all (bound_name size4) d.upvalues))

-- ---- sources

-- one that is elided or not, and no longer than n
bound_string : (size4 e : Bool) (s : List ℕ) (n : ℕ) → length s ≤ n → length (dump_string size4 (cond e Source.inherited (Source.own s))) ≤ 9 + n
bound_string size4 true s n h = omega (arith, size_length size4 0, width_within size4)
bound_string size4 false s n h = omega (arith, string_length size4 s, width_within size4)

-- around the root, an inherited one stands for outer
bound_root_source : (size4 : Bool) (around outer : List ℕ) (s : Source) → Bound (source_piece s) (dump_string size4 (elided around (filled outer s))) (length outer)
bound_root_source size4 around outer Source.inherited = record { bound = λ to. let i = bound_string size4 (same outer around) outer (length outer) (omega arith) in omega (arith, i) }
bound_root_source size4 around outer (Source.own s) = record { bound = λ to. let i = bound_string size4 (same s around) s (length s) (omega arith) in omega (arith, i) }

-- elsewhere it is elided
bound_source : (size4 : Bool) (outer : List ℕ) (s : Source) → Bound (source_piece s) (dump_string size4 (elided outer (filled outer s))) 0
bound_source size4 outer Source.inherited = let e : same outer outer ≡ true = same_is true outer outer ((λ k. refl), λ k. refl) in rw e (record { bound = λ to. omega (arith, size_length size4 0, width_within size4) })
bound_source size4 outer (Source.own s) = record { bound = λ to. let i = bound_string size4 (same s outer) s (length s) (omega arith) in omega (arith, i) }

-- ---- functions

-- a function whose source is written so, and the functions in it
bound_parts : (p : Parts) (fs : Functions) (strip size4 : Bool) (around outer : List ℕ) (x : ℕ) → Bound (source_piece p.source) (dump_string size4 (elided around (filled outer p.source))) x
    → Every (λ f. Bound (function_piece f) (dump_function f strip size4 (filled outer p.source) (filled outer p.source)) 0) (children fs)
    → Bound (function_piece (Function.function p fs)) (dump_function (Function.function p fs) strip size4 around outer) x
unfolding function_piece dump_function
bound_parts p fs strip size4 around outer x h functions =
    let source = filled outer p.source in
    let constants = list constant_piece p.constants in
    let four : Bound (word (packed p)) (p.num_upvalues ∷ p.num_params ∷ p.is_vararg ∷ p.max_stack_size ∷ []) 0 = record { bound = λ to. omega arith } in
    let inside = bound_as (constants_list p.constants fs) (constants_bytes strip size4 source p.constants fs) (bound_then (bound_list constant_piece (dump_constant size4) p.constants (every_all (bound_constant size4) p.constants)) (bound_list function_piece (λ f. dump_function f strip size4 source source) (children fs) functions)) in
    bound_seven constants (children_piece fs) h (bound_word p.line_defined p.line_defined) (bound_word p.last_line_defined p.last_line_defined) four (bound_ints p.code) inside (bound_debug strip size4 p.debug)

mutual
  unfolding children Every

  bound_function : (f : Function) (strip size4 : Bool) (source : List ℕ) → Bound (function_piece f) (dump_function f strip size4 source source) 0
  bound_function (Function.function p fs) strip size4 source = bound_parts p fs strip size4 source source 0 (bound_source size4 source p.source) (bound_functions fs strip size4 (filled source p.source))

  bound_functions : (fs : Functions) (strip size4 : Bool) (source : List ℕ) → Every (λ f. Bound (function_piece f) (dump_function f strip size4 source source) 0) (children fs)
  bound_functions Functions.none strip size4 source = tt
  bound_functions (Functions.more f fs) strip size4 source = (bound_function f strip size4 source, bound_functions fs strip size4 source)

pub chunk_bound : (f : Function) (strip size4 : Bool) (name : List ℕ) → length (dump_chunk strip size4 name f) ≤ 12 + 5 * length (words_of f) + length (text_of f) + length name
chunk_bound (Function.function p fs) strip size4 name =
    let b = (bound_parts p fs strip size4 [] name (length name) (bound_root_source size4 [] name p.source) (bound_functions fs strip size4 (filled name p.source))).bound 0 in
    let l : length (dump_chunk strip size4 name (Function.function p fs)) ≡ 12 + length (dump_function (Function.function p fs) strip size4 [] name) = length-append (dump_header size4) (dump_function (Function.function p fs) strip size4 [] name) in
    omega (arith, b, l)
