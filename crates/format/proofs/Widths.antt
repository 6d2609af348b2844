-- Telling size_4 gives no new refusal: each size of a well-formed tree fits four bytes (size_fits), and a chunk with sizes of four bytes
-- is no longer than that with eight, so whoever lends room for the one lends room for the other.
use Rattle.lent.proofs.Prelude.{ℕ, ◌≤◌, ◌≡◌, ap, sym, ◌∙◌, List, [], ◌∷◌, ◌++◌, Bool, true, false, arith, length, length-append, le-leb}
use Rattle.format.specs.Tree.{Constant, Source, Local, Debug, Function, count, filled, kept}
use Rattle.format.specs.Write.{dump_int, dump_string, each, dump_list, dump_code, dump_constant, dump_local, dump_debug, elided, dump_function, dump_functions, dump_header, dump_chunk}
use Rattle.format.specs.Stored.{tree_of}
use Rattle.format.specs.Dump.{WriteLeft, dumped}
use Rattle.format.proofs.RoundTrip.{dumped_length}
use Rattle.format.proofs.Filled.{by_tree}
use Rattle.format.proofs.Calls.{DumpOutcome, dump_positive, dump_outcome}

record NoLonger (s t : List ℕ) : Type 0 where
  le : length s ≤ length t

same : (l : List ℕ) → NoLonger l l
same l = record { le = omega arith }

both : {s s' t t' : List ℕ} → NoLonger s s' → NoLonger t t' → NoLonger (s ++ t) (s' ++ t')
both {s} {s'} {t} {t'} h k = record { le = omega (arith, h.le, k.le, length-append s t, length-append s' t') }

all : {A : Type 0} {e e' : A → List ℕ} → ((a : A) → NoLonger (e a) (e' a)) → (l : List A) → NoLonger (each e l) (each e' l)
unfolding each
all h [] = same []
all h (a ∷ l) = both (h a) (all h l)

string_law : (s : Source) → NoLonger (dump_string true s) (dump_string false s)
string_law Source.inherited = record { le = simp dumped_length (omega arith) }
string_law (Source.own s) = record { le = simp (length-append, dumped_length) (omega arith) }

constant_law : (k : Constant) → NoLonger (dump_constant true k) (dump_constant false k)
constant_law Constant.nil = same _
constant_law (Constant.bool b) = same _
constant_law (Constant.num high low) = same _
constant_law (Constant.str s) = both (same (4 ∷ [])) (string_law (Source.own s))

list_law : {A : Type 0} {e e' : A → List ℕ} → ((a : A) → NoLonger (e a) (e' a)) → (l : List A) → NoLonger (dump_list e l) (dump_list e' l)
list_law h l = both (same (dump_int (length l))) (all h l)

local_law : (v : Local) → NoLonger (dump_local true v) (dump_local false v)
local_law v = both (both (string_law (Source.own v.name)) (same (dump_int v.start))) (same (dump_int v.end))

debug_law : (d : Debug) → NoLonger (dump_debug true d) (dump_debug false d)
debug_law d = both (both (same (dump_list dump_int d.lines)) (list_law local_law d.locals)) (list_law (λ s. string_law (Source.own s)) d.upvalues)

function_law : (strip : Bool) (f : Function) (around outer : List ℕ) → NoLonger (dump_function f strip true around outer) (dump_function f strip false around outer)
unfolding dump_function
function_law strip =
    by_tree (λ f. (around outer : List ℕ) → NoLonger (dump_function f strip true around outer) (dump_function f strip false around outer))
    (λ fs. (source : List ℕ) → NoLonger (dump_functions fs strip true source) (dump_functions fs strip false source))
    (λ p fs i around outer.
    let numbers = same (p.num_upvalues ∷ p.num_params ∷ p.is_vararg ∷ p.max_stack_size ∷ []) in
    let head = both (both (both (string_law (elided around (filled outer p.source))) (same (dump_int p.line_defined))) (same (dump_int p.last_line_defined))) numbers in
    both (both (both head (same (dump_code p.code))) (both (both (list_law constant_law p.constants) (same (dump_int (count fs)))) (i (filled outer p.source)))) (debug_law (kept strip p.debug)))
    (λ source. same []) (λ f fs i j source. both (i source source) (j source))

chunk_law : (strip : Bool) (name : List ℕ) (f : Function) → NoLonger (dump_chunk strip true name f) (dump_chunk strip false name f)
chunk_law strip name f = both {s = dump_header true} {s' = dump_header false} (record { le = omega arith }) (function_law strip f [] name)

-- ==== the statement: a call that is accepted with sizes of eight bytes is accepted with sizes of four

pub no_new_refusal : (words text name : List ℕ) (strip : Bool) (out : List ℕ) → (dumped words text name strip false out).answer.refusal ≡ 0 → (dumped words text name strip true out).answer.refusal ≡ 0
unfolding dumped
no_new_refusal words text name strip out e = by (dump_outcome words text name strip false out)
  where
    by : DumpOutcome name strip false out (tree_of words text) (dumped words text name strip false out) → (dumped words text name strip true out).answer.refusal ≡ 0
    by (DumpOutcome.refuses n r l) =
        let p = dump_positive r in
        let z : n ≡ 0 = ap (λ (u : WriteLeft). u.answer.refusal) (sym l) ∙ e in
        absurd (omega arith)
    by (DumpOutcome.dumps s) = let h = (chunk_law strip name s.tree).le in rw (s.named, s.held, le-leb (length (dump_chunk strip true name s.tree)) (length out) (omega (arith, s.fits)))
