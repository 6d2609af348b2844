-- The tree that a store holds, computed: what its words say, where the store is that tree's.
use Rattle.std.specs.Prelude.{ℕ, zero, suc, ◌/◌, ◌%◌, ◌^◌, ◌≡◌, refl, List, [], ◌∷◌, ◌++◌, Bool, true, false, cond, not, length, take, drop, eqb}
use Rattle.std.proofs.Math.Logic.{ite}
use Rattle.std.proofs.Math.Option.{Option, none, some}
use Rattle.std.proofs.lemmas.Bool.{false≢true}
use Rattle.std.proofs.Common.{arith}
use Rattle.std.proofs.Math.Decide.{ℕ_discrete, dec_le, dec_lt}
use Rattle.lent.specs.Memory.{Every, Byte, Word}
use Rattle.utf8.specs.Utf8.{is_utf8}
use Rattle.format.specs.Tree.{Constant, Source, Local, Debug, Parts, Function, Functions, count}
use Rattle.format.specs.Read.{Read, Reader, ◌>>=◌, return, refuse, load_byte as word, many, many_functions, limit}
use Rattle.format.specs.Store.{words_of, text_of}
use Rattle.format.specs.Valid.{depth, most, Name, ValidSource, ValidConstant, ValidLocal, ValidList, ValidDebug, ValidParts, Valid, ValidAll, Holds}

-- ---- what the words say, read off as a chunk is

-- a string of the text
abbrev pub part : List ℕ → ℕ → ℕ → List ℕ
part text place n = take n (drop place text)

-- the list xs, from a place on, begins with s
pub record Here (xs : List ℕ) (place : ℕ) (s : List ℕ) : Type 0 where
  pub more : List ℕ
  pub is : drop place xs ≡ s ++ more

module _ (text : List ℕ) where
  abbrev pub stored_source : Reader Source
  stored_source = do
    own ← word
    place ← word
    n ← word
    return (cond (eqb own 0) Source.inherited (Source.own (part text place n)))

  abbrev pub stored_constant : Reader Constant
  stored_constant = do
    kind ← word
    a ← word
    b ← word
    cond (eqb kind 0) (return Constant.nil)
        (cond (eqb kind 1) (return (Constant.bool (not (eqb a 0))))
        (cond (eqb kind 3) (return (Constant.num a b))
        (cond (eqb kind 4) (return (Constant.str (part text a b))) (refuse 10))))

  abbrev pub stored_name : Reader (List ℕ)
  stored_name = do
    place ← word
    n ← word
    return (part text place n)

  abbrev pub stored_local : Reader Local
  stored_local = do
    s ← stored_name
    start ← word
    end ← word
    return (record { name = s; start = start; end = end })

  abbrev pub stored_debug : Reader Debug
  stored_debug = do
    li ← word >>= many word
    lo ← word >>= many stored_local
    up ← word >>= many stored_name
    return (record { lines = li; locals = lo; upvalues = up })

  unfoldable pub stored_function : ℕ → Reader Function
  stored_function zero = refuse 10
  stored_function (suc allowance) = do
    src ← stored_source
    ld ← word
    lld ← word
    w ← word
    code ← word >>= many word
    ks ← word >>= many stored_constant
    fs ← word >>= many_functions (stored_function allowance)
    de ← stored_debug
    return (Function.function (record { source = src; line_defined = ld; last_line_defined = lld; num_upvalues = w / 16777216; num_params = w / 65536 % 256; is_vararg = w / 256 % 256; max_stack_size = w % 256; code = code; constants = ks; debug = de }) fs)

-- ---- whether the store is the tree's, decided part by part as Valid and Holds are written

unfoldable pub both? : {P Q : Type 0} → Dec P → Dec Q → Dec (P × Q)
both? (yes p) (yes q) = yes (p, q)
both? (yes p) (no q) = no (λ h. q h.1)
both? (no p) d = no (λ h. p h.0)

-- by another statement of the same
unfoldable pub as? : {P Q : Type 0} → (P → Q) → (Q → P) → Dec P → Dec Q
as? f g (yes p) = yes (f p)
as? f g (no p) = no (λ q. p (g q))

unfoldable pub true? : (b : Bool) → Dec (b ≡ true)
true? true = yes refl
true? false = no (λ e. false≢true e)

unfoldable pub every? : {A : Type 0} {P : A → Type 0} → ((a : A) → Dec (P a)) → (l : List A) → Dec (Every P l)
unfolding Every
every? d [] = yes tt
every? d (a ∷ l) = both? (d a) (every? d l)

unfoldable pub same? : (s t : List ℕ) → Dec (s ≡ t)
same? [] [] = yes refl
same? [] (b ∷ t) = no (λ e. let z : ◌≡◌ {A = ℕ} 0 1 = cc in omega arith)
same? (a ∷ s) [] = no (λ e. let z : ◌≡◌ {A = ℕ} 0 1 = cc in omega arith)
same? (a ∷ s) (b ∷ t) = as? (λ h. rw (h.0, h.1)) (λ e. (cc, cc)) (both? (ℕ_discrete a b) (same? s t))

abbrev pub byte? : (b : ℕ) → Dec (Byte b)
byte? b = dec_lt b 256

abbrev pub word? : (w : ℕ) → Dec (Word w)
word? w = dec_lt w (2 ^ 32)

abbrev pub name? : (s : List ℕ) → Dec (Name s)
name? s = true? (is_utf8 s)

abbrev pub source? : (s : Source) → Dec (ValidSource s)
source? Source.inherited = yes tt
source? (Source.own s) = name? s

abbrev pub constant? : (k : Constant) → Dec (ValidConstant k)
constant? Constant.nil = yes tt
constant? (Constant.bool b) = yes tt
constant? (Constant.num high low) = both? (word? high) (word? low)
constant? (Constant.str s) = every? byte? s

abbrev pub local? : (v : Local) → Dec (ValidLocal v)
local? v =
    as? (λ h. record { name = h.0; start = h.1.0; end = h.1.1 }) (λ k. (k.name, (k.start, k.end))) (both? (name? v.name) (both? (word? v.start) (word? v.end)))

abbrev pub list? : {A : Type 0} {P : A → Type 0} → ((a : A) → Dec (P a)) → (l : List A) → Dec (ValidList P l)
list? d l = as? (λ h. record { items = h.0; short = h.1 }) (λ k. (k.items, k.short)) (both? (every? d l) (dec_le (length l) limit))

abbrev pub debug? : (d : Debug) → Dec (ValidDebug d)
debug? d =
    as? (λ h. record { lines = h.0; locals = h.1.0; upvalues = h.1.1 }) (λ k. (k.lines, (k.locals, k.upvalues)))
    (both? (list? word? d.lines) (both? (list? local? d.locals) (list? name? d.upvalues)))

abbrev pub parts? : (p : Parts) → Dec (ValidParts p)
parts? p =
    as?
    (λ h.
    record {
      source = h.0;
      line_defined = h.1.0.0;
      last_line_defined = h.1.0.1;
      num_upvalues = h.1.1.0.0.0;
      num_params = h.1.1.0.0.1;
      is_vararg = h.1.1.0.1.0;
      max_stack_size = h.1.1.0.1.1;
      code = h.1.1.1.0;
      constants = h.1.1.1.1.0;
      debug = h.1.1.1.1.1;
    })
    (λ v. (
      v.source,
      ((v.line_defined, v.last_line_defined), (((v.num_upvalues, v.num_params), (v.is_vararg, v.max_stack_size)), (v.code, (v.constants, v.debug)))),
    ))
    (both? (source? p.source)
    (both? (both? (word? p.line_defined) (word? p.last_line_defined))
    (both? (both? (both? (byte? p.num_upvalues) (byte? p.num_params)) (both? (byte? p.is_vararg) (byte? p.max_stack_size)))
    (both? (list? word? p.code) (both? (list? constant? p.constants) (debug? p.debug))))))

unfoldable mutual
  unfolding Valid

  pub valid? : (f : Function) (allowance : ℕ) → Dec (Valid f allowance)
  valid? (Function.function p fs) zero = no (λ h. h)
  valid? (Function.function p fs) (suc allowance) =
      as? (λ h. (h.0, h.1.0, h.1.1)) (λ v. (v.0, (v.1, v.2))) (both? (parts? p) (both? (dec_le (count fs) limit) (valid_all? fs allowance)))

  pub valid_all? : (fs : Functions) (allowance : ℕ) → Dec (ValidAll fs allowance)
  valid_all? Functions.none allowance = yes tt
  valid_all? (Functions.more f fs) allowance = both? (valid? f allowance) (valid_all? fs allowance)

abbrev pub holds? : (words text : List ℕ) (f : Function) → Dec (Holds words text f)
holds? words text f =
    as? (λ h. record { valid = h.0; words_are = h.1.0.0; text_is = h.1.0.1; words_fit = h.1.1.0; text_fits = h.1.1.1 })
    (λ h. (h.valid, ((h.words_are, h.text_is), (h.words_fit, h.text_fits))))
    (both? (valid? f depth) (both? (both? (same? (words_of f) words) (same? (text_of f) text)) (both? (dec_le (length words) most) (dec_le (length text) most))))

-- ---- the tree, none where the store is not well formed

abbrev pub held_by : List ℕ → List ℕ → Read Function → Option Function
held_by words text (Read.got f rest) = ite (holds? words text f) (some f) none
held_by words text (Read.refused n) = none

unfoldable pub tree_of : List ℕ → List ℕ → Option Function
tree_of words text = held_by words text (stored_function text depth words)
